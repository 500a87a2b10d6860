use Rattle.std.proofs.Common.{◌∙◌, ◌+◌, ◌*◌, length, position, is_some, slice_range, ap}
use Rattle.fkv_partition.specs.Contexts.{relocating}
use Rattle.fkv_partition.proofs.partitions.Partition.first_relocation.Goals as goal

pub relocating_context-requires-clause-places : goal.relocating_context-requires-clause-places
relocating_context-requires-clause-places g c = ap length c.deref.ensures.value ∙ c.self.invariant.sound.places

pub returns : goal.returns
returns g c =
    c.relocating_context.ensures.value
    ∙ ap (λ xs. position (λ o. is_some (relocating o)) (slice_range xs (c.args.slot * 8) (c.args.slot * 8 + 8))) c.deref.ensures.value
    ∙ ap (λ u. position (λ o. is_some (relocating o)) (slice_range u.contexts (c.args.slot * 8) (c.args.slot * 8 + 8))) c.self.view_is
