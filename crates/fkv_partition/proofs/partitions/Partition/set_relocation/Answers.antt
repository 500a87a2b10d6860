use Rattle.std.proofs.Common.{◌≡◌, ◌+◌, ◌*◌, None, slice_get, Some, subst}
use Rattle.fkv_partition.specs.Contexts.{joined, on_key}
use Rattle.fkv_partition.proofs.SoundLemmas.{sound-with_relocation}
use Rattle.fkv_partition.proofs.AskedLemmas.{keyless-claims}
use Rattle.fkv_partition.proofs.WholeLemmas.{whole-set}
use Rattle.fkv_partition.specs.Inside.{view_of}
use Rattle.fkv_partition.specs.Stages.{RelocationStands}
use Rattle.fkv_partition.specs.declared.contexts.OpenWork.TheVariants.{Relocating}
use Rattle.fkv_partition.proofs.partitions.Partition.set_relocation.Goals as goal

pub invariant_of-self : goal.invariant_of-self
invariant_of-self g c =
    let v = (view_of g.F.Mergeable.MERGES c.self.inside.number c.self.inside.count c.self.inside.records c.self.inside.contexts.items c.self.inside.moment c.self.inside.cleared) in
    let keyless : on_key (joined (slice_get c.self.inside.contexts.items (c.args.slot * 8 + c.args.context))) ≡ None = rw (← c.self.view_is) at c.requires.keyless in
    let stands : RelocationStands g.R.Receipt.keeps g.F.Key.Ord.cmp g.F.Mergeable.parts.joined g.F.Functions.code v v.cleared c.args.relocation = rw (← c.self.view_is) at c.requires.stands in
    rw c.set_context.ensures
    (whole-set v c.self.invariant (c.args.slot * 8 + c.args.context) c.args.now (Some (Relocating c.args.relocation))
    (λ x e. (let same : c.args.relocation ≡ x = cc in subst (RelocationStands g.R.Receipt.keeps g.F.Key.Ord.cmp g.F.Mergeable.parts.joined g.F.Functions.code v v.cleared) same stands))
    (sound-with_relocation c.self.invariant.sound c.args.slot c.args.context c.args.now c.args.relocation (keyless-claims _ keyless)
    (record { inside = rw (← c.self.view_is) at c.requires.entered; low = c.requires.context })))
