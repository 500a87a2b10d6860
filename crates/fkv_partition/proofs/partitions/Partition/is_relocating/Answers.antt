use Rattle.std.proofs.Common.{None, cond, is_some, ◌+◌, ◌*◌, length, nat_lt, slice_get, sym, ap, ◌∙◌}
use Rattle.fkv_partition.specs.Contexts.{is_session, joined, relocating}
use Rattle.fkv_partition.specs.Views.{relocation_at, slots_of}
use Rattle.fkv_partition.proofs.AskedLemmas.{context-outside, context-entered}
use Rattle.fkv_partition.proofs.partitions.Partition.is_relocating.Goals as goal

pub returns-then-not-is_entered : goal.returns-then-not-is_entered
returns-then-not-is_entered g c =
    let v = c.args.self.now in
    let entered = ap (λ u. is_session (slots_of u) c.args.slot) (sym c.self.view_is) ∙ sym c.is_entered.ensures.value ∙ c.if-not-is_entered.true in
    ap (λ o. is_some (relocating o)) (context-outside (slots_of v) v.contexts c.args.slot c.args.context entered)

pub holds_relocation-requires-clause-session : goal.holds_relocation-requires-clause-session
holds_relocation-requires-clause-session g c = c.is_entered.ensures.within c.if-not-is_entered.false

pub holds_relocation-requires-clause-places : goal.holds_relocation-requires-clause-places
holds_relocation-requires-clause-places g c = ap length c.deref.ensures.value ∙ c.self.invariant.sound.places

pub returns : goal.returns
returns g c =
    let slots = c.self.inside.records.log.regions.epochs.slots in
    let contexts = c.self.inside.contexts.items in
    let i = c.args.slot * 8 + c.args.context in
    c.holds_relocation.ensures
    ∙ ap (λ xs. is_some (relocating (cond (nat_lt c.args.context 8) (joined (slice_get xs i)) None))) c.deref.ensures.value
    ∙ ap (λ o. is_some (relocating o)) (context-entered slots contexts c.args.slot c.args.context (sym c.is_entered.ensures.value ∙ c.if-not-is_entered.false))
    ∙ ap (λ u. is_some (relocation_at u c.args.slot c.args.context)) c.self.view_is
