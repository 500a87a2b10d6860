use Rattle.std.proofs.Common.{None, cond, ◌+◌, ◌*◌, length, nat_lt, slice_get, sym, ap, ◌∙◌}
use Rattle.fkv_partition.specs.Contexts.{is_session, joined, relocating}
use Rattle.fkv_partition.specs.Views.{relocation_at, slots_of}
use Rattle.fkv_partition.proofs.AskedLemmas.{context-outside, context-entered}
use Rattle.fkv_partition.proofs.ApartLemmas.{some-all}
use Rattle.fkv_partition.proofs.partitions.Partition.relocation.Goals as goal

pub returns-then-not-is_entered-clause-value : goal.returns-then-not-is_entered-clause-value
returns-then-not-is_entered-clause-value g c =
    let v = c.args.self.now in
    let entered = ap (λ u. is_session (slots_of u) c.args.slot) (sym c.self.view_is) ∙ sym c.is_entered.ensures.value ∙ c.if-not-is_entered.true in
    ap relocating (context-outside (slots_of v) v.contexts c.args.slot c.args.context entered)

pub relocation_at-requires-clause-session : goal.relocation_at-requires-clause-session
relocation_at-requires-clause-session g c = c.is_entered.ensures.within c.if-not-is_entered.false

pub relocation_at-requires-clause-places : goal.relocation_at-requires-clause-places
relocation_at-requires-clause-places g c = ap length c.deref.ensures.value ∙ c.self.invariant.sound.places

pub returns-clause-value : goal.returns-clause-value
returns-clause-value g c =
    let slots = c.self.inside.records.log.regions.epochs.slots in
    let contexts = c.self.inside.contexts.items in
    let i = c.args.slot * 8 + c.args.context in
    c.relocation_at.ensures.value
    ∙ ap (λ xs. relocating (cond (nat_lt c.args.context 8) (joined (slice_get xs i)) None)) c.deref.ensures.value
    ∙ ap relocating (context-entered slots contexts c.args.slot c.args.context (sym c.is_entered.ensures.value ∙ c.if-not-is_entered.false))
    ∙ ap (λ u. relocation_at u c.args.slot c.args.context) c.self.view_is

pub returns-clause-session : goal.returns-clause-session
returns-clause-session g c = some-all c.relocation_at.result (c.is_entered.ensures.within c.if-not-is_entered.false)

pub returns-clause-context : goal.returns-clause-context
returns-clause-context g c = c.relocation_at.ensures.context
