use Rattle.std.proofs.Common.{None, cond, ◌+◌, ◌*◌, length, nat_lt, slice_get, sym, ap, ◌∙◌}
use Rattle.fkv_partition.specs.Contexts.{is_session, joined, on_key}
use Rattle.fkv_partition.specs.Views.{context_at, slots_of}
use Rattle.fkv_partition.proofs.AskedLemmas.{context-outside, context-entered}
use Rattle.fkv_partition.proofs.ApartLemmas.{some-all}
use Rattle.fkv_partition.proofs.partitions.Partition.open.Goals as goal

pub returns-then-not-is_entered-clause-value : goal.returns-then-not-is_entered-clause-value
returns-then-not-is_entered-clause-value g c =
    let v = c.args.self.now in
    let entered = ap (λ u. is_session (slots_of u) c.args.slot) (sym c.self.view_is) ∙ sym c.is_entered.ensures.value ∙ c.if-not-is_entered.true in
    ap on_key (context-outside (slots_of v) v.contexts c.args.slot c.args.context entered)

pub operation_at-requires-clause-session : goal.operation_at-requires-clause-session
operation_at-requires-clause-session g c = c.is_entered.ensures.within c.if-not-is_entered.false

pub operation_at-requires-clause-places : goal.operation_at-requires-clause-places
operation_at-requires-clause-places g c = ap length c.deref.ensures.value ∙ c.self.invariant.sound.places

pub returns-clause-value : goal.returns-clause-value
returns-clause-value g c =
    let slots = c.self.inside.records.log.regions.epochs.slots in
    let contexts = c.self.inside.contexts.items in
    let i = c.args.slot * 8 + c.args.context in
    c.operation_at.ensures.value
    ∙ ap (λ xs. on_key (cond (nat_lt c.args.context 8) (joined (slice_get xs i)) None)) c.deref.ensures.value
    ∙ ap on_key (context-entered slots contexts c.args.slot c.args.context (sym c.is_entered.ensures.value ∙ c.if-not-is_entered.false))
    ∙ ap (λ u. context_at u c.args.slot c.args.context) c.self.view_is

pub returns-clause-session : goal.returns-clause-session
returns-clause-session g c = some-all c.operation_at.result (c.is_entered.ensures.within c.if-not-is_entered.false)

pub returns-clause-context : goal.returns-clause-context
returns-clause-context g c = c.operation_at.ensures.context
