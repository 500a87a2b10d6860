use Rattle.std.proofs.Common.{refl, ap, Err, Some, sym}
use Rattle.fkv_functions.proofs.KeyOrder.{key_order}
use Rattle.fkv_worlds.proofs.ResultLemmas.{err_is}
use Rattle.fkv_functions.proofs.CallLemmas.{with_receipt}
use Rattle.fkv_worlds.proofs.StateLemmas.{at-index, state-take, below-by}
use Rattle.fkv_worlds.proofs.EventLemmas.{moment-behind, acts-seen, event-later, refused-state, rows}
use Rattle.fkv_worlds.proofs.PagingLemmas.{flush_slot-set, does-take, refused-take, flush_slot-there}
use Rattle.fkv_worlds.proofs.states.State.take_at.Goals as goal

pub flush_take-requires-whole : goal.flush_take-requires-whole
flush_take-requires-whole g c κs =
    let due = moment-behind c.self.view_is c.requires.due in
    with_receipt (event-later g.F.Key.Ord.cmp g.F.Functions.meaning g.F.Functions.code _ c.self.invariant c.args.partition c.args.now due c.index_mut.result.now c.index_mut.ensures.value)

pub invariant_of-self-in-Err : goal.invariant_of-self-in-Err
invariant_of-self-in-Err g c =
    let due = moment-behind c.self.view_is c.requires.due in
    refused-state g.F.Key.Ord.cmp g.F.Functions.meaning g.F.Functions.code _ c.self.invariant c.args.partition c.args.now due c.index_mut.result.now c.index_mut.ensures.value c.flush_take.new.self c.in-Err.ensures.unchanged

pub returns-in-Err : goal.returns-in-Err
returns-in-Err g c =
    let due = moment-behind c.self.view_is c.requires.due in
    record {
      effect = acts-seen c.self.view_is (refused-take g.F.Key.Ord.cmp g.F.Mergeable.parts.joined g.F.Functions.meaning g.F.Functions.code _ c.self.invariant c.args.partition c.args.now due c.index_mut.result.now c.index_mut.ensures.value c.flush_take.new.self c.in-Err.refused c.in-Err.ensures.unchanged c.in-Err.ensures.only
          (λ e. c.in-Err.ensures.due.0 (ap Err e)) (λ w. err_is _ _ (c.in-Err.ensures.due.1 w)));
    }

pub invariant_of-self : goal.invariant_of-self
invariant_of-self g c =
    let ord = g.met.F.Key.Ord in
    let known = g.met.F.Key.FixedKey in
    let order = key_order g.F.Key.PartialEq.eq g.F.Key.Ord.cmp ord.matches_eq known.exact ord.total in
    let due = moment-behind c.self.view_is c.requires.due in
    let here = at-index c.self.inside.partitions.items c.args.partition c.index_mut.result.now due.there c.index_mut.ensures.value in
    state-take g.F.Key.Ord.cmp order g.F.Functions.meaning g.F.Functions.code _ c.self.invariant c.args.now due.next c.args.partition (Some c.in-Ok.job) (flush_slot-set c.self.inside.flush_slots.items c.args.partition (record { job = Some c.in-Ok.job }) (Some c.in-Ok.job) refl) c.index_mut.result.now c.flush_take.new.self here c.in-Ok.ensures.event c.flush_take.ensures.pends

pub returns-in-Ok : goal.returns-in-Ok
returns-in-Ok g c =
    let due = moment-behind c.self.view_is c.requires.due in
    record { effect = does-take g.F.Key.Ord.cmp g.F.Mergeable.parts.joined g.F.Functions.meaning g.F.Functions.code _ c.self.invariant c.args.partition c.args.now due c.index_mut.result.now c.index_mut.ensures.value c.self.view_is c.flush_take.new.self c.in-Ok.job (flush_slot-set c.self.inside.flush_slots.items c.args.partition (record { job = Some c.in-Ok.job }) (Some c.in-Ok.job) refl) c.in-Ok.ensures.page c.in-Ok.ensures.bytes c.in-Ok.ensures.passes }

pub index_mut-requires-in-Ok : goal.index_mut-requires-in-Ok
index_mut-requires-in-Ok g c =
    let due = moment-behind c.self.view_is c.requires.due in
    below-by (sym c.self.inside.flush_slots.ok.0) (flush_slot-there c.self.inside.flush_slots.items c.args.partition (rows g.F.Key.Ord.cmp g.F.Functions.meaning g.F.Functions.code _ c.self.invariant c.args.partition c.args.now due).6)
