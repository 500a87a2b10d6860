use Rattle.std.proofs.Common.{None, sym}
use Rattle.fkv_functions.proofs.KeyOrder.{key_order}
use Rattle.fkv_lives.specs.declared.steps.Step.TheVariants.{Write}
use Rattle.fkv_functions.proofs.CallLemmas.{with_receipt}
use Rattle.fkv_worlds.proofs.StateLemmas.{some-at, index-of, state-used, below-by}
use Rattle.fkv_worlds.proofs.ActsLemmas.{asked-behind}
use Rattle.fkv_worlds.proofs.EventLemmas.{moment-behind, rows, event-later, refused-state, quiet-state}
use Rattle.fkv_worlds.proofs.PagingLemmas.{flush_slot-there, flush_slot-job, flush_slot-set, job-there, job-some, spoils-unwritten, spoils-strange, does-write}
use Rattle.fkv_worlds.proofs.states.State.write_at.Goals as goal

pub write-requires : goal.write-requires
write-requires g c =
    let due = moment-behind c.self.view_is c.requires.due in
    let has = flush_slot-job c.self.inside.flush_slots.items c.args.partition c.index_mut.result.now (rows g.F.Key.Ord.cmp g.F.Functions.meaning g.F.Functions.code _ c.self.invariant c.args.partition c.args.now due).6 c.index_mut.ensures.value in
    job-some has (asked-behind c.self.view_is (Write c.args.partition c.args.access) c.requires.asked)

pub flush_done-requires-whole : goal.flush_done-requires-whole
flush_done-requires-whole g c κs =
    let due = moment-behind c.self.view_is c.requires.due in
    with_receipt (event-later g.F.Key.Ord.cmp g.F.Functions.meaning g.F.Functions.code _ c.self.invariant c.args.partition c.args.now due c.index_mut-in-Ok.result.now c.index_mut-in-Ok.ensures.value)

pub invariant_of-self : goal.invariant_of-self
invariant_of-self g c =
    let ord = g.met.F.Key.Ord in
    let known = g.met.F.Key.FixedKey in
    let order = key_order g.F.Key.PartialEq.eq g.F.Key.Ord.cmp ord.matches_eq known.exact ord.total in
    let due = moment-behind c.self.view_is c.requires.due in
    state-used g.F.Key.Ord.cmp g.F.Functions.meaning g.F.Functions.code _ (quiet-state g.F.Key.Ord.cmp g.F.Functions.meaning g.F.Functions.code _ c.self.invariant c.args.partition c.args.now due c.index_mut-in-Ok.result.now c.index_mut-in-Ok.ensures.value c.flush_done.new.self order c.in-Ok-flush_done.ensures.event c.flush_done.ensures.pends) c.args.partition None (flush_slot-set c.self.inside.flush_slots.items c.args.partition c.write.new.self None c.write.ensures.used)

pub invariant_of-self-in-Err-flush_done : goal.invariant_of-self-in-Err-flush_done
invariant_of-self-in-Err-flush_done g c =
    let due = moment-behind c.self.view_is c.requires.due in
    state-used g.F.Key.Ord.cmp g.F.Functions.meaning g.F.Functions.code _ (refused-state g.F.Key.Ord.cmp g.F.Functions.meaning g.F.Functions.code _ c.self.invariant c.args.partition c.args.now due c.index_mut-in-Ok.result.now c.index_mut-in-Ok.ensures.value c.flush_done.new.self c.in-Err-flush_done.ensures.unchanged) c.args.partition None (flush_slot-set c.self.inside.flush_slots.items c.args.partition c.write.new.self None c.write.ensures.used)

pub invariant_of-self-in-Err : goal.invariant_of-self-in-Err
invariant_of-self-in-Err g c = state-used g.F.Key.Ord.cmp g.F.Functions.meaning g.F.Functions.code _ c.self.invariant c.args.partition None (flush_slot-set c.self.inside.flush_slots.items c.args.partition c.write.new.self None c.write.ensures.used)

pub returns-in-Ok-flush_done : goal.returns-in-Ok-flush_done
returns-in-Ok-flush_done g c =
    let due = moment-behind c.self.view_is c.requires.due in
    let has = flush_slot-job c.self.inside.flush_slots.items c.args.partition c.index_mut.result.now (rows g.F.Key.Ord.cmp g.F.Functions.meaning g.F.Functions.code _ c.self.invariant c.args.partition c.args.now due).6 c.index_mut.ensures.value in
    let asked = asked-behind c.self.view_is (Write c.args.partition c.args.access) c.requires.asked in
    let job = job-there has asked in
    let w = c.in-Ok.ensures.written job.0 job.2 in
    record {
      effect = does-write g.F.Key.Ord.cmp g.F.Mergeable.parts.joined g.F.Functions.meaning g.F.Functions.code _ c.self.invariant c.args.partition c.args.now due c.index_mut-in-Ok.result.now c.index_mut-in-Ok.ensures.value c.self.view_is (flush_slot-set c.self.inside.flush_slots.items c.args.partition c.write.new.self None c.write.ensures.used) c.args.access job.0 asked job.1
          c.flush_done.new.self _ _ w.0 w.1 w.2 c.page-page.result c.page-page.ensures c.in-Ok-flush_done.ensures.effect c.in-Ok-flush_done.ensures.event;
    }

pub returns-in-Err-flush_done : goal.returns-in-Err-flush_done
returns-in-Err-flush_done g c =
    let due = moment-behind c.self.view_is c.requires.due in
    let has = flush_slot-job c.self.inside.flush_slots.items c.args.partition c.index_mut.result.now (rows g.F.Key.Ord.cmp g.F.Functions.meaning g.F.Functions.code _ c.self.invariant c.args.partition c.args.now due).6 c.index_mut.ensures.value in
    let asked = asked-behind c.self.view_is (Write c.args.partition c.args.access) c.requires.asked in
    let job = job-there has asked in
    let w = c.in-Ok.ensures.written job.0 job.2 in
    record {
      effect = spoils-strange g.F.Key.Ord.cmp g.F.Mergeable.parts.joined g.F.Functions.meaning g.F.Functions.code _ c.self.invariant c.args.partition c.args.now due c.index_mut-in-Ok.result.now c.index_mut-in-Ok.ensures.value c.self.view_is (flush_slot-set c.self.inside.flush_slots.items c.args.partition c.write.new.self None c.write.ensures.used) c.args.access job.0 asked job.1
          c.flush_done.new.self _ _ w.0 w.1 w.2 c.in-Err-flush_done.refused c.in-Err-flush_done.ensures.unchanged c.in-Err-flush_done.ensures.effect;
    }

pub returns-in-Err : goal.returns-in-Err
returns-in-Err g c =
    let due = moment-behind c.self.view_is c.requires.due in
    let has = flush_slot-job c.self.inside.flush_slots.items c.args.partition c.index_mut.result.now (rows g.F.Key.Ord.cmp g.F.Functions.meaning g.F.Functions.code _ c.self.invariant c.args.partition c.args.now due).6 c.index_mut.ensures.value in
    let asked = asked-behind c.self.view_is (Write c.args.partition c.args.access) c.requires.asked in
    let job = job-there has asked in
    let held = some-at c.self.inside.partitions.items c.args.partition due.there in
    record { effect = spoils-unwritten g.F.Key.Ord.cmp g.F.Mergeable.parts.joined g.F.Functions.meaning g.F.Functions.code _ c.self.invariant c.args.partition c.args.now due held.0 (index-of c.self.inside.partitions.items c.args.partition held.0 held.1) c.self.view_is (flush_slot-set c.self.inside.flush_slots.items c.args.partition c.write.new.self None c.write.ensures.used) c.args.access job.0 asked job.1 c.in-Err.refused (c.in-Err.ensures.unwritten job.0 job.2) }

pub index_mut-requires : goal.index_mut-requires
index_mut-requires g c =
    let due = moment-behind c.self.view_is c.requires.due in
    below-by (sym c.self.inside.flush_slots.ok.0) (flush_slot-there c.self.inside.flush_slots.items c.args.partition (rows g.F.Key.Ord.cmp g.F.Functions.meaning g.F.Functions.code _ c.self.invariant c.args.partition c.args.now due).6)
