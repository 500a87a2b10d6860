use Rattle.std.proofs.Common.{ap, ◌∙◌, arith}
use Rattle.fkv_local.proofs.WorkLemmas.{same-both, work-since}
use Rattle.fkv_local.proofs.ClearLemmas.{but-then}
use Rattle.fkv_local.proofs.OnwardLemmas.{onward-then}
use Rattle.fkv_local.proofs.compacting.go_on.Goals as goal

pub returns-in-Err-clause-told : goal.returns-in-Err-clause-told
returns-in-Err-clause-told g c =
    let i = c.loop-event.invariant in
    work-since (same-both (ap g.D.Writer.PageWriter.failures i.writer) i.reads) c.in-Err.ensures.told

pub returns-in-Err-clause-stays : goal.returns-in-Err-clause-stays
returns-in-Err-clause-stays g c = but-then c.loop-event.invariant.stays c.event.ensures.stays

pub returns-in-Err-clause-onward : goal.returns-in-Err-clause-onward
returns-in-Err-clause-onward g c = onward-then c.loop-event.invariant.onward c.event.ensures.onward

pub returns-in-Err-clause-passed : goal.returns-in-Err-clause-passed
returns-in-Err-clause-passed g c = record {
  past = c.event.ensures.passed.past;
  later = (let before = c.loop-event.invariant.later in let now = c.event.ensures.passed.later in omega arith);
}

pub returns-in-Err-clause-same_writer : goal.returns-in-Err-clause-same_writer
returns-in-Err-clause-same_writer g c = c.event.ensures.same_writer ∙ c.loop-event.invariant.writer

pub returns-in-Err-clause-same_begin : goal.returns-in-Err-clause-same_begin
returns-in-Err-clause-same_begin g c = c.event.ensures.same_begin ∙ c.loop-event.invariant.begin

pub returns-in-Ok-Done-clause-stays : goal.returns-in-Ok-Done-clause-stays
returns-in-Ok-Done-clause-stays g c = but-then c.loop-event.invariant.stays c.event.ensures.stays

pub returns-in-Ok-Done-clause-onward : goal.returns-in-Ok-Done-clause-onward
returns-in-Ok-Done-clause-onward g c = onward-then c.loop-event.invariant.onward c.event.ensures.onward

pub returns-in-Ok-Done-clause-passed : goal.returns-in-Ok-Done-clause-passed
returns-in-Ok-Done-clause-passed g c = record {
  past = c.event.ensures.passed.past;
  later = (let before = c.loop-event.invariant.later in let now = c.event.ensures.passed.later in omega arith);
}

pub returns-in-Ok-Done-clause-same_writer : goal.returns-in-Ok-Done-clause-same_writer
returns-in-Ok-Done-clause-same_writer g c = c.event.ensures.same_writer ∙ c.loop-event.invariant.writer

pub returns-in-Ok-Done-clause-same_begin : goal.returns-in-Ok-Done-clause-same_begin
returns-in-Ok-Done-clause-same_begin g c = c.event.ensures.same_begin ∙ c.loop-event.invariant.begin

pub returns-in-Err-clause-caused : goal.returns-in-Err-clause-caused
returns-in-Err-clause-caused g c = c.in-Err.ensures.caused

pub returns-in-Ok-Done-clause-steady : goal.returns-in-Ok-Done-clause-steady
returns-in-Ok-Done-clause-steady g c = c.in-Ok-Done.ensures.steady ∙ c.loop-event.invariant.reads
