use Rattle.std.proofs.Common.{◌∙◌, ap, refl, arith}
use Rattle.fkv_local.proofs.WorkLemmas.{same-both, work-since, move-work}
use Rattle.fkv_local.specs.Refusing.{IsWorkRefusal}
use Rattle.fkv_local.proofs.ClearLemmas.{stays-then}
use Rattle.fkv_local.proofs.DriveLemmas.{stays-tidied}
use Rattle.fkv_local.proofs.OnwardLemmas.{onward-then}
use Rattle.fkv_local.proofs.compacting.clear.Goals as goal

pub returns-in-Err-tidy-clause-told : goal.returns-in-Err-tidy-clause-told
returns-in-Err-tidy-clause-told g c =
    let i = c.loop-record.invariant in
    let writes = ap g.D.Writer.PageWriter.failures c.relocate.ensures.same_writer ∙ i.writes in
    let reads = c.in-Ok-Waits.ensures.steady ∙ i.reads in
    work-since (same-both writes reads) (move-work c.in-Err-tidy.ensures.told refl)

pub returns-in-Err-clause-told : goal.returns-in-Err-clause-told
returns-in-Err-clause-told g c =
    let i = c.loop-record.invariant in
    work-since (same-both i.writes i.reads) c.in-Err.ensures.told

pub returns-in-Err-clause-stays : goal.returns-in-Err-clause-stays
returns-in-Err-clause-stays g c = stays-then c.loop-record.invariant.stays c.relocate.ensures.stays

pub returns-in-Err-clause-onward : goal.returns-in-Err-clause-onward
returns-in-Err-clause-onward g c = onward-then c.loop-record.invariant.onward c.relocate.ensures.onward

pub returns-in-Err-clause-passed : goal.returns-in-Err-clause-passed
returns-in-Err-clause-passed g c = record {
  past = c.relocate.ensures.passed.past;
  later = (let before = c.loop-record.invariant.later in let now = c.relocate.ensures.passed.later in omega arith);
}

pub returns-in-Err-clause-caused : goal.returns-in-Err-clause-caused
returns-in-Err-clause-caused g c = c.in-Err.ensures.caused

pub returns-in-Err-clause-same_begin : goal.returns-in-Err-clause-same_begin
returns-in-Err-clause-same_begin g c = c.relocate.ensures.same_begin ∙ c.loop-record.invariant.begin

pub returns-in-Err-tidy-clause-stays : goal.returns-in-Err-tidy-clause-stays
returns-in-Err-tidy-clause-stays g c = stays-tidied (stays-then c.loop-record.invariant.stays c.relocate.ensures.stays) c.tidy.ensures.tidied c.tidy.ensures.settled

pub returns-in-Err-tidy-clause-onward : goal.returns-in-Err-tidy-clause-onward
returns-in-Err-tidy-clause-onward g c = onward-then (onward-then c.loop-record.invariant.onward c.relocate.ensures.onward) c.tidy.ensures.onward

pub returns-in-Err-tidy-clause-passed : goal.returns-in-Err-tidy-clause-passed
returns-in-Err-tidy-clause-passed g c = record {
  past = c.tidy.ensures.passed.past;
  later = (let before = c.loop-record.invariant.later in let now = c.relocate.ensures.passed.later in let then = c.tidy.ensures.passed.later in omega arith);
}

pub returns-in-Err-tidy-clause-caused : goal.returns-in-Err-tidy-clause-caused
returns-in-Err-tidy-clause-caused g c = c.in-Err-tidy.ensures.caused

pub returns-in-Err-tidy-clause-same_begin : goal.returns-in-Err-tidy-clause-same_begin
returns-in-Err-tidy-clause-same_begin g c = c.tidy.ensures.tidied.begin ∙ c.relocate.ensures.same_begin ∙ c.loop-record.invariant.begin

pub returns-clause-told : goal.returns-clause-told
returns-clause-told g c =
    let before = c.loop-record.invariant.later in
    let all = c.loop-record-test.false in
    let last = c.loop-record.auto in
    IsWorkRefusal.no_moment refl (omega arith) (same-both c.loop-record.invariant.writes c.loop-record.invariant.reads)
