use Rattle.std.proofs.Common.{◌∙◌, ap, refl, arith}
use Rattle.fkv_records.specs.Places.{page_at}
use Rattle.fkv_local.proofs.RoomLemmas.{tidy-roomy, log-then}
use Rattle.fkv_local.proofs.StoreLemmas.{OnOk-weaker}
use Rattle.fkv_local.specs.Moving.{IsMoveRefusal}
use Rattle.fkv_local.proofs.CauseLemmas.{worn-caused}
use Rattle.fkv_local.proofs.OnwardLemmas.{onward-then}
use Rattle.fkv_local.proofs.TidiedLemmas.{passed-then, tidied-then, worn-moves, worn-only}
use Rattle.fkv_local.proofs.moving.tidy.Goals as goal

pub returns-in-Err-flush_all-clause-told : goal.returns-in-Err-flush_all-clause-told
returns-in-Err-flush_all-clause-told g c = c.in-Err-flush_all.ensures.told

pub returns-clause-roomy : goal.returns-clause-roomy
returns-clause-roomy g c = OnOk-weaker c.evict.result (λ evicted settled full.
    tidy-roomy c.args.part.now.partition c.freeze.new.partition c.flush_all.new.part.partition c.evict.new.partition c.frames-frames.result c.page_of-tail.result c.read_only_page.result c.kept_page.result
    c.frames-frames.ensures.some c.frames-frames.ensures.value (c.page_of-tail.ensures.value ∙ ap (page_at c.args.part.now.partition.records.log.bits) c.tail.ensures) c.read_only_page.ensures c.kept_page.ensures c.facts.ensures.sound.traced.regions.bits
    c.in-Ok.ensures.frozen c.freeze.ensures.settled c.freeze.ensures.same_log c.freeze.ensures.onward
    c.in-Ok-flush_all.ensures.written c.flush_all.ensures.settled c.flush_all.ensures.same_log c.flush_all.ensures.onward c.flush_all.ensures.same_offsets
    evicted c.evict.ensures.settled c.evict.ensures.same_log c.evict.ensures.onward settled full) c.evict.ensures.evicted

pub returns-in-Err-clause-same_log : goal.returns-in-Err-clause-same_log
returns-in-Err-clause-same_log g c = c.freeze.ensures.same_log

pub returns-in-Err-flush_all-clause-same_log : goal.returns-in-Err-flush_all-clause-same_log
returns-in-Err-flush_all-clause-same_log g c = log-then c.freeze.ensures.same_log c.flush_all.ensures.same_log

pub returns-clause-same_log : goal.returns-clause-same_log
returns-clause-same_log g c = log-then c.freeze.ensures.same_log (log-then c.flush_all.ensures.same_log c.evict.ensures.same_log)

pub evict-requires-clause-entered : goal.evict-requires-clause-entered
evict-requires-clause-entered g c = c.flush_all.ensures.tidied.sessions 0 ∙ c.freeze.ensures.tidied.sessions 0 ∙ c.requires.entered

pub returns-in-Err-clause-told : goal.returns-in-Err-clause-told
returns-in-Err-clause-told g c = IsMoveRefusal.worn c.in-Err.ensures.told.0 c.in-Err.ensures.told.1 refl

pub returns-in-Err-clause-caused : goal.returns-in-Err-clause-caused
returns-in-Err-clause-caused g c = λ kept. worn-caused _ _ c.in-Err.ensures.told.0

pub returns-in-Err-flush_all-clause-tidied : goal.returns-in-Err-flush_all-clause-tidied
returns-in-Err-flush_all-clause-tidied g c = tidied-then c.freeze.ensures.tidied c.flush_all.ensures.tidied

pub returns-in-Err-flush_all-clause-onward : goal.returns-in-Err-flush_all-clause-onward
returns-in-Err-flush_all-clause-onward g c = onward-then c.freeze.ensures.onward c.flush_all.ensures.onward

pub returns-in-Err-flush_all-clause-settled : goal.returns-in-Err-flush_all-clause-settled
returns-in-Err-flush_all-clause-settled g c = λ settled. c.flush_all.ensures.settled (c.freeze.ensures.settled settled)

pub returns-in-Err-flush_all-clause-passed : goal.returns-in-Err-flush_all-clause-passed
returns-in-Err-flush_all-clause-passed g c = passed-then c.freeze.ensures.passed c.flush_all.ensures.passed

pub returns-in-Err-flush_all-clause-caused : goal.returns-in-Err-flush_all-clause-caused
returns-in-Err-flush_all-clause-caused g c = c.in-Err-flush_all.ensures.caused

pub returns-clause-tidied : goal.returns-clause-tidied
returns-clause-tidied g c = tidied-then c.freeze.ensures.tidied (tidied-then c.flush_all.ensures.tidied c.evict.ensures.tidied)

pub returns-clause-onward : goal.returns-clause-onward
returns-clause-onward g c = onward-then c.freeze.ensures.onward (onward-then c.flush_all.ensures.onward c.evict.ensures.onward)

pub returns-clause-settled : goal.returns-clause-settled
returns-clause-settled g c = λ settled. c.evict.ensures.settled (c.flush_all.ensures.settled (c.freeze.ensures.settled settled))

pub returns-clause-passed : goal.returns-clause-passed
returns-clause-passed g c = passed-then c.freeze.ensures.passed (passed-then c.flush_all.ensures.passed c.evict.ensures.passed)

pub returns-clause-numbered : goal.returns-clause-numbered
returns-clause-numbered g c = let low = c.flush_all.ensures.numbered in let later = c.evict.ensures.passed.later in omega arith

pub returns-clause-caused : goal.returns-clause-caused
returns-clause-caused g c = λ kept. worn-only _ _ _ c.evict.result c.evict.ensures.told

pub returns-clause-steady : goal.returns-clause-steady
returns-clause-steady g c = OnOk-weaker c.evict.result (λ evicted. c.in-Ok-flush_all.ensures.steady) c.evict.ensures.evicted

pub returns-clause-told : goal.returns-clause-told
returns-clause-told g c = worn-moves c.evict.result _ _ _ c.in-Ok-flush_all.ensures.steady c.evict.ensures.told
