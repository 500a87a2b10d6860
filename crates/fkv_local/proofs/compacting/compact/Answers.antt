use Rattle.std.proofs.Common.{refl, ◌∙◌}
use Rattle.fkv_local.proofs.WorkLemmas.{same-both, work-since, work-until, work-later, move-work}
use Rattle.fkv_local.proofs.OnwardLemmas.{given-back, onward-then}
use Rattle.fkv_local.proofs.StoreLemmas.{OnOk-weaker}
use Rattle.fkv_local.proofs.ClearLemmas.{stays-then}
use Rattle.fkv_local.proofs.DriveLemmas.{stays-new}
use Rattle.fkv_local.proofs.TidiedLemmas.{cut-since, passed-then, worn-cut, worn-only}
use Rattle.fkv_local.proofs.compacting.compact.Goals as goal

pub returns-in-Err-clause-told : goal.returns-in-Err-clause-told
returns-in-Err-clause-told g c = move-work c.in-Err.ensures.told refl

pub returns-in-Err-cleared-clause-told : goal.returns-in-Err-cleared-clause-told
returns-in-Err-cleared-clause-told g c =
    work-until (same-both c.drop_below.ensures.steady refl) (work-since (same-both c.in-Ok.ensures.steady refl) (work-later c.cut-cut.ensures.same_tail c.cut-cut.ensures.passed.later c.in-Err-cleared.ensures.told))

pub returns-in-Ok-cleared-clause-given_back : goal.returns-in-Ok-cleared-clause-given_back
returns-in-Ok-cleared-clause-given_back g c = OnOk-weaker c.cut-cut.result (λ all whole_is.
    given-back c.args.shard.now.part.partition c.tidy.new.part.partition c.cut-cut.new.partition c.head-end.result c.clear-cleared.new.shard.part.partition.cleared c.facts.ensures.sound.traced.regions.bits c.facts-2.ensures.sound.traced.regions.bits
    c.tidy.ensures.onward c.head-end.ensures (onward-then c.clear-cleared.ensures.onward c.cut-cut.ensures.onward) (c.in-Ok-cleared.ensures.whole whole_is) c.cut-cut.ensures.onward.cleared all) c.cut-cut.ensures.whole

pub returns-in-Err-clause-stays : goal.returns-in-Err-clause-stays
returns-in-Err-clause-stays g c = stays-new c.requires.idle c.tidy.ensures.tidied c.tidy.ensures.settled

pub returns-in-Err-clause-caused : goal.returns-in-Err-clause-caused
returns-in-Err-clause-caused g c = c.in-Err.ensures.caused

pub returns-in-Ok-cleared-clause-stays : goal.returns-in-Ok-cleared-clause-stays
returns-in-Ok-cleared-clause-stays g c = stays-then (stays-new c.requires.idle c.tidy.ensures.tidied c.tidy.ensures.settled) (stays-then c.clear-cleared.ensures.stays c.cut-cut.ensures.stays)

pub returns-in-Ok-cleared-clause-passed : goal.returns-in-Ok-cleared-clause-passed
returns-in-Ok-cleared-clause-passed g c = passed-then c.tidy.ensures.passed (passed-then c.clear-cleared.ensures.passed c.cut-cut.ensures.passed)

pub returns-in-Ok-cleared-clause-onward : goal.returns-in-Ok-cleared-clause-onward
returns-in-Ok-cleared-clause-onward g c = onward-then c.tidy.ensures.onward (onward-then c.clear-cleared.ensures.onward c.cut-cut.ensures.onward)

pub returns-in-Err-cleared-clause-stays : goal.returns-in-Err-cleared-clause-stays
returns-in-Err-cleared-clause-stays g c = stays-then (stays-new c.requires.idle c.tidy.ensures.tidied c.tidy.ensures.settled) (stays-then c.clear-cleared.ensures.stays c.cut-cut.ensures.stays)

pub returns-in-Err-cleared-clause-passed : goal.returns-in-Err-cleared-clause-passed
returns-in-Err-cleared-clause-passed g c = passed-then c.tidy.ensures.passed (passed-then c.clear-cleared.ensures.passed c.cut-cut.ensures.passed)

pub returns-in-Err-cleared-clause-onward : goal.returns-in-Err-cleared-clause-onward
returns-in-Err-cleared-clause-onward g c = onward-then c.tidy.ensures.onward (onward-then c.clear-cleared.ensures.onward c.cut-cut.ensures.onward)

pub returns-in-Err-cleared-clause-caused : goal.returns-in-Err-cleared-clause-caused
returns-in-Err-cleared-clause-caused g c = c.in-Err-cleared.ensures.caused

pub returns-in-Ok-cleared-clause-caused : goal.returns-in-Ok-cleared-clause-caused
returns-in-Ok-cleared-clause-caused g c = λ kept. worn-only _ _ _ c.cut-cut.result c.cut-cut.ensures.told

pub returns-in-Ok-cleared-clause-cut : goal.returns-in-Ok-cleared-clause-cut
returns-in-Ok-cleared-clause-cut g c = cut-since c.args.shard.now.part.partition c.clear-cleared.new.shard.part.partition c.cut-cut.new.partition c.cut-cut.result (c.clear-cleared.ensures.same_begin ∙ c.tidy.ensures.tidied.begin) c.cut-cut.ensures.cut

pub returns-in-Ok-cleared-clause-steady : goal.returns-in-Ok-cleared-clause-steady
returns-in-Ok-cleared-clause-steady g c = OnOk-weaker c.cut-cut.result (λ all. same-both c.drop_below.ensures.steady refl ∙ c.in-Ok-cleared.ensures.steady ∙ same-both c.in-Ok.ensures.steady refl) c.cut-cut.ensures.whole

pub returns-in-Ok-cleared-clause-told : goal.returns-in-Ok-cleared-clause-told
returns-in-Ok-cleared-clause-told g c = worn-cut c.cut-cut.result _ _ _ _ _ (same-both c.drop_below.ensures.steady refl ∙ c.in-Ok-cleared.ensures.steady ∙ same-both c.in-Ok.ensures.steady refl) c.cut-cut.ensures.told
