use Rattle.std.proofs.Common.{ap, arith}
use Rattle.std.proofs.lemmas.Result.{IfErr-weaker}
use Rattle.fkv_local.proofs.RelocateLemmas.{issued, not-issued}
use Rattle.fkv_local.proofs.WorkLemmas.{work-later}
use Rattle.fkv_local.proofs.compacting.relocate.Goals as goal

pub go_on-told-requires-clause-fresh : goal.go_on-told-requires-clause-fresh
go_on-told-requires-clause-fresh g c = issued c.requires.idle c.facts.ensures.sound.places (rw c.in-Ok-issue.is at c.issue.ensures.effect)

pub returns-clause-told : goal.returns-clause-told
returns-clause-told g c = IfErr-weaker c.go_on-told.result _ _ (λ e. work-later (ap (λ r. r.log.tail) c.give_up.ensures.same_records) c.give_up.ensures.passed.later) c.go_on-told.ensures.told

pub unreachable-requires : goal.unreachable-requires
unreachable-requires g c = c.in_default.not-NotDue (not-issued c.requires.idle (rw c.in-Err-issue.is at c.issue.ensures.effect))

pub returns-clause-caused : goal.returns-clause-caused
returns-clause-caused g c = c.go_on-told.ensures.caused

pub returns-clause-passed : goal.returns-clause-passed
returns-clause-passed g c = record {
  past = c.give_up.ensures.passed.past;
  later = (let now = c.in-Ok.ensures.ok in let went = c.go_on-told.ensures.passed.later in let gave = c.give_up.ensures.passed.later in omega arith);
}
