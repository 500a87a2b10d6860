use Rattle.std.proofs.Common.{sym}
use Rattle.fkv_feed_rows.proofs.RecordLemmas.{two, no_first, no_second, no_third}
use Rattle.fkv_feed_rows.proofs.rows.two_fields.Goals as goal

pub returns-in_default-clause-none : goal.returns-in_default-clause-none
returns-in_default-clause-none c = λ k a e. no_first _ k a c.in_default.ensures.value e

pub returns-in_default-get-clause-none : goal.returns-in_default-get-clause-none
returns-in_default-get-clause-none c = λ k a e. no_second _ k a c.in_default-get.ensures.value e

pub returns-in-Some-get-2-clause-none : goal.returns-in-Some-get-2-clause-none
returns-in-Some-get-2-clause-none c = λ k a e. no_third _ k a _ c.in-Some-get-2.ensures.value e

pub returns-in-None-clause-found : goal.returns-in-None-clause-found
returns-in-None-clause-found c = two _ _ _ (sym c.in-Some.ensures.value) (sym c.in-Some-get.ensures.value) (sym c.in-None.ensures.value)
