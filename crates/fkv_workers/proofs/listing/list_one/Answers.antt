use Rattle.std.proofs.Common.{inl, inr}
use Rattle.std.proofs.lemmas.Result.{IfOk-weaker, IfErr-weaker}
use Rattle.fkv_workers.proofs.ListingLemmas.{run_made}
use Rattle.fkv_workers.proofs.listing.list_one.Goals as goal

pub returns-clause-ok : goal.returns-clause-ok
returns-clause-ok g c =
    IfOk-weaker c.of_home.result _ _
    (λ run is.
    run_made g.D.Receipt.Receipt.keeps g.F.Functions.code c.args.part.partition c.number-number.result c.count-count.result c.in-Ok.map.entries run
    c.number-number.ensures c.count-count.ensures is c.len-ordered.ensures.ordered (λ kept. c.in-Ok.ensures.list kept))
    c.of_home.ensures.ok

pub returns-in-Err-clause-refused : goal.returns-in-Err-clause-refused
returns-in-Err-clause-refused g c =
    inr (record { now = c.in-Err.ensures.refused.0; scan = c.in-Err.ensures.refused.1; caused = c.in-Err.ensures.caused })

pub returns-clause-refused : goal.returns-clause-refused
returns-clause-refused g c = IfErr-weaker c.of_home.result _ _ (λ why is. inl is) c.of_home.ensures.only

pub returns-clause-only : goal.returns-clause-only
returns-clause-only g c = IfErr-weaker c.of_home.result _ _ (λ why is. rw is tt) c.of_home.ensures.only
