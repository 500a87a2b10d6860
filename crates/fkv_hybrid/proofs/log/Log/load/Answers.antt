use Rattle.std.proofs.Common.{◌∙◌, ap}
use Rattle.std.proofs.lemmas.Result.{IfErr-weaker}
use Rattle.fkv_hybrid.proofs.ScanLemmas.{if_ok}
use Rattle.fkv_hybrid.proofs.log.Log.load.Goals as goal

pub returns-clause-page : goal.returns-clause-page
returns-clause-page g c =
    let page = (c.facts.ensures.receipts c.args.page (g.R.Receipt.stands c.in-Ok.receipt) c.in-Ok.ensures.stands).0 in
    if_ok c.fetch.result c.fetch.ensures.receipt (λ l is. ap (λ s. s.page) is ∙ page)

pub returns-clause-counted : goal.returns-clause-counted
returns-clause-counted g c =
    let page = (c.facts.ensures.receipts c.args.page (g.R.Receipt.stands c.in-Ok.receipt) c.in-Ok.ensures.stands).0 in
    rw page at c.fetch.ensures.counted

pub returns-clause-caused : goal.returns-clause-caused
returns-clause-caused g c =
    let kept = c.in-Ok.ensures.stands in
    let long = (c.facts.ensures.receipts c.args.page (g.R.Receipt.stands c.in-Ok.receipt) kept).1 in
    IfErr-weaker c.fetch.result _ _ (λ e fails wanted. record { receipt = c.in-Ok.receipt; own = kept; long = long; fails = rw (c.page_size.ensures, c.shape.ensures.bits) at (fails wanted) }) c.fetch.ensures.caused
