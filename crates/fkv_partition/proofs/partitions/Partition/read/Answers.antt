use Rattle.std.proofs.Common.{sym, subst}
use Rattle.std.proofs.lemmas.Result.{IfOk-weaker, IfErr-weaker}
use Rattle.fkv_hybrid.specs.Loads.{HasReceipt, IsHeldBy}
use Rattle.fkv_functions.proofs.CallLemmas.{with_six}
use Rattle.fkv_partition.proofs.partitions.Partition.read.Goals as goal

pub receipt-requires-whole : goal.receipt-requires-whole
receipt-requires-whole g c κs = with_six (subst (λ v. HasReceipt v.records.log.receipts c.args.page) (sym c.self.view_is) c.requires.flushed)

pub returns-clause-own : goal.returns-clause-own
returns-clause-own g c =
    let kept = subst (λ v. IsHeldBy v.records.log.receipts c.args.page (g.R.Receipt.stands c.in-Ok.receipt)) c.self.view_is c.in-Ok.ensures.stands in
    IfOk-weaker c.fetch.result _ _ (λ l is. rw (← is) at kept) c.fetch.ensures.receipt

pub returns-clause-counted : goal.returns-clause-counted
returns-clause-counted g c =
    let page = ((rw c.log.ensures at c.facts.ensures.receipts) c.args.page (g.R.Receipt.stands c.in-Ok.receipt) c.in-Ok.ensures.stands).0 in
    rw page at c.fetch.ensures.counted

pub returns-clause-caused : goal.returns-clause-caused
returns-clause-caused g c =
    let kept = c.in-Ok.ensures.stands in
    let long = ((rw c.log.ensures at c.facts.ensures.receipts) c.args.page (g.R.Receipt.stands c.in-Ok.receipt) kept).1 in
    rw (← c.self.view_is)
    (IfErr-weaker c.fetch.result _ _ (λ e fails wanted. record { receipt = c.in-Ok.receipt; own = kept; long = long; fails = rw (c.page_size.ensures, c.shape.ensures.bits, c.log-2.ensures) at (fails wanted) }) c.fetch.ensures.caused)
