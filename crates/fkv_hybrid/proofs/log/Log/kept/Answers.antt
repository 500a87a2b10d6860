use Rattle.fkv_records.specs.Places.{page_at}
use Rattle.fkv_hybrid.proofs.ReceiptLemmas.{kept-is}
use Rattle.fkv_hybrid.proofs.log.Log.kept.Goals as goal

pub returns : goal.returns
returns g c =
    let i = c.self.inside in
    rw (← c.self.view_is) (kept-is g.R.Receipt.stands (page_at i.shape.page_bits i.begin) c.args.page i.receipts.items c.index.result.now (rw (← c.self.view_is) at c.requires) (rw c.page_of-first.ensures at c.index.ensures))
