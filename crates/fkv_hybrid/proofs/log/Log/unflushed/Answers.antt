use Rattle.std.proofs.Common.{map, arith}
use Rattle.std.proofs.lemmas.Grind.{common_steps}
use Rattle.std.proofs.lemmas.List.{length-map}
use Rattle.fkv_records.specs.Places.{page_at}
use Rattle.fkv_hybrid.proofs.ReceiptLemmas.{from-length}
use Rattle.fkv_hybrid.proofs.log.Log.unflushed.Goals as goal

pub returns : goal.returns
returns g c =
    let i = c.self.inside in
    let count = length-map i.receipts.items g.R.Receipt.stands in
    rw (← c.self.view_is, from-length (page_at i.shape.page_bits i.begin) (map g.R.Receipt.stands i.receipts.items), count) (grind (arith, common_steps))
