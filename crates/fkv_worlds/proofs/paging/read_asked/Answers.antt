use Rattle.std.proofs.Common.{◌≡◌, Some, slice_get, sym, ◌∙◌, ap, arith, subst}
use Rattle.fkv_worlds.specs.Devices.{Comes}
use Rattle.fkv_worlds.proofs.Naming.{stands}
use Rattle.fkv_worlds.proofs.StateLemmas.{at-index, is_context-bounds, receipt-is, receipt-context}
use Rattle.fkv_worlds.proofs.paging.read_asked.Goals as goal

pub returns : goal.returns
returns c = record {
  came = λ receipt h. (let on = receipt-context c.args.receipts.now c.args.place receipt h in
      let within = is_context-bounds c.args.place on in
      let row = c.row_of.ensures in
      let rows = c.requires.rows in
      let mine = receipt-is c.args.receipts.now c.args.place c.index-receipts-row_of.result on
      (ap (slice_get c.args.receipts.now) (sym row) ∙ at-index c.args.receipts.now c.row_of.result c.index-receipts-row_of.result (omega arith) c.index-receipts-row_of.is) in
      let both : Some c.in-Some.receipt ≡ Some receipt = sym c.in-Some.is ∙ sym mine ∙ h in
      let same : c.in-Some.receipt ≡ receipt = cc in
      subst (λ r. Comes stands r c.args.access c.read.result) same c.read.ensures);
}
