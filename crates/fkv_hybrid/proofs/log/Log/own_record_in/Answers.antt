use Rattle.std.proofs.Common.{◌∙◌, List, length, sym, ap, subst}
use Rattle.fkv_texts.specs.Text.{entry_at}
use Rattle.fkv_hybrid.specs.Spelled.{IsEntryIn}
use Rattle.fkv_hybrid.proofs.PageLemmas.{if_some}
use Rattle.fkv_hybrid.proofs.ReadLemmas.{entry_in}
use Rattle.fkv_hybrid.proofs.log.Log.own_record_in.Goals as goal

pub entry_in-requires-clause-sized : goal.entry_in-requires-clause-sized
entry_in-requires-clause-sized g c =
    let own = rw (← c.self.view_is) at c.requires.own in
    let sized = rw c.receipt-receipt.ensures.receipt at c.receipt-receipt.ensures.length in
    ap length c.bytes.ensures ∙ sym sized ∙ c.self.invariant.pages.flushed.sized _ _ own

pub returns-clause-kept : goal.returns-clause-kept
returns-clause-kept g c = λ keeps.
    let i = c.self.inside in
    let is = rw c.receipt-receipt.ensures.receipt at c.receipt-receipt.ensures.kept in
    let bytes = is keeps ∙ sym c.bytes.ensures in
    rw (← c.self.view_is) (if_some (entry_at i.text.0.0 c.args.address) (λ e at_it.
    c.entry_in.ensures.found e (subst (λ (b : List _). IsEntryIn g.K.Fixed.codec g.V.Fixed.codec i.shape.page_bits b c.args.address e) bytes
    (entry_in g.K.Fixed.codec g.V.Fixed.codec g.R.Receipt.keeps i.shape i.begin i.regions.offsets.closed i.regions.offsets.safe_read_only i.tail _ i.frames i.text.0.0 c.args.address (g.R.Receipt.stands c.args.loaded.now.receipt) e c.self.invariant.pages keeps (rw (← c.self.view_is) at c.requires.own) at_it))))
