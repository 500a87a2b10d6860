use Rattle.std.proofs.Common.{◌∙◌, sym}
use Rattle.fkv_hybrid.specs.Pages.{view_as}
use Rattle.fkv_hybrid.proofs.FlushLemmas.{lowest_waits, refusal_is}
use Rattle.fkv_hybrid.proofs.log.Log.flush_refusal.Goals as goal

pub returns : goal.returns
returns g c =
    let i = c.self.inside in
    let count = rw (← c.self.view_is) at c.unflushed-page.ensures in
    let due = rw (← c.self.view_is) at (c.is_flush_due.ensures.due c.if-not-is_flush_due.false) in
    let waits = lowest_waits g.K.Fixed.codec g.V.Fixed.codec g.R.Receipt.keeps i.shape i.begin i.regions.offsets.closed i.regions.offsets.safe_read_only i.tail _ i.frames i.text.0.0 c.bytes.result.now c.self.invariant.pages due (rw count at c.bytes.ensures.value) in
    let page = sym c.page.ensures ∙ c.if-page.false ∙ count in
    c.refusal_of_bytes.ensures ∙ rw (c.bytes-2.ensures, ← c.self.view_is) (sym (refusal_is (view_as g.R.Receipt.keeps i.shape i.begin i.regions i.tail _ i.frames i.text.0.0) _ c.args.written.now.bytes c.bytes.result.now _ page waits))
