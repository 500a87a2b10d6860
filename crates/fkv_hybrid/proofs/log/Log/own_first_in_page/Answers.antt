use Rattle.std.proofs.Common.{◌∙◌, ℕ, List, length, sym, ap, subst, arith}
use Rattle.fkv_hybrid.specs.Spelled.{IsEntryIn}
use Rattle.fkv_hybrid.proofs.PageLemmas.{if_err, text_rises}
use Rattle.fkv_hybrid.proofs.ReadLemmas.{entries_in, one_entry_in, entry_falls, reached_is, reached_refused}
use Rattle.fkv_hybrid.proofs.log.Log.own_first_in_page.Goals as goal

pub reached_in-requires-clause-sized : goal.reached_in-requires-clause-sized
reached_in-requires-clause-sized g c =
    let own = rw (← c.self.view_is) at c.requires.own in
    let sized = rw c.receipt-receipt.ensures.receipt at c.receipt-receipt.ensures.length in
    ap length c.bytes.ensures ∙ sym sized ∙ c.self.invariant.pages.flushed.sized _ _ own

pub returns-clause-kept : goal.returns-clause-kept
returns-clause-kept g c = λ keeps es chain.
    let i = c.self.inside in
    let bits = i.shape.page_bits in
    let page = c.args.page in
    let floor = rw (← c.self.view_is) at c.requires.floor in
    let s = g.R.Receipt.stands c.args.loaded.now.receipt in
    let is = rw c.receipt-receipt.ensures.receipt at c.receipt-receipt.ensures.kept in
    let bytes = is keeps ∙ sym c.bytes.ensures in
    let entry = IsEntryIn g.K.Fixed.codec g.V.Fixed.codec bits c.bytes.result.now in
    let reach = c.reached_in.ensures in
    let chained = rw (← c.self.view_is) at chain in
    let own = rw (← c.self.view_is) at c.requires.own in
    let within = rw (← c.self.view_is) at c.requires.within in
    reached_is g.K.Fixed.codec g.V.Fixed.codec entry g.K.Ord.cmp c.args.key.now bits c.args.low c.args.from i.text.0.0
    (text_rises g.K.Fixed.codec g.V.Fixed.codec g.R.Receipt.keeps i.shape i.begin i.regions.offsets.closed i.regions.offsets.safe_read_only i.tail _ i.frames i.text.0.0 c.self.invariant.pages)
    (λ b d e h j. one_entry_in g.K.Fixed.codec g.V.Fixed.codec bits c.bytes.result.now b d e h j)
    (λ b e h. entry_falls g.K.Fixed.codec g.V.Fixed.codec bits i.shape.record_size c.bytes.result.now b e i.shape.limits c.self.invariant.pages.size h)
    (λ b e under high is. subst (λ (x : List ℕ). IsEntryIn g.K.Fixed.codec g.V.Fixed.codec bits x b e) bytes (entries_in g.K.Fixed.codec g.V.Fixed.codec g.R.Receipt.keeps i.shape i.begin i.regions.offsets.closed i.regions.offsets.safe_read_only i.tail _ i.frames i.text.0.0 c.args.from page s c.self.invariant.pages keeps own within b e (omega (arith, floor, under)) high is))
    c.args.from es c.reached_in.result (omega arith) chained reach

pub returns-clause-read : goal.returns-clause-read
returns-clause-read g c = rw (← c.self.view_is, ← c.bytes.ensures) c.reached_in.ensures

pub returns-clause-damaged : goal.returns-clause-damaged
returns-clause-damaged g c =
    let i = c.self.inside in
    let bits = i.shape.page_bits in
    let page = c.args.page in
    let floor = rw (← c.self.view_is) at c.requires.floor in
    let entry = IsEntryIn g.K.Fixed.codec g.V.Fixed.codec bits c.bytes.result.now in
    let reach = c.reached_in.ensures in
    let within = rw (← c.self.view_is) at c.requires.within in
    if_err c.reached_in.result (λ why is.
    reached_refused entry g.K.Ord.cmp c.args.key.now bits page c.args.low why
    (λ b e h. entry_falls g.K.Fixed.codec g.V.Fixed.codec bits i.shape.record_size c.bytes.result.now b e i.shape.limits c.self.invariant.pages.size h)
    floor c.args.from c.reached_in.result within reach is)
