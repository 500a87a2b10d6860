use Rattle.std.proofs.Common.{arith}
use Rattle.fkv_hybrid.proofs.FrameLemmas.{page_rises}
use Rattle.fkv_hybrid.proofs.PageLemmas.{the_text}
use Rattle.fkv_hybrid.proofs.FlushLemmas.{whole_with}
use Rattle.fkv_hybrid.proofs.MoveLemmas.{cut, cut_receipts, cut_seen}
use Rattle.fkv_hybrid.proofs.log.Log.truncate.Goals as goal

pub start-start-requires : goal.start-start-requires
start-start-requires g c =
    let due = rw (← c.self.view_is) at (c.is_truncation_due.ensures.0 c.if-not-is_truncation_due.false) in
    let n = c.facts.ensures.regions.in_order in
    omega (arith, due.headed, n.head, n.safe, n.most)

pub overflow_sub-more : goal.overflow_sub-more
overflow_sub-more g c =
    let i = c.self.inside in
    let due = rw (← c.self.view_is) at (c.is_truncation_due.ensures.0 c.if-not-is_truncation_due.false) in
    let low = page_rises i.shape.page_bits i.begin c.start-start.result (rw c.start-start.ensures.value (omega (arith, due.higher))) in
    rw (c.page_of.ensures, c.page_of-2.ensures) low

pub invariant_of-self-inside : goal.invariant_of-self-inside
invariant_of-self-inside g c =
    let i = c.self.inside in
    let due = rw (← c.self.view_is) at (c.is_truncation_due.ensures.0 c.if-not-is_truncation_due.false) in
    let is = c.start-start.ensures.value in
    let l = cut g.K.Fixed.codec g.V.Fixed.codec g.R.Receipt.keeps i.shape i.begin i.regions i.tail _ i.frames i.text.0.0 c.args.page c.start-start.result c.self.invariant c.facts.ensures.regions due is in
    let kept = cut_receipts g.K.Fixed.codec g.V.Fixed.codec g.R.Receipt.keeps g.R.Receipt.stands i.shape i.begin i.regions i.tail i.receipts.items c.let_go.new.receipts.items i.frames i.text.0.0 c.args.page c.start-start.result _ _
    c.self.invariant c.facts.ensures.regions due is c.page_of.ensures c.page_of-2.ensures c.let_go.ensures in
    rw kept (the_text g.K.Fixed.codec g.V.Fixed.codec _ _ g.row.K.coded g.row.V.coded _ _ _ l.pages.spelled, tt)

pub invariant_of-self : goal.invariant_of-self
invariant_of-self g c =
    let i = c.self.inside in
    let due = rw (← c.self.view_is) at (c.is_truncation_due.ensures.0 c.if-not-is_truncation_due.false) in
    let is = c.start-start.ensures.value in
    let l = cut g.K.Fixed.codec g.V.Fixed.codec g.R.Receipt.keeps i.shape i.begin i.regions i.tail _ i.frames i.text.0.0 c.args.page c.start-start.result c.self.invariant c.facts.ensures.regions due is in
    let kept = cut_receipts g.K.Fixed.codec g.V.Fixed.codec g.R.Receipt.keeps g.R.Receipt.stands i.shape i.begin i.regions i.tail i.receipts.items c.let_go.new.receipts.items i.frames i.text.0.0 c.args.page c.start-start.result _ _
    c.self.invariant c.facts.ensures.regions due is c.page_of.ensures c.page_of-2.ensures c.let_go.ensures in
    whole_with g.K.Fixed.codec g.V.Fixed.codec g.R.Receipt.keeps i.shape c.start-start.result i.regions i.tail _ _ i.frames c.self-1.given.0 _ kept l

pub returns-clause-effect : goal.returns-clause-effect
returns-clause-effect g c =
    let i = c.self.inside in
    let due = rw (← c.self.view_is) at (c.is_truncation_due.ensures.0 c.if-not-is_truncation_due.false) in
    let is = c.start-start.ensures.value in
    let l = cut g.K.Fixed.codec g.V.Fixed.codec g.R.Receipt.keeps i.shape i.begin i.regions i.tail _ i.frames i.text.0.0 c.args.page c.start-start.result c.self.invariant c.facts.ensures.regions due is in
    let kept = cut_receipts g.K.Fixed.codec g.V.Fixed.codec g.R.Receipt.keeps g.R.Receipt.stands i.shape i.begin i.regions i.tail i.receipts.items c.let_go.new.receipts.items i.frames i.text.0.0 c.args.page c.start-start.result _ _
    c.self.invariant c.facts.ensures.regions due is c.page_of.ensures c.page_of-2.ensures c.let_go.ensures in
    rw (← c.self.view_is) (cut_seen g.K.Fixed.codec g.V.Fixed.codec g.R.Receipt.keeps i.shape i.begin i.regions i.tail _ _ i.frames i.text.0.0 c.args.page c.start-start.result c.self-1.given.0 kept is l)
