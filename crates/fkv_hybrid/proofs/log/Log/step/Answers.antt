use Rattle.fkv_texts.proofs.PlaceLemmas.{entry_found}
use Rattle.std.proofs.Common.{◌<◌, length, arith}
use Rattle.fkv_records.specs.Places.{page_at}
use Rattle.fkv_hybrid.proofs.ScanLemmas.{in_frame, not_closed, has_receipt, goes_on, own_page}
use Rattle.fkv_hybrid.proofs.log.Log.step.Goals as goal

pub record_at-requires-clause-there : goal.record_at-requires-clause-there
record_at-requires-clause-there g c =
    let s = rw (← c.scan.view_is) at c.requires.scan in
    let more = rw (← c.scan.view_is) at c.requires.more in
    let high = rw (c.unflushed.ensures, c.page_of-page.ensures, c.shape.ensures.bits) at c.if-page-unflushed.true in
    in_frame _ _ c.args.self.now c.facts.ensures.log _ s more high

pub record_at-requires-clause-in_frame : goal.record_at-requires-clause-in_frame
record_at-requires-clause-in_frame g c =
    let s = rw (← c.scan.view_is) at c.requires.scan in
    let more = rw (← c.scan.view_is) at c.requires.more in
    let high = rw (c.unflushed.ensures, c.page_of-page.ensures, c.shape.ensures.bits) at c.if-page-unflushed.true in
    not_closed _ _ c.args.self.now c.facts.ensures.log _ s more high

pub turned-requires-clause-held : goal.turned-requires-clause-held
turned-requires-clause-held g c =
    let s = rw (← c.scan.view_is) at c.requires.scan in
    let more = rw (← c.scan.view_is) at c.requires.more in
    let page = c.page_of-page.ensures in
    let is = rw c.shape.ensures.bits at page in
    let count = c.unflushed.ensures in
    let low : page_at c.args.self.now.bits c.scan.inside.address < length c.args.self.now.receipts = (let under = c.if-page-unflushed.false in omega (arith, is, count, under)) in
    rw is (has_receipt _ _ c.args.self.now c.facts.ensures.log _ s more low)

pub returns-then-page-unflushed-clause-stands : goal.returns-then-page-unflushed-clause-stands
returns-then-page-unflushed-clause-stands g c =
    rw (← c.scan.view_is) (entry_found _ _ c.facts.ensures.log.shape c.args.self.now.text c.scan.inside.address c.record_at.result c.record_at.ensures.entry).1

pub returns-then-page-unflushed-clause-scan : goal.returns-then-page-unflushed-clause-scan
returns-then-page-unflushed-clause-scan g c =
    let s = rw (← c.scan.view_is) at c.requires.scan in
    let more = rw (← c.scan.view_is) at c.requires.more in
    goes_on _ _ c.args.self.now c.facts.ensures.log _ s more c.next-scan-inside.result _ c.next-scan-inside.ensures.next s.own

pub returns-in-Ok-own_record_in-clause-scan : goal.returns-in-Ok-own_record_in-clause-scan
returns-in-Ok-own_record_in-clause-scan g c =
    let s = rw (← c.scan.view_is) at c.requires.scan in
    let more = rw (← c.scan.view_is) at c.requires.more in
    let held = own_page c.args.self.now.receipts c.page_of-page.result (g.R.Receipt.stands c.in-Ok.loaded.receipt) c.in-Ok.ensures.own c.in-Ok.ensures.page in
    goes_on _ _ c.args.self.now c.facts.ensures.log _ s more c.next-scan-inside-in-Ok-own_record_in.result _ c.next-scan-inside-in-Ok-own_record_in.ensures.next held
