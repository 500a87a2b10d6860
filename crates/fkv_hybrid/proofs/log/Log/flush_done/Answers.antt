use Rattle.std.proofs.Common.{◌+◌, ◌^◌, ◌∙◌, map, sym, ap, arith}
use Rattle.std.proofs.Math.Nat.{div-le_self}
use Rattle.fkv_records.specs.Places.{page_at}
use Rattle.fkv_regions.specs.RegionsView.{with_flushed}
use Rattle.fkv_hybrid.specs.Pages.{receipts_from}
use Rattle.fkv_hybrid.proofs.PageLemmas.{the_text, log_of, view_of, kept_more}
use Rattle.fkv_hybrid.proofs.FlushLemmas.{taken_due, taken, whole_with, view_with}
use Rattle.fkv_hybrid.proofs.log.Log.flush_done.Goals as goal

pub overflow_add-page : goal.overflow_add-page
overflow_add-page g c =
    let i = c.self.inside in
    let fine = rw (← c.self.view_is) at (sym c.flush_refusal.ensures ∙ c.in_default.is) in
    let due = taken_due g.K.Fixed.codec g.V.Fixed.codec g.R.Receipt.keeps i.shape i.begin i.regions i.tail _ i.frames i.text.0.0 _ _ fine in
    let count = rw (← c.self.view_is) at c.unflushed-page.ensures in
    let o = c.self.invariant.pages.ordered in
    let low = div-le_self i.regions.offsets.safe_read_only (2 ^ i.shape.page_bits) in
    omega (arith, due, count, low, o.frozen_tail, o.most)

pub raise_flushed-requires : goal.raise_flushed-requires
raise_flushed-requires g c =
    let i = c.self.inside in
    let fine = rw (← c.self.view_is) at (sym c.flush_refusal.ensures ∙ c.in_default.is) in
    let due = taken_due g.K.Fixed.codec g.V.Fixed.codec g.R.Receipt.keeps i.shape i.begin i.regions i.tail _ i.frames i.text.0.0 _ _ fine in
    let count = rw (← c.self.view_is) at c.unflushed-page.ensures in
    let t = c.self.invariant.agrees in
    record { higher = omega (arith, count, t.count_same); frozen = rw t.bits_same (omega (arith, count, due)) }

pub invariant_of-self-inside : goal.invariant_of-self-inside
invariant_of-self-inside g c =
    let i = c.self.inside in
    let written = c.args.written.receipt in
    let is = c.into_receipt.ensures.receipt in
    let fine = rw (← c.self.view_is) at (sym c.flush_refusal.ensures ∙ c.in_default.is) in
    let raised = c.raise_flushed.ensures ∙ ap (λ n. with_flushed i.regions (n + 1)) (rw (← c.self.view_is) at c.unflushed-page.ensures) in
    let grown = kept_more g.R.Receipt.stands (page_at i.shape.page_bits i.begin) i.receipts.items _ written (rw is at c.in-Ok.ensures.ok) in
    let m = taken g.K.Fixed.codec g.V.Fixed.codec g.R.Receipt.keeps i.shape i.begin i.regions c.raise_flushed.new.self i.tail _ _ i.frames i.text.0.0 (g.R.Receipt.stands written) c.args.written.bytes c.self.invariant fine
    (rw is at c.into_receipt.ensures.length) (rw is at c.into_receipt.ensures.kept) raised grown in
    (the_text g.K.Fixed.codec g.V.Fixed.codec _ _ g.row.K.coded g.row.V.coded _ _ _ m.0.pages.spelled, tt)

pub invariant_of-self : goal.invariant_of-self
invariant_of-self g c =
    let i = c.self.inside in
    let written = c.args.written.receipt in
    let is = c.into_receipt.ensures.receipt in
    let fine = rw (← c.self.view_is) at (sym c.flush_refusal.ensures ∙ c.in_default.is) in
    let raised = c.raise_flushed.ensures ∙ ap (λ n. with_flushed i.regions (n + 1)) (rw (← c.self.view_is) at c.unflushed-page.ensures) in
    let grown = kept_more g.R.Receipt.stands (page_at i.shape.page_bits i.begin) i.receipts.items _ written (rw is at c.in-Ok.ensures.ok) in
    let m = taken g.K.Fixed.codec g.V.Fixed.codec g.R.Receipt.keeps i.shape i.begin i.regions c.raise_flushed.new.self i.tail _ _ i.frames i.text.0.0 (g.R.Receipt.stands written) c.args.written.bytes c.self.invariant fine
    (rw is at c.into_receipt.ensures.length) (rw is at c.into_receipt.ensures.kept) raised grown in
    let now = c.raise_flushed.new.self.offsets in
    record {
      pages = log_of g.K.Fixed.codec g.V.Fixed.codec g.R.Receipt.keeps i.shape i.begin now.closed now.safe_read_only i.tail _ i.frames c.self-1.given.0 _ m.0.pages;
      agrees = m.0.agrees;
    }

pub returns-in-Ok-clause-done : goal.returns-in-Ok-clause-done
returns-in-Ok-clause-done g c =
    let i = c.self.inside in
    let written = c.args.written.receipt in
    let is = c.into_receipt.ensures.receipt in
    let fine = rw (← c.self.view_is) at (sym c.flush_refusal.ensures ∙ c.in_default.is) in
    let raised = c.raise_flushed.ensures ∙ ap (λ n. with_flushed i.regions (n + 1)) (rw (← c.self.view_is) at c.unflushed-page.ensures) in
    let grown = kept_more g.R.Receipt.stands (page_at i.shape.page_bits i.begin) i.receipts.items _ written (rw is at c.in-Ok.ensures.ok) in
    let m = taken g.K.Fixed.codec g.V.Fixed.codec g.R.Receipt.keeps i.shape i.begin i.regions c.raise_flushed.new.self i.tail _ _ i.frames i.text.0.0 (g.R.Receipt.stands written) c.args.written.bytes c.self.invariant fine
    (rw is at c.into_receipt.ensures.length) (rw is at c.into_receipt.ensures.kept) raised grown in
    rw (← c.self.view_is) (view_of g.K.Fixed.codec g.V.Fixed.codec g.R.Receipt.keeps i.shape i.begin c.raise_flushed.new.self i.tail _ i.frames c.self-1.given.0 i.text.0.0 m.0.pages ∙ m.1)

pub invariant_of-self-inside-in-Err-1 : goal.invariant_of-self-inside-in-Err-1
invariant_of-self-inside-in-Err-1 g c = rw c.in-Err.ensures.unchanged (c.self.inside.text, tt)

pub invariant_of-self-in-Err : goal.invariant_of-self-in-Err
invariant_of-self-in-Err g c =
    let i = c.self.inside in
    let kept = ap (λ l. receipts_from (page_at i.shape.page_bits i.begin) (map g.R.Receipt.stands l)) c.in-Err.ensures.unchanged in
    whole_with g.K.Fixed.codec g.V.Fixed.codec g.R.Receipt.keeps i.shape i.begin i.regions i.tail _ _ i.frames c.in-Err.self-in-Err-1-own.given.0 i.text.0.0 kept c.self.invariant

pub returns-in-Err-clause-unchanged : goal.returns-in-Err-clause-unchanged
returns-in-Err-clause-unchanged g c =
    let i = c.self.inside in
    let kept = ap (λ l. receipts_from (page_at i.shape.page_bits i.begin) (map g.R.Receipt.stands l)) c.in-Err.ensures.unchanged in
    view_with g.K.Fixed.codec g.V.Fixed.codec g.R.Receipt.keeps i.shape i.begin i.regions i.tail _ _ i.frames c.in-Err.self-in-Err-1-own.given.0 i.text.0.0 kept c.self.invariant.pages ∙ c.self.view_is
