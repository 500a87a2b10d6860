-- Entries are frozen and frames are closed as the regions move, or Begin moves.
use Rattle.std.proofs.Common.{◌≡◌, ◌+◌, ◌-◌, ◌^◌, ◌<◌, ◌≤◌, inl, inr, ℕ, Bool, true, false, List, ◌++◌, drop, length, map, Option, Some, None, IsSome, nat_le, refl, sym, ◌∙◌, ap, subst, arith}
use Rattle.std.specs.Prelude.{IsTrue}
use Rattle.std.proofs.lemmas.List.{length-map}
use Rattle.std.proofs.lemmas.Bool.{cases_lt}
use Rattle.std.proofs.lemmas.Bool.Decides.{nat_tests}
use Rattle.fkv_functions.specs.Codecs.{Codec}
use Rattle.fkv_records.specs.Places.{page_at, start_at, IsRecordStart}
use Rattle.fkv_records.specs.declared.shapes.Shape.{Shape}
use Rattle.fkv_device.specs.Standing.{Standing}
use Rattle.fkv_frames.specs.Ring.{Ring}
use Rattle.fkv_frames.specs.Held.{held}
use Rattle.fkv_texts.specs.declared.entries.Entry.{Entry}
use Rattle.fkv_texts.specs.Places.{IsLaidOut}
use Rattle.fkv_texts.specs.Text.{text_from}
use Rattle.fkv_texts.proofs.PlaceLemmas.{stands}
use Rattle.fkv_regions.specs.declared.offsets.Offsets.{Offsets}
use Rattle.fkv_regions.specs.RegionsView.{RegionsView}
use Rattle.fkv_regions.specs.Agree as agree
use Rattle.fkv_regions.proofs.MoveLemmas.{mark-place, closed-flushed}
use Rattle.fkv_regions.proofs.OffsetLemmas.{start-mark}
use Rattle.fkv_hybrid.specs.Views.{text_begin, receipt_at, let_go, with_regions, truncated, IsMoved, IsTruncationDue}
use Rattle.fkv_hybrid.specs.Spelled.{TheOne, IsTextOf}
use Rattle.fkv_hybrid.specs.Pages.{page_in, pages_from, receipts_from, view_as, IsOfPages, IsPages, IsWhole}
use Rattle.fkv_hybrid.proofs.FrameLemmas.{page_high, page_rises, page_in-flushed, page_in-held, page_in-high, pages_from-more}
use Rattle.fkv_hybrid.proofs.ReceiptLemmas.{let_go-length, let_go-low, let_go-high, let_go-same, from-length, held-let_go}
use Rattle.fkv_texts.proofs.CutLemmas.{filter-in, filter-all, laid_out-from}
use Rattle.fkv_hybrid.proofs.PageLemmas.{begin_place, begins_low, begins_high, begins_closed, begins_rise, text_is, place_first, view_of}
use Rattle.fkv_hybrid.proofs.FlushLemmas.{view_with}

-- all pages below that of Head are flushed
head_flushed : (bits begin tail flushed : ℕ) (regions : RegionsView) → IsOfPages bits begin tail flushed regions → agree.IsRegions regions → page_at bits regions.offsets.head ≤ flushed
head_flushed bits begin tail flushed regions t r = rw (← t.bits_same, ← t.count_same) r.in_order.flushed_low

module _ {K V : Type 0} {ksize vsize : ℕ} (key : Codec K ksize) (value : Codec V vsize) where
  -- ---- frames may be used anew, or Begin moves
  pub moved_log : (keeps : Bool) (shape : Shape) (begin closed b c frozen tail : ℕ) (receipts : List (Option Standing)) (ring : Ring) (text : List (Entry K V))
      → IsPages key value keeps shape begin closed frozen tail receipts ring text
      → begin ≤ b → b ≤ frozen → closed ≤ c → c ≤ frozen → page_at shape.page_bits b ≤ length receipts → page_at shape.page_bits c ≤ length receipts
      → (b < 2 ^ 48 → IsRecordStart shape.page_bits shape.record_size b) → (c < 2 ^ 48 → IsRecordStart shape.page_bits shape.record_size c)
      → IsPages key value keeps shape b c frozen tail (let_go (page_at shape.page_bits b) receipts) ring (text_from (text_begin keeps b c) text)
  moved_log keeps shape begin closed b c frozen tail receipts ring text log more b_frozen further c_frozen begun flushed b_place c_place =
      let bits = shape.page_bits in
      let size = shape.record_size in
      let o = log.ordered in
      let end = o.frozen_tail in
      let laid = laid_out-from bits size shape.limits (text_begin keeps begin closed) tail (text_begin keeps b c) text (begin_place bits size begin closed o.begin_place o.closed_place keeps) o.most
      (begin_place bits size b c b_place c_place keeps) (begins_rise keeps begin closed b c more further) (begins_low keeps b c tail (omega arith) (omega arith)) (rw (← log.size) at log.spelled.laid_out) in
      let first_rises = page_rises bits closed c further in
      let gone = page_at bits b in
      let count = let_go-length gone receipts in
      let begins = page_rises bits begin b more in
      record {
        size = log.size;
        spelled = record {
          laid_out = subst (λ (z : ℕ). IsLaidOut bits z (text_begin keeps b c) tail (text_from (text_begin keeps b c) text)) log.size laid;
          spelled = λ i e g.
              let was = filter-in (λ (d : Entry K V). nat_le (text_begin keeps b c) d.address) text i e g in
              let t = log.spelled.spelled was.0.place e was.0.here in
              let high : text_begin keeps b c ≤ e.address = nat_le-true (text_begin keeps b c) e.address was.1 in
              record {
                page = t.page;
                here = same_receipt e.address (let low = begins_high keeps b c in page_rises bits b e.address (omega arith)) ∙ same_page keeps e.address log.flushed.there log.flushed.kept first_rises high ∙ t.here;
                sound = t.sound;
                spells = t.spells;
              };
        };
        ordered = record {
          begin_frozen = b_frozen;
          closed_frozen = c_frozen;
          frozen_tail = o.frozen_tail;
          most = o.most;
          begin_place = b_place;
          closed_place = c_place;
          tail_place = o.tail_place;
          begin_flushed = rw count begun;
          flushed_low = rw count flushed;
          flushed_high = rw count o.flushed_high;
        };
        ringed = record {
          bits_same = log.ringed.bits_same;
          there = λ m low k. log.ringed.there m (omega arith) k;
          room = λ m k. (let r = log.ringed.room m k in omega arith);
        };
        flushed = record {
          gone = λ m low. let_go-low gone m receipts low;
          there = λ m low high. rw (let_go-high gone m receipts low) (log.flushed.there m (omega arith) (rw count at high));
          own = λ m s g. log.flushed.own m s (was_held m s g);
          sized = λ m s g. log.flushed.sized m s (was_held m s g);
          kept = λ h m s low g. log.flushed.kept h m s (omega arith) (was_held m s g);
        };
      }
    where
      nat_le-true : (m n : ℕ) → nat_le m n ≡ true → m ≤ n
      nat_le-true m n h = grind (arith, nat_tests, h)

      -- a receipt that is still held was
      was_held : (m : ℕ) (s : Standing) → receipt_at (let_go (page_at shape.page_bits b) receipts) m ≡ Some s → receipt_at receipts m ≡ Some s
      was_held m s g = elim (cases_lt m (page_at shape.page_bits b)) [
        | inl low ↦ (let none = let_go-low (page_at shape.page_bits b) m receipts low in let bad : None ≡ Some s = sym none ∙ g in absurd (cc))
        | inr high ↦ sym (let_go-high (page_at shape.page_bits b) m receipts high) ∙ g
      ]

      -- the pages from that of Begin on are the same
      same_receipt : (a : ℕ) → page_at shape.page_bits b ≤ page_at shape.page_bits a
          → page_in (page_at shape.page_bits c) (let_go (page_at shape.page_bits b) receipts) ring (page_at shape.page_bits a)
          ≡ page_in (page_at shape.page_bits c) receipts ring (page_at shape.page_bits a)
      same_receipt a high = page_in-held (page_at shape.page_bits c) (page_at shape.page_bits a) (let_go (page_at shape.page_bits b) receipts) receipts ring (let_go-high (page_at shape.page_bits b) (page_at shape.page_bits a) receipts high)

      same_page : (k : Bool) (a : ℕ)
          → ((m : ℕ) → page_at shape.page_bits begin ≤ m → m < length receipts → IsSome (receipt_at receipts m))
          → (IsTrue k → (m : ℕ) (s : Standing) → page_at shape.page_bits closed ≤ m → receipt_at receipts m ≡ Some s → held ring m ≡ Some s.bytes)
          → page_at shape.page_bits closed ≤ page_at shape.page_bits c → text_begin k b c ≤ a
          → page_in (page_at shape.page_bits c) receipts ring (page_at shape.page_bits a) ≡ page_in (page_at shape.page_bits closed) receipts ring (page_at shape.page_bits a)
      same_page true a some kept rises high = page_in-flushed (page_at shape.page_bits begin) (page_at shape.page_bits closed) (page_at shape.page_bits c) (page_at shape.page_bits a) receipts ring (page_rises shape.page_bits begin a (omega arith)) rises flushed some (kept refl)
      same_page false a some kept rises high =
          let low = begins_closed b c in
          let up = page_rises shape.page_bits c a (omega arith) in
          page_in-high (page_at shape.page_bits c) (page_at shape.page_bits a) receipts ring up
          ∙ sym (page_in-high (page_at shape.page_bits closed) (page_at shape.page_bits a) receipts ring (omega arith))

  -- where the device keeps, the text stays when frames are closed
  pub closed_kept : (keeps : Bool) (shape : Shape) (begin closed c frozen tail : ℕ) (receipts : List (Option Standing)) (ring : Ring) (text : List (Entry K V))
      → IsPages key value keeps shape begin closed frozen tail receipts ring text → IsTrue keeps → text_from (text_begin keeps begin c) text ≡ text
  closed_kept keeps shape begin closed c frozen tail receipts ring text log h =
      filter-all (λ (e : Entry K V). nat_le (text_begin keeps begin c) e.address) text
      (λ i e g. passes keeps e.address h (let o = log.ordered in let s = stands shape.page_bits shape.record_size shape.limits (text_begin keeps begin closed) tail text
      (begin_place shape.page_bits shape.record_size begin closed o.begin_place o.closed_place keeps) o.most (rw (← log.size) at log.spelled.laid_out) i e g in s.low))
    where
      passes : (k : Bool) (a : ℕ) → IsTrue k → text_begin k begin closed ≤ a → nat_le (text_begin k begin c) a ≡ true
      passes true a h low = grind (arith, nat_tests, low)
      passes false a h low = absurd (let bad : false ≡ true = h in cc)

  -- ---- more is frozen
  pub frozen_log : (keeps : Bool) (shape : Shape) (begin closed frozen tail : ℕ) (receipts : List (Option Standing)) (ring : Ring) (text : List (Entry K V)) (at : ℕ)
      → IsPages key value keeps shape begin closed frozen tail receipts ring text → frozen ≤ at → at ≤ tail
      → IsPages key value keeps shape begin closed at tail receipts ring text
  frozen_log keeps shape begin closed frozen tail receipts ring text at log more most =
      let o = log.ordered in
      record {
        size = log.size;
        spelled = log.spelled;
        ordered = record {
          begin_frozen = (let h = o.begin_frozen in omega arith);
          closed_frozen = (let h = o.closed_frozen in omega arith);
          frozen_tail = most;
          most = o.most;
          begin_place = o.begin_place;
          closed_place = o.closed_place;
          tail_place = o.tail_place;
          begin_flushed = o.begin_flushed;
          flushed_low = o.flushed_low;
          flushed_high = (let h = o.flushed_high in omega arith);
        };
        ringed = log.ringed;
        flushed = log.flushed;
      }

  -- and more pages wait
  pub frozen_waiting : (keeps : Bool) (shape : Shape) (begin closed frozen tail : ℕ) (receipts : List (Option Standing)) (ring : Ring) (text : List (Entry K V)) (at : ℕ)
      → IsPages key value keeps shape begin closed frozen tail receipts ring text → frozen ≤ at
      → pages_from ring (length receipts) (page_at shape.page_bits at - length receipts)
      ≡ pages_from ring (length receipts) (page_at shape.page_bits frozen - length receipts)
      ++ pages_from ring (length receipts + (page_at shape.page_bits frozen - length receipts)) (page_at shape.page_bits at - page_at shape.page_bits frozen)
  frozen_waiting keeps shape begin closed frozen tail receipts ring text at log more =
      let bits = shape.page_bits in
      let low = page_high bits (length receipts) frozen log.ordered.flushed_high in
      let up = page_rises bits frozen at more in
      let e : page_at bits at - length receipts ≡ page_at bits frozen - length receipts + (page_at bits at - page_at bits frozen) = omega (arith, low, up) in
      ap (λ (k : ℕ). pages_from ring (length receipts) k) e
      ∙ pages_from-more ring (length receipts) (page_at bits frozen - length receipts) (page_at bits at - page_at bits frozen)

  -- ---- the regions move, and nothing else
  pub followed : (keeps : Bool) (shape : Shape) (begin : ℕ) (was now : RegionsView) (end tail : ℕ) (receipts : List (Option Standing)) (ring : Ring) (text : List (Entry K V))
      → IsWhole key value keeps shape begin was tail receipts ring text → agree.IsMoved was now end → end ≤ tail
      → IsWhole key value keeps shape begin now tail receipts ring (text_from (text_begin keeps begin now.offsets.closed) text)
  followed keeps shape begin was now end tail receipts ring text log m low =
      let bits = shape.page_bits in
      let closed = now.offsets.closed in
      let frozen = now.offsets.safe_read_only in
      let o = log.pages.ordered in
      let t = log.agrees in
      let n = m.regions.in_order in
      let rises = m.raised in
      let frozen_most : frozen ≤ tail = omega (arith, n.safe, m.most, low) in
      let begin_most : begin ≤ frozen = omega (arith, o.begin_frozen, rises.safe) in
      let closed_most : closed ≤ frozen = omega (arith, n.closed, n.head) in
      let same : now.bits ≡ bits = m.bits ∙ t.bits_same in
      let flushed : page_at bits closed ≤ length receipts = rw (← same, ← t.count_same, ← m.flushed) (closed-flushed now m.regions) in
      let mark = rw same at n.closed_mark in
      let l = moved_log keeps shape begin was.offsets.closed begin closed frozen tail receipts ring text
      (frozen_log keeps shape begin was.offsets.closed was.offsets.safe_read_only tail receipts ring text frozen log.pages rises.safe frozen_most)
      (omega arith) begin_most rises.closed closed_most o.begin_flushed flushed o.begin_place (mark-place bits shape.record_size closed shape.limits mark n.first) in
      record {
        pages = subst (λ (r : List (Option Standing)). IsPages key value keeps shape begin closed frozen tail r ring (text_from (text_begin keeps begin closed) text))
            (let_go-same (page_at bits begin) receipts log.pages.flushed.gone) l;
        agrees = record {
          bits_same = same;
          count_same = m.flushed ∙ t.count_same;
          headed = omega (arith, t.headed, rises.head);
          begun = omega (arith, m.most, low);
          marked = t.marked;
        };
      }

  -- what a contract sees then
  pub moved_seen : (keeps : Bool) (shape : Shape) (begin : ℕ) (was now made : RegionsView) (end tail : ℕ) (receipts : List (Option Standing)) (ring : Ring) (text : List (Entry K V))
      (o : TheOne (λ t. IsTextOf key value shape.page_bits (page_in (page_at shape.page_bits now.offsets.closed) receipts ring) (text_begin keeps begin now.offsets.closed) tail t))
      → IsWhole key value keeps shape begin was tail receipts ring text → agree.IsMoved was now end → end ≤ tail → now ≡ made
      → IsMoved keeps made (view_as keeps shape begin was tail receipts ring text) (view_as keeps shape begin now tail receipts ring (o.0).0)
  moved_seen keeps shape begin was now made end tail receipts ring text o log m low e =
      let l = followed keeps shape begin was now end tail receipts ring text log m low in
      let is = text_is key value shape.page_bits (page_in (page_at shape.page_bits now.offsets.closed) receipts ring) (text_begin keeps begin now.offsets.closed) tail o
      (text_from (text_begin keeps begin now.offsets.closed) text) l.pages.spelled in
      let waits = frozen_waiting keeps shape begin was.offsets.closed was.offsets.safe_read_only tail receipts ring text now.offsets.safe_read_only log.pages m.raised.safe in
      rw (← e) (record {
        more = _;
        is = λ j. record {
          bits = shape.page_bits;
          frames = length ring.slots;
          begin = begin;
          from = text_begin keeps begin now.offsets.closed;
          tail = tail;
          regions = now;
          receipts = receipts;
          waiting = waits j;
          text = is j;
        };
        kept = λ k. is ∙ closed_kept keeps shape begin was.offsets.closed now.offsets.closed was.offsets.safe_read_only tail receipts ring text log.pages k;
      })

  -- where they did not move the log is the same
  pub unmoved_seen : (keeps : Bool) (shape : Shape) (begin : ℕ) (was now : RegionsView) (tail : ℕ) (receipts : List (Option Standing)) (ring : Ring) (text : List (Entry K V))
      (o : TheOne (λ t. IsTextOf key value shape.page_bits (page_in (page_at shape.page_bits now.offsets.closed) receipts ring) (text_begin keeps begin now.offsets.closed) tail t))
      → IsWhole key value keeps shape begin was tail receipts ring text → now ≡ was
      → view_as keeps shape begin now tail receipts ring (o.0).0 ≡ view_as keeps shape begin was tail receipts ring text
  unmoved_seen keeps shape begin was now tail receipts ring text o log e =
      view_of key value keeps shape begin now tail receipts ring o text
      (subst (λ (r : RegionsView). IsPages key value keeps shape begin r.offsets.closed r.offsets.safe_read_only tail receipts ring text) (sym e) log.pages)
      ∙ ap (λ (r : RegionsView). view_as keeps shape begin r tail receipts ring text) e

  -- where their offsets did not move it is the same but for them
  pub entered_seen : (keeps : Bool) (shape : Shape) (begin : ℕ) (was now made : RegionsView) (tail : ℕ) (receipts : List (Option Standing)) (ring : Ring) (text : List (Entry K V))
      (o : TheOne (λ t. IsTextOf key value shape.page_bits (page_in (page_at shape.page_bits now.offsets.closed) receipts ring) (text_begin keeps begin now.offsets.closed) tail t))
      → IsWhole key value keeps shape begin was tail receipts ring text → now ≡ made → made.offsets ≡ was.offsets
      → view_as keeps shape begin now tail receipts ring (o.0).0 ≡ with_regions (view_as keeps shape begin was tail receipts ring text) made
  entered_seen keeps shape begin was now made tail receipts ring text o log e stays =
      let same : now.offsets ≡ was.offsets = ap (λ (r : RegionsView). r.offsets) e ∙ stays in
      let is = text_is key value shape.page_bits (page_in (page_at shape.page_bits now.offsets.closed) receipts ring) (text_begin keeps begin now.offsets.closed) tail o text
      (subst (λ (q : Offsets). IsTextOf key value shape.page_bits (page_in (page_at shape.page_bits q.closed) receipts ring) (text_begin keeps begin q.closed) tail text) (sym same) log.pages.spelled) in
      λ j. record {
        bits = shape.page_bits;
        frames = length ring.slots;
        begin = begin;
        from = text_begin keeps begin (same j).closed;
        tail = tail;
        regions = e j;
        receipts = receipts;
        waiting = pages_from ring (length receipts) (page_at shape.page_bits (same j).safe_read_only - length receipts);
        text = is j;
      }

  -- ---- Begin moves up to the start of a page
  pub cut : (keeps : Bool) (shape : Shape) (begin : ℕ) (regions : RegionsView) (tail : ℕ) (receipts : List (Option Standing)) (ring : Ring) (text : List (Entry K V)) (page b : ℕ)
      → IsWhole key value keeps shape begin regions tail receipts ring text → agree.IsRegions regions
      → IsTruncationDue (view_as keeps shape begin regions tail receipts ring text) page → b ≡ start_at shape.page_bits page
      → IsWhole key value keeps shape b regions tail (let_go (page_at shape.page_bits b) receipts) ring (text_from (text_begin keeps b regions.offsets.closed) text)
  cut keeps shape begin regions tail receipts ring text page b log r due is =
      let bits = shape.page_bits in
      let o = log.pages.ordered in
      let t = log.agrees in
      let n = r.in_order in
      let first = place_first shape begin o.begin_place in
      let higher : begin ≤ b = rw is (omega (arith, due.higher)) in
      let headed : b ≤ regions.offsets.head = rw is due.headed in
      let mark = rw (← is) at (start-mark bits page) in
      let flushed = head_flushed bits begin tail (length receipts) regions t r in
      let low = page_rises bits b regions.offsets.head headed in
      record {
        pages = moved_log keeps shape begin regions.offsets.closed b regions.offsets.closed regions.offsets.safe_read_only tail receipts ring text log.pages
            higher (omega (arith, headed, n.head)) (omega arith) o.closed_frozen (omega (arith, low, flushed)) o.flushed_low
            (mark-place bits shape.record_size b shape.limits mark (omega (arith, first, higher))) o.closed_place;
        agrees = record {
          bits_same = t.bits_same;
          count_same = t.count_same ∙ sym (let_go-length (page_at bits b) receipts);
          headed = headed;
          begun = t.begun;
          marked = mark;
        };
      }

  -- the receipts of the pages below are let go
  pub cut_receipts : (keeps : Bool) {R : Type 0} (told : R → Standing) (shape : Shape) (begin : ℕ) (regions : RegionsView) (tail : ℕ) (xs ys : List R) (ring : Ring) (text : List (Entry K V)) (page b to from : ℕ)
      → IsWhole key value keeps shape begin regions tail (receipts_from (page_at shape.page_bits begin) (map told xs)) ring text → agree.IsRegions regions
      → IsTruncationDue (view_as keeps shape begin regions tail (receipts_from (page_at shape.page_bits begin) (map told xs)) ring text) page → b ≡ start_at shape.page_bits page
      → to ≡ page_at shape.page_bits b → from ≡ page_at shape.page_bits begin → ys ≡ drop (to - from) xs
      → receipts_from (page_at shape.page_bits b) (map told ys) ≡ let_go (page_at shape.page_bits b) (receipts_from (page_at shape.page_bits begin) (map told xs))
  cut_receipts keeps told shape begin regions tail xs ys ring text page b to from log r due is top low_page rest =
      let bits = shape.page_bits in
      let t = log.agrees in
      let all = from-length (page_at bits begin) (map told xs) in
      let held_count : length (map told xs) ≡ length xs = length-map xs told in
      let higher : begin ≤ b = rw is (omega (arith, due.higher)) in
      let headed : b ≤ regions.offsets.head = rw is due.headed in
      let low = page_rises bits begin b higher in
      let up = page_rises bits b regions.offsets.head headed in
      let flushed = head_flushed bits begin tail _ regions t r in
      held-let_go told (page_at bits begin) (page_at bits b) (to - from) xs ys low (omega (arith, up, flushed, all, held_count)) (rw (top, low_page) refl) rest

  -- what a contract sees then
  pub cut_seen : (keeps : Bool) (shape : Shape) (begin : ℕ) (regions : RegionsView) (tail : ℕ) (receipts more : List (Option Standing)) (ring : Ring) (text : List (Entry K V)) (page b : ℕ)
      (o : TheOne (λ t. IsTextOf key value shape.page_bits (page_in (page_at shape.page_bits regions.offsets.closed) more ring) (text_begin keeps b regions.offsets.closed) tail t))
      → more ≡ let_go (page_at shape.page_bits b) receipts → b ≡ start_at shape.page_bits page
      → IsWhole key value keeps shape b regions tail (let_go (page_at shape.page_bits b) receipts) ring (text_from (text_begin keeps b regions.offsets.closed) text)
      → view_as keeps shape b regions tail more ring (o.0).0
      ≡ truncated keeps (view_as keeps shape begin regions tail receipts ring text) (start_at shape.page_bits page)
  cut_seen keeps shape begin regions tail receipts more ring text page b o e is log =
      let bits = shape.page_bits in
      let gone = let_go (page_at bits b) receipts in
      let frozen = regions.offsets.safe_read_only in
      let waits : pages_from ring (length gone) (page_at bits frozen - length gone) ≡ pages_from ring (length receipts) (page_at bits frozen - length receipts) =
      ap (λ (n : ℕ). pages_from ring n (page_at bits frozen - n)) (let_go-length (page_at bits b) receipts) in
      let made : view_as keeps shape b regions tail gone ring (text_from (text_begin keeps b regions.offsets.closed) text)
      ≡ truncated keeps (view_as keeps shape begin regions tail receipts ring text) b =
      (λ j. record {
        bits = bits;
        frames = length ring.slots;
        begin = b;
        from = text_begin keeps b regions.offsets.closed;
        tail = tail;
        regions = regions;
        receipts = gone;
        waiting = waits j;
        text = text_from (text_begin keeps b regions.offsets.closed) text;
      }) in
      view_with key value keeps shape b regions tail gone more ring o (text_from (text_begin keeps b regions.offsets.closed) text) e log.pages
      ∙ made ∙ ap (λ (a : ℕ). truncated keeps (view_as keeps shape begin regions tail receipts ring text) a) is
