-- Pages that wait to be flushed, and those that are.
use Rattle.std.proofs.Common.{◌≡◌, ◌+◌, ◌-◌, ◌^◌, ◌<◌, ◌≤◌, ◌==◌, inl, inr, ℕ, Bool, true, false, List, [], ◌∷◌, ◌++◌, length, drop, Option, Some, None, nat_lt, slice_get, length-append, refl, sym, ◌∙◌, ap, subst, arith}
use Rattle.std.specs.Prelude.{IsTrue, unwrap_or}
use Rattle.std.proofs.lemmas.Bool.Decides.{nat_tests}
use Rattle.std.proofs.lemmas.Bool.{cases_lt, eqb-true, eq-eqb}
use Rattle.std.proofs.lemmas.Nat.{pow_pos}
use Rattle.fkv_functions.specs.Codecs.{Codec}
use Rattle.fkv_records.specs.Places.{page_at, offset_at}
use Rattle.fkv_records.specs.Records.{size_of, Spells}
use Rattle.fkv_records.specs.declared.shapes.Shape.{Shape}
use Rattle.fkv_records.proofs.PlaceLemmas.{next_start}
use Rattle.fkv_device.specs.Standing.{Standing}
use Rattle.fkv_frames.specs.Ring.{Ring}
use Rattle.fkv_frames.specs.Held.{held}
use Rattle.fkv_texts.specs.declared.entries.Entry.{Entry}
use Rattle.fkv_hybrid.proofs.ReceiptLemmas.{more-left, more-last, more-cases}
use Rattle.fkv_regions.specs.RegionsView.{RegionsView, with_flushed}
use Rattle.fkv_hybrid.specs.Views.{LogView, text_begin, with_receipt}
use Rattle.fkv_hybrid.specs.Spelled.{record_of, part_of, TheOne, IsTextOf, IsPageOf}
use Rattle.fkv_hybrid.specs.Pages.{page_in, pages_from, view_as, IsOpen, IsOfPages, IsPages, IsWhole}
use Rattle.fkv_hybrid.proofs.FrameLemmas.{pages_from-length, page_low, start_rises, page_in-high, pages_from-get, pages_from-lowest, none_waits}
use Rattle.fkv_hybrid.proofs.PageLemmas.{log_of, view_of, transfer}
use Rattle.fkv_hybrid.specs.Flushes.{bytes_refusal, flush_refusal}
use Rattle.std.specs.Option.{option_map}
use Rattle.fkv_hybrid.proofs.DifferenceLemmas.{no_difference}

-- what a page that is taken in is: the lowest that is not flushed, which waits, with its bytes
pub record IsAwaited {K V : Type 0} (pages : LogView K V) (page : ℕ) (came : List ℕ) : Type 0 where
  pub lowest : page ≡ length pages.receipts
  pub rest : List (List ℕ)
  pub waits : pages.waiting ≡ came ∷ rest

no_refusal : {X : Type 0} (f : ℕ × ℕ → X) (o : Option (ℕ × ℕ)) → option_map f o ≡ None → o ≡ None
no_refusal f None h = refl
no_refusal f (Some d) h = absurd (cc)

pub awaited : {K V : Type 0} (pages : LogView K V) (page : ℕ) (came : List ℕ) → flush_refusal pages page came ≡ None → IsAwaited pages page came
awaited {K} {V} pages page came h = by_page (page == length pages.receipts) refl
  where
    by_waiting : (l : List (List ℕ)) → pages.waiting ≡ l → page ≡ length pages.receipts → bytes_refusal l came ≡ None → IsAwaited pages page came
    by_waiting [] e p r = absurd (cc)
    by_waiting (held ∷ rest) e p r =
        let same = no_difference held came (no_refusal _ _ r) in
        record { lowest = p; rest = rest; waits = e ∙ ap (λ (x : List ℕ). x ∷ rest) same }

    by_page : (b : Bool) → (page == length pages.receipts) ≡ b → IsAwaited pages page came
    by_page true t = by_waiting pages.waiting refl (eqb-true page (length pages.receipts) t) (rw t at h)
    by_page false t = absurd (let some = rw t at h in cc)

module _ {K V : Type 0} {ksize vsize : ℕ} (key : Codec K ksize) (value : Codec V vsize) where
  -- a page below the frozen offset that is not closed is in its frame
  pub frozen_held : (keeps : Bool) (shape : Shape) (begin closed frozen tail : ℕ) (receipts : List (Option Standing)) (ring : Ring) (text : List (Entry K V)) (n : ℕ)
      → IsPages key value keeps shape begin closed frozen tail receipts ring text → page_at shape.page_bits closed ≤ n → n < page_at shape.page_bits frozen
      → IsOpen shape.page_bits ring n
  frozen_held keeps shape begin closed frozen tail receipts ring text n log low high =
      let bits = shape.page_bits in
      let up = start_rises bits (n + 1) (page_at bits frozen) (omega arith) in
      let down = page_low bits frozen in
      let more = next_start n (2 ^ bits) in
      let pos = pow_pos bits in
      let end = log.ordered.frozen_tail in
      log.ringed.there n low (omega (arith, up, down, more, pos, end))

  -- ---- the bytes of a page that is not closed
  pub page_of : (keeps : Bool) (shape : Shape) (begin closed frozen tail : ℕ) (receipts : List (Option Standing)) (ring : Ring) (text : List (Entry K V)) (n : ℕ) (page : List ℕ)
      → IsPages key value keeps shape begin closed frozen tail receipts ring text → page_at shape.page_bits closed ≤ n → held ring n ≡ Some page
      → length page ≡ 2 ^ shape.page_bits → IsPageOf key value shape.page_bits n text page
  page_of keeps shape begin closed frozen tail receipts ring text n page log low here sized = record {
    sized = sized;
    spells = λ i e g at.
        let bits = shape.page_bits in
        let t = log.spelled.spelled i e g in
        let there : page_in (page_at bits closed) receipts ring n ≡ Some t.page = ap (λ (m : ℕ). page_in (page_at bits closed) receipts ring m) (sym at) ∙ t.here in
        let same : t.page ≡ page = (let both : Some t.page ≡ Some page = sym there ∙ page_in-high (page_at bits closed) n receipts ring low ∙ here in cc) in
        subst (λ (p : List ℕ). Spells key value (part_of p (offset_at bits e.address) (size_of ksize vsize)) (record_of e)) same t.spells;
  }

  -- ---- one more page is flushed
  pub flushed_more : (keeps : Bool) (shape : Shape) (begin closed frozen tail : ℕ) (receipts : List (Option Standing)) (ring : Ring) (text : List (Entry K V)) (s : Standing) (page : List ℕ)
      → IsPages key value keeps shape begin closed frozen tail receipts ring text
      → length receipts < page_at shape.page_bits frozen → held ring (length receipts) ≡ Some page → s.page ≡ length receipts → s.length ≡ 2 ^ shape.page_bits → (IsTrue keeps → s.bytes ≡ page)
      → IsPages key value keeps shape begin closed frozen tail (receipts ++ Some s ∷ []) ring text
  flushed_more keeps shape begin closed frozen tail receipts ring text s page log due here is_page sized kept =
      let bits = shape.page_bits in
      let o = log.ordered in
      let more : length (receipts ++ Some s ∷ []) ≡ length receipts + 1 = length-append receipts (Some s ∷ []) in
      let low = o.flushed_low in
      record {
        size = log.size;
        spelled = transfer key value bits (page_in (page_at bits closed) receipts ring) (page_in (page_at bits closed) (receipts ++ Some s ∷ []) ring) (text_begin keeps begin closed) tail text
            (λ i e g. page_in-more (page_at bits closed) (page_at bits e.address) receipts s ring low) log.spelled;
        ordered = record {
          begin_frozen = o.begin_frozen;
          closed_frozen = o.closed_frozen;
          frozen_tail = o.frozen_tail;
          most = o.most;
          begin_place = o.begin_place;
          closed_place = o.closed_place;
          tail_place = o.tail_place;
          begin_flushed = (let h = o.begin_flushed in rw more (omega arith));
          flushed_low = rw more (omega arith);
          flushed_high = rw more (let up = start_rises bits (length receipts + 1) (page_at bits frozen) (omega arith) in let down = page_low bits frozen in omega arith);
        };
        ringed = log.ringed;
        flushed = record {
          gone = λ n under. more-left receipts (Some s) n (let h = o.begin_flushed in omega arith) ∙ log.flushed.gone n under;
          there = λ n begun under. elim (cases_lt n (length receipts)) [
            | inl old ↦ rw (more-left receipts (Some s) n old) (log.flushed.there n begun old)
            | inr new ↦ (let is : n ≡ length receipts = omega (arith, more, under, new) in rw (is, more-last receipts (Some s)) refl)
          ];
          own = λ n r g. elim (more-cases receipts s r n g) [ inl old ↦ log.flushed.own n r old | inr new ↦ ap (λ (x : Standing). x.page) (sym new.1) ∙ is_page ∙ sym new.0 ];
          sized = λ n r g. elim (more-cases receipts s r n g) [ inl old ↦ log.flushed.sized n r old | inr new ↦ ap (λ (x : Standing). x.length) (sym new.1) ∙ sized ];
          kept = λ h n r low_page g. elim (more-cases receipts s r n g) [
            | inl old ↦ log.flushed.kept h n r low_page old
            | inr new ↦ ap (λ (m : ℕ). held ring m) new.0 ∙ here ∙ ap Some (sym (kept h)) ∙ ap (λ (x : Standing). Some x.bytes) new.1
          ];
        };
      }
    where
      page_in-more : (f n : ℕ) (receipts : List (Option Standing)) (s : Standing) (ring : Ring) → f ≤ length receipts → page_in f (receipts ++ Some s ∷ []) ring n ≡ page_in f receipts ring n
      page_in-more f n receipts s ring h = elim (cases_lt n f) [
        | inl low ↦ (let yes : nat_lt n f ≡ true = grind (arith, nat_tests) in rw (yes, more-left receipts (Some s) n (omega arith)) refl)
        | inr high ↦ page_in-high f n (receipts ++ Some s ∷ []) ring high ∙ sym (page_in-high f n receipts ring high)
      ]

  -- what is known where the receipts are given by an equation
  pub log_with : (keeps : Bool) (shape : Shape) (begin closed frozen tail : ℕ) (receipts more : List (Option Standing)) (ring : Ring)
      (o : TheOne (λ t. IsTextOf key value shape.page_bits (page_in (page_at shape.page_bits closed) more ring) (text_begin keeps begin closed) tail t))
      (text : List (Entry K V)) → more ≡ receipts → IsPages key value keeps shape begin closed frozen tail receipts ring text
      → IsPages key value keeps shape begin closed frozen tail more ring (o.0).0
  log_with keeps shape begin closed frozen tail receipts more ring o text e l =
      log_of key value keeps shape begin closed frozen tail more ring o text
      (subst (λ (r : List (Option Standing)). IsPages key value keeps shape begin closed frozen tail r ring text) (sym e) l)

  pub view_with : (keeps : Bool) (shape : Shape) (begin : ℕ) (regions : RegionsView) (tail : ℕ) (receipts more : List (Option Standing)) (ring : Ring)
      (o : TheOne (λ t. IsTextOf key value shape.page_bits (page_in (page_at shape.page_bits regions.offsets.closed) more ring) (text_begin keeps begin regions.offsets.closed) tail t))
      (text : List (Entry K V)) → more ≡ receipts → IsPages key value keeps shape begin regions.offsets.closed regions.offsets.safe_read_only tail receipts ring text
      → view_as keeps shape begin regions tail more ring (o.0).0 ≡ view_as keeps shape begin regions tail receipts ring text
  view_with keeps shape begin regions tail receipts more ring o text e l =
      view_of key value keeps shape begin regions tail more ring o text
      (subst (λ (r : List (Option Standing)). IsPages key value keeps shape begin regions.offsets.closed regions.offsets.safe_read_only tail r ring text) (sym e) l)
      ∙ ap (λ (r : List (Option Standing)). view_as keeps shape begin regions tail r ring text) e

  pub whole_with : (keeps : Bool) (shape : Shape) (begin : ℕ) (regions : RegionsView) (tail : ℕ) (receipts more : List (Option Standing)) (ring : Ring)
      (o : TheOne (λ t. IsTextOf key value shape.page_bits (page_in (page_at shape.page_bits regions.offsets.closed) more ring) (text_begin keeps begin regions.offsets.closed) tail t))
      (text : List (Entry K V)) → more ≡ receipts → IsWhole key value keeps shape begin regions tail receipts ring text
      → IsWhole key value keeps shape begin regions tail more ring (o.0).0
  whole_with keeps shape begin regions tail receipts more ring o text e l = record {
    pages = log_with keeps shape begin regions.offsets.closed regions.offsets.safe_read_only tail receipts more ring o text e l.pages;
    agrees = subst (λ (r : List (Option Standing)). IsOfPages shape.page_bits begin tail (length r) regions) (sym e) l.agrees;
  }

  -- the pages that wait: the lowest of them, and the others once it is flushed
  pub lowest_waits : (keeps : Bool) (shape : Shape) (begin closed frozen tail : ℕ) (receipts : List (Option Standing)) (ring : Ring) (text : List (Entry K V)) (page : List ℕ)
      → IsPages key value keeps shape begin closed frozen tail receipts ring text → length receipts < page_at shape.page_bits frozen → held ring (length receipts) ≡ Some page
      → pages_from ring (length receipts) (page_at shape.page_bits frozen - length receipts)
      ≡ page ∷ pages_from ring (length receipts + 1) (page_at shape.page_bits frozen - length receipts - 1)
  lowest_waits keeps shape begin closed frozen tail receipts ring text page log due here =
      pages_from-lowest ring (length receipts) (page_at shape.page_bits frozen - length receipts) page (omega arith) here

  pub view_flushed : (keeps : Bool) (shape : Shape) (begin : ℕ) (regions : RegionsView) (tail : ℕ) (receipts : List (Option Standing)) (ring : Ring) (text : List (Entry K V)) (s : Standing) (page : List ℕ)
      → IsPages key value keeps shape begin regions.offsets.closed regions.offsets.safe_read_only tail receipts ring text → length receipts < page_at shape.page_bits regions.offsets.safe_read_only → held ring (length receipts) ≡ Some page
      → view_as keeps shape begin (with_flushed regions (regions.flushed + 1)) tail (receipts ++ Some s ∷ []) ring text ≡ with_receipt (view_as keeps shape begin regions tail receipts ring text) s
  view_flushed keeps shape begin regions tail receipts ring text s page log due here =
      let bits = shape.page_bits in
      let more : length (receipts ++ Some s ∷ []) ≡ length receipts + 1 = length-append receipts (Some s ∷ []) in
      let count : page_at bits regions.offsets.safe_read_only - (length receipts + 1) ≡ page_at bits regions.offsets.safe_read_only - length receipts - 1 = omega arith in
      let waits : pages_from ring (length (receipts ++ Some s ∷ [])) (page_at bits regions.offsets.safe_read_only - length (receipts ++ Some s ∷ []))
      ≡ drop 1 (pages_from ring (length receipts) (page_at bits regions.offsets.safe_read_only - length receipts)) =
      ap (λ (n : ℕ). pages_from ring n (page_at bits regions.offsets.safe_read_only - n)) more
      ∙ ap (λ (k : ℕ). pages_from ring (length receipts + 1) k) count
      ∙ sym (ap (λ (l : List (List ℕ)). drop 1 l) (lowest_waits keeps shape begin regions.offsets.closed regions.offsets.safe_read_only tail receipts ring text page log due here)) in
      λ j. record {
        bits = bits;
        frames = length ring.slots;
        begin = begin;
        from = text_begin keeps begin regions.offsets.closed;
        tail = tail;
        regions = with_flushed regions (regions.flushed + 1);
        receipts = receipts ++ Some s ∷ [];
        waiting = waits j;
        text = text;
      }

  -- each page that waits has the text's entries
  pub waits_spelled : (keeps : Bool) (shape : Shape) (begin closed frozen tail : ℕ) (receipts : List (Option Standing)) (ring : Ring) (text : List (Entry K V))
      → IsPages key value keeps shape begin closed frozen tail receipts ring text
      → (i : ℕ) (page : List ℕ) → slice_get (pages_from ring (length receipts) (page_at shape.page_bits frozen - length receipts)) i ≡ Some page
      → IsPageOf key value shape.page_bits (length receipts + i) text page
  waits_spelled keeps shape begin closed frozen tail receipts ring text log i page g =
      let bits = shape.page_bits in
      let at = pages_from-get ring (length receipts) (page_at bits frozen - length receipts) i page g in
      let within = at.0 in
      let low = log.ordered.flushed_low in
      let p = frozen_held keeps shape begin closed frozen tail receipts ring text (length receipts + i) log (omega arith) (omega arith) in
      let same : p.page ≡ page = ap (λ (o : Option (List ℕ)). unwrap_or o []) (sym p.here) ∙ at.1 in
      page_of keeps shape begin closed frozen tail receipts ring text (length receipts + i) page log (omega arith) (p.here ∙ ap Some same) (ap length (sym same) ∙ p.sized)

  -- a page that is not refused is due
  pub taken_due : (keeps : Bool) (shape : Shape) (begin : ℕ) (regions : RegionsView) (tail : ℕ) (receipts : List (Option Standing)) (ring : Ring) (text : List (Entry K V)) (page : ℕ) (came : List ℕ)
      → flush_refusal (view_as keeps shape begin regions tail receipts ring text) page came ≡ None → length receipts < page_at shape.page_bits regions.offsets.safe_read_only
  taken_due keeps shape begin regions tail receipts ring text page came fine =
      let n = length receipts in
      let m = page_at shape.page_bits regions.offsets.safe_read_only in
      let a = awaited (view_as keeps shape begin regions tail receipts ring text) page came fine in
      elim (cases_lt n m) [
        | inl less ↦ less
        | inr more ↦ absurd (let nothing = none_waits ring n m more in let bad : came ∷ a.rest ≡ [] = sym a.waits ∙ nothing in cc)
      ]

  -- and is taken in
  pub taken : (keeps : Bool) (shape : Shape) (begin : ℕ) (was now : RegionsView) (tail : ℕ) (receipts more : List (Option Standing)) (ring : Ring) (text : List (Entry K V)) (s : Standing) (came : List ℕ)
      → IsWhole key value keeps shape begin was tail receipts ring text
      → flush_refusal (view_as keeps shape begin was tail receipts ring text) s.page came ≡ None → s.length ≡ length came → (IsTrue keeps → s.bytes ≡ came)
      → now ≡ with_flushed was (length receipts + 1) → more ≡ receipts ++ Some s ∷ []
      → IsWhole key value keeps shape begin now tail more ring text
      × (view_as keeps shape begin now tail more ring text ≡ with_receipt (view_as keeps shape begin was tail receipts ring text) s)
  taken keeps shape begin was now tail receipts more ring text s came log fine sized kept raised grown =
      let n = length receipts in
      let frozen = was.offsets.safe_read_only in
      let a = awaited (view_as keeps shape begin was tail receipts ring text) s.page came fine in
      let waits : pages_from ring n (page_at shape.page_bits frozen - n) ≡ came ∷ a.rest = a.waits in
      let due = taken_due keeps shape begin was tail receipts ring text s.page came fine in
      let p = frozen_held keeps shape begin was.offsets.closed frozen tail receipts ring text n log.pages log.pages.ordered.flushed_low due in
      let own = lowest_waits keeps shape begin was.offsets.closed frozen tail receipts ring text p.page log.pages due p.here in
      let same : p.page ≡ came = (let both : p.page ∷ pages_from ring (n + 1) (page_at shape.page_bits frozen - n - 1) ≡ came ∷ a.rest = sym own ∙ waits in cc) in
      let here : held ring n ≡ Some came = p.here ∙ ap Some same in
      let l = flushed_more keeps shape begin was.offsets.closed frozen tail receipts ring text s came log.pages due here a.lowest (sized ∙ ap length (sym same) ∙ p.sized) kept in
      let v = view_flushed keeps shape begin was tail receipts ring text s came log.pages due here in
      let t = log.agrees in
      let one : length (receipts ++ Some s ∷ []) ≡ n + 1 = length-append receipts (Some s ∷ []) in
      rw (raised, grown) (
        record { pages = l; agrees = record { bits_same = t.bits_same; count_same = sym one; headed = t.headed; begun = t.begun; marked = t.marked } },
        ap (λ (k : ℕ). view_as keeps shape begin (with_flushed was (k + 1)) tail (receipts ++ Some s ∷ []) ring text) (sym t.count_same) ∙ v,
      )

-- why the lowest page that waits is not taken in
pub refusal_is : {K V : Type 0} (pages : LogView K V) (page : ℕ) (came held : List ℕ) (rest : List (List ℕ)) → page ≡ length pages.receipts → pages.waiting ≡ held ∷ rest
    → flush_refusal pages page came ≡ bytes_refusal (held ∷ []) came
refusal_is pages page came held rest e waits = let yes : (page == length pages.receipts) ≡ true = eq-eqb page (length pages.receipts) e in rw (yes, waits) refl

-- none waits where the lowest page that is not flushed is not below that of what is frozen, and only there
pub waits_test : (ring : Ring) (n m a b : ℕ) → a ≡ n → b ≡ m → (nat_lt a b ≡ false → pages_from ring n (m - n) ≡ []) × (pages_from ring n (m - n) ≡ [] → nat_lt a b ≡ false)
waits_test ring n m a b e f = (
  (λ h. none_waits ring n m (let le : b ≤ a = not_less a b h in omega arith)),
  (λ h. (let count = pages_from-length ring n (m - n) in
      let none : length (pages_from ring n (m - n)) ≡ 0 = ap (λ (l : List (List ℕ)). length l) h in
      let le : b ≤ a = omega arith in
      grind (arith, nat_tests))),
)
  where
    not_less : (a b : ℕ) → nat_lt a b ≡ false → b ≤ a
    not_less a b h = grind (arith, nat_tests, h)
