-- The text that pages spell: there is one at most, and what is known of it.
use Rattle.std.proofs.Common.{◌≡◌, ◌-◌, ◌/◌, ◌^◌, ◌<◌, ◌≤◌, ◌↔◌, inl, inr, ℕ, zero, suc, Bool, true, false, cond, List, [], ◌∷◌, ◌++◌, length, Option, Some, None, map, IsSome, nat_le, slice_get, refl, sym, ◌∙◌, ap, subst, arith}
use Rattle.std.specs.Prelude.{IfSome, IfErr, Result, Ok, Err, OnOk, OnErr}
use Rattle.std.proofs.lemmas.Bool.Decides.{nat_tests}
use Rattle.std.proofs.lemmas.Bool.{cases_lt}
use Rattle.std.specs.Coded.{Coded}
use Rattle.fkv_functions.specs.Codecs.{Codec}
use Rattle.fkv_records.specs.Places.{page_at, offset_at, start_at, IsRecordStart, first}
use Rattle.fkv_records.specs.Records.{size_of, IsRecord, Spells}
use Rattle.fkv_records.specs.declared.shapes.Shape.{Shape}
use Rattle.fkv_records.proofs.PlaceLemmas.{place_low, page_sized}
use Rattle.fkv_device.specs.Standing.{Standing}
use Rattle.fkv_frames.specs.Ring.{Ring}
use Rattle.fkv_frames.specs.Held.{held}
use Rattle.fkv_texts.specs.declared.entries.Entry.{Entry}
use Rattle.fkv_texts.specs.Places.{tail_after, IsLaidOut}
use Rattle.fkv_texts.specs.Text.{entry_at, value_of, IsRising}
use Rattle.fkv_texts.proofs.PlaceLemmas.{Stands, stands, rising, entry_stands, entry_there}
use Rattle.fkv_regions.specs.RegionsView.{RegionsView}
use Rattle.fkv_hybrid.specs.Views.{text_begin}
use Rattle.fkv_hybrid.specs.Spelled.{record_of, part_of, TheOne, IsSpelled, IsTextOf}
use Rattle.fkv_hybrid.specs.Pages.{page_in, pages_from, receipts_from, view_as, IsPages}
use Rattle.std.proofs.Math.Nat.{div-eq_of_lt}
use Rattle.std.proofs.lemmas.List.{map-append}
use Rattle.fkv_records.proofs.RecordLemmas.{same_record}
use Rattle.fkv_hybrid.proofs.ByteLemmas.{one_of, one_is, text_code}
use Rattle.fkv_hybrid.proofs.FrameLemmas.{start_rises, none_waits}
use Rattle.fkv_hybrid.proofs.ReceiptLemmas.{from-more}

-- where the text begins is a place
higher : (P : ℕ → Type 0) (begin closed : ℕ) → P begin → P closed → P (cond (nat_le begin closed) closed begin)
higher P begin closed b c = by_test (nat_le begin closed)
  where
    by_test : (t : Bool) → P (cond t closed begin)
    by_test true = c
    by_test false = b

pub begin_place : (bits size begin closed : ℕ) → (begin < 2 ^ 48 → IsRecordStart bits size begin) → (closed < 2 ^ 48 → IsRecordStart bits size closed) → (keeps : Bool)
    → text_begin keeps begin closed < 2 ^ 48 → IsRecordStart bits size (text_begin keeps begin closed)
begin_place bits size begin closed b c true = b
begin_place bits size begin closed b c false = higher (λ n. n < 2 ^ 48 → IsRecordStart bits size n) begin closed b c

pub same_begin : (b : Bool) → text_begin b 64 64 ≡ 64
same_begin true = refl
same_begin false = refl

-- it is no lower than Begin, nor, where the device does not keep, than what is closed; and no higher than both
pub begins_low : (b : Bool) (begin closed a : ℕ) → begin ≤ a → closed ≤ a → text_begin b begin closed ≤ a
begins_low true begin closed a h k = h
begins_low false begin closed a h k = higher (λ n. n ≤ a) begin closed h k

pub begins_high : (b : Bool) (begin closed : ℕ) → begin ≤ text_begin b begin closed
begins_high true begin closed = omega arith
begins_high false begin closed = grind (arith, nat_tests)

pub begins_closed : (begin closed : ℕ) → closed ≤ text_begin false begin closed
begins_closed begin closed = grind (arith, nat_tests)

-- it rises with both
pub begins_rise : (b : Bool) (begin closed more further : ℕ) → begin ≤ more → closed ≤ further → text_begin b begin closed ≤ text_begin b more further
begins_rise true begin closed more further h k = h
begins_rise false begin closed more further h k =
    let low = begins_high false more further in
    let high = begins_closed more further in
    begins_low false begin closed (text_begin false more further) (omega arith) (omega arith)

module _ {K V : Type 0} {ksize vsize : ℕ} (key : Codec K ksize) (value : Codec V vsize) where
  -- ---- one text at most
  module _ (bits : ℕ) (pages : ℕ → Option (List ℕ)) where
    one_entry : (e d : Entry K V) → e.address ≡ d.address → IsSpelled key value bits pages e → IsSpelled key value bits pages d → e ≡ d
    one_entry e d at s t =
        let size = size_of ksize vsize in
        let there : pages (page_at bits e.address) ≡ Some t.page = ap (λ (a : ℕ). pages (page_at bits a)) at ∙ t.here in
        let pages_same : s.page ≡ t.page = (let both : Some s.page ≡ Some t.page = sym s.here ∙ there in cc) in
        let parts : part_of t.page (offset_at bits d.address) size ≡ part_of s.page (offset_at bits e.address) size =
        ap (λ (p : List ℕ). part_of p (offset_at bits d.address) size) (sym pages_same) ∙ ap (λ (a : ℕ). part_of s.page (offset_at bits a) size) (sym at) in
        let r : record_of e ≡ record_of d = same_record key value e.address (part_of s.page (offset_at bits e.address) size)
        (record_of e) (record_of d) s.sound (subst (λ (a : ℕ). IsRecord key value a (record_of d)) (sym at) t.sound) s.spells
        (subst (λ (b : List ℕ). Spells key value b (record_of d)) parts t.spells) in
        λ i. record { address = at i; previous = (r i).previous; key = (r i).key; value = (r i).value; delta = (r i).delta }

    one_text-from : (tail begin : ℕ) (text other : List (Entry K V)) → IsLaidOut bits (size_of ksize vsize) begin tail text → IsLaidOut bits (size_of ksize vsize) begin tail other
        → ((i : ℕ) (e : Entry K V) → slice_get text i ≡ Some e → IsSpelled key value bits pages e)
        → ((i : ℕ) (e : Entry K V) → slice_get other i ≡ Some e → IsSpelled key value bits pages e) → text ≡ other
    one_text-from tail begin [] [] h k s t = refl
    one_text-from tail begin [] (y ∷ ys) h k s t = let end : begin ≡ tail = h in let on : begin < tail = k.1 in absurd (omega arith)
    one_text-from tail begin (x ∷ xs) [] h k s t = let end : begin ≡ tail = k in let on : begin < tail = h.1 in absurd (omega arith)
    one_text-from tail begin (x ∷ xs) (y ∷ ys) h k s t =
        let e : x ≡ y = one_entry x y (h.0 ∙ sym k.0) (s zero x refl) (t zero y refl) in
        let rest : xs ≡ ys = one_text-from tail (tail_after bits (size_of ksize vsize) begin) xs ys h.2 k.2 (λ i. s (suc i)) (λ i. t (suc i)) in
        λ i. e i ∷ rest i

    pub one_text : (from tail : ℕ) (text other : List (Entry K V)) → IsTextOf key value bits pages from tail text
        → IsTextOf key value bits pages from tail other → text ≡ other
    one_text from tail text other h k = one_text-from tail from text other h.laid_out k.laid_out h.spelled k.spelled

    pub the_text : Coded K → Coded V → (from tail : ℕ) (text : List (Entry K V)) → IsTextOf key value bits pages from tail text
        → TheOne (λ t. IsTextOf key value bits pages from tail t)
    the_text k v from tail text h = one_of (text_code k v) (λ t. IsTextOf key value bits pages from tail t) (one_text from tail) text h

  pub text_is : (bits : ℕ) (pages : ℕ → Option (List ℕ)) (from tail : ℕ) (o : TheOne (λ t. IsTextOf key value bits pages from tail t)) (text : List (Entry K V))
      → IsTextOf key value bits pages from tail text → (o.0).0 ≡ text
  text_is bits pages from tail o text h = sym (one_is (λ t. IsTextOf key value bits pages from tail t) o text h)

  -- what is known of a text that the pages spell is known of the one
  pub log_of : (keeps : Bool) (shape : Shape) (begin closed frozen tail : ℕ) (receipts : List (Option Standing)) (ring : Ring)
      (o : TheOne (λ t. IsTextOf key value shape.page_bits (page_in (page_at shape.page_bits closed) receipts ring) (text_begin keeps begin closed) tail t))
      (text : List (Entry K V)) → IsPages key value keeps shape begin closed frozen tail receipts ring text
      → IsPages key value keeps shape begin closed frozen tail receipts ring (o.0).0
  log_of keeps shape begin closed frozen tail receipts ring o text l =
      subst (λ (t : List (Entry K V)). IsPages key value keeps shape begin closed frozen tail receipts ring t)
      (sym (text_is shape.page_bits (page_in (page_at shape.page_bits closed) receipts ring) (text_begin keeps begin closed) tail o text l.spelled)) l

  -- what a contract sees of it
  pub view_of : (keeps : Bool) (shape : Shape) (begin : ℕ) (regions : RegionsView) (tail : ℕ) (receipts : List (Option Standing)) (ring : Ring)
      (o : TheOne (λ t. IsTextOf key value shape.page_bits (page_in (page_at shape.page_bits regions.offsets.closed) receipts ring) (text_begin keeps begin regions.offsets.closed) tail t))
      (text : List (Entry K V)) → IsPages key value keeps shape begin regions.offsets.closed regions.offsets.safe_read_only tail receipts ring text
      → view_as keeps shape begin regions tail receipts ring (o.0).0 ≡ view_as keeps shape begin regions tail receipts ring text
  view_of keeps shape begin regions tail receipts ring o text l =
      ap (λ (t : List (Entry K V)). view_as keeps shape begin regions tail receipts ring t)
      (text_is shape.page_bits (page_in (page_at shape.page_bits regions.offsets.closed) receipts ring) (text_begin keeps begin regions.offsets.closed) tail o text l.spelled)

  -- pages that are the same at each entry spell the same
  pub transfer : (bits : ℕ) (pages others : ℕ → Option (List ℕ)) (from tail : ℕ) (text : List (Entry K V))
      → ((i : ℕ) (e : Entry K V) → slice_get text i ≡ Some e → others (page_at bits e.address) ≡ pages (page_at bits e.address))
      → IsTextOf key value bits pages from tail text → IsTextOf key value bits others from tail text
  transfer bits pages others from tail text same t = record {
    laid_out = t.laid_out;
    spelled = λ i e g. let s = t.spelled i e g in record { page = s.page; here = same i e g ∙ s.here; sound = s.sound; spells = s.spells };
  }

  -- each place from where the text begins has an entry
  pub place_entry : (keeps : Bool) (shape : Shape) (begin closed frozen tail : ℕ) (receipts : List (Option Standing)) (ring : Ring) (text : List (Entry K V)) (a : ℕ)
      → IsPages key value keeps shape begin closed frozen tail receipts ring text → begin ≤ a → closed ≤ a → a < tail → IsRecordStart shape.page_bits shape.record_size a → IsSome (entry_at text a)
  place_entry keeps shape begin closed frozen tail receipts ring text a log begun low high place =
      let o = log.ordered in
      entry_there shape.page_bits shape.record_size shape.limits (text_begin keeps begin closed) tail a text (begin_place shape.page_bits shape.record_size begin closed o.begin_place o.closed_place keeps) o.most
      (rw (← log.size) at log.spelled.laid_out) place (begins_low keeps begin closed a begun low) high

  -- and an entry stands at a place below the tail
  pub entry_place : (keeps : Bool) (shape : Shape) (begin closed frozen tail : ℕ) (receipts : List (Option Standing)) (ring : Ring) (text : List (Entry K V)) (a : ℕ)
      → IsPages key value keeps shape begin closed frozen tail receipts ring text → IsSome (entry_at text a)
      → Stands shape.page_bits shape.record_size shape.limits (text_begin keeps begin closed) tail a
  entry_place keeps shape begin closed frozen tail receipts ring text a log some =
      let o = log.ordered in
      entry_stands shape.page_bits shape.record_size shape.limits (text_begin keeps begin closed) tail a text (begin_place shape.page_bits shape.record_size begin closed o.begin_place o.closed_place keeps) o.most
      (rw (← log.size) at log.spelled.laid_out) some

  -- so there is one at each of these places, and nowhere else
  pub text_places : (keeps : Bool) (shape : Shape) (begin closed frozen tail : ℕ) (receipts : List (Option Standing)) (ring : Ring) (text : List (Entry K V))
      → IsPages key value keeps shape begin closed frozen tail receipts ring text → (a : ℕ)
      → IsSome (entry_at text a) ↔ ((text_begin keeps begin closed ≤ a) × (a < tail) × IsRecordStart shape.page_bits (size_of ksize vsize) a)
  text_places keeps shape begin closed frozen tail receipts ring text log a =
      let bits = shape.page_bits in
      let o = log.ordered in
      let some = shape.limits.some in (
        (λ there.
            let s = entry_place keeps shape begin closed frozen tail receipts ring text a log there in
            let high = s.high in
            (s.low, omega arith, subst (λ (n : ℕ). IsRecordStart bits n a) log.size s.place)),
        (λ h. entry_there bits shape.record_size shape.limits (text_begin keeps begin closed) tail a text (begin_place bits shape.record_size begin closed o.begin_place o.closed_place keeps) o.most
            (rw (← log.size) at log.spelled.laid_out) (subst (λ (n : ℕ). IsRecordStart bits n a) (sym log.size) h.2) h.0 h.1),
      )

  -- what holds of every text
  pub text_rises : (keeps : Bool) (shape : Shape) (begin closed frozen tail : ℕ) (receipts : List (Option Standing)) (ring : Ring) (text : List (Entry K V))
      → IsPages key value keeps shape begin closed frozen tail receipts ring text → IsRising text
  text_rises keeps shape begin closed frozen tail receipts ring text log =
      let o = log.ordered in
      rising shape.page_bits shape.record_size shape.limits (text_begin keeps begin closed) tail text (begin_place shape.page_bits shape.record_size begin closed o.begin_place o.closed_place keeps) o.most
      (rw (← log.size) at log.spelled.laid_out)

  pub text_stands : (keeps : Bool) (shape : Shape) (begin closed frozen tail : ℕ) (receipts : List (Option Standing)) (ring : Ring) (text : List (Entry K V))
      → IsPages key value keeps shape begin closed frozen tail receipts ring text → (i : ℕ) (e : Entry K V) → slice_get text i ≡ Some e
      → Stands shape.page_bits shape.record_size shape.limits (text_begin keeps begin closed) tail e.address
  text_stands keeps shape begin closed frozen tail receipts ring text log i e g =
      let o = log.ordered in
      stands shape.page_bits shape.record_size shape.limits (text_begin keeps begin closed) tail text (begin_place shape.page_bits shape.record_size begin closed o.begin_place o.closed_place keeps) o.most
      (rw (← log.size) at log.spelled.laid_out) i e g

  -- ---- pages of no records
  pub empty : (keeps : Bool) (shape : Shape) (ring : Ring) (page : List ℕ) → shape.record_size ≡ size_of ksize vsize → ring.bits ≡ shape.page_bits → 0 < length ring.slots
      → held ring 0 ≡ Some page → length page ≡ 2 ^ shape.page_bits → IsPages key value keeps shape 64 64 64 64 [] ring []
  empty keeps shape ring page size same some here sized =
      let bits = shape.page_bits in
      let p = page_sized bits shape.record_size shape.limits in
      let at : 64 / 2 ^ bits ≡ 0 = div-eq_of_lt (let low = p.low in omega arith) in
      record {
        size = size;
        spelled = record { laid_out = same_begin keeps; spelled = λ i e g. absurd (cc) };
        ordered = record {
          begin_frozen = omega arith;
          closed_frozen = omega arith;
          frozen_tail = omega arith;
          most = omega arith;
          begin_place = λ h. first;
          closed_place = λ h. first;
          tail_place = λ h. first;
          begin_flushed = omega (arith, at);
          flushed_low = omega (arith, at);
          flushed_high = omega arith;
        };
        ringed = record {
          bits_same = same;
          there = λ n h k. record { page = page; here = ap (λ (m : ℕ). held ring m) (first_page bits n p.low k) ∙ here; sized = sized };
          room = λ n k. let z = first_page bits n p.low k in omega (arith, z, some);
        };
        flushed = record {
          gone = λ n low. refl;
          there = λ n low high. absurd (omega arith);
          own = λ n s g. absurd (cc);
          sized = λ n s g. absurd (cc);
          kept = λ h n s low g. absurd (cc);
        };
      }
    where
      first_page : (bits n : ℕ) → 256 ≤ 2 ^ bits → start_at bits n < 64 → n ≡ 0
      first_page bits n low k = elim (cases_lt n 1) [
        | inl none ↦ omega arith
        | inr one ↦ (let s = start_rises bits 1 n one in absurd (omega (arith, s, low)))
      ]

-- what follows from both ends of a call holds after it
pub either : {T E : Type 0} (r : Result T E) {P Q X : Type 0} → OnOk r P → OnErr r Q → (P → X) → (Q → X) → X
either (Ok x) p q f h = f p
either (Err e) p q f h = h q

-- the receipts once one is kept
pub kept_more : {R : Type 0} (stands : R → Standing) (gone : ℕ) (old new : List R) (r : R) → new ≡ old ++ r ∷ []
    → receipts_from gone (map stands new) ≡ receipts_from gone (map stands old) ++ Some (stands r) ∷ []
kept_more stands gone old new r e = ap (λ l. receipts_from gone (map stands l)) e ∙ ap (receipts_from gone) (map-append stands old (r ∷ [])) ∙ from-more gone (map stands old) (stands r)

-- by what is there
pub if_some : {A : Type 0} (o : Option A) {P : A → Type 0} → ((x : A) → o ≡ Some x → P x) → IfSome o P
if_some None h = tt
if_some (Some x) h = h x refl

-- by why there is none
pub if_err : {T E : Type 0} (r : Result T E) {P : E → Type 0} → ((e : E) → r ≡ Err e → P e) → IfErr r P
if_err (Ok x) h = tt
if_err (Err e) h = h e refl

-- what is there
pub some_is : {A : Type 0} (o : Option A) → IsSome o → (x : A) × (o ≡ Some x)
some_is None h = absurd (cc)
some_is (Some x) h = (x, refl)

-- no receipt was let go where Begin is in page 0
pub none_kept : (shape : Shape) → receipts_from (page_at shape.page_bits 64) [] ≡ []
none_kept shape =
    let p = page_sized shape.page_bits shape.record_size shape.limits in
    let at : 64 / 2 ^ shape.page_bits ≡ 0 = div-eq_of_lt (let low = p.low in omega arith) in
    ap (λ (n : ℕ). receipts_from n []) at

-- no page waits where none is frozen
pub none_frozen : (shape : Shape) (ring : Ring) → pages_from ring 0 (page_at shape.page_bits 64 - 0) ≡ []
none_frozen shape ring =
    let p = page_sized shape.page_bits shape.record_size shape.limits in
    let at : 64 / 2 ^ shape.page_bits ≡ 0 = div-eq_of_lt (let low = p.low in omega arith) in
    none_waits ring 0 (page_at shape.page_bits 64) (omega (arith, at))

-- a place is at least the first, and so is the end of all
pub place_first : (shape : Shape) (a : ℕ) → (a < 2 ^ 48 → IsRecordStart shape.page_bits shape.record_size a) → 64 ≤ a
place_first shape a h = elim (cases_lt a (2 ^ 48)) [
  | inl below ↦ place_low shape.page_bits shape.record_size shape.limits a (h below)
  | inr end ↦ omega arith
]

-- an entry whose value is there is there
pub valued : {K V : Type 0} (o : Option (Entry K V)) → IsSome (value_of o) → IsSome o
valued None h = absurd (cc)
valued (Some e) h = refl

-- what follows from one end of a call
pub ok_then : {T E : Type 0} (r : Result T E) {P Q : Type 0} → OnOk r P → (P → Q) → OnOk r Q
ok_then (Ok x) p f = f p
ok_then (Err e) p f = tt

pub err_then : {T E : Type 0} (r : Result T E) {P Q : Type 0} → OnErr r P → (P → Q) → OnErr r Q
err_then (Ok x) p f = tt
err_then (Err e) p f = f p

-- what holds of what is there
pub if_is : {A : Type 0} (o : Option A) (P : A → Type 0) (x : A) → IfSome o P → o ≡ Some x → P x
if_is o P x h e = subst (λ (q : Option _). IfSome q P) e h

-- the same beside why it is refused
pub err_also : {T E : Type 0} (P : E → Type 0) (r : Result T E) {A B : Type 0} → IfErr r (λ e. P e × A) → (A → B) → IfErr r (λ e. P e × B)
err_also P (Ok x) p f = tt
err_also P (Err e) p f = (p.0, f p.1)
