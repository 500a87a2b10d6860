-- What changes of records leave to the operations that are open.
use Rattle.std.proofs.Common.{◌≡◌, true, false, ℕ, ◌+◌, ◌*◌, ◌/◌, ◌^◌, ◌<◌, ◌≤◌, ◌⊎◌, ◌&&◌, ◌==◌, inl, inr, Bool, IsTrue, List, [], ◌∷◌, cond, unwrap_or, nat_le, slice_get, Option, Some, None, refl, sym, ◌∙◌, ap, subst, arith}
use Rattle.std.proofs.lemmas.Bool.Decides.{nat_tests}
use Rattle.std.proofs.lemmas.Bool.{and_parts, leb-true, cases_lt}
use Rattle.std.proofs.lemmas.Nat.{div-add-mod', pow_pos}
use Rattle.std.proofs.Math.Nat.{mod-lt}
use Rattle.fkv_records.proofs.PlaceLemmas.{next_start}
use Rattle.std.specs.declared.cmp.Ordering.{Ordering}
use Rattle.fkv_records.specs.Places.{behind, end_at}
use Rattle.fkv_device.specs.Standing.{Standing}
use Rattle.fkv_hybrid.specs.Views.{text_begin}
use Rattle.fkv_regions.specs.Agree.{IsInOrder, IsRaised}
use Rattle.fkv_regions.specs.RegionsView.{RegionsView}
use Rattle.fkv_texts.specs.declared.entries.Entry.{Entry}
use Rattle.fkv_texts.specs.Text.{entry_at, has_key, newest, value_of}
use Rattle.fkv_texts.specs.Places.{tail_after, IsLaidOut}
use Rattle.fkv_texts.proofs.LastWhere.{last_where-found, last_where-none}
use Rattle.fkv_texts.proofs.TextLemmas.{entry_at-old, newest-below}
use Rattle.fkv_texts.specs.Text.{set_at}
use Rattle.fkv_texts.proofs.ChangeLemmas.{by_test, entry_at-elsewhere, was_at, set_at-address, set_at-key}
use Rattle.fkv_texts.proofs.CutLemmas.{cut-entry, filter-in}
use Rattle.fkv_texts.specs.Chains.{IsIn}
use Rattle.fkv_texts.specs.Deltas.{combined}
use Rattle.fkv_functions.proofs.ListLemmas.{get-append_cases}
use Rattle.std.specs.BTreeMap.{is_at}
use Rattle.fkv_index.specs.declared.words.Place.{Place}
use Rattle.fkv_index.specs.declared.words.Word.{Word}
use Rattle.fkv_index.specs.Words.{address_of, final_word, tag_of, is_final}
use Rattle.fkv_index.specs.Places.{word_at, with_word, IsPlace}
use Rattle.fkv_index.specs.Changes.{Writes}
use Rattle.fkv_index.proofs.Written.{written_there, writes}
use Rattle.fkv_operations.specs.After.{key_of}
use Rattle.fkv_operations.specs.Still.{IsStill}
use Rattle.fkv_operations.specs.KeptWords.{ReusesNoAddress}
use Rattle.fkv_operations.specs.declared.entries.IndexEntry.{IndexEntry}
use Rattle.fkv_operations.specs.declared.operations.KeyedOp.{KeyedOp}
use Rattle.fkv_operations.specs.declared.operations.KeyedOp.TheVariants.{Read, Upsert, Rmw, Delete, Merge}
use Rattle.fkv_operations.proofs.KeptLemmas.{still-raised}
use Rattle.fkv_lookups.specs.Lookups.{IsOfClass}
use Rattle.fkv_lookups.specs.RecordsViews.{RecordsView, class_in, indexed, WasEntryOf, with_written, with_value, with_regions, with_receipt, IsMoved}
use Rattle.fkv_lookups.specs.Traced.{IsTraced}
use Rattle.fkv_lookups.proofs.TracedLemmas.{begin_rises, from_first}
use Rattle.fkv_lookups.specs.declared.payloads.Payload.{Payload}
use Rattle.fkv_lookups.specs.Payloads.{value_in, is_part}
use Rattle.fkv_partition.specs.declared.contexts.Phase.{Phase}
use Rattle.fkv_partition.specs.declared.contexts.Phase.TheVariants.{Fresh, Confirm, Prepared, Load}
use Rattle.fkv_partition.specs.declared.contexts.Loading.{Loading}
use Rattle.fkv_partition.specs.Contexts.{claim_by}
use Rattle.fkv_partition.specs.KeySound.{IsKept, IsLoading, StandsFor}
use Rattle.fkv_partition.proofs.ClaimLemmas.{place-or}

-- records change: on a device that keeps, what is newest at or below each address that is taken stays where it is still;
-- what is frozen is frozen, and of its class while the text has begun there; no offset falls, no place of the index goes,
-- and no class changes; a final word that leads to a taken address, and stands, stood there before, or leads nowhere
pub record Grows {K V : Type 0} (keeps : Bool) (cmp : K → K → Ordering) (join : V → V → V) (code : K → ℕ) (old new : RecordsView K V) : Type 0 where
  pub class : (k : K) → class_in code new k ≡ class_in code old k
  pub tail : old.log.tail ≤ new.log.tail
  pub safe : old.log.regions.offsets.safe_read_only ≤ new.log.regions.offsets.safe_read_only
  pub head : old.log.regions.offsets.head ≤ new.log.regions.offsets.head
  pub begin : new.log.begin ≡ old.log.begin
  pub from : old.log.from ≤ new.log.from
  pub kept : IsTrue keeps
      → (k : K) (a : ℕ)
      → a < old.log.tail
      → IsStill old.log.regions.offsets.safe_read_only (newest cmp old.text k a)
      → newest cmp new.text k a ≡ newest cmp old.text k a
  pub same_class : (k : K) (a : ℕ)
      → a < old.log.regions.offsets.safe_read_only
      → new.log.from ≤ a
      → IsOfClass code old k a
      → IsOfClass code new k a
  pub was : (e : Entry K V)
      → IsIn new.log.text e
      → e.address < old.log.tail
      → (d : Entry K V) × IsIn old.log.text d × (d.address ≡ e.address) × (d.key ≡ e.key) × (d.delta ≡ e.delta)
  pub places : (p : Place) → IsPlace old.words p → IsPlace new.words p
  pub held : (p : Place) (w : Word)
      → IsTrue (is_final w)
      → address_of w < old.log.tail
      → word_at new.words p ≡ w
      → (word_at old.words p ≡ w) ⊎ (address_of w < 64)

-- so no address is used twice
pub next-grown : {K V : Type 0} {keeps : Bool} {cmp : K → K → Ordering} {join : V → V → V} {code : K → ℕ} (old new : RecordsView K V) → Grows keeps cmp join code old new → IsTrue keeps → ReusesNoAddress cmp (indexed old) (indexed new)
next-grown old new g yes_keeps = record {
  begin = (let same = g.begin in omega arith);
  frozen = g.safe;
  tail = g.tail;
  records = λ k a low still. inl (g.kept yes_keeps k a low still);
  places = g.places;
  words = λ p w final here. elim (cases_lt (address_of w) old.log.tail) [
    | inl low ↦ elim (g.held p w final low here) [ inl was ↦ inl was | inr none ↦ inr (inl none) ]
    | inr high ↦ inr (inr high)
  ];
}

-- below the first record no key has one
pub newest-nowhere : {K V : Type 0} {keeps : Bool} {code : K → ℕ} (cmp : K → K → Ordering) (r : RecordsView K V) (k : K) (a : ℕ) → IsTraced keeps code r → a < 64 → newest cmp r.text k a ≡ None
newest-nowhere cmp r k a t low = last_where-none (λ e. nat_le e.address a && has_key cmp k e) r.text (λ i e h.
    let high : r.log.from ≤ e.address = t.from i e h in
    let from = from_first t in
    let least = t.first in
    let no : nat_le e.address a ≡ false = grind (arith, nat_tests) in
    rw no refl)

-- nor below where the text begins
pub newest-under : {K V : Type 0} {keeps : Bool} {code : K → ℕ} (cmp : K → K → Ordering) (r : RecordsView K V) (k : K) (a : ℕ) → IsTraced keeps code r → a < r.log.from → newest cmp r.text k a ≡ None
newest-under cmp r k a t low = last_where-none (λ e. nat_le e.address a && has_key cmp k e) r.text (λ i e h.
    let high : r.log.from ≤ e.address = t.from i e h in
    let no : nat_le e.address a ≡ false = grind (arith, nat_tests) in
    rw no refl)

-- the newest of a key below a frozen address is still
pub still-below : {K V : Type 0} (cmp : K → K → Ordering) (text : List (Entry K V)) (k : K) (a safe : ℕ) → a < safe → IsStill safe (newest cmp text k a)
still-below cmp text k a safe low = by_newest (newest cmp text k a) refl
  where
    by_newest : (o : Option (Entry _ _)) → newest cmp text k a ≡ o → IsStill safe o
    by_newest None h = tt
    by_newest (Some e) h =
        let found = last_where-found (λ x. nat_le x.address a && has_key cmp k x) text e h in
        let parts = and_parts (nat_le e.address a) (has_key cmp k e) found in
        let under : nat_le e.address a ≡ true = parts.0 in
        let le : e.address ≤ a = grind (arith, nat_tests, under) in
        inr (inr (omega arith))

was-entry : {K V : Type 0} {keeps : Bool} {cmp : K → K → Ordering} {join : V → V → V} {code : K → ℕ} {old new : RecordsView K V} (k : K) (e : IndexEntry) → Grows keeps cmp join code old new → WasEntryOf old (class_in code old k) e → WasEntryOf new (class_in code new k) e
was-entry k e g w = rw (g.class k) (record { place = g.places e.place w.place; bucket = w.bucket; final = w.final; tag = w.tag })

pub loading-grown : {K V : Type 0} (keeps : Bool) (cmp : K → K → Ordering) (join : V → V → V) (code : K → ℕ) (old new : RecordsView K V) (k : K) (l : Loading V) → IsTraced keeps code old → Grows keeps cmp join code old new → IsLoading keeps cmp join code old k l → IsLoading keeps cmp join code new k l
loading-grown keeps cmp join code old new k l t g h =
    let o = t.regions.agree.in_order in
    let on_disk = h.on_disk in
    let frozen : l.wanted < old.log.regions.offsets.safe_read_only = omega (arith, on_disk, o.head) in
    let taken : l.wanted < old.log.tail = omega (arith, frozen, o.safe, t.regions.read_only) in
    let low = h.low in
    let tail = g.tail in
    let head = g.head in
    record {
      entry = was-entry k l.kept g h.entry;
      low = omega arith;
      begun = h.begun;
      past = (let was = h.past in let same = g.begin in omega arith);
      on_disk = omega arith;
      leads = λ yes_keeps same.
          let was = h.leads yes_keeps (same ∙ g.begin) in
          record {
            class = λ begun. g.same_class k l.wanted frozen begun (was.class (let up = g.from in omega arith));
            still =
                subst (IsStill new.log.regions.offsets.safe_read_only) (sym (kept-same yes_keeps same))
                (still-raised old.log.regions.offsets.safe_read_only new.log.regions.offsets.safe_read_only (newest cmp old.text k (address_of l.kept.word)) g.safe was.still);
            newest =
                ap value_of (kept-same yes_keeps same)
                ∙ was.newest
                ∙ sym (ap (λ o. combined join (value_of o) l.parts) (g.kept yes_keeps k l.wanted taken (still-below cmp old.text k l.wanted old.log.regions.offsets.safe_read_only frozen)));
            between = λ e m key above under.
                let d = g.was e m (omega (arith, low, under)) in
                let own : has_key cmp k d.0 ≡ true = ap (λ q. is_at (cmp q) k) d.3 ∙ key in
                sym d.4 ∙ was.between d.0 d.1 own (let at = d.2 in omega (arith, at, above)) (let at = d.2 in omega (arith, at, under));
          };
    }
  where
    -- what is newest from where the entry led stays
    kept-same : IsTrue keeps → l.begin ≡ new.log.begin → newest cmp new.text k (address_of l.kept.word) ≡ newest cmp old.text k (address_of l.kept.word)
    kept-same yes_keeps same = g.kept yes_keeps k (address_of l.kept.word) h.low (h.leads yes_keeps (same ∙ g.begin)).still

pub kept-grown : {K V : Type 0} (keeps : Bool) (cmp : K → K → Ordering) (join : V → V → V) (code : K → ℕ) (old new : RecordsView K V) (k : K) (e : IndexEntry) (source : Option V) → IsTraced keeps code old → Grows keeps cmp join code old new → IsKept keeps cmp code old k e source
    → IsKept keeps cmp code new k e source
kept-grown keeps cmp join code old new k e source t g h =
    let low = h.low in
    let tail = g.tail in
    record {
      entry = was-entry k e g h.entry;
      low = omega arith;
      value = λ yes_keeps here. by_value yes_keeps (g.held e.place e.word h.entry.final low here);
      still = λ yes_keeps here. by_still yes_keeps (g.held e.place e.word h.entry.final low here);
      nowhere = h.nowhere;
    }
  where
    a : ℕ
    a = address_of e.word

    -- what leads nowhere
    nowhere : IsTrue keeps → a < 64 → newest cmp new.text k a ≡ None
    nowhere yes_keeps none =
        let was = newest-nowhere cmp old k a t none in
        g.kept yes_keeps k a h.low (rw was tt) ∙ was

    by_value : IsTrue keeps → (word_at old.words e.place ≡ e.word) ⊎ (a < 64) → value_of (newest cmp new.text k a) ≡ source
    by_value yes_keeps (inl was) = ap value_of (g.kept yes_keeps k a h.low (h.still yes_keeps was)) ∙ h.value yes_keeps was
    by_value yes_keeps (inr none) = ap value_of (nowhere yes_keeps none) ∙ sym (h.nowhere yes_keeps none)

    by_still : IsTrue keeps → (word_at old.words e.place ≡ e.word) ⊎ (a < 64) → IsStill new.log.regions.offsets.safe_read_only (newest cmp new.text k a)
    by_still yes_keeps (inl was) = subst (IsStill new.log.regions.offsets.safe_read_only) (sym (g.kept yes_keeps k a h.low (h.still yes_keeps was)))
        (still-raised old.log.regions.offsets.safe_read_only new.log.regions.offsets.safe_read_only (newest cmp old.text k a) g.safe (h.still yes_keeps was))
    by_still yes_keeps (inr none) = rw (nowhere yes_keeps none) tt

-- an operation stands for what it stood for, where the word that it claims stays
pub stands-grown : {K V I : Type 0} (keeps : Bool) (cmp : K → K → Ordering) (join : V → V → V) (code : K → ℕ) (old new : RecordsView K V) (op : KeyedOp K V I) (phase : Phase V) → IsTraced keeps code old → Grows keeps cmp join code old new → ((p : Place) → claim_by phase ≡ Some p → word_at new.words p ≡ word_at old.words p) → StandsFor keeps cmp join code old op phase → StandsFor keeps cmp join code new op phase
stands-grown keeps cmp join code old new op Fresh t g n h = tt
stands-grown keeps cmp join code old new op (Confirm p) t g n h =
    rw (g.class (key_of op)) (record { bucket = h.bucket; word = n p refl ∙ h.word })
stands-grown keeps cmp join code old new (Read k i) (Prepared e s) t g n h = h
stands-grown keeps cmp join code old new (Upsert k v) (Prepared e s) t g n h = h
stands-grown keeps cmp join code old new (Rmw k i) (Prepared e s) t g n h = kept-grown keeps cmp join code old new k e s t g h
stands-grown keeps cmp join code old new (Delete k) (Prepared e s) t g n h = h
stands-grown keeps cmp join code old new (Merge k i) (Prepared e s) t g n h = h
stands-grown keeps cmp join code old new (Read k i) (Load l) t g n h = loading-grown keeps cmp join code old new k l t g h
stands-grown keeps cmp join code old new (Upsert k v) (Load l) t g n h = h
stands-grown keeps cmp join code old new (Rmw k i) (Load l) t g n h = loading-grown keeps cmp join code old new k l t g h
stands-grown keeps cmp join code old new (Delete k) (Load l) t g n h = h
stands-grown keeps cmp join code old new (Merge k i) (Load l) t g n h = h

-- ---- the tail, and the entry that is moved there
after-most : (bits size a : ℕ) → tail_after bits size a ≤ 2 ^ 48
after-most bits size a = by_room (nat_le (behind bits size a + size) (2 ^ 48)) refl
  where
    by_room : (b : Bool) → nat_le (behind bits size a + size) (2 ^ 48) ≡ b → unwrap_or (cond b (Some (behind bits size a)) None) (2 ^ 48) ≤ 2 ^ 48
    by_room true h = let room : behind bits size a + size ≤ 2 ^ 48 = leb-true (behind bits size a + size) (2 ^ 48) h in omega arith
    by_room false h = omega arith

module _ {K V : Type 0} where
  laid-most : (bits size begin tail : ℕ) (text : List (Entry K V)) → begin ≤ 2 ^ 48 → IsLaidOut bits size begin tail text → tail ≤ 2 ^ 48
  laid-most bits size begin tail [] low h = let same : begin ≡ tail = h in omega arith
  laid-most bits size begin tail (e ∷ es) low h = laid-most bits size (tail_after bits size begin) tail es (after-most bits size begin) h.2

  -- no record stands above the greatest address
  pub tail-most : {keeps : Bool} {code : K → ℕ} (v : RecordsView K V) → IsTraced keeps code v → v.log.tail ≤ 2 ^ 48
  tail-most {keeps} v t = laid-most v.log.bits v.record_size v.log.from v.log.tail v.text (subst (λ n. n ≤ 2 ^ 48) (sym t.begins) (by_keeps keeps)) t.laid_out
    where
      o : IsInOrder v.log.regions.bits v.log.regions.flushed v.log.regions.offsets
      o = t.regions.agree.in_order

      headed : v.log.begin ≤ 2 ^ 48
      headed = omega (arith, t.regions.headed, o.head, o.safe, o.most)

      by_closed : (b : Bool) → cond b v.log.regions.offsets.closed v.log.begin ≤ 2 ^ 48
      by_closed true = omega (arith, o.closed, o.head, o.safe, o.most)
      by_closed false = headed

      by_keeps : (b : Bool) → text_begin b v.log.begin v.log.regions.offsets.closed ≤ 2 ^ 48
      by_keeps true = headed
      by_keeps false = by_closed (nat_le v.log.begin v.log.regions.offsets.closed)

-- and none lower than before stands at the next
pub tail-up : (bits size a : ℕ) → a ≤ 2 ^ 48 → a ≤ tail_after bits size a
tail-up bits size a low = by_room (nat_le (a + 2 * size) (end_at bits a)) (nat_le (behind bits size a + size) (2 ^ 48)) refl
  where
    ends : a ≤ end_at bits a
    ends = let whole = div-add-mod' a (2 ^ bits) in let under = mod-lt a (pow_pos bits) in let next = next_start (a / 2 ^ bits) (2 ^ bits) in omega (arith, whole, under, next)

    by_room : (b c : Bool) → nat_le (a + 2 * size) (end_at bits a) ≡ b → a ≤ unwrap_or (cond c (Some (cond b (a + size) (end_at bits a))) None) (2 ^ 48)
    by_room true true h = omega arith
    by_room false true h = ends
    by_room b false h = low

final-address : (t a : ℕ) → a < 2 ^ 48 → address_of (final_word t a) ≡ a
unfolding address_of final_word
final-address t a low = omega arith

last-address : (t a : ℕ) → a ≡ 2 ^ 48 → address_of (final_word t a) < 64
unfolding address_of final_word
last-address t a last = omega arith

-- where the entry leads that was moved, which is nowhere at the end of all
pub appended-leads : (words : List (List Word)) (p : Place) (t a : ℕ) → IsPlace words p → a ≤ 2 ^ 48 → (address_of (word_at (with_word words p (final_word t a)) p) ≡ a) ⊎ (address_of (word_at (with_word words p (final_word t a)) p) < 64)
appended-leads words p t a place low =
    let there = written_there words p (final_word t a) place in
    elim (cases_lt a (2 ^ 48)) [
      | inl under ↦ inl (ap address_of there ∙ final-address t a under)
      | inr end ↦ inr (subst (λ w. address_of w < 64) (sym there) (last-address t a (omega arith)))
    ]

-- another value leaves whether a record is a delta
flag-kept : {K V : Type 0} (a : ℕ) (v : Option V) (e : Entry K V) → (set_at a v e).delta ≡ e.delta
flag-kept a v e = by_test a v (λ d. d.delta ≡ e.delta) (e.address == a) e refl refl

-- ---- each change
module _ {K V : Type 0} {keeps : Bool} (cmp : K → K → Ordering) (join : V → V → V) (code : K → ℕ) (v : RecordsView K V) (t : IsTraced keeps code v) where
  pub grown-same : Grows keeps cmp join code v v
  grown-same = record {
    class = λ k. refl;
    tail = omega arith;
    safe = omega arith;
    head = omega arith;
    begin = refl;
    from = omega arith;
    kept = λ keeps k a low still. refl;
    same_class = λ k a low begun h. h;
    was = λ e m low. (e, m, refl, refl, refl);
    places = λ p h. h;
    held = λ p w f low h. inl h;
  }

  -- the regions move
  pub grown-regions : (regions : RegionsView) → IsRaised v.log.regions.offsets regions.offsets → Grows keeps cmp join code v (with_regions v regions)
  grown-regions regions up = record {
    class = λ k. refl;
    tail = omega arith;
    safe = up.safe;
    head = up.head;
    begin = refl;
    from = omega arith;
    kept = λ keeps k a low still. refl;
    same_class = λ k a low begun h. record { entry = h.entry; here = h.here; class = h.class };
    was = λ e m low. (e, m, refl, refl, refl);
    places = λ p h. h;
    held = λ p w f low h. inl h;
  }

  -- frames are closed too, and the text may begin higher
  pub grown-moved : (r : RecordsView K V) (regions : RegionsView) → IsMoved keeps regions v r → IsRaised v.log.regions.offsets r.log.regions.offsets → Grows keeps cmp join code v r
  grown-moved r regions m up = record {
    class = λ k. ap (λ (w : RecordsView K V). class_in code w k) m.is;
    tail = (let same : r.log.tail ≡ v.log.tail = ap (λ (w : RecordsView K V). w.log.tail) m.is in omega arith);
    safe = up.safe;
    head = up.head;
    begin = ap (λ (w : RecordsView K V). w.log.begin) m.is;
    from = (let rises = begin_rises keeps v.log.begin v.log.regions.offsets.closed regions.offsets.closed (let same : r.log.regions.offsets.closed ≡ regions.offsets.closed = ap (λ (w : RecordsView K V). w.log.regions.offsets.closed) m.is in let more = up.closed in omega arith) in
        let was = t.begins in
        let is = starts in
        omega arith);
    kept = λ yes_keeps k a low still. ap (λ t. newest cmp t k a) (m.kept yes_keeps);
    same_class = λ k a frozen begun o. record {
      entry = o.entry;
      here = ap (λ (w : RecordsView K V). entry_at w.log.text a) m.is ∙ cut-entry (text_begin keeps v.log.begin regions.offsets.closed) a v.log.text (subst (λ n. n ≤ a) starts begun) ∙ o.here;
      class = ap (λ (w : RecordsView K V). class_in code w o.entry.key) m.is ∙ o.class ∙ sym (ap (λ (w : RecordsView K V). class_in code w k) m.is);
    };
    was = λ e i low. (e, (filter-in (λ (d : Entry K V). nat_le (text_begin keeps v.log.begin regions.offsets.closed) d.address) v.log.text i.place e (ap (λ (w : RecordsView K V). slice_get w.log.text i.place) (sym m.is) ∙ i.here)).0, refl, refl, refl);
    places = λ p h. subst (λ w. IsPlace w p) (sym (ap (λ (w : RecordsView K V). w.words) m.is)) h;
    held = λ p w f low h. inl (sym (ap (λ (u : RecordsView K V). word_at u.words p) m.is) ∙ h);
  }
    where
      starts : r.log.from ≡ text_begin keeps v.log.begin regions.offsets.closed
      starts = ap (λ (w : RecordsView K V). w.log.from) m.is

  -- a page is flushed
  pub grown-flushed : (st : Standing) → Grows keeps cmp join code v (with_receipt v st)
  grown-flushed st = record {
    class = λ k. refl;
    tail = omega arith;
    safe = omega arith;
    head = omega arith;
    begin = refl;
    from = omega arith;
    kept = λ keeps k a low still. refl;
    same_class = λ k a low begun h. record { entry = h.entry; here = h.here; class = h.class };
    was = λ e m low. (e, m, refl, refl, refl);
    places = λ p h. h;
    held = λ p w f low h. inl h;
  }

  frozen-low : (a : ℕ) → a < v.log.regions.offsets.safe_read_only → a < v.log.tail
  frozen-low a low = let o = t.regions.agree.in_order in omega (arith, low, o.safe, t.regions.read_only)

  -- a record at the tail
  pub grown-appended : (e : IndexEntry) (k : K) (payload : Payload V) (has : Option V) → IsPlace v.words e.place → Grows keeps cmp join code v (with_written v e k payload has)
  grown-appended e k payload has place = record {
    class = λ q. refl;
    safe = omega arith;
    head = omega arith;
    begin = refl;
    from = omega arith;
    same_class = λ q a low begun o. (let under = frozen-low a low in record { entry = o.entry; here = entry_at-old v.log.text last a (λ same. omega arith) ∙ o.here; class = o.class });
    was = λ x m low. elim (get-append_cases v.log.text last m.place x m.here) [
      | inl was ↦ (x, record { place = m.place; here = was }, refl, refl, refl)
      | inr new ↦ absurd (let at : v.log.tail ≡ x.address = ap (λ (y : Entry K V). y.address) new.1 in omega arith)
    ];
    tail = tail-up v.log.bits v.record_size v.log.tail (tail-most v t);
    kept = λ keeps q a low still. newest-below cmp v.text stands q a low;
    places = λ p h. (written.places p).1 h;
    held = λ p w f low h. elim (place-or p e.place) [
      | inl here ↦ elim (appended-leads v.words e.place (tag_of e.word) v.log.tail place (tail-most v t)) [
        | inl leads ↦ absurd (let same : address_of w ≡ v.log.tail = ap address_of (sym h ∙ ap (word_at (with_written v e k payload has).words) here) ∙ leads in omega arith)
        | inr none ↦ inr (subst (λ u. address_of u < 64) (sym (ap (word_at (with_written v e k payload has).words) here) ∙ h) none)
      ]
      | inr other ↦ inl (sym (written.elsewhere p other) ∙ h)
    ];
  }
    where
      last : Entry K V
      last = record { address = v.log.tail; previous = address_of e.word; key = k; value = value_in payload; delta = is_part payload }

      stands : Entry K V
      stands = record { address = v.log.tail; previous = address_of e.word; key = k; value = has; delta = is_part payload }

      written : Writes e.place (final_word (tag_of e.word) v.log.tail) v.words (with_written v e k payload has).words
      written = writes v.words e.place (final_word (tag_of e.word) v.log.tail) place

  -- a record gets another value where it stands, or becomes a tombstone
  pub was-replaced : (a : ℕ) (value : Option V) (e : Entry K V) → IsIn (with_value v a value).log.text e
      → (d : Entry K V) × IsIn v.log.text d × (d.address ≡ e.address) × (d.key ≡ e.key) × (d.delta ≡ e.delta)
  was-replaced a value e m =
      let w = was_at a value v.log.text m.place e m.here in
      (w.entry, record { place = m.place; here = w.here }, sym (ap (λ (y : Entry K V). y.address) (sym w.is) ∙ set_at-address a value w.entry), sym (ap (λ (y : Entry K V). y.key) (sym w.is) ∙ set_at-key a value w.entry), sym (ap (λ (y : Entry K V). y.delta) (sym w.is) ∙ flag-kept a value w.entry))

  pub grown-replaced : (a : ℕ) (value : Option V)
      → v.log.regions.offsets.safe_read_only ≤ a
      → ((q : K) (b : ℕ) → IsStill v.log.regions.offsets.safe_read_only (newest cmp v.text q b) → newest cmp (with_value v a value).text q b ≡ newest cmp v.text q b)
      → Grows keeps cmp join code v (with_value v a value)
  grown-replaced a value high kept = record {
    class = λ q. refl;
    tail = omega arith;
    safe = omega arith;
    head = omega arith;
    begin = refl;
    from = omega arith;
    kept = λ keeps q b low still. kept q b still;
    same_class = λ q b low begun o. record { entry = o.entry; here = entry_at-elsewhere a value v.log.text b (λ same. omega arith) ∙ o.here; class = o.class };
    was = λ e m low. was-replaced a value e m;
    places = λ p h. h;
    held = λ p w f low h. inl h;
  }
