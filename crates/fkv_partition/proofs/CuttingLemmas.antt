-- What a partition keeps where the start of its log is cut.
use Rattle.std.proofs.Common.{◌≡◌, ◌≢◌, ◌<◌, ◌≤◌, ◌⊎◌, ◌&&◌, ◌==◌, inl, inr, ℕ, Bool, true, false, IsTrue, IsSome, List, Option, Some, None, nat_le, option_map, refl, sym, ◌∙◌, ap, subst, arith}
use Rattle.std.proofs.lemmas.Bool.Decides.{nat_tests}
use Rattle.std.proofs.lemmas.Bool.{cases_lt, and_parts, eqb-true}
use Rattle.std.specs.declared.cmp.Ordering.{Ordering}
use Rattle.std.specs.BTreeMap.{is_at}
use Rattle.fkv_functions.specs.Plain.{IsKeyOrder}
use Rattle.fkv_records.specs.Places.{start_at}
use Rattle.fkv_hybrid.specs.Views.{text_begin}
use Rattle.fkv_texts.specs.declared.entries.Entry.{Entry}
use Rattle.fkv_texts.specs.Text.{last_where, has_key, last_of, newest, value_of, text_from, IsRising}
use Rattle.fkv_texts.specs.Chains.{Leads}
use Rattle.fkv_texts.proofs.LastWhere.{last_where-filter, last_where-found, last_where-in, last_where-narrow, last_where-narrow_none}
use Rattle.fkv_texts.proofs.TextLemmas.{entry_at-in, one_address}
use Rattle.fkv_texts.proofs.CutLemmas.{cut-leads, cut-from, filter-in}
use Rattle.fkv_texts.proofs.BaseLemmas.{covered_or_not, covered-passed}
use Rattle.fkv_index.specs.declared.words.Word.{Word}
use Rattle.fkv_index.specs.declared.words.Place.{Place}
use Rattle.fkv_index.specs.Words.{empty, address_of, tentative_word, is_empty, is_tentative, is_final}
use Rattle.fkv_index.specs.Places.{word_at}
use Rattle.fkv_index.specs.Changes.{Sweeps, SameTentative}
use Rattle.fkv_index.proofs.WordFacts.{is_empty-empty, final_not_tentative, tentative-is}
use Rattle.fkv_index.proofs.Emptied.{sweeps, same_tentative}
use Rattle.fkv_operations.specs.After.{key_of}
use Rattle.fkv_operations.specs.Still.{IsStill}
use Rattle.fkv_operations.specs.KeptWords.{LosesByCut, ReusesNoAddress}
use Rattle.fkv_operations.specs.KeptWords.LosesByCut.{dropped, passed}
use Rattle.fkv_operations.specs.declared.entries.IndexEntry.{IndexEntry}
use Rattle.fkv_operations.specs.declared.operations.KeyedOp.{KeyedOp}
use Rattle.fkv_operations.specs.declared.operations.KeyedOp.TheVariants.{Read, Upsert, Rmw, Delete, Merge}
use Rattle.fkv_lookups.specs.RecordsViews.{RecordsView, class_in, indexed, IsEntryOf, WasEntryOf, truncated}
use Rattle.fkv_lookups.specs.Traced.{IsTraced, IsResolved}
use Rattle.fkv_texts.specs.Deltas.{with_other_value, resolved, AreValued, IgnoresValues, IsCovered, IsCleared}
use Rattle.fkv_texts.proofs.StoodLemmas.{alike_back, alike-rising, resolved-last, whole-last, valued-last}
use Rattle.fkv_texts.proofs.CoverLemmas.{cut-lives, cut-newest, cut-newest_gone, cut-newest_stays}
use Rattle.fkv_lookups.proofs.TracedLemmas.{entry-stands, traced-held}
use Rattle.fkv_partition.specs.declared.contexts.Context.{Context}
use Rattle.fkv_partition.specs.declared.contexts.Loading.{Loading}
use Rattle.fkv_partition.specs.declared.contexts.Phase.{Phase}
use Rattle.fkv_partition.specs.declared.contexts.Phase.TheVariants.{Fresh, Confirm, Prepared, Load}
use Rattle.fkv_partition.specs.Pending.{pending_by, pending_of}
use Rattle.fkv_partition.specs.KeySound.{IsKept, IsLoading, StandsFor, IsSound}
use Rattle.fkv_partition.specs.KeyEffect.{IsTruncation}
use Rattle.fkv_partition.specs.Views.{PartitionView, context_at}
use Rattle.fkv_partition.proofs.EventLemmas.{stands-at}

-- ---- the last record of a key, in a text that begins higher
-- it stood below, and is gone
pub record IsGone {K V : Type 0} (cmp : K → K → Ordering) (low : ℕ) (text : List (Entry K V)) (k : K) : Type 0 where
  pub entry : Entry K V
  pub was : last_of cmp text k ≡ Some entry
  pub under : entry.address < low
  pub gone : last_of cmp (text_from low text) k ≡ None

module _ {K V : Type 0} (cmp : K → K → Ordering) (from low : ℕ) (text : List (Entry K V)) (rising : IsRising text) (le : from ≤ low) (k : K) where
  filtered : last_of cmp (text_from low text) k ≡ last_where (λ x. nat_le low x.address && has_key cmp k x) text
  filtered = last_where-filter (has_key cmp k) (λ x. nat_le low x.address) text

  none-left : (e : Entry K V) → last_of cmp text k ≡ Some e → e.address < low → last_of cmp (text_from low text) k ≡ None
  none-left e h under = by_new (last_of cmp (text_from low text) k) refl
      (cut-leads (λ (x : K). x) (λ x y. is_at (cmp x) y) from low text rising le k e.address (subst (λ (o : Option (Entry K V)). Leads from o e.address) (sym h) refl))
    where
      by_new : (o : Option (Entry K V)) → last_of cmp (text_from low text) k ≡ o → Leads low (last_of cmp (text_from low text) k) e.address → last_of cmp (text_from low text) k ≡ None
      by_new None g leads = g
      by_new (Some d) g leads = absurd (
          let at : e.address ≡ d.address = subst (λ (o : Option (Entry K V)). Leads low o e.address) g leads in
          let m = last_where-in (has_key cmp k) (text_from low text) d g in
          let high : low ≤ d.address = cut-from low text m.place d m.here in
          omega arith)

  -- it is the same, or it is gone
  pub last-cut : (last_of cmp (text_from low text) k ≡ last_of cmp text k) ⊎ IsGone cmp low text k
  last-cut = by_last (last_of cmp text k) refl
    where
      by_last : (o : Option (Entry K V)) → last_of cmp text k ≡ o → (last_of cmp (text_from low text) k ≡ last_of cmp text k) ⊎ IsGone cmp low text k
      by_last None h = inl (filtered ∙ last_where-narrow_none (has_key cmp k) (λ x. nat_le low x.address) text h ∙ sym h)
      by_last (Some e) h = elim (cases_lt e.address low) [
        | inl under ↦ inr (record { entry = e; was = h; under = under; gone = none-left e h under })
        | inr high ↦ (let yes : nat_le low e.address ≡ true = grind (arith, nat_tests) in
            inl (filtered ∙ last_where-narrow (has_key cmp k) (λ x. nat_le low x.address) text e h yes ∙ sym h))
      ]

  -- and so is its newest at an address above which the key had none
  pub newest-cut : (a : ℕ) → newest cmp text k a ≡ last_of cmp text k → newest cmp (text_from low text) k a ≡ last_of cmp (text_from low text) k
  newest-cut a held = elim last-cut [
    | inl same ↦ by_last (last_of cmp text k) refl same
    | inr gone ↦ last_where-narrow_none (has_key cmp k) (λ e. nat_le e.address a) (text_from low text) gone.gone ∙ sym gone.gone
  ]
    where
      by_last : (o : Option (Entry K V)) → last_of cmp text k ≡ o → last_of cmp (text_from low text) k ≡ last_of cmp text k → newest cmp (text_from low text) k a ≡ last_of cmp (text_from low text) k
      by_last None h same = last_where-narrow_none (has_key cmp k) (λ e. nat_le e.address a) (text_from low text) (same ∙ h) ∙ sym (same ∙ h)
      by_last (Some e) h same =
          let yes = (and_parts (nat_le e.address a) (has_key cmp k e) (last_where-found (λ x. nat_le x.address a && has_key cmp k x) text e (held ∙ h))).0 in
          last_where-narrow (has_key cmp k) (λ e. nat_le e.address a) (text_from low text) e (same ∙ h) yes ∙ sym (same ∙ h)

-- ---- words that are swept
empty-final : IsTrue (is_final empty) → ⊥
unfolding is_final
empty-final f = absurd (cc)

module _ (low : ℕ) (old new : List (List Word)) (s : Sweeps low old new) where
  -- a final word that stands after a sweep stood before
  pub swept-resolved : (p : Place) (w : Word) → IsTrue (is_final w) → word_at new p ≡ w → word_at old p ≡ w
  swept-resolved p w final here = by_final (is_final (word_at old p)) refl
    where
      no-empty : is_empty w ≡ true → ⊥
      no-empty h = empty-final (subst (λ u. IsTrue (is_final u)) (is_empty-empty w h) final)

      by_final : (b : Bool) → is_final (word_at old p) ≡ b → word_at old p ≡ w
      by_final false h = sym (s.others p h) ∙ here
      by_final true h = elim (cases_lt (address_of (word_at old p)) low) [
        | inl under ↦ absurd (no-empty (ap is_empty (sym here) ∙ s.emptied p h under))
        | inr high ↦ sym (s.kept p h high) ∙ here
      ]

  -- a tentative one stays
  pub swept-claimed : (p : Place) (t : ℕ) → word_at old p ≡ tentative_word t → word_at new p ≡ tentative_word t
  swept-claimed p t here = by_final (is_final (word_at old p)) refl
    where
      by_final : (b : Bool) → is_final (word_at old p) ≡ b → word_at new p ≡ tentative_word t
      by_final false h = s.others p h ∙ here
      by_final true h = absurd (let no : true ≡ false = sym (ap is_tentative here ∙ tentative-is t) ∙ final_not_tentative (word_at old p) h in cc)

pub none-some : {A : Type 0} (o : Option A) → o ≡ None → IsSome o → ⊥
none-some None none some = absurd (cc)
none-some (Some x) none some = absurd (cc)

-- ---- what is still, of records and of what they stand for
module _ {K V : Type 0} (cmp : K → K → Ordering) (join : V → V → V) (es : List (Entry K V)) (valued : AreValued es) (p : Entry K V → Bool) (blind : IgnoresValues p) (safe : ℕ) where
  -- a tombstone is no delta
  dead-whole : (e : Entry K V) → last_where p es ≡ Some e → e.value ≡ None → e.delta ≡ false
  dead-whole e is none = by_flag e.delta refl
    where
      by_flag : (b : Bool) → e.delta ≡ b → b ≡ false
      by_flag false h = refl
      by_flag true h = absurd (let m = last_where-in p es e is in none-some e.value none (valued m.place e m.here h))

  -- what one stands for, where the other has no value, has none
  dead-resolved : (e : Entry K V) → last_where p es ≡ Some e → e.value ≡ None → value_of (last_where p (resolved cmp join es)) ≡ None
  dead-resolved e is none = whole-last join cmp es p blind e is (dead-whole e is none) ∙ none

  dead-unresolved : (e : Entry K V) → last_where p es ≡ Some e → value_of (last_where p (resolved cmp join es)) ≡ None → e.value ≡ None
  dead-unresolved e is none = by_value e.value refl
    where
      by_value : (o : Option V) → e.value ≡ o → o ≡ None
      by_value None h = refl
      by_value (Some v) h = absurd (none-some (value_of (last_where p (resolved cmp join es))) none (valued-last join cmp es p blind e is (rw h refl)))

  pub still-resolved : IsStill safe (last_where p es) → IsStill safe (last_where p (resolved cmp join es))
  still-resolved still = subst (IsStill safe) (sym (resolved-last cmp join es p blind)) (by_last (last_where p es) refl still)
    where
      by_last : (o : Option (Entry K V)) → last_where p es ≡ o → IsStill safe o → IsStill safe (option_map (with_other_value (value_of (last_where p (resolved cmp join es)))) o)
      by_last None h s = tt
      by_last (Some e) h (inl none) = inl (dead-resolved e h none)
      by_last (Some e) h (inr rest) = inr rest

  pub still-unresolved : IsStill safe (last_where p (resolved cmp join es)) → IsStill safe (last_where p es)
  still-unresolved still = by_last (last_where p es) refl (subst (IsStill safe) (resolved-last cmp join es p blind) still)
    where
      by_last : (o : Option (Entry K V)) → last_where p es ≡ o → IsStill safe (option_map (with_other_value (value_of (last_where p (resolved cmp join es)))) o) → IsStill safe o
      by_last None h s = tt
      by_last (Some e) h (inl none) = inl (dead-unresolved e h none)
      by_last (Some e) h (inr rest) = inr rest

-- ---- what operations stand for
module _ {K V : Type 0} {keeps : Bool} (cmp : K → K → Ordering) (join : V → V → V) (code : K → ℕ) (order : IsKeyOrder cmp) (v : RecordsView K V) (t : IsTraced keeps code v) (s : IsResolved cmp join v) (low : ℕ) (up : v.log.begin < low) (clear : IsTrue keeps → IsCleared cmp v.log.text low)
    (text : List (Entry K V)) (cut : IsTraced keeps code (truncated keeps v low text)) (cut_resolved : IsResolved cmp join (truncated keeps v low text)) where
  begins-at : (a : ℕ) → IsTrue keeps → text_begin keeps a v.log.regions.offsets.closed ≡ a
  begins-at a yes_keeps = by_keeps keeps yes_keeps
    where
      by_keeps : (b : Bool) → IsTrue b → text_begin b a v.log.regions.offsets.closed ≡ a
      by_keeps true h = refl
      by_keeps false h = absurd (let bad : false ≡ true = h in cc)

  cut-text : IsTrue keeps → text ≡ resolved cmp join (text_from low v.log.text)
  cut-text yes_keeps = cut_resolved.is ∙ ap (λ n. resolved cmp join (text_from n v.log.text)) (begins-at low yes_keeps)

  cut-low : IsTrue keeps → v.log.from ≤ low
  cut-low yes_keeps = (let at = t.begins ∙ begins-at v.log.begin yes_keeps in omega arith)

  rises : IsRising v.log.text
  rises = alike-rising (resolved cmp join v.log.text) v.log.text (alike_back cmp join v.log.text) (subst IsRising s.is t.rising)

  cut-valued : IsTrue keeps → AreValued (text_from low v.log.text)
  cut-valued yes_keeps = subst (λ n. AreValued (text_from n v.log.text)) (begins-at low yes_keeps) cut_resolved.valued

  pub last-cleared : IsTrue keeps → (k : K) → value_of (last_of cmp text k) ≡ value_of (last_of cmp v.text k)
  last-cleared yes_keeps k =
      ap (λ u. value_of (last_of cmp u k)) (cut-text yes_keeps)
      ∙ cut-lives cmp join order v.log.text rises low (clear yes_keeps) k
      ∙ ap (λ u. value_of (last_of cmp u k)) (sym s.is)

  still-cleared : IsTrue keeps → (k : K) (safe : ℕ) → IsStill safe (last_of cmp v.text k) → IsStill safe (last_of cmp text k)
  still-cleared yes_keeps k safe still =
      let before : IsStill safe (last_of cmp v.log.text k) = still-unresolved cmp join v.log.text s.valued (has_key cmp k) (λ e x. refl) safe (subst (λ u. IsStill safe (last_of cmp u k)) s.is still) in
      let after : IsStill safe (last_of cmp (text_from low v.log.text) k) = elim (last-cut cmp v.log.from low v.log.text rises (cut-low yes_keeps) k) [
        | inl same ↦ subst (IsStill safe) (sym same) before
        | inr gone ↦ subst (IsStill safe) (sym gone.gone) tt
      ] in
      subst (λ u. IsStill safe (last_of cmp u k)) (sym (cut-text yes_keeps)) (still-resolved cmp join (text_from low v.log.text) (cut-valued yes_keeps) (has_key cmp k) (λ e x. refl) safe after)

  led : (k : K) (e : IndexEntry) → IsEntryOf v (class_in code v k) e → newest cmp v.text k (address_of e.word) ≡ last_of cmp v.text k
  led k e was = traced-held cmp code v k order t (address_of e.word) (entry-stands v.words (class_in code v k).bucket (class_in code v k).tag e.place e.word t.map was)

  led-cut : (k : K) (e : IndexEntry) → IsEntryOf (truncated keeps v low text) (class_in code v k) e → newest cmp text k (address_of e.word) ≡ last_of cmp text k
  led-cut k e stands = traced-held cmp code (truncated keeps v low text) k order cut (address_of e.word) (entry-stands (truncated keeps v low text).words (class_in code v k).bucket (class_in code v k).tag e.place e.word cut.map stands)

  -- an entry that stands still stood before
  module _ (k : K) (e : IndexEntry) (was : WasEntryOf v (class_in code v k) e) where
    was-resolved : word_at (truncated keeps v low text).words e.place ≡ e.word → word_at v.words e.place ≡ e.word
    was-resolved here = swept-resolved low v.words (truncated keeps v low text).words (sweeps low v.words) e.place e.word was.final here

    entry-resolved : word_at (truncated keeps v low text).words e.place ≡ e.word → IsEntryOf v (class_in code v k) e
    entry-resolved here = record { bucket = was.bucket; place = was.place; word = was-resolved here; final = was.final; tag = was.tag }

    was-cut : WasEntryOf (truncated keeps v low text) (class_in code v k) e
    was-cut = record { place = ((sweeps low v.words).places e.place).1 was.place; bucket = was.bucket; final = was.final; tag = was.tag }

    entry-cut : word_at (truncated keeps v low text).words e.place ≡ e.word → IsEntryOf (truncated keeps v low text) (class_in code v k) e
    entry-cut here = record { bucket = was.bucket; place = was-cut.place; word = here; final = was.final; tag = was.tag }

  pub kept-cut : (k : K) (e : IndexEntry) (source : Option V) → IsKept keeps cmp code v k e source → IsKept keeps cmp code (truncated keeps v low text) k e source
  kept-cut k e source h = record {
    entry = was-cut k e h.entry;
    low = h.low;
    value = λ yes_keeps here.
        ap value_of (led-cut k e (entry-cut k e h.entry here))
        ∙ last-cleared yes_keeps k
        ∙ ap value_of (sym (led k e (entry-resolved k e h.entry here)))
        ∙ h.value yes_keeps (was-resolved k e h.entry here);
    still = λ yes_keeps here.
        let still = h.still yes_keeps (was-resolved k e h.entry here) in
        subst (IsStill v.log.regions.offsets.safe_read_only) (sym (led-cut k e (entry-cut k e h.entry here)))
        (still-cleared yes_keeps k v.log.regions.offsets.safe_read_only (subst (IsStill v.log.regions.offsets.safe_read_only) (led k e (entry-resolved k e h.entry here)) still));
    nowhere = h.nowhere;
  }

  -- what the newest record of a key at or below an address stands for is the same, or it is not the key's last, or a
  -- tombstone that is gone
  newest-cut-at : IsTrue keeps → (k : K) (a : ℕ) → (newest cmp text k a ≡ newest cmp v.text k a) ⊎ LosesByCut cmp (indexed v) (indexed (truncated keeps v low text)) k a
  newest-cut-at yes_keeps k a = by_newest (newest cmp v.log.text k a) refl
    where
      passes : Entry K V → Bool
      passes e = nat_le e.address a && has_key cmp k e

      blind : IgnoresValues passes
      blind e x = refl

      -- what the newest stands for, before and after
      before : (o : Option (Entry K V)) → newest cmp v.log.text k a ≡ o → newest cmp v.text k a ≡ option_map (with_other_value (value_of (newest cmp v.text k a))) o
      before o h = subst (λ u. newest cmp u k a ≡ option_map (with_other_value (value_of (newest cmp u k a))) o) (sym s.is) (subst (λ l. newest cmp (resolved cmp join v.log.text) k a ≡ option_map (with_other_value (value_of (newest cmp (resolved cmp join v.log.text) k a))) l) h (resolved-last cmp join v.log.text passes blind))

      after : (o : Option (Entry K V)) → newest cmp (text_from low v.log.text) k a ≡ o → newest cmp text k a ≡ option_map (with_other_value (value_of (newest cmp text k a))) o
      after o h = subst (λ u. newest cmp u k a ≡ option_map (with_other_value (value_of (newest cmp u k a))) o) (sym (cut-text yes_keeps)) (subst (λ l. newest cmp (resolved cmp join (text_from low v.log.text)) k a ≡ option_map (with_other_value (value_of (newest cmp (resolved cmp join (text_from low v.log.text)) k a))) l) h (resolved-last cmp join (text_from low v.log.text) passes blind))

      -- a record that is covered is not the last of its key, whatever it stands for
      passed-by : (e : Entry K V) → newest cmp v.log.text k a ≡ Some e → IsCovered cmp v.log.text e → (x : Option V) → last_of cmp v.text k ≢ Some (with_other_value x e)
      passed-by e h covered x last = by_last (last_of cmp v.log.text k) refl
        where
          by_last : (o : Option (Entry K V)) → last_of cmp v.log.text k ≡ o → ⊥
          by_last None g =
              let none : last_of cmp v.text k ≡ None = ap (λ u. last_of cmp u k) s.is ∙ resolved-last cmp join v.log.text (has_key cmp k) (λ d y. refl) ∙ ap (option_map (with_other_value _)) g in
              absurd (let bad : Some (with_other_value x e) ≡ None = sym last ∙ none in cc)
          by_last (Some d) g =
              let y : Option V = value_of (last_of cmp (resolved cmp join v.log.text) k) in
              let there : last_of cmp v.text k ≡ Some (with_other_value y d) = ap (λ u. last_of cmp u k) s.is ∙ resolved-last cmp join v.log.text (has_key cmp k) (λ d y. refl) ∙ ap (option_map (with_other_value y)) g in
              let both : Some (with_other_value y d) ≡ Some (with_other_value x e) = sym there ∙ last in
              let one : with_other_value y d ≡ with_other_value x e = cc in
              let at : d.address ≡ e.address = ap (λ (z : Entry K V). z.address) one in
              let m = last_where-in passes v.log.text e h in
              let n = last_where-in (has_key cmp k) v.log.text d g in
              let same : d ≡ e = one_address v.log.text rises n.place m.place d e n.here m.here at in
              let own : e.key ≡ k = order.same e.key k (and_parts (nat_le e.address a) (has_key cmp k e) (last_where-found passes v.log.text e h)).1 in
              covered-passed cmp v.log.text rises e covered (ap (last_of cmp v.log.text) own ∙ g ∙ ap Some same)

      by_cover : (e : Entry K V) → newest cmp v.log.text k a ≡ Some e → IsCovered cmp v.log.text e ⊎ (IsCovered cmp v.log.text e → ⊥)
          → (newest cmp text k a ≡ newest cmp v.text k a) ⊎ LosesByCut cmp (indexed v) (indexed (truncated keeps v low text)) k a
      by_cover e h (inl covered) = inr (passed (with_other_value (value_of (newest cmp v.text k a)) e) (before (Some e) h) (passed-by e h covered (value_of (newest cmp v.text k a))))
      by_cover e h (inr uncovered) = elim (cases_lt e.address low) [
        | inr high ↦
            (let stays = cut-newest_stays cmp v.log.text low k a e h high in
            let value : value_of (newest cmp text k a) ≡ value_of (newest cmp v.text k a) =
            ap (λ u. value_of (newest cmp u k a)) (cut-text yes_keeps)
            ∙ cut-newest cmp join order v.log.text rises low (clear yes_keeps) k a (λ d g c. uncovered (let both : Some d ≡ Some e = sym g ∙ h in let same : d ≡ e = cc in subst (IsCovered cmp v.log.text) same c))
            ∙ ap (λ u. value_of (newest cmp u k a)) (sym s.is) in
            inl (after (Some e) stays ∙ ap (λ x. Some (with_other_value x e)) value ∙ sym (before (Some e) h)))
        | inl under ↦
            (let there = entry_at-in v.log.text rises e (last_where-in passes v.log.text e h) e.address refl in
            let none : e.value ≡ None = elim (clear yes_keeps e there under) [ inl none ↦ none | inr covered ↦ absurd (uncovered covered) ] in
            let dead : value_of (newest cmp v.text k a) ≡ None = ap (λ u. value_of (newest cmp u k a)) s.is ∙ dead-resolved cmp join v.log.text s.valued passes blind 0 e h none in
            inr (dropped (with_other_value (value_of (newest cmp v.text k a)) e) (before (Some e) h) dead (after None (cut-newest_gone cmp v.log.text low rises k a e h under))))
      ]

      by_newest : (o : Option (Entry K V)) → newest cmp v.log.text k a ≡ o
          → (newest cmp text k a ≡ newest cmp v.text k a) ⊎ LosesByCut cmp (indexed v) (indexed (truncated keeps v low text)) k a
      by_newest None h = inl (after None (last_where-filter passes (λ x. nat_le low x.address) v.log.text ∙ last_where-narrow_none passes (λ x. nat_le low x.address) v.log.text h) ∙ sym (before None h))
      by_newest (Some e) h = by_cover e h (covered_or_not cmp v.log.text e.key e.address)

  -- no address is used twice
  pub next-cut : IsTrue keeps → ReusesNoAddress cmp (indexed v) (indexed (truncated keeps v low text))
  next-cut yes_keeps = record {
    begin = omega arith;
    frozen = omega arith;
    tail = omega arith;
    records = λ k a under still. newest-cut-at yes_keeps k a;
    places = λ p h. ((sweeps low v.words).places p).1 h;
    words = λ p w final here. inl (swept-resolved low v.words (truncated keeps v low text).words (sweeps low v.words) p w final here);
  }

  -- a look-up that waits is to look again
  pub loading-cut : (k : K) (l : Loading V) → IsLoading keeps cmp join code v k l → IsLoading keeps cmp join code (truncated keeps v low text) k l
  loading-cut k l h =
      let past = h.past in
      record {
        entry = record { place = ((sweeps low v.words).places l.kept.place).1 h.entry.place; bucket = h.entry.bucket; final = h.entry.final; tag = h.entry.tag };
        low = h.low;
        begun = h.begun;
        past = omega arith;
        on_disk = h.on_disk;
        leads = λ yes_keeps same. absurd (omega arith);
      }

  pub stands-cut : {I : Type 0} (op : KeyedOp K V I) (phase : Phase V) → StandsFor keeps cmp join code v op phase → StandsFor keeps cmp join code (truncated keeps v low text) op phase
  stands-cut op Fresh h = tt
  stands-cut op (Confirm p) h = record { bucket = h.bucket; word = swept-claimed low v.words (truncated keeps v low text).words (sweeps low v.words) p (class_in code v (key_of op)).tag h.word }
  stands-cut (Read k i) (Prepared e s) h = h
  stands-cut (Upsert k u) (Prepared e s) h = h
  stands-cut (Rmw k i) (Prepared e s) h = kept-cut k e s h
  stands-cut (Delete k) (Prepared e s) h = h
  stands-cut (Merge k i) (Prepared e s) h = h
  stands-cut (Read k i) (Load l) h = loading-cut k l h
  stands-cut (Upsert k u) (Load l) h = h
  stands-cut (Rmw k i) (Load l) h = loading-cut k l h
  stands-cut (Delete k) (Load l) h = h
  stands-cut (Merge k i) (Load l) h = h

-- ---- a whole partition
module _ {K V I : Type 0} {keeps : Bool} (cmp : K → K → Ordering) (join : V → V → V) (code : K → ℕ) (order : IsKeyOrder cmp) (v : PartitionView K V I) (s : IsSound keeps cmp join code v) (low now : ℕ) (up : v.records.log.begin < low) (clear : IsTrue keeps → IsCleared cmp v.records.log.text low) (text : List (Entry K V)) (cut : IsTraced keeps code (truncated keeps v.records low text)) (cut_resolved : IsResolved cmp join (truncated keeps v.records low text)) where
  pub sound-truncated : IsSound keeps cmp join code (record v { records = truncated keeps v.records low text; moment = now })
  sound-truncated = record {
    own = s.own;
    counted = s.counted;
    places = s.places;
    traced = cut;
    resolved = cut_resolved;
    stands = λ p x h. stands-cut cmp join code order v.records s.traced s.resolved low up clear text cut cut_resolved x.op x.phase (s.stands p x h);
    owned = record {
      tentative = λ p q h. same q ∙ s.owned.tentative p q h;
      owner = λ q h. s.owned.owner q (sym (same q) ∙ h);
      one = s.owned.one;
    };
    routed = λ i e h.
        let was = filter-in (λ (d : Entry K V). nat_le (text_begin keeps low v.records.log.regions.offsets.closed) d.address) v.records.log.text i e h in
        s.routed was.0.place e was.0.here;
    asked = s.asked;
    merging = s.merging;
    housed = s.housed;
  }
    where
      same : SameTentative v.records.words (truncated keeps v.records low text).words
      same = same_tentative low v.records.words

  -- no look-up finds anything more
  none-waits : (op : KeyedOp K V I) (l : Loading V) → l.begin ≤ v.records.log.begin → pending_by cmp (truncated keeps v.records low text) op (Load l) ≡ None
  none-waits op l past = by_begin (l.begin == low) refl
    where
      by_begin : (b : Bool) → (l.begin == low) ≡ b → pending_by cmp (truncated keeps v.records low text) op (Load l) ≡ None
      by_begin true e = absurd (let same = eqb-true l.begin low e in omega arith)
      by_begin false e = rw e refl

  none-pends : (op : KeyedOp K V I) (phase : Phase V) → StandsFor keeps cmp join code v.records op phase → pending_by cmp (truncated keeps v.records low text) op phase ≡ None
  none-pends op Fresh h = refl
  none-pends op (Confirm p) h = refl
  none-pends op (Prepared e u) h = refl
  none-pends (Read k i) (Load l) h = none-waits (Read k i) l h.past
  none-pends (Rmw k i) (Load l) h = none-waits (Rmw k i) l h.past
  none-pends (Upsert k u) (Load l) h = absurd h
  none-pends (Delete k) (Load l) h = absurd h
  none-pends (Merge k i) (Load l) h = absurd h

  pub none-pending : (t d : ℕ) → pending_of cmp (truncated keeps v.records low text) (context_at v t d) ≡ None
  none-pending t d = by_context (context_at v t d) refl
    where
      by_context : (o : Option (Context K V I)) → context_at v t d ≡ o → pending_of cmp (truncated keeps v.records low text) o ≡ None
      by_context None h = refl
      by_context (Some x) h = none-pends x.op x.phase (stands-at cmp join code v s t d x h)

  pub event-truncated : (page : ℕ) → low ≡ start_at v.records.log.bits page → IsTruncation keeps cmp v (record v { records = truncated keeps v.records low text; moment = now }) page now
  event-truncated page is = record {
    same = λ t d. refl;
    pend = none-pending;
    live = λ yes_keeps k. last-cleared cmp join code order v.records s.traced s.resolved low up clear text cut cut_resolved yes_keeps k;
    begin = is;
    regions = refl;
    number = refl;
    count = refl;
    cleared = refl;
    moment = refl;
  }
