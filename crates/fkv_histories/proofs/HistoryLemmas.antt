-- Histories that grow by one entry.
use Rattle.std.proofs.Common.{◌≡◌, inl, inr, ◌≤◌, ℕ, Bool, true, false, List, [], ◌∷◌, ◌++◌, length, take, drop, get_or, slice_get, Some, None, refl, sym, ap, ◌∙◌, arith, length-append}
use Rattle.std.specs.List.{All}
use Rattle.std.specs.declared.cmp.Ordering.{Ordering}
use Rattle.std.proofs.lemmas.List.{append-nil, take-append-le, take_all, map-append, take-append-drop}
use Rattle.std.proofs.lemmas.List.Elements.{filter-append, All-weaker, All-push}
use Rattle.std.proofs.lemmas.Option.{slice_get_within, slice_get-get_or}
use Rattle.fkv_functions.specs.Meanings.{Meanings}
use Rattle.fkv_functions.proofs.ListLemmas.{get-append_cases}
use Rattle.fkv_operations.specs.After.{after, after_all}
use Rattle.fkv_operations.specs.AfterLaws.{after-quiet, after_all-append}
use Rattle.fkv_histories.specs.declared.entries.Entry.{Entry}
use Rattle.fkv_histories.specs.Histories.{is_update_entry, updates, ops_of, map_of, map_at, IsPlaced, IsLegal}

module _ {K V I O : Type 0} where
  pub updates_one : (es : List (Entry K V I O)) (e : Entry K V I O) → is_update_entry e ≡ true → updates (es ++ e ∷ []) ≡ updates es ++ e ∷ []
  updates_one es e h = filter-append is_update_entry es (e ∷ []) ∙ rw h refl

  pub updates_none : (es : List (Entry K V I O)) (e : Entry K V I O) → is_update_entry e ≡ false → updates (es ++ e ∷ []) ≡ updates es
  updates_none es e h = filter-append is_update_entry es (e ∷ []) ∙ rw h (append-nil (updates es))

  -- one entry more, whose `high` is the number of updates before it
  completed_more : (es : List (Entry K V I O)) (e : Entry K V I O)
      → ((i : ℕ) (x : Entry K V I O) → slice_get es i ≡ Some x → x.high ≡ length (updates (take i es)))
      → e.high ≡ length (updates es)
      → (i : ℕ) (x : Entry K V I O) → slice_get (es ++ e ∷ []) i ≡ Some x → x.high ≡ length (updates (take i (es ++ e ∷ [])))
  completed_more es e all high i x at = elim (get-append_cases es e i x at) [
    | inl was ↦ (let lt = slice_get_within es i x was in rw (take-append-le i es (e ∷ []) (omega arith)) (all i x was))
    | inr last ↦ rw (last.0, ← last.1, take-append-le (length es) es (e ∷ []) (omega arith), take_all (length es) es (omega arith)) high
  ]

  numbered_more : (us : List (Entry K V I O)) (e : Entry K V I O)
      → ((j : ℕ) (u : Entry K V I O) → slice_get us j ≡ Some u → u.at ≡ j)
      → e.at ≡ length us
      → (j : ℕ) (u : Entry K V I O) → slice_get (us ++ e ∷ []) j ≡ Some u → u.at ≡ j
  numbered_more us e all at j u is = elim (get-append_cases us e j u is) [
    | inl was ↦ all j u was
    | inr last ↦ rw (last.0, ← last.1) at
  ]

module _ {K V I O : Type 0} (cmp : K → K → Ordering) (f : Meanings K V I O) where
  pub map_of-push : (us : List (Entry K V I O)) (e : Entry K V I O) → map_of cmp f (us ++ e ∷ []) ≡ after cmp f (map_of cmp f us) e.op
  map_of-push us e =
      ap (after_all cmp f (λ k. None)) (map-append (λ (x : Entry K V I O). x.op) us (e ∷ []))
      ∙ after_all-append cmp f (λ k. None) (ops_of us) e.op

  pub map_at-more : (us vs : List (Entry K V I O)) (n : ℕ) → n ≤ length us → map_at cmp f (us ++ vs) n ≡ map_at cmp f us n
  map_at-more us vs n le = ap (map_of cmp f) (take-append-le n us vs le)

  pub map_at-all : (us : List (Entry K V I O)) → map_at cmp f us (length us) ≡ map_of cmp f us
  map_at-all us = ap (map_of cmp f) (take_all (length us) us (omega arith))

  -- the map of a history that grows by one entry
  pub history_map : (es : List (Entry K V I O)) (e : Entry K V I O) → map_of cmp f (updates (es ++ e ∷ [])) ≡ after cmp f (map_of cmp f (updates es)) e.op
  history_map es e = by (is_update_entry e) refl
    where
      by : (b : Bool) → is_update_entry e ≡ b → map_of cmp f (updates (es ++ e ∷ [])) ≡ after cmp f (map_of cmp f (updates es)) e.op
      by true h = ap (map_of cmp f) (updates_one es e h) ∙ map_of-push (updates es) e
      by false h = ap (map_of cmp f) (updates_none es e h) ∙ sym (after-quiet cmp f (map_of cmp f (updates es)) e.op h)

  -- the history of nothing
  pub legal_empty : IsLegal cmp f []
  legal_empty = record {
    numbered = λ j u h. absurd (cc);
    completed = λ i e h. absurd (cc);
    placed = λ k d l. absurd (omega (arith, l));
  }

  placed_more : (us vs : List (Entry K V I O)) (e : Entry K V I O) → e.at ≤ length us → IsPlaced cmp f us e → IsPlaced cmp f (us ++ vs) e
  placed_more us vs e le p = record { low = p.low; high = p.high; answers = rw (map_at-more us vs e.at le) p.answers }

  -- the places of a legal history lie among its updates
  pub at_within : (es : List (Entry K V I O)) → IsLegal cmp f es → All (λ (e : Entry K V I O). e.at ≤ length (updates es)) es
  at_within es l k d lt =
      let completed = l.completed k (get_or es k d) (slice_get-get_or es k d lt) in
      let high = (l.placed k d lt).high in
      let split : updates es ≡ updates (take k es) ++ updates (drop k es) = ap updates (sym (take-append-drop k es)) ∙ filter-append is_update_entry (take k es) (drop k es) in
      omega (arith, completed, high, ap length split, length-append (updates (take k es)) (updates (drop k es)))

  -- one operation more is placed among the updates so far, and completed now; an update is behind all of them
  pub legal_more : (es : List (Entry K V I O)) (e : Entry K V I O) → IsLegal cmp f es
      → (is_update_entry e ≡ true → e.at ≡ length (updates es))
      → e.high ≡ length (updates es)
      → IsPlaced cmp f (updates es) e
      → IsLegal cmp f (es ++ e ∷ [])
  legal_more es e l last high here = by (is_update_entry e) refl
    where
      us : List (Entry K V I O)
      us = updates es

      within : All (λ (x : Entry K V I O). (x.at ≤ length us) × IsPlaced cmp f us x) es
      within = λ k d lt. (at_within es l k d lt, l.placed k d lt)

      by : (b : Bool) → is_update_entry e ≡ b → IsLegal cmp f (es ++ e ∷ [])
      by true h =
          let grown : updates (es ++ e ∷ []) ≡ us ++ e ∷ [] = updates_one es e h in
          let at = last h in
          record {
            numbered = rw grown (numbered_more us e l.numbered at);
            completed = completed_more es e l.completed high;
            placed = rw grown (All-push (IsPlaced cmp f (us ++ e ∷ [])) es e
                (All-weaker (λ (x : Entry K V I O). (x.at ≤ length us) × IsPlaced cmp f us x) (IsPlaced cmp f (us ++ e ∷ []))
                (λ x p. placed_more us (e ∷ []) x p.0 p.1) es within)
                (placed_more us (e ∷ []) e (omega arith) here));
          }
      by false h =
          let same : updates (es ++ e ∷ []) ≡ us = updates_none es e h in
          record {
            numbered = rw same l.numbered;
            completed = completed_more es e l.completed high;
            placed = rw same (All-push (IsPlaced cmp f us) es e l.placed here);
          }
