-- Own lists that have one row more.
use Rattle.std.proofs.Common.{◌≡◌, ◌<◌, ◌==◌, inl, inr, ℕ, ℤ, List, false, [], ◌∷◌, ◌++◌, length, slice_set, refl, sym, subst, ◌∙◌, arith}
use Rattle.std.specs.Prelude.{slice_index_or, FitsSigned}
use Rattle.std.specs.Int.{w64}
use Rattle.std.specs.List.{All}
use Rattle.std.proofs.lemmas.Bool.{eq-eqb, ne_eqb, cases_eq}
use Rattle.std.proofs.lemmas.List.{append-nil, length-set, get_or-set_same, get_or-set_other}
use Rattle.std.proofs.lemmas.List.Elements.{filter-append, All-push, All-set}
use Rattle.std.proofs.Math.Nat.{mod-lt}
use Rattle.fkv_functions.specs.declared.names.Name.{Name}
use Rattle.fkv_partition.specs.Views.{partition_of}
use Rattle.fkv_histories.specs.declared.entries.Entry.{Entry}
use Rattle.fkv_store.specs.Passes.{IsUpdateBy}
use Rattle.fkv_feeds.specs.declared.counting.RowMode.{RowMode}
use Rattle.fkv_feeds.specs.declared.counting.RowMode.TheVariants.{Update}
use Rattle.fkv_operations.specs.After.{is_merge}
use Rattle.fkv_workers.specs.Shares.{rows_at, HasRows, HasShare}
use Rattle.fkv_workers.specs.Works.{AreMadeBy}

module _ (code : Name → ℕ) (count : ℕ) where
  pub rows_one : (p : ℕ) (rows : List (Name × ℤ)) (r : Name × ℤ) → partition_of count (code r.0) ≡ p → rows_at code count p (rows ++ r ∷ []) ≡ rows_at code count p rows ++ r ∷ []
  rows_one p rows r is = filter-append (λ x. partition_of count (code x.0) == p) rows (r ∷ []) ∙ rw (eq-eqb (partition_of count (code r.0)) p is) refl

  pub rows_none : (p : ℕ) (rows : List (Name × ℤ)) (r : Name × ℤ) → (partition_of count (code r.0) ≡ p → ⊥) → rows_at code count p (rows ++ r ∷ []) ≡ rows_at code count p rows
  rows_none p rows r ne = filter-append (λ x. partition_of count (code x.0) == p) rows (r ∷ []) ∙ rw (ne_eqb (partition_of count (code r.0)) p ne) (append-nil (rows_at code count p rows))

module _ {V O : Type 0} (code : Name → ℕ) (count : ℕ) where
  pub share_none : (own : List (List (Entry Name V ℤ O))) → length own ≡ count → ((p : ℕ) → p < count → slice_index_or own p [] ≡ []) → HasShare code count own []
  share_none own sized empty = record { sized = sized; lists = λ p lt. rw (empty p lt) tt; small = λ k d lt. absurd (omega (arith, lt)) }

  has_one : (own : List (Entry Name V ℤ O)) (rows : List (Name × ℤ)) (e : Entry Name V ℤ O) (r : Name × ℤ) → HasRows own rows → IsUpdateBy r.0 r.1 e.op → HasRows (own ++ e ∷ []) (rows ++ r ∷ [])
  has_one [] [] e r has is = (is, tt)
  has_one [] (q ∷ rows) e r has is = absurd has
  has_one (x ∷ own) [] e r has is = absurd has
  has_one (x ∷ own) (q ∷ rows) e r has is = (has.0, has_one own rows e r has.1 is)

  pub share_more : (p : ℕ) (own : List (List (Entry Name V ℤ O))) (rows : List (Name × ℤ)) (e : Entry Name V ℤ O) (key : Name) (amount : ℤ)
      → HasShare code count own rows
      → 0 < count
      → p ≡ partition_of count (code key)
      → IsUpdateBy key amount e.op
      → FitsSigned w64 amount
      → HasShare code count (slice_set own p (slice_index_or own p [] ++ e ∷ [])) (rows ++ (key, amount) ∷ [])
  share_more p own rows e key amount h some home is fits = record {
    sized = length-set own p new ∙ h.sized;
    lists = lists;
    small = All-push (λ r. FitsSigned w64 r.1) rows (key, amount) h.small fits;
  }
    where
      new : List (Entry Name V ℤ O)
      new = slice_index_or own p [] ++ e ∷ []

      within : p < length own
      within = omega (arith, h.sized, home, mod-lt (code key) some)

      lists : (q : ℕ) → q < count → HasRows (slice_index_or (slice_set own p (slice_index_or own p [] ++ e ∷ [])) q []) (rows_at code count q (rows ++ (key, amount) ∷ []))
      lists q lt = elim (cases_eq q p) [
        | inl same ↦ (
            let here : HasRows (slice_index_or own p [] ++ e ∷ []) (rows_at code count p rows ++ (key, amount) ∷ []) =
            has_one (slice_index_or own p []) (rows_at code count p rows) e (key, amount) (h.lists p (subst (λ m. m < count) same lt)) is in
            rw (same, get_or-set_same own p (slice_index_or own p [] ++ e ∷ []) [] within, rows_one code count p rows (key, amount) (sym home)) here
            )
        | inr ne ↦ rw (get_or-set_other own p q (slice_index_or own p [] ++ e ∷ []) [] ne, rows_none code count q rows (key, amount) (λ there. ne (sym there ∙ sym home))) (h.lists q lt)
      ]

-- an entry more that is as the mode says
pub made_more : {V O : Type 0} (mode : RowMode) (p : ℕ) (own : List (List (Entry Name V ℤ O))) (e : Entry Name V ℤ O)
    → p < length own
    → (mode ≡ Update → is_merge e.op ≡ false)
    → AreMadeBy mode own
    → AreMadeBy mode (slice_set own p (slice_index_or own p [] ++ e ∷ []))
made_more {V = V} {O = O} mode p own e within is was =
    let P : Entry Name V ℤ O → Type 0 = λ e. is_merge e.op ≡ false in
    λ update. All-set (All P) own p (slice_index_or own p [] ++ e ∷ []) (All-push P (slice_index_or own p []) e (was update p [] within) (is update)) (was update)
