-- Rows of which a pass has some and the others wait: one row more, those of a partition made updates, and none that waits.
use Rattle.std.proofs.Common.{◌≡◌, ◌<◌, ◌==◌, inl, inr, ℕ, ℤ, Bool, List, [], ◌∷◌, ◌++◌, length, map, slice_set, replicate, refl, sym, ap, subst, ◌∙◌, arith, append_assoc}
use Rattle.std.specs.Prelude.{slice_index_or, FitsSigned}
use Rattle.std.specs.Int.{w64}
use Rattle.std.specs.List.{All}
use Rattle.std.proofs.lemmas.Bool.{eq-eqb, ne_eqb, cases_eq}
use Rattle.std.proofs.lemmas.List.{append-nil, length-set, length-replicate, get_or-set_same, get_or-set_other, get_or-replicate, map-set, get_or-map}
use Rattle.std.proofs.lemmas.List.Elements.{filter-append, All-push, All-nil, All-head, All-tail, All-filter}
use Rattle.std.proofs.Math.Nat.{mod-lt}
use Rattle.fkv_functions.specs.declared.names.Name.{Name}
use Rattle.fkv_partition.specs.Views.{partition_of}
use Rattle.fkv_feeds.specs.declared.counting.RowMode.{RowMode}
use Rattle.fkv_store.specs.Passes.{PassView}
use Rattle.fkv_workers.specs.Shares.{rows_at}
use Rattle.fkv_workers.specs.Works.{StandsFor, AreSplit, Makes}
use Rattle.fkv_workers.proofs.ShareLemmas.{rows_one, rows_none, share_more, made_more}

all_right : {X : Type 0} (P : X → Type 0) (xs ys : List X) → All P (xs ++ ys) → All P ys
all_right P [] ys h = h
all_right P (x ∷ xs) ys h = all_right P xs ys (All-tail P x (xs ++ ys) h)

-- of rows with keys of one partition, those with keys there are all, and those with keys elsewhere none
module _ (code : Name → ℕ) (count : ℕ) where
  rows_all : (p : ℕ) (rows : List (Name × ℤ)) → All (λ r. partition_of count (code r.0) ≡ p) rows → rows_at code count p rows ≡ rows
  rows_all p [] h = refl
  rows_all p (r ∷ rows) h = rw (eq-eqb (partition_of count (code r.0)) p (All-head (λ x. partition_of count (code x.0) ≡ p) r rows h)) (ap (λ l. r ∷ l) (rows_all p rows (All-tail (λ x. partition_of count (code x.0) ≡ p) r rows h)))

  rows_away : (p q : ℕ) → (q ≡ p → ⊥) → (rows : List (Name × ℤ)) → All (λ r. partition_of count (code r.0) ≡ p) rows → rows_at code count q rows ≡ []
  rows_away p q ne [] h = refl
  rows_away p q ne (r ∷ rows) h = rw (ne_eqb (partition_of count (code r.0)) q (λ there. ne (sym there ∙ All-head (λ x. partition_of count (code x.0) ≡ p) r rows h))) (rows_away p q ne rows (All-tail (λ x. partition_of count (code x.0) ≡ p) r rows h))

  rows_join : (p : ℕ) (before rows : List (Name × ℤ)) → rows_at code count p (before ++ rows) ≡ rows_at code count p before ++ rows_at code count p rows
  rows_join p before rows = filter-append (λ x. partition_of count (code x.0) == p) before rows

module _ {V O : Type 0} (keeps : Bool) (code : Name → ℕ) (mode : RowMode) (pass : PassView Name V ℤ O) where
  pub split_none : (waiting : List (List (Name × ℤ))) → StandsFor keeps code mode pass [] → waiting ≡ replicate (length pass.told) [] → AreSplit keeps code mode pass waiting []
  split_none waiting stands none = record {
    done = [];
    stands = stands;
    sized = ap length none ∙ length-replicate (length pass.told) [];
    parts = λ p lt. sym (ap (λ (w : List (List (Name × ℤ))). slice_index_or w p []) none ∙ get_or-replicate {A = List (Name × ℤ)} (length pass.told) p [] [] lt);
    placed = λ p lt. rw (none, get_or-replicate {A = List (Name × ℤ)} (length pass.told) p [] [] lt) (All-nil (λ r. partition_of (length pass.told) (code r.0) ≡ p));
    small = All-nil (λ r. FitsSigned w64 r.1);
  }

  pub split_more : (waiting : List (List (Name × ℤ))) (rows : List (Name × ℤ)) (p : ℕ) (r : Name × ℤ) → AreSplit keeps code mode pass waiting rows
      → partition_of (length pass.told) (code r.0) ≡ p
      → p < length pass.told
      → FitsSigned w64 r.1
      → AreSplit keeps code mode pass (slice_set waiting p (slice_index_or waiting p [] ++ r ∷ [])) (rows ++ r ∷ [])
  split_more waiting rows p r s home lt fits = record {
    done = s.done;
    stands = s.stands;
    sized = length-set waiting p new ∙ s.sized;
    parts = parts;
    placed = placed;
    small = All-push (λ r. FitsSigned w64 r.1) rows r s.small fits;
  }
    where
      count : ℕ
      count = length pass.told

      new : List (Name × ℤ)
      new = slice_index_or waiting p [] ++ r ∷ []

      within : p < length waiting
      within = omega (arith, s.sized, lt)

      here : slice_index_or (slice_set waiting p new) p [] ≡ new
      here = get_or-set_same waiting p new [] within

      parts : (q : ℕ) → q < count → rows_at code count q (rows ++ r ∷ []) ≡ rows_at code count q s.done ++ slice_index_or (slice_set waiting p new) q []
      parts q less = elim (cases_eq q p) [
        | inl same ↦
            rw (same, here)
            (rows_one code count p rows r home
            ∙ (ap (λ l. l ++ r ∷ []) (s.parts p lt) ∙ append_assoc (rows_at code count p s.done) (slice_index_or waiting p []) (r ∷ [])))
        | inr ne ↦ rw (get_or-set_other waiting p q new [] ne) (rows_none code count q rows r (λ there. ne (sym there ∙ home)) ∙ s.parts q less)
      ]

      placed : (q : ℕ) → q < count → All (λ r. partition_of count (code r.0) ≡ q) (slice_index_or (slice_set waiting p new) q [])
      placed q less = elim (cases_eq q p) [
        | inl same ↦ rw (same, here) (All-push (λ r. partition_of count (code r.0) ≡ p) (slice_index_or waiting p []) r (s.placed p lt) home)
        | inr ne ↦ rw (get_or-set_other waiting p q new [] ne) (s.placed q less)
      ]

  pub split_made : (pass' : PassView Name V ℤ O) (waiting : List (List (Name × ℤ))) (rows : List (Name × ℤ)) (p : ℕ) → p < length waiting
      → length pass'.told ≡ length pass.told
      → (All (λ r. FitsSigned w64 r.1) (slice_index_or waiting p [])
      → (before : List (Name × ℤ)) → StandsFor keeps code mode pass before → StandsFor keeps code mode pass' (before ++ slice_index_or waiting p []))
      → AreSplit keeps code mode pass waiting rows
      → AreSplit keeps code mode pass' (slice_set waiting p []) rows
  split_made pass' waiting rows p within long made s = record {
    done = s.done ++ those;
    stands = made fit s.done s.stands;
    sized = length-set waiting p [] ∙ (s.sized ∙ sym long);
    parts = rw long parts;
    placed = rw long placed;
    small = s.small;
  }
    where
      count : ℕ
      count = length pass.told

      those : List (Name × ℤ)
      those = slice_index_or waiting p []

      lt : p < count
      lt = omega (arith, s.sized, within)

      fit : All (λ r. FitsSigned w64 r.1) those
      fit = all_right (λ r. FitsSigned w64 r.1) (rows_at code count p s.done) those
          (subst (All (λ r. FitsSigned w64 r.1)) (s.parts p lt) (All-filter (λ r. partition_of count (code r.0) == p) (λ r. FitsSigned w64 r.1) rows s.small))

      here : slice_index_or (slice_set waiting p []) p [] ≡ []
      here = get_or-set_same waiting p [] [] within

      parts : (q : ℕ) → q < count → rows_at code count q rows ≡ rows_at code count q (s.done ++ those) ++ slice_index_or (slice_set waiting p []) q []
      parts q less = elim (cases_eq q p) [
        | inl same ↦
            rw (same, here)
            (s.parts p lt
            ∙ sym (append-nil (rows_at code count p (s.done ++ those)) ∙ (rows_join code count p s.done those ∙ ap (λ l. rows_at code count p s.done ++ l) (rows_all code count p those (s.placed p lt)))))
        | inr ne ↦
            rw (get_or-set_other waiting p q [] [] ne)
            (s.parts q less
            ∙ ap (λ l. l ++ slice_index_or waiting q [])
            (sym (rows_join code count q s.done those ∙ (ap (λ l. rows_at code count q s.done ++ l) (rows_away code count p q ne those (s.placed p lt)) ∙ append-nil (rows_at code count q s.done)))))
      ]

      placed : (q : ℕ) → q < count → All (λ r. partition_of count (code r.0) ≡ q) (slice_index_or (slice_set waiting p []) q [])
      placed q less = elim (cases_eq q p) [
        | inl same ↦ rw (same, here) (All-nil (λ r. partition_of count (code r.0) ≡ p))
        | inr ne ↦ rw (get_or-set_other waiting p q [] [] ne) (s.placed q less)
      ]

  pub split_all : (waiting : List (List (Name × ℤ))) (rows : List (Name × ℤ)) → ((p : ℕ) → p < length waiting → slice_index_or waiting p [] ≡ [])
      → AreSplit keeps code mode pass waiting rows
      → StandsFor keeps code mode pass rows
  split_all waiting rows none s = record {
    some = s.stands.some;
    share = λ k.
        let had = s.stands.share k in
        record {
          sized = had.sized;
          lists = λ p lt.
              let empty = none p (rw s.sized lt) in
              rw (s.parts p lt ∙ (ap (λ l. rows_at code (length pass.told) p s.done ++ l) empty ∙ append-nil (rows_at code (length pass.told) p s.done))) (had.lists p lt);
          small = s.small;
        };
    made = s.stands.made;
  }

-- where the rows of a partition that wait grow by one, so does their list
pub lists_more : {X Y : Type 0} (f : X → List Y) (xs : List X) (i : ℕ) (x d : X) (y : Y) → i < length xs
    → d ≡ slice_index_or xs i d
    → f x ≡ f d ++ y ∷ []
    → map f (slice_set xs i x) ≡ slice_set (map f xs) i (slice_index_or (map f xs) i [] ++ y ∷ [])
lists_more f xs i x d y lt d_is x_is =
    map-set f xs i x
    ∙ ap (λ l. slice_set (map f xs) i l) (x_is ∙ ap (λ l. l ++ y ∷ []) (ap f d_is ∙ sym (get_or-map f xs i d [] lt)))

-- a pass that made a row has one row more
pub stands_more : {V O : Type 0} (keeps : Bool) (code : Name → ℕ) (mode : RowMode) (old new : PassView Name V ℤ O) (count : ℕ) (key : Name) (amount : ℤ) (rows : List (Name × ℤ))
    → length old.told ≡ count
    → FitsSigned w64 amount
    → Makes mode keeps old new (partition_of count (code key)) key amount
    → StandsFor keeps code mode old rows
    → StandsFor keeps code mode new (rows ++ (key, amount) ∷ [])
stands_more keeps code mode old new count key amount rows sized fits ran s =
    let long = ap length ran.answers.told_is ∙ length-set _ _ _ in
    let home = partition_of count (code key) in
    let some : 0 < count = subst (λ n. 0 < n) sized s.some in
    record {
      some = rw long s.some;
      share = λ k.
          rw (long, ran.answers.own_is k)
          (share_more code (length old.told) home old.own rows ran.entry key amount (s.share k) s.some (ap (λ n. partition_of n (code key)) (sym sized)) ran.of_row fits);
      made = λ k.
          let within : home < length old.own = omega (arith, (s.share k).sized, sized, s.some, mod-lt (code key) some) in
          rw (ran.answers.own_is k) (made_more mode home old.own ran.entry within ran.by_mode (s.made k));
    }
