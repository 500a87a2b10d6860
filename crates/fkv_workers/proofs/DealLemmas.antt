-- Feeds that workers take in turn, as pieces: each feed is one.
use Rattle.std.proofs.Common.{◌≡◌, ◌+◌, ◌<◌, ◌≤◌, ◌==◌, ◌%◌, ℕ, ℤ, zero, suc, Bool, true, false, cond, inl, inr, List, [], ◌∷◌, ◌++◌, length, map, filter, get_or, Option, None, refl, sym, ap, subst, ◌∙◌, arith, append-nil}
use Rattle.std.specs.List.{All, enumerate_from}
use Rattle.std.proofs.lemmas.Bool.{eq-eqb, ne_eqb, cases_eq}
use Rattle.std.proofs.lemmas.List.Elements.{All-nil, All-cons, All-head, All-tail, All-weaker, All-filter}
use Rattle.std.proofs.lemmas.Option.{slice_get-get_or}
use Rattle.std.proofs.Math.Nat.{mod-lt}
use Rattle.fkv_functions.specs.declared.names.Name.{Name}
use Rattle.fkv_feed_rows.specs.Feeds.{IsFeed}
use Rattle.fkv_feeds.specs.Tables.{AreFeeds}
use Rattle.fkv_blocks.specs.Pieces.{AreFed, Piece, rows_of}
use Rattle.fkv_workers.specs.Shares.{AreFedInTurn}
use Rattle.fkv_workers.proofs.FoldLemmas.{owned, owned_here, owned_other}

-- the items of a worker, from the one of this place on
abbrev pub dealt_from : {A : Type 0} → ℕ → ℕ → ℕ → List A → List A
dealt_from place workers w items = map (λ item. item.1) (filter (λ item. item.0 % workers == w) (enumerate_from place items))

dealt_here : {A : Type 0} (place workers : ℕ) (x : A) (xs : List A) → dealt_from place workers (place % workers) (x ∷ xs) ≡ x ∷ dealt_from (place + 1) workers (place % workers) xs
dealt_here place workers x xs = rw (eq-eqb (place % workers) (place % workers) refl) refl

dealt_other : {A : Type 0} (place workers w : ℕ) (x : A) (xs : List A) → (w ≡ place % workers → ⊥) → dealt_from place workers w (x ∷ xs) ≡ dealt_from (place + 1) workers w xs
dealt_other place workers w x xs ne = rw (ne_eqb (place % workers) w (λ e. ne (sym e))) refl

owned_none : {X : Type 0} (who : X → ℕ) (xs : List X) (i : ℕ) → All (λ x. who x ≡ i → ⊥) xs → owned who xs i ≡ []
owned_none who [] i all = refl
owned_none who (x ∷ xs) i all =
    rw (ne_eqb (who x) i (All-head (λ y. who y ≡ i → ⊥) x xs all)) (owned_none who xs i (All-tail (λ y. who y ≡ i → ⊥) x xs all))

-- two filters in either order
filters_swap : {X : Type 0} (p q : X → Bool) (xs : List X) → filter p (filter q xs) ≡ filter q (filter p xs)
filters_swap p q [] = refl
filters_swap p q (x ∷ xs) = by (p x) (q x) refl refl (filters_swap p q xs)
  where
    by : (a b : Bool) → p x ≡ a → q x ≡ b → filter p (filter q xs) ≡ filter q (filter p xs) → filter p (filter q (x ∷ xs)) ≡ filter q (filter p (x ∷ xs))
    by true true is too rest = rw (is, too, is) (ap (λ l. x ∷ l) rest)
    by true false is too rest = rw (is, too) rest
    by false true is too rest = rw (is, too, is) rest
    by false false is too rest = rw (is, too) rest

abbrev pub worker_of : Piece → ℕ
worker_of piece = piece.worker

abbrev pub feed_of : Piece → ℕ
feed_of piece = piece.feed

module _ (limit workers : ℕ) (some : 0 < workers) where
  abbrev AreTaken : ℕ → List (Option (List ℕ)) → (ℕ → List (Name × ℤ)) → Type 0
  AreTaken place feeds share = (w : ℕ) → w < workers → AreFeeds limit (dealt_from place workers w feeds) (share w)

  -- a piece of so many workers, and of a feed from this place on
  abbrev IsOf : ℕ → ℕ → Piece → Type 0
  IsOf place count piece = (piece.worker < workers) × (place ≤ piece.feed) × (piece.feed < place + count)

  -- these pieces are the feeds from this place on, and the shares
  record ArePieces (place : ℕ) (feeds : List (Option (List ℕ))) (share : ℕ → List (Name × ℤ)) (pieces : List Piece) : Type 0 where
    of : All (IsOf place (length feeds)) pieces
    read : (f : ℕ) → f < length feeds → IsFeed limit (get_or feeds f None) (rows_of (owned feed_of pieces (place + f)))
    has : (w : ℕ) → w < workers → share w ≡ rows_of (owned worker_of pieces w)

  -- one feed before the others, which is worker o's: `others` is what that worker has beside its rows
  module _ (feed : Option (List ℕ)) (feeds : List (Option (List ℕ))) (place : ℕ) (share : ℕ → List (Name × ℤ)) (taken : AreTaken place (feed ∷ feeds) share)
      (one others : List (Name × ℤ)) (is : share (place % workers) ≡ one ++ others) where
    -- the shares of the other feeds
    left : ℕ → List (Name × ℤ)
    left w = cond (w == place % workers) others (share w)

    left_here : left (place % workers) ≡ others
    unfolding left
    left_here = rw (eq-eqb (place % workers) (place % workers) refl) refl

    left_other : (w : ℕ) → (w ≡ place % workers → ⊥) → left w ≡ share w
    unfolding left
    left_other w ne = rw (ne_eqb w (place % workers) ne) refl

    left_taken : AreFeeds limit (dealt_from (place + 1) workers (place % workers) feeds) others → AreTaken (place + 1) feeds left
    left_taken rest w lt = elim (cases_eq w (place % workers)) [
      | inl e ↦ subst (λ v. AreFeeds limit (dealt_from (place + 1) workers v feeds) (left v)) (sym e)
          (subst (AreFeeds limit (dealt_from (place + 1) workers (place % workers) feeds)) (sym left_here) rest)
      | inr ne ↦ subst (AreFeeds limit (dealt_from (place + 1) workers w feeds)) (sym (left_other w ne))
          (subst (λ ds. AreFeeds limit ds (share w)) (dealt_other place workers w feed feeds ne) (taken w lt))
    ]

    abbrev piece : Piece
    piece = record { worker = place % workers; feed = place; rows = one }

    pieces_more : (pieces : List Piece) → IsFeed limit feed one → ArePieces (place + 1) feeds left pieces → ArePieces place (feed ∷ feeds) share (piece ∷ pieces)
    pieces_more pieces fed p = record { of = of; read = read; has = has }
      where
        of : All (IsOf place (length (feed ∷ feeds))) (piece ∷ pieces)
        of =
            All-cons (IsOf place (length (feed ∷ feeds))) piece pieces (mod-lt place some, omega arith, omega arith)
            (All-weaker (IsOf (place + 1) (length feeds)) (IsOf place (length (feed ∷ feeds))) (λ q h. (h.0, omega (arith, h.1), omega (arith, h.2))) pieces p.of)

        alone : owned feed_of (piece ∷ pieces) place ≡ piece ∷ []
        alone =
            owned_here feed_of piece pieces
            ∙ ap (λ l. piece ∷ l) (owned_none feed_of pieces place (All-weaker (IsOf (place + 1) (length feeds)) (λ q. q.feed ≡ place → ⊥) (λ q h e. omega (arith, h.1, e)) pieces p.of))

        read : (f : ℕ) → f < length (feed ∷ feeds) → IsFeed limit (get_or (feed ∷ feeds) f None) (rows_of (owned feed_of (piece ∷ pieces) (place + f)))
        read zero lt =
            let rows : one ≡ rows_of (owned feed_of (piece ∷ pieces) place) = sym (ap rows_of alone ∙ append-nil one) in
            let same : place ≡ place + 0 = omega arith in
            subst (IsFeed limit feed) (rows ∙ ap (λ i. rows_of (owned feed_of (piece ∷ pieces) i)) same) fed
        read (suc f) lt =
            let next : place + 1 + f ≡ place + suc f = omega arith in
            let other = owned_other feed_of piece pieces (place + suc f) (λ e. omega (arith, e)) in
            subst (λ l. IsFeed limit (get_or feeds f None) (rows_of l)) (ap (owned feed_of pieces) next ∙ sym other) (p.read f (omega (arith, lt)))

        has : (w : ℕ) → w < workers → share w ≡ rows_of (owned worker_of (piece ∷ pieces) w)
        has w lt = elim (cases_eq w (place % workers)) [
          | inl e ↦ subst (λ v. share v ≡ rows_of (owned worker_of (piece ∷ pieces) v)) (sym e)
              (is ∙ (ap (λ l. one ++ l) (sym left_here ∙ p.has (place % workers) (mod-lt place some)) ∙ ap rows_of (sym (owned_here worker_of piece pieces))))
          | inr ne ↦ sym (left_other w ne) ∙ (p.has w lt ∙ ap rows_of (sym (owned_other worker_of piece pieces w ne)))
        ]

  pieces_of : (feeds : List (Option (List ℕ))) (place : ℕ) (share : ℕ → List (Name × ℤ)) → AreTaken place feeds share → (pieces : List Piece) × ArePieces place feeds share pieces
  pieces_of [] place share taken = ([], record { of = All-nil (IsOf place 0); read = λ f lt. absurd (omega (arith, lt)); has = taken })
  pieces_of (feed ∷ feeds) place share taken =
      let here = subst (λ ds. AreFeeds limit ds (share (place % workers))) (dealt_here place workers feed feeds) (taken (place % workers) (mod-lt place some)) in
      let one = here.0 in
      let others = here.1 in
      let is = here.4 in
      let more = pieces_of feeds (place + 1) (left feed feeds place share taken one others is) (left_taken feed feeds place share taken one others is here.3) in
      (record { worker = place % workers; feed = place; rows = one } ∷ more.0, pieces_more feed feeds place share taken one others is more.0 here.2 more.1)

-- WHO TAKES FEEDS IN TURN shares their rows out
pub fed_in_turn : (limit : ℕ) (feeds : List (Option (List ℕ))) (shares : List (List (Name × ℤ))) → AreFedInTurn limit feeds shares → AreFed limit feeds shares
fed_in_turn limit feeds shares turns =
    let workers = length shares in
    let found = pieces_of limit workers turns.some feeds 0 (λ w. get_or shares w []) (λ w lt. turns.each w (get_or shares w []) (slice_get-get_or shares w [] lt)) in
    let pieces = found.0 in
    let of = found.1.of in
    record {
      order = λ f. owned feed_of pieces f;
      hand = λ w. owned worker_of pieces w;
      read = λ f lt. (let same : 0 + f ≡ f = omega arith in subst (λ i. IsFeed limit (get_or feeds f None) (rows_of (owned feed_of pieces i))) same (found.1.read f lt));
      share = found.1.has;
      held = λ f w feed worker. filters_swap (λ piece. worker_of piece == w) (λ piece. feed_of piece == f) pieces;
      some_worker = λ f lt. All-filter (λ piece. feed_of piece == f) (λ (piece : Piece). piece.worker < workers) pieces
          (All-weaker (IsOf limit workers turns.some 0 (length feeds)) (λ (piece : Piece). piece.worker < workers) (λ piece h. h.0) pieces of);
      some_feed = λ w lt. All-filter (λ piece. worker_of piece == w) (λ (piece : Piece). piece.feed < length feeds) pieces
          (All-weaker (IsOf limit workers turns.some 0 (length feeds)) (λ (piece : Piece). piece.feed < length feeds) (λ piece h. omega (arith, h.2)) pieces of);
    }
