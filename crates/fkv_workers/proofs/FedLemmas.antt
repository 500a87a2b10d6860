-- The rows of feeds, of which workers have pieces.
use Rattle.std.proofs.Common.{◌≡◌, ◌+◌, ◌<◌, ◌≤◌, ◌==◌, ℕ, ℤ, zero, suc, true, List, [], ◌∷◌, ◌++◌, length, filter, fold, get_or, take, Option, None, refl, sym, ap, subst, ◌∙◌, arith}
use Rattle.std.proofs.lemmas.Bool.{lt-ltb}
use Rattle.std.proofs.lemmas.List.{take_all, take_more}
use Rattle.std.proofs.lemmas.List.Concat.{flat_map-append}
use Rattle.std.proofs.lemmas.List.Sums.{fold-append}
use Rattle.std.proofs.Math.Dec.{ltb}
use Rattle.fkv_functions.specs.declared.names.Name.{Name}
use Rattle.fkv_feeds.specs.Tables.{AreFeeds}
use Rattle.fkv_blocks.specs.Pieces.{AreFed, Piece, rows_of}
use Rattle.fkv_workers.proofs.FeedLemmas.{feeds_more}
use Rattle.fkv_workers.proofs.FoldLemmas.{AllR, AllR-back, AllR-each, AllR-filter, AllR-weaker, all_of, fold_swap, folds_stay, joined, joined_alike}
use Rattle.fkv_workers.proofs.PieceLemmas.{behind, texts_by_hands}

-- the rows of pieces that are each known
known_pieces : (P : Name × ℤ → Type 0) (pieces : List Piece) → AllR P (rows_of pieces) → AllR (λ piece. AllR P piece.rows) pieces
known_pieces P [] all = tt
known_pieces P (piece ∷ pieces) all = (let parts = AllR-back P piece.rows (rows_of pieces) all in (parts.0, known_pieces P pieces parts.1))

fold_pieces : {C : Type 0} (f : C → Name × ℤ → C) (c : C) (pieces : List Piece) → fold (λ d piece. fold f d piece.rows) c pieces ≡ fold f c (rows_of pieces)
fold_pieces f c [] = refl
fold_pieces f c (piece ∷ pieces) = fold_pieces f (fold f c piece.rows) pieces ∙ sym (fold-append f c piece.rows (rows_of pieces))

module _ (limit : ℕ) (feeds : List (Option (List ℕ))) (shares : List (List (Name × ℤ))) (fed : AreFed limit feeds shares) where
  -- the pieces of all feeds are their rows
  read_upto : (m : ℕ) → m ≤ length feeds → AreFeeds limit (take m feeds) (rows_of (behind fed.order m))
  read_upto zero le = refl
  read_upto (suc m) le =
      let lt : m < length feeds = omega (arith, le) in
      let next : suc m ≡ m + 1 = omega arith in
      let more : take (suc m) feeds ≡ take m feeds ++ get_or feeds m None ∷ [] = ap (λ i. take i feeds) next ∙ take_more feeds m None lt in
      let rows = flat_map-append (λ (piece : Piece). piece.rows) (behind fed.order m) (fed.order m) in
      rw (more, rows) (feeds_more limit (take m feeds) (rows_of (behind fed.order m)) (get_or feeds m None) (rows_of (fed.order m)) (read_upto m (omega (arith, lt))) (fed.read m lt))

  -- the rows of all feeds, in the order of the feeds, and that a fold over them is one over the shares, one after the other
  module _ {Z C : Type 0} (f : Z → C → Name × ℤ → C) (Q : C → Type 0) (P : Name × ℤ → Type 0)
      (stays : (z : Z) (c : C) (r : Name × ℤ) → Q c → P r → Q (f z c r))
      (comm : (z : Z) (c : C) (r s : Name × ℤ) → Q c → P r → P s → f z (f z c r) s ≡ f z (f z c s) r)
      (known : (w : ℕ) → w < length shares → AllR P (get_or shares w [])) where
    abbrev IsKnown : Piece → Type 0
    IsKnown piece = AllR P piece.rows

    abbrev by_piece : Z → C → Piece → C
    by_piece z c piece = fold (f z) c piece.rows

    hands_known : (w : ℕ) → w < length shares → AllR IsKnown (fed.hand w)
    hands_known w lt = known_pieces P (fed.hand w) (subst (AllR P) (fed.share w lt) (known w lt))

    parts_known : (t w : ℕ) → t < length feeds → w < length shares → AllR IsKnown (filter (λ piece. piece.worker == w) (fed.order t))
    parts_known t w feed worker =
        subst (AllR IsKnown) (sym (fed.held t w feed worker)) (AllR-filter IsKnown (λ piece. piece.feed == t) (fed.hand w) (hands_known w worker))

    workers_known : (t : ℕ) → t < length feeds → AllR (λ piece. ltb piece.worker (length shares) ≡ true) (fed.order t)
    workers_known t lt =
        AllR-weaker (λ (piece : Piece). piece.worker < length shares) (λ piece. ltb piece.worker (length shares) ≡ true) (λ piece less. lt-ltb piece.worker (length shares) less)
        (fed.order t) (AllR-each (λ (piece : Piece). piece.worker < length shares) (fed.order t) (fed.some_worker t lt))

    feeds_known : (w : ℕ) → w < length shares → AllR (λ piece. ltb piece.feed (length feeds) ≡ true) (fed.hand w)
    feeds_known w lt =
        AllR-weaker (λ (piece : Piece). piece.feed < length feeds) (λ piece. ltb piece.feed (length feeds) ≡ true) (λ piece less. lt-ltb piece.feed (length feeds) less)
        (fed.hand w) (AllR-each (λ (piece : Piece). piece.feed < length feeds) (fed.hand w) (fed.some_feed w lt))

    orders_known : (t : ℕ) → t < length feeds → AllR IsKnown (fed.order t)
    orders_known t lt = all_of (λ (piece : Piece). piece.worker) IsKnown (fed.order t) (length shares) (workers_known t lt) (λ w less. parts_known t w lt less)

    by_shares : (z : Z) (c : C) → Q c → fold (f z) c (rows_of (behind fed.order (length feeds))) ≡ joined (f z) c (λ w. get_or shares w []) (length shares)
    by_shares z c q =
        let one = texts_by_hands (by_piece z) Q IsKnown (λ d piece. folds_stay (f z) Q P (stays z) (comm z) d piece.rows)
        (λ d a b. fold_swap (f z) Q P (stays z) (comm z) d a.rows b.rows)
        (λ (piece : Piece). piece.worker) (λ (piece : Piece). piece.feed) fed.order fed.hand (length shares) (length feeds)
        fed.held workers_known feeds_known orders_known hands_known parts_known c q in
        sym (fold_pieces (f z) c (behind fed.order (length feeds)))
        ∙ (one
        ∙ joined_alike (by_piece z) (f z) c fed.hand (λ w. get_or shares w []) (length shares)
        (λ w lt d. fold_pieces (f z) d (fed.hand w) ∙ ap (fold (f z) d) (sym (fed.share w lt))))

    pub all_rows : (rows : List (Name × ℤ)) × AreFeeds limit feeds rows
        × ((z : Z) (c : C) → Q c → fold (f z) c rows ≡ joined (f z) c (λ w. get_or shares w []) (length shares))
    all_rows = (
      rows_of (behind fed.order (length feeds)),
      subst (λ texts. AreFeeds limit texts (rows_of (behind fed.order (length feeds)))) (take_all (length feeds) feeds (omega arith)) (read_upto (length feeds) (omega arith)),
      by_shares,
    )
