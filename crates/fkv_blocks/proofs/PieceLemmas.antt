-- The pieces of feeds that workers have read, by the order of their blocks.
use Rattle.std.proofs.Common.{◌≡◌, ◌<◌, ◌≤◌, ◌==◌, ◌⊎◌, inl, inr, ℕ, ℤ, zero, suc, cond, List, [], ◌∷◌, ◌++◌, length, map, filter, flat_map, get_or, Option, refl, sym, ap, subst, ◌∙◌, arith}
use Rattle.std.specs.List.{All, AllZip}
use Rattle.std.proofs.lemmas.Bool.{cases_eq, eq-eqb, ne_eqb}
use Rattle.std.proofs.lemmas.List.Elements.{All-nil, All-cons, All-head, All-tail}
use Rattle.fkv_functions.specs.declared.names.Name.{Name}
use Rattle.fkv_blocks.specs.Left.{text_at}
use Rattle.fkv_blocks.specs.Orders.{IsOrder, spans_by, spans_in}
use Rattle.fkv_blocks.specs.Pieces.{Piece, rows_of}
use Rattle.fkv_blocks.specs.Shares.{AreRowsAt, AreRowsIn, WereRead}
use Rattle.fkv_blocks.specs.declared.orders.Taken.{Taken}
use Rattle.fkv_blocks.specs.declared.spans.Span.{Span}
use Rattle.fkv_blocks.specs.declared.spans.Ticket.{Ticket}
use Rattle.fkv_blocks.proofs.OrderLemmas.{by_here, by_other}

abbrev pub Rows : Type 0
Rows = List (Name × ℤ)

-- a function of the numbers below n, where each has what it should have
module _ {X : Type 0} (P : ℕ → X → Type 0) where
  choose_more : (n : ℕ) (g : ℕ → X) → ((i : ℕ) → i < n → P i (g i)) → (x : X) → P n x → (g : ℕ → X) × ((i : ℕ) → i < suc n → P i (g i))
  choose_more n g holds x here = ((λ i. cond (i == n) x (g i)), more)
    where
      more : (i : ℕ) → i < suc n → P i (cond (i == n) x (g i))
      more i lt = elim (cases_eq i n) [
        | inl e ↦ rw (eq-eqb i n e) (subst (λ m. P m x) (sym e) here)
        | inr ne ↦ rw (ne_eqb i n ne) (holds i (omega (arith, lt, ne)))
      ]

  pub choose : (d : X) (n : ℕ) → ((i : ℕ) → i < n → (x : X) × P i x) → (g : ℕ → X) × ((i : ℕ) → i < n → P i (g i))
  choose d zero each = ((λ i. d), λ i lt. absurd (omega (arith, lt)))
  choose d (suc n) each =
      let before = choose d n (λ i lt. each i (omega (arith, lt))) in
      let last = each n (omega arith) in
      choose_more n before.0 before.1 last.0 last.1

pub less_or : (a b : ℕ) → (a < b) ⊎ (b ≤ a)
less_or a zero = inr (omega arith)
less_or zero (suc b) = inl (omega arith)
less_or (suc a) (suc b) = elim (less_or a b) [ inl lt ↦ inl (omega (arith, lt)) | inr le ↦ inr (omega (arith, le)) ]

-- a worker's piece of a feed
abbrev pub piece_of : ℕ → ℕ → Rows → Piece
piece_of w f rows = record { worker = w; feed = f; rows = rows }

zip_nil : {A B : Type 0} (R : A → B → Type 0) (ys : List B) → AllZip R [] ys → ys ≡ []
zip_nil R [] all = refl
zip_nil R (y ∷ ys) all = absurd all

-- a list beside one that is not empty
record Split {A B : Type 0} (R : A → B → Type 0) (x : A) (xs : List A) (ys : List B) : Type 0 where
  first : B
  rest : List B
  is : ys ≡ first ∷ rest
  here : R x first
  others : AllZip R xs rest

split_zip : {A B : Type 0} (R : A → B → Type 0) (x : A) (xs : List A) (ys : List B) → AllZip R (x ∷ xs) ys → Split R x xs ys
split_zip R x xs [] all = absurd all
split_zip R x xs (y ∷ ys) all = record { first = y; rest = ys; is = refl; here = all.0; others = all.1 }

-- ---- THE PIECES OF AN ORDER: what each worker has of it stands in its own list
module _ (R : Span → Rows → Type 0) (f many : ℕ) where
  pub record Woven (order : List Taken) (parts : ℕ → List Rows) : Type 0 where
    pub pieces : List Piece
    pub of_order : AllZip (λ (t : Taken) (p : Piece). R t.span p.rows) order pieces
    pub of_workers : (w : ℕ) → filter (λ (p : Piece). p.worker == w) pieces ≡ map (piece_of w f) (parts w)
    pub some_worker : All (λ (p : Piece). p.worker < many) pieces

  -- without the first of a worker's list
  abbrev without : ℕ → List Rows → (ℕ → List Rows) → ℕ → List Rows
  without w rest parts v = cond (v == w) rest (parts v)

  module _ (t : Taken) (order : List Taken) (parts : ℕ → List Rows) (all : (w : ℕ) → AllZip R (spans_by w (t ∷ order)) (parts w)) (none : (w : ℕ) → many ≤ w → parts w ≡ []) where
    mine : Split R t.span (spans_by t.worker order) (parts t.worker)
    mine = split_zip R t.span (spans_by t.worker order) (parts t.worker) (subst (λ spans. AllZip R spans (parts t.worker)) (by_here t.worker t order refl) (all t.worker))

    left : ℕ → List Rows
    left v = without t.worker mine.rest parts v

    left_here : left t.worker ≡ mine.rest
    unfolding left
    left_here = rw (eq-eqb t.worker t.worker refl) refl

    left_other : (w : ℕ) → (w ≡ t.worker → ⊥) → left w ≡ parts w
    unfolding left
    left_other w ne = rw (ne_eqb w t.worker ne) refl

    filled : parts t.worker ≡ [] → ⊥
    filled e = (let is : mine.first ∷ mine.rest ≡ [] = sym mine.is ∙ e in cc)

    below : t.worker < many
    below = elim (less_or t.worker many) [ inl lt ↦ lt | inr le ↦ absurd (filled (none t.worker le)) ]

    left_all : (w : ℕ) → AllZip R (spans_by w order) (left w)
    left_all w = elim (cases_eq w t.worker) [
      | inl e ↦ subst (λ v. AllZip R (spans_by v order) (left v)) (sym e) (subst (AllZip R (spans_by t.worker order)) (sym left_here) mine.others)
      | inr ne ↦ subst (AllZip R (spans_by w order)) (sym (left_other w ne)) (subst (λ spans. AllZip R spans (parts w)) (by_other w t order (λ e. ne (sym e))) (all w))
    ]

    left_none : (w : ℕ) → many ≤ w → left w ≡ []
    left_none w le = elim (cases_eq w t.worker) [
      | inl e ↦ absurd (omega (arith, e, le, below))
      | inr ne ↦ left_other w ne ∙ none w le
    ]

    module _ (rest : Woven order left) where
      of_all : (w : ℕ) → filter (λ (p : Piece). p.worker == w) (piece_of t.worker f mine.first ∷ rest.pieces) ≡ map (piece_of w f) (parts w)
      of_all w = elim (cases_eq t.worker w) [
        | inl e ↦ subst (λ v. filter (λ (p : Piece). p.worker == v) (piece_of t.worker f mine.first ∷ rest.pieces) ≡ map (piece_of v f) (parts v)) e
            (rw (eq-eqb t.worker t.worker refl) (ap (λ l. piece_of t.worker f mine.first ∷ l) (rest.of_workers t.worker ∙ ap (map (piece_of t.worker f)) left_here) ∙ ap (map (piece_of t.worker f)) (sym mine.is)))
        | inr ne ↦ rw (ne_eqb t.worker w ne) (rest.of_workers w ∙ ap (map (piece_of w f)) (left_other w (λ e. ne (sym e))))
      ]

      woven_more : Woven (t ∷ order) parts
      woven_more = record {
        pieces = piece_of t.worker f mine.first ∷ rest.pieces;
        of_order = (mine.here, rest.of_order);
        of_workers = of_all;
        some_worker = All-cons (λ (p : Piece). p.worker < many) (piece_of t.worker f mine.first) rest.pieces below rest.some_worker;
      }

  pub woven : (order : List Taken) (parts : ℕ → List Rows) → ((w : ℕ) → AllZip R (spans_by w order) (parts w)) → ((w : ℕ) → many ≤ w → parts w ≡ []) → Woven order parts
  woven [] parts all none = record {
    pieces = [];
    of_order = tt;
    of_workers = λ w. sym (ap (map (piece_of w f)) (zip_nil R (parts w) (all w)));
    some_worker = All-nil (λ (p : Piece). p.worker < many);
  }
  woven (t ∷ order) parts all none = woven_more t order parts all none (woven order (left t order parts all none) (left_all t order parts all none) (left_none t order parts all none))

-- ---- what a worker has, by its tickets
pub pieces_of : ℕ → List Ticket → List Rows → List Piece
pieces_of w [] parts = []
pieces_of w (t ∷ ts) [] = []
pieces_of w (t ∷ ts) (rows ∷ parts) = piece_of w t.feed rows ∷ pieces_of w ts parts

-- and what of it is of one feed
pub parts_in : ℕ → List Ticket → List Rows → List Rows
parts_in f [] parts = []
parts_in f (t ∷ ts) [] = []
parts_in f (t ∷ ts) (rows ∷ parts) = cond (t.feed == f) (rows ∷ parts_in f ts parts) (parts_in f ts parts)

module _ (feeds : List (Option (List ℕ))) where
  pub rows_are : (w : ℕ) (ts : List Ticket) (parts : List Rows) → AllZip (AreRowsIn feeds) ts parts → flat_map (λ part. part) parts ≡ rows_of (pieces_of w ts parts)
  unfolding pieces_of
  rows_are w [] [] all = refl
  rows_are w [] (rows ∷ parts) all = absurd all
  rows_are w (t ∷ ts) [] all = absurd all
  rows_are w (t ∷ ts) (rows ∷ parts) all = ap (λ l. rows ++ l) (rows_are w ts parts all.1)

  pub parts_are : (w f : ℕ) (ts : List Ticket) (parts : List Rows) → filter (λ (p : Piece). p.feed == f) (pieces_of w ts parts) ≡ map (piece_of w f) (parts_in f ts parts)
  unfolding pieces_of parts_in
  parts_are w f [] parts = refl
  parts_are w f (t ∷ ts) [] = refl
  parts_are w f (t ∷ ts) (rows ∷ parts) = elim (cases_eq t.feed f) [
    | inl e ↦ rw (eq-eqb t.feed f e, e) (ap (λ l. piece_of w f rows ∷ l) (parts_are w f ts parts))
    | inr ne ↦ rw (ne_eqb t.feed f ne) (parts_are w f ts parts)
  ]

  pub parts_zip : (f : ℕ) (ts : List Ticket) (parts : List Rows) → AllZip (AreRowsIn feeds) ts parts → AllZip (AreRowsAt (text_at feeds f)) (spans_in f ts) (parts_in f ts parts)
  unfolding parts_in
  parts_zip f [] [] all = tt
  parts_zip f [] (rows ∷ parts) all = absurd all
  parts_zip f (t ∷ ts) [] all = absurd all
  parts_zip f (t ∷ ts) (rows ∷ parts) all = elim (cases_eq t.feed f) [
    | inl e ↦ rw (eq-eqb t.feed f e) (subst (λ g. AreRowsAt (text_at feeds g) t.span rows) e all.0, parts_zip f ts parts all.1)
    | inr ne ↦ rw (ne_eqb t.feed f ne) (parts_zip f ts parts all.1)
  ]

  pub feeds_known : (w many : ℕ) (ts : List Ticket) (parts : List Rows) → All (λ (t : Ticket). t.feed < many) ts → All (λ (p : Piece). p.feed < many) (pieces_of w ts parts)
  unfolding pieces_of
  feeds_known w many [] parts all = All-nil (λ (p : Piece). p.feed < many)
  feeds_known w many (t ∷ ts) [] all = All-nil (λ (p : Piece). p.feed < many)
  feeds_known w many (t ∷ ts) (rows ∷ parts) all =
      All-cons (λ (p : Piece). p.feed < many) (piece_of w t.feed rows) (pieces_of w ts parts) (All-head (λ (t : Ticket). t.feed < many) t ts all)
      (feeds_known w many ts parts (All-tail (λ (t : Ticket). t.feed < many) t ts all))

  -- the rows of what workers have read
  pub parts_of_all : (hands : List (List Ticket)) → All (WereRead feeds) hands → (parts : List (List Rows)) × AllZip (AllZip (AreRowsIn feeds)) hands parts
  parts_of_all [] all = ([], tt)
  parts_of_all (ts ∷ hands) all =
      let here = All-head (WereRead feeds) ts hands all in
      let rest = parts_of_all hands (All-tail (WereRead feeds) ts hands all) in
      (here.0 ∷ rest.0, (here.1, rest.1))

  pub zip_at : (hands : List (List Ticket)) (parts : List (List Rows)) (w : ℕ) → AllZip (AllZip (AreRowsIn feeds)) hands parts → AllZip (AreRowsIn feeds) (get_or hands w []) (get_or parts w [])
  zip_at [] [] w all = tt
  zip_at [] (ps ∷ parts) w all = absurd all
  zip_at (ts ∷ hands) [] w all = absurd all
  zip_at (ts ∷ hands) (ps ∷ parts) zero all = all.0
  zip_at (ts ∷ hands) (ps ∷ parts) (suc w) all = zip_at hands parts w all.1

  pub zip_long : (hands : List (List Ticket)) (parts : List (List Rows)) → AllZip (AllZip (AreRowsIn feeds)) hands parts → length hands ≡ length parts
  zip_long [] [] all = refl
  zip_long [] (ps ∷ parts) all = absurd all
  zip_long (ts ∷ hands) [] all = absurd all
  zip_long (ts ∷ hands) (ps ∷ parts) all = ap suc (zip_long hands parts all.1)

  spans_at : (f w : ℕ) (hands : List (List Ticket)) → get_or (map (spans_in f) hands) w [] ≡ spans_in f (get_or hands w [])
  spans_at f w [] = refl
  spans_at f zero (ts ∷ hands) = refl
  spans_at f (suc w) (ts ∷ hands) = spans_at f w hands

  past : {X : Type 0} (l : List (List X)) (w : ℕ) → length l ≤ w → get_or l w [] ≡ []
  past [] w le = refl
  past (x ∷ l) zero le = absurd (omega (arith, le))
  past (x ∷ l) (suc w) le = past l w (omega (arith, le))

  none_in : (f : ℕ) (parts : List Rows) → parts_in f [] parts ≡ []
  unfolding parts_in
  none_in f parts = refl

  -- THE PIECES OF A FEED, by an order of what the workers have of it
  pub feed_woven : (hands : List (List Ticket)) (parts : List (List Rows)) → AllZip (AllZip (AreRowsIn feeds)) hands parts
      → (f low high : ℕ) (order : List Taken)
      → IsOrder low high (map (spans_in f) hands) order
      → Woven (AreRowsAt (text_at feeds f)) f (length hands) order (λ w. parts_in f (get_or hands w []) (get_or parts w []))
  feed_woven hands parts all f low high order o =
      woven (AreRowsAt (text_at feeds f)) f (length hands) order (λ w. parts_in f (get_or hands w []) (get_or parts w []))
      (λ w. subst (λ spans. AllZip (AreRowsAt (text_at feeds f)) spans (parts_in f (get_or hands w []) (get_or parts w []))) (sym (o.held w ∙ spans_at f w hands))
      (parts_zip f (get_or hands w []) (get_or parts w []) (zip_at hands parts w all)))
      (λ w le. ap (λ ts. parts_in f ts (get_or parts w [])) (past hands w le) ∙ none_in f (get_or parts w []))
