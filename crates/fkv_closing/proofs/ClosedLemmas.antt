-- What ended parts come to.
use Rattle.std.proofs.Common.{◌≡◌, ℕ, zero, suc, ◌+◌, List, [], ◌∷◌, length, map, sum_by, get_or, slice_get, refl, sym, ap, ◌∙◌, arith}
use Rattle.std.specs.List.{All}
use Rattle.std.specs.declared.cmp.Ordering.{Ordering}
use Rattle.std.proofs.lemmas.List.{length-map}
use Rattle.std.proofs.lemmas.List.Elements.{All-map, All-weaker, All-head, All-tail}
use Rattle.std.proofs.lemmas.List.Sums.{sum_by-cons}
use Rattle.fkv_functions.specs.Meanings.{Meanings}
use Rattle.fkv_functions.specs.Plain.{PlainMap, Same}
use Rattle.fkv_partition.specs.Views.{partition_of, PartitionView}
use Rattle.fkv_partition.specs.Unions.{live_at, union_of}
use Rattle.fkv_histories.specs.declared.entries.Entry.{Entry}
use Rattle.fkv_histories.specs.Histories.{updates, map_of, IsLegal}
use Rattle.fkv_locked.specs.Kept.{seen, IsEnded}
use Rattle.fkv_closing.specs.Closing.{map_of_histories, IsClosed}

module _ {K V I O X : Type 0} (cmp : K → K → Ordering) (f : Meanings K V I O) (view : X → PartitionView K V I) (history : X → List (Entry K V I O)) (book : X → ℕ) where
  abbrev pub Ended : X → Type 0
  Ended x = IsEnded cmp f (seen cmp (view x)) (history x) (book x)

  pub legal_all : (xs : List X) → All Ended xs → All (IsLegal cmp f) (map history xs)
  legal_all xs all = All-map (IsLegal cmp f) history xs (All-weaker Ended (λ x. IsLegal cmp f (history x)) (λ x e. e.legal) xs all)

  pub counted_all : (xs : List X) → All Ended xs → sum_by length (map history xs) ≡ sum_by book xs
  counted_all [] all = refl
  counted_all (x ∷ xs) all =
      let one : book x ≡ length (history x) = (All-head Ended x xs all).counted in
      let rest : sum_by length (map history xs) ≡ sum_by book xs = counted_all xs (All-tail Ended x xs all) in
      let left : sum_by length (history x ∷ map history xs) ≡ length (history x) + sum_by length (map history xs) = sum_by-cons length (history x) (map history xs) in
      let right : sum_by book (x ∷ xs) ≡ book x + sum_by book xs = sum_by-cons book x xs in
      omega (arith, one, rest, left, right)

  -- the live map of the partition at a place is what its history makes
  made_at : (xs : List X) → All Ended xs → (p : ℕ) (k : K) → live_at cmp (slice_get (map view xs) p) k ≡ map_of cmp f (updates (get_or (map history xs) p [])) k
  made_at [] all p k = refl
  made_at (x ∷ xs) all zero k = (All-head Ended x xs all).live k
  made_at (x ∷ xs) all (suc p) k = made_at xs (All-tail Ended x xs all) p k

  pub made_all : (code : K → ℕ) (xs : List X) → All Ended xs → Same (union_of cmp code (map view xs)) (map_of_histories cmp f code (map history xs))
  made_all code xs all k =
      let same : length (map view xs) ≡ length (map history xs) = length-map xs view ∙ sym (length-map xs history) in
      made_at xs all (partition_of (length (map view xs)) (code k)) k
      ∙ ap (λ n. map_of cmp f (updates (get_or (map history xs) (partition_of n (code k)) [])) k) same

-- a closed store, by another map with the same keys and values, and by the same histories
pub closed_by : {K V I O : Type 0} (cmp : K → K → Ordering) (f : Meanings K V I O) (code : K → ℕ) (owns : List (List (List (Entry K V I O)))) (shares : List ℕ)
    (live found : PlainMap K V) (was histories : List (List (Entry K V I O))) (finished : ℕ) → histories ≡ was → Same found live
    → IsClosed cmp f code owns shares live was finished → IsClosed cmp f code owns shares found histories finished
closed_by cmp f code owns shares live found was histories finished is same closed =
    rw is
    (record {
      sized = closed.sized;
      legal = closed.legal;
      merged = closed.merged;
      counted = closed.counted;
      shared = closed.shared;
      made = λ k. same k ∙ closed.made k;
    })
