-- How much the partitions so far hold, and one more.
use Rattle.std.proofs.Common.{◌≡◌, ℕ, suc, ◌+◌, min, sum_by, List, [], ◌∷◌, ◌++◌, take, map, Some, slice_get, sym, ◌∙◌, ap, arith}
use Rattle.std.proofs.Math.Seq.{take-suc}
use Rattle.std.proofs.lemmas.List.Sums.{sum_by_push}
use Rattle.std.proofs.lemmas.Option.{slice_get_within, get_or_from_slice_get}
use Rattle.fkv_local.proofs.PartLemmas.{view-get}

capped : (a m l : ℕ) → min (min a l + m) l ≡ min (a + m) l
capped a m l = omega arith

pub counted-more : {S X : Type 0} (view : S → X) (f : X → ℕ) (items : List S) (i limit sum more next : ℕ) (x : S) → slice_get items i ≡ Some x → sum ≡ min (sum_by f (take i (map view items))) limit → more ≡ f (view x) → next ≡ min (sum + more) limit → next ≡ min (sum_by f (take (i + 1) (map view items))) limit
counted-more view f items i limit sum more next x here so_far is added =
    let there = view-get view items i x here in
    let taken : take (i + 1) (map view items) ≡ take i (map view items) ++ view x ∷ [] =
    (let one : i + 1 ≡ suc i = omega arith in
    ap (λ n. take n (map view items)) one
    ∙ take-suc (map view items) i (view x) (slice_get_within (map view items) i (view x) there)
    ∙ ap (λ y. take i (map view items) ++ y ∷ []) (get_or_from_slice_get (map view items) i (view x) (view x) there)) in
    added
    ∙ ap (λ n. min (n + more) limit) so_far
    ∙ capped (sum_by f (take i (map view items))) more limit
    ∙ ap (λ n. min (sum_by f (take i (map view items)) + n) limit) is
    ∙ ap (λ n. min n limit) (sym (ap (sum_by f) taken ∙ sum_by_push f (take i (map view items)) (view x)))
