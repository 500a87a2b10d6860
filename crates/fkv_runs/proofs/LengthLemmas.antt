-- How many pairs the merge of lists has.
use Rattle.std.proofs.Common.{◌≡◌, ℕ, suc, ◌+◌, ◌<◌, drop, length, get_or, Bool, true, false, cond, List, [], ◌∷◌, ◌∙◌, ap, arith}
use Rattle.std.proofs.lemmas.List.{drop_more}
use Rattle.std.specs.Ordering.{is_gt}
use Rattle.std.specs.declared.cmp.Ordering.{Ordering}
use Rattle.fkv_runs.specs.Merging.{merged_from, merged_two, merged}

module _ {K V : Type 0} (cmp : K → K → Ordering) where
  from-length : (x : K × V) (xs : List (K × V)) (on : List (K × V) → List (K × V)) → ((ys : List (K × V)) → length (on ys) ≡ length xs + length ys)
      → (ys : List (K × V)) → length (merged_from cmp x xs on ys) ≡ suc (length xs) + length ys
  from-length x xs on h [] = omega arith
  from-length x xs on h (y ∷ ys) = either (is_gt (cmp x.0 y.0)) (from-length x xs on h ys) (h (y ∷ ys))
    where
      either : (b : Bool) → length (merged_from cmp x xs on ys) ≡ suc (length xs) + length ys → length (on (y ∷ ys)) ≡ length xs + suc (length ys)
          → length (cond b (y ∷ merged_from cmp x xs on ys) (x ∷ on (y ∷ ys))) ≡ suc (length xs) + suc (length ys)
      either true a b = omega arith
      either false a b = omega arith

  pub length-two : (xs ys : List (K × V)) → length (merged_two cmp xs ys) ≡ length xs + length ys
  length-two [] ys = omega arith
  length-two (x ∷ xs) ys = from-length x xs (merged_two cmp xs) (λ zs. length-two xs zs) ys

  -- those from a place on, of the list there and those behind it
  pub length_more : (xss : List (List (K × V))) (i : ℕ) (d : List (K × V)) → i < length xss
      → length (merged cmp (drop i xss)) ≡ length (merged cmp (drop (i + 1) xss)) + length (get_or xss i d)
  length_more xss i d h =
      ap (λ zs. length (merged cmp zs)) (drop_more xss i d h)
      ∙ length-two (get_or xss i d) (merged cmp (drop (i + 1) xss))
      ∙ (omega arith)
