-- Digits at the front of a text, and how many partitions there are.
use Rattle.std.proofs.Common.{◌≡◌, ◌≤◌, ◌<◌, ◌∙◌, ℕ, List, Bool, Option, Some, None, true, false, cond, refl, sym, ap, length, ltb, arith}
use Rattle.std.specs.Prelude.{nat_lt, if◌then◌else◌}
use Rattle.std.specs.Option.{unwrap_or}
use Rattle.std.specs.List.{position, position_or_len}
use Rattle.std.proofs.lemmas.Bool.Decides.{Decides-ltb}
use Rattle.std.proofs.lemmas.List.Sums.{prefix_len-le-length}

-- a place before the end, or else the end
place_or_end : (n l : ℕ) → n ≤ l → unwrap_or (cond (ltb n l) (Some n) None) l ≡ n
place_or_end n l h = go (ltb n l) refl
  where
    go : (b : Bool) → b ≡ ltb n l → unwrap_or (cond b (Some n) None) l ≡ n
    go true e = refl
    go false e =
        let past : n < l → ⊥ = λ before. let bad : false ≡ true = e ∙ (Decides-ltb n l).1 before in absurd (cc) in
        omega arith

pub first_or_end : (test : ℕ → Bool) (xs : List ℕ) (r : Option ℕ) → r ≡ position test xs → unwrap_or r (length xs) ≡ position_or_len test xs
first_or_end test xs r h = ap (λ o. unwrap_or o (length xs)) h ∙ place_or_end _ _ (prefix_len-le-length _ xs)

-- several workers have 2^6 partitions, one has as many as are usual
pub for_several : (workers usual : ℕ) → 1 < workers → (if nat_lt 1 workers then 6 else usual) ≡ 6
for_several workers usual lt = rw ((Decides-ltb 1 workers).1 lt) refl

pub for_one : (workers usual : ℕ) → workers ≤ 1 → (if nat_lt 1 workers then 6 else usual) ≡ usual
for_one workers usual le = go (nat_lt 1 workers) refl
  where
    go : (b : Bool) → b ≡ nat_lt 1 workers → (if b then 6 else usual) ≡ usual
    go true e = (let more = (Decides-ltb 1 workers).0 (sym e) in absurd (omega (arith, more, le)))
    go false e = refl
