-- The lines of a text, one after another.
use Rattle.std.proofs.Common.{◌≡◌, ◌+◌, ◌-◌, ◌<◌, ◌≤◌, ◌∷◌, [], ℕ, List, Bool, None, Some, true, false, cond, refl, ◌∙◌, ap, arith, take, drop, length, suc}
use Rattle.std.specs.Prelude.{nat_lt}
use Rattle.std.proofs.lemmas.Bool.Decides.{nat_tests, Decides-ltb}
use Rattle.std.proofs.lemmas.Option.{cond_some}
use Rattle.std.proofs.lemmas.List.{take_all, length-drop}
use Rattle.std.specs.List.{position, position_or_len}
use Rattle.fkv_scripts.specs.Script.{is_line_end, lines_of}

-- the first line goes up to the first line end
split_at : (xs : List ℕ) → position_or_len is_line_end xs < length xs → lines_of xs ≡ take (position_or_len is_line_end xs) xs ∷ lines_of (drop (position_or_len is_line_end xs + 1) xs)
split_at [] h = absurd (omega arith)
split_at (x ∷ xs) h = by (is_line_end x) refl (split_at xs)
  where
    next : (n : ℕ) → ◌≡◌ {A = List (List ℕ)} ((x ∷ take n xs) ∷ lines_of (drop (n + 1) xs)) (take (1 + n) (x ∷ xs) ∷ lines_of (drop (1 + n + 1) (x ∷ xs)))
    next n = let a : suc n ≡ 1 + n = omega arith in let b : suc (n + 1) ≡ 1 + n + 1 = omega arith in ap (λ k. take k (x ∷ xs) ∷ lines_of (drop (n + 1) xs)) a ∙ ap (λ k. take (1 + n) (x ∷ xs) ∷ lines_of (drop k (x ∷ xs))) b

    by : (b : Bool) → is_line_end x ≡ b → (position_or_len is_line_end xs < length xs → lines_of xs ≡ take (position_or_len is_line_end xs) xs ∷ lines_of (drop (position_or_len is_line_end xs + 1) xs))
        → lines_of (x ∷ xs) ≡ take (position_or_len is_line_end (x ∷ xs)) (x ∷ xs) ∷ lines_of (drop (position_or_len is_line_end (x ∷ xs) + 1) (x ∷ xs))
    by true e more = rw e refl
    by false e more = let k = rw e at h in rw e (rw (more (omega arith)) (next (position_or_len is_line_end xs)))

no_end : (xs : List ℕ) → length xs ≤ position_or_len is_line_end xs → 0 < length xs → lines_of xs ≡ xs ∷ []
no_end [] h p = absurd (omega arith)
no_end (x ∷ xs) h p = by (is_line_end x) refl xs (no_end xs) h
  where
    by : (b : Bool) → is_line_end x ≡ b → (ys : List ℕ) → (length ys ≤ position_or_len is_line_end ys → 0 < length ys → lines_of ys ≡ ys ∷ []) → length (x ∷ ys) ≤ position_or_len is_line_end (x ∷ ys) → lines_of (x ∷ ys) ≡ (x ∷ ys) ∷ []
    by true e ys more k = absurd (let m = rw e at k in omega arith)
    by false e [] more k = rw e refl
    by false e (y ∷ ys) more k = let m = rw e at k in rw (e, more (omega arith) (omega arith)) refl

pub cut_line : (xs : List ℕ) (n : ℕ) → position is_line_end xs ≡ Some n → lines_of xs ≡ take n xs ∷ lines_of (take (length xs - (n + 1)) (drop (n + 1) xs))
cut_line xs n e =
    let found = cond_some (nat_lt (position_or_len is_line_end xs) (length xs)) (position_or_len is_line_end xs) n e in
    let below : position_or_len is_line_end xs < length xs = (Decides-ltb (position_or_len is_line_end xs) (length xs)).0 found.0 in
    let short : length (drop (n + 1) xs) ≤ length xs - (n + 1) = omega (arith, length-drop (n + 1) xs) in
    rw (take_all (length xs - (n + 1)) (drop (n + 1) xs) short) (rw (← found.1) (split_at xs below))

pub one_line : (xs : List ℕ) → position is_line_end xs ≡ None → 0 < length xs → lines_of xs ≡ xs ∷ []
one_line xs e p = by (nat_lt (position_or_len is_line_end xs) (length xs)) refl e
  where
    by : (b : Bool) → nat_lt (position_or_len is_line_end xs) (length xs) ≡ b → cond b (Some (position_or_len is_line_end xs)) None ≡ None → lines_of xs ≡ xs ∷ []
    by true t f = cc
    by false t f = no_end xs (grind (arith, nat_tests)) p
