-- Counts of a text's records.
use Rattle.std.proofs.Common.{◌≡◌, ◌<◌, ◌≤◌, ◌+◌, ℕ, Bool, true, false, cond, List, [], ◌∷◌, length, Option, Some, None, refl, sym, ◌∙◌, ap, arith}
use Rattle.std.specs.Prelude.{filter}
use Rattle.std.specs.Option.{option_or}
use Rattle.fkv_texts.specs.Text.{last_where}

one-more : (b d : Bool) → (b ≡ true → d ≡ true) → cond b 1 0 ≤ cond d 1 0
one-more true true h = omega arith
one-more true false h = let bad = h refl in absurd (cc)
one-more false d h = omega arith

is-one : (b : Bool) → b ≡ true → ◌≡◌ {A = ℕ} (cond b 1 0) 1
is-one true h = refl
is-one false h = absurd (cc)

is-none : (b : Bool) → b ≡ false → ◌≡◌ {A = ℕ} (cond b 1 0) 0
is-none true h = absurd (cc)
is-none false h = refl

module _ {A : Type 0} where
  -- one more of a list
  counted : (p : A → Bool) (x : A) (xs : List A) → length (filter p (x ∷ xs)) ≡ cond (p x) 1 0 + length (filter p xs)
  counted p x xs = by (p x)
    where
      by : (b : Bool) → length (cond b (x ∷ filter p xs) (filter p xs)) ≡ cond b 1 0 + length (filter p xs)
      by true = omega arith
      by false = omega arith

  module _ (p q : A → Bool) (within : (x : A) → q x ≡ true → p x ≡ true) where
    -- what passes a narrower test is no more
    pub count-fewer : (xs : List A) → length (filter q xs) ≤ length (filter p xs)
    count-fewer [] = omega arith
    count-fewer (x ∷ xs) =
        let h = one-more (q x) (p x) (within x) in
        let t = count-fewer xs in
        let a = counted q x xs in
        let b = counted p x xs in
        omega arith

    -- and less where one fails it that passes the other
    pub count-less : (t : A → Bool) (xs : List A) (e : A) → last_where t xs ≡ Some e → p e ≡ true → q e ≡ false → length (filter q xs) < length (filter p xs)
    count-less t [] e h passes fails = absurd (cc)
    count-less t (x ∷ xs) e h passes fails = by (λ k. count-less t xs e k passes fails) (last_where t xs) refl (t x) refl h
      where
        by : (last_where t xs ≡ Some e → length (filter q xs) < length (filter p xs)) → (o : Option A) → last_where t xs ≡ o → (b : Bool) → t x ≡ b → option_or o (cond b (Some x) None) ≡ Some e → length (filter q (x ∷ xs)) < length (filter p (x ∷ xs))
        by more (Some y) found b g k =
            let same : y ≡ e = cc in
            let rest = more (found ∙ ap Some same) in
            let h = one-more (q x) (p x) (within x) in
            let a = counted q x xs in
            let d = counted p x xs in
            omega arith
        by more None found true g k =
            let same : x ≡ e = cc in
            let u = is-one (p x) (ap p same ∙ passes) in
            let z = is-none (q x) (ap q same ∙ fails) in
            let rest = count-fewer xs in
            let a = counted q x xs in
            let d = counted p x xs in
            omega arith
        by more None found false g k = absurd (cc)

  -- what was found passes
  pub last-passes : (t : A → Bool) (xs : List A) (e : A) → last_where t xs ≡ Some e → t e ≡ true
  last-passes t [] e h = absurd (cc)
  last-passes t (x ∷ xs) e h = by (λ k. last-passes t xs e k) (last_where t xs) refl (t x) refl h
    where
      by : (last_where t xs ≡ Some e → t e ≡ true) → (o : Option A) → last_where t xs ≡ o → (b : Bool) → t x ≡ b → option_or o (cond b (Some x) None) ≡ Some e → t e ≡ true
      by more (Some y) found b g k = let same : y ≡ e = cc in more (found ∙ ap Some same)
      by more None found true g k = let same : x ≡ e = cc in ap t (sym same) ∙ g
      by more None found false g k = absurd (cc)
