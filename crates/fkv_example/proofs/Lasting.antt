-- The inputs of a key come to how many they are and the last of them: each number by an induction over the inputs.
use Rattle.std.specs.Prelude.{◌≡◌, ◌+◌, ◌%◌, ◌^◌, ◌<◌, ◌++◌, ◌∷◌, [], ℤ, List, length, fold, Some, None}
use Rattle.std.specs.Option.{IsSomeAnd}
use Rattle.std.proofs.Common.{arith, refl, sym, ap, subst}
use Rattle.fkv_functions.specs.Meanings.{updated}
use Rattle.fkv_example.specs.declared.latest_inputs.Latest.{Latest}
use Rattle.fkv_example.specs.LatestInputs.{IsLatestOf, latest_of, with_input, latest_inputs}

-- no update is declined
others_of : {K : Type 0} (k : K) (s : Latest) (others : List ℤ)
    → fold (λ held i. updated (latest_inputs {K = K}) k i held) (Some s) others ≡ Some (fold with_input s others)
others_of k s [] = refl
others_of k s (i ∷ others) = others_of k (with_input s i) others

count_of : (s : Latest) (others : List ℤ) → s.count < 2 ^ 64
    → (fold with_input s others).count ≡ (s.count + length others) % 2 ^ 64
count_of s [] h = omega arith
count_of s (i ∷ others) h =
    let rest = count_of (with_input s i) others (omega arith) in
    omega (arith, rest)

-- the last of one and of others stands at the end of them
last_of : (s : Latest) (others : List ℤ)
    → (before : List ℤ) × (s.last ∷ others ≡ before ++ (fold with_input s others).last ∷ [])
last_of s [] = ([], refl)
last_of s (i ∷ others) =
    let rest = last_of (with_input s i) others in
    (s.last ∷ rest.0, ap (λ is. s.last ∷ is) rest.1)

of_all : (first : ℤ) (others : List ℤ) → IsLatestOf (fold with_input (latest_of first) others) first others
of_all first others = record {
  count = count_of (latest_of first) others (omega arith);
  last = last_of (latest_of first) others;
}

pub latest_of_all : {K : Type 0} (k : K) (first : ℤ) (others : List ℤ)
    → IsSomeAnd (fold (λ held i. updated (latest_inputs {K = K}) k i held) None (first ∷ others))
    (λ s. IsLatestOf s first others)
latest_of_all k first others =
    subst (λ held. IsSomeAnd held (λ s. IsLatestOf s first others)) (sym (others_of k (latest_of first) others))
    (of_all first others)
