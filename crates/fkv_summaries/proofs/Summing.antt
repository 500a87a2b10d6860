-- The inputs of a key come to their summary: each number of it by an induction over the inputs.
use Rattle.std.specs.Prelude.{◌≡◌, ◌+◌, ◌%◌, ◌^◌, ◌<◌, ◌+ℤ◌, ◌≤ℤ◌, ◌∷◌, [], ℤ, List, length, fold, All, Contains, FitsSigned, Some, None}
use Rattle.std.specs.Option.{IsSomeAnd}
use Rattle.std.specs.Int.{w64, w128, int_wrap, int_min, int_max}
use Rattle.std.proofs.Common.{arith, refl, sym, ap, subst, ◌∙◌, ◌⊎◌, inl, inr, suc}
use Rattle.std.proofs.Math.Facts.{sfits_widen}
use Rattle.std.proofs.lemmas.Int.{int_wrap_fits, int_wrap-add_same, SFits-int_wrap, wrapping_add_is, fold-int_min_reached}
use Rattle.std.proofs.lemmas.Int.{fold-int_min_bounds, fold-int_max_reached, fold-int_max_bounds}
use Rattle.std.proofs.lemmas.List.Elements.{All-cons, All-head, All-tail}
use Rattle.fkv_functions.specs.Meanings.{updated}
use Rattle.fkv_feeds.specs.Tables.{folded, folded_on}
use Rattle.fkv_summaries.specs.declared.summaries.Summary.{Summary}
use Rattle.fkv_summaries.specs.Summaries.{IsSummaryOf, summary_of, with_input, summaries}
use Rattle.fkv_summaries.specs.Laws.{first_known}

-- no update is declined: each gives the summary with its input
others_of : {K : Type 0} (k : K) (s : Summary) (others : List ℤ)
    → fold (λ held i. updated (summaries {K = K}) k i held) (Some s) others ≡ Some (fold with_input s others)
others_of k s [] = refl
others_of k s (i ∷ others) = others_of k (with_input s i) others

-- nor is an amount of a table
amounts_of : {K : Type 0} (k : K) (s : Summary) (others : List ℤ)
    → fold (folded_on (summaries {K = K}) k) (Some s) others ≡ Some (fold with_input s others)
amounts_of k s [] = refl
amounts_of k s (i ∷ others) = amounts_of k (with_input s i) others

count_of : (s : Summary) (others : List ℤ) → s.count < 2 ^ 64
    → (fold with_input s others).count ≡ (s.count + length others) % 2 ^ 64
count_of s [] h = omega arith
count_of s (i ∷ others) h =
    let rest = count_of (with_input s i) others (omega arith) in
    omega (arith, rest)

least_of : (s : Summary) (others : List ℤ) → (fold with_input s others).least ≡ fold int_min s.least others
least_of s [] = refl
least_of s (i ∷ others) = least_of (with_input s i) others

greatest_of : (s : Summary) (others : List ℤ) → (fold with_input s others).greatest ≡ fold int_max s.greatest others
greatest_of s [] = refl
greatest_of s (i ∷ others) = greatest_of (with_input s i) others

same_sum : (a b : ℤ) (others : List ℤ) → int_wrap w128 a ≡ int_wrap w128 b
    → int_wrap w128 (fold ◌+ℤ◌ a others) ≡ int_wrap w128 (fold ◌+ℤ◌ b others)
same_sum a b [] e = e
same_sum a b (i ∷ others) e = same_sum (a +ℤ i) (b +ℤ i) others (int_wrap-add_same w128 a b i e)

sum_of : (s : Summary) (others : List ℤ) → FitsSigned w128 s.sum → All (FitsSigned w64) others
    → (fold with_input s others).sum ≡ int_wrap w128 (fold ◌+ℤ◌ s.sum others)
sum_of s [] h all = sym (int_wrap_fits w128 s.sum h)
sum_of s (i ∷ others) h all =
    let step = wrapping_add_is w128 s.sum i h (sfits_widen {w = w64} {w' = w128} tt (All-head (FitsSigned w64) i others all)) in
    let fits = subst (FitsSigned w128) (sym step) (SFits-int_wrap w128 (s.sum +ℤ i)) in
    let same = ap (int_wrap w128) step ∙ int_wrap_fits w128 _ (SFits-int_wrap w128 (s.sum +ℤ i)) in
    sum_of (with_input s i) others fits (All-tail (FitsSigned w64) i others all) ∙ same_sum _ (s.sum +ℤ i) others same

reached : (first : ℤ) (others : List ℤ) (r : ℤ) → (r ≡ first) ⊎ Contains others r → Contains (first ∷ others) r
reached first others r (inl e) = (0, omega arith, sym e)
reached first others r (inr (k, within, e)) = (suc k, omega arith, e)

of_all : (first : ℤ) (others : List ℤ) → All (FitsSigned w64) (first ∷ others)
    → IsSummaryOf (fold with_input (summary_of first) others) first others
of_all first others all =
    let one = first_known first (All-head (FitsSigned w64) first others all) in
    let least = least_of (summary_of first) others in
    let below = fold-int_min_bounds first others _ least in
    let greatest = greatest_of (summary_of first) others in
    let above = fold-int_max_bounds first others _ greatest in
    record {
      count = count_of (summary_of first) others one.count;
      sum = sum_of (summary_of first) others one.sum (All-tail (FitsSigned w64) first others all);
      least = reached first others _ (fold-int_min_reached first others _ least);
      below = All-cons (λ x. (fold with_input (summary_of first) others).least ≤ℤ x) first others below.0 below.1;
      greatest = reached first others _ (fold-int_max_reached first others _ greatest);
      above = All-cons (λ x. x ≤ℤ (fold with_input (summary_of first) others).greatest) first others above.0 above.1;
    }

pub summary_of_all : {K : Type 0} (k : K) (first : ℤ) (others : List ℤ) → All (FitsSigned w64) (first ∷ others)
    → IsSomeAnd (fold (λ held i. updated (summaries {K = K}) k i held) None (first ∷ others))
    (λ s. IsSummaryOf s first others)
summary_of_all k first others all =
    subst (λ held. IsSomeAnd held (λ s. IsSummaryOf s first others)) (sym (others_of k (summary_of first) others))
    (of_all first others all)

pub summary_of_amounts : {K : Type 0} (k : K) (first : ℤ) (others : List ℤ) → All (FitsSigned w64) (first ∷ others)
    → IsSomeAnd (folded (summaries {K = K}) k (first ∷ others)) (λ s. IsSummaryOf s first others)
summary_of_amounts k first others all =
    subst (λ held. IsSomeAnd held (λ s. IsSummaryOf s first others)) (sym (amounts_of k (summary_of first) others))
    (of_all first others all)
