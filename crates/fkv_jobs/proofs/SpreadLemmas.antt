-- Jobs in slots, and what they gave.
use Rattle.std.proofs.Common.{◌≡◌, ◌<◌, ℕ, suc, List, [], ◌∷◌, length, map, get_or, take, drop, ◌++◌, Some, refl, sym, ap, ◌∙◌, subst, arith}
use Rattle.std.specs.List.{All, AllZip}
use Rattle.std.specs.Option.{IsSomeAnd, IsSome}
use Rattle.std.proofs.Math.Seq.{take-append_seam}
use Rattle.std.proofs.lemmas.List.Elements.{All-head, All-tail, All-nil, All-cons}
use Rattle.fkv_jobs.specs.declared.spread.Slot.{Slot}
use Rattle.fkv_jobs.specs.Spread.{HasTurned}

-- what a slice holds after a call stands in its vector
pub back : {X : Type 0} (n : ℕ) (xs ys : List X) → n ≡ length xs → length ys ≡ length xs → take n (ys ++ drop (length ys) xs) ≡ ys
back n xs ys long same = ap (λ m. take m (ys ++ drop (length ys) xs)) (long ∙ sym same) ∙ take-append_seam ys (drop (length ys) xs)

-- what holds at each place holds of two lists
pub zip_by_place : {X : Type 0} (R : X → X → Type 0) (xs ys : List X) → length ys ≡ length xs
    → ((i : ℕ) (d : X) → i < length xs → R (get_or xs i d) (get_or ys i d)) → AllZip R xs ys
zip_by_place R [] [] same each = tt
zip_by_place R [] (y ∷ ys) same each = absurd (omega (arith, same))
zip_by_place R (x ∷ xs) [] same each = absurd (omega (arith, same))
zip_by_place R (x ∷ xs) (y ∷ ys) same each = (
  each 0 x (omega arith),
  zip_by_place R xs ys (omega (arith, same)) (λ i d lt. each (suc i) d (omega (arith, lt))),
)

module _ {J O : Type 0} where
  -- each slot has a job, of which what is needed holds
  pub all_asked : (ready : J → Type 0) (jobs : List J) (slots : List (Slot J O)) → map (λ slot. slot.job) slots ≡ map Some jobs
      → All ready jobs → All (λ slot. IsSomeAnd slot.job ready) slots
  all_asked ready [] [] is all = All-nil (λ (slot : Slot J O). IsSomeAnd slot.job ready)
  all_asked ready [] (s ∷ slots) is all = absurd (cc)
  all_asked ready (j ∷ jobs) [] is all = absurd (cc)
  all_asked ready (j ∷ jobs) (s ∷ slots) is all =
      let here : s.job ≡ Some j = cc in
      let rest : map (λ slot. slot.job) slots ≡ map Some jobs = cc in
      All-cons (λ (slot : Slot J O). IsSomeAnd slot.job ready) s slots (rw here (All-head ready j jobs all))
      (all_asked ready jobs slots rest (All-tail ready j jobs all))

  -- after its turn each slot has what its job gave
  pub all_given : (gives : J → O → Type 0) (old new : List (Slot J O)) → AllZip (HasTurned gives) old new → All (λ slot. IsSome slot.given) new
  all_given gives [] [] turned = All-nil (λ (slot : Slot J O). IsSome slot.given)
  all_given gives [] (t ∷ new) turned = absurd turned
  all_given gives (s ∷ old) [] turned = absurd turned
  all_given gives (s ∷ old) (t ∷ new) turned =
      All-cons (λ (slot : Slot J O). IsSome slot.given) t new (rw turned.0.now refl) (all_given gives old new turned.1)

  pub all_gave : (gives : J → O → Type 0) (jobs : List J) (old new : List (Slot J O)) (results : List O)
      → map (λ slot. slot.job) old ≡ map Some jobs → AllZip (HasTurned gives) old new
      → map Some results ≡ map (λ slot. slot.given) new → AllZip gives jobs results
  all_gave gives [] [] [] [] was turned now = tt
  all_gave gives [] [] [] (r ∷ results) was turned now = absurd (cc)
  all_gave gives [] [] (t ∷ new) results was turned now = absurd turned
  all_gave gives [] (s ∷ old) new results was turned now = absurd (cc)
  all_gave gives (j ∷ jobs) [] new results was turned now = absurd (cc)
  all_gave gives (j ∷ jobs) (s ∷ old) [] results was turned now = absurd turned
  all_gave gives (j ∷ jobs) (s ∷ old) (t ∷ new) [] was turned now = absurd (cc)
  all_gave gives (j ∷ jobs) (s ∷ old) (t ∷ new) (r ∷ results) was turned now =
      let job : turned.0.job ≡ j = (let e : Some turned.0.job ≡ Some j = sym turned.0.was ∙ (cc) in cc) in
      let output : turned.0.output ≡ r = (let e : Some turned.0.output ≡ Some r = sym turned.0.now ∙ (cc) in cc) in (
        subst (λ o. gives j o) output (subst (λ k. gives k turned.0.output) job turned.0.gave),
        all_gave gives jobs old new results (cc) turned.1 (cc),
      )
