-- Lives, and the map before a step.
use Rattle.std.specs.Prelude.{Bool, false, ◌&&◌, ℕ, zero, suc, ◌==◌, List, [], ◌∷◌, Option, Some, None, cond}
use Rattle.std.specs.declared.cmp.Ordering.{Ordering}
use Rattle.fkv_functions.specs.Meanings.{Meanings}
use Rattle.fkv_functions.specs.Plain.{PlainMap}
use Rattle.fkv_operations.specs.Operations.{map_after, may_update}
use Rattle.fkv_operations.specs.declared.operations.Op.{Op}
use Rattle.fkv_lives.specs.declared.lives.Finish.{Finish}
use Rattle.fkv_lives.specs.declared.lives.Life.{Life}
use Rattle.fkv_lives.specs.declared.lives.End.{End}
use Rattle.fkv_lives.specs.declared.lives.End.TheVariants.{Open, Finished, Failed, GivenUp}

-- how an operation was finished, if it was
abbrev pub finish_in : {O : Type 0} → End O → Option (Finish O)
finish_in Open = None
finish_in (Finished t) = Some t
finish_in Failed = None
finish_in GivenUp = None

abbrev pub finish_of : {K V I O : Type 0} → Life K V I O → Option (Finish O)
finish_of x = finish_in x.end

-- whether the effect is at this step
abbrev pub has_effect_at : {O : Type 0} → ℕ → Option (Finish O) → Bool
has_effect_at s None = false
has_effect_at s (Some t) = t.effect == s

-- whether this life is an update with its effect at this step
abbrev pub updates_at : {K V I O : Type 0} → ℕ → Life K V I O → Bool
updates_at s x = may_update x.op && has_effect_at s (finish_of x)

-- what is read of the first that passes a test
abbrev pub first_by : {A B : Type 0} → (A → Bool) → (A → Option B) → List A → Option B
first_by p g [] = None
first_by p g (x ∷ xs) = cond (p x) (g x) (first_by p g xs)

-- the update with its effect at this step, if there is one
abbrev pub update_at : {K V I O : Type 0} → List (Life K V I O) → ℕ → Option (Op K V I)
update_at lives s = first_by (updates_at s) (λ x. Some x.op) lives

-- the map after an operation, if there is one
abbrev pub after_some : {K V I O : Type 0} → (K → K → Ordering) → Meanings K V I O → PlainMap K V → Option (Op K V I)
    → PlainMap K V
after_some cmp f m None = m
after_some cmp f m (Some op) = map_after cmp f m op

-- the map before a step: the updates with their effect below it, in the order of the steps
abbrev pub map_before : {K V I O : Type 0} → (K → K → Ordering) → Meanings K V I O → List (Life K V I O) → ℕ
    → PlainMap K V
map_before cmp f lives zero = λ k. None
map_before cmp f lives (suc s) = after_some cmp f (map_before cmp f lives s) (update_at lives s)
