use Rattle.std.proofs.Common.{◌≡◌, ◌+◌, ◌++◌, ◌∷◌, [], ℕ, List, None, map, replicate, ap, ◌∙◌, le_antisymm}
use Rattle.std.proofs.lemmas.List.{replicate_more, map-append}
use Rattle.fkv_worlds.specs.declared.flush_slots.FlushSlot.{FlushSlot}
use Rattle.fkv_worlds.proofs.states.empty_flush_slots.Goals as goal

one-more : {A B : Type 0} (f : A → B) (xs ys : List A) (x : A) (n : ℕ) (b : B) → map f xs ≡ replicate n b → ys ≡ xs ++ x ∷ [] → f x ≡ b → map f ys ≡ replicate (n + 1) b
one-more f xs ys x n b before one is = ap (map f) one ∙ map-append f xs (x ∷ []) ∙ ap (λ z. map f xs ++ z ∷ []) is ∙ ap (λ zs. zs ++ b ∷ []) before ∙ replicate_more n b

pub loop-number-preserved : goal.loop-number-preserved
loop-number-preserved c = one-more (λ (d : FlushSlot). d.job) _ _ _ c.loop-number._number None c.loop-number.invariant c.in-Ok.ensures.ok c.new.ensures

pub returns-clause-ok : goal.returns-clause-ok
returns-clause-ok c = c.loop-number.invariant ∙ ap (λ n. replicate n None) (le_antisymm c.loop-number.auto._number-end c.loop-number-test.false)
