-- Threads that are joined in order, and what they promised.
use Rattle.std.proofs.Common.{◌≡◌, ◌∙◌, ℕ, List, [], ◌∷◌, ◌++◌, length, map, refl, sym, ap, subst, arith}
use Rattle.std.specs.List.{AllZip}
use Rattle.std.specs.PromisedHandle.{KeepsEach}
use Rattle.std.specs.declared.thread.PromisedHandle.{PromisedHandle}
use Rattle.std.specs.declared.thread.Promise as Promise
use Prim.Native.Nat.{suc}

-- one more is started, and one fewer is left
pub moved : {H A : Type 0} (p : H → A) (hs : List H) (h : H) (x : A) (rest rest' whole : List A) → map p hs ++ rest ≡ whole → rest ≡ x ∷ rest' → p h ≡ x → map p (hs ++ h ∷ []) ++ rest' ≡ whole
moved p [] h x rest rest' whole e r q = ap (λ y. y ∷ rest') q ∙ (sym r ∙ e)
moved p (k ∷ hs) h x rest rest' whole e r q = ap (λ l. p k ∷ l) (moved p hs h x rest rest' (map p hs ++ rest) refl r q) ∙ e

module _ {T P A : Type 0} {g : Promise.Ghosts P T} (p : P → A) (R : A → T → Type 0) (says : (q : P) (r : T) → g.kept_by q r → R (p q) r) where
  -- each result meets what its thread promised
  kept_all : (hs : List (PromisedHandle T P)) (rs : List T) → length rs ≡ length hs → KeepsEach g (length hs) hs rs → AllZip R (map (λ h. p h.promise) hs) rs
  kept_all [] [] n each = tt
  kept_all [] (r ∷ rs) n each = absurd (omega (arith, n))
  kept_all (h ∷ hs) [] n each = absurd (omega (arith, n))
  kept_all (h ∷ hs) (r ∷ rs) n each =
      let k = (each 0 r (omega arith)).1 in (
        subst (λ z. R (p z.promise) r) k.handle_is (says k.handle.promise r k.kept),
        kept_all hs rs (omega (arith, n)) (λ i d lt. let j = (each (suc i) d (omega (arith, lt))).1 in (refl, record { handle = j.handle; handle_is = j.handle_is; kept = j.kept })),
      )

  pub kept_each : (n : ℕ) (hs : List (PromisedHandle T P)) (rs : List T) → length hs ≡ n → length rs ≡ n → KeepsEach g n hs rs → AllZip R (map (λ h. p h.promise) hs) rs
  kept_each n hs rs many same each = kept_all hs rs (same ∙ sym many) (subst (λ m. KeepsEach g m hs rs) (sym many) each)

pub none_left : {X : Type 0} (xs : List X) → length xs ≡ 0 → xs ≡ []
none_left [] n = refl
none_left (x ∷ xs) n = absurd (omega (arith, n))
