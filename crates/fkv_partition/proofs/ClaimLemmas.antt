-- Tentative entries and the operations that they belong to, once a context and the words of the index change.
use Rattle.std.proofs.Common.{◌≡◌, ◌≢◌, false, ℕ, ◌⊎◌, inl, inr, IsTrue, List, Option, Some, None, slice_get, slice_set, refl, sym, ◌∙◌, ap, subst}
use Rattle.std.proofs.lemmas.Bool.{cases_eq}
use Rattle.fkv_index.specs.declared.words.Word.{Word}
use Rattle.fkv_index.specs.declared.words.Place.{Place}
use Rattle.fkv_index.specs.Words.{is_tentative}
use Rattle.fkv_index.specs.Places.{word_at}
use Rattle.fkv_index.specs.Changes.{SameTentative}
use Rattle.fkv_lookups.specs.RecordsViews.{ChangesAt}
use Rattle.fkv_partition.specs.declared.contexts.OpenWork.{OpenWork}
use Rattle.fkv_partition.specs.Contexts.{joined, claim_of, claim_at}
use Rattle.fkv_partition.specs.Claiming.{AreOwned}
use Rattle.fkv_functions.proofs.ListLemmas.{get-set_cases, get-set_same, get-set_other}

-- two places are one or not
pub place-or : (p q : Place) → (p ≡ q) ⊎ (p ≢ q)
place-or p q = elim (cases_eq p.bucket q.bucket) [
  | inl b ↦ elim (cases_eq p.at q.at) [
    | inl a ↦ inl (λ i. record { bucket = b i; at = a i })
    | inr n ↦ inr (λ e. n (ap (λ (x : Place). x.at) e))
  ]
  | inr n ↦ inr (λ e. n (ap (λ (x : Place). x.bucket) e))
]

-- ---- what stands in the contexts once one of them is set
module _ {K V I : Type 0} (cs : List (Option (OpenWork K V I))) (i : ℕ) (y : Option (OpenWork K V I)) where
  pub claim-here : (x : Option (OpenWork K V I)) → slice_get cs i ≡ Some x → claim_at (slice_set cs i y) i ≡ claim_of y
  claim-here x here = ap (λ o. claim_of (joined o)) (get-set_same cs i x y here)

  pub claim-other : (p : ℕ) → p ≢ i → claim_at (slice_set cs i y) p ≡ claim_at cs p
  claim-other p n = ap (λ o. claim_of (joined o)) (get-set_other cs i p y n)

  -- one that claims nothing, whether or not there is such a context
  pub claim-quiet : claim_of y ≡ None → claim_at cs i ≡ None → claim_at (slice_set cs i y) i ≡ None
  claim-quiet new old = by_get (slice_get (slice_set cs i y) i) refl
    where
      by_get : (o : Option (Option (OpenWork K V I))) → slice_get (slice_set cs i y) i ≡ o → claim_of (joined o) ≡ None
      by_get None e = refl
      by_get (Some z) e = elim (get-set_cases cs i i y z e) [
        | inl same ↦ ap claim_of (sym same.1) ∙ new
        | inr was ↦ ap (λ o. claim_of (joined o)) (sym was) ∙ old
      ]

nothing : {q : Place} {o : Option Place} → o ≡ None → o ≡ Some q → ⊥
nothing none some = absurd (let no = sym none ∙ some in cc)

no-tentative : (w : Word) → is_tentative w ≡ false → IsTrue (is_tentative w) → ⊥
no-tentative w quiet is = absurd (let e = sym quiet ∙ is in cc)

module _ {K V I : Type 0} (words new : List (List Word)) (cs : List (Option (OpenWork K V I))) (i : ℕ) (y : Option (OpenWork K V I)) (own : AreOwned words cs) where
  -- a context that claimed nothing is set to one that claims nothing, and the same places are tentative
  pub owned-quiet : SameTentative words new → claim_at cs i ≡ None → claim_of y ≡ None → AreOwned new (slice_set cs i y)
  owned-quiet same old quiet = record {
    tentative = λ p q h. same q ∙ own.tentative p q (from p q h);
    owner = λ q h. let o = own.owner q (sym (same q) ∙ h) in (o.0, into o.0 q o.1);
    one = λ p r q h k. own.one p r q (from p q h) (from r q k);
  }
    where
      from : (p : ℕ) (q : Place) → claim_at (slice_set cs i y) p ≡ Some q → claim_at cs p ≡ Some q
      from p q h = elim (cases_eq p i) [
        | inl e ↦ absurd (nothing (ap (claim_at (slice_set cs i y)) e ∙ claim-quiet cs i y quiet old) h)
        | inr n ↦ sym (claim-other cs i y p n) ∙ h
      ]

      into : (p : ℕ) (q : Place) → claim_at cs p ≡ Some q → claim_at (slice_set cs i y) p ≡ Some q
      into p q h = elim (cases_eq p i) [ inl e ↦ absurd (nothing (ap (claim_at cs) e ∙ old) h) | inr n ↦ claim-other cs i y p n ∙ h ]

  -- one that claimed nothing is set to one that claims a place, which was not tentative and is
  pub owned-claimed : (q : Place) (x : Option (OpenWork K V I)) → ChangesAt q words new → is_tentative (word_at words q) ≡ false → IsTrue (is_tentative (word_at new q)) → slice_get cs i ≡ Some x → claim_of x ≡ None → claim_of y ≡ Some q → AreOwned new (slice_set cs i y)
  owned-claimed q x at was is here old claims = record { tentative = tentative; owner = owner; one = one }
    where
      mine : claim_at (slice_set cs i y) i ≡ Some q
      mine = claim-here cs i y x here ∙ claims

      none : claim_at cs i ≡ None
      none = ap (λ o. claim_of (joined o)) here ∙ old

      -- what another context claims was tentative, so it is not this place
      apart : (p : ℕ) (u : Place) → claim_at cs p ≡ Some u → u ≢ q
      apart p u h e = no-tentative _ was (subst (λ z. IsTrue (is_tentative (word_at words z))) e (own.tentative p u h))

      tentative : (p : ℕ) (u : Place) → claim_at (slice_set cs i y) p ≡ Some u → IsTrue (is_tentative (word_at new u))
      tentative p u h = elim (cases_eq p i) [
        | inl e ↦ (let same : Some q ≡ Some u = sym mine ∙ ap (claim_at (slice_set cs i y)) (sym e) ∙ h in
            let one : q ≡ u = cc in
            subst (λ z. IsTrue (is_tentative (word_at new z))) one is)
        | inr n ↦ (let k = sym (claim-other cs i y p n) ∙ h in ap is_tentative (at.others u (apart p u k)) ∙ own.tentative p u k)
      ]

      owner : (u : Place) → IsTrue (is_tentative (word_at new u)) → (p : ℕ) × (claim_at (slice_set cs i y) p ≡ Some u)
      owner u h = elim (place-or u q) [
        | inl e ↦ (i, mine ∙ ap Some (sym e))
        | inr n ↦ (let o = own.owner u (ap is_tentative (sym (at.others u n)) ∙ h) in
            (o.0, claim-other cs i y o.0 (λ e. nothing (ap (claim_at cs) e ∙ none) o.1) ∙ o.1))
      ]

      one : (p r : ℕ) (u : Place) → claim_at (slice_set cs i y) p ≡ Some u → claim_at (slice_set cs i y) r ≡ Some u → p ≡ r
      one p r u h k = elim (cases_eq p i) [
        | inl e ↦ elim (cases_eq r i) [
          | inl f ↦ e ∙ sym f
          | inr n ↦ (let same : Some q ≡ Some u = sym mine ∙ ap (claim_at (slice_set cs i y)) (sym e) ∙ h in
              let is : u ≡ q = cc in
              absurd (apart r u (sym (claim-other cs i y r n) ∙ k) is))
        ]
        | inr n ↦ elim (cases_eq r i) [
          | inl f ↦ (let same : Some q ≡ Some u = sym mine ∙ ap (claim_at (slice_set cs i y)) (sym f) ∙ k in
              let is : u ≡ q = cc in
              absurd (apart p u (sym (claim-other cs i y p n) ∙ h) is))
          | inr m ↦ own.one p r u (sym (claim-other cs i y p n) ∙ h) (sym (claim-other cs i y r m) ∙ k)
        ]
      ]

  -- one that claimed a place is set to one that claims nothing, and the place is not tentative any more
  pub owned-freed : (q : Place) (x : Option (OpenWork K V I)) → ChangesAt q words new → is_tentative (word_at new q) ≡ false → slice_get cs i ≡ Some x → claim_of x ≡ Some q → claim_of y ≡ None → AreOwned new (slice_set cs i y)
  owned-freed q x at freed here old quiet = record { tentative = tentative; owner = owner; one = one }
    where
      none : claim_at (slice_set cs i y) i ≡ None
      none = claim-here cs i y x here ∙ quiet

      was : claim_at cs i ≡ Some q
      was = ap (λ o. claim_of (joined o)) here ∙ old

      from : (p : ℕ) (u : Place) → claim_at (slice_set cs i y) p ≡ Some u → (p ≢ i) × (claim_at cs p ≡ Some u)
      from p u h = elim (cases_eq p i) [
        | inl e ↦ absurd (nothing (ap (claim_at (slice_set cs i y)) e ∙ none) h)
        | inr n ↦ (n, sym (claim-other cs i y p n) ∙ h)
      ]

      -- no other context claims the place
      apart : (p : ℕ) (u : Place) → p ≢ i → claim_at cs p ≡ Some u → u ≢ q
      apart p u n h e = n (own.one p i q (h ∙ ap Some e) was)

      tentative : (p : ℕ) (u : Place) → claim_at (slice_set cs i y) p ≡ Some u → IsTrue (is_tentative (word_at new u))
      tentative p u h = let k = from p u h in ap is_tentative (at.others u (apart p u k.0 k.1)) ∙ own.tentative p u k.1

      owner : (u : Place) → IsTrue (is_tentative (word_at new u)) → (p : ℕ) × (claim_at (slice_set cs i y) p ≡ Some u)
      owner u h =
          let other : u ≢ q = λ e. no-tentative _ freed (subst (λ z. IsTrue (is_tentative (word_at new z))) e h) in
          let o = own.owner u (ap is_tentative (sym (at.others u other)) ∙ h) in
          let elsewhere : o.0 ≢ i = λ e. (let same : Some u ≡ Some q = sym o.1 ∙ ap (claim_at cs) e ∙ was in let is : u ≡ q = cc in other is) in
          (o.0, claim-other cs i y o.0 elsewhere ∙ o.1)

      one : (p r : ℕ) (u : Place) → claim_at (slice_set cs i y) p ≡ Some u → claim_at (slice_set cs i y) r ≡ Some u → p ≡ r
      one p r u h k = own.one p r u (from p u h).1 (from r u k).1
