-- What is told of contexts in which neither an operation nor a relocation stands.
use Rattle.std.proofs.Common.{◌≡◌, ◌↔◌, Bool, true, false, not, cond, nat_lt, ℕ, zero, suc, ◌+◌, ◌-◌, ◌*◌, ◌<◌, IsTrue, IsSome, List, [], ◌∷◌, length, Option, Some, None, is_some, slice_get, slice_range, take, drop, position, subst, refl, sym, ◌∙◌, ap, arith}
use Rattle.std.proofs.lemmas.Bool.{false≢true}
use Rattle.std.specs.List.{position_or_len}
use Rattle.fkv_partition.specs.Contexts.{joined, is_session, relocating}
use Rattle.fkv_partition.specs.Views.{slots_of, PartitionView, relocation_at}
use Rattle.fkv_partition.proofs.AskedLemmas.{moving_at, context-inside, position-found, position-none, get-drop, get-take, take-low, get-take_back}
use Rattle.fkv_partition.specs.declared.contexts.OpenWork.TheVariants.{Relocating}
use Rattle.fkv_partition.specs.declared.relocations.Relocation.{Relocation}
use Rattle.fkv_partition.specs.Beginning.{IsFirstOpen}
use Rattle.fkv_partition.proofs.MoveLemmas.{closed-outside}

some-of : {A : Type 0} (o : Option A) → is_some o ≡ true → (x : A) × (o ≡ Some x)
some-of None h = absurd (cc)
some-of (Some x) h = (x, refl)

-- ---- the lowest of a session's contexts in which a relocation is open
-- whether one is open
pub has-told : {K V I : Type 0} (v : PartitionView K V I) (slot : ℕ) → is_session (slots_of v) slot ≡ true
    → (o : Option ℕ) → o ≡ position (λ o. is_some (relocating o)) (slice_range v.contexts (slot * 8) (slot * 8 + 8))
    → (b : Bool) → is_some o ≡ b
    → IsTrue b ↔ ((c : ℕ) × (x : Relocation K V) × (relocation_at v slot c ≡ Some x))
has-told {K} {V} {I} v slot inside o is b told = subst (λ t. IsTrue t ↔ ((c : ℕ) × (x : Relocation K V) × (relocation_at v slot c ≡ Some x))) told (by_found o is)
  where
    none-open : None ≡ position (λ o. is_some (relocating o)) (slice_range v.contexts (slot * 8) (slot * 8 + 8)) → (c : ℕ) (x : Relocation K V) → relocation_at v slot c ≡ Some x → ⊥
    none-open e c x at =
        let a = moving_at (slots_of v) v.contexts slot c x at in
        let low = a.low in
        let room : c < (slot * 8 + 8) - slot * 8 = omega arith in
        let there = get-take_back ((slot * 8 + 8) - slot * 8) c (drop (slot * 8) v.contexts) (Some (Relocating x)) room (get-drop (slot * 8) c v.contexts ∙ a.here) in
        let no : true ≡ false = position-none (λ o. is_some (relocating o)) (slice_range v.contexts (slot * 8) (slot * 8 + 8)) (sym e) c (Some (Relocating x)) there in
        cc

    one-open : (c : ℕ) → Some c ≡ position (λ o. is_some (relocating o)) (slice_range v.contexts (slot * 8) (slot * 8 + 8)) → (d : ℕ) × (x : Relocation K V) × (relocation_at v slot d ≡ Some x)
    one-open c e =
        let f = position-found (λ o. is_some (relocating o)) (slice_range v.contexts (slot * 8) (slot * 8 + 8)) c (sym e) in
        let x = some-of (relocating f.item) f.passes in
        let room : (slot * 8 + 8) - slot * 8 ≡ 8 = omega arith in
        let low = take-low 8 c (drop (slot * 8) v.contexts) f.item (subst (λ n. slice_get (take n (drop (slot * 8) v.contexts)) c ≡ Some f.item) room f.here) in
        let here = sym (get-drop (slot * 8) c v.contexts) ∙ get-take ((slot * 8 + 8) - slot * 8) c (drop (slot * 8) v.contexts) f.item f.here in
        (c, x.0, ap relocating (context-inside (slots_of v) v.contexts slot c inside low ∙ ap joined here) ∙ x.1)

    by_found : (o : Option ℕ) → o ≡ position (λ o. is_some (relocating o)) (slice_range v.contexts (slot * 8) (slot * 8 + 8)) → IsTrue (is_some o) ↔ ((c : ℕ) × (x : Relocation K V) × (relocation_at v slot c ≡ Some x))
    by_found None e = (λ yes. absurd (cc), λ h. absurd (none-open e h.0 h.1 h.2))
    by_found (Some c) e = (λ yes. one-open c e, λ h. refl)

pub has-outside : {K V I : Type 0} (v : PartitionView K V I) (slot : ℕ) → is_session (slots_of v) slot ≡ false
    → (b : Bool) → b ≡ false → IsTrue b ↔ ((c : ℕ) × (x : Relocation K V) × (relocation_at v slot c ≡ Some x))
has-outside {K} {V} v slot out b is = (λ yes. absurd (false≢true (sym is ∙ yes)), λ h. absurd (closed h.0 h.1 h.2))
  where
    closed : (c : ℕ) (x : Relocation K V) → relocation_at v slot c ≡ Some x → ⊥
    closed c x at = let none : None ≡ Some x = closed-outside v slot c out ∙ at in cc

-- what stands before the lowest that is found
before : {A : Type 0} (p : A → Bool) (xs : List A) (d : ℕ) (x : A) → d < position_or_len p xs → slice_get xs d ≡ Some x → p x ≡ false
before p [] d x l h = absurd (omega arith)
before {A} p (y ∷ ys) d x l h = by_case (before p ys) (p y) refl d l h
  where
    by_case : ((i : ℕ) (z : A) → i < position_or_len p ys → slice_get ys i ≡ Some z → p z ≡ false) → (b : Bool) → p y ≡ b → (i : ℕ) → i < cond (not (p y)) (1 + position_or_len p ys) 0 → slice_get (y ∷ ys) i ≡ Some x → p x ≡ false
    by_case more true t i k e = let low : i < 0 = rw t at k in absurd (omega arith)
    by_case more false t zero k e = let same : y ≡ x = cc in subst (λ z. p z ≡ false) same t
    by_case more false t (suc i) k e = let low : suc i < 1 + position_or_len p ys = rw t at k in more i x (omega arith) e

position-before : {A : Type 0} (p : A → Bool) (xs : List A) (i d : ℕ) (x : A) → position p xs ≡ Some i → d < i → slice_get xs d ≡ Some x → p x ≡ false
position-before {A} p xs i d x h low at = by_test (nat_lt (position_or_len p xs) (length xs)) refl h
  where
    by_test : (b : Bool) → nat_lt (position_or_len p xs) (length xs) ≡ b → cond b (Some (position_or_len p xs)) None ≡ Some i → p x ≡ false
    by_test true t k = let same : position_or_len p xs ≡ i = cc in before p xs d x (rw same low) at
    by_test false t k = absurd (cc)

-- a slot of no session has none
pub none-outside : {K V I : Type 0} (v : PartitionView K V I) (slot : ℕ) → is_session (slots_of v) slot ≡ false → IsFirstOpen v slot None
none-outside v slot out d = rw out refl

-- the lowest that is open, or that none is
pub first-told : {K V I : Type 0} (v : PartitionView K V I) (slot : ℕ) → is_session (slots_of v) slot ≡ true
    → (o : Option ℕ) → o ≡ position (λ o. is_some (relocating o)) (slice_range v.contexts (slot * 8) (slot * 8 + 8))
    → IsFirstOpen v slot o
first-told {K} {V} {I} v slot inside o e = by_found o e
  where
    there : (c : ℕ) (x : Relocation K V) → relocation_at v slot c ≡ Some x → slice_get (slice_range v.contexts (slot * 8) (slot * 8 + 8)) c ≡ Some (Some (Relocating x))
    there c x at =
        let a = moving_at (slots_of v) v.contexts slot c x at in
        let low = a.low in
        let room : c < (slot * 8 + 8) - slot * 8 = omega arith in
        get-take_back ((slot * 8 + 8) - slot * 8) c (drop (slot * 8) v.contexts) (Some (Relocating x)) room (get-drop (slot * 8) c v.contexts ∙ a.here)

    none-open : None ≡ position (λ o. is_some (relocating o)) (slice_range v.contexts (slot * 8) (slot * 8 + 8)) → (d : ℕ) → relocation_at v slot d ≡ None
    none-open e d = by_held (relocation_at v slot d) refl
      where
        by_held : (r : Option (Relocation K V)) → relocation_at v slot d ≡ r → relocation_at v slot d ≡ None
        by_held None h = h
        by_held (Some x) h =
            let no : true ≡ false = position-none (λ o. is_some (relocating o)) (slice_range v.contexts (slot * 8) (slot * 8 + 8)) (sym e) d (Some (Relocating x)) (there d x h) in
            absurd (cc)

    none-before : (c : ℕ) → Some c ≡ position (λ o. is_some (relocating o)) (slice_range v.contexts (slot * 8) (slot * 8 + 8)) → (d : ℕ) → d < c → relocation_at v slot d ≡ None
    none-before c e d less = by_held (relocation_at v slot d) refl
      where
        by_held : (r : Option (Relocation K V)) → relocation_at v slot d ≡ r → relocation_at v slot d ≡ None
        by_held None h = h
        by_held (Some x) h =
            let no : true ≡ false = position-before (λ o. is_some (relocating o)) (slice_range v.contexts (slot * 8) (slot * 8 + 8)) c d (Some (Relocating x)) (sym e) less (there d x h) in
            absurd (cc)

    one-open : (c : ℕ) → Some c ≡ position (λ o. is_some (relocating o)) (slice_range v.contexts (slot * 8) (slot * 8 + 8)) → IsSome (relocation_at v slot c)
    one-open c e =
        let f = position-found (λ o. is_some (relocating o)) (slice_range v.contexts (slot * 8) (slot * 8 + 8)) c (sym e) in
        let x = some-of (relocating f.item) f.passes in
        let room : (slot * 8 + 8) - slot * 8 ≡ 8 = omega arith in
        let low = take-low 8 c (drop (slot * 8) v.contexts) f.item (subst (λ n. slice_get (take n (drop (slot * 8) v.contexts)) c ≡ Some f.item) room f.here) in
        let here = sym (get-drop (slot * 8) c v.contexts) ∙ get-take ((slot * 8 + 8) - slot * 8) c (drop (slot * 8) v.contexts) f.item f.here in
        subst IsSome (sym (ap relocating (context-inside (slots_of v) v.contexts slot c inside low ∙ ap joined here) ∙ x.1)) refl

    by_found : (r : Option ℕ) → r ≡ position (λ o. is_some (relocating o)) (slice_range v.contexts (slot * 8) (slot * 8 + 8)) → IsFirstOpen v slot r
    by_found None e = none-open e
    by_found (Some c) e = (one-open c e, none-before c e)
