-- What the contexts ask before and after one of them changes.
use Rattle.std.proofs.Common.{◌≡◌, ◌≢◌, Bool, true, false, cond, ◌&&◌, ℕ, zero, suc, ◌+◌, ◌-◌, ◌*◌, ◌<◌, ◌≤◌, ◌⊎◌, inl, inr, List, [], ◌∷◌, length, Option, Some, None, option_map, slice_get, slice_set, slice_range, take, drop, position, is_none, is_some, zero-add, subst, not, nat_lt, refl, sym, ◌∙◌, ap, arith}
use Rattle.std.proofs.lemmas.Bool.{cases_eq}
use Rattle.std.proofs.lemmas.Option.{slice_get_cases}
use Rattle.std.proofs.lemmas.Bool.Decides.{nat_tests}
use Rattle.std.specs.List.{position_or_len}
use Rattle.std.specs.Option.{option_flatten}
use Rattle.std.specs.declared.cmp.Ordering.{Ordering}
use Rattle.fkv_functions.specs.Meanings.{Meanings}
use Rattle.fkv_functions.specs.Plain.{PlainMap, Same}
use Rattle.fkv_operations.specs.After.{after, answer}
use Rattle.fkv_operations.specs.Operations.{keyed, op_of, map_after, after_keyed, answer_to, answer_keyed}
use Rattle.fkv_operations.specs.declared.operations.Answer.{Answer}
use Rattle.fkv_operations.specs.declared.operations.KeyedOp.{KeyedOp}
use Rattle.fkv_operations.specs.declared.operations.KeyedOp.TheVariants.{Read, Upsert, Rmw, Delete, Merge}
use Rattle.fkv_partition.specs.declared.contexts.Context.{Context}
use Rattle.fkv_partition.specs.declared.contexts.OpenWork.{OpenWork}
use Rattle.fkv_partition.specs.declared.contexts.OpenWork.TheVariants.{OnKey, Relocating}
use Rattle.fkv_partition.specs.declared.relocations.Relocation.{Relocation}
use Rattle.fkv_partition.specs.Contexts.{joined, is_session, context_in, on_key, relocating, claim_of}
use Rattle.fkv_partition.specs.Views.{PartitionView, slots_of, held_at, context_at, with_context, free_slot, open_context}
use Rattle.fkv_partition.specs.KeyEffect.{asked, asked_by}
use Rattle.fkv_functions.proofs.ListLemmas.{get-set_cases, get-set_same, get-set_other}

-- ---- operations on keys among all operations
pub keyed-op : {K V I : Type 0} (o : KeyedOp K V I) → keyed (op_of o) ≡ Some o
keyed-op (Read k i) = refl
keyed-op (Upsert k v) = refl
keyed-op (Rmw k i) = refl
keyed-op (Delete k) = refl
keyed-op (Merge k i) = refl

pub after-op : {K V I O : Type 0} (cmp : K → K → Ordering) (f : Meanings K V I O) (m n : PlainMap K V) (op : KeyedOp K V I) → Same n (after cmp f m op) → Same n (map_after cmp f m (op_of op))
after-op {K} {V} {I} cmp f m n op h q = h q ∙ ap (λ (o : Option (KeyedOp K V I)). after_keyed cmp f m o q) (sym (keyed-op op))

pub answer-op : {K V I O : Type 0} (f : Meanings K V I O) (m : PlainMap K V) (op : KeyedOp K V I) (a : Answer O) → a ≡ answer f m op → a ≡ answer_to f m (op_of op)
answer-op {K} {V} {I} f m op a h = h ∙ ap (λ (o : Option (KeyedOp K V I)). answer_keyed f m o) (sym (keyed-op op))

pub of-after : {K V I O : Type 0} (cmp : K → K → Ordering) (f : Meanings K V I O) (m n : PlainMap K V) (op : KeyedOp K V I) → Same n (map_after cmp f m (op_of op)) → Same n (after cmp f m op)
of-after {K} {V} {I} cmp f m n op h q = h q ∙ ap (λ (o : Option (KeyedOp K V I)). after_keyed cmp f m o q) (keyed-op op)

pub of-answer : {K V I O : Type 0} (f : Meanings K V I O) (m : PlainMap K V) (op : KeyedOp K V I) (a : Answer O) → a ≡ answer_to f m (op_of op) → a ≡ answer f m op
of-answer {K} {V} {I} f m op a h = h ∙ ap (λ (o : Option (KeyedOp K V I)). answer_keyed f m o) (keyed-op op)

pub op-same : {K V I : Type 0} (a b : KeyedOp K V I) → op_of a ≡ op_of b → a ≡ b
op-same a b h = let both : Some a ≡ Some b = sym (keyed-op a) ∙ ap keyed h ∙ keyed-op b in cc

-- ---- contexts
pub joined-some : {A : Type 0} (o : Option (Option A)) (x : A) → joined o ≡ Some x → o ≡ Some (Some x)
joined-some None x h = absurd (cc)
joined-some (Some y) x h = ap Some h

-- what an open context has
pub record IsOpenAt {A : Type 0} (slots : List (Option ℕ)) (contexts : List (Option A)) (slot c : ℕ) (x : A) : Type 0 where
  pub inside : is_session slots slot ≡ true
  pub low : c < 8
  pub here : slice_get contexts (slot * 8 + c) ≡ Some (Some x)

pub open_at : {A : Type 0} (slots : List (Option ℕ)) (contexts : List (Option A)) (slot c : ℕ) (x : A) → context_in slots contexts slot c ≡ Some x → IsOpenAt slots contexts slot c x
open_at slots contexts slot c x h = by_cases (is_session slots slot) (nat_lt c 8) refl refl h
  where
    by_cases : (a b : Bool) → is_session slots slot ≡ a → nat_lt c 8 ≡ b → cond (a && b) (joined (slice_get contexts (slot * 8 + c))) None ≡ Some x → IsOpenAt slots contexts slot c x
    by_cases true true p q e = record { inside = p; low = grind (arith, nat_tests); here = joined-some (slice_get contexts (slot * 8 + c)) x e }
    by_cases true false p q e = absurd (cc)
    by_cases false b p q e = absurd (cc)

pub context-inside : {A : Type 0} (slots : List (Option ℕ)) (contexts : List (Option A)) (slot c : ℕ) → is_session slots slot ≡ true → c < 8 → context_in slots contexts slot c ≡ joined (slice_get contexts (slot * 8 + c))
context-inside slots contexts slot c h low = let t : nat_lt c 8 ≡ true = grind (arith, nat_tests) in rw (h, t) refl

pub context-outside : {A : Type 0} (slots : List (Option ℕ)) (contexts : List (Option A)) (slot c : ℕ) → is_session slots slot ≡ false → None ≡ context_in slots contexts slot c
context-outside slots contexts slot c h = rw h refl

pub context-entered : {A : Type 0} (slots : List (Option ℕ)) (contexts : List (Option A)) (slot c : ℕ) → is_session slots slot ≡ true → cond (nat_lt c 8) (joined (slice_get contexts (slot * 8 + c))) None ≡ context_in slots contexts slot c
context-entered slots contexts slot c h = rw h refl

and-false : (a : Bool) → (a && false) ≡ false
and-false true = refl
and-false false = refl

pub context-other : {A : Type 0} (slots : List (Option ℕ)) (contexts : List (Option A)) (slot c s d : ℕ) (y : Option A) → c < 8 → (s ≢ slot) ⊎ (d ≢ c) → context_in slots (slice_set contexts (slot * 8 + c) y) s d ≡ context_in slots contexts s d
context-other slots contexts slot c s d y low other = by_cases (nat_lt d 8) refl
  where
    apart : d < 8 → s * 8 + d ≢ slot * 8 + c
    apart h e = elim other [ inl a ↦ a (omega arith) | inr b ↦ b (omega arith) ]

    by_cases : (b : Bool) → nat_lt d 8 ≡ b → context_in slots (slice_set contexts (slot * 8 + c) y) s d ≡ context_in slots contexts s d
    by_cases true t = ap (λ o. cond (is_session slots s && nat_lt d 8) (joined o) None) (get-set_other contexts (slot * 8 + c) (s * 8 + d) y (apart (grind (arith, nat_tests))))
    by_cases false t = rw (t, and-false (is_session slots s)) refl

-- ---- an operation on a key, or a relocation
pub key-is : {K V I : Type 0} (o : Option (OpenWork K V I)) (x : Context K V I) → on_key o ≡ Some x → o ≡ Some (OnKey x)
key-is None x h = absurd (cc)
key-is (Some (OnKey y)) x h = let same : y ≡ x = cc in ap (λ z. Some (OnKey z)) same
key-is (Some (Relocating y)) x h = absurd (cc)

pub relocation-is : {K V I : Type 0} (o : Option (OpenWork K V I)) (x : Relocation K V) → relocating o ≡ Some x → o ≡ Some (Relocating x)
relocation-is None x h = absurd (cc)
relocation-is (Some (OnKey y)) x h = absurd (cc)
relocation-is (Some (Relocating y)) x h = let same : y ≡ x = cc in ap (λ z. Some (Relocating z)) same

pub key-of : {K V I : Type 0} (y : Option (Context K V I)) → on_key (option_map OnKey y) ≡ y
key-of None = refl
key-of (Some x) = refl

pub key-moves_nothing : {K V I : Type 0} (y : Option (Context K V I)) → relocating (option_map OnKey y) ≡ None
key-moves_nothing None = refl
key-moves_nothing (Some x) = refl

pub relocation-of : {K V : Type 0} (I : Type 0) (y : Option (Relocation K V)) → relocating {I = I} (option_map Relocating y) ≡ y
relocation-of I None = refl
relocation-of I (Some x) = refl

pub relocation-keyless : {K V I : Type 0} (y : Option (Relocation K V)) → on_key {I = I} (option_map Relocating y) ≡ None
relocation-keyless None = refl
relocation-keyless (Some x) = refl

-- no operation on a key claims no entry
pub keyless-claims : {K V I : Type 0} (o : Option (OpenWork K V I)) → on_key o ≡ None → claim_of o ≡ None
keyless-claims None h = refl
keyless-claims (Some (OnKey x)) h = absurd (cc)
keyless-claims (Some (Relocating x)) h = refl

pub key_at : {K V I : Type 0} (slots : List (Option ℕ)) (contexts : List (Option (OpenWork K V I))) (slot c : ℕ) (x : Context K V I) → on_key (context_in slots contexts slot c) ≡ Some x → IsOpenAt slots contexts slot c (OnKey x)
key_at slots contexts slot c x h = open_at slots contexts slot c (OnKey x) (key-is (context_in slots contexts slot c) x h)

pub moving_at : {K V I : Type 0} (slots : List (Option ℕ)) (contexts : List (Option (OpenWork K V I))) (slot c : ℕ) (x : Relocation K V) → relocating (context_in slots contexts slot c) ≡ Some x → IsOpenAt slots contexts slot c (Relocating x)
moving_at slots contexts slot c x h = open_at slots contexts slot c (Relocating x) (relocation-is (context_in slots contexts slot c) x h)

-- where a place shows nothing, and is set to what shows nothing, every place shows what it did
pub shown-set : {A B : Type 0} (f : Option A → Option B) → f None ≡ None → (xs : List (Option A)) (i q : ℕ) (o : Option A) → f (joined (slice_get xs i)) ≡ None → f o ≡ None
    → f (joined (slice_get (slice_set xs i o) q)) ≡ f (joined (slice_get xs q))
shown-set {A} f nothing xs i q o old new = elim (cases_eq q i) [
  | inl same ↦ ap (λ n. f (joined (slice_get (slice_set xs i o) n))) same ∙ by_get (slice_get (slice_set xs i o) i) refl ∙ sym (ap (λ n. f (joined (slice_get xs n))) same ∙ old)
  | inr other ↦ ap (λ z. f (joined z)) (get-set_other xs i q o other)
]
  where
    by_get : (z : Option (Option A)) → slice_get (slice_set xs i o) i ≡ z → f (joined (slice_get (slice_set xs i o) i)) ≡ None
    by_get None h = ap (λ z. f (joined z)) h ∙ nothing
    by_get (Some y) h = ap (λ z. f (joined z)) h ∙ (elim (get-set_cases xs i i o y h) [
      | inl is ↦ ap f (sym is.1) ∙ new
      | inr was ↦ ap (λ z. f (joined z)) (sym was) ∙ old
    ])

pub shown-stays : {A B : Type 0} (f : Option A → Option B) → f None ≡ None → (slots : List (Option ℕ)) (xs : List (Option A)) (slot c s d : ℕ) (o : Option A) → f (joined (slice_get xs (slot * 8 + c))) ≡ None → f o ≡ None
    → f (context_in slots (slice_set xs (slot * 8 + c) o) s d) ≡ f (context_in slots xs s d)
shown-stays f nothing slots xs slot c s d o old new = by_test (is_session slots s && nat_lt d 8)
  where
    by_test : (b : Bool) → f (cond b (joined (slice_get (slice_set xs (slot * 8 + c) o) (s * 8 + d))) None) ≡ f (cond b (joined (slice_get xs (s * 8 + d))) None)
    by_test true = shown-set f nothing xs (slot * 8 + c) (s * 8 + d) o old new
    by_test false = refl

module _ {K V I : Type 0} (v : PartitionView K V I) (slot c now : ℕ) (x : Context K V I) (h : context_at v slot c ≡ Some x) where
  -- the changed context
  pub context-same : (y : Option (Context K V I)) → context_at (with_context v slot c y now) slot c ≡ y
  context-same y =
      let o = key_at (slots_of v) v.contexts slot c x h in
      ap on_key (context-inside (slots_of v) (slice_set v.contexts (slot * 8 + c) (option_map OnKey y)) slot c o.inside o.low ∙ ap joined (get-set_same v.contexts (slot * 8 + c) (Some (OnKey x)) (option_map OnKey y) o.here)) ∙ key-of y

  -- what the changed context asks
  pub asked-same : (y : Option (Context K V I)) → asked (with_context v slot c y now) slot c ≡ option_map asked_by y
  asked-same y = ap (option_map asked_by) (context-same y)

  -- every other one
  pub context-apart : (y : Option (Context K V I)) (s d : ℕ) → (s ≢ slot) ⊎ (d ≢ c) → context_at (with_context v slot c y now) s d ≡ context_at v s d
  context-apart y s d other = ap on_key (context-other (slots_of v) v.contexts slot c s d (option_map OnKey y) (key_at (slots_of v) v.contexts slot c x h).low other)

  -- and what it asks
  pub asked-other : (y : Option (Context K V I)) (s d : ℕ) → (s ≢ slot) ⊎ (d ≢ c) → asked (with_context v slot c y now) s d ≡ asked v s d
  asked-other y s d other = ap (option_map asked_by) (context-apart y s d other)

-- ---- the lowest free place
pub record IsFoundAt {A : Type 0} (p : A → Bool) (xs : List A) (i : ℕ) : Type 0 where
  pub item : A
  pub here : slice_get xs i ≡ Some item
  pub passes : p item ≡ true

past : {A : Type 0} (p : A → Bool) (x : A) (xs : List A) (n : ℕ) → p x ≡ false → IsFoundAt p xs n → IsFoundAt p (x ∷ xs) (cond (not (p x)) (1 + n) 0)
past p x xs n t r =
    let one : 1 + n ≡ suc n = omega arith in
    let here : slice_get (x ∷ xs) (cond (not (p x)) (1 + n) 0) ≡ Some r.item = rw (t, one) r.here in
    record { item = r.item; here = here; passes = r.passes }

found : {A : Type 0} (p : A → Bool) (xs : List A) → position_or_len p xs < length xs → IsFoundAt p xs (position_or_len p xs)
found p [] h = absurd (omega arith)
found {A} p (x ∷ xs) h = by_case (found p xs) (p x) refl h
  where
    by_case : (position_or_len p xs < length xs → IsFoundAt p xs (position_or_len p xs)) → (b : Bool) → p x ≡ b → cond (not (p x)) (1 + position_or_len p xs) 0 < length (x ∷ xs) → IsFoundAt p (x ∷ xs) (cond (not (p x)) (1 + position_or_len p xs) 0)
    by_case more true t k = let here : slice_get (x ∷ xs) (cond (not (p x)) (1 + position_or_len p xs) 0) ≡ Some x = rw t refl in record { item = x; here = here; passes = t }
    by_case more false t k =
        let low : 1 + position_or_len p xs < length (x ∷ xs) = rw t at k in
        past p x xs (position_or_len p xs) t (more (omega arith))

pub position-found : {A : Type 0} (p : A → Bool) (xs : List A) (i : ℕ) → position p xs ≡ Some i → IsFoundAt p xs i
position-found {A} p xs i h = by_test (nat_lt (position_or_len p xs) (length xs)) refl h
  where
    by_test : (b : Bool) → nat_lt (position_or_len p xs) (length xs) ≡ b → cond b (Some (position_or_len p xs)) None ≡ Some i → IsFoundAt p xs i
    by_test true t k = let same : position_or_len p xs ≡ i = cc in subst (IsFoundAt p xs) same (found p xs (grind (arith, nat_tests)))
    by_test false t k = absurd (cc)

none-is : {A : Type 0} (o : Option A) → is_none o ≡ true → o ≡ None
none-is None h = refl
none-is (Some x) h = absurd (cc)

pub get-drop : {A : Type 0} (n i : ℕ) (xs : List A) → slice_get (drop n xs) i ≡ slice_get xs (n + i)
get-drop zero i xs = rw zero-add refl
get-drop (suc n) i [] = refl
get-drop (suc n) i (x ∷ xs) = let one : suc n + i ≡ suc (n + i) = omega arith in rw one (get-drop n i xs)

pub get-take : {A : Type 0} (n i : ℕ) (xs : List A) (x : A) → slice_get (take n xs) i ≡ Some x → slice_get xs i ≡ Some x
get-take zero i xs x h = absurd (cc)
get-take (suc n) i [] x h = absurd (cc)
get-take (suc n) zero (y ∷ ys) x h = h
get-take (suc n) (suc i) (y ∷ ys) x h = get-take n i ys x h

pub take-low : {A : Type 0} (n i : ℕ) (xs : List A) (x : A) → slice_get (take n xs) i ≡ Some x → i < n
take-low zero i xs x h = absurd (cc)
take-low (suc n) i [] x h = absurd (cc)
take-low (suc n) zero (y ∷ ys) x h = omega arith
take-low (suc n) (suc i) (y ∷ ys) x h = let low = take-low n i ys x h in omega arith

-- one of a session's eight in which nothing is open
pub free-here : {A : Type 0} (slots : List (Option ℕ)) (contexts : List (Option A)) (slot c : ℕ) → length contexts ≡ 128 → slot < 16 → c < 8 → is_session slots slot ≡ true → context_in slots contexts slot c ≡ None → slice_get contexts (slot * 8 + c) ≡ Some None
free-here slots contexts slot c places session low inside free = by_get (slice_get contexts (slot * 8 + c)) refl
  where
    by_get : (o : Option (Option _)) → slice_get contexts (slot * 8 + c) ≡ o → slice_get contexts (slot * 8 + c) ≡ Some None
    by_get None e = absurd (elim (slice_get_cases contexts (slot * 8 + c)).1 [
      | inl some ↦ (let bad = sym e ∙ some.2 in cc)
      | inr past ↦ (let le = past.0 in omega arith)
    ])
    by_get (Some None) e = e
    by_get (Some (Some x)) e = absurd (let is = sym (context-inside slots contexts slot c inside low ∙ ap joined e) ∙ free in cc)

-- a place written and written back, and one past the end
pub set-back : {A : Type 0} (xs : List A) (i : ℕ) (x y : A) → slice_get xs i ≡ Some y → slice_set (slice_set xs i x) i y ≡ xs
set-back [] i x y h = refl
set-back (z ∷ zs) zero x y h = let same : y ≡ z = cc in ap (λ w. w ∷ zs) same
set-back (z ∷ zs) (suc i) x y h = ap (λ ws. z ∷ ws) (set-back zs i x y h)

pub set-past : {A : Type 0} (xs : List A) (i : ℕ) (x : A) → length xs ≤ i → slice_set xs i x ≡ xs
set-past [] i x h = refl
set-past (z ∷ zs) zero x h = absurd (omega arith)
set-past (z ∷ zs) (suc i) x h = ap (λ ws. z ∷ ws) (set-past zs i x (omega arith))

-- a free slot is that of no session
pub free-slot : {K V I : Type 0} (v : PartitionView K V I) (slot : ℕ) → free_slot v ≡ Some slot → slice_get (slots_of v) slot ≡ Some None
free-slot v slot h =
    let f = position-found is_none (slots_of v) slot h in
    f.here ∙ ap Some (none-is f.item f.passes)

-- ---- a session with no open context
none-before : {A : Type 0} (p : A → Bool) (xs : List A) → length xs ≤ position_or_len p xs → (i : ℕ) (x : A) → slice_get xs i ≡ Some x → p x ≡ false
none-before p [] h i x k = absurd (cc)
none-before {A} p (y ∷ ys) h i x k = by_case (none-before p ys) (p y) refl h i k
  where
    by_case : (length ys ≤ position_or_len p ys → (i : ℕ) (x : A) → slice_get ys i ≡ Some x → p x ≡ false) → (b : Bool) → p y ≡ b → length (y ∷ ys) ≤ cond (not (p y)) (1 + position_or_len p ys) 0 → (i : ℕ) → slice_get (y ∷ ys) i ≡ Some x → p x ≡ false
    by_case more true t l i e = let low : length (y ∷ ys) ≤ 0 = rw t at l in absurd (omega arith)
    by_case more false t l zero e = let same : y ≡ x = cc in ap p (sym same) ∙ t
    by_case more false t l (suc i) e = let low : length (y ∷ ys) ≤ 1 + position_or_len p ys = rw t at l in more (omega arith) i x e

pub position-none : {A : Type 0} (p : A → Bool) (xs : List A) → position p xs ≡ None → (i : ℕ) (x : A) → slice_get xs i ≡ Some x → p x ≡ false
position-none {A} p xs h i x k = by_test (nat_lt (position_or_len p xs) (length xs)) refl h
  where
    by_test : (b : Bool) → nat_lt (position_or_len p xs) (length xs) ≡ b → cond b (Some (position_or_len p xs)) None ≡ None → p x ≡ false
    by_test true t e = absurd (cc)
    by_test false t e = none-before p xs (grind (arith, nat_tests)) i x k

pub get-take_back : {A : Type 0} (n i : ℕ) (xs : List A) (x : A) → i < n → slice_get xs i ≡ Some x → slice_get (take n xs) i ≡ Some x
get-take_back zero i xs x l h = absurd (omega arith)
get-take_back (suc n) i [] x l h = absurd (cc)
get-take_back (suc n) zero (y ∷ ys) x l h = h
get-take_back (suc n) (suc i) (y ∷ ys) x l h = get-take_back n i ys x (omega arith) h

-- nothing stands in its contexts
pub idle : {K V I : Type 0} (v : PartitionView K V I) (slot c : ℕ) (x : OpenWork K V I) → open_context v slot ≡ None → c < 8 → slice_get v.contexts (slot * 8 + c) ≡ Some (Some x) → ⊥
idle v slot c x h low here =
    let room : c < (slot * 8 + 8) - slot * 8 = omega arith in
    let there = get-take_back ((slot * 8 + 8) - slot * 8) c (drop (slot * 8) v.contexts) (Some x) room (get-drop (slot * 8) c v.contexts ∙ here) in
    let no : true ≡ false = position-none is_some (slice_range v.contexts (slot * 8) (slot * 8 + 8)) h c (Some x) there in
    absurd (cc)

pub idle-held : {K V I : Type 0} (v : PartitionView K V I) (slot c : ℕ) → open_context v slot ≡ None → held_at v slot c ≡ None
idle-held v slot c h = by_cases (held_at v slot c) refl
  where
    by_cases : (o : Option (OpenWork _ _ _)) → held_at v slot c ≡ o → held_at v slot c ≡ None
    by_cases None e = e
    by_cases (Some x) e = let o = open_at (slots_of v) v.contexts slot c x e in absurd (idle v slot c x h o.low o.here)

-- a slot that is left
pub left-here : (slots : List (Option ℕ)) (slot : ℕ) → is_session (slice_set slots slot None) slot ≡ false
left-here [] slot = refl
left-here (b ∷ bs) zero = refl
left-here (b ∷ bs) (suc slot) = left-here bs slot

pub context-left : {A : Type 0} (slots : List (Option ℕ)) (contexts : List (Option A)) (slot c : ℕ) → context_in (slice_set slots slot None) contexts slot c ≡ None
context-left slots contexts slot c = rw (left-here slots slot) refl

pub context-elsewhere : {A : Type 0} (slots : List (Option ℕ)) (contexts : List (Option A)) (slot s c : ℕ) (b : Option ℕ) → s ≢ slot → context_in (slice_set slots slot b) contexts s c ≡ context_in slots contexts s c
context-elsewhere slots contexts slot s c b n = ap (λ o. cond (is_some (option_flatten o) && nat_lt c 8) (joined (slice_get contexts (s * 8 + c))) None) (get-set_other slots slot s b n)

-- a session that is entered stays so with another epoch
pub renewed-here : (slots : List (Option ℕ)) (slot e : ℕ) → is_session slots slot ≡ true → is_session (slice_set slots slot (Some e)) slot ≡ true
renewed-here [] slot e h = h
renewed-here (o ∷ os) zero e h = refl
renewed-here (o ∷ os) (suc slot) e h = renewed-here os slot e h

pub renewed-stays : (slots : List (Option ℕ)) (slot t e : ℕ) → is_session slots t ≡ true → is_session (slice_set slots slot (Some e)) t ≡ true
renewed-stays [] slot t e h = h
renewed-stays (o ∷ os) zero zero e h = refl
renewed-stays (o ∷ os) zero (suc t) e h = h
renewed-stays (o ∷ os) (suc slot) zero e h = h
renewed-stays (o ∷ os) (suc slot) (suc t) e h = renewed-stays os slot t e h

pub context-renewed : {A : Type 0} (slots : List (Option ℕ)) (contexts : List (Option A)) (slot e s c : ℕ) → is_session slots slot ≡ true → context_in (slice_set slots slot (Some e)) contexts s c ≡ context_in slots contexts s c
context-renewed slots contexts slot e s c h = elim (cases_eq s slot) [
  | inl same ↦
      ap (λ n. context_in (slice_set slots slot (Some e)) contexts n c) same
      ∙ (rw (renewed-here slots slot e h, h) refl)
      ∙ ap (λ n. context_in slots contexts n c) (sym same)
  | inr other ↦ context-elsewhere slots contexts slot s c (Some e) other
]
