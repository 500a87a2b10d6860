-- What a step keeps of the look-ups that wait for a page.
use Rattle.std.proofs.Common.{◌≡◌, ◌≢◌, ◌⊎◌, inl, inr, ℕ, ◌<◌, ◌≤◌, List, Option, Some, None, slice_get, slice_set, refl, sym, ◌∙◌, ap, arith}
use Rattle.std.proofs.lemmas.Bool.{cases_eq}
use Rattle.std.specs.declared.cmp.Ordering.{Ordering}
use Rattle.fkv_functions.specs.Meanings.{Meanings}
use Rattle.fkv_functions.specs.Plain.{PlainMap}
use Rattle.fkv_functions.proofs.ListLemmas.{get-set_same, get-set_other}
use Rattle.fkv_operations.specs.After.{key_of}
use Rattle.fkv_partition.specs.Views.{PartitionView}
use Rattle.fkv_partition.specs.Pending.{Pending, pending, OthersPend, AllPend}
use Rattle.fkv_partition.specs.Effect.{Asked, asked}
use Rattle.fkv_partition.proofs.EffectLemmas.{closed-pending}
use Rattle.fkv_lives.specs.declared.lives.Finish.{Finish}
use Rattle.fkv_lives.specs.declared.lives.Life.{Life}
use Rattle.fkv_lives.specs.declared.steps.ContextId.{ContextId}
use Rattle.fkv_lives.specs.Lives.{finish_of, map_before}
use Rattle.fkv_worlds.specs.Worlds.{asked_at, asked_in, pending_at, pending_in, IsLooking, IsHeld}

pub same_where : (w u : ContextId) → (w ≡ u) ⊎ (w ≢ u)
same_where w u = elim (cases_eq w.partition u.partition) [
  | inr n ↦ inr (λ e. n (ap (λ (x : ContextId). x.partition) e))
  | inl a ↦ elim (cases_eq w.slot u.slot) [
    | inr n ↦ inr (λ e. n (ap (λ (x : ContextId). x.slot) e))
    | inl b ↦ elim (cases_eq w.context u.context) [
      | inr n ↦ inr (λ e. n (ap (λ (x : ContextId). x.context) e))
      | inl c ↦ inl (λ i. record { partition = a i; slot = b i; context = c i })
    ]
  ]
]

-- ---- a partition's contexts
-- what asks nothing waits for nothing, and what waits asks
module _ {K V I : Type 0} (cmp : K → K → Ordering) (v : PartitionView K V I) (slot c : ℕ) where
  pub closed-none : asked v slot c ≡ None → pending cmp v slot c ≡ None
  closed-none h = closed-pending v slot c cmp h

  pub waiting-asks : (p : Pending V) → pending cmp v slot c ≡ Some p → (x : Asked K V I) × (asked v slot c ≡ Some x)
  waiting-asks p h = by_question (asked v slot c) refl
    where
      by_question : (o : Option (Asked K V I)) → asked v slot c ≡ o → (x : Asked K V I) × (asked v slot c ≡ Some x)
      by_question None e = let n : None ≡ Some p = sym (closed-pending v slot c cmp e) ∙ h in absurd (cc)
      by_question (Some x) e = (x, e)

-- what waits in a world asks
pub waiting-at : {K V I : Type 0} (cmp : K → K → Ordering) (views : List (PartitionView K V I)) (w : ContextId) (q : Pending V) → pending_in cmp views w ≡ Some q → (x : Asked K V I) × (asked_in views w ≡ Some x)
waiting-at {K} {V} {I} cmp views w q h = at (slice_get views w.partition) h
  where
    at : (o : Option (PartitionView K V I)) → pending_at cmp o w.slot w.context ≡ Some q → (x : Asked K V I) × (asked_at o w.slot w.context ≡ Some x)
    at None k = absurd (cc)
    at (Some v) k = waiting-asks cmp v w.slot w.context q k

-- ---- one partition changes
module _ {K V I : Type 0} (cmp : K → K → Ordering) (views : List (PartitionView K V I)) (p : ℕ) (old new : PartitionView K V I) (here : slice_get views p ≡ Some old) where
  pub pend-here : (slot c : ℕ) → pending_in cmp (slice_set views p new) (record { partition = p; slot = slot; context = c }) ≡ pending cmp new slot c
  pend-here slot c = ap (λ t. pending_at cmp t slot c) (get-set_same views p old new here)

  pub pend-was : (slot c : ℕ) → pending_in cmp views (record { partition = p; slot = slot; context = c }) ≡ pending cmp old slot c
  pend-was slot c = ap (λ t. pending_at cmp t slot c) here

  pend-elsewhere : (w : ContextId) → w.partition ≢ p → pending_in cmp (slice_set views p new) w ≡ pending_in cmp views w
  pend-elsewhere w n = ap (λ t. pending_at cmp t w.slot w.context) (get-set_other views p w.partition new n)

  in_place : (w : ContextId) → w.partition ≡ p → pending cmp new w.slot w.context ≡ pending cmp old w.slot w.context → pending_in cmp (slice_set views p new) w ≡ pending_in cmp views w
  in_place w r same =
      ap (λ q. pending_at cmp (slice_get (slice_set views p new) q) w.slot w.context) r
      ∙ pend-here w.slot w.context ∙ same ∙ sym (pend-was w.slot w.context)
      ∙ ap (λ q. pending_at cmp (slice_get views q) w.slot w.context) (sym r)

  pub pend-others : (slot c : ℕ) → OthersPend cmp old new slot c → (w : ContextId) → w ≢ record { partition = p; slot = slot; context = c } → pending_in cmp (slice_set views p new) w ≡ pending_in cmp views w
  pend-others slot c same w n = elim (cases_eq w.partition p) [
    | inr r ↦ pend-elsewhere w r
    | inl r ↦ elim (cases_eq w.slot slot) [
      | inr s ↦ in_place w r (same w.slot w.context (inl s))
      | inl s ↦ elim (cases_eq w.context c) [
        | inr d ↦ in_place w r (same w.slot w.context (inr d))
        | inl d ↦ absurd (n (λ i. record { partition = r i; slot = s i; context = d i }))
      ]
    ]
  ]

  pub pend-all : AllPend cmp old new → (w : ContextId) → pending_in cmp (slice_set views p new) w ≡ pending_in cmp views w
  pend-all same w = elim (cases_eq w.partition p) [
    | inr r ↦ pend-elsewhere w r
    | inl r ↦ in_place w r (same w.slot w.context)
  ]

  -- what still waits waited before
  pub pend-sub : ((s d : ℕ) (q : Pending V) → pending cmp new s d ≡ Some q → pending cmp old s d ≡ Some q) → (w : ContextId) (q : Pending V) → pending_in cmp (slice_set views p new) w ≡ Some q → pending_in cmp views w ≡ Some q
  pend-sub sub w q h = elim (cases_eq w.partition p) [
    | inr r ↦ sym (pend-elsewhere w r) ∙ h
    | inl r ↦ ap (λ x. pending_at cmp (slice_get views x) w.slot w.context) r ∙ pend-was w.slot w.context
        ∙ sub w.slot w.context q (sym (pend-here w.slot w.context) ∙ ap (λ x. pending_at cmp (slice_get (slice_set views p new) x) w.slot w.context) (sym r) ∙ h)
  ]

  -- all stay, where that of this context does too
  pub pend-same : (slot c : ℕ) → OthersPend cmp old new slot c → pending cmp new slot c ≡ pending cmp old slot c → (w : ContextId) → pending_in cmp (slice_set views p new) w ≡ pending_in cmp views w
  pend-same slot c others same w = elim (same_where w (record { partition = p; slot = slot; context = c })) [
    | inl s ↦ ap (pending_in cmp (slice_set views p new)) s ∙ pend-here slot c ∙ same ∙ sym (pend-was slot c) ∙ ap (pending_in cmp views) (sym s)
    | inr n ↦ pend-others slot c others w n
  ]

  -- what waits is another context and waited before, where this one waits for nothing
  pub pend-rest : (slot c : ℕ) → OthersPend cmp old new slot c → pending cmp new slot c ≡ None → (w : ContextId) (q : Pending V) → pending_in cmp (slice_set views p new) w ≡ Some q
      → (w ≢ record { partition = p; slot = slot; context = c }) × (pending_in cmp views w ≡ Some q)
  pend-rest slot c others none w q h = elim (same_where w (record { partition = p; slot = slot; context = c })) [
    | inl s ↦ (let n : None ≡ Some q = sym (pend-here slot c ∙ none) ∙ ap (pending_in cmp (slice_set views p new)) (sym s) ∙ h in absurd (cc))
    | inr n ↦ (n, sym (pend-others slot c others w n) ∙ h)
  ]

-- ---- the world
module _ {K V I O : Type 0} (cmp : K → K → Ordering) (f : Meanings K V I O) (views : List (PartitionView K V I)) (life_at : ContextId → ℕ) (lives : List (Life K V I O)) (now : ℕ) (held : IsHeld cmp f views life_at lives now) where
  module _ (views' : List (PartitionView K V I)) (life_at' : ContextId → ℕ) (lives' : List (Life K V I O)) (next : ℕ) (le : now ≤ next) (same : (n : ℕ) → n ≤ now → map_before cmp f lives' n ≡ map_before cmp f lives n) where
    -- a look-up that waited, and still does
    pub looking-on : (w : ContextId) (p : Pending V) → IsLooking cmp f lives (life_at w) p now
        → ((life : Life K V I O) → slice_get lives (life_at w) ≡ Some life → slice_get lives' (life_at' w) ≡ Some life)
        → ((i : ℕ) (y : Life K V I O) (t : Finish O) → slice_get lives' i ≡ Some y → finish_of y ≡ Some t → t.effect ≢ p.moment)
        → IsLooking cmp f lives' (life_at' w) p next
    looking-on w p l here free = record {
      life = l.life;
      here = here l.life l.here;
      later = l.later;
      past = (let b = l.past in omega arith);
      op = l.op;
      is = l.is;
      free = free;
      value = l.value ∙ ap (λ (m : PlainMap K V). m (key_of l.op)) (sym (same p.moment l.past));
    }

    pub held-on : ((w : ContextId) (p : Pending V) → pending_in cmp views' w ≡ Some p → pending_in cmp views w ≡ Some p)
        → ((w : ContextId) (p : Pending V) → pending_in cmp views' w ≡ Some p → (life : Life K V I O) → slice_get lives (life_at w) ≡ Some life → slice_get lives' (life_at' w) ≡ Some life)
        → ((w : ContextId) (p : Pending V) → pending_in cmp views' w ≡ Some p → (i : ℕ) (y : Life K V I O) (t : Finish O) → slice_get lives' i ≡ Some y → finish_of y ≡ Some t → t.effect ≢ p.moment)
        → IsHeld cmp f views' life_at' lives' next
    held-on was here free = record {
      held = λ w p h. looking-on w p (held.held w p (was w p h)) (here w p h) (free w p h);
      apart = λ w u p q h k e. held.apart w u p q (was w p h) (was u q k) e;
    }

  -- no life changes
  module _ (views' : List (PartitionView K V I)) (next : ℕ) (le : now ≤ next) where
    pub held-sub : ((w : ContextId) (p : Pending V) → pending_in cmp views' w ≡ Some p → pending_in cmp views w ≡ Some p) → IsHeld cmp f views' life_at lives next
    held-sub was = held-on views' life_at lives next le (λ n b. refl) was (λ w p h life k. k) (λ w p h. (held.held w p (was w p h)).free)

    pub held-same : ((w : ContextId) → pending_in cmp views' w ≡ pending_in cmp views w) → IsHeld cmp f views' life_at lives next
    held-same same = held-sub (λ w p h. sym (same w) ∙ h)

    -- one more look-up waits, from now on
    pub held-more : (u : ContextId) (q : Pending V) → pending_in cmp views' u ≡ Some q → IsLooking cmp f lives (life_at u) q next → now < q.moment
        → ((w : ContextId) → w ≢ u → pending_in cmp views' w ≡ pending_in cmp views w)
        → IsHeld cmp f views' life_at lives next
    held-more u q is new later others = record {
      held = λ w p h. elim (same_where w u) [
        | inl s ↦ (let k : Some q ≡ Some p = sym is ∙ ap (pending_in cmp views') (sym s) ∙ h in let same : q ≡ p = cc in rw (s, ← same) new)
        | inr n ↦ (let k = sym (others w n) ∙ h in looking-on views' life_at lives next le (λ n b. refl) w p (held.held w p k) (λ life k. k) (held.held w p k).free)
      ];
      apart = λ w v p r h k e. elim (same_where w u) [
        | inl s ↦ elim (same_where v u) [
          | inl t ↦ s ∙ sym t
          | inr t ↦ (let a : Some q ≡ Some p = sym is ∙ ap (pending_in cmp views') (sym s) ∙ h in let b : q ≡ p = cc in
              let m : q.moment ≡ p.moment = ap (λ (z : Pending V). z.moment) b in
              let past = (held.held v r (sym (others v t) ∙ k)).past in absurd (omega arith))
        ]
        | inr s ↦ elim (same_where v u) [
          | inl t ↦ (let a : Some q ≡ Some r = sym is ∙ ap (pending_in cmp views') (sym t) ∙ k in let b : q ≡ r = cc in
              let m : q.moment ≡ r.moment = ap (λ (z : Pending V). z.moment) b in
              let past = (held.held w p (sym (others w s) ∙ h)).past in absurd (omega arith))
          | inr t ↦ held.apart w v p r (sym (others w s) ∙ h) (sym (others v t) ∙ k) e
        ]
      ];
    }
