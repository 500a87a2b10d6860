-- Partitions that are made, and their places in a store.
use Rattle.std.proofs.Common.{◌≡◌, Bool, true, false, cond, ℕ, zero, suc, ◌+◌, ◌*◌, ◌≤◌, inl, inr, List, [], ◌∷◌, ◌++◌, length, replicate, map, Option, Some, None, Ok, Err, slice_get, slice_set, nat_lt, ◌&&◌, refl, sym, ◌∙◌, ap, subst, arith, length-append}
use Rattle.std.specs.declared.cmp.Ordering.{Ordering}
use Rattle.fkv_functions.specs.declared.refusals.Refused.{Refused}
use Rattle.fkv_functions.proofs.ListLemmas.{get-append_cases}
use Rattle.fkv_regions.specs.RegionsView.{fresh_regions, entered}
use Rattle.fkv_regions.specs.Settled.{IsSettled}
use Rattle.fkv_regions.proofs.SettledLemmas.{enter-settles}
use Rattle.fkv_partition.specs.declared.limits.Config.{Config}
use Rattle.fkv_partition.specs.KeyBeginning as beginning
use Rattle.fkv_partition.specs.Contexts.{joined, is_session, context_in, on_key, relocating}
use Rattle.fkv_partition.specs.Views.{PartitionView, slots_of, context_at, relocation_at, live_of, empty_partition}
use Rattle.fkv_partition.specs.Events.{Enters}
use Rattle.fkv_local.specs.Resting.{IsSeatedIn, AreNew}

-- ---- a partition with nothing in it but a session
nothing-entered : (n slot : ℕ) → is_session (replicate n None) slot ≡ false
nothing-entered zero slot = refl
nothing-entered (suc n) zero = refl
nothing-entered (suc n) (suc slot) = nothing-entered n slot

abbrev nothing : (A : Type 0) → Option A
nothing A = None

nothing-open : {A : Type 0} (n i : ℕ) → joined (slice_get (replicate n (nothing A)) i) ≡ None
nothing-open zero i = refl
nothing-open (suc n) zero = refl
nothing-open (suc n) (suc i) = nothing-open n i

unopened : {A : Type 0} (slots : List (Option ℕ)) (slot c : ℕ) → context_in slots (replicate 128 (nothing A)) slot c ≡ None
unopened {A = A} slots slot c = ap (λ o. cond (is_session slots slot && nat_lt c 8) o None) (nothing-open {A = A} 128 (slot * 8 + c)) ∙ either (is_session slots slot && nat_lt c 8)
  where
    either : (b : Bool) → cond b (nothing A) None ≡ None
    either true = refl
    either false = refl

module _ {K V I : Type 0} (cmp : K → K → Ordering) (merges : Bool) (config : Config) (size number now : ℕ) where
  core-enters : (w : PartitionView K V I) (e : Refused) → beginning.Enters (empty_partition merges config size number) w now (Err e) → ⊥
  core-enters w e (beginning.Enters.full f n r) = absurd (cc)
  core-enters w e (beginning.Enters.enters slot f n r) = absurd (cc)

  pub enters-always : (w : PartitionView K V I) (e : Refused) → Enters (empty_partition merges config size number) w now (Err e) → ⊥
  enters-always w e h = core-enters w e h.does

  seated-in : (w : PartitionView K V I) (slot : ℕ) → now ≡ number + 1 → w.moment ≤ now → beginning.Enters (empty_partition merges config size number) w now (Ok slot) → IsSeatedIn cmp config number w
  seated-in w slot e past (beginning.Enters.full f n r) = absurd (cc)
  seated-in w slot e past (beginning.Enters.enters s f n r) =
      let zero_slot : 0 ≡ s = cc in
      record {
        numbered = ap (λ (u : PartitionView K V I). u.number) n;
        counted = ap (λ (u : PartitionView K V I). u.count) n;
        made = record {
          page_bits = ap (λ (u : PartitionView K V I). u.records.log.bits) n;
          frames = ap (λ (u : PartitionView K V I). u.records.log.frames) n;
          bucket_bits = ap (λ (u : PartitionView K V I). u.records.bucket_bits) n;
        };
        past = omega arith;
        idle = record {
          entered = ap (λ (u : PartitionView K V I). is_session (slots_of u) 0) n ∙ ap (λ t. is_session (slice_set (replicate 16 None) t (Some 1)) 0) (sym zero_slot);
          settled = subst (λ (u : PartitionView K V I). IsSettled u.records.log.regions) (sym n) (subst (λ t. IsSettled (entered (fresh_regions config.page_bits) t)) zero_slot (enter-settles config.page_bits));
          free = λ c. ap (λ (u : PartitionView K V I). context_at u 0 c) n ∙ ap on_key (unopened (slice_set (replicate 16 None) s (Some 1)) 0 c);
          relocations = λ d. ap (λ (u : PartitionView K V I). relocation_at u 0 d) n ∙ ap relocating (unopened (slice_set (replicate 16 None) s (Some 1)) 0 d);
        };
        empty = λ k. ap (λ (u : PartitionView K V I). live_of cmp u k) n;
      }

  pub seated-new : (w : PartitionView K V I) (slot : ℕ) → now ≡ number + 1 → w.moment ≤ now → Enters (empty_partition merges config size number) w now (Ok slot) → IsSeatedIn cmp config number w
  seated-new w slot e past h = seated-in w slot e past h.does

  pub new-none : AreNew {K = K} {V = V} {I = I} cmp config [] 0
  new-none = record { sized = refl; each = λ p v h. absurd (cc) }

pub new-more : {K V I : Type 0} (cmp : K → K → Ordering) (config : Config) (views : List (PartitionView K V I)) (n : ℕ) (v : PartitionView K V I) → AreNew cmp config views n → IsSeatedIn cmp config n v → AreNew cmp config (views ++ v ∷ []) (n + 1)
new-more cmp config views n v before one = record {
  sized = omega (arith, before.sized, length-append views (v ∷ []));
  each = λ p w h. elim (get-append_cases views v p w h) [
    | inl a ↦ before.each p w a
    | inr b ↦ (let at : n ≡ p = sym before.sized ∙ sym b.0 in subst (λ q. IsSeatedIn cmp config q w) at (subst (λ (u : PartitionView _ _ _). IsSeatedIn cmp config n u) b.1 one))
  ];
}

-- ---- partitions with their places on a device
module _ {S A : Type 0} (view : S → A) where
  pub view-get : (xs : List S) (i : ℕ) (x : S) → slice_get xs i ≡ Some x → slice_get (map view xs) i ≡ Some (view x)
  view-get [] i x h = absurd (cc)
  view-get (y ∷ ys) zero x h = let same : y ≡ x = cc in ap (λ z. Some (view z)) same
  view-get (y ∷ ys) (suc i) x h = view-get ys i x h

  pub view-set : (xs : List S) (i : ℕ) (y : S) → map view (slice_set xs i y) ≡ slice_set (map view xs) i (view y)
  view-set [] i y = refl
  view-set (x ∷ xs) zero y = refl
  view-set (x ∷ xs) (suc i) y = ap (λ zs. view x ∷ zs) (view-set xs i y)

  pub view-length : (xs : List S) → length (map view xs) ≡ length xs
  view-length [] = refl
  view-length (x ∷ xs) = ap suc (view-length xs)

  -- another item of the same view
  pub view-same : (xs : List S) (i : ℕ) (x y : S) → slice_get xs i ≡ Some x → view y ≡ view x → map view (slice_set xs i y) ≡ map view xs
  view-same [] i x y h e = refl
  view-same (z ∷ zs) zero x y h e = let same : z ≡ x = cc in ap (λ a. a ∷ map view zs) (e ∙ ap view (sym same))
  view-same (z ∷ zs) (suc i) x y h e = ap (λ bs. view z ∷ bs) (view-same zs i x y h e)
