-- What events of a relocation leave, where its context alone is set, and where its place is cleared.
use Rattle.std.proofs.Common.{IsSome, ◌≡◌, ◌&&◌, ◌+◌, ◌*◌, ◌<◌, ◌≤◌, ℕ, Bool, true, false, cond, nat_le, nat_lt, List, Option, Some, None, option_map, slice_get, refl, sym, ap, subst, arith}
use Rattle.std.proofs.lemmas.Bool.Decides.{nat_tests}
use Rattle.std.specs.declared.cmp.Ordering.{Ordering}
use Rattle.fkv_records.specs.Places.{IsRecordStart}
use Rattle.fkv_texts.proofs.PlaceLemmas.{after}
use Rattle.fkv_lookups.specs.Traced.{IsTraced}
use Rattle.fkv_lookups.specs.RecordsViews.{RecordsView}
use Rattle.fkv_partition.specs.Views.{slots_of, context_at, with_open, PartitionView, relocation_at, with_relocation, done_at, place_behind, cleared_past}
use Rattle.fkv_partition.specs.KeyEffect.{asked_by}
use Rattle.fkv_partition.specs.Pending.{pending_of, AllPend}
use Rattle.fkv_partition.proofs.AskedLemmas.{moving_at, IsOpenAt, context-other, shown-stays, relocation-keyless, keyless-claims}
use Rattle.fkv_partition.specs.Contexts.{joined, is_session, context_in, on_key, relocating, claim_at}
use Rattle.fkv_partition.specs.declared.contexts.OpenWork.{OpenWork}
use Rattle.fkv_partition.specs.declared.contexts.OpenWork.TheVariants.{Relocating}
use Rattle.fkv_partition.specs.declared.relocations.Relocation.{Relocation}
use Rattle.fkv_partition.specs.Stages.{RelocationStands}
use Rattle.fkv_partition.specs.Sound.{IsCompacting}
use Rattle.fkv_partition.specs.Relocating.{IsRelocating}

module _ {K V I : Type 0} (keeps : Bool) (cmp : K → K → Ordering) (v : PartitionView K V I) (slot c now : ℕ) (low : c < 8) (keyless : on_key (joined (slice_get v.contexts (slot * 8 + c))) ≡ None) where
  -- a context in which no operation on a key stands is set, and none stands there then
  module _ (o : Option (OpenWork K V I)) (still : on_key o ≡ None) where
    keys-same : (s d : ℕ) → context_at (with_open v slot c o now) s d ≡ context_at v s d
    keys-same s d = shown-stays on_key refl (slots_of v) v.contexts slot c s d o keyless still

    event-open : (cleared : ℕ) → v.cleared ≤ cleared → IsRelocating keeps cmp v (record (with_open v slot c o now) { cleared = cleared }) slot c now
    event-open cleared up = record {
      same = λ s d. ap (option_map asked_by) (keys-same s d);
      pend = λ yes_keeps s d. ap (pending_of cmp v.records) (keys-same s d);
      live = λ yes_keeps q. refl;
      others = λ s d other. ap relocating (context-other (slots_of v) v.contexts slot c s d o low other);
      rises = up;
      number = refl;
      count = refl;
      begin = refl;
      regions = refl;
      moment = refl;
    }

  -- the context of the relocation is set
  pub event-set : (y : Option (Relocation K V)) → IsRelocating keeps cmp v (with_relocation v slot c y now) slot c now
  event-set y = event-open (option_map Relocating y) (relocation-keyless y) v.cleared (omega arith)

  -- and its place is cleared
  pub event-done : (a : ℕ) → v.cleared ≤ cleared_past v a → IsRelocating keeps cmp v (done_at v slot c a now) slot c now
  event-done a up = event-open None refl (cleared_past v a) up

  -- so it is with what is one of these
  pub is-set : (y : Option (Relocation K V)) {new : PartitionView K V I} → new ≡ with_relocation v slot c y now → IsRelocating keeps cmp v new slot c now
  is-set y is = subst (λ (u : PartitionView K V I). IsRelocating keeps cmp v u slot c now) (sym is) (event-set y)

  pub is-done : (a : ℕ) → v.cleared ≤ cleared_past v a → {new : PartitionView K V I} → new ≡ done_at v slot c a now → IsRelocating keeps cmp v new slot c now
  is-done a up is = subst (λ (u : PartitionView K V I). IsRelocating keeps cmp v u slot c now) (sym is) (event-done a up)

-- look-ups are to find what they were to find, whatever a context without an operation on a key is set to
pub set-pends : {K V I : Type 0} (cmp : K → K → Ordering) (v : PartitionView K V I) (slot c now : ℕ) → on_key (joined (slice_get v.contexts (slot * 8 + c))) ≡ None → (o : Option (OpenWork K V I)) → on_key o ≡ None
    → AllPend cmp v (with_open v slot c o now)
set-pends cmp v slot c now keyless o still s d = ap (pending_of cmp v.records) (shown-stays on_key refl (slots_of v) v.contexts slot c s d o keyless still)

pub dropped-pends : {K V I : Type 0} (cmp : K → K → Ordering) (v : PartitionView K V I) (slot c now : ℕ) → on_key (joined (slice_get v.contexts (slot * 8 + c))) ≡ None → AllPend cmp v (with_open v slot c None now)
dropped-pends cmp v slot c now keyless = set-pends cmp v slot c now keyless None refl

-- what is cleared does not fall, and is past the place then
pub past-place : {K V I : Type 0} {keeps : Bool} {code : K → ℕ} (v : PartitionView K V I) (a : ℕ) → IsTraced keeps code v.records → IsRecordStart v.records.log.bits v.records.record_size a
    → (v.cleared ≤ cleared_past v a) × (a < cleared_past v a)
past-place v a t place = by_test (nat_le v.cleared a) refl
  where
    by_test : (b : Bool) → nat_le v.cleared a ≡ b → (v.cleared ≤ cond b (place_behind v a) v.cleared) × (a < cond b (place_behind v a) v.cleared)
    by_test true h =
        let up = (after v.records.log.bits v.records.record_size t.shape a place).above in
        let le : v.cleared ≤ a = grind (arith, nat_tests) in
        (omega (arith, up, le), up)
    by_test false h = (omega arith, grind (arith, nat_tests))

-- nothing is found in a context of a slot of no session
pub closed-outside : {K V I : Type 0} (v : PartitionView K V I) (slot c : ℕ) → is_session (slots_of v) slot ≡ false → None ≡ relocation_at v slot c
closed-outside v slot c outside = ap (λ b. relocating (cond (b && nat_lt c 8) (joined (slice_get v.contexts (slot * 8 + c))) None)) (sym outside)

-- no operation on a key stands in a free context
pub free-keyless : {K V I : Type 0} (v : PartitionView K V I) (slot c : ℕ) → joined (slice_get v.contexts (slot * 8 + c)) ≡ None → on_key (joined (slice_get v.contexts (slot * 8 + c))) ≡ None
free-keyless v slot c free = ap on_key free

-- nothing is open in a free context
pub open-free : {A : Type 0} (slots : List (Option ℕ)) (contexts : List (Option A)) (slot c : ℕ) → joined (slice_get contexts (slot * 8 + c)) ≡ None → context_in slots contexts slot c ≡ None
open-free slots contexts slot c none = by_test (is_session slots slot && nat_lt c 8)
  where
    by_test : (b : Bool) → cond b (joined (slice_get contexts (slot * 8 + c))) None ≡ None
    by_test true = none
    by_test false = refl

-- an open relocation stands for what its stage says
module _ {K V I : Type 0} (v : PartitionView K V I) (slot c : ℕ) (x : Relocation K V) (h : relocation_at v slot c ≡ Some x) where
  pub open-here : IsOpenAt (slots_of v) v.contexts slot c (Relocating x)
  open-here = moving_at (slots_of v) v.contexts slot c x h

  -- no operation on a key stands in its context
  pub keyless-here : on_key (joined (slice_get v.contexts (slot * 8 + c))) ≡ None
  keyless-here = ap (λ (o : Option (Option (OpenWork K V I))). on_key (joined o)) open-here.here

  pub stands-here : {keeps : Bool} {cmp : K → K → Ordering} {join : V → V → V} {code : K → ℕ} → IsCompacting keeps cmp join code v → RelocationStands keeps cmp join code v v.cleared x
  stands-here s = s.stands (slot * 8 + c) x open-here.here

  -- its place lies below the tail
  pub low-here : {keeps : Bool} {cmp : K → K → Ordering} {join : V → V → V} {code : K → ℕ} → IsCompacting keeps cmp join code v → IsTraced keeps code v.records → x.target < v.records.log.tail
  low-here s t =
      let frozen = (stands-here s).frozen in
      let safe = t.regions.agree.in_order.safe in
      let below = t.regions.read_only in
      omega arith

-- and so does each frozen one
pub frozen-low : {K V : Type 0} {keeps : Bool} {code : K → ℕ} (r : RecordsView K V) (a : ℕ) → IsTraced keeps code r → a < r.log.regions.offsets.safe_read_only → a < r.log.tail
frozen-low r a t frozen = let safe = t.regions.agree.in_order.safe in let below = t.regions.read_only in omega arith

-- what stands in the context of a relocation claims no entry
pub some-unclaimed : {K V I : Type 0} (v : PartitionView K V I) (slot c : ℕ) → IsSome (relocation_at v slot c) → claim_at v.contexts (slot * 8 + c) ≡ None
some-unclaimed {K} {V} {I} v slot c some = by_held (relocation_at v slot c) refl some
  where
    by_held : (o : Option (Relocation K V)) → relocation_at v slot c ≡ o → IsSome o → claim_at v.contexts (slot * 8 + c) ≡ None
    by_held None h s = absurd (cc)
    by_held (Some x) h s = keyless-claims (joined (slice_get v.contexts (slot * 8 + c))) (keyless-here v slot c x h)
