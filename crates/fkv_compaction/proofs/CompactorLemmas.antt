-- What a compactor's calls leave, by what each of the calls that it makes leaves.
use Rattle.std.proofs.Common.{◌≡◌, ◌≢◌, ◌+◌, ◌*◌, ◌<◌, ◌&&◌, ◌⊎◌, inl, inr, ℕ, Bool, true, false, cond, nat_lt, slice_get, Option, Some, None, Result, Ok, Err, IsTrue, OnOk, OnErr, is_some, refl, sym, ◌∙◌, ap, arith}
use Rattle.std.proofs.lemmas.Bool.{cases_lt}
use Rattle.std.proofs.lemmas.Bool.Decides.{nat_tests}
use Rattle.std.specs.declared.cmp.Ordering.{Ordering}
use Rattle.fkv_functions.specs.Plain.{Same}
use Rattle.fkv_functions.specs.declared.refusals.Refused.{Refused}
use Rattle.fkv_texts.specs.Text.{live}
use Rattle.fkv_operations.specs.Operations.{keyed}
use Rattle.fkv_operations.specs.declared.operations.KeyedOp.{KeyedOp}
use Rattle.fkv_operations.specs.declared.operations.Op.TheVariants.{Relocate}
use Rattle.fkv_partition.specs.Contexts.{is_session, joined, on_key, relocating}
use Rattle.fkv_partition.specs.declared.contexts.OpenWork.{OpenWork}
use Rattle.fkv_partition.specs.declared.contexts.OpenWork.TheVariants.{OnKey, Relocating}
use Rattle.fkv_partition.specs.KeyEffect as key_effect
use Rattle.fkv_partition.specs.Views.{PartitionView, slots_of, live_of, relocation_at, with_relocation}
use Rattle.fkv_partition.specs.declared.relocations.Relocation.{Relocation}
use Rattle.fkv_partition.specs.Beginning.{Drops, IsFirstOpen}
use Rattle.fkv_partition.specs.Effect.{Asked, asked, asked_of, IsQuiet}
use Rattle.fkv_partition.specs.Events.{GivesUp}
use Rattle.fkv_partition.specs.Relocating.{IsRelocating}
use Rattle.fkv_compaction.specs.Compactor.{IsParted, IsWithoutThem}
use Rattle.fkv_partition.proofs.EffectLemmas.{set-here}
use Rattle.fkv_partition.proofs.MoveLemmas.{event-set}

-- where a relocation is open it is given up
pub dropped : {K V I : Type 0} (old new : PartitionView K V I) (slot c now : ℕ) (result : Result (Unit {0}) Refused)
    → is_some (relocation_at old slot c) ≡ true → GivesUp old new slot c now result → new ≡ with_relocation old slot c None now
dropped old new slot c now result some (GivesUp.on_key none does rest) = absurd (let bad : false ≡ true = ap is_some (sym none) ∙ some in cc)
dropped old new slot c now result some (GivesUp.relocation x here (Drops.unknown none same told)) = absurd (let bad : None ≡ Some x = sym none ∙ here in cc)
dropped old new slot c now result some (GivesUp.relocation x here (Drops.drops y there is told)) = is

-- it is the lowest where none below it is
pub first-here : {K V I : Type 0} (v : PartitionView K V I) (slot c : ℕ) → is_some (relocation_at v slot c) ≡ true
    → ((d : ℕ) → d < c → relocation_at v slot d ≡ None) → IsFirstOpen v slot (Some c)
first-here v slot c some below = (some, below)

none-of : {A : Type 0} (o : Option A) → is_some o ≡ false → o ≡ None
none-of None h = refl
none-of (Some x) h = absurd (cc)

-- a context in which none is, beside those below it
pub none-up_to : {K V I : Type 0} (v : PartitionView K V I) (slot c : ℕ) → ((d : ℕ) → d < c → relocation_at v slot d ≡ None)
    → is_some (relocation_at v slot c) ≡ false → (d : ℕ) → d < c + 1 → relocation_at v slot d ≡ None
none-up_to v slot c below none d low = elim (cases_lt d c) [
  | inl less ↦ below d less
  | inr more ↦ (let same : d ≡ c = omega arith in rw same (none-of (relocation_at v slot c) none))
]

-- ---- the relocation of a context is given up
keyless-of : {K V I : Type 0} (o : Option (OpenWork K V I)) → is_some (relocating o) ≡ true → on_key o ≡ None
keyless-of None h = absurd (cc)
keyless-of (Some (OnKey x)) h = absurd (cc)
keyless-of (Some (Relocating x)) h = refl

keyless-here : {K V I : Type 0} (v : PartitionView K V I) (slot c : ℕ) → is_some (relocation_at v slot c) ≡ true → on_key (joined (slice_get v.contexts (slot * 8 + c))) ≡ None
keyless-here v slot c some = by_test (is_session (slots_of v) slot && nat_lt c 8) some
  where
    by_test : (b : Bool) → is_some (relocating (cond b (joined (slice_get v.contexts (slot * 8 + c))) None)) ≡ true → on_key (joined (slice_get v.contexts (slot * 8 + c))) ≡ None
    by_test true h = keyless-of (joined (slice_get v.contexts (slot * 8 + c))) h
    by_test false h = absurd (cc)

low-here : {K V I : Type 0} (v : PartitionView K V I) (slot c : ℕ) → is_some (relocation_at v slot c) ≡ true → c < 8
low-here v slot c some = by_test (is_session (slots_of v) slot) (nat_lt c 8) refl some
  where
    by_test : (a b : Bool) → nat_lt c 8 ≡ b → is_some (relocating (cond (a && b) (joined (slice_get v.contexts (slot * 8 + c))) None)) ≡ true → c < 8
    by_test true true t h = grind (arith, nat_tests)
    by_test true false t h = absurd (cc)
    by_test false b t h = absurd (cc)

module _ {K V I : Type 0} (cmp : K → K → Ordering) (v : PartitionView K V I) (slot c now : ℕ) (some : is_some (relocation_at v slot c) ≡ true) where
  pub gone : IsRelocating true cmp v (with_relocation v slot c None now) slot c now
  gone = event-set true cmp v slot c now (low-here v slot c some) (keyless-here v slot c some) None

  -- those of others stay
  set-other : (s d : ℕ) → (s ≢ slot) ⊎ (d ≢ c) → relocation_at (with_relocation v slot c None now) s d ≡ relocation_at v s d
  set-other s d other = gone.others s d other

  -- and what other sessions ask
  pub asked-other : (s d : ℕ) → s ≢ slot → asked (with_relocation v slot c None now) s d ≡ asked v s d
  asked-other s d other = ap (λ a. asked_of a (relocation_at (with_relocation v slot c None now) s d)) (gone.same s d) ∙ ap (asked_of (key_effect.asked v s d)) (set-other s d (inl other))

  -- and what operations on keys ask
  pub without-more : {old : PartitionView K V I} → IsWithoutThem cmp old v → IsWithoutThem cmp old (with_relocation v slot c None now)
  without-more w = record {
    asked = λ s d. gone.same s d ∙ w.asked s d;
    pend = λ s d. gone.pend refl s d ∙ w.pend s d;
    records = w.records;
    number = w.number;
    count = w.count;
  }

  -- none is open up to there then
  pub none-past : ((d : ℕ) → d < c → relocation_at v slot d ≡ None) → (d : ℕ) → d < c + 1 → relocation_at (with_relocation v slot c None now) slot d ≡ None
  none-past below d low = by_held (relocation_at v slot c) refl
    where
      by_held : (o : Option (Relocation K V)) → relocation_at v slot c ≡ o → relocation_at (with_relocation v slot c None now) slot d ≡ None
      by_held None h = absurd (let bad : false ≡ true = ap is_some (sym h) ∙ some in cc)
      by_held (Some x) h = elim (cases_lt d c) [
        | inl less ↦
            (let apart : d ≢ c = λ e. absurd (omega arith) in
            set-other slot d (inr apart) ∙ below d less)
        | inr more ↦ (let same : d ≡ c = omega arith in rw same (set-here v slot c now x h None))
      ]

and-false : (a : Bool) → (a && false) ≡ false
and-false true = refl
and-false false = refl

-- a session has eight contexts
pub none-all : {K V I : Type 0} (v : PartitionView K V I) (slot : ℕ) → ((d : ℕ) → d < 8 → relocation_at v slot d ≡ None)
    → IsFirstOpen v slot None
none-all v slot below d = by_low (nat_lt d 8) refl
  where
    by_low : (b : Bool) → nat_lt d 8 ≡ b → relocation_at v slot d ≡ None
    by_low true t = below d (grind (arith, nat_tests))
    by_low false t = rw (t, and-false (is_session (slots_of v) slot)) refl

-- ---- relocations are given up
module _ {K V I : Type 0} (cmp : K → K → Ordering) (old between : PartitionView K V I) (without : IsWithoutThem cmp old between) where
  -- operations on keys stay
  pub operation-stays : (s d : ℕ) (x : Asked K V I) (o : KeyedOp K V I) → asked old s d ≡ Some x → keyed x.op ≡ Some o → asked between s d ≡ Some x
  operation-stays s d x o h k = by_parts (key_effect.asked old s d) (relocation_at old s d) refl h
    where
      by_parts : (a : Option (key_effect.Asked K V I)) (r : Option (Relocation K V)) → key_effect.asked old s d ≡ a → asked_of a r ≡ Some x → asked between s d ≡ Some x
      by_parts (Some y) r p e = ap (λ (a : Option (key_effect.Asked K V I)). asked_of a (relocation_at between s d)) (without.asked s d ∙ p) ∙ e
      by_parts None None p e = absurd (cc)
      by_parts None (Some r) p e =
          let same : record { number = r.number; op = Relocate } ≡ x = cc in
          let bad : None ≡ Some o = ap (λ (y : Asked K V I). keyed y.op) same ∙ k in
          absurd (cc)

-- ---- a session is left, or not
pub left-asked : {K V I : Type 0} (keeps : Bool) (between new : PartitionView K V I) (now : ℕ) (result : Result (Unit {0}) Refused)
    → OnOk result (IsQuiet keeps between new now) → OnErr result (new ≡ between) → (s d : ℕ) → asked new s d ≡ asked between s d
left-asked keeps between new now (Ok x) event err s d = event.same s d
left-asked keeps between new now (Err e) event err s d = ap (λ v. asked v s d) err

pub left-cleared : {K V I : Type 0} (keeps : Bool) (between new : PartitionView K V I) (now : ℕ) (result : Result (Unit {0}) Refused)
    → OnOk result (IsQuiet keeps between new now) → OnErr result (new ≡ between) → new.cleared ≡ between.cleared
left-cleared keeps between new now (Ok x) event err = event.cleared
left-cleared {K} {V} {I} keeps between new now (Err e) event err = ap (λ (v : PartitionView K V I). v.cleared) err

pub left-live : {K V I : Type 0} (keeps : Bool) (cmp : K → K → Ordering) (between new : PartitionView K V I) (now : ℕ) (result : Result (Unit {0}) Refused)
    → OnOk result (IsQuiet keeps between new now) → OnErr result (new ≡ between) → IsTrue keeps
    → Same (live_of cmp new) (live_of cmp between)
left-live keeps cmp between new now (Ok x) event err yes_keeps k = ap (λ t. live cmp t k) (event.text yes_keeps)
left-live {K} {V} {I} keeps cmp between new now (Err e) event err yes_keeps k = ap (λ (v : PartitionView K V I). live_of cmp v k) err

-- who has left, by what leaving a session is to its partition
pub left-parted : {K V I : Type 0} (keeps : Bool) (cmp : K → K → Ordering) (old between new : PartitionView K V I) (now end : ℕ) (r : Result (Unit {0}) Refused) → IsWithoutThem cmp old between → end ≡ now
    → OnOk r (IsQuiet keeps between new now) → OnOk r (IsParted keeps old new end)
left-parted keeps cmp old between new now end (Err e) without at ev = tt
left-parted keeps cmp old between new now end (Ok t) without at ev = record {
  text = λ yes_keeps. ev.text yes_keeps ∙ ap (λ r. r.text) without.records;
  number = ev.number ∙ without.number;
  count = ev.count ∙ without.count;
  begin = ev.begin ∙ ap (λ r. r.log.begin) without.records;
  moment = ev.moment ∙ sym at;
}
