-- What the calls of operations come to: those on keys, and those of relocations.
use Rattle.std.proofs.Common.{◌≡◌, Bool, List, ℕ, ◌<◌, ◌⊎◌, inl, inr, IsTrue, Some, None, Result, Ok, Err, IfOk, OnOk, OnErr, subst, refl, sym, ◌∙◌, ap}
use Rattle.std.specs.declared.cmp.Ordering.{Ordering}
use Rattle.fkv_functions.specs.Meanings.{Meanings}
use Rattle.fkv_functions.specs.declared.refusals.Refused.{Refused}
use Rattle.fkv_device.specs.Standing.{Standing}
use Rattle.fkv_texts.specs.declared.entries.Entry.{Entry}
use Rattle.fkv_operations.specs.Operations.{keyed, op_of}
use Rattle.fkv_operations.specs.declared.operations.KeyedOp.{KeyedOp}
use Rattle.fkv_operations.specs.declared.operations.KeyedOp.TheVariants as on_key
use Rattle.fkv_operations.specs.declared.operations.Op.{Op}
use Rattle.fkv_operations.specs.declared.operations.Op.TheVariants.{Read, Upsert, Rmw, Delete, Merge, Relocate}
use Rattle.fkv_partition.specs.declared.contexts.Progress.{Progress}
use Rattle.fkv_partition.specs.KeyBeginning as beginning
use Rattle.fkv_partition.specs.KeyEffect as key_effect
use Rattle.fkv_partition.specs.KeyLoading as key_loading
use Rattle.fkv_partition.specs.KeyLoading.{ReadsBy}
use Rattle.fkv_partition.specs.Pending.{pending, OthersPend, AllPend}
use Rattle.fkv_partition.specs.Views.{PartitionView, slots_of, at_moment, relocation_at, with_relocation}
use Rattle.fkv_partition.proofs.AskedLemmas.{context-inside}
use Rattle.fkv_partition.specs.declared.contexts.OpenWork.TheVariants.{Relocating}
use Rattle.fkv_partition.specs.declared.relocations.Relocation.{Relocation}
use Rattle.fkv_partition.specs.declared.relocations.Stage.TheVariants.{Fresh}
use Rattle.fkv_partition.specs.Beginning.{IssuesOnKey, Relocates, Drops}
use Rattle.fkv_partition.specs.Effect.{IsQuiet, IsIssue, IsEvent, IsLoad, IsGiveUp, Finds}
use Rattle.fkv_partition.specs.Events.{IsPassedOn, Loads, WaitsFor, LoadsBy}
use Rattle.fkv_partition.specs.Reading.{WaitsOn, LoadsOnBy}
use Rattle.fkv_partition.specs.Relocating.{IsRelocating}
use Rattle.fkv_partition.specs.KeySound.{IsSound}
use Rattle.fkv_partition.specs.Grown.{IsPassedOn}
use Rattle.fkv_partition.proofs.EffectLemmas.{Proceeds, key-issue, key-event, key-load, key-give-up, key-finds, issued-event, dropped-event, relocating-event, relocating-finds}
use Rattle.fkv_partition.proofs.MoveLemmas.{event-set, open-here, keyless-here, free-keyless, set-pends, dropped-pends}

-- ---- a moment passes
pub passed-event : {K V I : Type 0} (keeps : Bool) (v : PartitionView K V I) (now : ℕ) → IsQuiet keeps v (at_moment v now) now
passed-event keeps v now = record { same = λ s d. refl; text = λ yes_keeps. refl; number = refl; count = refl; begin = refl; cleared = refl; moment = refl }

pub passed-pends : {K V I : Type 0} (cmp : K → K → Ordering) (v : PartitionView K V I) (now : ℕ) → AllPend cmp v (at_moment v now)
passed-pends cmp v now s d = refl

-- ---- which operation it is
pub keyed-is : {K V I : Type 0} (op : Op K V I) (o : KeyedOp K V I) → keyed op ≡ Some o → op_of o ≡ op
keyed-is {K} {V} {I} (Read k i) o h = let same : on_key.Read k i ≡ o = cc in ap op_of (sym same)
keyed-is (Upsert k v) o h = let same : on_key.Upsert k v ≡ o = cc in ap op_of (sym same)
keyed-is (Rmw k i) o h = let same : on_key.Rmw k i ≡ o = cc in ap op_of (sym same)
keyed-is (Delete k) o h = let same : on_key.Delete k ≡ o = cc in ap op_of (sym same)
keyed-is (Merge k i) o h = let same : on_key.Merge k i ≡ o = cc in ap op_of (sym same)
keyed-is Relocate o h = absurd (cc)

pub keyed-not : {K V I : Type 0} (op : Op K V I) → keyed op ≡ None → op ≡ Relocate
keyed-not (Read k i) h = absurd (cc)
keyed-not (Upsert k v) h = absurd (cc)
keyed-not (Rmw k i) h = absurd (cc)
keyed-not (Delete k) h = absurd (cc)
keyed-not (Merge k i) h = absurd (cc)
keyed-not Relocate h = refl

pub keyed-some : {K V I : Type 0} (op : Op K V I) (o : KeyedOp K V I) → keyed op ≡ Some o → op ≡ Relocate → ⊥
keyed-some {K} {V} {I} op o h is = let none : None ≡ Some o = sym (ap keyed is) ∙ h in cc

-- ---- an issue
pub issue-on-key : {K V I : Type 0} (code : K → ℕ) (old new : PartitionView K V I) (slot now : ℕ) (op : Op K V I) (o : KeyedOp K V I) (r : Result ℕ Refused) → keyed op ≡ Some o → IsPassedOn old new
    → IfOk r (λ c. key_effect.IsIssue code old new slot c o now) → IfOk r (λ c. relocation_at old slot c ≡ None) → IfOk r (λ c. IsIssue code old new slot c op now)
issue-on-key {K} {V} {I} code old new slot now op o (Err e) is pass event closed = tt
issue-on-key {K} {V} {I} code old new slot now op o (Ok c) is pass event closed =
    subst (λ (p : Op K V I). IsIssue code old new slot c p now) (keyed-is op o is)
    (key-issue old new slot c now closed pass code o event)

pub issues-pend : {K V I : Type 0} (cmp : K → K → Ordering) (code : K → ℕ) (old new : PartitionView K V I) (slot : ℕ) (op : KeyedOp K V I) (now : ℕ) (result : Result ℕ Refused)
    → ((p q : PartitionView K V I) (c : ℕ) → beginning.Issues code p q slot c op now → AllPend cmp p q)
    → IssuesOnKey code old new slot op now result → AllPend cmp old new
issues-pend cmp code old new slot op now result law (IssuesOnKey.unknown a b h) = rw b (λ s d. refl)
issues-pend cmp code old new slot op now result law (IssuesOnKey.stranger a n b h) = rw b (λ s d. refl)
issues-pend cmp code old new slot op now result law (IssuesOnKey.unmerged a own merge lacks b h) = rw b (λ s d. refl)
issues-pend cmp code old new slot op now result law (IssuesOnKey.full a own merges none b h) = rw b (λ s d. refl)
issues-pend cmp code old new slot op now result law (IssuesOnKey.issues c inside own merges free is h) =
    rw is
    (law old _ c
    (record {
      entered = inside;
      low = free.0;
      free = context-inside (slots_of old) old.contexts slot c inside free.0 ∙ free.1;
      own = own;
      merging = merges;
      is = refl;
    }))

pub relocates-event : {K V I : Type 0} {keeps : Bool} {cmp : K → K → Ordering} {join : V → V → V} (code : K → ℕ) (old new : PartitionView K V I) (slot now : ℕ) (op : Op K V I) (r : Result ℕ Refused) → op ≡ Relocate → IsSound keeps cmp join code old
    → IfOk r (λ c. (slot < 16) × (c < 8)) → Relocates old new slot now r → IfOk r (λ c. IsIssue code old new slot c op now)
relocates-event {K} {V} {I} {keeps} {cmp} code old new slot now op r is s within does = subst (λ (p : Op K V I). IfOk r (λ c. IsIssue code old new slot c p now)) (sym is) (by_rule r within does)
  where
    by_rule : (q : Result ℕ Refused) → IfOk q (λ c. (slot < 16) × (c < 8)) → Relocates old new slot now q → IfOk q (λ c. IsIssue code old new slot c Relocate now)
    by_rule (Err e) w d = tt
    by_rule (Ok c) w (Relocates.unknown a b h) = absurd (cc)
    by_rule (Ok c) w (Relocates.not_due a n b h) = absurd (cc)
    by_rule (Ok c) w (Relocates.full a n none b h) = absurd (cc)
    by_rule (Ok c) w (Relocates.relocates d inside low free b h) =
        let same : c ≡ d = cc in
        subst (λ (u : PartitionView K V I). IsIssue code old u slot c Relocate now) (sym b)
        (subst (λ n. IsIssue code old (with_relocation old slot d (Some (record { number = now; target = old.cleared; stage = Fresh })) now) slot n Relocate now) (sym same)
        (issued-event old slot d now (record { number = now; target = old.cleared; stage = Fresh }) s w.0 free.0 inside free.1 refl (event-set keeps cmp old slot d now free.0 (free-keyless old slot d free.1) (Some (record { number = now; target = old.cleared; stage = Fresh })))))

pub relocates-pend : {K V I : Type 0} (cmp : K → K → Ordering) (old new : PartitionView K V I) (slot now : ℕ) (r : Result ℕ Refused) → Relocates old new slot now r → AllPend cmp old new
relocates-pend cmp old new slot now r (Relocates.unknown a b h) = rw b (λ s d. refl)
relocates-pend cmp old new slot now r (Relocates.not_due a n b h) = rw b (λ s d. refl)
relocates-pend cmp old new slot now r (Relocates.full a n none b h) = rw b (λ s d. refl)
relocates-pend {K} {V} {I} cmp old new slot now r (Relocates.relocates c inside low free b h) =
    rw b (set-pends cmp old slot c now (free-keyless old slot c free.1) (Some (Relocating _)) refl)

-- ---- what goes on
pub ends-key : {K V I : Type 0} (old new : PartitionView K V I) (slot c now : ℕ) → relocation_at old slot c ≡ None → IsPassedOn old new
    → (new ≡ old) ⊎ key_effect.IsGiveUp old new slot c now → (new ≡ old) ⊎ IsGiveUp old new slot c now
ends-key old new slot c now none pass (inl same) = inl same
ends-key old new slot c now none pass (inr g) = inr (key-give-up old new slot c now none pass g)

module _ {K V I O R : Type 0} (cmp : K → K → Ordering) (f : Meanings K V I O) (old new : PartitionView K V I) (slot c now : ℕ) where
  module _ (none : relocation_at old slot c ≡ None) (pass : IsPassedOn old new) where
    pub goes-event : (r : Result (Progress K V I O R) Refused) → IfOk r (key_effect.IsEvent cmp f old new slot c now) → IfOk r (IsEvent cmp f old new slot c now)
    goes-event (Err e) h = tt
    goes-event (Ok p) h = key-event old new slot c now none pass cmp f p h

    pub goes-finds : (r : Result (Progress K V I O R) Refused) → ((p : Progress K V I O R) → r ≡ Ok p → key_effect.Finds cmp old new slot c now p) → IfOk r (Finds cmp old new slot c now)
    goes-finds (Err e) h = tt
    goes-finds (Ok p) h = key-finds old new slot c now none pass cmp p (h p refl)

    pub loads-event : (r : Result (Progress K V I O R) Refused) → IfOk r (key_effect.IsLoaded cmp f old new slot c now) → IfOk r (IsLoad cmp f old new slot c now)
    loads-event (Err e) h = tt
    loads-event (Ok p) h = IsLoad.on_key (key-load old new slot c now none pass cmp f p h)

  module _ (x : Relocation K V) (h : relocation_at old slot c ≡ Some x) where
    pub relocation-event : {keeps : Bool} → IsTrue keeps → (r : Result (Progress K V I O R) Refused) → IfOk r (λ p. IsRelocating keeps cmp old new slot c now) → ((p : Progress K V I O R) → r ≡ Ok p → Proceeds x (relocation_at new slot c) now p) → IfOk r (IsEvent cmp f old new slot c now)
    relocation-event yes_keeps (Err e) k told = tt
    relocation-event yes_keeps (Ok p) k told = relocating-event old new slot c now k x h f yes_keeps p (told p refl)

    pub relocation-load : {keeps : Bool} → IsTrue keeps → (r : Result (Progress K V I O R) Refused) → IfOk r (λ p. IsRelocating keeps cmp old new slot c now) → ((p : Progress K V I O R) → r ≡ Ok p → Proceeds x (relocation_at new slot c) now p) → IfOk r (IsLoad cmp f old new slot c now)
    relocation-load yes_keeps (Err e) k told = tt
    relocation-load yes_keeps (Ok p) k told = IsLoad.relocation (relocating-event old new slot c now k x h f yes_keeps p (told p refl)) (relocating-finds old new slot c now k x h p)

    pub relocation-finds : (keeps : Bool) (r : Result (Progress K V I O R) Refused) → IfOk r (λ p. IsRelocating keeps cmp old new slot c now) → IfOk r (Finds cmp old new slot c now)
    relocation-finds keeps (Err e) k = tt
    relocation-finds keeps (Ok p) k = relocating-finds old new slot c now k x h p

  pub relocation-others : {keeps : Bool} → IsTrue keeps → (r : Result (Progress K V I O R) Refused) → IfOk r (λ p. IsRelocating keeps cmp old new slot c now) → ((e : Refused) → r ≡ Err e → AllPend cmp old new) → OthersPend cmp old new slot c
  relocation-others yes_keeps (Err e) k told a d other = told e refl a d
  relocation-others yes_keeps (Ok p) k told a d other = k.pend yes_keeps a d

-- where nothing changed, all pend
pub same-pends : {K V I A : Type 0} (cmp : K → K → Ordering) (old new : PartitionView K V I) (r : Result A Refused) → OnErr r (new ≡ old) → (e : Refused) → r ≡ Err e → AllPend cmp old new
same-pends {K} {V} {I} {A} cmp old new (Err e) same why is s d = ap (λ (w : PartitionView K V I). pending cmp w s d) same
same-pends cmp old new (Ok x) same why is s d = absurd (cc)

-- ---- a relocation is given up
pub drops-event : {K V I : Type 0} (keeps : Bool) (cmp : K → K → Ordering) (old new : PartitionView K V I) (slot c now : ℕ) (r : Result (Unit {0}) Refused) → Drops old new slot c now r → OnOk r (IsGiveUp old new slot c now)
drops-event keeps cmp old new slot c now r (Drops.unknown none same told) = rw told tt
drops-event {K} {V} {I} keeps cmp old new slot c now r (Drops.drops x here is told) =
    rw told (subst (λ (w : PartitionView K V I). IsGiveUp old w slot c now) (sym is) (dropped-event old slot c now x here (event-set keeps cmp old slot c now (open-here old slot c x here).low (keyless-here old slot c x here) None)))

pub drops-pend : {K V I : Type 0} (cmp : K → K → Ordering) (old new : PartitionView K V I) (slot c now : ℕ) (r : Result (Unit {0}) Refused) → Drops old new slot c now r → AllPend cmp old new
drops-pend cmp old new slot c now r (Drops.unknown none same told) = rw same (λ s d. refl)
drops-pend cmp old new slot c now r (Drops.drops x here is told) = rw is (dropped-pends cmp old slot c now (keyless-here old slot c x here))

-- ---- a load that reads for itself
module _ {K V I : Type 0} (old : PartitionView K V I) (slot c : ℕ) where
  waits-key : relocation_at old slot c ≡ None → (page : ℕ) → WaitsFor old slot c page → key_loading.WaitsFor old slot c page
  waits-key none page (WaitsFor.on_key n w) = w
  waits-key none page (WaitsFor.relocation w) = let bad : None ≡ Some w.relocation = sym none ∙ w.awaits.here in absurd (cc)

  waits-relocation : (x : Relocation K V) → relocation_at old slot c ≡ Some x → (page : ℕ) → WaitsFor old slot c page → WaitsOn old slot c page
  waits-relocation x here page (WaitsFor.on_key n w) = let bad : None ≡ Some x = sym n ∙ here in absurd (cc)
  waits-relocation x here page (WaitsFor.relocation w) = w

module _ {K V I O R : Type 0} (stands : R → Standing) (spells : ℕ → List ℕ → ℕ → Entry K V → Type 0) (cmp : K → K → Ordering) (join : V → V → V) (f : Meanings K V I O) (code : K → ℕ) (old new : PartitionView K V I) (slot c now : ℕ) {before after_ : ℕ} {r : Result (Progress K V I O R) Refused} where
  pub reads-key : relocation_at old slot c ≡ None → IsPassedOn old new → key_loading.LoadsBy stands spells cmp join f old new slot c now before after_ r
      → LoadsBy stands spells cmp join f code old new slot c now before after_ r
  reads-key none rest (ReadsBy.idle unasked all same) = ReadsBy.idle (λ page w. unasked page (waits-key old slot c none page w)) (λ came. Loads.on_key none (all came) rest) same
  reads-key none rest (ReadsBy.came page p at own does same) = ReadsBy.came page p (WaitsFor.on_key none at) own (Loads.on_key none does rest) same
  reads-key none rest (ReadsBy.failed page why at fails is told) = ReadsBy.failed page why (WaitsFor.on_key none at) fails is told

  pub reads-relocation : (x : Relocation K V) → relocation_at old slot c ≡ Some x → LoadsOnBy stands spells cmp join code old new slot c now before after_ r
      → LoadsBy stands spells cmp join f code old new slot c now before after_ r
  reads-relocation x here (ReadsBy.idle unasked all same) = ReadsBy.idle (λ page w. unasked page (waits-relocation old slot c x here page w)) (λ came. Loads.relocation x here (all came)) same
  reads-relocation x here (ReadsBy.came page p at own does same) = ReadsBy.came page p (WaitsFor.relocation at) own (Loads.relocation x here does) same
  reads-relocation x here (ReadsBy.failed page why at fails is told) = ReadsBy.failed page why (WaitsFor.relocation at) fails is told
