-- What is kept under a lock stays so with each event of a compactor, and what such an event may tell.
use Rattle.std.proofs.Common.{◌≡◌, ◌⊎◌, inl, inr, ℕ, ◌+◌, ◌<◌, ◌≤◌, Bool, true, false, IsTrue, List, Option, Some, None, Result, Ok, Err, IfOk, IfErr, is_some, refl, sym, ap, ◌∙◌, subst, arith}
use Rattle.std.specs.declared.cmp.Ordering.{Ordering}
use Rattle.fkv_functions.specs.Meanings.{Meanings}
use Rattle.fkv_functions.specs.Plain.{Same}
use Rattle.fkv_functions.specs.declared.refusals.Refused.{Refused}
use Rattle.fkv_device.specs.Standing.{Standing, Joined}
use Rattle.fkv_texts.specs.declared.entries.Entry as texts
use Rattle.fkv_operations.specs.Operations.{keyed, op_of}
use Rattle.fkv_operations.specs.declared.entries.IndexEntry.{IndexEntry}
use Rattle.fkv_operations.specs.declared.operations.KeyedOp.{KeyedOp}
use Rattle.fkv_operations.specs.declared.operations.Op.TheVariants.{Relocate}
use Rattle.fkv_partition.specs.Beginning.{IsFirstOpen, LeavesAll}
use Rattle.fkv_partition.specs.Checking.{Ends, Asks, ChecksLiveness}
use Rattle.fkv_partition.specs.KeyEffect as key_effect
use Rattle.fkv_partition.specs.KeyEnding.{Leaves}
use Rattle.fkv_partition.specs.Views.{PartitionView, live_of, relocation_at, with_relocation}
use Rattle.fkv_partition.specs.Effect.{Asked, asked, asked_of, IsTruncation}
use Rattle.fkv_partition.specs.Events.{Goes, Loads}
use Rattle.fkv_partition.specs.Going.{GoesOn}
use Rattle.fkv_partition.specs.Pending.{AllPend}
use Rattle.fkv_partition.specs.declared.contexts.Progress.{Progress}
use Rattle.fkv_partition.specs.Reading.{LoadsOn}
use Rattle.fkv_partition.specs.Relocating.{IsRelocating}
use Rattle.fkv_partition.specs.declared.relocations.Relocation.{Relocation}
use Rattle.fkv_partition.proofs.AskedLemmas.{keyed-op}
use Rattle.fkv_compaction.specs.Compactor.{IsTurn, CompactsNext, CompactsLoad, GivesUpAll, Parts}
use Rattle.fkv_compaction.proofs.CompactorLemmas.{gone}
use Rattle.fkv_histories.specs.declared.entries.Entry.{Entry}
use Rattle.fkv_locked.specs.Compacting.{IsRelocationProgress}
use Rattle.fkv_locked.specs.Kept.{seen, IsFaithful}
use Rattle.fkv_locked.proofs.KeptLemmas.{op_in, kept_operations}

-- ---- what a relocation's event comes to
module _ {K V I O R : Type 0} (stands : R → Standing) (cmp : K → K → Ordering) (join : V → V → V) (f : Meanings K V I O) (code : K → ℕ) (old new : PartitionView K V I) (slot c now : ℕ)
    (result : Result (Progress K V I O R) Refused) where
  -- where it is refused, the relocation is given up, or nothing changes
  abbrev pub Fails : Type 0
  Fails = (new ≡ old) ⊎ (new ≡ with_relocation old slot c None now)

  abbrev pub Comes : Type 0
  Comes = IfOk result (IsRelocationProgress now) × IfErr result (λ why. Fails)

  ends-comes : (x : Relocation K V) (e : texts.Entry K V) (kept : IndexEntry) → Ends old new slot c x e kept now result → Comes
  ends-comes x e kept (Ends.moved w n r) = rw r (tt, tt)
  ends-comes x e kept (Ends.worn w t n r) = rw r (tt, inl n)
  ends-comes x e kept (Ends.full w l n r) = rw r (refl, tt)
  ends-comes x e kept (Ends.appends w t l n r) = rw r ((refl, refl), tt)

  asks-comes : (asking : PartitionView K V I) (wanted : ℕ) → Asks stands old new asking wanted result → Comes
  asks-comes asking wanted (Asks.asks q h n r) = rw r (tt, tt)
  asks-comes asking wanted (Asks.unshared n r) = rw r (tt, inl n)

  checks-comes : (x : Relocation K V) (e : texts.Entry K V) → ChecksLiveness stands cmp join code old new slot c x e now result → Comes
  checks-comes x e (ChecksLiveness.superseded w n r) = rw r ((refl, refl), tt)
  checks-comes x e (ChecksLiveness.last kept parts l ends) = ends-comes x _ kept ends
  checks-comes x e (ChecksLiveness.further kept b parts l asking) = asks-comes _ b asking

  goes_on-comes : GoesOn stands cmp join code old new slot c now result → Comes
  goes_on-comes (GoesOn.unknown h n r) = rw r (tt, inl n)
  goes_on-comes (GoesOn.not_ready x a h w n r) = rw r (tt, inl n)
  goes_on-comes (GoesOn.again x e kept h s ends) = ends-comes x e kept ends
  goes_on-comes (GoesOn.passed x h s lt n r) = rw r ((refl, refl), tt)
  goes_on-comes (GoesOn.checks x e h s t low at checks) = checks-comes x e checks
  goes_on-comes (GoesOn.reads x h s t lt asking) = asks-comes _ x.target asking

  goes_comes : IsFirstOpen old slot (Some c) → Goes stands cmp join f code old new slot c now result → Comes
  goes_comes first (Goes.on_key none does rest) = absurd (let bad : false ≡ true = ap is_some (sym none) ∙ first.0 in cc)
  goes_comes first (Goes.relocation x h does) = goes_on-comes does

  module _ (spells : ℕ → List ℕ → ℕ → texts.Entry K V → Type 0) (came : Result (Joined R) Refused) where
    loads_on-comes : LoadsOn stands spells cmp join code old new slot c came now result → Comes
    loads_on-comes (LoadsOn.unknown h n r) = rw r (tt, inl n)
    loads_on-comes (LoadsOn.not_ready x h w n r) = rw r (tt, inl n)
    loads_on-comes (LoadsOn.moved x a h w b n r) = rw r (tt, tt)
    loads_on-comes (LoadsOn.failed x wanted why w e m n r) = rw r (tt, inr n)
    loads_on-comes (LoadsOn.unread x wanted w e n r) = rw r (tt, inl n)
    loads_on-comes (LoadsOn.stranger x wanted p s w e g m n r) = rw r (tt, inl n)
    loads_on-comes (LoadsOn.checks x begin p e s h q t checks) = checks-comes x e checks
    loads_on-comes (LoadsOn.damaged x begin p s h q t n r) = rw r (tt, inr n)
    loads_on-comes (LoadsOn.newer x e l p q s h g t w n r) = rw r ((refl, refl), tt)
    loads_on-comes (LoadsOn.ends x e l p q parts s h g t w ends) = ends-comes x _ l.kept ends
    loads_on-comes (LoadsOn.further x e l p b parts s h g t lt at asking) = asks-comes _ b asking
    loads_on-comes (LoadsOn.bad_record x e l p why s h g t n r) = rw r (tt, inr n)
    loads_on-comes (LoadsOn.bad_link x e l p b parts s h g t lt stray n r) = rw r (tt, inr n)

    loads_comes : IsFirstOpen old slot (Some c) → Loads stands spells cmp join f code old new slot c came now result → Comes
    loads_comes first (Loads.on_key none does rest) = absurd (let bad : false ≡ true = ap is_some (sym none) ∙ first.0 in cc)
    loads_comes first (Loads.relocation x h does) = loads_on-comes does

module _ {K V I O R : Type 0} (stands : R → Standing) (cmp : K → K → Ordering) (join : V → V → V) (f : Meanings K V I O) (code : K → ℕ) (old new : PartitionView K V I) (slot now : ℕ)
    (result : Result (Progress K V I O R) Refused) where
  -- what a step may tell
  pub next_tells : CompactsNext stands cmp join f code old new slot now result → IfOk result (IsRelocationProgress now)
  next_tells (CompactsNext.refused why none does r) = rw r tt
  next_tells (CompactsNext.issues c none does r) = rw r tt
  next_tells (CompactsNext.goes_on c first does) = (goes_comes stands cmp join f code old new slot c now result first does).0

  module _ (spells : ℕ → List ℕ → ℕ → texts.Entry K V → Type 0) (came : Result (Joined R) Refused) where
    -- and what a load may tell
    pub load_tells : CompactsLoad stands spells cmp join f code old new slot came now result → IfOk result (IsRelocationProgress now)
    load_tells (CompactsLoad.unknown none n r) = rw r tt
    load_tells (CompactsLoad.loads c first does) = (loads_comes stands cmp join f code old new slot c now result spells came first does).0

-- ---- who parts
-- no moment is past
given-later : {K V I : Type 0} (slot : ℕ) {old new : PartitionView K V I} {start end : ℕ} → GivesUpAll slot old new start end → old.moment ≤ start
    → (old.moment ≤ new.moment) × (new.moment ≤ end)
given-later slot (GivesUpAll.none h) le = (omega arith, le)
given-later slot (GivesUpAll.next h more) le = let rest = given-later slot more (omega arith) in (omega (arith, rest.0), rest.1)

leaves-later : {K V I : Type 0} (keeps : Bool) (old new : PartitionView K V I) (slot now : ℕ) (result : Result (Unit {0}) Refused) → old.moment ≤ now → Leaves keeps old new slot now result
    → old.moment ≤ new.moment
leaves-later {K} {V} {I} keeps old new slot now result le (Leaves.unknown h n r) = let at = ap (λ (v : PartitionView K V I). v.moment) n in omega arith
leaves-later {K} {V} {I} keeps old new slot now result le (Leaves.busy c e o n r) = let at = ap (λ (v : PartitionView K V I). v.moment) n in omega arith
leaves-later {K} {V} {I} keeps old new slot now result le (Leaves.leaves e o m r) = let at = ap (λ (v : PartitionView K V I). v.moment) m.is in omega arith

left-later : {K V I : Type 0} (keeps : Bool) (old new : PartitionView K V I) (slot now : ℕ) (result : Result (Unit {0}) Refused) → old.moment ≤ now → LeavesAll keeps old new slot now result
    → old.moment ≤ new.moment
left-later {K} {V} {I} keeps old new slot now result le (LeavesAll.busy c x h n r) = let at = ap (λ (v : PartitionView K V I). v.moment) n in omega arith
left-later keeps old new slot now result le (LeavesAll.leaves none does) = leaves-later keeps old new slot now result le does

parts-later : {K V I : Type 0} (keeps : Bool) (old new : PartitionView K V I) (slot start end : ℕ) (result : Result (Unit {0}) Refused) → old.moment ≤ start
    → Parts keeps old new slot start end result
    → old.moment ≤ new.moment
parts-later {K} {V} {I} keeps old new slot start end result le (Parts.worn w n e r) = let at = ap (λ (v : PartitionView K V I). v.moment) n in omega arith
parts-later keeps old new slot start end result le (Parts.parts between last spare gives leaving e) =
    let given = given-later slot gives le in
    let left = left-later keeps between new slot (last + 1) result (omega (arith, given.1)) leaving in
    omega (arith, given.0, left)

-- ---- operations on keys stay where those of the core do
module _ {K V I : Type 0} (old new : PartitionView K V I) (same : (s d : ℕ) → key_effect.asked new s d ≡ key_effect.asked old s d) where
  operation_stays : (s d number : ℕ) (op : KeyedOp K V I) → asked old s d ≡ Some (record { number = number; op = op_of op }) → asked new s d ≡ Some (record { number = number; op = op_of op })
  operation_stays s d number op h = by_parts (key_effect.asked old s d) (relocation_at old s d) refl h
    where
      by_parts : (a : Option (key_effect.Asked K V I)) (r : Option (Relocation K V)) → key_effect.asked old s d ≡ a → asked_of a r ≡ Some (record { number = number; op = op_of op })
          → asked new s d ≡ Some (record { number = number; op = op_of op })
      by_parts (Some y) r p e = ap (λ (a : Option (key_effect.Asked K V I)). asked_of a (relocation_at new s d)) (same s d ∙ p) ∙ e
      by_parts None None p e = absurd (cc)
      by_parts None (Some r) p e =
          let told : Relocate ≡ op_of op = ap (op_in Relocate) e in
          let bad : None ≡ Some op = ap keyed told ∙ keyed-op op in
          absurd (cc)

-- ---- what is kept
module _ {K V I O : Type 0} (cmp : K → K → Ordering) (f : Meanings K V I O) (old new : PartitionView K V I) (es : List (Entry K V I O)) (lows looks : List ℕ) (book : ℕ)
    (k : IsFaithful cmp f (seen cmp old) es lows looks book) where
  -- an event of a relocation
  relocating_keeps : (keeps : Bool) (slot c now : ℕ) → IsTrue keeps → old.moment < now → IsRelocating keeps cmp old new slot c now → IsFaithful cmp f (seen cmp new) es lows looks book
  relocating_keeps keeps slot c now held later r =
      let at = r.moment in
      kept_operations cmp f (seen cmp old) (seen cmp new) (omega arith) es lows looks book (operation_stays old new r.same) (λ s d p h. sym (r.pend held s d) ∙ h) (r.live held) k

  pub turn_keeps : (keeps : Bool) (slot now : ℕ) → IsTrue keeps → old.moment < now → IsTurn keeps cmp old new slot now → IsFaithful cmp f (seen cmp new) es lows looks book
  turn_keeps keeps slot now held later turn = relocating_keeps keeps slot turn.context now held later turn.event

  -- one is given up, or nothing changes
  fails_keeps : (slot c now : ℕ) → old.moment < now → is_some (relocation_at old slot c) ≡ true → (new ≡ old) ⊎ (new ≡ with_relocation old slot c None now) → IsFaithful cmp f (seen cmp new) es lows looks book
  fails_keeps slot c now later some (inl n) = subst (λ (v : PartitionView K V I). IsFaithful cmp f (seen cmp v) es lows looks book) (sym n) k
  fails_keeps slot c now later some (inr n) = relocating_keeps true slot c now refl later (subst (λ (v : PartitionView K V I). IsRelocating true cmp old v slot c now) (sym n) (gone cmp old slot c now some))

  -- a load, refused or not
  pub load_keeps : {R : Type 0} (stands : R → Standing) (spells : ℕ → List ℕ → ℕ → texts.Entry K V → Type 0) (join : V → V → V) (code : K → ℕ) (keeps : Bool) (slot now : ℕ) (came : Result (Joined R) Refused)
      (result : Result (Progress K V I O R) Refused) → IsTrue keeps → old.moment < now
      → CompactsLoad stands spells cmp join f code old new slot came now result
      → IfOk result (λ moved. IsTurn keeps cmp old new slot now)
      → IsFaithful cmp f (seen cmp new) es lows looks book
  load_keeps stands spells join code keeps slot now came (Ok moved) held later does turn = turn_keeps keeps slot now held later turn
  load_keeps stands spells join code keeps slot now came (Err why) held later (CompactsLoad.unknown none n r) turn = subst (λ (v : PartitionView K V I). IsFaithful cmp f (seen cmp v) es lows looks book) (sym n) k
  load_keeps stands spells join code keeps slot now came (Err why) held later (CompactsLoad.loads c first does) turn =
      fails_keeps slot c now later first.0 (loads_comes stands cmp join f code old new slot c now (Err why) spells came first does).1

  -- the log's start is cut: no look-up is to find what it was to find
  pub truncation_keeps : (keeps : Bool) (page now : ℕ) → IsTrue keeps → old.moment < now → IsTruncation keeps cmp old new page now → IsFaithful cmp f (seen cmp new) es lows looks book
  truncation_keeps keeps page now held later t =
      let at = t.moment in
      kept_operations cmp f (seen cmp old) (seen cmp new) (omega arith) es lows looks book (λ s d number op h. t.same s d ∙ h)
      (λ s d p h. let bad : None ≡ Some p = sym (t.pend s d) ∙ h in absurd (cc))
      (t.live held)
      k

  -- a compactor parts
  pub part_keeps : (keeps : Bool) (slot start end : ℕ) (result : Result (Unit {0}) Refused) → old.moment ≤ start → Parts keeps old new slot start end result
      → ((s d : ℕ) (x : Asked K V I) (o : KeyedOp K V I) → asked old s d ≡ Some x → keyed x.op ≡ Some o → asked new s d ≡ Some x)
      → AllPend cmp old new
      → Same (live_of cmp new) (live_of cmp old)
      → IsFaithful cmp f (seen cmp new) es lows looks book
  part_keeps keeps slot start end result le parting operations pend live =
      kept_operations cmp f (seen cmp old) (seen cmp new) (parts-later keeps old new slot start end result le parting) es lows looks book
      (λ s d number op h. operations s d (record { number = number; op = op_of op }) op h (keyed-op op))
      (λ s d p h. sym (pend s d) ∙ h)
      live
      k
