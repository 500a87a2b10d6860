-- What a relocation waits for after an event, and why an event of it is refused.
use Rattle.std.proofs.Common.{◌≡◌, ◌≢◌, Bool, IsTrue, true, false, ℕ, ◌+◌, ◌*◌, ◌^◌, ◌<◌, inl, inr, List, Option, Some, None, Result, Ok, Err, IfOk, IfErr, OnOk, IsSome, length, slice_get, slice_set, refl, sym, ◌∙◌, ap, subst, arith}
use Rattle.std.proofs.lemmas.Option.{same_Some, slice_get_cases}
use Rattle.std.specs.declared.cmp.Ordering.{Ordering}
use Rattle.fkv_functions.specs.Meanings.{Meanings}
use Rattle.fkv_functions.specs.declared.refusals.Refused.{Refused}
use Rattle.fkv_functions.specs.declared.refusals.Refused.TheVariants.{Damaged, NotDue}
use Rattle.fkv_functions.proofs.ListLemmas.{get-set_same}
use Rattle.fkv_records.specs.Places.{page_at}
use Rattle.fkv_device.specs.Standing.{Standing, Joined}
use Rattle.fkv_texts.specs.declared.entries.Entry.{Entry}
use Rattle.fkv_hybrid.specs.Loads.{IsHeldBy}
use Rattle.fkv_hybrid.specs.Views.{receipt_at}
use Rattle.fkv_operations.specs.declared.entries.IndexEntry.{IndexEntry}
use Rattle.fkv_operations.specs.declared.operations.Op.TheVariants.{Relocate}
use Rattle.fkv_operations.specs.declared.operations.Answer.{Answer}
use Rattle.fkv_operations.specs.declared.operations.Answer.TheVariants.{Cleared}
use Rattle.fkv_partition.specs.declared.contexts.Wait.{Wait}
use Rattle.fkv_partition.specs.declared.contexts.Wait.TheVariants.{Full}
use Rattle.fkv_partition.specs.declared.contexts.Progress.{Progress}
use Rattle.fkv_partition.specs.declared.contexts.Progress.TheVariants.{Done, Next, NeedsLoad, Waits}
use Rattle.fkv_partition.specs.Contexts.{joined, relocating}
use Rattle.fkv_partition.specs.declared.contexts.OpenWork.TheVariants.{Relocating}
use Rattle.fkv_partition.specs.Views.{slots_of, PartitionView, relocation_at, with_relocation, at_stage}
use Rattle.fkv_partition.specs.Beginning.{Relocates}
use Rattle.fkv_partition.specs.Checking.{Ends, Asks, ChecksLiveness, renewed}
use Rattle.fkv_partition.specs.Events.{Issues, Goes, Loads}
use Rattle.fkv_partition.specs.Going.{Awaited, awaited, awaited_by, GoesOn}
use Rattle.fkv_partition.specs.Reading.{LoadsOn, WaitsOn}
use Rattle.fkv_partition.specs.declared.relocations.Relocation.{Relocation}
use Rattle.fkv_partition.specs.declared.relocations.Stage.TheVariants.{Fresh, Tracing}
use Rattle.fkv_partition.proofs.EffectLemmas.{set-here}
use Rattle.fkv_local.specs.Clearing.{IsWanted, WantsThen, IsKeptBy}
use Rattle.fkv_local.specs.Failures.{Failures}
use Rattle.fkv_local.specs.Refusing.{IsWorkRefusal}
use Rattle.fkv_local.specs.Resting.{IsIdle}
use Rattle.fkv_local.proofs.DriveLemmas.{inside, zero-free}

-- what it waits for then, and that the receipts are those of before
pub record IsOn {K V I O R : Type 0} (stands : R → Standing) (v w : PartitionView K V I) (c : ℕ) (p : Progress K V I O R) : Type 0 where
  pub wants : WantsThen stands w c p
  pub receipts : w.records.log.receipts ≡ v.records.log.receipts

misspelled-at : {keeps : Bool} {tail clock : ℕ} {f : Failures} {why : Refused} {page : ℕ} → (IsTrue keeps → (page : ℕ) → why ≢ Damaged page) → why ≡ Damaged page → IsWorkRefusal keeps tail clock f f why
misspelled-at {page = page} fine is = IsWorkRefusal.misspelled page (λ yes_keeps. fine yes_keeps page is) is refl

module _ {K V I O R : Type 0} (stands : R → Standing) (v : PartitionView K V I) (c : ℕ) where
  -- it is done, or is to wait
  done-on : (w u : PartitionView K V I) (a : Answer O) (at : ℕ) (p : Progress K V I O R) → w ≡ u → u.records.log.receipts ≡ v.records.log.receipts → ◌≡◌ {A = Result (Progress K V I O R) Refused} (Ok p) (Ok (Done a at)) → IsOn stands v w c p
  done-on w u a at p is same told = let q : Done a at ≡ p = cc in subst (IsOn stands v w c) q (record { wants = tt; receipts = ap (λ (x : PartitionView K V I). x.records.log.receipts) is ∙ same })

  waits-on : (w u : PartitionView K V I) (why : Wait) (p : Progress K V I O R) → w ≡ u → u.records.log.receipts ≡ v.records.log.receipts → ◌≡◌ {A = Result (Progress K V I O R) Refused} (Ok p) (Ok (Waits why)) → IsOn stands v w c p
  waits-on w u why p is same told = let q : Waits why ≡ p = cc in subst (IsOn stands v w c) q (record { wants = tt; receipts = ap (λ (x : PartitionView K V I). x.records.log.receipts) is ∙ same })

module _ {K V I O R : Type 0} (stands : R → Standing) (v w : PartitionView K V I) (c now : ℕ) (x : Relocation K V) (here : relocation_at v 0 c ≡ Some x) where
  next-on : (p : Progress K V I O R) → w ≡ with_relocation v 0 c (Some (at_stage x Fresh)) now → ◌≡◌ {A = Result (Progress K V I O R) Refused} (Ok p) (Ok Next) → IsOn stands v w c p
  next-on p is told =
      let q : Next ≡ p = cc in
      subst (IsOn stands v w c) q (subst (λ u. IsOn {O = O} stands v u c Next) (sym is) (record { wants = IsWanted.of_none (at_stage x Fresh) (set-here v 0 c now x here (Some (at_stage x Fresh))) refl; receipts = refl }))

  ends-on : (e : Entry K V) (kept : IndexEntry) (p : Progress K V I O R) → Ends v w 0 c x e kept now (Ok p) → IsOn stands v w c p
  ends-on e kept p (Ends.moved word is told) = next-on p is told
  ends-on e kept p (Ends.worn word tail is told) = absurd (cc)
  ends-on e kept p (Ends.full word full is told) = waits-on stands v c w _ Full p is refl told
  ends-on e kept p (Ends.appends word tail room is told) = done-on stands v c w _ Cleared now p is refl told

  asks-on : (y : Relocation K V) (wanted : ℕ) (p : Progress K V I O R) → awaited y ≡ Some (record { begin = v.records.log.begin; wanted = wanted }) → Asks stands v w (with_relocation v 0 c (Some y) now) wanted (Ok p) → IsOn stands v w c p
  asks-on y wanted p awaits (Asks.asks r held is told) =
      let q : NeedsLoad r wanted ≡ p = cc in
      subst (IsOn stands v w c) q (subst (λ u. IsOn {O = O} stands v u c (NeedsLoad r wanted)) (sym is) (record { wants = IsWanted.of_page y wanted (stands r) (set-here v 0 c now x here (Some y)) awaits held; receipts = refl }))
  asks-on y wanted p awaits (Asks.unshared is told) = absurd (cc)

  module _ {cmp : K → K → Ordering} {join : V → V → V} {code : K → ℕ} where
    checks-on : (e : Entry K V) (p : Progress K V I O R) → ChecksLiveness stands cmp join code v w 0 c x e now (Ok p) → IsOn stands v w c p
    checks-on e p (ChecksLiveness.superseded needless is told) = done-on stands v c w _ Cleared now p is refl told
    checks-on e p (ChecksLiveness.last kept parts checked ends) = ends-on (renewed join e parts) kept p ends
    checks-on e p (ChecksLiveness.further kept b parts checked asking) = asks-on _ b p refl asking

module _ {K V I O R : Type 0} {stands : R → Standing} {cmp : K → K → Ordering} {join : V → V → V} {code : K → ℕ} {v w : PartitionView K V I} {c now : ℕ} where
  goes-on : (p : Progress K V I O R) → GoesOn stands cmp join code v w 0 c now (Ok p) → IsOn stands v w c p
  goes-on p (GoesOn.unknown none is told) = absurd (cc)
  goes-on p (GoesOn.not_ready x a here awaits is told) = absurd (cc)
  goes-on p (GoesOn.again x e kept here stage ends) = ends-on stands v w c now x here e kept p ends
  goes-on p (GoesOn.passed x here stage low is told) = done-on stands v c w _ Cleared now p is refl told
  goes-on p (GoesOn.checks x e here stage at low entry checks) = checks-on stands v w c now x here e p checks
  goes-on p (GoesOn.reads x here stage at low asking) = asks-on stands v w c now x here _ x.target p refl asking

  loads-on : {entry : ℕ → List ℕ → ℕ → Entry K V → Type 0} {came : Result (Joined R) Refused} (p : Progress K V I O R) → LoadsOn stands entry cmp join code v w 0 c came now (Ok p) → IsOn stands v w c p
  loads-on p (LoadsOn.unknown none is told) = absurd (cc)
  loads-on p (LoadsOn.not_ready x here awaits is told) = absurd (cc)
  loads-on p (LoadsOn.moved x a here awaits begin is told) = next-on stands v w c now x here p is told
  loads-on p (LoadsOn.failed x wanted why awaits came other is told) = absurd (cc)
  loads-on p (LoadsOn.unread x wanted awaits came is told) = absurd (cc)
  loads-on p (LoadsOn.stranger x wanted j s awaits came held other is told) = absurd (cc)
  loads-on p (LoadsOn.checks x begin j e stage has came spells checks) = checks-on stands v w c now x has.awaits.here e p checks
  loads-on p (LoadsOn.damaged x begin j stage has came none is told) = absurd (cc)
  loads-on p (LoadsOn.newer x e l j r stage has came traces live is told) = done-on stands v c w _ Cleared now p is refl told
  loads-on p (LoadsOn.ends x e l j r parts stage has came traces live ends) = ends-on stands v w c now x has.awaits.here (renewed join e parts) l.kept p ends
  loads-on p (LoadsOn.further x e l j b parts stage has came traces above start asking) =
      let begin : l.begin ≡ v.records.log.begin = ap (λ (a : Awaited). a.begin) (same_Some _ _ (sym (ap (awaited_by x.target) stage) ∙ has.awaits.awaits)) in
      asks-on stands v w c now x has.awaits.here (at_stage x (Tracing e (record l { wanted = b; parts = parts }))) b p (ap (λ n. Some (record { begin = n; wanted = b })) begin) asking
  loads-on p (LoadsOn.bad_record x e l j why stage has came traces is told) = absurd (cc)
  loads-on p (LoadsOn.bad_link x e l j b parts stage has came traces above start is told) = absurd (cc)

  pub go-on : {f : Meanings K V I O} (p : Progress K V I O R) → IsWanted v c None → Goes stands cmp join f code v w 0 c now (Ok p) → IsOn stands v w c p
  go-on p (IsWanted.of_none x here awaits) (Goes.on_key none does rest) = absurd (let bad : None ≡ Some x = sym none ∙ here in cc)
  go-on p wanted (Goes.relocation x here goes) = goes-on p goes

  pub load-on : {f : Meanings K V I O} {entry : ℕ → List ℕ → ℕ → Entry K V → Type 0} {came : Result (Joined R) Refused} {s : Standing} (p : Progress K V I O R) → IsWanted v c (Some s) → Loads stands entry cmp join f code v w 0 c came now (Ok p) → IsOn stands v w c p
  load-on p (IsWanted.of_page x wanted s here awaits held) (Loads.on_key none does rest) = absurd (let bad : None ≡ Some x = sym none ∙ here in cc)
  load-on p wanted (Loads.relocation x here loads) = loads-on p loads

-- ---- why an event is refused
module _ {K V I O R : Type 0} {v w : PartitionView K V I} {keeps : Bool} {clock : ℕ} {f : Failures} {why : Refused} where
  ends-stop : {x : Relocation K V} {e : Entry K V} {kept : IndexEntry} {c now : ℕ} → Ends {O = O} {R = R} v w 0 c x e kept now (Err why) → IsWorkRefusal keeps w.records.log.tail clock f f why
  ends-stop (Ends.moved word is told) = absurd (cc)
  ends-stop (Ends.worn word tail is told) = IsWorkRefusal.no_address (cc) (ap (λ (u : PartitionView K V I). u.records.log.tail) is ∙ tail) refl
  ends-stop (Ends.full word full is told) = absurd (cc)
  ends-stop (Ends.appends word tail room is told) = absurd (cc)

  module _ {stands : R → Standing} where
    asks-stop : {asking : PartitionView K V I} {wanted : ℕ} → Asks {O = O} stands v w asking wanted (Err why) → IsWorkRefusal keeps w.records.log.tail clock f f why
    asks-stop (Asks.asks r held is told) = absurd (cc)
    asks-stop (Asks.unshared is told) = IsWorkRefusal.no_memory (cc) refl

    checks-stop : {cmp : K → K → Ordering} {join : V → V → V} {code : K → ℕ} {x : Relocation K V} {e : Entry K V} {c now : ℕ} → ChecksLiveness {O = O} stands cmp join code v w 0 c x e now (Err why) → IsWorkRefusal keeps w.records.log.tail clock f f why
    checks-stop (ChecksLiveness.superseded needless is told) = absurd (cc)
    checks-stop (ChecksLiveness.last kept parts checked ends) = ends-stop ends
    checks-stop (ChecksLiveness.further kept b parts checked asking) = asks-stop asking

module _ {K V I O R : Type 0} {stands : R → Standing} {cmp : K → K → Ordering} {join : V → V → V} {code : K → ℕ} {v w : PartitionView K V I} {c now : ℕ} where
  module _ {keeps : Bool} {clock : ℕ} {f : Failures} {why : Refused} where
    goes-stop : {x : Relocation K V} → relocation_at v 0 c ≡ Some x → awaited x ≡ None → GoesOn {O = O} stands cmp join code v w 0 c now (Err why) → IsWorkRefusal keeps w.records.log.tail clock f f why
    goes-stop {x} here awaits (GoesOn.unknown none is told) = absurd (let bad : None ≡ Some x = sym none ∙ here in cc)
    goes-stop {x} here awaits (GoesOn.not_ready y a there waits is told) =
        let same : x ≡ y = same_Some x y (sym here ∙ there) in
        absurd (let bad : None ≡ Some a = sym awaits ∙ ap awaited same ∙ waits in cc)
    goes-stop here awaits (GoesOn.again y e kept there stage ends) = ends-stop ends
    goes-stop here awaits (GoesOn.passed y there stage low is told) = absurd (cc)
    goes-stop here awaits (GoesOn.checks y e there stage at low entry checks) = checks-stop checks
    goes-stop here awaits (GoesOn.reads y there stage at low asking) = asks-stop asking

    pub go-stop : {g : Meanings K V I O} → IsWanted v c None → Goes stands cmp join g code v w 0 c now (Err why) → IsWorkRefusal keeps w.records.log.tail clock f f why
    go-stop (IsWanted.of_none x here awaits) (Goes.on_key none does rest) = absurd (let bad : None ≡ Some x = sym none ∙ here in cc)
    go-stop (IsWanted.of_none x here awaits) (Goes.relocation y there goes) = goes-stop here awaits goes

  module _ {keeps : Bool} {entry : ℕ → List ℕ → ℕ → Entry K V → Type 0} {clock : ℕ} {f : Failures} {why : Refused} {j : Joined R} {s : Standing} (own : stands j.receipt ≡ s) (fine : IsTrue keeps → (page : ℕ) → why ≢ Damaged page) where
    loads-stop : {x : Relocation K V} {wanted : ℕ} → relocation_at v 0 c ≡ Some x → awaited x ≡ Some (record { begin = v.records.log.begin; wanted = wanted }) → IsHeldBy v.records.log.receipts (page_at v.records.log.bits wanted) s
        → LoadsOn {O = O} stands entry cmp join code v w 0 c (Ok j) now (Err why) → IsWorkRefusal keeps w.records.log.tail clock f f why
    loads-stop {x} {wanted} here awaits held (LoadsOn.unknown none is told) = absurd (let bad : None ≡ Some x = sym none ∙ here in cc)
    loads-stop {x} {wanted} here awaits held (LoadsOn.not_ready y there none is told) =
        let same : y ≡ x = same_Some y x (sym there ∙ here) in
        absurd (let bad : None ≡ Some (record { begin = v.records.log.begin; wanted = wanted }) = sym none ∙ ap awaited same ∙ awaits in cc)
    loads-stop here awaits held (LoadsOn.moved y a there waits begin is told) = absurd (cc)
    loads-stop here awaits held (LoadsOn.failed y wanted2 why2 waits came other is told) = absurd (cc)
    loads-stop here awaits held (LoadsOn.unread y wanted2 waits came is told) = absurd (cc)
    loads-stop {x} {wanted} here awaits held (LoadsOn.stranger y wanted2 q t waits came there other is told) =
        let same : y ≡ x = same_Some y x (sym waits.here ∙ here) in
        let place : wanted2 ≡ wanted = ap (λ (a : Awaited). a.wanted) (same_Some _ _ (sym waits.awaits ∙ ap awaited same ∙ awaits)) in
        let mine : t ≡ s = same_Some t s (sym there ∙ ap (λ n. receipt_at v.records.log.receipts (page_at v.records.log.bits n)) place ∙ held) in
        let page : j ≡ q = cc in
        absurd (other (mine ∙ sym own ∙ ap (λ (b : Joined R). stands b.receipt) page))
    loads-stop here awaits held (LoadsOn.checks y begin q e stage has came spells checks) = checks-stop checks
    loads-stop here awaits held (LoadsOn.damaged y begin q stage has came none is told) = misspelled-at {page = page_at v.records.log.bits y.target} fine (cc)
    loads-stop here awaits held (LoadsOn.newer y e l q r stage has came traces live is told) = absurd (cc)
    loads-stop here awaits held (LoadsOn.ends y e l q r parts stage has came traces live ends) = ends-stop ends
    loads-stop here awaits held (LoadsOn.further y e l q b parts stage has came traces above start asking) = asks-stop asking
    loads-stop here awaits held (LoadsOn.bad_record y e l q why2 stage has came traces is told) = misspelled-at {page = page_at v.records.log.bits l.wanted} fine (cc)
    loads-stop here awaits held (LoadsOn.bad_link y e l q b parts stage has came traces above start is told) = misspelled-at {page = page_at v.records.log.bits l.wanted} fine (cc)

    pub load-stop : {g : Meanings K V I O} → IsWanted v c (Some s) → Loads stands entry cmp join g code v w 0 c (Ok j) now (Err why) → IsWorkRefusal keeps w.records.log.tail clock f f why
    load-stop (IsWanted.of_page x wanted s here awaits held) (Loads.on_key none does rest) = absurd (let bad : None ≡ Some x = sym none ∙ here in cc)
    load-stop (IsWanted.of_page x wanted s here awaits held) (Loads.relocation y there loads) = loads-stop here awaits held loads

-- ---- one is issued
free-slot : {A : Type 0} (xs : List (Option A)) (i : ℕ) → i < length xs → joined (slice_get xs i) ≡ None → slice_get xs i ≡ Some None
free-slot xs i low free = by_get (slice_get xs i) refl
  where
    by_get : (o : Option (Option _)) → slice_get xs i ≡ o → slice_get xs i ≡ Some None
    by_get None e = absurd (elim (slice_get_cases xs i).1 [
      | inl some ↦ (let bad = sym e ∙ some.2 in cc)
      | inr past ↦ (let le = past.0 in omega arith)
    ])
    by_get (Some None) e = e
    by_get (Some (Some x)) e = absurd (let bad : Some x ≡ None = sym (ap joined e) ∙ free in cc)

module _ {K V I : Type 0} {code : K → ℕ} {v w : PartitionView K V I} {now : ℕ} (idle : IsIdle v 0) where
  pub issued : {c : ℕ} → length v.contexts ≡ 128 → Issues code v w 0 Relocate now (Ok c) → IsWanted w c None
  issued places (Issues.on_key o key h) = absurd (cc)
  issued {c} places (Issues.relocation op (Relocates.unknown none is told)) = absurd (cc)
  issued {c} places (Issues.relocation op (Relocates.not_due entered low is told)) = absurd (cc)
  issued {c} places (Issues.relocation op (Relocates.full entered low full is told)) = absurd (cc)
  issued {c} places (Issues.relocation op (Relocates.relocates d entered low free is told)) =
      let same : d ≡ c = cc in
      let y : Relocation K V = record { number = now; target = v.cleared; stage = Fresh } in
      let inside_it = inside (slots_of v) (slice_set v.contexts (0 * 8 + d) (Some (Relocating y))) d entered free.0 in
      let none = free-slot v.contexts (0 * 8 + d) (let small = free.0 in omega (arith, places)) free.1 in
      subst (λ n. IsWanted w n None) same (subst (λ u. IsWanted u d None) (sym is)
      (IsWanted.of_none y (ap relocating (inside_it ∙ ap joined (get-set_same v.contexts (0 * 8 + d) None (Some (Relocating y)) none))) refl))

  pub not-issued : {why : Refused} → Issues code v w 0 Relocate now (Err why) → why ≡ NotDue
  not-issued (Issues.on_key o key h) = absurd (cc)
  not-issued (Issues.relocation op (Relocates.unknown none is told)) = absurd (let bad : false ≡ true = sym none ∙ idle.entered in cc)
  not-issued (Issues.relocation op (Relocates.not_due entered low is told)) = cc
  not-issued (Issues.relocation op (Relocates.full entered low full is told)) = absurd (full 0 (omega arith) (zero-free v idle))
  not-issued (Issues.relocation op (Relocates.relocates d entered low free is told)) = absurd (cc)

-- ---- by what is wanted
pub wanted-here : {K V I : Type 0} {v : PartitionView K V I} {c : ℕ} {o : Option Standing} → IsWanted v c o → IsSome (relocation_at v 0 c)
wanted-here (IsWanted.of_none x here awaits) = subst IsSome (sym here) refl
wanted-here (IsWanted.of_page x wanted s here awaits held) = subst IsSome (sym here) refl

-- where a page is kept by receipts, each by that of its page, it stands for its page's
pub wanted-held : {K V I : Type 0} {v : PartitionView K V I} {c : ℕ} {s : Standing} → ((n : ℕ) (t : Standing) → IsHeldBy v.records.log.receipts n t → (t.page ≡ n) × (t.length ≡ 2 ^ v.records.log.bits)) → IsWanted v c (Some s) → IsHeldBy v.records.log.receipts s.page s
wanted-held {K} {V} {I} {v} {c} facts (IsWanted.of_page x wanted s here awaits held) =
    subst (λ n. IsHeldBy v.records.log.receipts n s) (sym (facts (page_at v.records.log.bits wanted) s held).0) held

-- so the page that stands for the wanted one is the one that is kept, of any page that is waited for
pub own-waits : {K V I : Type 0} {v : PartitionView K V I} {c page : ℕ} {s t : Standing} → t ≡ s → IsWanted v c (Some s) → WaitsOn v 0 c page → IsHeldBy v.records.log.receipts page t
own-waits {v = v} {page = page} {t = t} own (IsWanted.of_page x wanted s here awaits held) w =
    let same : w.relocation ≡ x = same_Some w.relocation x (sym w.awaits.here ∙ here) in
    let place : w.wanted ≡ wanted = ap (λ (a : Awaited). a.wanted) (same_Some _ _ (sym w.awaits.awaits ∙ ap awaited same ∙ awaits)) in
    let at : page_at v.records.log.bits wanted ≡ page = sym (w.page_is ∙ ap (page_at v.records.log.bits) place) in
    subst (λ n. IsHeldBy v.records.log.receipts n t) at (subst (IsHeldBy v.records.log.receipts (page_at v.records.log.bits wanted)) (sym own) held)

-- a page that is kept by the same receipts
pub kept-then : {R A : Type 0} (stands : R → Standing) (receipts receipts_now : List (Option Standing)) (sure : Bool) (kept : Option (Joined R)) (r : Result A Refused) → OnOk r (receipts_now ≡ receipts) → IsKeptBy stands receipts sure kept → OnOk r (IsKeptBy stands receipts_now sure kept)
kept-then stands receipts receipts_now sure kept (Ok a) same h = subst (λ rs. IsKeptBy stands rs sure kept) (sym same) h
kept-then stands receipts receipts_now sure kept (Err e) same h = tt

-- by what a call answers
module _ {K V I O R : Type 0} {stands : R → Standing} {cmp : K → K → Ordering} {join : V → V → V} {g : Meanings K V I O} {code : K → ℕ} {v w : PartitionView K V I} {c now : ℕ} where
  module _ (r : Result (Progress K V I O R) Refused) (wanted : IsWanted v c None) (goes : Goes stands cmp join g code v w 0 c now r) where
    pub go-wants : IfOk r (WantsThen stands w c)
    go-wants = by r goes
      where
        by : (q : Result (Progress K V I O R) Refused) → Goes stands cmp join g code v w 0 c now q → IfOk q (WantsThen stands w c)
        by (Ok p) h = (go-on p wanted h).wants
        by (Err e) h = tt

    pub go-receipts : OnOk r (w.records.log.receipts ≡ v.records.log.receipts)
    go-receipts = by r goes
      where
        by : (q : Result (Progress K V I O R) Refused) → Goes stands cmp join g code v w 0 c now q → OnOk q (w.records.log.receipts ≡ v.records.log.receipts)
        by (Ok p) h = (go-on p wanted h).receipts
        by (Err e) h = tt

    pub go-told : (keeps : Bool) (clock : ℕ) (f : Failures) → IfErr r (IsWorkRefusal keeps w.records.log.tail clock f f)
    go-told keeps clock f = by r goes
      where
        by : (q : Result (Progress K V I O R) Refused) → Goes stands cmp join g code v w 0 c now q → IfErr q (IsWorkRefusal keeps w.records.log.tail clock f f)
        by (Ok p) h = tt
        by (Err e) h = go-stop wanted h

  module _ {entry : ℕ → List ℕ → ℕ → Entry K V → Type 0} (r : Result (Progress K V I O R) Refused) {j : Joined R} {s : Standing} (own : stands j.receipt ≡ s) (wanted : IsWanted v c (Some s)) (loads : Loads stands entry cmp join g code v w 0 c (Ok j) now r) where
    pub load-wants : IfOk r (WantsThen stands w c)
    load-wants = by r loads
      where
        by : (q : Result (Progress K V I O R) Refused) → Loads stands entry cmp join g code v w 0 c (Ok j) now q → IfOk q (WantsThen stands w c)
        by (Ok p) h = (load-on p wanted h).wants
        by (Err e) h = tt

    pub load-receipts : OnOk r (w.records.log.receipts ≡ v.records.log.receipts)
    load-receipts = by r loads
      where
        by : (q : Result (Progress K V I O R) Refused) → Loads stands entry cmp join g code v w 0 c (Ok j) now q → OnOk q (w.records.log.receipts ≡ v.records.log.receipts)
        by (Ok p) h = (load-on p wanted h).receipts
        by (Err e) h = tt

    pub load-told : (keeps : Bool) (clock : ℕ) (f : Failures) → (IsTrue keeps → (page : ℕ) → r ≢ Err (Damaged page)) → IfErr r (IsWorkRefusal keeps w.records.log.tail clock f f)
    load-told keeps clock f fine = by r fine loads
      where
        by : (q : Result (Progress K V I O R) Refused) → (IsTrue keeps → (page : ℕ) → q ≢ Err (Damaged page)) → Loads stands entry cmp join g code v w 0 c (Ok j) now q → IfErr q (IsWorkRefusal keeps w.records.log.tail clock f f)
        by (Ok p) ok h = tt
        by (Err e) ok h = load-stop own (λ yes_keeps page is. ok yes_keeps page (ap Err is)) wanted h
