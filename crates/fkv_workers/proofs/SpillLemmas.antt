-- Runs of partitions in pages, as jobs give them, and what they are as one.
use Rattle.std.proofs.Common.{◌≡◌, ◌++◌, ◌∷◌, [], ℕ, Bool, List, length, map, Option, Result, Ok, IsTrue, IfOk, inl, inr, refl, sym, subst, arith}
use Rattle.std.specs.Prelude.{◌≢◌, IfErr}
use Rattle.std.specs.List.{AllZip}
use Rattle.fkv_functions.specs.Codecs.{Codec}
use Rattle.fkv_functions.specs.declared.names.Name.{Name}
use Rattle.fkv_functions.specs.declared.refusals.Refused.{Refused}
use Rattle.fkv_functions.specs.declared.refusals.Refused.TheVariants.{NoMemory, Worn, Device, Mismatch}
use Rattle.fkv_alone.specs.Causes.{CanFailToRead}
use Rattle.fkv_device.specs.Standing.{Standing}
use Rattle.fkv_feeds.specs.Faults.{IsDeviceFault}
use Rattle.fkv_feeds.specs.Spilling.{IsSpillFault}
use Rattle.fkv_feeds.proofs.FeedsLemmas.{IsOfDevice}
use Rattle.fkv_feeds.proofs.SpilledLemmas.{spills-by, unread-caused}
use Rattle.fkv_hybrid.specs.Scans.{IsScanRefusal, MayFail}
use Rattle.fkv_local.specs.Causing.{IsCausedBy}
use Rattle.fkv_partition.specs.Views.{PartitionView}
use Rattle.fkv_spills.specs.Parts.{HasPairs}
use Rattle.fkv_spills.specs.Reading.{AreHeld}
use Rattle.fkv_spills.specs.declared.parts.SpilledPart.{SpilledPart}
use Rattle.fkv_store.specs.Stores.{IsEnding}
use Rattle.fkv_workers.specs.Listing.{IsRunOf, IsOfOne, IsFirstRefusal}
use Rattle.fkv_workers.specs.Spilling.{IsSpillEnding, IsSpilledOf, IsUnspilled}
use Rattle.fkv_workers.proofs.ListingLemmas.{refused_of}

-- ---- what the first of several has, and the others
pub record IsSplit {A B : Type 0} (holds : A → B → Type 0) (a : A) (more : List A) (bs : List B) : Type 0 where
  pub first : B
  pub rest : List B
  pub is : bs ≡ first ∷ rest
  pub held : holds a first
  pub held_more : AreHeld holds more rest

pub held_first : {A B : Type 0} (holds : A → B → Type 0) (a : A) (more : List A) (bs : List B) → AreHeld holds (a ∷ more) bs → IsSplit holds a more bs
held_first holds a more [] all = absurd all
held_first holds a more (b ∷ bs) all = record { first = b; rest = bs; is = refl; held = all.0; held_more = all.1 }

pub held_none : {A B : Type 0} (holds : A → B → Type 0) (bs : List B) → AreHeld holds [] bs → bs ≡ []
held_none holds [] all = refl
held_none holds (b ∷ bs) all = absurd all

pub none_left : {A : Type 0} (xs : List A) → length xs ≡ 0 → xs ≡ []
none_left [] none = refl
none_left (x ∷ xs) none = absurd (omega (arith, none))

-- ---- what jobs give, each of which spills a part
module _ {J X V I R P : Type 0} {vsize : ℕ} (value : Codec V vsize) (keeps : Bool) (stands : R → Standing) (code : Name → ℕ) (part : J → X) (view : X → PartitionView Name V I)
    (refuses : X → Refused → Type 0) where
  abbrev Gives : J → Result (SpilledPart V R P) Refused → Type 0
  Gives j result = (IsTrue keeps → IfOk result (IsSpilledOf value keeps stands code (view (part j)))) × IfErr result (refuses (part j))

  -- the runs that parts have, each of its partition
  pub record HaveSpilled (views : List (PartitionView Name V I)) (parts : List (SpilledPart V R P)) : Type 0 where
    pub lists : List (List (Name × V))
    pub held : AreHeld (HasPairs value keeps stands) parts lists
    pub runs : AllZip (IsRunOf keeps code) views lists

  given : (jobs : List J) (parts : List (SpilledPart V R P)) → AllZip Gives jobs (map Ok parts) → IsTrue keeps → HaveSpilled (map view (map part jobs)) parts
  given [] [] all kept = record { lists = []; held = tt; runs = tt }
  given [] (p ∷ parts) all kept = absurd all
  given (j ∷ jobs) [] all kept = absurd all
  given (j ∷ jobs) (p ∷ parts) all kept =
      let one = all.0.0 kept in
      let rest = given jobs parts all.1 kept in
      record { lists = one.pairs ∷ rest.lists; held = (one.has, rest.held); runs = (one.run, rest.runs) }

  module _ (jobs : List J) (items : List X) (results : List (Result (SpilledPart V R P) Refused)) (parts : map part jobs ≡ items) (all : AllZip Gives jobs results) where
    pub runs_spilled : (spilled : List (SpilledPart V R P)) → map Ok spilled ≡ results → IsTrue keeps → HaveSpilled (map view items) spilled
    runs_spilled spilled is kept = subst (λ xs. HaveSpilled (map view xs) spilled) parts (given jobs spilled (subst (AllZip Gives jobs) (sym is) all) kept)

    pub first_unspilled : (why : Refused) → IsFirstRefusal results why → IsOfOne refuses items why
    first_unspilled why first =
        subst (λ xs. IsOfOne refuses xs why) parts
        (refused_of Gives part refuses (λ j e given. given.1) jobs first.before first.after why (subst (AllZip Gives jobs) first.is all))

-- ---- why a partition is not spilled, as a fault of its device
-- a page that is not read has a cause where memory has none
scan_caused : (A B : Type 0) (keeps : Bool) (low flushed old new : ℕ) (why : Refused) → IsScanRefusal keeps low flushed old new why → (why ≢ NoMemory → B) → IsCausedBy A B why
scan_caused A B keeps low flushed old new why (IsScanRefusal.memory is same) may = rw is tt
scan_caused A B keeps low flushed old new why (IsScanRefusal.at_page {page} from below (inl read)) may = unread-caused A B {known = IsTrue keeps} old new why (page, inl read) may
scan_caused A B keeps low flushed old new why (IsScanRefusal.at_page {page} from below (inr spelled)) may =
    unread-caused A B {known = IsTrue keeps} old new why (page, inr (spelled.1, spelled.0)) may

-- where a page of a log may fail, a read can
may_read : {R : Type 0} (stands : R → Standing) (can_fail : R → ℕ → Type 0) (receipts : List (Option Standing)) (bits page : ℕ) → MayFail stands can_fail receipts bits page
    → CanFailToRead stands can_fail
may_read stands can_fail receipts bits page may = (may.receipt, subst (can_fail may.receipt) (sym may.long) may.fails)

module _ {R P W D V I : Type 0} (keeps : Bool) (stands : R → Standing) (can_fail : R → ℕ → Type 0) (reads : P → ℕ) (writes : W → ℕ) (opens : D → ℕ) (may_write : Type 0) where
  pub fault_of : (view : PartitionView Name V I) (reader : P) (why : Refused) → IsUnspilled keeps stands can_fail reads writes view reader why
      → IsSpillFault keeps opens writes reads may_write (CanFailToRead stands can_fail) why
  fault_of view reader why (IsUnspilled.unlisted runless) =
      IsSpillFault.unmade (IsDeviceFault.unlisted _ _ reader runless.now runless.scan
      (λ kept. scan_caused may_write (CanFailToRead stands can_fail) keeps _ _ _ _ why runless.scan (λ other. let may = runless.caused kept other in may_read stands can_fail _ _ may.0 may.1)))
  fault_of view reader why (IsUnspilled.unwritten page old new failed) = IsSpillFault.unwritten page old new failed
  fault_of view reader why (IsUnspilled.unread now unread caused) =
      IsSpillFault.unread reader now unread (λ kept. unread-caused may_write (CanFailToRead stands can_fail) _ _ why unread (caused kept))

-- a fault of the device ends a store with its cause
told_by : (fault : Refused → Type 0) (why : Refused) → IsOfDevice why → fault why → IsSpillEnding fault why
told_by fault why (inl memory) is = subst (IsSpillEnding fault) (sym memory) tt
told_by fault why (inr (inl device)) is = subst (IsSpillEnding fault) (sym device.2) (inr (subst fault device.2 is))
told_by fault why (inr (inr damaged)) is = subst (IsSpillEnding fault) (sym damaged.1) (subst fault damaged.1 is)

pub ending_of : {D W R : Type 0} (A B : Type 0) (keeps : Bool) (opens : D → ℕ) (writes : W → ℕ) (reads : R → ℕ) (why : Refused) → IsSpillFault keeps opens writes reads A B why
    → IsSpillEnding (IsSpillFault keeps opens writes reads A B) why
ending_of A B keeps opens writes reads why fault = told_by (IsSpillFault keeps opens writes reads A B) why (spills-by A B keeps opens writes reads why fault) fault

-- and a store that does not end has none
pub unended : (fault : Refused → Type 0) (why : Refused) → IsEnding why → IsSpillEnding fault why
unended fault NoMemory is = tt
unended fault Worn is = tt
unended fault (Device code page) is = inl is
unended fault Mismatch is = tt
unended fault other is = absurd is

-- ---- lists of which the first are those of runs that are gathered, and those of these parts are still to be
pub record AreParted {V A G : Type 0} (holds : A → List (Name × V) → Type 0) (gathered : G → List (List (Name × V)) → Type 0) (lists : List (List (Name × V)))
    (table : G) (parts : List A) : Type 0 where
  pub done : List (List (Name × V))
  pub left : List (List (Name × V))
  pub all : lists ≡ done ++ left
  pub held : AreHeld holds parts left
  pub runs : gathered table done
