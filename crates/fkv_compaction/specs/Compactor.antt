-- What a session does that relocates, one target at a time: each call takes the lowest context in which a relocation of
-- its session is open, or issues a relocation where none is.
use Rattle.std.specs.Prelude.{◌≡◌, ◌+◌, ◌^◌, ◌<◌, ◌≤◌, ℕ, Bool, IsTrue, List, Some, None, Result, Ok, Err}
use Rattle.std.specs.declared.cmp.Ordering.{Ordering}
use Rattle.fkv_functions.specs.Meanings.{Meanings}
use Rattle.fkv_functions.specs.declared.refusals.Refused.{Refused}
use Rattle.fkv_functions.specs.declared.refusals.Refused.TheVariants.{Unknown, Worn}
use Rattle.fkv_device.specs.Standing.{Standing, Joined}
use Rattle.fkv_texts.specs.declared.entries.Entry.{Entry}
use Rattle.fkv_operations.specs.declared.operations.Op.TheVariants.{Relocate}
use Rattle.fkv_partition.specs.declared.contexts.Progress.{Progress}
use Rattle.fkv_partition.specs.declared.contexts.Progress.TheVariants.{Next}
use Rattle.fkv_partition.specs.KeyEffect as key_effect
use Rattle.fkv_partition.specs.Views.{PartitionView, with_relocation}
use Rattle.fkv_partition.specs.Pending.{AllPend}
use Rattle.fkv_partition.specs.Beginning.{IsFirstFree, IsFirstOpen, LeavesAll}
use Rattle.fkv_partition.specs.Relocating.{IsRelocating}
use Rattle.fkv_partition.specs.Events.{Issues, Goes, Loads}

-- the context that is taken next
pub data IsInTurn {K V I : Type 0} (v : PartitionView K V I) (slot c : ℕ) : Type 0 where
  goes_on : IsFirstOpen v slot (Some c) → IsInTurn v slot c
  begins : IsFirstOpen v slot None → IsFirstFree v slot (Some c) → IsInTurn v slot c

-- an event of a relocation in that context
pub record IsTurn {K V I : Type 0} (keeps : Bool) (cmp : K → K → Ordering) (old new : PartitionView K V I)
    (slot now : ℕ) : Type 0 where
  pub context : ℕ
  pub taken : IsInTurn old slot context
  pub event : IsRelocating keeps cmp old new slot context now

pub data CompactsNext {K V I O R : Type 0} (stands : R → Standing) (cmp : K → K → Ordering) (join : V → V → V)
    (f : Meanings K V I O)
    (code : K → ℕ) (old new : PartitionView K V I) (slot now : ℕ) (result : Result (Progress K V I O R) Refused)
    : Type 0 where
  refused : (why : Refused)
      → IsFirstOpen old slot None
      → Issues code old new slot Relocate now (Err why)
      → result ≡ Err why
      → CompactsNext stands cmp join f code old new slot now result
  issues : (c : ℕ)
      → IsFirstOpen old slot None
      → Issues code old new slot Relocate now (Ok c)
      → result ≡ Ok Next
      → CompactsNext stands cmp join f code old new slot now result
  goes_on : (c : ℕ)
      → IsFirstOpen old slot (Some c)
      → Goes stands cmp join f code old new slot c now result
      → CompactsNext stands cmp join f code old new slot now result

pub data CompactsLoad {K V I O R : Type 0} (stands : R → Standing) (spells : ℕ → List ℕ → ℕ → Entry K V → Type 0)
    (cmp : K → K → Ordering) (join : V → V → V) (f : Meanings K V I O) (code : K → ℕ) (old new : PartitionView K V I)
    (slot : ℕ)
    (came : Result (Joined R) Refused) (now : ℕ) (result : Result (Progress K V I O R) Refused) : Type 0 where
  unknown : IsFirstOpen old slot None
      → new ≡ old
      → result ≡ Err Unknown
      → CompactsLoad stands spells cmp join f code old new slot came now result
  loads : (c : ℕ)
      → IsFirstOpen old slot (Some c)
      → Loads stands spells cmp join f code old new slot c came now result
      → CompactsLoad stands spells cmp join f code old new slot came now result

-- relocations are given up: operations on keys ask what they asked, look-ups are to find what they were to find, and the records
-- stay
pub record IsWithoutThem {K V I : Type 0} (cmp : K → K → Ordering) (old new : PartitionView K V I) : Type 0 where
  pub asked : (s d : ℕ) → key_effect.asked new s d ≡ key_effect.asked old s d
  pub pend : AllPend cmp old new
  pub records : new.records ≡ old.records
  pub number : new.number ≡ old.number
  pub count : new.count ≡ old.count

-- who has left: of the partition its number and count stay, its text on a device that keeps, and where that begins
pub record IsParted {K V I : Type 0} (keeps : Bool) (old new : PartitionView K V I) (now : ℕ) : Type 0 where
  pub text : IsTrue keeps → new.records.text ≡ old.records.text
  pub number : new.number ≡ old.number
  pub count : new.count ≡ old.count
  pub begin : new.records.log.begin ≡ old.records.log.begin
  pub moment : new.moment ≡ now

-- the relocations of a slot are given up, the lowest first, each at the next moment of a clock
pub data GivesUpAll {K V I : Type 0} (slot : ℕ) : PartitionView K V I → PartitionView K V I → ℕ → ℕ → Type 0 where
  none : {v : PartitionView K V I} {now : ℕ} → IsFirstOpen v slot None → GivesUpAll slot v v now now
  next : {old new : PartitionView K V I} {start end c : ℕ}
      → IsFirstOpen old slot (Some c)
      → GivesUpAll slot (with_relocation old slot c None (start + 1)) new (start + 1) end
      → GivesUpAll slot old new start end

-- and then the session is left, at one more moment, where the clock has enough of them for any number of relocations
pub data Parts {K V I : Type 0} (keeps : Bool) (old new : PartitionView K V I) (slot start end : ℕ)
    (result : Result (Unit {0}) Refused) : Type 0 where
  worn : 2 ^ 64 ≤ start + 9
      → new ≡ old
      → end ≡ start
      → result ≡ Err Worn
      → Parts keeps old new slot start end result
  parts : (between : PartitionView K V I) (last : ℕ)
      → start + 9 < 2 ^ 64
      → GivesUpAll slot old between start last
      → LeavesAll keeps between new slot (last + 1) result
      → end ≡ last + 1
      → Parts keeps old new slot start end result
