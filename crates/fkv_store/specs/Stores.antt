-- What a contract sees of a store, and what it refuses.
use Rattle.std.specs.Prelude.{◌≡◌, ◌≢◌, ◌⊎◌, ◌<◌, ◌-◌, ◌^◌, ℕ, Bool, true, false, List, slice_get, Some, ⊤}
use Rattle.fkv_functions.specs.declared.refusals.Refused.{Refused}
use Rattle.fkv_functions.specs.declared.refusals.Refused.TheVariants.{NoMemory, NoSlot, Unknown, NotDue, DrainFull, Stranger, Worn, Device, Damaged, Stalled, Mismatch, NoMerge}
use Rattle.fkv_functions.specs.declared.refusals.What.TheVariants as what
use Rattle.fkv_operations.specs.After.{is_merge}
use Rattle.fkv_operations.specs.declared.operations.KeyedOp.{KeyedOp}

-- its own number, how many partitions it has, and how many turns an operation may take
pub record StoreView : Type 0 where
  pub id : ℕ
  pub count : ℕ
  pub turns : ℕ

-- what a call on a store may be refused by: a device, by code 1 where it does not open a partition's pages, 2 where it does not write
-- one, and 3 where it does not read one
abbrev pub IsTold : Refused → Type 0
IsTold NoMemory = ⊤
IsTold NoSlot = ⊤
IsTold Unknown = ⊤
IsTold (Stranger what held came) = ⊤
IsTold Worn = ⊤
IsTold (Device code page) = ((code ≡ 1) × (page ≡ 0)) ⊎ ((code ≡ 2) ⊎ (code ≡ 3))
IsTold (Damaged page) = ⊤
IsTold Stalled = ⊤
IsTold other = ⊥

-- what a caller is told where an event is refused: why, or `Unknown` where that speaks of sessions and contexts, which are the
-- store's own matter, or of a pass, which an event without an operation knows nothing of. No event stalls: an operation does, after
-- so many of them
abbrev pub heard : Refused → Refused
heard NoMemory = NoMemory
heard NoSlot = NoSlot
heard (Stranger what.Pass held came) = Unknown
heard (Stranger what held came) = Stranger what held came
heard Worn = Worn
heard (Device code page) = Device code page
heard (Damaged page) = Damaged page
heard other = Unknown

-- what a session is refused by that is refreshed or left: its partition's clock has no next moment; or another caller took the
-- session for its own
abbrev pub IsUnrefreshed : Refused → Type 0
IsUnrefreshed Unknown = ⊤
IsUnrefreshed Worn = ⊤
IsUnrefreshed other = ⊥

-- what a shift of a partition's offsets is refused by
abbrev pub IsUnshifted : Refused → Type 0
IsUnshifted NotDue = ⊤
IsUnshifted DrainFull = ⊤
IsUnshifted Worn = ⊤
IsUnshifted other = ⊥

-- what taking a page that is to be written is refused by
abbrev pub IsUntaken : Refused → Type 0
IsUntaken NotDue = ⊤
IsUntaken NoMemory = ⊤
IsUntaken Worn = ⊤
IsUntaken other = ⊥

-- what moving a partition's pages on is refused by: no page is read, no session is entered and nothing is waited for. `Stranger` is
-- that another page was the lowest to be written than the one that was, or that this had other bytes
abbrev pub IsUntidy : Refused → Type 0
IsUntidy NoMemory = ⊤
IsUntidy (Stranger what.Page held came) = held ≢ came
IsUntidy (Stranger what.Bytes held came) = held ≢ came
IsUntidy Worn = ⊤
IsUntidy (Device code page) = code ≡ 2
IsUntidy other = ⊥

-- what a session is refused by that enters: sixteen are entered, or there is no next number of sessions or no next moment
abbrev pub IsUnentered : Refused → Type 0
IsUnentered NoSlot = ⊤
IsUnentered Worn = ⊤
IsUnentered other = ⊥

-- fewer updates stand than a pass was told of, or as many as have no next number
abbrev pub IsBehind : ℕ → ℕ → ℕ → Type 0
IsBehind known held came = (came ≡ known) × ((held < known) ⊎ (held ≡ 2 ^ 64 - 1))

-- what an event of an operation may be refused by that is handed no page, of a pass that was told of so many updates of its
-- partition; `Unknown` is that another caller took the pass's session for its own
abbrev pub IsUndone : ℕ → Refused → Type 0
IsUndone known NoMemory = ⊤
IsUndone known Unknown = ⊤
IsUndone known (Stranger what.Pass held came) = IsBehind known held came
IsUndone known Worn = ⊤
IsUndone known other = ⊥

-- the fault of a page: a device, by code 3, does not read it, or it is damaged
abbrev pub IsPageFault : Refused → Type 0
IsPageFault (Device code page) = code ≡ 3
IsPageFault (Damaged page) = ⊤
IsPageFault other = ⊥

-- what a turn of an operation may be refused by
abbrev pub IsUnturned : ℕ → Refused → Type 0
IsUnturned known why = IsUndone known why ⊎ IsPageFault why

-- what the operation may be: as an event of it is, or as sessions that enter and pages that move on are, or by its turns
abbrev pub IsStopped : ℕ → Refused → Type 0
IsStopped known NoMemory = ⊤
IsStopped known NoSlot = ⊤
IsStopped known Unknown = ⊤
IsStopped known (Stranger what.Pass held came) = IsBehind known held came
IsStopped known (Stranger what.Page held came) = held ≢ came
IsStopped known (Stranger what.Bytes held came) = held ≢ came
IsStopped known Worn = ⊤
IsStopped known (Device code page) = (code ≡ 2) ⊎ (code ≡ 3)
IsStopped known (Damaged page) = ⊤
IsStopped known Stalled = ⊤
IsStopped known other = ⊥

-- or as a merge of functions that do not merge
abbrev pub IsUnrun : {K V I : Type 0} → Bool → KeyedOp K V I → ℕ → Refused → Type 0
IsUnrun merges op known refused = IsStopped known refused ⊎ ((refused ≡ NoMerge) × (is_merge op ≡ true) × (merges ≡ false))

-- what is refused of a page that was written, and is to be taken in
abbrev pub IsUnflushed : Refused → Type 0
IsUnflushed NotDue = ⊤
IsUnflushed NoMemory = ⊤
IsUnflushed (Stranger what.Page held came) = held ≢ came
IsUnflushed (Stranger what.Bytes held came) = held ≢ came
IsUnflushed Worn = ⊤
IsUnflushed other = ⊥

-- what the relocations of a compaction are refused by
abbrev pub IsUnrelocated : Refused → Type 0
IsUnrelocated NoMemory = ⊤
IsUnrelocated Worn = ⊤
IsUnrelocated (Device code page) = code ≡ 3
IsUnrelocated (Damaged page) = ⊤
IsUnrelocated other = ⊥

-- what the cut of a log's start is refused by
abbrev pub IsUncut : Refused → Type 0
IsUncut NotDue = ⊤
IsUncut Worn = ⊤
IsUncut other = ⊥

-- what a compaction may be refused by: a device, by code 1 where it does not open the partition's pages, by code 3 where it does not
-- read one; and as it enters, and by its events
abbrev pub IsUncompacted : Refused → Type 0
IsUncompacted NoMemory = ⊤
IsUncompacted NoSlot = ⊤
IsUncompacted Worn = ⊤
IsUncompacted (Device code page) = ((code ≡ 1) × (page ≡ 0)) ⊎ (code ≡ 3)
IsUncompacted (Damaged page) = ⊤
IsUncompacted Stalled = ⊤
IsUncompacted other = ⊥

-- a device does not open a partition's pages, or there is no memory
abbrev pub IsUnopened : Refused → Type 0
IsUnopened refused = (refused ≡ NoMemory) ⊎ (refused ≡ Device 1 0)

-- each of these readers reads the pages of the partition at its place
abbrev pub AreReaders : {P : Type 0} → (P → ℕ) → List P → Type 0
AreReaders part readers = (p : ℕ) (r : _) → slice_get readers p ≡ Some r → part r ≡ p

-- what the end of a store may be refused by: a device by code 1 where it does not open a partition's pages, by code 3 where a page
-- is not read
abbrev pub IsClosing : Refused → Type 0
IsClosing NoMemory = ⊤
IsClosing Worn = ⊤
IsClosing (Device code page) = ((code ≡ 1) × (page ≡ 0)) ⊎ (code ≡ 3)
IsClosing (Damaged page) = ⊤
IsClosing Mismatch = ⊤
IsClosing other = ⊥

-- what it may be refused by before its pages are read
abbrev pub IsEnding : Refused → Type 0
IsEnding NoMemory = ⊤
IsEnding Worn = ⊤
IsEnding (Device code page) = (code ≡ 1) × (page ≡ 0)
IsEnding Mismatch = ⊤
IsEnding other = ⊥

-- what the list of a partition may be refused by
abbrev pub IsUnlisted : Refused → Type 0
IsUnlisted NoMemory = ⊤
IsUnlisted (Device code page) = code ≡ 3
IsUnlisted (Damaged page) = ⊤
IsUnlisted other = ⊥
