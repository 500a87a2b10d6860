-- How an operation ends that is driven alone: done, left waiting, or refused and then over without effect.
use Rattle.std.specs.Prelude.{◌≡◌, ◌≢◌, ◌+◌, ◌-◌, ◌^◌, ◌≤◌, ◌⊎◌, ℕ, Bool, IsTrue, Some, None, Result, Ok, Err}
use Rattle.std.specs.declared.cmp.Ordering.{Ordering}
use Rattle.fkv_functions.specs.Meanings.{Meanings}
use Rattle.fkv_functions.specs.declared.refusals.Refused.{Refused}
use Rattle.fkv_functions.specs.declared.refusals.Refused.TheVariants.{NoMemory, Worn, Device, Damaged, Stalled}
use Rattle.fkv_device.specs.Standing.{Standing}
use Rattle.fkv_operations.specs.After.{key_of}
use Rattle.fkv_operations.specs.declared.operations.KeyedOp.{KeyedOp}
use Rattle.fkv_operations.specs.declared.operations.Answer.{Answer}
use Rattle.fkv_partition.specs.declared.contexts.Progress.{Progress}
use Rattle.fkv_partition.specs.declared.contexts.Progress.TheVariants.{Done, Next, NeedsBuild, NeedsLoad, Waits}
use Rattle.fkv_partition.specs.declared.contexts.Wait.{Wait}
use Rattle.fkv_partition.specs.KeyBeginning.{IsEntered}
use Rattle.fkv_partition.specs.KeyEffect.{LeavesOthers}
use Rattle.fkv_partition.specs.Views.{PartitionView, context_at, partition_of}
use Rattle.fkv_partition.specs.Beginning.{IsFirstFree, IssuesOnKey}
use Rattle.fkv_alone.specs.Stages.{HasCome, IsDone, IsWaiting}

-- it is over without effect: its context is free, and of the records the words of the index alone may be others
pub record IsOver {K V I : Type 0} (old new : PartitionView K V I) (slot c : ℕ) : Type 0 where
  pub closed : context_at new slot c ≡ None
  pub records : new.records ≡ record old.records { words = new.records.words }
  pub frame : LeavesOthers old new slot c new.moment

-- why an event is refused, on a device that keeps or not: by the tail of the log, and the reader's count of failures before
-- and after
pub data IsStop (keeps : Bool) (tail before after : ℕ) (why : Refused) : Type 0 where
  memory : why ≡ NoMemory → after ≡ before → IsStop keeps tail before after why
  worn : why ≡ Worn → tail ≡ 2 ^ 48 → after ≡ before → IsStop keeps tail before after why
  device : (page : ℕ) → why ≡ Device 3 page → after ≡ before + 1 → IsStop keeps tail before after why
  -- the reader told of damage
  damaged : (page : ℕ) → why ≡ Damaged page → after ≡ before + 1 → IsStop keeps tail before after why
  -- the bytes that were read spell no record on the way, or lead to no place, which no keeping device comes to
  misspelled : (page : ℕ)
      → (IsTrue keeps → ⊥)
      → why ≡ Damaged page
      → after ≡ before
      → IsStop keeps tail before after why

-- one event of the operation, from `v`: it comes to what it tells, or it is refused, and then nothing has changed or
-- the operation is over
abbrev pub Advances : {K V I O R : Type 0} → Bool → (R → Standing) → (K → K → Ordering) → (V → V → V)
    → Meanings K V I O → (K → ℕ) → KeyedOp K V I → PartitionView K V I → PartitionView K V I → PartitionView K V I → ℕ → ℕ → ℕ → ℕ → ℕ
    → Result (Progress K V I O R) Refused → Type 0
Advances keeps stands cmp join f code op old v new slot c started before after (Ok progress) =
    HasCome keeps stands cmp join f code op old new slot c started progress × (after ≡ before)
Advances keeps stands cmp join f code op old v new slot c started before after (Err why) =
    IsStop keeps old.records.log.tail before after why × ((new ≡ v) ⊎ IsOver old new slot c)

-- the operation is to go on
abbrev pub IsOn : {K V I O R : Type 0} → Progress K V I O R → Type 0
IsOn (Done a effect) = ⊥
IsOn Next = Unit {0}
IsOn (NeedsBuild ask) = Unit {0}
IsOn (NeedsLoad r a) = Unit {0}
IsOn (Waits why) = ⊥

-- where an operation may be issued: in the lowest free context of an entered session, its key belonging here
pub record Opens {K V I : Type 0} (code : K → ℕ) (v : PartitionView K V I) (slot c : ℕ) (op : KeyedOp K V I) : Type 0 where
  pub entered : IsEntered v slot
  pub own : partition_of v.count (code (key_of op)) ≡ v.number
  pub free : IsFirstFree v slot (Some c)

-- what became of an operation that was driven by at most `limit` events after the clock gave `start`: a rule for each
-- case, in the order of the tests
pub data Ends {K V I O R : Type 0} (keeps : Bool) (cmp : K → K → Ordering) (join : V → V → V) (f : Meanings K V I O)
    (code : K → ℕ) (op : KeyedOp K V I) (old new : PartitionView K V I) (slot limit start end before after : ℕ)
    (result : Result (Progress K V I O R) Refused) : Type 0 where
  -- no event is allowed
  barred : limit ≡ 0 → new ≡ old → end ≡ start → after ≡ before → result ≡ Err Stalled
      → Ends keeps cmp join f code op old new slot limit start end before after result
  -- the clock has no moment left for the issue
  late : limit ≢ 0 → start ≡ 2 ^ 64 - 1 → new ≡ old → end ≡ start → after ≡ before → result ≡ Err Worn
      → Ends keeps cmp join f code op old new slot limit start end before after result
  -- the issue is refused
  unissued : (why : Refused)
      → limit ≢ 0
      → IssuesOnKey code old new slot op (start + 1) (Err why)
      → new ≡ old
      → end ≡ start + 1
      → after ≡ before
      → result ≡ Err why
      → Ends keeps cmp join f code op old new slot limit start end before after result
  done : (c : ℕ) (a : Answer O) (effect : ℕ)
      → Opens code old slot c op
      → IsDone keeps cmp f op old new slot c (start + 1) a effect
      → end ≤ start + limit
      → after ≡ before
      → result ≡ Ok (Done a effect)
      → Ends keeps cmp join f code op old new slot limit start end before after result
  -- it stays open
  waits : (c : ℕ) (why : Wait)
      → Opens code old slot c op
      → IsWaiting cmp join f code op old new slot c (start + 1) why
      → end ≤ start + limit
      → after ≡ before
      → result ≡ Ok (Waits why)
      → Ends keeps cmp join f code op old new slot limit start end before after result
  -- an event is refused, and the operation is over
  refused : (c : ℕ) (why : Refused)
      → Opens code old slot c op
      → IsOver old new slot c
      → end ≤ start + limit
      → IsStop keeps old.records.log.tail before after why
      → result ≡ Err why
      → Ends keeps cmp join f code op old new slot limit start end before after result
  -- all its events are made, and the operation is over
  stalled : (c : ℕ)
      → Opens code old slot c op
      → IsOver old new slot c
      → end ≡ start + limit
      → after ≡ before
      → result ≡ Err Stalled
      → Ends keeps cmp join f code op old new slot limit start end before after result
  -- the clock has no moment left for the next event, and the operation is over
  exhausted : (c : ℕ)
      → Opens code old slot c op
      → IsOver old new slot c
      → end ≡ 2 ^ 64 - 1
      → end ≤ start + limit
      → after ≡ before
      → result ≡ Err Worn
      → Ends keeps cmp join f code op old new slot limit start end before after result

-- an operation that is refused is over, or open still: of the records the words of the index alone may be others
pub record IsHalted {K V I : Type 0} (old new : PartitionView K V I) (slot c : ℕ) : Type 0 where
  pub records : new.records ≡ record old.records { words = new.records.words }
  pub frame : LeavesOthers old new slot c new.moment

-- what at most `left` events make of an open operation, after the clock gave `start`
pub data Drives {K V I O R : Type 0} (keeps : Bool) (stands : R → Standing) (cmp : K → K → Ordering) (join : V → V → V)
    (f : Meanings K V I O) (code : K → ℕ) (op : KeyedOp K V I) (old new : PartitionView K V I)
    (slot c started left start end before after : ℕ)
    (result : Result (Progress K V I O R) Refused) : Type 0 where
  ends : (progress : Progress K V I O R)
      → HasCome keeps stands cmp join f code op old new slot c started progress
      → (IsOn progress → ⊥)
      → end ≤ start + left
      → after ≡ before
      → result ≡ Ok progress
      → Drives keeps stands cmp join f code op old new slot c started left start end before after result
  refused : (why : Refused)
      → IsHalted old new slot c
      → end ≤ start + left
      → IsStop keeps old.records.log.tail before after why
      → result ≡ Err why
      → Drives keeps stands cmp join f code op old new slot c started left start end before after result
  stalled : IsHalted old new slot c
      → end ≡ start + left
      → after ≡ before
      → result ≡ Err Stalled
      → Drives keeps stands cmp join f code op old new slot c started left start end before after result
  exhausted : IsHalted old new slot c
      → end ≡ 2 ^ 64 - 1
      → end ≤ start + left
      → after ≡ before
      → result ≡ Err Worn
      → Drives keeps stands cmp join f code op old new slot c started left start end before after result
