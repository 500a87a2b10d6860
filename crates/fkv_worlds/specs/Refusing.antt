-- What the partition of a step refuses, and then nothing changes: by the rule of its event.
use Rattle.std.specs.Prelude.{◌≡◌, ◌≢◌, ℕ, [], List, true, false, Some, Result, Err}
use Rattle.std.specs.declared.cmp.Ordering.{Ordering}
use Rattle.fkv_functions.specs.Meanings.{Meanings}
use Rattle.fkv_functions.specs.declared.asks.Ask.{Ask}
use Rattle.fkv_functions.specs.declared.refusals.Refused.{Refused}
use Rattle.fkv_functions.specs.declared.refusals.Refused.TheVariants.{NoMemory, NotDue}
use Rattle.fkv_device.specs.Standing.{Standing, Joined}
use Rattle.fkv_texts.specs.declared.entries.Entry.{Entry}
use Rattle.fkv_operations.specs.declared.operations.Op.{Op}
use Rattle.fkv_records.specs.Places.{page_at}
use Rattle.fkv_partition.specs.Views.{PartitionView}
use Rattle.fkv_partition.specs.Events.{Enters, GivesUp, Goes, Installs, Loads, Refreshes, Shifts, Evicts, Issues}
use Rattle.fkv_partition.specs.Beginning.{LeavesAll}
use Rattle.fkv_partition.specs.Truncating.{Truncates}
use Rattle.fkv_lives.specs.declared.steps.Access.{Access}
use Rattle.fkv_lives.specs.declared.steps.ContextId.{ContextId}
use Rattle.fkv_lives.specs.declared.steps.Step.{Step}
use Rattle.fkv_lives.specs.declared.steps.Step.TheVariants as step
use Rattle.fkv_worlds.specs.Devices.{Comes}
use Rattle.fkv_worlds.specs.States.{StateView, question_in, receipt_in}
use Rattle.fkv_lives.specs.Told.{ends_operation}

pub data Refuses {K V I O R : Type 0} (stands : R → Standing) (entry : ℕ → List ℕ → ℕ → Entry K V → Type 0)
    (cmp : K → K → Ordering) (join : V → V → V) (f : Meanings K V I O) (code : K → ℕ) (s : StateView K V I O R)
    (v : PartitionView K V I) (now : ℕ) (e : Refused) : Step K V I → Type 0 where
  enter : (p : ℕ) → Enters v v now (Err e) → Refuses stands entry cmp join f code s v now e (step.Enter p)
  leave : (p slot : ℕ)
      → LeavesAll true v v slot now (Err e)
      → Refuses stands entry cmp join f code s v now e (step.Leave p slot)
  refresh : (p slot : ℕ)
      → Refreshes true v v slot now (Err e)
      → Refuses stands entry cmp join f code s v now e (step.Refresh p slot)
  shift : (p page : ℕ)
      → Shifts true v v page now (Err e)
      → Refuses stands entry cmp join f code s v now e (step.ReadOnly p page)
  evict : (p page : ℕ)
      → Evicts true v v page now (Err e)
      → Refuses stands entry cmp join f code s v now e (step.Head p page)
  -- no page waits to be written, or there is no memory for its copy
  idle : (p : ℕ)
      → v.records.log.waiting ≡ []
      → e ≡ NotDue
      → Refuses stands entry cmp join f code s v now e (step.Take p)
  untaken : (p : ℕ)
      → v.records.log.waiting ≢ []
      → e ≡ NoMemory
      → Refuses stands entry cmp join f code s v now e (step.Take p)
  issue : (p slot : ℕ) (op : Op K V I)
      → Issues code v v slot op now (Err e)
      → Refuses stands entry cmp join f code s v now e (step.Issue p slot op)
  go : (w : ContextId)
      → Goes stands cmp join f code v v w.slot w.context now (Err e)
      → Refuses stands entry cmp join f code s v now e (step.Go w)
  install : (w : ContextId) (ask : Ask K V I)
      → question_in s.questions w ≡ Some ask
      → Installs {R = R} cmp f code v v w.slot w.context ask now (Err e)
      → Refuses stands entry cmp join f code s v now e (step.Install w)
  -- a load that ends nothing
  load : (w : ContextId) (access : Access) (receipt : R) (came : Result (Joined R) Refused)
      → receipt_in s.receipts w ≡ Some receipt
      → Comes stands receipt access came
      → Loads stands entry cmp join f code v v w.slot w.context came now (Err e)
      → ends_operation e ≡ false
      → Refuses stands entry cmp join f code s v now e (step.Load w access)
  give_up : (w : ContextId)
      → GivesUp v v w.slot w.context now (Err e)
      → Refuses stands entry cmp join f code s v now e (step.GiveUp w)
  truncate : (p : ℕ)
      → Truncates true v v (page_at v.records.log.bits v.cleared) now (Err e)
      → Refuses stands entry cmp join f code s v now e (step.Truncate p)
