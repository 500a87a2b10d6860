-- What the device of a world does with a page that is written, and gives where one is read.
use Rattle.std.specs.Prelude.{◌≡◌, ℕ, [], Result, Ok, Err, length}
use Rattle.fkv_functions.specs.declared.refusals.Refused.{Refused}
use Rattle.fkv_functions.specs.declared.refusals.Refused.TheVariants as refused
use Rattle.fkv_device.specs.Standing.{Standing, Joined}
use Rattle.fkv_device.specs.declared.messages.FlushJob.{FlushJob}
use Rattle.fkv_partition.specs.Views.{PartitionView}
use Rattle.fkv_partition.specs.Events.{Flushes}
use Rattle.fkv_lives.specs.declared.steps.Access.{Access}
use Rattle.fkv_lives.specs.declared.steps.Access.TheVariants.{Works, Fails}

-- what the receipt of a page that was taken stands for; a writer writes one page, so that its receipt is the writer's first
abbrev pub receipt_of : FlushJob → Standing
receipt_of job = record {
  number = 0;
  page = job.page;
  length = length job.bytes;
  bytes = job.bytes;
  mark = [];
}

-- what comes of a page that is read by a receipt
pub data Comes {R : Type 0} (stands : R → Standing) (receipt : R) (access : Access)
    (came : Result (Joined R) Refused) : Type 0 where
  -- the fault that the step says
  fails : access ≡ Fails
      → came ≡ Err (refused.Device 3 (stands receipt).page)
      → Comes stands receipt access came
  -- else only memory may be wanting
  wants : access ≡ Works
      → came ≡ Err refused.NoMemory
      → Comes stands receipt access came
  -- the bytes that the receipt stands for
  gives : (p : Joined R)
      → access ≡ Works
      → stands p.receipt ≡ stands receipt
      → p.bytes ≡ (stands receipt).bytes
      → came ≡ Ok p
      → Comes stands receipt access came

-- why a page that was taken is not written
pub data Unwritten (job : FlushJob) (access : Access) (e : Refused) : Type 0 where
  -- the fault that the step says
  fails : access ≡ Fails → e ≡ refused.Device 2 job.page → Unwritten job access e
  -- else only memory may be wanting
  wants : access ≡ Works → e ≡ refused.NoMemory → Unwritten job access e

-- why it is not flushed by a write at this moment: it is not written, or the partition does not take it in
pub data Spoils {K V I : Type 0} (v : PartitionView K V I) (now : ℕ) (job : FlushJob) (access : Access) (e : Refused)
    : Type 0 where
  unwritten : Unwritten job access e → Spoils v now job access e
  strange : access ≡ Works
      → Flushes v v (receipt_of job) job.bytes now (Err e)
      → Spoils v now job access e
