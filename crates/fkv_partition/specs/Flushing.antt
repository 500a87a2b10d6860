-- What `flush_done` does: a rule for each case, in the order of the tests.
use Rattle.std.specs.Prelude.{◌≡◌, ℕ, List, Some, None, Result, Ok, Err}
use Rattle.fkv_functions.specs.declared.refusals.Refused.{Refused}
use Rattle.fkv_functions.specs.declared.refusals.Refused.TheVariants.{NoMemory}
use Rattle.fkv_device.specs.Standing.{Standing}
use Rattle.fkv_hybrid.specs.Flushes.{flush_refusal}
use Rattle.fkv_lookups.specs.RecordsViews.{with_receipt}
use Rattle.fkv_partition.specs.Views.{PartitionView}

-- a page that was written with these bytes, by a receipt that stands for this, is taken in
pub data Flushes {K V I : Type 0} (old new : PartitionView K V I) (s : Standing) (bytes : List ℕ) (now : ℕ)
    (result : Result (Unit {0}) Refused) : Type 0 where
  refused : (why : Refused)
      → flush_refusal old.records.log s.page bytes ≡ Some why
      → new ≡ old
      → result ≡ Err why
      → Flushes old new s bytes now result
  unkept : flush_refusal old.records.log s.page bytes ≡ None
      → new ≡ old
      → result ≡ Err NoMemory
      → Flushes old new s bytes now result
  keeps : flush_refusal old.records.log s.page bytes ≡ None
      → new ≡ record old { records = with_receipt old.records s; moment = now }
      → result ≡ Ok tt
      → Flushes old new s bytes now result
