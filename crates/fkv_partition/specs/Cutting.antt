-- What `truncate` does: a rule for each case.
use Rattle.std.specs.Prelude.{◌≡◌, Bool, ℕ, Result, Ok, Err}
use Rattle.fkv_functions.specs.declared.refusals.Refused.{Refused}
use Rattle.fkv_functions.specs.declared.refusals.Refused.TheVariants.{NotDue}
use Rattle.fkv_records.specs.Places.{start_at}
use Rattle.fkv_lookups.specs.RecordsViews.{truncated}
use Rattle.fkv_hybrid.specs.Views.{IsTruncationDue}
use Rattle.fkv_partition.specs.Views.{PartitionView}

-- Begin moves up to a page's start: the records below are dropped, and the entries that lead there
pub data Truncates {K V I : Type 0} (keeps : Bool) (old new : PartitionView K V I) (page now : ℕ)
    (result : Result (Unit {0}) Refused) : Type 0 where
  not_due : ¬ IsTruncationDue old.records.log page
      → new ≡ old
      → result ≡ Err NotDue
      → Truncates keeps old new page now result
  truncates : IsTruncationDue old.records.log page
      → new ≡ record old {
        records = truncated keeps old.records (start_at old.records.log.bits page) new.records.text;
        moment = now;
      }
      → result ≡ Ok tt
      → Truncates keeps old new page now result
