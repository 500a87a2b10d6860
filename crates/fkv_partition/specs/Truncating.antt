-- When the log's start may be cut, and what that does.
use Rattle.std.specs.Prelude.{◌≡◌, ◌≤◌, ℕ, Bool, Result, Ok, Err}
use Rattle.fkv_functions.specs.declared.refusals.Refused.{Refused}
use Rattle.fkv_functions.specs.declared.refusals.Refused.TheVariants.{NotDue}
use Rattle.fkv_records.specs.Places.{start_at}
use Rattle.fkv_lookups.specs.RecordsViews.{truncated}
use Rattle.fkv_hybrid.specs.Views.{IsTruncationDue}
use Rattle.fkv_partition.specs.Views.{PartitionView}

-- Begin may move to the start of a page where it rises, no higher than Head, and nothing above is dropped that is not
-- cleared
pub record IsDue {K V I : Type 0} (v : PartitionView K V I) (page : ℕ) : Type 0 where
  pub due : IsTruncationDue v.records.log page
  pub cleared : start_at v.records.log.bits page ≤ v.cleared

pub data Truncates {K V I : Type 0} (keeps : Bool) (old new : PartitionView K V I) (page now : ℕ)
    (result : Result (Unit {0}) Refused) : Type 0 where
  not_due : ¬ IsDue old page → new ≡ old → result ≡ Err NotDue → Truncates keeps old new page now result
  truncates : IsDue old page
      → new ≡ record old {
        records = truncated keeps old.records (start_at old.records.log.bits page) new.records.text;
        moment = now;
      }
      → result ≡ Ok tt
      → Truncates keeps old new page now result

-- what is told of it, without the address that it answers
abbrev pub told_of : {A : Type 0} → Result A Refused → Result (Unit {0}) Refused
told_of (Ok begin) = Ok tt
told_of (Err e) = Err e
