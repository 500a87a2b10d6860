-- Why feeds have no table.
use Rattle.std.specs.Prelude.{◌≡◌, ◌≤◌, ◌+◌, ◌-◌, ◌⊎◌, ◌++◌, ◌∷◌, ℕ, ℤ, List, length, Option, IfSome, slice_set, slice_index}
use Rattle.fkv_functions.specs.declared.names.Name.{Name}
use Rattle.fkv_functions.specs.declared.refusals.Refused.{Refused}
use Rattle.fkv_functions.specs.declared.refusals.Refused.TheVariants.{NoMemory, BadConfig, Worn, BadRow, Unreadable, Device, Damaged}
use Rattle.fkv_streams.specs.Counting.{one_more}
use Rattle.fkv_partition.specs.declared.limits.Config.{Config}
use Rattle.fkv_partition.specs.Limits.{IsWithinLimits}
use Rattle.fkv_feed_rows.specs.Feeds.{IsBadRow, IsTooLong, without_mark}
use Rattle.fkv_feeds.specs.Tables.{AreFeeds, most_rows}

-- a configuration within its limits, for records of this size, and a number of feeds from 1 to 64
pub record IsRunnable (config : Config) (record_size feeds : ℕ) : Type 0 where
  pub limits : IsWithinLimits config record_size
  pub least : 1 ≤ feeds
  pub most : feeds ≤ 64

-- why an update of a row is refused; a device's fault is one that `fault` says
abbrev pub IsRowRefusal : (Refused → Type 0) → Refused → Type 0
IsRowRefusal fault why = (why ≡ NoMemory) ⊎ (why ≡ Worn) ⊎ fault why

-- feed n, counted from 1, is this one, and those before it have rows
pub record IsReached (feeds : List (Option (List ℕ))) (n : ℕ) (here : Option (List ℕ)) : Type 0 where
  pub before : List (Option (List ℕ))
  pub after : List (Option (List ℕ))
  pub whole : feeds ≡ before ++ here ∷ after
  pub number : n ≡ length before + 1
  pub rows : List (Name × ℤ)
  pub good : AreFeeds most_rows before rows

-- the counts of failures after one more of feed n, counted from 1
abbrev pub counted_at : ℕ → List ℕ → List ℕ
counted_at n counts = slice_set counts (n - 1) (one_more (slice_index counts (n - 1)))

-- Why the reading of these feeds was stopped, whose streams had failed so often before, and so often after. A feed is
-- told as unreadable where its stream failed, or where it has a row too many. A device's fault is one that `fault`
-- says.
abbrev pub TellsStopped : (Refused → Type 0) → List (Option (List ℕ)) → List ℕ → List ℕ → Refused → Type 0
TellsStopped fault feeds old new NoMemory = new ≡ old
TellsStopped fault feeds old new Worn = new ≡ old
TellsStopped fault feeds old new (Device code page) = (new ≡ old) × fault (Device code page)
TellsStopped fault feeds old new (Damaged page) = (new ≡ old) × fault (Damaged page)
TellsStopped fault feeds old new (BadRow f n) =
    (new ≡ old)
    × (here : Option (List ℕ))
    × IsReached feeds f here
    × IfSome here (λ b. IsBadRow (without_mark b) n)
TellsStopped fault feeds old new (Unreadable f) =
    (here : Option (List ℕ))
    × IsReached feeds f here
    × ((new ≡ counted_at f old) ⊎ ((new ≡ old) × IfSome here (λ b. IsTooLong most_rows (without_mark b))))
TellsStopped fault feeds old new other = ⊥

-- Why there is no table of them: their reading was stopped, or the run is none that can be.
abbrev pub TellsWhyNone : (Refused → Type 0) → Config → ℕ → List (Option (List ℕ)) → List ℕ → List ℕ → Refused
    → Type 0
TellsWhyNone fault config record_size feeds old new BadConfig =
    (new ≡ old) × ¬ IsRunnable config record_size (length feeds)
TellsWhyNone fault config record_size feeds old new other = TellsStopped fault feeds old new other
