-- What rows leave of the store of a run as it is.
use Rattle.std.specs.Prelude.{Bool, cond, List, Option, Some, None, ◌&&◌}
use Rattle.fkv_partition.specs.declared.limits.Config.{Config}
use Rattle.fkv_local.specs.Storing.{StoreView}
use Rattle.fkv_feeds.specs.declared.counting.RowMode.{RowMode}
use Rattle.fkv_feeds.specs.declared.counting.RowMode.TheVariants as mode

-- the configuration, how rows are made updates, whether logs are kept, and the readers that no row uses
pub record KeptOf (P : Type 0) : Type 0 where
  pub config : Config
  pub mode : RowMode
  pub keeps_log : Bool
  pub unread : Option (List P)

-- rows that are made merges, of functions that merge, read no page of logs that are kept
abbrev pub unread_in : {P : Type 0} → Bool → RowMode → List P → Option (List P)
unread_in merges mode.Update readers = None
unread_in merges mode.Merge readers = cond merges (Some readers) None

abbrev pub kept_of : {K V I W P : Type 0} → Bool → RowMode → StoreView K V I W P → KeptOf P
kept_of merges mode s = record {
  config = s.config;
  mode = mode;
  keeps_log = s.keeps_log;
  unread = unread_in (merges && s.keeps_log) mode s.readers;
}
