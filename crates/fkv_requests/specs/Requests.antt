-- What the words of a command line ask for. The first word is the program's name.
use Rattle.std.specs.Prelude.{◌≡◌, ◌≢◌, ◌==◌, ◌⊎◌, ⊤, Bool, true, false, ◌&&◌, ◌||◌, ◌-◌, ◌^◌, ℕ, List, [], ◌∷◌, count_by, find, is_none, length, map, Option, Some, None, codes, nat_lt, option_and_then, option_map, string_bytes, if◌then◌else◌}
use Rattle.std.specs.Str.{bytes_eq}
use Rattle.std.specs.Option.{option_map_or}
use Rattle.std.specs.Str.Parse.{digits_value, without_leading_plus}
use Rattle.clap.specs.Words.{App, IsAmong, Row, Rule, all_of, fault_of, first_of, new_app, new_rule, subcommand_of, with_rule, with_subcommand}
pub use Rattle.clap.specs.Words.{Text}
use Rattle.clap.specs.declared.builder.action.ArgAction.TheVariants.{SetTrue}
use Rattle.clap.specs.declared.builder.value_parser.ValueParser.TheVariants as parser
use Rattle.clap.specs.declared.parser.matches.ValueSource.{ValueSource}
use Rattle.clap.specs.declared.parser.matches.ValueSource.TheVariants.{CommandLine}
use Rattle.clap.specs.declared.error.kind.ErrorKind.{ErrorKind}
use Rattle.clap.specs.declared.error.kind.ErrorKind.TheVariants.{DisplayHelp, DisplayVersion, OutOfMemory}
use Rattle.fkv_partition.specs.declared.limits.Config.{Config}
use Rattle.fkv_feed_rows.specs.Amounts.{is_numeral}
use Rattle.fkv_requests.specs.Memory.{size_of, partition_bits_in, share_of, bucket_bits_in, page_bits_in, frames_in}
use Rattle.fkv_requests.specs.declared.requests.Shown.{Shown}
use Rattle.fkv_requests.specs.declared.requests.Shown.TheVariants.{Count, Sum, Max, Summary}
use Rattle.fkv_requests.specs.declared.requests.TableRequest.{TableRequest}
use Rattle.fkv_requests.specs.declared.requests.Request.{Request}
use Rattle.fkv_requests.specs.declared.requests.Request.TheVariants.{Replay, Table, Help, Version, Mistake}

-- an option that has a number of a range, and the text of that which it has where none is given
abbrev pub number_rule : Text → ℕ → ℕ → Text → Rule
number_rule name least most usual = record (new_rule name) {
  long = Some name;
  parser = Some (parser.Unsigned least most);
  value_names = 1;
  defaults = usual ∷ [];
}

-- an option that has a size
abbrev pub memory_rule : Rule
memory_rule = record (new_rule (codes "memory")) { long = Some (codes "memory"); value_names = 1 }

-- an option that has a path
abbrev pub dir_rule : Rule
dir_rule = record (new_rule (codes "dir")) { long = Some (codes "dir"); value_names = 1 }

-- an option with no value
abbrev pub flag_rule : Text → Rule
flag_rule name = record (new_rule name) { long = Some name; action = Some SetTrue }

-- up to 64 paths
abbrev pub feeds_rule : Rule
feeds_rule = record (new_rule (codes "FEED")) { range = Some (record { start_inclusive = 0; end_inclusive = 64 }) }

-- a subcommand, with where its pages are, and how its rows reach the store
abbrev pub placed_app : Text → App
placed_app name =
    with_rule
    (with_rule
    (with_rule
    (with_rule (with_rule (new_app name) memory_rule) dir_rule)
    (number_rule (codes "workers") 1 14 (codes "1")))
    (flag_rule (codes "merge")))
    (flag_rule (codes "spill"))

-- the same, with what it tells of its work, and what it compares
abbrev pub told_app : App → App
told_app app =
    with_rule
    (with_rule (with_rule app (flag_rule (codes "stats"))) (flag_rule (codes "progress")))
    (flag_rule (codes "audit"))

-- the same, with the numbers of a store
abbrev pub numbered_app : App → App
numbered_app app =
    with_rule
    (with_rule
    (with_rule
    (with_rule app (number_rule (codes "partition-bits") 0 6 (codes "2")))
    (number_rule (codes "bucket-bits") 0 20 (codes "10")))
    (number_rule (codes "page-bits") 8 20 (codes "16")))
    (number_rule (codes "frames") 2 1024 (codes "4"))

-- a subcommand that makes a table
abbrev pub table_app : Text → App
table_app name = with_rule (numbered_app (told_app (placed_app name))) feeds_rule

-- a program that has a version
abbrev pub with_version : App → App
with_version app = record app { top = record app.top { has_version = true } }

-- the program has a version, a subcommand without options, and four that make tables
abbrev pub program : App
program =
    with_subcommand
    (with_subcommand
    (with_subcommand
    (with_subcommand
    (with_subcommand (with_version (new_app (codes "fkv_cli"))) (new_app (codes "replay")).top)
    (table_app (codes "count")).top)
    (table_app (codes "sum")).top)
    (table_app (codes "max")).top)
    (table_app (codes "summary")).top

-- the table that a subcommand makes, if it makes one
abbrev pub table_named : Text → Option Shown
table_named name =
    if bytes_eq name (codes "count") then Some Count
    else if bytes_eq name (codes "sum") then Some Sum
    else if bytes_eq name (codes "max") then Some Max
    else if bytes_eq name (codes "summary") then Some Summary
    else None

abbrev pub table_in : Option (Text × List Row) → Option Shown
table_in None = None
table_in (Some p) = table_named p.0

-- the number that a text writes, where it is below 2^64, and 2^64 - 1 else; clap takes numbers of a range alone
abbrev pub number_of : Option Text → ℕ
number_of None = 2 ^ 64 - 1
number_of (Some text) =
    if is_numeral (without_leading_plus text) && nat_lt (digits_value 10 (without_leading_plus text)) (2 ^ 64)
    then digits_value 10 (without_leading_plus text)
    else 2 ^ 64 - 1

-- whether the words give a value, which is no default then
abbrev pub is_given : Option ValueSource → Bool
is_given (Some CommandLine) = true
is_given other = false

-- where the value of an option comes from
abbrev pub source_of : Text → List Row → Option ValueSource
source_of id rows = option_and_then (λ r. r.source) (find (λ r. bytes_eq r.id id) rows)

-- the number of an option
abbrev pub number_in : Text → List Row → ℕ
number_in id rows = number_of (first_of id rows)

-- the number that the words give an option, or this one in the place of its default
abbrev pub given_or : Text → List Row → ℕ → ℕ
given_or id rows usual = if is_given (source_of id rows) then number_in id rows else usual

-- whether a flag is given, by its text
abbrev pub is_set : Option Text → Bool
is_set None = false
is_set (Some text) = bytes_eq text (codes "true")

-- how many workers read its feeds
abbrev pub workers_of : List Row → ℕ
workers_of rows = number_of (first_of (codes "workers") rows)

-- whether a row is made a merge where it would read a page
abbrev pub merge_of : List Row → Bool
merge_of rows = is_set (first_of (codes "merge") rows)

-- the bits of the number of partitions where no size is named: where no number is given, one worker has the default, and several have
-- 2^6 partitions, so that they seldom want the same one
abbrev pub partition_bits_of : List Row → ℕ
partition_bits_of rows =
    given_or (codes "partition-bits") rows
    (if nat_lt 1 (workers_of rows) then 6 else number_in (codes "partition-bits") rows)

-- the memory that is named, or that none is; none at all where the size can't be read
abbrev pub memory_in : Option Text → Option (Option ℕ)
memory_in None = Some None
memory_in (Some text) = option_map (λ n. Some n) (size_of text)

abbrev pub memory_of : List Row → Option (Option ℕ)
memory_of rows = memory_in (first_of (codes "memory") rows)

-- the configuration of these partitions, by the numbers that are given and, where one is not, by its share of the memory
abbrev pub shared_config : ℕ → ℕ → ℕ → ℕ → List Row → Config
shared_config share partition_bits bucket_bits page_bits rows = record {
  id = 1;
  partition_bits = partition_bits;
  bucket_bits = bucket_bits;
  page_bits = page_bits;
  frames = given_or (codes "frames") rows (frames_in bucket_bits page_bits share);
  turns = 1000000;
}

-- the same of so much memory
abbrev pub sized_config : ℕ → ℕ → List Row → Config
sized_config memory partition_bits rows =
    shared_config (share_of memory partition_bits) partition_bits
    (given_or (codes "bucket-bits") rows (bucket_bits_in (share_of memory partition_bits)))
    (given_or (codes "page-bits") rows (page_bits_in (share_of memory partition_bits) (merge_of rows)))
    rows

-- the configuration that the options of a subcommand say, within so much memory where a size is named
abbrev pub config_of : Option ℕ → List Row → Config
config_of None rows = record {
  id = 1;
  partition_bits = partition_bits_of rows;
  bucket_bits = number_in (codes "bucket-bits") rows;
  page_bits = number_in (codes "page-bits") rows;
  frames = number_in (codes "frames") rows;
  turns = 1000000;
}
config_of (Some memory) rows = sized_config memory (given_or (codes "partition-bits") rows (partition_bits_in memory)) rows

-- the folder that keeps its pages, if one is named
abbrev pub folder_of : List Row → Option Text
folder_of rows = first_of (codes "dir") rows

-- whether its table stands in pages of the folder until it is written
abbrev pub spill_of : List Row → Bool
spill_of rows = is_set (first_of (codes "spill") rows)

-- whether its histories are kept
abbrev pub audit_of : List Row → Bool
audit_of rows = is_set (first_of (codes "audit") rows)

-- whether what it did is told at its end
abbrev pub stats_of : List Row → Bool
stats_of rows = is_set (first_of (codes "stats") rows)

-- whether its rows are told on the way
abbrev pub progress_of : List Row → Bool
progress_of rows = is_set (first_of (codes "progress") rows)

-- whether the words say how much of the store stays in memory
abbrev pub sized_of : List Row → Bool
sized_of rows = is_given (source_of (codes "memory") rows) || is_given (source_of (codes "frames") rows)

-- the paths of its feeds
abbrev pub paths_of : List Row → List Text
paths_of rows = option_map_or (λ values. values) (all_of (codes "FEED") rows) []

-- a folder is named by an empty path
abbrev pub is_nameless : Option Text → Bool
is_nameless None = false
is_nameless (Some path) = length path == 0

-- how many of these paths are standard input
abbrev pub inputs_in : List Text → ℕ
inputs_in paths = count_by (λ path. bytes_eq path (codes "-")) paths

-- clap takes words that name a folder by an empty path, or standard input twice
abbrev pub has_bad_path : List Row → Bool
has_bad_path rows = is_nameless (folder_of rows) || nat_lt 1 (inputs_in (paths_of rows))

-- clap takes words that ask for a table to be spilled, and name no folder for its pages, or ask for histories
abbrev pub has_bad_spill : List Row → Bool
has_bad_spill rows = spill_of rows && (is_none (folder_of rows) || audit_of rows)

-- the options of a table, within so much memory where a size is named
abbrev pub IsTableBy : Option ℕ → List Row → TableRequest → Type 0
IsTableBy memory rows table =
    (table.config ≡ config_of memory rows)
    × (option_map string_bytes table.folder ≡ folder_of rows)
    × (table.workers ≡ workers_of rows)
    × (table.merge ≡ merge_of rows)
    × (table.spill ≡ spill_of rows)
    × (table.audit ≡ audit_of rows)
    × (table.stats ≡ stats_of rows)
    × (table.progress ≡ progress_of rows)
    × (table.sized ≡ sized_of rows)
    × (map string_bytes table.paths.items ≡ paths_of rows)

-- a table is asked for by a subcommand, its options and its feeds
abbrev pub IsTableIn : Option (Text × List Row) → TableRequest → Type 0
IsTableIn None table = ⊥
IsTableIn (Some p) table =
    (table_named p.0 ≡ Some table.shown)
    × (has_bad_path p.1 ≡ false)
    × (has_bad_spill p.1 ≡ false)
    × (memory : Option ℕ)
    × (memory_of p.1 ≡ Some memory)
    × IsTableBy memory p.1 table

-- a table is asked for, and the size of its memory can't be read, or a path is bad, or it can't be spilled as asked
abbrev pub HasBadWords : Option (Text × List Row) → Type 0
HasBadWords None = ⊥
HasBadWords (Some p) =
    (table_named p.0 ≢ None) × ((memory_of p.1 ≡ None) ⊎ (has_bad_path p.1 ≡ true) ⊎ (has_bad_spill p.1 ≡ true))

-- clap finds nothing in the words to refuse, and they name no table: they name the other subcommand or nothing
unfoldable pub AsksReplay : List Text → Type 0
AsksReplay words = (fault_of program words ≡ []) × (table_in (subcommand_of program words) ≡ None)

-- clap finds nothing in the words to refuse, and they name this table
unfoldable pub AsksTable : List Text → TableRequest → Type 0
AsksTable words table = (fault_of program words ≡ []) × IsTableIn (subcommand_of program words) table

-- clap answers the words with help, or, where they are `help` and more, with help or a refusal
unfoldable pub MayAskHelp : List Text → Type 0
MayAskHelp words = IsAmong DisplayHelp (fault_of program words)

-- clap answers the words with the version
unfoldable pub MayAskVersion : List Text → Type 0
MayAskVersion words = IsAmong DisplayVersion (fault_of program words)

-- clap refuses the words, or may refuse them where they are `help` and more; or it takes them, and the size of the memory
-- can't be read, or a path is bad, or the table can't be spilled as asked
unfoldable pub MayBeMistaken : List Text → Type 0
MayBeMistaken words =
    ((kind : ErrorKind)
    × IsAmong kind (fault_of program words)
    × (kind ≢ DisplayHelp)
    × (kind ≢ DisplayVersion))
    ⊎ ((fault_of program words ≡ []) × HasBadWords (subcommand_of program words))

-- what a parse that clap takes asks for
abbrev pub IsAskedIn : Option (Text × List Row) → Request → Type 0
IsAskedIn sub Replay = table_in sub ≡ None
IsAskedIn sub (Table table) = IsTableIn sub table
IsAskedIn sub (Help text) = ⊥
IsAskedIn sub Version = ⊥
IsAskedIn sub (Mistake text) = HasBadWords sub

-- what a parse asks for that clap ends with an error of this kind
abbrev pub IsAskedByKind : ErrorKind → Request → Type 0
IsAskedByKind kind Replay = ⊥
IsAskedByKind kind (Table table) = ⊥
IsAskedByKind kind (Help text) = kind ≡ DisplayHelp
IsAskedByKind kind Version = kind ≡ DisplayVersion
IsAskedByKind kind (Mistake text) = (kind ≢ DisplayHelp) × (kind ≢ DisplayVersion) × (kind ≢ OutOfMemory)

-- it is a mistake that is told
abbrev pub IsMistake : Request → Type 0
IsMistake (Mistake text) = ⊤
IsMistake request = ⊥

-- the words ask for this
abbrev pub IsAskedBy : List Text → Request → Type 0
IsAskedBy words Replay = AsksReplay words
IsAskedBy words (Table table) = AsksTable words table
IsAskedBy words (Help text) = MayAskHelp words
IsAskedBy words Version = MayAskVersion words
IsAskedBy words (Mistake text) = MayBeMistaken words
