-- The text of a report.
use Rattle.std.specs.Prelude.{◌≡◌, ◌≤◌, ◌*◌, ℕ, Bool, List, Option, None, Some, [], ◌∷◌, ◌++◌, ◌-◌, ◌/◌, ◌%◌, codes, decimal}
use Rattle.fkv_steps.specs.Printing.{line}
use Rattle.fkv_commands.specs.declared.reporting.RunReport.{RunReport}
use Rattle.fkv_requests.specs.declared.requests.Shown.{Shown}
use Rattle.fkv_commands.specs.Advice.{advice_text, keys_of_a_mebibyte}

-- a line that names a number
abbrev pub fact : List ℕ → ℕ → List ℕ
fact name number = line (codes "fkv_cli: " ++ name ++ codes " " ++ decimal number)

-- how many of so many rows appended a record, and how many changed one in place, where that is counted
abbrev pub appended_text : ℕ → Option ℕ → List ℕ
appended_text rows None = []
appended_text rows (Some appended) =
    fact (codes "records appended") appended
    ++ fact (codes "updates in place") (rows - appended)

-- a line of seconds with three digits behind the point, of so many milliseconds
abbrev pub seconds_text : Option ℕ → List ℕ
seconds_text None = []
seconds_text (Some millis) =
    codes "fkv_cli: seconds "
    ++ decimal (millis / 1000)
    ++ codes "."
    ++ decimal (millis % 1000 / 100)
    ++ decimal (millis / 10 % 10)
    ++ decimal (millis % 10)
    ++ 10 ∷ []

-- a line of the memory that the process had at most, in KiB, where that is told
abbrev pub peak_text : Option ℕ → List ℕ
peak_text None = []
peak_text (Some peak) = fact (codes "peak memory in KiB") peak

-- the numbers of a run, a line each
abbrev pub report_text : RunReport → List ℕ
report_text report =
    fact (codes "rows") report.counts.rows
    ++ fact (codes "keys") report.keys
    ++ appended_text report.counts.rows report.counts.appended
    ++ fact (codes "pages written") report.seen.pages_written
    ++ fact (codes "pages read") report.seen.pages_read
    ++ fact (codes "bytes on the device") report.seen.bytes_written
    ++ seconds_text report.millis
    ++ peak_text report.peak

-- what the report of this table tells: its numbers, and where the words name no size, as `sized` says, and more memory is advised,
-- one that has room for the record of each key in three quarters of it
abbrev pub IsTold : Shown → Bool → RunReport → List ℕ → Type 0
IsTold shown sized report text =
    (size : ℕ)
    × (report.keys ≤ size * keys_of_a_mebibyte shown)
    × (text ≡ report_text report ++ advice_text sized size report)
