-- When more memory is advised, and how.
use Rattle.std.specs.Prelude.{◌-◌, ◌/◌, ◌&&◌, ◌++◌, [], ℕ, List, Bool, min, nat_lt, not, if◌then◌else◌, codes, decimal}
use Rattle.fkv_requests.specs.declared.requests.Shown.{Shown}
use Rattle.fkv_requests.specs.declared.requests.Shown.TheVariants.{Count, Sum, Max, Summary}
use Rattle.fkv_commands.specs.declared.reporting.RunReport.{RunReport}

-- how many records have room in five eighths of a MiB: one of a summary takes 80 bytes, one of another table at most 64
abbrev pub keys_of_a_mebibyte : Shown → ℕ
keys_of_a_mebibyte Count = 10240
keys_of_a_mebibyte Sum = 10240
keys_of_a_mebibyte Max = 10240
keys_of_a_mebibyte Summary = 8192

-- how many rows read a page back, about: each page that was written is read once for the list of the keys
abbrev pub read_back : ℕ → ℕ → ℕ → ℕ
read_back rows read written = min (read - written) rows

-- more than one row in ten read a page back, and the words do not say how much memory there is
abbrev pub is_advised : Bool → ℕ → ℕ → ℕ → Bool
is_advised sized rows read written = not sized && nat_lt (rows / 10) (read_back rows read written)

-- a line that names so many MiB
abbrev pub advice : ℕ → RunReport → List ℕ
advice size report =
    codes "fkv_cli: "
    ++ (decimal (read_back report.counts.rows report.seen.pages_read report.seen.pages_written)
    ++ (codes " of "
    ++ (decimal report.counts.rows
    ++ (codes " rows read a page back; --memory "
    ++ (decimal size
    ++ codes "M would hold them\n")))))

-- what stands behind a report
abbrev pub advice_text : Bool → ℕ → RunReport → List ℕ
advice_text sized size report =
    if is_advised sized report.counts.rows report.seen.pages_read report.seen.pages_written then advice size report else []
