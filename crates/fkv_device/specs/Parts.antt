-- The names of partitions' files.
use Rattle.std.specs.Prelude.{◌++◌, ℕ, List, codes, if◌then◌else◌, nat_lt}
use Rattle.std.specs.Fmt.{decimal}

-- the name of a partition's file: its number has two digits at least
abbrev pub part_name : ℕ → List ℕ
part_name n = if nat_lt n 10 then codes "part-0" ++ decimal n ++ codes ".log" else codes "part-" ++ decimal n ++ codes ".log"
