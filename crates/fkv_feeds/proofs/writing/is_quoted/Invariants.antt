use Rattle.std.proofs.Common.{◌≡◌, false, take}
use Rattle.std.specs.List.{list_any}
use Rattle.csv.specs.Quoting.{needs_byte}
use Rattle.csv.specs.Writing.{default_writer}
use Rattle.fkv_feeds.proofs.writing.is_quoted.Given as goal

-- no byte so far calls for quotes
abbrev pub invariant-loop-byte : goal.invariant-loop-byte
invariant-loop-byte l = list_any (needs_byte default_writer) (take l.byte-index l.field) ≡ false
