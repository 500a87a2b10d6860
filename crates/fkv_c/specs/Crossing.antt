-- What crosses between C and the store: numbers by their halves, and answers by a kind and a number.
use Rattle.std.specs.Prelude.{◌+◌, ◌*◌, ◌/◌, ◌%◌, ◌^◌, ◌-◌, ◌++◌, ℕ, ℤ, pos, length, replicate, Option, Some, None}
use Rattle.std.specs.Int.{w64, w128, cast_unsigned, cast_signed}
use Rattle.fkv_functions.specs.declared.names.Name.{Name}
use Rattle.fkv_functions.specs.Names.{text_of}
use Rattle.fkv_operations.specs.declared.operations.Answer.{Answer}
use Rattle.fkv_operations.specs.declared.operations.Answer.TheVariants.{Value, Absent, Stored, Deleted, Cleared, Declined}
use Rattle.fkv_partition.specs.declared.limits.Config.{Config}
use Rattle.fkv_c.specs.declared.numbers.Number.{Number}
use Rattle.fkv_c.specs.declared.numbers.Told.{Told}
use Rattle.fkv_c.specs.declared.numbers.Pair.{Pair}
use Rattle.fkv_c.specs.declared.numbers.Settings.{Settings}

-- the halves of a number
abbrev pub number_of : ℤ → Number
number_of z = record {
  low = cast_unsigned w128 z % 2 ^ 64;
  high = cast_signed w64 (cast_unsigned w128 z / 2 ^ 64);
}

-- the number of these halves
abbrev pub value_of : Number → ℤ
value_of n = cast_signed w128 (n.low + cast_unsigned w64 n.high * 2 ^ 64)

-- an answer of this kind that has no value
abbrev pub nothing_of : ℕ → Told
nothing_of kind = record { kind = kind; value = record { low = 0; high = pos 0 } }

-- what tells an answer; no operation on a key is answered by Cleared
abbrev pub answer_of : Answer ℤ → Told
answer_of (Value z) = record { kind = 0; value = number_of z }
answer_of Absent = nothing_of 1
answer_of Stored = nothing_of 2
answer_of Deleted = nothing_of 3
answer_of Declined = nothing_of 4
answer_of Cleared = nothing_of 5

-- the configuration of these numbers
abbrev pub config_of : Settings → Config
config_of s = record {
  id = s.id;
  partition_bits = s.partition_bits;
  bucket_bits = s.bucket_bits;
  page_bits = s.page_bits;
  frames = s.frames;
  turns = s.turns;
}

-- what tells a key and its value, or that there is none
abbrev pub pair_of : Option (Name × ℤ) → Pair
pair_of None = record { is_some = 0; length = 0; key = replicate 32 0; value = record { low = 0; high = pos 0 } }
pair_of (Some p) = record {
  is_some = 1;
  length = length (text_of p.0);
  key = text_of p.0 ++ replicate (32 - length (text_of p.0)) 0;
  value = number_of p.1;
}
