-- What a record carries that is written: a value, none, or a part of a value.
use Rattle.std.specs.Prelude.{Bool, true, false, Option, Some}
use Rattle.fkv_texts.specs.Deltas.{combined}
use Rattle.fkv_lookups.specs.declared.payloads.Payload.{Payload}
use Rattle.fkv_lookups.specs.declared.payloads.Payload.TheVariants.{Whole, Part}

-- what the record has: the value or part, or none for a tombstone
abbrev pub value_in : {V : Type 0} → Payload V → Option V
value_in (Whole o) = o
value_in (Part p) = Some p

-- whether it is a delta
abbrev pub is_part : {V : Type 0} → Payload V → Bool
is_part (Whole o) = false
is_part (Part p) = true

-- what the key has once the record stands, from what it had: the value, or what it had with the part joined
abbrev pub standing : {V : Type 0} → (V → V → V) → Option V → Payload V → Option V
standing join held (Whole o) = o
standing join held (Part p) = combined join held (Some p)
