-- Records as bytes: a header, the key's bytes, the value's bytes, and zeros up to a multiple of 8.
use Rattle.std.specs.Prelude.{◌≡◌, ◌+◌, ◌*◌, ◌/◌, ◌-◌, ◌^◌, ◌<◌, ◌≤◌, ◌⊎◌, ℕ, List, ◌++◌, Option, None, Some, IfSome}
use Rattle.std.specs.Prelude.{is_none, IsSome, IsTrue, replicate, slice_range, take, drop}
use Rattle.fkv_functions.specs.Codecs.{Codec}
use Rattle.fkv_records.specs.Headers.{header_bytes}
use Rattle.fkv_records.specs.declared.records.Record.{Record}

-- how many bytes a record takes, with keys and values of these sizes
abbrev pub size_of : ℕ → ℕ → ℕ
size_of ksize vsize = (15 + ksize + vsize) / 8 * 8

-- how many zeros end it
abbrev pub padding_of : ℕ → ℕ → ℕ
padding_of ksize vsize = size_of ksize vsize - (8 + ksize + vsize)

-- the four parts of a record's bytes
abbrev pub header_part : List ℕ → List ℕ
header_part bytes = take 8 bytes

abbrev pub key_part : ℕ → List ℕ → List ℕ
key_part ksize bytes = slice_range bytes 8 (8 + ksize)

abbrev pub value_part : ℕ → ℕ → List ℕ → List ℕ
value_part ksize vsize bytes = slice_range bytes (8 + ksize) (8 + ksize + vsize)

abbrev pub padding_part : ℕ → ℕ → List ℕ → List ℕ
padding_part ksize vsize bytes = drop (8 + ksize + vsize) bytes

-- the bytes with these in the value's place
abbrev pub with_value_part : ℕ → ℕ → List ℕ → List ℕ → List ℕ
with_value_part ksize vsize bytes middle = take (8 + ksize) bytes ++ (middle ++ drop (8 + ksize + vsize) bytes)

-- the bytes are those of the record; where it is a tombstone, the value's bytes may be any
pub record Spells {K V : Type 0} {ksize vsize : ℕ} (key : Codec K ksize) (value : Codec V vsize)
    (bytes : List ℕ) (r : Record K V) : Type 0 where
  pub header : header_part bytes ≡ header_bytes r.previous (is_none r.value) r.delta
  pub key_same : key_part ksize bytes ≡ key.bytes_of r.key
  pub value_same : IfSome r.value (λ v. value_part ksize vsize bytes ≡ value.bytes_of v)
  pub padding : padding_part ksize vsize bytes ≡ replicate (padding_of ksize vsize) 0

-- the previous address of a record at an address: 1, or that of an earlier record
abbrev pub IsPrevious : ℕ → ℕ → Type 0
IsPrevious address previous = (previous ≡ 1) ⊎ ((64 ≤ previous) × (previous < address))

-- a record that may stand at this address: its previous one fits the header (as it does where the address does), and a
-- delta has a value
pub record IsRecord {K V : Type 0} {ksize vsize : ℕ} (key : Codec K ksize) (value : Codec V vsize)
    (address : ℕ) (r : Record K V) : Type 0 where
  pub previous : IsPrevious address r.previous
  pub fits : r.previous < 2 ^ 48
  pub key_known : key.is_known r.key
  pub value_known : IfSome r.value value.is_known
  pub whole : IsTrue r.delta → IsSome r.value

-- the bytes of a value, or zeros for a tombstone
abbrev pub value_bytes : {V : Type 0} {vsize : ℕ} → Codec V vsize → Option V → List ℕ
value_bytes {V} {vsize} value None = replicate vsize 0
value_bytes value (Some v) = value.bytes_of v

-- the bytes of a record with these bytes in its value's place
abbrev pub spelling : {K V : Type 0} {ksize : ℕ} → Codec K ksize → ℕ → Record K V → List ℕ → List ℕ
spelling {K} {V} {ksize} key vsize r middle =
    header_bytes r.previous (is_none r.value) r.delta ++ key.bytes_of r.key ++ middle ++ replicate (padding_of ksize vsize) 0

-- the bytes that are written for a record
abbrev pub record_bytes : {K V : Type 0} {ksize vsize : ℕ} → Codec K ksize → Codec V vsize → Record K V → List ℕ
record_bytes {K} {V} {ksize} {vsize} key value r = spelling key vsize r (value_bytes value r.value)
