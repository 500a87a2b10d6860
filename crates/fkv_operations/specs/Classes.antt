-- The class of a key within its partition: a bucket and a tag, both bits of the key's hash.
use Rattle.std.specs.Prelude.{◌<◌, ◌/◌, ◌%◌, ◌^◌, ◌==◌, ◌&&◌, ℕ, Bool}
use Rattle.fkv_operations.specs.declared.classes.Class.{Class}

-- the class of a hash: its lowest bits are the partition's, the next ones the bucket, and its highest 15 the tag
abbrev pub class_at : ℕ → ℕ → ℕ → Class
class_at partition_bits bucket_bits hash =
    record { bucket = hash / 2 ^ partition_bits % 2 ^ bucket_bits; tag = hash / 2 ^ 49 }

-- a class of an index with 2 ^ bucket_bits buckets
pub record IsClass (bucket_bits : ℕ) (c : Class) : Type 0 where
  pub bucket : c.bucket < 2 ^ bucket_bits
  pub tag : c.tag < 2 ^ 15

-- whether two classes are one
abbrev pub same_class : Class → Class → Bool
same_class c d = (c.bucket == d.bucket) && (c.tag == d.tag)
