-- The limits of a configuration.
use Rattle.std.specs.Prelude.{◌≤◌, ◌<◌, ◌^◌, ℕ}
use Rattle.fkv_partition.specs.declared.limits.Config.{Config}

-- the numbers of a configuration, for records of this size
pub record IsWithinLimits (c : Config) (record_size : ℕ) : Type 0 where
  pub partition_bits : c.partition_bits ≤ 6
  pub bucket_bits : c.bucket_bits ≤ 20
  pub page_bits_least : 8 ≤ c.page_bits
  pub page_bits_most : c.page_bits ≤ 20
  pub frames_least : 2 ≤ c.frames
  pub frames_most : c.frames ≤ 1024
  pub turns_least : 1 ≤ c.turns
  pub turns_most : c.turns ≤ 1000000000
  pub record_size_most : record_size ≤ 192

-- a partition of this number is one of the configuration
pub record IsPartitionOf (c : Config) (record_size number : ℕ) : Type 0 where
  pub limits : IsWithinLimits c record_size
  pub below : number < 2 ^ c.partition_bits
