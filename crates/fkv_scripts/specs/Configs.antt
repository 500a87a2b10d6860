-- The store that a first line names.
use Rattle.fkv_partition.specs.declared.limits.Config.{Config}
use Rattle.fkv_scripts.specs.declared.lines.Opening.{Opening}

-- the configuration that a first line names; its id is 1, and its turns are 1,000,000
abbrev pub config_of : Opening → Config
config_of o = record {
  id = 1;
  partition_bits = o.partition_bits;
  bucket_bits = o.bucket_bits;
  page_bits = o.page_bits;
  frames = o.frames;
  turns = 1000000;
}
