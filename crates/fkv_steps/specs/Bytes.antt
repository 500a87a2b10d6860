-- What the pages of a script's store hold: records of names, on a device in memory.
use Rattle.std.specs.Prelude.{ℕ, List, [], length}
use Rattle.fkv_functions.specs.Codecs.{Codec}
use Rattle.fkv_functions.specs.Names.{name_codec}
use Rattle.fkv_functions.specs.declared.names.Name.{Name}
use Rattle.fkv_texts.specs.declared.entries.Entry.{Entry}
use Rattle.fkv_device.specs.Standing.{Standing}
use Rattle.fkv_device.specs.declared.memory.MemoryReceipt.{MemoryReceipt}
use Rattle.fkv_hybrid.specs.Spelled.{IsEntryIn}

-- what a receipt of the device in memory stands for: the page that it shares
abbrev pub standing_of : MemoryReceipt → Standing
standing_of r = record {
  number = r.number;
  page = r.page;
  length = length r.bytes;
  bytes = r.bytes;
  mark = [];
}

-- the bytes of a page spell this entry of a name at an address, where values are written so
abbrev pub IsNamedEntry : {V : Type 0} {size : ℕ} → Codec V size → ℕ → List ℕ → ℕ → Entry Name V → Type 0
IsNamedEntry value = IsEntryIn name_codec value
