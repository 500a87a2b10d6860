-- Which refusals a device has to be able to cause.
use Rattle.std.specs.Prelude.{◌≡◌, ◌⊎◌, Bool, true, false, ⊤}
use Rattle.fkv_functions.specs.declared.refusals.Refused.{Refused}
use Rattle.fkv_functions.specs.declared.refusals.Refused.TheVariants.{NoMemory, Worn, NoMerge, Device, Damaged}
use Rattle.fkv_operations.specs.After.{is_merge}
use Rattle.fkv_operations.specs.declared.operations.KeyedOp.{KeyedOp}

-- A DEVICE'S FAULT IS OF A DEVICE THAT CAN FAIL: that a page was not written is told only where a write can fail, and that one was not
-- read, or came back damaged, only where a read can
abbrev pub IsCausedBy : Type 0 → Type 0 → Refused → Type 0
IsCausedBy may_write may_read (Device code page) = ((code ≡ 2) × may_write) ⊎ ((code ≡ 3) × may_read)
IsCausedBy may_write may_read (Damaged page) = may_read
IsCausedBy may_write may_read other = ⊤

-- why an operation is refused where no device fails: for want of memory, or of addresses or moments; or as a merge, of functions
-- that don't merge
abbrev pub IsMemoryRefusal : {K V I : Type 0} → Bool → KeyedOp K V I → Refused → Type 0
IsMemoryRefusal merges op NoMemory = ⊤
IsMemoryRefusal merges op Worn = ⊤
IsMemoryRefusal merges op NoMerge = (is_merge op ≡ true) × (merges ≡ false)
IsMemoryRefusal merges op other = ⊥
