-- The names of refusals, as scripts print them.
use Rattle.std.specs.Prelude.{ℕ, List, codes}
use Rattle.fkv_functions.specs.declared.refusals.Refused.{Refused}
use Rattle.fkv_functions.specs.declared.refusals.Refused.TheVariants.{NoMemory, BadConfig, NoSlot, NoContext, Unknown}
use Rattle.fkv_functions.specs.declared.refusals.Refused.TheVariants.{Busy, NotDue, DrainFull, Stranger, Worn, Device}
use Rattle.fkv_functions.specs.declared.refusals.Refused.TheVariants.{Damaged, Stalled, Mismatch, BadRow, BadScript}
use Rattle.fkv_functions.specs.declared.refusals.Refused.TheVariants.{NotReady, Unreadable, Unwritable, NoMerge}

abbrev pub name_of : Refused → List ℕ
name_of NoMemory = codes "NoMemory"
name_of BadConfig = codes "BadConfig"
name_of NoSlot = codes "NoSlot"
name_of NoContext = codes "NoContext"
name_of Unknown = codes "Unknown"
name_of Busy = codes "Busy"
name_of NotDue = codes "NotDue"
name_of DrainFull = codes "DrainFull"
name_of (Stranger what held came) = codes "Stranger"
name_of Worn = codes "Worn"
name_of (Device code page) = codes "Device"
name_of (Damaged page) = codes "Damaged"
name_of Stalled = codes "Stalled"
name_of Mismatch = codes "Mismatch"
name_of (BadRow feed row) = codes "BadRow"
name_of (BadScript line) = codes "BadScript"
name_of NotReady = codes "NotReady"
name_of (Unreadable number) = codes "Unreadable"
name_of Unwritable = codes "Unwritable"
name_of NoMerge = codes "NoMerge"
