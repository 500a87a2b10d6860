-- What a call's status says.
use Rattle.std.specs.Prelude.{ℕ}
use Rattle.fkv_functions.specs.declared.refusals.Refused.{Refused}
use Rattle.fkv_functions.specs.declared.refusals.Refused.TheVariants.{NoMemory, BadConfig, NoSlot, NoContext, Unknown}
use Rattle.fkv_functions.specs.declared.refusals.Refused.TheVariants.{Busy, NotDue, DrainFull, Stranger, Worn, Device}
use Rattle.fkv_functions.specs.declared.refusals.Refused.TheVariants.{Damaged, Stalled, Mismatch, BadRow, BadScript}
use Rattle.fkv_functions.specs.declared.refusals.Refused.TheVariants.{NotReady, Unreadable, Unwritable, NoMerge}
use Rattle.fkv_c.specs.declared.faults.Fault.{Fault}
use Rattle.fkv_c.specs.declared.faults.Fault.TheVariants as fault

-- the number of a refusal: its place among them, from 1
abbrev pub refusal_number : Refused → ℕ
refusal_number NoMemory = 1
refusal_number BadConfig = 2
refusal_number NoSlot = 3
refusal_number NoContext = 4
refusal_number Unknown = 5
refusal_number Busy = 6
refusal_number NotDue = 7
refusal_number DrainFull = 8
refusal_number (Stranger what held came) = 9
refusal_number Worn = 10
refusal_number (Device code page) = 11
refusal_number (Damaged page) = 12
refusal_number Stalled = 13
refusal_number Mismatch = 14
refusal_number (BadRow feed row) = 15
refusal_number (BadScript line) = 16
refusal_number NotReady = 17
refusal_number (Unreadable number) = 18
refusal_number Unwritable = 19
refusal_number NoMerge = 20

-- the status that tells why a call has done nothing; 0 is that it is done
abbrev pub fault_number : Fault → ℕ
fault_number (fault.Refused why) = refusal_number why
fault_number fault.Closed = 32
fault_number fault.InUse = 33
fault_number fault.NotAStore = 34
fault_number fault.NotACursor = 35
fault_number fault.BadKey = 36
fault_number fault.BadKind = 37
fault_number fault.OutOfRange = 40
fault_number fault.NotNumbers = 41
fault_number fault.NotCells = 42
