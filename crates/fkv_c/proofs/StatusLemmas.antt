-- The statuses that tell faults.
use Rattle.std.specs.Prelude.{◌≡◌, ◌⊎◌, ℕ, Option, Some, None}
use Rattle.std.proofs.Common.{sym, ap, subst, inl, inr}
use Rattle.fkv_functions.specs.declared.refusals.Refused.{Refused}
use Rattle.fkv_c.specs.Statuses.{fault_number}
use Rattle.fkv_c.specs.Leading.{Kind, Shut, Store, CellStore, Cursor, CellCursor, IsRefusedBy, IsRefusalStatus}
use Rattle.fkv_c.specs.Leading.{IsStoreFault, IsStoreStatus, IsWorkFault, IsWorkStatus, IsNumberFault, IsStatus}
use Rattle.fkv_c.specs.Leading.{IsCellFault, IsCellStatus, IsListFault, IsListStatus}
use Rattle.fkv_c.specs.declared.handles.Held.{Held}
use Rattle.fkv_c.specs.declared.faults.Fault.{Fault}

refusal_told : (refuses : Refused → Type 0) (why : Fault) → IsRefusedBy refuses why → IsRefusalStatus refuses (fault_number why)
refusal_told refuses why h = record { refused = h.refused; is = ap fault_number h.is; by = h.by }

-- of a call that wants a store
store_told : (kind : Kind) (refuses : Refused → Type 0) (why : Fault) → IsStoreFault kind refuses why
    → IsStoreStatus kind refuses (fault_number why)
store_told Shut refuses why h = ap fault_number h
store_told Store refuses why h = inr (refusal_told refuses why h)
store_told CellStore refuses why h = inr (refusal_told refuses why h)
store_told Cursor refuses why h = ap fault_number h
store_told CellCursor refuses why h = ap fault_number h

-- of an operation on numbers
work_told : (fits : Type 0) (refuses : Refused → Type 0) (why : Fault) → IsWorkFault fits refuses why
    → IsWorkStatus fits refuses (fault_number why)
work_told fits refuses why (IsWorkFault.unfit e n) = IsWorkStatus.is_unfit (ap fault_number e) n
work_told fits refuses why (IsWorkFault.store_refuses f h) = IsWorkStatus.is_refused f (refusal_told refuses why h)

number_told : (kind : Kind) (fits : Type 0) (refuses : Refused → Type 0) (why : Fault) → IsNumberFault kind fits refuses why
    → IsStatus kind fits refuses (fault_number why)
number_told Shut fits refuses why h = ap fault_number h
number_told Store fits refuses why h = work_told fits refuses why h
number_told CellStore fits refuses why h = ap fault_number h
number_told Cursor fits refuses why h = ap fault_number h
number_told CellCursor fits refuses why h = ap fault_number h

pub number_fault : (kind : Kind) (fits : Type 0) (refuses : Refused → Type 0) (why : Fault) (status : ℕ)
    → status ≡ fault_number why → IsNumberFault kind fits refuses why → IsStatus kind fits refuses status
number_fault kind fits refuses why status e h = subst (IsStatus kind fits refuses) (sym e) (number_told kind fits refuses why h)

-- of one on cells
cell_told : (kind : Kind) (refuses : Refused → Type 0) (why : Fault) → IsCellFault kind refuses why
    → IsCellStatus kind refuses (fault_number why)
cell_told Shut refuses why h = ap fault_number h
cell_told Store refuses why h = ap fault_number h
cell_told CellStore refuses why h = inr (refusal_told refuses why h)
cell_told Cursor refuses why h = ap fault_number h
cell_told CellCursor refuses why h = ap fault_number h

pub cell_fault : (kind : Kind) (refuses : Refused → Type 0) (why : Fault) (status : ℕ) → status ≡ fault_number why
    → IsCellFault kind refuses why → IsCellStatus kind refuses status
cell_fault kind refuses why status e h = subst (IsCellStatus kind refuses) (sym e) (cell_told kind refuses why h)

-- of a list
list_told : (was : Option Held) (kind : Kind) (refuses : Refused → Type 0) (why : Fault) → IsListFault was kind refuses why
    → IsListStatus was kind refuses (fault_number why)
list_told None kind refuses why h = store_told kind refuses why h
list_told (Some x) kind refuses why h = ap fault_number h

pub list_fault : (was : Option Held) (kind : Kind) (refuses : Refused → Type 0) (why : Fault) (status : ℕ) → status ≡ fault_number why
    → IsListFault was kind refuses why → IsListStatus was kind refuses status
list_fault was kind refuses why status e h = subst (IsListStatus was kind refuses) (sym e) (list_told was kind refuses why h)
