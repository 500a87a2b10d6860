-- A store of counts is refused as one of whole numbers.
use Rattle.std.specs.Prelude.{◌≡◌, ℕ, ℤ, true}
use Rattle.fkv_functions.specs.declared.names.Name.{Name}
use Rattle.fkv_operations.specs.declared.operations.KeyedOp.{KeyedOp}
use Rattle.fkv_c.specs.Counting.{whole_op}
use Rattle.fkv_c.specs.Stores.{Stored, name_code, IsUnmadeBy, IsUncounted}
use Rattle.fkv_c.specs.Leading.{IsRefusedBy, IsWorkFault}
use Rattle.fkv_c.specs.declared.faults.Fault.{Fault}

pub uncounted : {fits : Type 0} (old new : Stored ℕ) (n : KeyedOp Name ℕ ℤ) (op : KeyedOp Name ℤ ℤ) (why : Fault) → whole_op n ≡ op
    → fits → IsRefusedBy (IsUnmadeBy true name_code old new n) why → IsWorkFault fits (IsUncounted old new op) why
uncounted old new n op why e f h = IsWorkFault.store_refuses f (record {
  refused = h.refused;
  is = h.is;
  by = record { count = n; same = e; unmade = h.by };
})
