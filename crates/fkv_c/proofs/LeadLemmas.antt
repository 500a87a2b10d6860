-- What holds of what a handle led to, and leads to, holds of the handle.
use Rattle.std.specs.Prelude.{◌≡◌, ℕ, ℤ, List, Option, Some}
use Rattle.std.proofs.Common.{sym, ap, ◌∙◌, subst}
use Rattle.fkv_functions.specs.declared.names.Name.{Name}
use Rattle.fkv_functions.specs.Names.{text_of, name_at_once}
use Rattle.fkv_operations.specs.declared.operations.KeyedOp.{KeyedOp}
use Rattle.fkv_c.specs.declared.handles.Held.{Held}

-- what relates what a handle led to with what it leads to relates the handles
pub led : (P : Option Held → Option Held → Type 0) (old new : Option Held) (x a b : Held) → old ≡ Some x → a ≡ x → new ≡ Some b
    → P (Some a) (Some b) → P old new
led P old new x a b e f g h =
    subst (λ o. P o new) (ap Some f ∙ sym e) (subst (λ n. P (Some a) n) (sym g) h)

-- what holds of the operation on a key holds of that on each key of the same bytes
pub keyed : {V : Type 0} (P : KeyedOp Name V ℤ → Type 0) (op : Name → KeyedOp Name V ℤ) (bytes : List ℕ) (key : Name) → text_of key ≡ bytes
    → P (op key) → (k : Name) → text_of k ≡ bytes → P (op k)
keyed P op bytes key e h k f = subst (λ n. P (op n)) (name_at_once key k (e ∙ sym f)) h
