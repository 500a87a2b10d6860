-- Look-ups that wait for a page: what each is to find.
use Rattle.std.specs.Prelude.{◌≡◌, ◌≢◌, ◌==◌, ◌⊎◌, ℕ, cond, Option, Some, None}
use Rattle.std.specs.declared.cmp.Ordering.{Ordering}
use Rattle.fkv_texts.specs.Text.{newest, value_of}
use Rattle.fkv_index.specs.Words.{address_of}
use Rattle.fkv_operations.specs.After.{key_of}
use Rattle.fkv_operations.specs.declared.operations.KeyedOp.{KeyedOp}
use Rattle.fkv_lookups.specs.RecordsViews.{RecordsView}
use Rattle.fkv_partition.specs.declared.contexts.Context.{Context}
use Rattle.fkv_partition.specs.declared.contexts.Phase.{Phase}
use Rattle.fkv_partition.specs.declared.contexts.Phase.TheVariants.{Fresh, Confirm, Prepared, Load}
use Rattle.fkv_partition.specs.Views.{PartitionView, context_at}

-- the moment of a look-up, and the value that it is to find, or none
pub record Pending (V : Type 0) : Type 0 where
  pub moment : ℕ
  pub value : Option V

-- of an operation that waits for a page, while Begin stands: the value of the newest record of its key at or below the
-- address where the entry led that it kept
abbrev pub pending_by : {K V I : Type 0} → (K → K → Ordering) → RecordsView K V → KeyedOp K V I → Phase V
    → Option (Pending V)
pending_by cmp r op Fresh = None
pending_by cmp r op (Confirm p) = None
pending_by cmp r op (Prepared e s) = None
pending_by cmp r op (Load l) = cond (l.begin == r.log.begin)
    (Some (record {
      moment = l.looked;
      value = value_of (newest cmp r.text (key_of op) (address_of l.kept.word));
    })) None

abbrev pub pending_of : {K V I : Type 0} → (K → K → Ordering) → RecordsView K V → Option (Context K V I)
    → Option (Pending V)
pending_of cmp r None = None
pending_of cmp r (Some x) = pending_by cmp r x.op x.phase

abbrev pub pending : {K V I : Type 0} → (K → K → Ordering) → PartitionView K V I → ℕ → ℕ → Option (Pending V)
pending cmp v slot c = pending_of cmp v.records (context_at v slot c)

-- what the others are to find stays; and so it does of all
abbrev pub OthersPend : {K V I : Type 0} → (K → K → Ordering) → PartitionView K V I → PartitionView K V I → ℕ → ℕ
    → Type 0
OthersPend cmp old new slot c = (s d : ℕ) → (s ≢ slot) ⊎ (d ≢ c) → pending cmp new s d ≡ pending cmp old s d

abbrev pub AllPend : {K V I : Type 0} → (K → K → Ordering) → PartitionView K V I → PartitionView K V I → Type 0
AllPend cmp old new = (s d : ℕ) → pending cmp new s d ≡ pending cmp old s d
