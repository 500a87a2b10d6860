-- What is open, by session and context.
use Rattle.std.specs.Prelude.{Bool, cond, ◌&&◌, ◌+◌, ◌*◌, ℕ, List, Option, Some, None, nat_lt, slice_get, is_some}
use Rattle.std.specs.Option.{option_flatten}
use Rattle.fkv_functions.specs.declared.asks.Ask.{Ask}
use Rattle.fkv_index.specs.declared.words.Place.{Place}
use Rattle.fkv_operations.specs.declared.entries.IndexEntry.{IndexEntry}
use Rattle.fkv_operations.specs.declared.operations.KeyedOp.{KeyedOp}
use Rattle.fkv_operations.specs.declared.operations.KeyedOp.TheVariants.{Read, Upsert, Rmw, Delete, Merge}
use Rattle.fkv_partition.specs.declared.contexts.Context.{Context}
use Rattle.fkv_partition.specs.declared.contexts.OpenWork.{OpenWork}
use Rattle.fkv_partition.specs.declared.contexts.OpenWork.TheVariants.{OnKey, Relocating}
use Rattle.fkv_partition.specs.declared.relocations.Relocation.{Relocation}
use Rattle.fkv_partition.specs.declared.contexts.Phase.{Phase}
use Rattle.fkv_partition.specs.declared.contexts.Phase.TheVariants.{Fresh, Confirm, Prepared, Load}
use Rattle.fkv_partition.specs.declared.contexts.Loading.{Loading}

-- what stands at a place of a list of places
abbrev pub joined : {A : Type 0} → Option (Option A) → Option A
joined None = None
joined (Some x) = x

-- whether a session is entered at a slot: the slots with their epochs
abbrev pub is_session : List (Option ℕ) → ℕ → Bool
is_session slots slot = is_some (option_flatten (slice_get slots slot))

-- what stands in a context of an entered session
abbrev pub context_in : {A : Type 0} → List (Option ℕ) → List (Option A) → ℕ → ℕ → Option A
context_in slots contexts slot c =
    cond (is_session slots slot && nat_lt c 8) (joined (slice_get contexts (slot * 8 + c))) None

-- of what is open in a context: the operation on a key, if it is one, and the relocation, if it is one
abbrev pub on_key : {K V I : Type 0} → Option (OpenWork K V I) → Option (Context K V I)
on_key None = None
on_key (Some (OnKey x)) = Some x
on_key (Some (Relocating x)) = None

abbrev pub relocating : {K V I : Type 0} → Option (OpenWork K V I) → Option (Relocation K V)
relocating None = None
relocating (Some (OnKey x)) = None
relocating (Some (Relocating x)) = Some x

-- an operation in another phase
abbrev pub at_phase : {K V I : Type 0} → Context K V I → Phase V → Context K V I
at_phase x phase = record { number = x.number; op = x.op; phase = phase }

-- the entry that a prepared update kept, and what it asks
abbrev pub question_by : {K V I : Type 0} → ℕ → KeyedOp K V I → Phase V → Option (IndexEntry × Ask K V I)
question_by n op Fresh = None
question_by n op (Confirm p) = None
question_by n op (Load l) = None
question_by n (Read k i) (Prepared e s) = None
question_by n (Upsert k v) (Prepared e s) = None
question_by n (Delete k) (Prepared e s) = None
question_by n (Merge k i) (Prepared e s) = None
question_by n (Rmw k i) (Prepared e s) = Some (e, record { number = n; key = k; source = s; input = i })

abbrev pub question_in : {K V I : Type 0} → Context K V I → Option (IndexEntry × Ask K V I)
question_in x = question_by x.number x.op x.phase

-- the place of the tentative entry that an operation made, and waits to confirm
abbrev pub claim_by : {V : Type 0} → Phase V → Option Place
claim_by Fresh = None
claim_by (Confirm p) = Some p
claim_by (Prepared e s) = None
claim_by (Load l) = None

-- the look-up that goes on in a page which an operation waits for
abbrev pub loading_by : {V : Type 0} → Phase V → Option (Loading V)
loading_by Fresh = None
loading_by (Confirm p) = None
loading_by (Prepared e s) = None
loading_by (Load l) = Some l

-- the same of an open operation, if there is one
abbrev pub loading_of : {K V I : Type 0} → Option (Context K V I) → Option (Loading V)
loading_of None = None
loading_of (Some x) = loading_by x.phase

abbrev pub claim_of : {K V I : Type 0} → Option (OpenWork K V I) → Option Place
claim_of None = None
claim_of (Some (OnKey x)) = claim_by x.phase
claim_of (Some (Relocating x)) = None

-- the same of what stands at a place of a list of places
abbrev pub claim_at : {K V I : Type 0} → List (Option (OpenWork K V I)) → ℕ → Option Place
claim_at contexts p = claim_of (joined (slice_get contexts p))
