-- Worlds of several partitions: their live map, what their contexts ask, and how open contexts and lives are linked.
use Rattle.std.specs.Prelude.{◌≡◌, ◌≢◌, ℕ, suc, ◌≤◌, ◌<◌, List, Option, Some, None, slice_get, length}
use Rattle.std.specs.declared.cmp.Ordering.{Ordering}
use Rattle.fkv_functions.specs.Meanings.{Meanings}
use Rattle.fkv_functions.specs.Plain.{Same}
use Rattle.fkv_operations.specs.After.{key_of}
use Rattle.fkv_operations.specs.Operations.{keyed}
use Rattle.fkv_operations.specs.declared.operations.KeyedOp.{KeyedOp}
use Rattle.fkv_partition.specs.Views.{partition_of, PartitionView}
use Rattle.fkv_partition.specs.Pending.{Pending, pending}
use Rattle.fkv_partition.specs.Effect.{Asked, asked}
use Rattle.fkv_partition.specs.Unions.{union_of}
use Rattle.fkv_lives.specs.declared.lives.Finish.{Finish}
use Rattle.fkv_lives.specs.declared.lives.Life.{Life}
use Rattle.fkv_lives.specs.declared.steps.ContextId.{ContextId}
use Rattle.fkv_lives.specs.declared.lives.End.TheVariants.{Open}
use Rattle.fkv_lives.specs.Lives.{finish_of, map_before}
use Rattle.fkv_lives.specs.Placed.{IsPlaced}

abbrev pub asked_at : {K V I : Type 0} → Option (PartitionView K V I) → ℕ → ℕ → Option (Asked K V I)
asked_at None slot c = None
asked_at (Some v) slot c = asked v slot c

-- what a context of a world asks
abbrev pub asked_in : {K V I : Type 0} → List (PartitionView K V I) → ContextId → Option (Asked K V I)
asked_in views w = asked_at (slice_get views w.partition) w.slot w.context

-- the open life of what a context asks
pub record IsOpenLife {K V I O : Type 0} (lives : List (Life K V I O)) (j : ℕ) (x : Asked K V I) : Type 0 where
  pub life : Life K V I O
  pub here : slice_get lives j ≡ Some life
  pub op : life.op ≡ x.op
  pub issue : life.issue ≡ x.number
  pub unended : life.end ≡ Open

-- each open context has a life of its own
pub record IsLinked {K V I O : Type 0} (question : ContextId → Option (Asked K V I)) (life_at : ContextId → ℕ)
    (lives : List (Life K V I O)) : Type 0 where
  pub linked : (w : ContextId) (x : Asked K V I) → question w ≡ Some x → IsOpenLife lives (life_at w) x
  pub apart : (w u : ContextId) (x y : Asked K V I)
      → question w ≡ Some x
      → question u ≡ Some y
      → life_at w ≡ life_at u
      → w ≡ u

-- the partitions are numbered by their places, their moments are past, and the key of an open operation, if it has one, is
-- its partition's
pub record IsHoused {K V I : Type 0} (code : K → ℕ) (views : List (PartitionView K V I)) (now : ℕ) : Type 0 where
  pub some : 0 < length views
  pub numbered : (p : ℕ) (v : PartitionView K V I) → slice_get views p ≡ Some v → v.number ≡ p
  pub counted : (p : ℕ) (v : PartitionView K V I) → slice_get views p ≡ Some v → v.count ≡ length views
  pub past : (p : ℕ) (v : PartitionView K V I) → slice_get views p ≡ Some v → v.moment ≤ now
  pub routed : (w : ContextId) (x : Asked K V I) (o : KeyedOp K V I)
      → asked_in views w ≡ Some x
      → keyed x.op ≡ Some o
      → partition_of (length views) (code (key_of o)) ≡ w.partition

-- the look-up of the context at a place of a world, which waits for a page: its moment, and the value that it is to find
abbrev pub pending_at : {K V I : Type 0} → (K → K → Ordering) → Option (PartitionView K V I) → ℕ → ℕ → Option (Pending V)
pending_at cmp None slot c = None
pending_at cmp (Some v) slot c = pending cmp v slot c

abbrev pub pending_in : {K V I : Type 0} → (K → K → Ordering) → List (PartitionView K V I) → ContextId → Option (Pending V)
pending_in cmp views w = pending_at cmp (slice_get views w.partition) w.slot w.context

-- a life whose look-up waits for a page. Its step is held for it: no finished life has its effect there, and what the
-- look-up is to find is what the plain map says of the key there
pub record IsLooking {K V I O : Type 0} (cmp : K → K → Ordering) (f : Meanings K V I O) (lives : List (Life K V I O))
    (j : ℕ) (p : Pending V) (now : ℕ) : Type 0 where
  pub life : Life K V I O
  pub here : slice_get lives j ≡ Some life
  pub op : KeyedOp K V I
  pub is : keyed life.op ≡ Some op
  pub later : life.issue < p.moment
  pub past : p.moment ≤ now
  pub free : (i : ℕ) (y : Life K V I O) (t : Finish O)
      → slice_get lives i ≡ Some y
      → finish_of y ≡ Some t
      → t.effect ≢ p.moment
  pub value : p.value ≡ map_before cmp f lives p.moment (key_of op)

-- each look-up that waits for a page is that of its context's life, at a step of its own
pub record IsHeld {K V I O : Type 0} (cmp : K → K → Ordering) (f : Meanings K V I O) (views : List (PartitionView K V I))
    (life_at : ContextId → ℕ) (lives : List (Life K V I O)) (now : ℕ) : Type 0 where
  pub held : (w : ContextId) (p : Pending V) → pending_in cmp views w ≡ Some p → IsLooking cmp f lives (life_at w) p now
  pub apart : (w u : ContextId) (p q : Pending V)
      → pending_in cmp views w ≡ Some p
      → pending_in cmp views u ≡ Some q
      → p.moment ≡ q.moment
      → w ≡ u

-- what holds of every world: its lives are placed, its live records denote their map, each open context has its life, and
-- the steps of look-ups that wait for a page are held for them
pub record IsWorld {K V I O : Type 0} (cmp : K → K → Ordering) (f : Meanings K V I O) (code : K → ℕ)
    (views : List (PartitionView K V I)) (life_at : ContextId → ℕ) (lives : List (Life K V I O)) (now : ℕ) : Type 0 where
  pub placed : IsPlaced cmp f lives now
  pub denotes : Same (union_of cmp code views) (map_before cmp f lives (suc now))
  pub linked : IsLinked (asked_in views) life_at lives
  pub housed : IsHoused code views now
  pub held : IsHeld cmp f views life_at lives now
