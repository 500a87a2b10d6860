-- What a contract sees of a pass, and what an operation that it runs adds.
use Rattle.std.specs.Prelude.{◌≡◌, ◌≢◌, ◌+◌, ◌<◌, ◌≤◌, max, ◌⊎◌, ℕ, Bool, true, List, [], ◌∷◌, ◌++◌, Option, Some, length, slice_set, slice_index, slice_index_or}
use Rattle.fkv_functions.specs.declared.refusals.Refused.{Refused}
use Rattle.fkv_functions.specs.declared.refusals.Refused.TheVariants.{Stranger}
use Rattle.fkv_functions.specs.declared.refusals.What.TheVariants as what
use Rattle.fkv_operations.specs.declared.operations.KeyedOp.{KeyedOp}
use Rattle.fkv_operations.specs.declared.operations.KeyedOp.TheVariants.{Rmw, Merge}
use Rattle.fkv_operations.specs.declared.operations.Answer.{Answer}
use Rattle.fkv_histories.specs.declared.entries.Entry.{Entry}
use Rattle.fkv_locked.specs.Owns.{told_after}
use Rattle.fkv_store.specs.Stores.{StoreView}

-- the number of its store; for each partition its own list, and of how many updates it was told there; and its share: how
-- many entries it took; and the answer of the last. It takes what events finished under a lock, and nothing else (`Owns`). Then how
-- many turns its last operation took since its issue, and how many faults of pages it passed over: each turn is a hold of a lock in
-- which an event of it was made (`Turned`). And of each partition how often the reader of its pages has failed
pub record PassView (K V I O : Type 0) : Type 0 where
  pub store : ℕ
  pub own : List (List (Entry K V I O))
  pub told : List ℕ
  pub share : ℕ
  pub last : Option (Answer O)
  pub turned : ℕ
  pub missed : ℕ
  pub reads : List ℕ

-- how far a pass was told of a partition: its store's number, the partition, and of how many updates
pub record MarkView : Type 0 where
  pub store : ℕ
  pub partition : ℕ
  pub told : ℕ

-- an update of a key by an input, or a merge, which does the same to the map
abbrev pub IsUpdateBy : {K V I : Type 0} → K → I → KeyedOp K V I → Type 0
IsUpdateBy key input op = (op ≡ Rmw key input) ⊎ (op ≡ Merge key input)

module _ {K V I O : Type 0} where
  -- a pass is of a store where it has the store's number, and as many partitions
  abbrev pub IsPassOf : StoreView → PassView K V I O → Type 0
  IsPassOf s p = (p.store ≡ s.id) × (length p.told ≡ s.count)

  -- a mark is of the store of a pass, and of one of its partitions
  abbrev pub IsMarkOf : PassView K V I O → MarkView → Type 0
  IsMarkOf p m = (m.store ≡ p.store) × (m.partition < length p.told)

  -- it was heard: no later answer there comes from fewer updates than it tells of
  abbrev pub heard_by : PassView K V I O → MarkView → PassView K V I O
  heard_by p m = record p { told = slice_set p.told m.partition (max (slice_index p.told m.partition) m.told) }

  -- another store's mark is refused with the two stores' numbers, or, where these agree, with how many partitions there are and the
  -- mark's
  abbrev pub IsStrangeMark : PassView K V I O → MarkView → Refused → Type 0
  IsStrangeMark p m (Stranger what.Pass held came) = ((m.store ≢ p.store) × (held ≡ p.store) × (came ≡ m.store))
      ⊎ ((m.store ≡ p.store) × (length p.told ≤ m.partition) × (held ≡ length p.told) × (came ≡ m.partition))
  IsStrangeMark p m other = ⊥

  -- an operation was answered: by one entry of this operation and answer, whose place is not before what the pass was told
  -- of the partition; where entries are kept the own list has it, at its end
  pub record Answers (keeps : Bool) (old new : PassView K V I O) (partition : ℕ) (op : KeyedOp K V I) (answer : Answer O)
      (e : Entry K V I O) : Type 0 where
    pub op_is : e.op ≡ op
    pub answer_is : e.answer ≡ answer
    pub fresh : slice_index old.told partition ≤ e.at
    pub own_is : keeps ≡ true
        → new.own ≡ slice_set old.own partition (slice_index_or old.own partition [] ++ e ∷ [])
    pub told_is : new.told ≡ slice_set old.told partition (told_after e)
    pub share_is : new.share ≡ old.share + 1
    pub last_is : new.last ≡ Some answer
    pub store_is : new.store ≡ old.store
    pub sized : length new.own ≡ length old.own

  abbrev pub Runs : Bool → PassView K V I O → PassView K V I O → ℕ → KeyedOp K V I → Answer O → Type 0
  Runs keeps old new partition op answer = (e : Entry K V I O) × Answers keeps old new partition op answer e

  -- an update of a key by this input was answered, or a merge
  abbrev pub Updates : Bool → PassView K V I O → PassView K V I O → ℕ → K → I → Type 0
  Updates keeps old new partition key input = (e : Entry K V I O) × IsUpdateBy key input e.op
      × Answers keeps old new partition e.op e.answer e

  -- a pass of another store is refused with the two stores' numbers, or, where these agree, with their numbers of partitions
  abbrev pub IsStrange : StoreView → PassView K V I O → Refused → Type 0
  IsStrange s p (Stranger what.Pass held came) =
      ((p.store ≢ s.id) × (held ≡ s.id) × (came ≡ p.store))
      ⊎ ((p.store ≡ s.id) × (length p.told ≢ s.count) × (held ≡ s.count) × (came ≡ length p.told))
  IsStrange s p other = ⊥
