-- What a compactor's calls come to in a locked partition.
use Rattle.std.specs.Prelude.{◌≡◌, ◌+◌, ◌⊎◌, ℕ, Some, ⊤}
use Rattle.fkv_operations.specs.declared.operations.Answer.TheVariants.{Cleared}
use Rattle.fkv_partition.specs.Beginning.{IsFirstOpen}
use Rattle.fkv_partition.specs.Effect.{IsGiveUp}
use Rattle.fkv_partition.specs.declared.contexts.Progress.{Progress}
use Rattle.fkv_partition.specs.declared.contexts.Progress.TheVariants.{Done, Next, NeedsBuild, NeedsLoad, Waits}
use Rattle.fkv_partition.specs.declared.contexts.Wait.TheVariants.{Full}
use Rattle.fkv_locked.specs.Locks.{LockedView, with_partition}

-- what an event of a relocation may tell: its target is cleared, at this moment; or it goes on, needs a page, or waits for
-- room. It asks for nothing to be built
abbrev pub IsRelocationProgress : {K V I O R : Type 0} → ℕ → Progress K V I O R → Type 0
IsRelocationProgress now (Done answer effect) = (answer ≡ Cleared) × (effect ≡ now)
IsRelocationProgress now Next = ⊤
IsRelocationProgress now (NeedsBuild ask) = ⊥
IsRelocationProgress now (NeedsLoad receipt address) = ⊤
IsRelocationProgress now (Waits why) = why ≡ Full

-- a load is refused to a compactor: a moment has passed, and the relocation that is next in turn at its slot is given up, or
-- nothing else has changed
pub record IsRelocationRefused {K V I O : Type 0} (old new : LockedView K V I O) (slot : ℕ) : Type 0 where
  pub ended : (new.partition ≡ old.partition)
      ⊎ ((c : ℕ) × IsFirstOpen old.partition slot (Some c)
      × IsGiveUp old.partition new.partition slot c (old.clock + 1))
  pub rest : new ≡ with_partition old new.partition
