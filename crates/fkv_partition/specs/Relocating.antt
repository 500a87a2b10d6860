-- What an event of a relocation leaves: what operations ask and are to find, other relocations, and, on a device that
-- keeps, the live map. What is cleared never falls.
use Rattle.std.specs.Prelude.{◌≡◌, ◌≢◌, ◌≤◌, ◌⊎◌, ℕ, Bool, IsTrue}
use Rattle.std.specs.declared.cmp.Ordering.{Ordering}
use Rattle.fkv_functions.specs.Plain.{Same}
use Rattle.fkv_partition.specs.Views.{live_of, PartitionView, relocation_at}
use Rattle.fkv_partition.specs.KeyEffect.{asked}
use Rattle.fkv_partition.specs.Pending.{AllPend}

pub record IsRelocating {K V I : Type 0} (keeps : Bool) (cmp : K → K → Ordering) (old new : PartitionView K V I)
    (slot c now : ℕ) : Type 0 where
  pub same : (s d : ℕ) → asked new s d ≡ asked old s d
  pub pend : IsTrue keeps → AllPend cmp old new
  pub live : IsTrue keeps → Same (live_of cmp new) (live_of cmp old)
  pub others : (s d : ℕ) → (s ≢ slot) ⊎ (d ≢ c) → relocation_at new s d ≡ relocation_at old s d
  pub rises : old.cleared ≤ new.cleared
  pub number : new.number ≡ old.number
  pub count : new.count ≡ old.count
  pub begin : new.records.log.begin ≡ old.records.log.begin
  pub regions : new.records.log.regions ≡ old.records.log.regions
  pub moment : new.moment ≡ now
