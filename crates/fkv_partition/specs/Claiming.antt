-- Tentative entries: each belongs to one open operation, which waits to confirm it.
use Rattle.std.specs.Prelude.{◌≡◌, ℕ, IsTrue, List, Option, Some}
use Rattle.fkv_index.specs.declared.words.Word.{Word}
use Rattle.fkv_index.specs.declared.words.Place.{Place}
use Rattle.fkv_index.specs.Words.{tentative_word, is_tentative}
use Rattle.fkv_index.specs.Places.{word_at}
use Rattle.fkv_operations.specs.After.{key_of}
use Rattle.fkv_lookups.specs.RecordsViews.{RecordsView, class_in, Claims}
use Rattle.fkv_operations.specs.declared.classes.Class.{Class}
use Rattle.fkv_partition.specs.declared.contexts.Context.{Context}
use Rattle.fkv_partition.specs.declared.contexts.OpenWork.{OpenWork}
use Rattle.fkv_partition.specs.declared.contexts.Phase.TheVariants.{Confirm}
use Rattle.fkv_partition.specs.Contexts.{claim_at, at_phase}
use Rattle.fkv_partition.specs.Views.{PartitionView, with_context}

-- the tentative entry of a class stands at this place of the class's bucket
pub record IsClaimOf {K V : Type 0} (r : RecordsView K V) (c : Class) (p : Place) : Type 0 where
  pub bucket : p.bucket ≡ c.bucket
  pub word : word_at r.words p ≡ tentative_word c.tag

-- the tentative words of an index and the operations that wait to confirm one belong to each other
pub record AreOwned {K V I : Type 0} (words : List (List Word)) (contexts : List (Option (OpenWork K V I))) : Type 0 where
  pub tentative : (p : ℕ) (q : Place) → claim_at contexts p ≡ Some q → IsTrue (is_tentative (word_at words q))
  pub owner : (q : Place) → IsTrue (is_tentative (word_at words q)) → (p : ℕ) × (claim_at contexts p ≡ Some q)
  pub one : (p r : ℕ) (q : Place) → claim_at contexts p ≡ Some q → claim_at contexts r ≡ Some q → p ≡ r

-- an operation made a tentative entry for its key's class, and waits to confirm it
pub record IsClaimed {K V I : Type 0} (code : K → ℕ) (old new : PartitionView K V I) (slot c : ℕ)
    (x : Context K V I) (now : ℕ) : Type 0 where
  pub place : Place
  pub records : RecordsView K V
  pub claims : Claims old.records records (class_in code old.records (key_of x.op)) place
  pub is : new ≡ record (with_context old slot c (Some (at_phase x (Confirm place))) now) { records = records }
