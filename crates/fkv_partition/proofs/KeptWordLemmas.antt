-- Events of a partition as events of its records and the words over them.
use Rattle.std.proofs.Common.{◌≡◌, IsTrue, ℕ, Bool, List, [], ◌∷◌, refl, ◌∙◌, subst}
use Rattle.std.specs.declared.cmp.Ordering.{Ordering}
use Rattle.fkv_functions.specs.Meanings.{Meanings}
use Rattle.fkv_functions.specs.Plain.{IsKeyOrder}
use Rattle.fkv_device.specs.Standing.{Standing}
use Rattle.fkv_texts.specs.declared.entries.Entry.{Entry}
use Rattle.fkv_operations.specs.declared.classes.Class.{Class}
use Rattle.fkv_operations.specs.Classes.{class_at}
use Rattle.fkv_operations.specs.KeptWords.{IndexedText, IsLed, ReuseNoAddress, after_last}
use Rattle.fkv_lookups.specs.RecordsViews.{indexed}
use Rattle.fkv_lookups.proofs.TracedLemmas.{traced-led}
use Rattle.fkv_partition.specs.Sound.{IsPartition}
use Rattle.fkv_partition.specs.AnyEvent.{Event, AreEvents}
use Rattle.fkv_partition.specs.Grown.{IsPreserved}
use Rattle.fkv_partition.specs.KeySound.{IsSound}
use Rattle.fkv_partition.specs.Views.{PartitionView}

abbrev pub indexed_all : {K V I : Type 0} → List (PartitionView K V I) → List (IndexedText K V)
indexed_all [] = []
indexed_all (w ∷ ws) = indexed w.records ∷ indexed_all ws

pub indexed-last : {K V I : Type 0} (v : PartitionView K V I) (vs : List (PartitionView K V I)) → after_last (indexed v.records) (indexed_all vs) ≡ indexed (after_last v vs).records
indexed-last v [] = refl
indexed-last v (w ∷ ws) = indexed-last w ws

-- the classes of an index of one shape
abbrev pub class_of : {K : Type 0} → (K → ℕ) → ℕ → ℕ → K → Class
class_of code p b k = class_at p b (code k)

module _ {K V I : Type 0} {keeps : Bool} (cmp : K → K → Ordering) (join : V → V → V) (code : K → ℕ) (order : IsKeyOrder cmp) (yes_keeps : IsTrue keeps) (p b : ℕ) where
  pub led-at : (v : PartitionView K V I) → IsSound keeps cmp join code v → v.records.partition_bits ≡ p → v.records.bucket_bits ≡ b → IsLed cmp (class_of code p b) (indexed v.records)
  led-at v s is at =
      subst (λ n. IsLed cmp (class_of code p n) (indexed v.records)) at
      (subst (λ n. IsLed cmp (class_of code n v.records.bucket_bits) (indexed v.records)) is (traced-led cmp code v.records order s.traced))

  module _ {O R : Type 0} (stands : R → Standing) (spells : ℕ → List ℕ → ℕ → Entry K V → Type 0) (f : Meanings K V I O)
      (preserves : (old new : PartitionView K V I) → IsPartition keeps cmp join code old → IsPartition keeps cmp join code new → Event keeps stands spells cmp join f code old new → IsPreserved keeps cmp join code old new) where
    pub are-next : (v : PartitionView K V I) (vs : List (PartitionView K V I)) → IsPartition keeps cmp join code v → v.records.partition_bits ≡ p → v.records.bucket_bits ≡ b → AreEvents keeps stands spells cmp join f code v vs → ReuseNoAddress cmp (class_of code p b) (indexed v.records) (indexed_all vs)
    are-next v [] s is at h = tt
    are-next v (w ∷ ws) s is at (event, facts, more) =
        let borne = preserves v w s facts event in
        let here = borne.grown.shape.partition_bits ∙ is in
        let there = borne.grown.shape.bucket_bits ∙ at in
        (borne.next yes_keeps, led-at w facts.sound here there, are-next w ws facts here there more)
