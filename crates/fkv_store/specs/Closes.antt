-- Why a store with its passes is not closed, by what was left under its locks.
use Rattle.std.specs.Prelude.{◌≡◌, ℕ, Bool, true, IsTrue, List, length, map, sum, sum_by}
use Rattle.std.specs.List.{All}
use Rattle.std.specs.declared.cmp.Ordering.{Ordering}
use Rattle.fkv_functions.specs.Meanings.{Meanings}
use Rattle.fkv_functions.specs.declared.refusals.Refused.{Refused}
use Rattle.fkv_partition.specs.Views.{PartitionView}
use Rattle.fkv_histories.specs.declared.entries.Entry.{Entry}
use Rattle.fkv_locked.specs.Kept.{seen, IsEnded}
use Rattle.fkv_closing.specs.Lists.{lists_of}
use Rattle.fkv_closing.specs.Refusing.{IsUnclosed, IsUnsettled}

-- what is left under the lock of a partition: the partition, its history, and how many operations were finished there
pub record LeftView (K V I O : Type 0) : Type 0 where
  pub partition : PartitionView K V I
  pub history : List (Entry K V I O)
  pub book : ℕ

module _ {K V I O : Type 0} where
  -- so much is left under so many locks: where entries are kept, and on a device that keeps, each history is legal, its updates
  -- make what is live, and the book counts its entries
  pub record IsLeft (cmp : K → K → Ordering) (f : Meanings K V I O) (entries keeps : Bool) (count : ℕ) (left : List (LeftView K V I O))
      : Type 0 where
    pub sized : length left ≡ count
    pub kept : entries ≡ true → IsTrue keeps → All (λ l. IsEnded cmp f (seen cmp l.partition) l.history l.book) left

  -- why a store is not closed, by the own lists of its passes and their shares, and what its readers count: `Mismatch` is that the
  -- shares and the books add up to something else, that a partition stands in another's place, or that a history is no merge
  -- of the own lists
  pub record IsUnclosedBy (cmp : K → K → Ordering) (f : Meanings K V I O) (entries keeps : Bool) (count : ℕ)
      (owns : List (List (List (Entry K V I O)))) (shares : List ℕ) (why : Refused) : Type 0 where
    pub left : List (LeftView K V I O)
    pub are_left : IsLeft cmp f entries keeps count left
    pub before : List ℕ
    pub now : List ℕ
    pub refused : IsUnclosed keeps (map (λ l. l.partition) left) (map (λ l. l.history) left) (lists_of owns) (sum shares)
        (sum_by (λ l. l.book) left) before now why

  -- the same before its pages are read
  pub record IsUnsettledBy (cmp : K → K → Ordering) (f : Meanings K V I O) (entries keeps : Bool) (count : ℕ)
      (owns : List (List (List (Entry K V I O)))) (shares : List ℕ) (why : Refused) : Type 0 where
    pub left : List (LeftView K V I O)
    pub are_left : IsLeft cmp f entries keeps count left
    pub refused : IsUnsettled (map (λ l. l.partition) left) (map (λ l. l.history) left) (lists_of owns) (sum shares)
        (sum_by (λ l. l.book) left) why
