-- What is left of pairs that are read page by page, and of several such at once.
use Rattle.std.specs.Prelude.{◌≡◌, ◌<◌, ◌≤◌, ◌⊎◌, ◌++◌, ⊤, ℕ, Bool, IsTrue, List, [], ◌∷◌, Option, Some, None, length, map, take, drop, slice_get}
use Rattle.fkv_functions.specs.Codecs.{Codec}
use Rattle.fkv_functions.specs.Names.{name_cmp}
use Rattle.fkv_functions.specs.declared.names.Name.{Name}
use Rattle.fkv_functions.specs.declared.refusals.Refused.{Refused}
use Rattle.fkv_functions.specs.declared.refusals.Refused.TheVariants as refused
use Rattle.fkv_device.specs.Failing.{ReadFailsBy}
use Rattle.fkv_device.specs.Standing.{Standing}
use Rattle.fkv_runs.specs.Merging.{merged, first_from, first_key, first_pair}
use Rattle.fkv_spills.specs.Spilling.{ArePairsIn, AreSpilled}
use Rattle.fkv_spills.specs.declared.groups.ReadGroups.{ReadGroups}
use Rattle.fkv_spills.specs.declared.merging.ReadMerge.{ReadMerge}
use Rattle.fkv_spills.specs.declared.rests.SpilledRest.{SpilledRest}
use Rattle.fkv_spills.specs.declared.unread.Unread.{Unread}

-- the next pair is in the page in hand, or there is none
abbrev pub IsReady : {V R P : Type 0} → Unread V R P → List (Name × V) → Type 0
IsReady u xs = (0 < u.here) ⊎ ((u.page ≡ None) × (xs ≡ []))

module _ {V : Type 0} {vsize : ℕ} (value : Codec V vsize) where
  -- the page in hand has these pairs from a place on; where none is in hand there are none
  abbrev pub AreInHand : Option (List ℕ) → ℕ → List (Name × V) → Type 0
  AreInHand None at xs = xs ≡ []
  AreInHand (Some bytes) at xs = ArePairsIn value (drop at bytes) xs

  -- so many of these pairs come from the page in hand, and the others from the pages behind it
  pub record IsUnread {R P : Type 0} (stands : R → Standing) (u : Unread V R P) (xs : List (Name × V)) : Type 0 where
    pub fits : u.here ≤ length xs
    pub in_hand : AreInHand u.page u.at (take u.here xs)
    pub behind : AreSpilled value stands u.pages.items (drop u.here xs)

  -- the next pair is in hand, and the others are unread, on a device that keeps
  pub record IsLeft {R P : Type 0} (keeps : Bool) (stands : R → Standing) (rest : SpilledRest V R P) (xs : List (Name × V)) : Type 0
    where
      pub kept : IsTrue keeps
      pub next : rest.next ≡ first_pair xs
      pub unread : IsUnread stands rest.behind (drop 1 xs)

-- Why a page was not read: the reader refused it, by its count of failures before and after; or it spells no pair, which never comes
-- where what is to come is known.
abbrev pub IsUnreadable : ℕ → ℕ → Type 0 → Refused → Type 0
IsUnreadable old new known e = (page : ℕ) × (ReadFailsBy page old new e ⊎ ((e ≡ refused.Damaged page) × (known → ⊥)))

module _ {A B : Type 0} (holds : A → B → Type 0) where
  -- each has what the list beside it says
  abbrev pub AreHeld : List A → List B → Type 0
  AreHeld [] [] = ⊤
  AreHeld [] (b ∷ bs) = ⊥
  AreHeld (a ∷ more) [] = ⊥
  AreHeld (a ∷ more) (b ∷ bs) = holds a b × AreHeld more bs

-- what several have left comes together as this list, and this is the first of them that gives a pair, with its key
pub record IsMergeOf {A V : Type 0} (holds : A → List (Name × V) → Type 0) (rests : List A) (first : Option (ℕ × Name))
    (xs : List (Name × V)) : Type 0 where
  pub lists : List (List (Name × V))
  pub held : AreHeld holds rests lists
  pub is_first : first ≡ first_from name_cmp 0 (map first_key lists)
  pub together : xs ≡ merged name_cmp lists

-- what a merge has left
abbrev pub HasMerged : {A V : Type 0} → (A → List (Name × V) → Type 0) → ReadMerge A → List (Name × V) → Type 0
HasMerged holds merge xs = IsMergeOf holds merge.rests.items merge.first xs

-- several that come in this order have these lists: groups of them are merged, and the last ones are not yet
pub record IsGrouped {A V : Type 0} (holds : A → List (Name × V) → Type 0) (g : ReadGroups A) (lists : List (List (Name × V)))
    : Type 0 where
  pub before : List (List (Name × V))
  pub last : List (List (Name × V))
  pub all : lists ≡ before ++ last
  pub merges : List (List (Name × V))
  pub grouped : AreHeld (HasMerged holds) g.groups.items merges
  pub together : merged name_cmp merges ≡ merged name_cmp before
  pub held : AreHeld holds g.rests.items last

-- one of them refused
abbrev pub IsRefusedByOne : {A : Type 0} → (A → A → Refused → Type 0) → List A → List A → Refused → Type 0
IsRefusedByOne {A} refuses old new e = (place : ℕ) × (was : A) × (is : A)
    × (slice_get old place ≡ Some was)
    × (slice_get new place ≡ Some is)
    × refuses was is e
