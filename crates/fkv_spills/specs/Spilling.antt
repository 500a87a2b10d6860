-- Pairs in pages: each stands as a record, one behind another, as many in a page as were put there.
use Rattle.std.specs.Prelude.{◌≡◌, ◌<◌, ◌≤◌, ◌++◌, ⊤, ℕ, false, List, [], ◌∷◌, Some, length, take, drop}
use Rattle.fkv_functions.specs.Codecs.{Codec}
use Rattle.fkv_functions.specs.Names.{name_codec}
use Rattle.fkv_functions.specs.declared.names.Name.{Name}
use Rattle.fkv_records.specs.Records.{size_of, IsRecord, Spells}
use Rattle.fkv_records.specs.declared.records.Record.{Record}
use Rattle.fkv_device.specs.Standing.{Standing}
use Rattle.fkv_spills.specs.declared.gathering.Gathered.{Gathered}
use Rattle.fkv_spills.specs.declared.pages.SpilledPage.{SpilledPage}

-- how many bytes a pair takes
abbrev pub pair_size : ℕ → ℕ
pair_size vsize = size_of 32 vsize

-- the record that stands for a pair: it names no earlier one
abbrev pub record_for : {V : Type 0} → Name × V → Record Name V
record_for x = record { previous = 1; key = x.0; value = Some x.1; delta = false }

module _ {V : Type 0} {vsize : ℕ} (value : Codec V vsize) where
  -- these bytes are those of the pair
  pub record IsPairIn (bytes : List ℕ) (x : Name × V) : Type 0 where
    pub sized : length bytes ≡ pair_size vsize
    pub most : pair_size vsize ≤ 192
    pub is_record : IsRecord name_codec value 64 (record_for x)
    pub spells : Spells name_codec value bytes (record_for x)

  -- these pairs stand one behind another from the start of the bytes on
  abbrev pub ArePairsIn : List ℕ → List (Name × V) → Type 0
  ArePairsIn bytes [] = ⊤
  ArePairsIn bytes (x ∷ xs) = IsPairIn (take (pair_size vsize) bytes) x × ArePairsIn (drop (pair_size vsize) bytes) xs

  -- and nothing else does
  abbrev pub AreAllOf : List ℕ → List (Name × V) → Type 0
  AreAllOf bytes [] = bytes ≡ []
  AreAllOf bytes (x ∷ xs) = IsPairIn (take (pair_size vsize) bytes) x × AreAllOf (drop (pair_size vsize) bytes) xs

  -- the pages that receipts stand for have these pairs, each page as many as are counted for it, and one at least
  abbrev pub AreSpilled : {R : Type 0} → (R → Standing) → List (SpilledPage R) → List (Name × V) → Type 0
  AreSpilled stands [] xs = xs ≡ []
  AreSpilled stands (p ∷ ps) xs =
      (0 < p.count)
      × (p.count ≤ length xs)
      × ArePairsIn (stands p.receipt).bytes (take p.count xs)
      × AreSpilled stands ps (drop p.count xs)

  -- pages, and the bytes of the one that comes next, have these pairs
  pub record IsGathered {R : Type 0} (stands : R → Standing) (g : Gathered V R) (xs : List (Name × V)) : Type 0 where
    pub before : List (Name × V)
    pub last : List (Name × V)
    pub all : xs ≡ before ++ last
    pub spilled : AreSpilled stands g.pages.items before
    pub in_bytes : AreAllOf g.bytes.items last
    pub counted : length last ≡ g.here
