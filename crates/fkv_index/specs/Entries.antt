-- The index map: the final entries, as a map from (bucket, tag) to address.
use Rattle.std.specs.Prelude.{◌≡◌, ℕ, List, false, IsTrue, Option, None, Some, option_map, find, nat_lt, if◌then◌else◌}
use Rattle.std.specs.List.{position}
use Rattle.fkv_index.specs.declared.words.Word.{Word}
use Rattle.fkv_index.specs.declared.words.Place.{Place}
use Rattle.fkv_index.specs.Words.{address_of, tag_of, is_final, is_tentative, is_final_of}
use Rattle.fkv_index.specs.Places.{words_of, word_at, IsPlace}

-- the address of the final entry of a tag in a bucket, if there is one
unfoldable pub entry_at : List (List Word) → ℕ → ℕ → Option ℕ
entry_at index bucket tag = option_map address_of (find (is_final_of tag) (words_of index bucket))

-- the place of the final entry of a tag in a bucket, if there is one
unfoldable pub place_of : List (List Word) → ℕ → ℕ → Option Place
place_of index bucket tag =
    option_map (λ at. record { bucket = bucket; at = at }) (position (is_final_of tag) (words_of index bucket))

-- a final entry of the tag stands in the bucket: where, and its word
pub record StandsAt (index : List (List Word)) (b t : ℕ) (p : Place) (w : Word) : Type 0 where
  pub bucket : p.bucket ≡ b
  pub place : IsPlace index p
  pub word : word_at index p ≡ w
  pub final : IsTrue (is_final w)
  pub tag : tag_of w ≡ t

-- the final entries are a map from (bucket, tag) to address: at most one stands for each pair, and
-- `entry_at` has the addresses of those that stand, and no others
pub record IsIndexMap (index : List (List Word)) : Type 0 where
  pub single : (p q : Place)
      → p.bucket ≡ q.bucket
      → IsTrue (is_final (word_at index p))
      → IsTrue (is_final (word_at index q))
      → tag_of (word_at index p) ≡ tag_of (word_at index q) → p ≡ q
  pub entry : (p : Place)
      → IsTrue (is_final (word_at index p))
      → entry_at index p.bucket (tag_of (word_at index p)) ≡ Some (address_of (word_at index p))
  pub stands : (bucket tag address : ℕ)
      → entry_at index bucket tag ≡ Some address
      → (p : Place) × StandsAt index bucket tag p (word_at index p) × (address_of (word_at index p) ≡ address)

-- in one bucket at most one word is a final entry of each tag: what an index keeps, from which it follows
-- that it is an index map
pub record IsSingle (index : List (List Word)) : Type 0 where
  pub single : (bucket tag j k : ℕ) → IsTrue (is_final_of tag (word_at index (record { bucket = bucket; at = j })))
      → IsTrue (is_final_of tag (word_at index (record { bucket = bucket; at = k }))) → j ≡ k

-- no other entry of its tag stands in its bucket, final or tentative
abbrev pub IsAlone : List (List Word) → Place → Type 0
IsAlone index p =
    (q : Place) → q.bucket ≡ p.bucket → (q ≡ p → ⊥) → tag_of (word_at index q) ≡ tag_of (word_at index p)
    → (is_final (word_at index q) ≡ false) × (is_tentative (word_at index q) ≡ false)

-- an address after a sweep: none where it is below `begin`
abbrev pub kept : ℕ → Option ℕ → Option ℕ
kept begin None = None
kept begin (Some address) = if nat_lt address begin then None else Some address
