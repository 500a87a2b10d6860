-- Frames as a map from page to bytes.
use Rattle.std.specs.Prelude.{◌≡◌, ◌≢◌, ◌+◌, ◌%◌, ◌^◌, ◌==◌, ℕ, List, ◌++◌, Option, None, Some, length, take, drop}
use Rattle.std.specs.Prelude.{slice_get, slice_set, if◌then◌else◌, Bool, false, replicate, IfSome}
use Rattle.fkv_frames.specs.Ring.{Ring}

-- whether a frame holds page n
abbrev pub is_page : Option ℕ → ℕ → Bool
is_page None n = false
is_page (Some m) n = m == n

abbrev pub in_slot : Option (Option ℕ × List ℕ) → ℕ → Option (List ℕ)
in_slot None n = None
in_slot (Some s) n = if is_page s.0 n then Some s.1 else None

-- the bytes of a page, where it is in its frame
abbrev pub held : Ring → ℕ → Option (List ℕ)
held r n = in_slot (slice_get r.slots (n % length r.slots)) n

-- a list with these bytes at a place
abbrev pub written_at : List ℕ → ℕ → List ℕ → List ℕ
written_at old at bytes = take at old ++ bytes ++ drop (at + length bytes) old

-- a ring with page n and these bytes in its frame
abbrev pub with_page : Ring → ℕ → List ℕ → Ring
with_page r n bytes = record { bits = r.bits; slots = slice_set r.slots (n % length r.slots) (Some n, bytes) }

-- pages of other frames are as they were, other pages of this frame are not held, and the shape stays
pub record LeavesOthers (n : ℕ) (old new : Ring) : Type 0 where
  pub bits : new.bits ≡ old.bits
  pub count : length new.slots ≡ length old.slots
  pub others : (m : ℕ) → m % length old.slots ≢ n % length old.slots → held new m ≡ held old m
  pub dropped : (m : ℕ) → m % length old.slots ≡ n % length old.slots → m ≢ n → held new m ≡ None

-- page n is opened: zeros in its frame
pub record Opens (n : ℕ) (old new : Ring) : Type 0 where
  pub exact : new ≡ with_page old n (replicate (2 ^ old.bits) 0)
  pub opened : held new n ≡ Some (replicate (2 ^ old.bits) 0)
  pub others : LeavesOthers n old new

-- bytes are written into page n
pub record Writes (n offset : ℕ) (bytes : List ℕ) (old new : Ring) : Type 0 where
  pub exact : IfSome (held old n) (λ b. new ≡ with_page old n (written_at b offset bytes))
  pub written : IfSome (held old n) (λ b. held new n ≡ Some (written_at b offset bytes))
  pub others : LeavesOthers n old new
