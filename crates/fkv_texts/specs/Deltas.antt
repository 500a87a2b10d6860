-- What deltas stand for. A delta is an entry whose value is a part, to be joined with what its key had before.
use Rattle.std.specs.Prelude.{◌≡◌, ℕ, ◌<◌, ◌≤◌, ◌&&◌, ◌⊎◌, Bool, true, false, cond, List, [], ◌∷◌, filter, reverse}
use Rattle.std.specs.Prelude.{Option, Some, None, IsSome, nat_le, nat_lt, slice_get}
use Rattle.std.specs.declared.cmp.Ordering.{Ordering}
use Rattle.fkv_functions.specs.Plain.{PlainMap, with_at}
use Rattle.fkv_texts.specs.declared.entries.Entry.{Entry}
use Rattle.fkv_texts.specs.Text.{entry_at, has_key}
use Rattle.fkv_texts.specs.Chains.{IsIn}

-- a value or part, and the part after it, either of which may be missing
abbrev pub combined : {V : Type 0} → (V → V → V) → Option V → Option V → Option V
combined join None w = w
combined join (Some v) None = Some v
combined join (Some v) (Some w) = Some (join v w)

-- parts may be joined first
abbrev pub IsAssociative : {V : Type 0} → (V → V → V) → Type 0
IsAssociative {V} join = (u v w : V) → join (join u v) w ≡ join u (join v w)

-- what a key has once an entry stands, from what it had
abbrev pub value_after : {K V : Type 0} → (V → V → V) → Option V → Entry K V → Option V
value_after join held e = cond e.delta (combined join held e.value) e.value

-- an entry with another value, or none
abbrev pub with_other_value : {K V : Type 0} → Option V → Entry K V → Entry K V
with_other_value v e = record e { value = v }

-- each entry with what its key has once it stands, from what keys had before
abbrev pub resolved_from : {K V : Type 0} → (K → K → Ordering) → (V → V → V) → PlainMap K V → List (Entry K V) → List (Entry K V)
resolved_from cmp join m [] = []
resolved_from cmp join m (e ∷ es) =
    with_other_value (value_after join (m e.key) e) e ∷ resolved_from cmp join (with_at cmp m e.key (value_after join (m e.key) e)) es

-- the same, where no key had a value before
abbrev pub resolved : {K V : Type 0} → (K → K → Ordering) → (V → V → V) → List (Entry K V) → List (Entry K V)
resolved cmp join es = resolved_from cmp join (λ k. None) es

-- no entry is a delta
abbrev pub AreWhole : {K V : Type 0} → List (Entry K V) → Type 0
AreWhole {K} {V} es = (i : ℕ) (e : Entry K V) → slice_get es i ≡ Some e → e.delta ≡ false

-- each delta has a part
abbrev pub AreValued : {K V : Type 0} → List (Entry K V) → Type 0
AreValued {K} {V} es = (i : ℕ) (e : Entry K V) → slice_get es i ≡ Some e → e.delta ≡ true → IsSome e.value

-- of a key's entries above one address, up to another, each is a delta
abbrev pub AreDeltasBetween : {K V : Type 0} → (K → K → Ordering) → List (Entry K V) → K → ℕ → ℕ → Type 0
AreDeltasBetween {K} {V} cmp es k low high =
    (e : Entry K V) → IsIn es e → has_key cmp k e ≡ true → low < e.address → e.address ≤ high → e.delta ≡ true

-- a test that does not look at values
abbrev pub IgnoresValues : {K V : Type 0} → (Entry K V → Bool) → Type 0
IgnoresValues {K} {V} p = (e : Entry K V) (v : Option V) → p (with_other_value v e) ≡ p e

-- ---- reading
-- over entries of one key, newest first: their parts joined before those collected, down to an entry that is no delta
abbrev pub gathered : {K V : Type 0} → (V → V → V) → List (Entry K V) → Option V → Option V × Option (Entry K V)
gathered join [] c = (c, None)
gathered join (e ∷ es) c = cond e.delta (gathered join es (combined join e.value c)) (c, Some e)

-- the entries of a key at or below an address, newest first
abbrev pub newest_first_to : {K V : Type 0} → (K → K → Ordering) → List (Entry K V) → K → ℕ → List (Entry K V)
newest_first_to cmp es k high = reverse (filter (λ e. nat_le e.address high && has_key cmp k e) es)

-- and of those the ones above another address
abbrev pub newest_first_between : {K V : Type 0} → (K → K → Ordering) → List (Entry K V) → K → ℕ → ℕ → List (Entry K V)
newest_first_between cmp es k low high =
    reverse (filter (λ e. nat_lt low e.address && (nat_le e.address high && has_key cmp k e)) es)

-- ---- clearing
-- an entry of a key that is no delta, above an address
pub record HasWholeAbove {K V : Type 0} (cmp : K → K → Ordering) (es : List (Entry K V)) (k : K) (a : ℕ) : Type 0 where
  pub by : Entry K V
  pub stands : IsIn es by
  pub key : has_key cmp k by ≡ true
  pub whole : by.delta ≡ false
  pub above : a < by.address

-- a later entry of its key that is no delta stands in the list
abbrev pub IsCovered : {K V : Type 0} → (K → K → Ordering) → List (Entry K V) → Entry K V → Type 0
IsCovered cmp es e = HasWholeAbove cmp es e.key e.address

-- an entry says nothing of its key any more: it is a tombstone, or covered
abbrev pub IsSuperseded : {K V : Type 0} → (K → K → Ordering) → List (Entry K V) → Entry K V → Type 0
IsSuperseded cmp es e = (e.value ≡ None) ⊎ IsCovered cmp es e

-- each entry below an address is superseded
abbrev pub IsCleared : {K V : Type 0} → (K → K → Ordering) → List (Entry K V) → ℕ → Type 0
IsCleared {K} {V} cmp es limit =
    (e : Entry K V) → entry_at es e.address ≡ Some e → e.address < limit → IsSuperseded cmp es e
