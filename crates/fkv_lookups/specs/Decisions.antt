-- What the look-up of a key meets, and what an operation then does.
use Rattle.std.specs.Prelude.{◌≡◌, ℕ, cond, Option, Some, None, nat_le, nat_lt}
use Rattle.fkv_functions.specs.Meanings.{Meanings}
use Rattle.fkv_texts.specs.declared.entries.ChainPosition.{ChainPosition}
use Rattle.fkv_texts.specs.declared.entries.ChainPosition.TheVariants.{Found, Below}
use Rattle.fkv_regions.specs.declared.offsets.View.{View}
use Rattle.fkv_regions.specs.declared.offsets.Region.{Region}
use Rattle.fkv_regions.specs.declared.offsets.Region.TheVariants as region
use Rattle.fkv_regions.specs.Offsets.{region_of}
use Rattle.fkv_operations.specs.After.{shown_of}
use Rattle.fkv_operations.specs.declared.operations.KeyedOp.{KeyedOp}
use Rattle.fkv_operations.specs.declared.operations.KeyedOp.TheVariants.{Read, Upsert, Rmw, Delete, Merge}
use Rattle.fkv_operations.specs.declared.operations.Answer.TheVariants.{Value, Stored, Deleted, Declined}
use Rattle.fkv_lookups.specs.declared.chain_results.ChainResult.{ChainResult}
use Rattle.fkv_lookups.specs.declared.payloads.Payload.TheVariants.{Whole, Part}
use Rattle.fkv_lookups.specs.declared.decisions.LookupResult.{LookupResult}
use Rattle.fkv_lookups.specs.declared.decisions.LookupResult.TheVariants.{NoEntry, NoValue, ReadOnly, Fuzzy, Mutable, OnDisk}
use Rattle.fkv_lookups.specs.declared.decisions.Decision.{Decision}
use Rattle.fkv_lookups.specs.declared.decisions.Decision.TheVariants.{Done, Claim, Append, Replace, Prepare, Wait, Load}

-- a value in the region where its record stands; no session finds one on disk, since it looks no lower than its view of
-- Head
abbrev pub met_in : {V : Type 0} → Region → V → LookupResult V
met_in region.OnDisk v = ReadOnly v
met_in region.ReadOnly v = ReadOnly v
met_in region.Fuzzy v = Fuzzy v
met_in region.Mutable v = Mutable v

-- the last record of a key, by a view: its value in its region, or none for a tombstone
abbrev pub met_last : {V : Type 0} → View → ℕ → Option V → LookupResult V
met_last view a None = NoValue
met_last view a (Some v) = met_in (region_of view a) v

-- the lowest address that a session reads in memory: Begin, or its view of Head where that is higher
abbrev pub low_of : ℕ → View → ℕ
low_of begin view = cond (nat_le begin view.head) view.head begin

-- a value that ends with this part, from what the key had before it
abbrev pub joined_to : {V : Type 0} → (V → V → V) → Option V → V → V
joined_to join None p = p
joined_to join (Some v) p = join v p

-- what is met where a look-up of a key comes to: its last record, where that is no delta; or, where parts of deltas were
-- collected, their value, which nobody changes where it stands; or where the records of its class lead below what was read,
-- which is nowhere below Begin
abbrev pub met_on : {K V : Type 0} → (V → V → V) → ℕ → View → Option V → ChainPosition K V → LookupResult V
met_on join begin view None (Found e) = met_last view e.address e.value
met_on join begin view (Some p) (Found e) = ReadOnly (joined_to join e.value p)
met_on join begin view None (Below b) = cond (nat_lt b begin) NoValue (OnDisk b None)
met_on join begin view (Some p) (Below b) = cond (nat_lt b begin) (ReadOnly p) (OnDisk b (Some p))

-- and by the address to which the entry of the key's class leads
abbrev pub met_by : {K V : Type 0} → (V → V → V) → Option ℕ → ℕ → View → ChainResult K V → LookupResult V
met_by join None begin view came = NoEntry
met_by join (Some a) begin view came = met_on join begin view came.parts came.position

-- the value that was met; what lies on disk is not known yet
abbrev pub held_of : {V : Type 0} → LookupResult V → Option V
held_of NoEntry = None
held_of NoValue = None
held_of (ReadOnly v) = Some v
held_of (Fuzzy v) = Some v
held_of (Mutable v) = Some v
held_of (OnDisk b c) = None

-- what a key's value is said to be by what was met: nothing is said where a page has to be loaded
abbrev pub IsHeld : {V : Type 0} → LookupResult V → Option V → Type 0
IsHeld NoEntry o = o ≡ None
IsHeld NoValue o = o ≡ None
IsHeld (ReadOnly v) o = o ≡ Some v
IsHeld (Fuzzy v) o = o ≡ Some v
IsHeld (Mutable v) o = o ≡ Some v
IsHeld (OnDisk b c) o = Unit {0}

-- what an update does to a value that may be changed in place, by what it comes to: it replaces the value, or is declined
-- and writes nothing
abbrev pub replaced : {K V I O : Type 0} → Meanings K V I O → K → I → Option V → Decision V I O
replaced f k i None = Done Declined
replaced f k i (Some v) = Replace (Some v) (Value (f.shown k i v))

-- what a merge does: it appends the part that its input is, which is the first value that the input gives; or, over a value
-- that may be changed in place, it replaces that by the next one. Functions that merge never decline
abbrev pub appended_delta : {V I O : Type 0} → Option V → Decision V I O
appended_delta None = Done Declined
appended_delta (Some p) = Append (Part p) Stored

abbrev pub merged : {V I O : Type 0} → Option V → Decision V I O
merged None = Done Declined
merged (Some v) = Replace (Some v) Stored

-- the table: what an operation does for what it met
abbrev pub decision : {K V I O : Type 0} → Meanings K V I O → KeyedOp K V I → LookupResult V → Decision V I O
decision f (Read k i) NoEntry = Done (shown_of f k i None)
decision f (Read k i) NoValue = Done (shown_of f k i None)
decision f (Read k i) (ReadOnly w) = Done (shown_of f k i (Some w))
decision f (Read k i) (Fuzzy w) = Done (shown_of f k i (Some w))
decision f (Read k i) (Mutable w) = Done (shown_of f k i (Some w))
decision f (Read k i) (OnDisk b c) = Load b c
decision f (Upsert k v) NoEntry = Claim
decision f (Upsert k v) NoValue = Append (Whole (Some v)) Stored
decision f (Upsert k v) (ReadOnly w) = Append (Whole (Some v)) Stored
decision f (Upsert k v) (Fuzzy w) = Append (Whole (Some v)) Stored
decision f (Upsert k v) (Mutable w) = Replace (Some v) Stored
decision f (Upsert k v) (OnDisk b c) = Append (Whole (Some v)) Stored
decision f (Rmw k i) NoEntry = Claim
decision f (Rmw k i) NoValue = Prepare None i
decision f (Rmw k i) (ReadOnly w) = Prepare (Some w) i
decision f (Rmw k i) (Fuzzy w) = Wait
decision f (Rmw k i) (Mutable w) = replaced f k i (f.next k w i)
decision f (Rmw k i) (OnDisk b c) = Load b c
decision f (Delete k) NoEntry = Done Deleted
decision f (Delete k) NoValue = Done Deleted
decision f (Delete k) (ReadOnly w) = Append (Whole None) Deleted
decision f (Delete k) (Fuzzy w) = Append (Whole None) Deleted
decision f (Delete k) (Mutable w) = Replace None Deleted
decision f (Delete k) (OnDisk b c) = Append (Whole None) Deleted
decision f (Merge k i) NoEntry = Claim
decision f (Merge k i) NoValue = appended_delta (f.first k i)
decision f (Merge k i) (ReadOnly w) = appended_delta (f.first k i)
decision f (Merge k i) (Fuzzy w) = appended_delta (f.first k i)
decision f (Merge k i) (Mutable w) = merged (f.next k w i)
decision f (Merge k i) (OnDisk b c) = appended_delta (f.first k i)
