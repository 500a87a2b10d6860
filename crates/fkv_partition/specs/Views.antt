-- What a contract sees of a partition.
use Rattle.std.specs.Prelude.{◌≡◌, ◌≤◌, Bool, cond, nat_le, option_map, true, ◌+◌, ◌*◌, ◌%◌, ◌^◌, ℕ, List, Option, Some, None, replicate, slice_set, slice_range, position, is_some}
use Rattle.std.specs.declared.cmp.Ordering.{Ordering}
use Rattle.fkv_functions.specs.Plain.{PlainMap}
use Rattle.fkv_epoch.specs.Moves as epochs
use Rattle.fkv_regions.specs.declared.offsets.View.{View}
use Rattle.fkv_regions.specs.Offsets.{view_at}
use Rattle.fkv_regions.specs.RegionsView.{RegionsView}
use Rattle.fkv_texts.specs.Text.{live}
use Rattle.fkv_texts.specs.Places.{tail_after}
use Rattle.fkv_texts.specs.declared.entries.Entry.{Entry}
use Rattle.fkv_operations.specs.declared.entries.IndexEntry.{IndexEntry}
use Rattle.fkv_lookups.specs.RecordsViews.{RecordsView, empty_records, class_in, entry_of, found_in}
use Rattle.fkv_lookups.specs.RecordsViews.{with_written, with_value, with_regions, IsMoved}
use Rattle.fkv_lookups.specs.declared.payloads.Payload.{Payload}
use Rattle.fkv_lookups.specs.declared.payloads.Payload.TheVariants.{Whole}
use Rattle.fkv_lookups.specs.Meeting as meeting
use Rattle.fkv_lookups.specs.Lookups.{newest_above, looked_up}
use Rattle.fkv_lookups.specs.Decisions.{low_of}
use Rattle.fkv_texts.specs.declared.entries.ChainPosition.{ChainPosition}
use Rattle.fkv_texts.specs.declared.entries.ChainPosition.TheVariants.{Found, Below}
use Rattle.fkv_lookups.specs.declared.chain_results.ChainResult.{ChainResult}
use Rattle.fkv_lookups.specs.declared.decisions.LookupResult.{LookupResult}
use Rattle.fkv_partition.specs.declared.contexts.Context.{Context}
use Rattle.fkv_partition.specs.declared.contexts.OpenWork.{OpenWork}
use Rattle.fkv_partition.specs.declared.contexts.OpenWork.TheVariants.{OnKey, Relocating}
use Rattle.fkv_partition.specs.declared.relocations.Relocation.{Relocation}
use Rattle.fkv_partition.specs.declared.relocations.Stage.{Stage}
use Rattle.fkv_partition.specs.declared.contexts.Loading.{Loading}
use Rattle.fkv_partition.specs.declared.limits.Config.{Config}
use Rattle.fkv_partition.specs.Contexts.{context_in, on_key, relocating, loading_of, is_session}

-- a partition: whether its functions merge; its number among how many; its records with the entries of their classes, the regions
-- of their log and its sessions; what is open in the contexts of these; its last moment; and the address below which each record is
-- superseded
pub record PartitionView (K V I : Type 0) : Type 0 where
  pub merges : Bool
  pub number : ℕ
  pub count : ℕ
  pub records : RecordsView K V
  pub contexts : List (Option (OpenWork K V I))
  pub moment : ℕ
  pub cleared : ℕ

-- a partition with nothing in it, before the first moment, of functions that merge or not, for records of this size
abbrev pub empty_partition : {K V I : Type 0} → Bool → Config → ℕ → ℕ → PartitionView K V I
empty_partition merges config record_size number = record {
  merges = merges;
  number = number;
  count = 2 ^ config.partition_bits;
  records = empty_records config.partition_bits config.bucket_bits config.page_bits record_size config.frames;
  contexts = replicate 128 None;
  moment = 0;
  cleared = 64;
}

-- the partition of a key with this hash
abbrev pub partition_of : ℕ → ℕ → ℕ
partition_of count code = code % count

-- the live map of a partition
abbrev pub live_of : {K V I : Type 0} → (K → K → Ordering) → PartitionView K V I → PlainMap K V
live_of cmp v = live cmp v.records.text

-- no key of this partition has a value in a map
abbrev pub IsBare : {K V I : Type 0} → (K → ℕ) → PartitionView K V I → PlainMap K V → Type 0
IsBare {K} code v m = (k : K) → partition_of v.count (code k) ≡ v.number → m k ≡ None

-- the final entry of a key's class, and the address to which it leads
abbrev pub found_for : {K V I : Type 0} → (K → ℕ) → PartitionView K V I → K → Option IndexEntry
found_for code v k = found_in v.records (class_in code v.records k)

abbrev pub entry_for : {K V I : Type 0} → (K → ℕ) → PartitionView K V I → K → Option ℕ
entry_for code v k = entry_of v.records (class_in code v.records k)

-- each slot with its epoch, where a session is entered there
abbrev pub slots_of : {K V I : Type 0} → PartitionView K V I → List (Option ℕ)
slots_of v = v.records.log.regions.epochs.slots

-- what the session at a slot saw when it last looked
abbrev pub seen_at : {K V I : Type 0} → PartitionView K V I → ℕ → View
seen_at v slot = view_at v.records.log.regions.views slot

-- what the session at a slot meets when it looks a key up
abbrev pub met_at : {K V I : Type 0} → (K → K → Ordering) → (V → V → V) → (K → ℕ) → PartitionView K V I → ℕ → K → LookupResult V
met_at cmp join code v slot k = meeting.met_at cmp join code v.records (seen_at v slot) k

-- the last record of the key that it reads in memory, with the address to which the entry of the key's class leads
abbrev pub newest_in_memory : {K V I : Type 0} → (K → K → Ordering) → (K → ℕ) → PartitionView K V I → ℕ → K → Option ℕ
    → ChainPosition K V
newest_in_memory cmp code v slot k None = Below 1
newest_in_memory cmp code v slot k (Some a) = newest_above cmp code v.records (low_of v.records.log.begin (seen_at v slot)) k a

-- a look-up that stops here in memory has no value yet: at a delta, or below, where the records go on in a page on disk
abbrev pub LacksValue : {K V : Type 0} → ℕ → ChainPosition K V → Type 0
LacksValue begin (Found e) = e.delta ≡ true
LacksValue begin (Below b) = begin ≤ b

-- a session is entered at the slot, and the last record of the key that it reads in memory, if any, has no value of it yet
pub record MayNeedPage {K V I : Type 0} (cmp : K → K → Ordering) (code : K → ℕ) (v : PartitionView K V I) (slot : ℕ) (k : K) : Type 0 where
  pub entered : is_session (slots_of v) slot ≡ true
  pub lacks : LacksValue v.records.log.begin (newest_in_memory cmp code v slot k (entry_for code v k))

-- what its look-up comes to in memory, no lower than an address
abbrev pub reached_from : {K V I : Type 0} → (K → K → Ordering) → (V → V → V) → (K → ℕ) → PartitionView K V I → ℕ → K → ℕ
    → Option ℕ → ChainResult K V
reached_from cmp join code v slot k low None = record { parts = None; position = Below 1 }
reached_from cmp join code v slot k low (Some a) = looked_up cmp join code v.records low k a

-- what is open in a context of an entered session
abbrev pub held_at : {K V I : Type 0} → PartitionView K V I → ℕ → ℕ → Option (OpenWork K V I)
held_at v slot c = context_in (slots_of v) v.contexts slot c

-- the operation on a key that is, and the relocation
abbrev pub context_at : {K V I : Type 0} → PartitionView K V I → ℕ → ℕ → Option (Context K V I)
context_at v slot c = on_key (held_at v slot c)

abbrev pub relocation_at : {K V I : Type 0} → PartitionView K V I → ℕ → ℕ → Option (Relocation K V)
relocation_at v slot c = relocating (held_at v slot c)

-- the look-up in which it waits for a page
abbrev pub loading_at : {K V I : Type 0} → PartitionView K V I → ℕ → ℕ → Option (Loading V)
loading_at v slot c = loading_of (context_at v slot c)

-- the view with this in a context, at another moment: whatever it is, an operation on a key, or a relocation
abbrev pub with_open : {K V I : Type 0} → PartitionView K V I → ℕ → ℕ → Option (OpenWork K V I) → ℕ → PartitionView K V I
with_open v slot c x now = record v { contexts = slice_set v.contexts (slot * 8 + c) x; moment = now }

abbrev pub with_context : {K V I : Type 0} → PartitionView K V I → ℕ → ℕ → Option (Context K V I) → ℕ
    → PartitionView K V I
with_context v slot c x now = with_open v slot c (option_map OnKey x) now

abbrev pub with_relocation : {K V I : Type 0} → PartitionView K V I → ℕ → ℕ → Option (Relocation K V) → ℕ → PartitionView K V I
with_relocation v slot c x now = with_open v slot c (option_map Relocating x) now

-- the view after a record of this key with this payload, by which the key has this value, or none, was appended, behind
-- the one to which its class's entry led, and the entry was moved to it, and the context was freed
abbrev pub with_payload : {K V I : Type 0} → PartitionView K V I → ℕ → ℕ → IndexEntry → K → Payload V → Option V → ℕ
    → PartitionView K V I
with_payload v slot c e k payload has now = record (with_context v slot c None now) {
  records = with_written v.records e k payload has;
}

-- the same of a value, or a tombstone
abbrev pub with_appended : {K V I : Type 0} → PartitionView K V I → ℕ → ℕ → IndexEntry → K → Option V → ℕ
    → PartitionView K V I
with_appended v slot c e k value now = with_payload v slot c e k (Whole value) value now

-- the view after the record at an address got another value, or became a tombstone, and the context was freed
abbrev pub with_replaced : {K V I : Type 0} → PartitionView K V I → ℕ → ℕ → ℕ → Option V → ℕ → PartitionView K V I
with_replaced v slot c a value now = record (with_context v slot c None now) { records = with_value v.records a value }

-- the view with these regions
abbrev pub in_regions : {K V I : Type 0} → PartitionView K V I → RegionsView → ℕ → PartitionView K V I
in_regions v regions now = record v { records = with_regions v.records regions; moment = now }

-- the lowest free slot
abbrev pub free_slot : {K V I : Type 0} → PartitionView K V I → Option ℕ
free_slot v = epochs.free_slot v.records.log.regions.epochs

-- the lowest open context of a slot
abbrev pub open_context : {K V I : Type 0} → PartitionView K V I → ℕ → Option ℕ
open_context v slot = position is_some (slice_range v.contexts (slot * 8) (slot * 8 + 8))

-- the regions have become these, and the records followed
pub record MovesTo {K V I : Type 0} (keeps : Bool) (regions : RegionsView) (old new : PartitionView K V I) (now : ℕ)
    : Type 0 where
  pub moves : IsMoved keeps regions old.records new.records
  pub is : new ≡ record old { records = new.records; moment = now }

-- a relocation at another stage
abbrev pub at_stage : {K V : Type 0} → Relocation K V → Stage K V → Relocation K V
at_stage x stage = record { number = x.number; target = x.target; stage = stage }

-- a moment passes, and nothing else changes
abbrev pub at_moment : {K V I : Type 0} → PartitionView K V I → ℕ → PartitionView K V I
at_moment v now = record v { moment = now }

-- the place after one, or 2^48 where there is none
abbrev pub place_behind : {K V I : Type 0} → PartitionView K V I → ℕ → ℕ
place_behind v a = tail_after v.records.log.bits v.records.record_size a

-- what is cleared once the record at an address is: up to the next place, or more where it was more
abbrev pub cleared_past : {K V I : Type 0} → PartitionView K V I → ℕ → ℕ
cleared_past v a = cond (nat_le v.cleared a) (place_behind v a) v.cleared

-- a relocation is done: its target is cleared, and its context is free
abbrev pub done_at : {K V I : Type 0} → PartitionView K V I → ℕ → ℕ → ℕ → ℕ → PartitionView K V I
done_at v slot c target now = record (with_open v slot c None now) { cleared = cleared_past v target }

-- and so it is, with its record appended again, behind the one to which the entry leads that it kept
abbrev pub again_at : {K V I : Type 0} → PartitionView K V I → ℕ → ℕ → ℕ → IndexEntry → Entry K V → ℕ
    → PartitionView K V I
again_at v slot c target kept entry now =
    record (with_appended v slot c kept entry.key entry.value now) { cleared = cleared_past v target }
