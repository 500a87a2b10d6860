-- What a contract sees of the records of a partition.
use Rattle.std.specs.Prelude.{◌≡◌, ◌^◌, ℕ, Bool, IsTrue, List, [], ◌∷◌, ◌++◌, Option, Some, None, IsSome, option_map, false}
use Rattle.std.specs.Prelude.{replicate, map}
use Rattle.std.specs.declared.cmp.Ordering.{Ordering}
use Rattle.fkv_device.specs.Standing.{Standing}
use Rattle.fkv_hybrid.specs.Views.{LogView, empty_log, with_entry}
use Rattle.fkv_hybrid.specs.Views as logs
use Rattle.fkv_texts.specs.declared.entries.Entry.{Entry}
use Rattle.fkv_texts.specs.Text.{changed}
use Rattle.fkv_texts.specs.Text as text
use Rattle.fkv_regions.specs.RegionsView.{RegionsView}
use Rattle.fkv_index.specs.declared.words.Word.{Word}
use Rattle.fkv_index.specs.declared.words.Place.{Place}
use Rattle.fkv_index.specs.Words.{empty, final_word, tentative_word, address_of, tag_of, is_final, swept}
use Rattle.fkv_index.specs.Places.{word_at, IsPlace, with_word}
use Rattle.fkv_index.specs.Entries.{entry_at, place_of, StandsAt}
use Rattle.fkv_index.specs.Changes.{Probes}
use Rattle.fkv_lookups.specs.declared.payloads.Payload.{Payload}
use Rattle.fkv_lookups.specs.declared.payloads.Payload.TheVariants.{Whole}
use Rattle.fkv_lookups.specs.Payloads.{value_in, is_part}
use Rattle.fkv_operations.specs.declared.classes.Class.{Class}
use Rattle.fkv_operations.specs.declared.entries.IndexEntry.{IndexEntry}
use Rattle.fkv_operations.specs.Classes.{class_at}
use Rattle.fkv_operations.specs.KeptWords.{IndexedText}

-- The records of one of 2 ^ partition_bits partitions, whose classes have 2 ^ bucket_bits buckets: their log, whose text
-- has the records as pages spell them; `text`, the same records, each with what its key has once it stands: a delta is
-- joined with what the key had; and the words of an index, bucket by bucket.
pub record RecordsView (K V : Type 0) : Type 0 where
  pub partition_bits : ℕ
  pub bucket_bits : ℕ
  pub record_size : ℕ
  pub log : LogView K V
  pub text : List (Entry K V)
  pub words : List (List Word)

-- no records, no sessions and no entries
abbrev pub empty_records : {K V : Type 0} → ℕ → ℕ → ℕ → ℕ → ℕ → RecordsView K V
empty_records partition_bits bucket_bits page_bits record_size frames = record {
  partition_bits = partition_bits;
  bucket_bits = bucket_bits;
  record_size = record_size;
  log = empty_log page_bits frames;
  text = [];
  words = replicate (2 ^ bucket_bits) (replicate 7 empty);
}

-- the class of a key
abbrev pub class_in : {K V : Type 0} → (K → ℕ) → RecordsView K V → K → Class
class_in code v k = class_at v.partition_bits v.bucket_bits (code k)

-- the records and the words of the index over them
abbrev pub indexed : {K V : Type 0} → RecordsView K V → IndexedText K V
indexed v = record {
  begin = v.log.begin;
  frozen = v.log.regions.offsets.safe_read_only;
  tail = v.log.tail;
  text = v.text;
  words = v.words;
}

-- the address of the final entry of a class
abbrev pub entry_of : {K V : Type 0} → RecordsView K V → Class → Option ℕ
entry_of v c = entry_at v.words c.bucket c.tag

-- where an entry leads, 1 standing for nowhere
abbrev pub leads_to : Option ℕ → ℕ
leads_to None = 1
leads_to (Some a) = a

-- the final entry of a class: its place, and the word there
abbrev pub found_in : {K V : Type 0} → RecordsView K V → Class → Option IndexEntry
found_in v c = option_map (λ p. record { place = p; word = word_at v.words p }) (place_of v.words c.bucket c.tag)

-- an entry stands as that of a class
abbrev pub IsEntryOf : {K V : Type 0} → RecordsView K V → Class → IndexEntry → Type 0
IsEntryOf v c e = StandsAt v.words c.bucket c.tag e.place e.word

-- an entry was once found as that of a class: its place is one of the class's bucket, its word a final one of its tag
pub record WasEntryOf {K V : Type 0} (v : RecordsView K V) (c : Class) (e : IndexEntry) : Type 0 where
  pub place : IsPlace v.words e.place
  pub bucket : e.place.bucket ≡ c.bucket
  pub final : IsTrue (is_final e.word)
  pub tag : tag_of e.word ≡ c.tag

-- the record that is written for a key at the tail, behind the one to which the entry leads: with this value, or a
-- tombstone, and whether it is a delta
abbrev pub record_for : {K V : Type 0} → RecordsView K V → IndexEntry → K → Option V → Bool → Entry K V
record_for v e key value delta =
    record { address = v.log.tail; previous = address_of e.word; key = key; value = value; delta = delta }

-- with a record of this payload, by which its key has this value, or none, and the entry moved to it
abbrev pub with_written : {K V : Type 0} → RecordsView K V → IndexEntry → K → Payload V → Option V → RecordsView K V
with_written v e key payload has = record v {
  log = with_entry v.record_size v.log (address_of e.word) key (value_in payload) (is_part payload);
  text = v.text ++ record_for v e key has (is_part payload) ∷ [];
  words = with_word v.words e.place (final_word (tag_of e.word) v.log.tail);
}

-- with a record of a value, or a tombstone
abbrev pub with_record : {K V : Type 0} → RecordsView K V → IndexEntry → K → Option V → RecordsView K V
with_record v e key value = with_written v e key (Whole value) value

-- the record at an address may have another value where it stands: it is the last of its key and has a value, and it is no
-- delta
pub record IsReplaceable {K V : Type 0} (cmp : K → K → Ordering) (v : RecordsView K V) (a : ℕ) : Type 0 where
  pub entry : Entry K V
  pub here : text.entry_at v.text a ≡ Some entry
  pub last : text.last_of cmp v.text entry.key ≡ Some entry
  pub some : IsSome entry.value
  pub whole : entry.delta ≡ false

-- with another value in the record at an address, which is the last of its key and no delta, or with a tombstone there
abbrev pub with_value : {K V : Type 0} → RecordsView K V → ℕ → Option V → RecordsView K V
with_value v a value = record v { log = logs.with_value v.log a value; text = changed v.text a value }

-- with these regions
abbrev pub with_regions : {K V : Type 0} → RecordsView K V → RegionsView → RecordsView K V
with_regions v regions = record v { log = logs.with_regions v.log regions }

-- a tentative entry is made for a class, at the first empty place of its bucket
pub record Claims {K V : Type 0} (old new : RecordsView K V) (c : Class) (p : Place) : Type 0 where
  pub probed : List (List Word)
  pub probes : Probes c.bucket p old.words probed
  pub is : new ≡ record old { words = with_word probed p (tentative_word c.tag) }

-- a tentative entry becomes final, and leads to no record yet
abbrev pub confirmed : {K V : Type 0} → RecordsView K V → Place → RecordsView K V
confirmed v p = record v { words = with_word v.words p (final_word (tag_of (word_at v.words p)) 1) }

-- a place is emptied
abbrev pub released : {K V : Type 0} → RecordsView K V → Place → RecordsView K V
released v p = record v { words = with_word v.words p empty }

-- with the lowest waiting page flushed, by this receipt
abbrev pub with_receipt : {K V : Type 0} → RecordsView K V → Standing → RecordsView K V
with_receipt v s = record v { log = logs.with_receipt v.log s }

-- with these regions, by which more may be frozen and closed, as the log then is; each record is then in this text with
-- what its key has
abbrev pub moved : {K V : Type 0} → Bool → RecordsView K V → RegionsView → List (List ℕ) → List (Entry K V)
    → RecordsView K V
moved keeps v regions more text = record v { log = logs.moved keeps v.log regions more; text = text }

-- the regions have become these, and the records followed; on a device that keeps, the text stays
pub record IsMoved {K V : Type 0} (keeps : Bool) (regions : RegionsView) (old new : RecordsView K V) : Type 0 where
  pub more : List (List ℕ)
  pub is : new ≡ moved keeps old regions more new.text
  pub kept : IsTrue keeps → new.text ≡ old.text
  pub entries : IsTrue keeps → new.log.text ≡ old.log.text

-- with the log cut at an address, and the entries emptied that lead below it; each record is then in this text with what
-- its key has
abbrev pub truncated : {K V : Type 0} → Bool → RecordsView K V → ℕ → List (Entry K V) → RecordsView K V
truncated keeps v begin text = record v {
  log = logs.truncated keeps v.log begin;
  text = text;
  words = map (map (swept begin)) v.words;
}

-- words change at one place alone, and no place goes
pub record ChangesAt (p : Place) (old new : List (List Word)) : Type 0 where
  pub others : (q : Place) → (q ≡ p → ⊥) → word_at new q ≡ word_at old q
  pub places : (q : Place) → IsPlace old q → IsPlace new q
