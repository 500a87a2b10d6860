-- The records of a log and the words of the index over them, from event to event. No address is used twice; so a word that
-- was kept, and is found again at its place, says what it said, although its entry was swept and made again in between.
use Rattle.std.specs.Prelude.{◌≡◌, ◌≢◌, ◌<◌, ◌≤◌, ◌⊎◌, ℕ, IsTrue, List, [], ◌∷◌, Some, None}
use Rattle.std.specs.declared.cmp.Ordering.{Ordering}
use Rattle.fkv_texts.specs.declared.entries.Entry.{Entry}
use Rattle.fkv_texts.specs.Text.{last_of, newest, IsFrom}
use Rattle.fkv_index.specs.declared.words.Word.{Word}
use Rattle.fkv_index.specs.declared.words.Place.{Place}
use Rattle.fkv_index.specs.Words.{address_of, is_final}
use Rattle.fkv_index.specs.Places.{word_at, IsPlace}
use Rattle.fkv_index.specs.Entries.{StandsAt}
use Rattle.fkv_operations.specs.declared.classes.Class.{Class}
use Rattle.fkv_operations.specs.declared.entries.IndexEntry.{IndexEntry}
use Rattle.fkv_operations.specs.Still.{IsStill}

-- where a log begins, below which address nobody changes a record in place, where the next record comes, the records, and
-- the words of the index
pub record IndexedText (K V : Type 0) : Type 0 where
  pub begin : ℕ
  pub frozen : ℕ
  pub tail : ℕ
  pub text : List (Entry K V)
  pub words : List (List Word)

-- an entry stands in the index as that of a key's class
abbrev pub IsFound : {K V : Type 0} → (K → Class) → IndexedText K V → K → IndexEntry → Type 0
IsFound class v k e = StandsAt v.words (class k).bucket (class k).tag e.place e.word

-- what an index over a log is for: no record stands below Begin, and the entry of a class leads to the last record of each
-- of its keys
pub record IsLed {K V : Type 0} (cmp : K → K → Ordering) (class : K → Class) (v : IndexedText K V) : Type 0 where
  pub first : 64 ≤ v.begin
  pub from : IsFrom v.begin v.text
  pub low : (k : K) (e : IndexEntry) → IsFound class v k e → address_of e.word < v.tail
  pub leads : (k : K) (e : IndexEntry)
      → IsFound class v k e
      → newest cmp v.text k (address_of e.word) ≡ last_of cmp v.text k

-- what the newest record of a key at or below an address loses as the log's start is cut: a tombstone is gone; or it was
-- not the key's last, and is gone or stands for less
pub data LosesByCut {K V : Type 0} (cmp : K → K → Ordering) (old new : IndexedText K V) (k : K) (a : ℕ) : Type 0 where
  dropped : (e : Entry K V)
      → newest cmp old.text k a ≡ Some e
      → e.value ≡ None
      → newest cmp new.text k a ≡ None
      → LosesByCut cmp old new k a
  passed : (e : Entry K V) → newest cmp old.text k a ≡ Some e → last_of cmp old.text k ≢ Some e → LosesByCut cmp old new k a

-- one event: what stood at addresses that were taken, and is not changed in place, stays or is cut; and an entry that is
-- written leads nowhere, or to an address that was not taken
pub record ReusesNoAddress {K V : Type 0} (cmp : K → K → Ordering) (old new : IndexedText K V) : Type 0 where
  pub begin : old.begin ≤ new.begin
  pub frozen : old.frozen ≤ new.frozen
  pub tail : old.tail ≤ new.tail
  pub records : (k : K) (a : ℕ)
      → a < old.tail
      → IsStill old.frozen (newest cmp old.text k a)
      → (newest cmp new.text k a ≡ newest cmp old.text k a) ⊎ LosesByCut cmp old new k a
  pub places : (p : Place) → IsPlace old.words p → IsPlace new.words p
  pub words : (p : Place) (w : Word)
      → IsTrue (is_final w)
      → word_at new.words p ≡ w
      → (word_at old.words p ≡ w) ⊎ (address_of w < 64) ⊎ (old.tail ≤ address_of w)

-- events one after another, the index leading after each
abbrev pub ReuseNoAddress : {K V : Type 0} → (K → K → Ordering) → (K → Class) → IndexedText K V → List (IndexedText K V) → Type 0
ReuseNoAddress cmp class v [] = Unit {0}
ReuseNoAddress cmp class v (w ∷ ws) = ReusesNoAddress cmp v w × IsLed cmp class w × ReuseNoAddress cmp class w ws

-- what stands after the last of them
abbrev pub after_last : {A : Type 0} → A → List A → A
after_last v [] = v
after_last v (w ∷ ws) = after_last w ws
