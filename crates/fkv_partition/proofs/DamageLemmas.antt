-- Which refusals are no damage, and that a record of a class stands at a place.
use Rattle.std.proofs.Common.{◌≡◌, ◌+◌, inl, inr, ℕ, Bool, refl}
use Rattle.std.specs.Prelude.{Result, Ok, Err, IfErr}
use Rattle.std.specs.declared.cmp.Ordering.{Ordering}
use Rattle.fkv_functions.specs.declared.refusals.Refused.{Refused}
use Rattle.fkv_functions.specs.declared.refusals.Refused.TheVariants.{Unknown, NotReady, Stranger, Damaged, NoMemory}
use Rattle.fkv_functions.specs.declared.refusals.What.{What}
use Rattle.fkv_records.specs.Places.{IsRecordStart}
use Rattle.fkv_device.specs.Standing.{Standing}
use Rattle.fkv_device.specs.Failing.{ReadFailsBy}
use Rattle.fkv_texts.specs.declared.entries.Entry.{Entry}
use Rattle.fkv_lookups.specs.Lookups.{IsOfClass}
use Rattle.fkv_lookups.specs.RecordsViews.{RecordsView}
use Rattle.fkv_lookups.specs.Traced.{IsTraced, IsResolved}
use Rattle.fkv_lookups.proofs.TracedLemmas.{raw, traced-raw}
use Rattle.fkv_operations.specs.declared.entries.IndexEntry.{IndexEntry}
use Rattle.fkv_partition.specs.declared.contexts.Progress.{Progress}
use Rattle.fkv_partition.specs.declared.relocations.Relocation.{Relocation}
use Rattle.fkv_partition.specs.Checking.{Ends, Asks, ChecksLiveness}
use Rattle.fkv_partition.specs.Views.{PartitionView}
use Rattle.fkv_partition.proofs.ReadLemmas.{entry-place}

-- ---- a result that tells no damage
pub answer-not : {T P : Type 0} {x : T} {page : ℕ} → Ok x ≡ Err (Damaged page) → P
answer-not h = absurd (cc)

pub unknown-not : {T P : Type 0} {page : ℕ} → ◌≡◌ {A = Result T Refused} (Err Unknown) (Err (Damaged page)) → P
unknown-not h = absurd (cc)

pub not_ready-not : {T P : Type 0} {page : ℕ} → ◌≡◌ {A = Result T Refused} (Err NotReady) (Err (Damaged page)) → P
not_ready-not h = absurd (cc)

pub stranger-not : {T P : Type 0} {page : ℕ} {why : Refused} {what : What} {a b : ℕ} → why ≡ Stranger what a b → ◌≡◌ {A = Result T Refused} (Err why) (Err (Damaged page)) → P
stranger-not is h = absurd (cc)

pub memory-not : {T P : Type 0} {page : ℕ} (r : Result T Refused) → IfErr r (λ why. why ≡ NoMemory) → r ≡ Err (Damaged page) → P
memory-not (Ok x) only h = absurd (cc)
memory-not (Err why) only h = let is : why ≡ NoMemory = only in absurd (cc)

-- a read that is refused as damaged is counted
pub counted-damage : {T : Type 0} {read page before after_ : ℕ} {why : Refused} → ReadFailsBy read before after_ why → ◌≡◌ {A = Result T Refused} (Err why) (Err (Damaged page)) → after_ ≡ before + 1
counted-damage (inl (inl memory)) h = let is = memory.0 in absurd (cc)
counted-damage (inl (inr device)) h = device.1
counted-damage (inr damaged) h = damaged.1

-- ---- nor does what becomes of a relocation whose record was read
module _ {K V I O R : Type 0} {old new : PartitionView K V I} {page : ℕ} {P : Type 0} {result : Result (Progress K V I O R) Refused} where
  pub ends-not : {slot c : ℕ} {x : Relocation K V} {entry : Entry K V} {kept : IndexEntry} {now : ℕ} → Ends old new slot c x entry kept now result → result ≡ Err (Damaged page) → P
  ends-not (Ends.moved other is told) h = absurd (cc)
  ends-not (Ends.worn holds tail is told) h = absurd (cc)
  ends-not (Ends.full holds full is told) h = absurd (cc)
  ends-not (Ends.appends holds more room is told) h = absurd (cc)

  module _ {stands : R → Standing} where
    pub asks-not : {asking : PartitionView K V I} {wanted : ℕ} → Asks stands old new asking wanted result → result ≡ Err (Damaged page) → P
    asks-not (Asks.asks r held is told) h = absurd (cc)
    asks-not (Asks.unshared is told) h = absurd (cc)

    pub checks-not : {cmp : K → K → Ordering} {join : V → V → V} {code : K → ℕ} {slot c : ℕ} {x : Relocation K V} {entry : Entry K V} {now : ℕ} → ChecksLiveness stands cmp join code old new slot c x entry now result → result ≡ Err (Damaged page) → P
    checks-not (ChecksLiveness.superseded needless is told) h = absurd (cc)
    checks-not (ChecksLiveness.last kept parts checked ends) h = ends-not ends h
    checks-not (ChecksLiveness.further kept b parts checked asked) h = asks-not asked h

-- ---- a record of a key's class stands at a place
pub class-place : {K V : Type 0} {keeps : Bool} {cmp : K → K → Ordering} {join : V → V → V} {code : K → ℕ} (v : RecordsView K V) → IsTraced keeps code v → IsResolved cmp join v → (k : K) (a : ℕ) → IsOfClass code v k a → IsRecordStart v.log.bits v.record_size a
class-place v traced resolved k a class = entry-place (raw v) (traced-raw traced resolved) a (rw class.here refl)
