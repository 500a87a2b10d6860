-- How many pages an operation reads.
use Rattle.std.proofs.Common.{◌≡◌, ◌+◌, ◌*◌, ◌/◌, ◌%◌, ◌<◌, ◌≤◌, Bool, true, false, cond, ℕ, Option, Some, None, IsTrue, is_some, nat_lt, slice_get, refl, sym, ◌∙◌, ap, subst, arith}
use Rattle.std.proofs.Math.Nat.{div-add-mod, mod-lt}
use Rattle.std.proofs.lemmas.Bool.{and_parts}
use Rattle.std.specs.Option.{option_flatten}
use Rattle.std.specs.declared.cmp.Ordering.{Ordering}
use Rattle.fkv_operations.specs.After.{key_of}
use Rattle.fkv_operations.specs.Classes.{same_class}
use Rattle.fkv_operations.specs.declared.operations.KeyedOp.{KeyedOp}
use Rattle.fkv_lookups.specs.RecordsViews.{RecordsView, class_in}
use Rattle.fkv_partition.specs.declared.contexts.OpenWork.{OpenWork}
use Rattle.fkv_partition.specs.Contexts.{joined, is_session, claim_at}
use Rattle.fkv_partition.specs.KeySound.{IsSound}
use Rattle.fkv_partition.specs.Views.{held_at, slots_of, PartitionView}
use Rattle.fkv_alone.specs.Bound.{is_evicted, evicted, may_load, loads_of, NoneClaims}
use Rattle.fkv_alone.proofs.CountLemmas.{count-fewer}
use Rattle.fkv_local.specs.Moving.{IsSameLog}
use Rattle.fkv_local.specs.Reading.{records_of}
use Rattle.fkv_local.specs.Resting.{IsIdle}
use Rattle.fkv_local.proofs.DriveLemmas.{inside, none-held}

cond-most : (b : Bool) (m n : ℕ) → m ≤ n → cond b m 0 ≤ n
cond-most true m n h = h
cond-most false m n h = omega arith

session-slot : (o : Option (Option ℕ)) → is_some (option_flatten o) ≡ true → (e : ℕ) × (o ≡ Some (Some e))
session-slot None h = absurd (cc)
session-slot (Some None) h = absurd (cc)
session-slot (Some (Some e)) h = (e, refl)

module _ {K V : Type 0} (code : K → ℕ) where
  -- the records below Head are some of those of the class
  evicted-in : (r : RecordsView K V) (k : K) → evicted code r k ≤ records_of code r k
  evicted-in r k = count-fewer (λ e. same_class (class_in code r e.key) (class_in code r k)) (is_evicted code r k) (λ e h. (and_parts (nat_lt e.address r.log.regions.offsets.head) (same_class (class_in code r e.key) (class_in code r k)) h).1) r.log.text

  pub loads-in : {I : Type 0} (r : RecordsView K V) (op : KeyedOp K V I) → loads_of code r op ≤ records_of code r (key_of op)
  loads-in r op = cond-most (may_load op) (evicted code r (key_of op)) (records_of code r (key_of op)) (evicted-in r (key_of op))

  -- a log that is the same has as many
  pub records-same : {I : Type 0} {keeps : Bool} {v w : PartitionView K V I} → IsSameLog keeps v w → IsTrue keeps → (k : K) → records_of code w.records k ≡ records_of code v.records k
  records-same log kept k = rw (log.partition_bits, log.bucket_bits, log.entries kept) refl

  -- what is read after the log stayed
  pub loads-since : {I : Type 0} {keeps : Bool} {v w : PartitionView K V I} {before then now : ℕ} → IsSameLog keeps v w → then ≡ before → IsTrue keeps → (k : K) → now ≤ then + 2 * records_of code w.records k → now ≤ before + 2 * records_of code v.records k
  loads-since {I} {keeps} {v} {w} {before} {then} {now} log steady kept k few = let same = records-same log kept k in omega (arith, steady)

-- where a session is the only one and has nothing open, no operation waits to confirm an entry
pub none-claims : {K V I : Type 0} {keeps : Bool} {cmp : K → K → Ordering} {join : V → V → V} {code : K → ℕ} (v : PartitionView K V I) → IsSound keeps cmp join code v → IsIdle v 0 → NoneClaims v
none-claims {K} {V} {I} v sound idle p = by (slice_get v.contexts p) refl
  where
    at : p ≡ p / 8 * 8 + p % 8
    at = let whole = div-add-mod p 8 in omega arith

    low : p % 8 < 8
    low = mod-lt p (omega arith)

    by : (o : Option (Option (OpenWork K V I))) → slice_get v.contexts p ≡ o → claim_at v.contexts p ≡ None
    by None h = rw h refl
    by (Some None) h = rw h refl
    by (Some (Some x)) h = absurd (
        let there : slice_get v.contexts (p / 8 * 8 + p % 8) ≡ Some (Some x) = subst (λ n. slice_get v.contexts n ≡ Some (Some x)) at h in
        let entered : is_session (slots_of v) (p / 8) ≡ true = sound.housed (p / 8) (p % 8) x low there in
        let slot = session-slot (slice_get (slots_of v) (p / 8)) entered in
        let first : p / 8 ≡ 0 = idle.settled.alone (p / 8) slot.0 slot.1 in
        let here : slice_get v.contexts (0 * 8 + p % 8) ≡ Some (Some x) = subst (λ n. slice_get v.contexts (n * 8 + p % 8) ≡ Some (Some x)) first there in
        let held : held_at v 0 (p % 8) ≡ joined (slice_get v.contexts (0 * 8 + p % 8)) = inside (slots_of v) v.contexts (p % 8) idle.entered low in
        let none : held_at v 0 (p % 8) ≡ None = none-held (held_at v 0 (p % 8)) (idle.free (p % 8)) (idle.relocations (p % 8)) in
        let bad : Some x ≡ None = sym (ap joined here) ∙ sym held ∙ none in cc)
