-- Only a read or an update waits for a page.
use Rattle.std.proofs.Common.{◌≡◌, ◌+◌, ◌*◌, ℕ, Bool, false, subst}
use Rattle.std.specs.declared.cmp.Ordering.{Ordering}
use Rattle.fkv_device.specs.Standing.{Standing}
use Rattle.fkv_operations.specs.declared.operations.KeyedOp.{KeyedOp}
use Rattle.fkv_operations.specs.declared.operations.KeyedOp.TheVariants.{Read, Upsert, Rmw, Delete, Merge}
use Rattle.fkv_partition.specs.declared.contexts.Phase.TheVariants.{Load}
use Rattle.fkv_partition.specs.KeySound.{IsSound, StandsFor}
use Rattle.fkv_partition.specs.Views.{PartitionView, slots_of}
use Rattle.fkv_alone.specs.Bound.{may_load}
use Rattle.fkv_alone.specs.Stages.{IsFetching}
use Rattle.fkv_partition.proofs.AskedLemmas.{key_at}

pub others-fetch-not : {K V I : Type 0} {keeps kept : Bool} {cmp : K → K → Ordering} {join : V → V → V} {code : K → ℕ} {op : KeyedOp K V I} {old v : PartitionView K V I} {slot c started a : ℕ} {s : Standing} → IsSound kept cmp join code v
    → IsFetching keeps cmp op old v slot c started s a → may_load op ≡ false → ⊥
others-fetch-not {K} {V} {I} {keeps} {kept} {cmp} {join} {code} {op} {old} {v} {slot} {c} {started} {a} {s} sound h merge =
    let x = h.operation in
    let at = key_at (slots_of v) v.contexts slot c x h.open_is.here in
    by op (subst (λ p. StandsFor kept cmp join code v.records op p) h.awaits.loading
    (subst (λ t. StandsFor kept cmp join code v.records t x.phase) h.open_is.op_is (sound.stands (slot * 8 + c) x at.here))) merge
  where
    by : (o : KeyedOp K V I) → StandsFor kept cmp join code v.records o (Load h.loading) → may_load o ≡ false → ⊥
    by (Read k i) t e = absurd (cc)
    by (Upsert k u) t e = t
    by (Rmw k i) t e = absurd (cc)
    by (Delete k) t e = t
    by (Merge k i) t e = t
