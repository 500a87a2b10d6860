-- What is kept under the lock of a partition with nothing in it.
use Rattle.std.proofs.Common.{◌≡◌, ◌≤◌, Bool, ℕ, zero, suc, false, List, [], Some, None, replicate, slice_index, refl, sym, ◌∙◌, arith}
use Rattle.std.specs.declared.cmp.Ordering.{Ordering}
use Rattle.fkv_functions.specs.Meanings.{Meanings}
use Rattle.fkv_partition.specs.declared.limits.Config.{Config}
use Rattle.fkv_partition.specs.Contexts.{is_session}
use Rattle.fkv_partition.specs.Effect.{asked}
use Rattle.fkv_partition.specs.Views.{PartitionView, empty_partition}
use Rattle.fkv_partition.proofs.EffectLemmas.{closed-pending}
use Rattle.fkv_histories.specs.declared.entries.Entry.{Entry}
use Rattle.fkv_histories.proofs.HistoryLemmas.{legal_empty}
use Rattle.fkv_locked.specs.Kept.{seen, IsFaithful}

no-session : (n slot : ℕ) → is_session (replicate n None) slot ≡ false
no-session zero slot = refl
no-session (suc n) zero = refl
no-session (suc n) (suc slot) = no-session n slot

no-marks : (n i : ℕ) → slice_index (replicate n 0) i ≡ 0
no-marks zero i = refl
no-marks (suc n) zero = refl
no-marks (suc n) (suc i) = no-marks n i

pub kept_empty : {K V I O : Type 0} (cmp : K → K → Ordering) (f : Meanings K V I O) (merges : Bool) (config : Config) (size number : ℕ) (v : PartitionView K V I) (es : List (Entry K V I O)) (lows looks : List ℕ)
    → v ≡ empty_partition merges config size number
    → es ≡ []
    → lows ≡ replicate 128 0
    → IsFaithful cmp f (seen cmp v) es lows looks 0
kept_empty {K} {V} {I} cmp f merges config size number v es lows looks v_is es_is lows_is = rw (v_is, es_is, lows_is) (record {
  legal = legal_empty cmp f;
  live = λ q. refl;
  issued = λ i. (let none = no-marks 128 i in omega arith);
  past = λ slot c p h.
      let out : is_session (replicate 16 None) slot ≡ false = no-session 16 slot in
      let none : asked (empty_partition {K = K} {V = V} {I = I} merges config size number) slot c ≡ None = rw out refl in
      let bad : None ≡ Some p = sym (closed-pending (empty_partition merges config size number) slot c cmp none) ∙ h in
      absurd (cc);
  counted = refl;
})

pub early_empty : {K V I : Type 0} (merges : Bool) (config : Config) (size number clock : ℕ) (v : PartitionView K V I) → v ≡ empty_partition merges config size number → v.moment ≤ clock
early_empty merges config size number clock v v_is = rw v_is (omega arith)
