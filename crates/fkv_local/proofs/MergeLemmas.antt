-- Updates that read no page, and merges in their place.
use Rattle.std.proofs.Common.{◌≡◌, Bool, true, false, ℕ, inl, inr, IsTrue, Result, refl, ap, subst, arith}
use Rattle.std.specs.declared.cmp.Ordering.{Ordering}
use Rattle.fkv_functions.specs.Meanings.{Meanings}
use Rattle.fkv_functions.specs.declared.refusals.Refused.{Refused}
use Rattle.fkv_operations.specs.declared.operations.KeyedOp.{KeyedOp}
use Rattle.fkv_operations.specs.declared.operations.KeyedOp.TheVariants.{Rmw, Merge}
use Rattle.fkv_operations.specs.declared.operations.Answer.{Answer}
use Rattle.fkv_partition.specs.Views.{PartitionView}
use Rattle.fkv_local.specs.Resting.{IsIdle}
use Rattle.fkv_local.specs.Storing.{Updates}
use Rattle.fkv_local.specs.Failures.{Failures}
use Rattle.fkv_local.specs.Refusing.{IsWorkRefusal, IsStopped}
use Rattle.fkv_local.proofs.WorkLemmas.{both, same-both}

module _ {K V I : Type 0} {keeps : Bool} {cmp : K → K → Ordering} where
  -- what every end of it leaves
  pub updates-number : {O : Type 0} {f : Meanings K V I O} {k : K} {i : I} {u w : PartitionView K V I} {r : Result (Answer O) Refused} → Updates keeps cmp f u w k i r → w.number ≡ u.number
  updates-number (inl h) = h.number
  updates-number (inr h) = h.number

  pub updates-count : {O : Type 0} {f : Meanings K V I O} {k : K} {i : I} {u w : PartitionView K V I} {r : Result (Answer O) Refused} → Updates keeps cmp f u w k i r → w.count ≡ u.count
  updates-count (inl h) = h.count
  updates-count (inr h) = h.count

  pub updates-idle : {O : Type 0} {f : Meanings K V I O} {k : K} {i : I} {u w : PartitionView K V I} {r : Result (Answer O) Refused} → Updates keeps cmp f u w k i r → IsIdle w 0
  updates-idle (inl h) = h.idle
  updates-idle (inr h) = h.idle

-- no page was asked for, so none was read by the reader that was not used
module _ {keeps : Bool} {tail clock writes writes_now : ℕ} {e : Refused} where
  unread-work : {n m : ℕ} → m ≡ n → IsWorkRefusal keeps tail clock (both writes n) (both writes_now m) e → (reads : ℕ) → IsWorkRefusal keeps tail clock (both writes reads) (both writes_now reads) e
  unread-work same (IsWorkRefusal.no_memory a s) reads = IsWorkRefusal.no_memory a (same-both (ap (λ (f : Failures). f.writes) s) refl)
  unread-work same (IsWorkRefusal.unwritten page a s) reads = IsWorkRefusal.unwritten page a refl
  unread-work same (IsWorkRefusal.unread page (inl (inl a)) s) reads = IsWorkRefusal.no_memory a.0 (same-both s refl)
  unread-work same (IsWorkRefusal.unread page (inl (inr a)) s) reads = let more = a.1 in absurd (omega arith)
  unread-work same (IsWorkRefusal.unread page (inr a) s) reads = let more = a.1 in absurd (omega arith)
  unread-work same (IsWorkRefusal.misspelled page a b s) reads = IsWorkRefusal.misspelled page a b (same-both (ap (λ (f : Failures). f.writes) s) refl)
  unread-work same (IsWorkRefusal.no_address a t s) reads = IsWorkRefusal.no_address a t (same-both (ap (λ (f : Failures). f.writes) s) refl)
  unread-work same (IsWorkRefusal.no_moment a t s) reads = IsWorkRefusal.no_moment a t (same-both (ap (λ (f : Failures). f.writes) s) refl)

module _ {K V I : Type 0} {keeps merges : Bool} {op : KeyedOp K V I} {tail clock writes writes_now : ℕ} {e : Refused} where
  pub unread-stopped : {n m : ℕ} → m ≡ n → IsStopped keeps merges op tail clock (both writes n) (both writes_now m) e → (reads : ℕ) → IsStopped keeps merges op tail clock (both writes reads) (both writes_now reads) e
  unread-stopped same (IsStopped.unworked h) reads = IsStopped.unworked (unread-work same h reads)
  unread-stopped same (IsStopped.unmerged a m f s) reads = IsStopped.unmerged a m f (same-both (ap (λ (f : Failures). f.writes) s) refl)

-- a merge of functions that merge is refused as an update is
pub merge-stopped : {K V I : Type 0} {keeps merges : Bool} {k : K} {i : I} {tail clock : ℕ} {old now : Failures} {e : Refused} → IsTrue merges
    → IsStopped {V = V} keeps merges (Merge k i) tail clock old now e → IsStopped {V = V} keeps merges (Rmw k i) tail clock old now e
merge-stopped merging (IsStopped.unworked h) = IsStopped.unworked h
merge-stopped merging (IsStopped.unmerged a m f s) = absurd (let bad : false ≡ true = subst IsTrue f merging in cc)
