-- Why work at a partition is refused, and what its writer and reader have counted then.
use Rattle.std.proofs.Common.{◌≡◌, Bool, false, ℕ, ◌+◌, ◌^◌, ◌≤◌, inl, inr, Result, Ok, Err, IfErr, OnOk, sym, ◌∙◌, ap, subst, arith}
use Rattle.fkv_functions.specs.declared.refusals.Refused.{Refused}
use Rattle.fkv_functions.specs.declared.refusals.Refused.TheVariants.{Worn}
use Rattle.fkv_local.specs.Failures.{Failures, FailsOnceAtMost, IsBeside}
use Rattle.fkv_local.specs.Moving.{IsMoveRefusal}
use Rattle.fkv_local.specs.Refusing.{IsWorkRefusal}

abbrev pub both : ℕ → ℕ → Failures
both writes reads = record { writes = writes; reads = reads }

pub same-both : {w w_now r r_now : ℕ} → w_now ≡ w → r_now ≡ r → both w_now r_now ≡ both w r
same-both {w} {w_now} {r} {r_now} p q = ap (λ n. both n r_now) p ∙ ap (both w) q

module _ {keeps : Bool} {w w_now r r_now : ℕ} {e : Refused} where
  -- pages are not moved on
  pub move-work : {tail clock : ℕ} → IsMoveRefusal clock w w_now e → r_now ≡ r → IsWorkRefusal keeps tail clock (both w r) (both w_now r_now) e
  move-work (IsMoveRefusal.worn a b s) same = IsWorkRefusal.no_moment a (omega arith) (same-both s same)
  move-work (IsMoveRefusal.no_memory a s) same = IsWorkRefusal.no_memory a (same-both s same)
  move-work (IsMoveRefusal.unwritten page a) same = IsWorkRefusal.unwritten page a same

  -- no moment is left
  pub worn-work : {tail clock : ℕ} → e ≡ Worn → 2 ^ 64 ≤ clock + 2 → w_now ≡ w → r_now ≡ r → IsWorkRefusal keeps tail clock (both w r) (both w_now r_now) e
  worn-work a b s t = IsWorkRefusal.no_moment a b (same-both s t)

  -- at a later moment, where the tail is the same
  pub work-later : {tail tail_now clock clock_now : ℕ} → tail_now ≡ tail → clock ≤ clock_now → IsWorkRefusal keeps tail clock (both w r) (both w_now r_now) e → IsWorkRefusal keeps tail_now clock_now (both w r) (both w_now r_now) e
  work-later at later (IsWorkRefusal.no_memory a s) = IsWorkRefusal.no_memory a s
  work-later at later (IsWorkRefusal.unwritten page a s) = IsWorkRefusal.unwritten page a s
  work-later at later (IsWorkRefusal.unread page a s) = IsWorkRefusal.unread page a s
  work-later at later (IsWorkRefusal.misspelled page a b s) = IsWorkRefusal.misspelled page a b s
  work-later at later (IsWorkRefusal.no_address a b s) = IsWorkRefusal.no_address a (at ∙ b) s
  work-later at later (IsWorkRefusal.no_moment a b s) = IsWorkRefusal.no_moment a (omega arith) s

  -- one end has failed at most
  pub work-once : {tail clock : ℕ} → IsWorkRefusal keeps tail clock (both w r) (both w_now r_now) e → FailsOnceAtMost (both w r) (both w_now r_now)
  work-once (IsWorkRefusal.no_memory a s) = inl s
  work-once (IsWorkRefusal.unwritten page (inl a) s) = inl (same-both a.1 s)
  work-once (IsWorkRefusal.unwritten page (inr a) s) = inr (inl (same-both a.1 s))
  work-once (IsWorkRefusal.unread page (inl (inl a)) s) = inl (same-both s a.1)
  work-once (IsWorkRefusal.unread page (inl (inr a)) s) = inr (inr (same-both s a.1))
  work-once (IsWorkRefusal.unread page (inr a) s) = inr (inr (same-both s a.1))
  work-once (IsWorkRefusal.misspelled page a b s) = inl s
  work-once (IsWorkRefusal.no_address a b s) = inl s
  work-once (IsWorkRefusal.no_moment a b s) = inl s

-- from counts that are the same
pub work-since : {keeps : Bool} {tail clock : ℕ} {old before now : Failures} {e : Refused} → before ≡ old → IsWorkRefusal keeps tail clock before now e → IsWorkRefusal keeps tail clock old now e
work-since {keeps} {tail} {clock} {old} {before} {now} {e} same h = subst (λ f. IsWorkRefusal keeps tail clock f now e) same h

-- to counts that are the same
pub work-until : {keeps : Bool} {tail clock : ℕ} {old now then : Failures} {e : Refused} → then ≡ now → IsWorkRefusal keeps tail clock old now e → IsWorkRefusal keeps tail clock old then e
work-until {keeps} {tail} {clock} {old} {now} {then} {e} same h = subst (λ f. IsWorkRefusal keeps tail clock old f e) (sym same) h

-- what a compaction that a store began by itself has counted
pub work-beside : {A : Type 0} {keeps_log : Bool} {old now : Failures} (result : Result A Refused) → keeps_log ≡ false → OnOk result (now ≡ old) → IfErr result (λ _. FailsOnceAtMost old now) → IsBeside keeps_log old now
work-beside (Ok a) compacts same told = inl same
work-beside (Err e) compacts same told = inr (compacts, told)
