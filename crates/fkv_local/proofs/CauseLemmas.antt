-- Which device can have caused a refusal.
use Rattle.std.proofs.Common.{◌≡◌, ◌≢◌, ◌≤◌, ◌+◌, ◌⊎◌, ◌++◌, ◌∷◌, [], Bool, true, false, ℕ, inl, inr, IsTrue, List, Option, Some, length, take, drop, map, slice_get, slice_set, refl, sym, ◌∙◌, ap, subst, arith}
use Rattle.std.proofs.Math.ListN.{drop_of_length-le}
use Rattle.std.proofs.Math.Seq.{take-length}
use Rattle.std.proofs.lemmas.List.{append-nil}
use Rattle.fkv_functions.proofs.ListLemmas.{get-set_cases, get-append_cases}
use Rattle.fkv_functions.specs.declared.refusals.Refused.{Refused}
use Rattle.fkv_functions.specs.declared.refusals.Refused.TheVariants.{NoMemory, Worn, Device, Damaged}
use Rattle.fkv_device.specs.Failing.{FailsOnlyBy, ReadFailsBy}
use Rattle.fkv_device.specs.Standing.{Standing}
use Rattle.fkv_hybrid.specs.Scans.{MayFail, IsScanRefusal}
use Rattle.fkv_operations.specs.declared.operations.KeyedOp.{KeyedOp}
use Rattle.fkv_operations.specs.declared.operations.KeyedOp.TheVariants.{Read, Upsert, Rmw, Delete, Merge}
use Rattle.fkv_operations.specs.After.{is_merge}
use Rattle.fkv_alone.specs.Bound.{may_load}
use Rattle.fkv_alone.specs.Causes.{CanFailToRead}
use Rattle.fkv_alone.proofs.LoadsLemmas.{may-fail-can}
use Rattle.fkv_local.specs.Causing.{IsCausedBy, IsMemoryRefusal}
use Rattle.fkv_local.specs.Failures.{Failures}
use Rattle.fkv_local.specs.Moving.{IsMoveRefusal}
use Rattle.fkv_local.specs.Refusing.{IsWorkRefusal, IsStopped}
use Rattle.fkv_local.specs.Resting.{AreNumbered}
use Rattle.fkv_local.proofs.PartLemmas.{view-get, view-set}
use Rattle.fkv_local.proofs.WorkLemmas.{both}

more-other : (m n : ℕ) → m ≡ n + 1 → m ≢ n
more-other m n more same = omega arith

module _ (A B : Type 0) where
  pub worn-caused : {e : Refused} → e ≡ Worn → IsCausedBy A B e
  worn-caused a = subst (IsCausedBy A B) (sym a) tt

  pub memory-caused : {e : Refused} → e ≡ NoMemory → IsCausedBy A B e
  memory-caused a = subst (IsCausedBy A B) (sym a) tt

  -- a page was not written
  pub fails-caused : {page old new : ℕ} {e : Refused} → FailsOnlyBy 2 page old new e → (e ≢ NoMemory → A) → IsCausedBy A B e
  fails-caused (inl a) may = memory-caused a.0
  fails-caused (inr b) may = subst (IsCausedBy A B) (sym b.0) (inl (refl, may (λ none. let bad = sym b.0 ∙ none in absurd (cc))))

  counted-caused : {page old new : ℕ} {e : Refused} → FailsOnlyBy 2 page old new e → (new ≢ old → A) → IsCausedBy A B e
  counted-caused (inl a) may = memory-caused a.0
  counted-caused {page} {old} {new} (inr b) may = subst (IsCausedBy A B) (sym b.0) (inl (refl, may (more-other new old b.1)))

  -- or was not read
  pub reads-caused : {page old new : ℕ} {e : Refused} → ReadFailsBy page old new e → (e ≢ NoMemory → B) → IsCausedBy A B e
  reads-caused (inl (inl a)) may = memory-caused a.0
  reads-caused (inl (inr b)) may = subst (IsCausedBy A B) (sym b.0) (inr (refl, may (λ none. let bad = sym b.0 ∙ none in absurd (cc))))
  reads-caused (inr b) may = subst (IsCausedBy A B) (sym b.0) (may (λ none. let bad = sym b.0 ∙ none in absurd (cc)))

  read-counted : {page old new : ℕ} {e : Refused} → ReadFailsBy page old new e → (new ≢ old → B) → IsCausedBy A B e
  read-counted (inl (inl a)) may = memory-caused a.0
  read-counted {page} {old} {new} (inl (inr b)) may = subst (IsCausedBy A B) (sym b.0) (inr (refl, may (more-other new old b.1)))
  read-counted {page} {old} {new} (inr b) may = subst (IsCausedBy A B) (sym b.0) (may (more-other new old b.1))

  -- by what was counted
  pub work-caused : {keeps : Bool} {tail clock w w_now r r_now : ℕ} {e : Refused} → IsTrue keeps → IsWorkRefusal keeps tail clock (both w r) (both w_now r_now) e → (w_now ≢ w → A) → (r_now ≢ r → B) → IsCausedBy A B e
  work-caused kept (IsWorkRefusal.no_memory a s) writes reads = memory-caused a
  work-caused kept (IsWorkRefusal.unwritten page a s) writes reads = counted-caused a writes
  work-caused kept (IsWorkRefusal.unread page a s) writes reads = read-counted a reads
  work-caused kept (IsWorkRefusal.misspelled page loose a s) writes reads = absurd (loose kept)
  work-caused kept (IsWorkRefusal.no_address a t s) writes reads = worn-caused a
  work-caused kept (IsWorkRefusal.no_moment a t s) writes reads = worn-caused a

  pub stopped-caused : {K V I : Type 0} {keeps merges : Bool} {op : KeyedOp K V I} {tail clock w w_now r r_now : ℕ} {e : Refused} → IsTrue keeps → IsStopped keeps merges op tail clock (both w r) (both w_now r_now) e → (w_now ≢ w → A) → (r_now ≢ r → B) → IsCausedBy A B e
  stopped-caused kept (IsStopped.unworked h) writes reads = work-caused kept h writes reads
  stopped-caused kept (IsStopped.unmerged a m f s) writes reads = subst (IsCausedBy A B) (sym a) tt

  pub move-caused : {clock w w_now : ℕ} {e : Refused} → IsMoveRefusal clock w w_now e → (w_now ≢ w → A) → IsCausedBy A B e
  move-caused (IsMoveRefusal.worn a b s) writes = worn-caused a
  move-caused (IsMoveRefusal.no_memory a s) writes = memory-caused a
  move-caused (IsMoveRefusal.unwritten page a) writes = counted-caused a writes

-- a reader that counted nothing caused nothing
other-caused : (A B C : Type 0) {keeps : Bool} {tail clock w w_now r r_now : ℕ} {e : Refused} → IsTrue keeps → r_now ≡ r → IsWorkRefusal keeps tail clock (both w r) (both w_now r_now) e → IsCausedBy A C e → IsCausedBy A B e
other-caused A B C kept same (IsWorkRefusal.no_memory a s) h = memory-caused A B a
other-caused A B C kept same (IsWorkRefusal.unwritten page (inl a) s) h = memory-caused A B a.0
other-caused A B C {e = e} kept same (IsWorkRefusal.unwritten page (inr b) s) h = elim (subst (IsCausedBy A C) b.0 h) [
  | inl w ↦ subst (IsCausedBy A B) (sym b.0) (inl (refl, w.1))
  | inr r ↦ (let bad = r.0 in absurd (omega arith))
]
other-caused A B C kept same (IsWorkRefusal.unread page (inl (inl a)) s) h = memory-caused A B a.0
other-caused A B C kept same (IsWorkRefusal.unread page (inl (inr b)) s) h = let more = b.1 in absurd (omega arith)
other-caused A B C kept same (IsWorkRefusal.unread page (inr b) s) h = let more = b.1 in absurd (omega arith)
other-caused A B C kept same (IsWorkRefusal.misspelled page loose a s) h = absurd (loose kept)
other-caused A B C kept same (IsWorkRefusal.no_address a t s) h = worn-caused A B a
other-caused A B C kept same (IsWorkRefusal.no_moment a t s) h = worn-caused A B a

pub unread-caused : (A B C : Type 0) {K V I : Type 0} {keeps merges : Bool} {op : KeyedOp K V I} {tail clock w w_now r r_now : ℕ} {e : Refused} → IsTrue keeps → r_now ≡ r → IsStopped keeps merges op tail clock (both w r) (both w_now r_now) e → IsCausedBy A C e → IsCausedBy A B e
unread-caused A B C kept same (IsStopped.unworked h) c = other-caused A B C kept same h c
unread-caused A B C kept same (IsStopped.unmerged a m f s) c = subst (IsCausedBy A B) (sym a) tt

-- a page that is listed
pub listed-caused : (A : Type 0) {R : Type 0} {stands : R → Standing} {can_fail : R → ℕ → Type 0} {receipts : List (Option Standing)} {bits : ℕ} {e : Refused} {keeps : Bool} {low flushed old new : ℕ} → IsTrue keeps → IsScanRefusal keeps low flushed old new e
    → (e ≢ NoMemory → (page : ℕ) × MayFail stands can_fail receipts bits page) → IsCausedBy A (CanFailToRead stands can_fail) e
listed-caused A {stands = stands} {can_fail = can_fail} kept (IsScanRefusal.memory a s) may = memory-caused A (CanFailToRead stands can_fail) a
listed-caused A {stands = stands} {can_fail = can_fail} kept (IsScanRefusal.at_page low high (inl h)) may = reads-caused A (CanFailToRead stands can_fail) h (λ other. may-fail-can (may other).1)
listed-caused A kept (IsScanRefusal.at_page low high (inr h)) may = absurd (h.0 kept)

-- ---- a list that was lent whole comes back whole
pub lent-whole : {S : Type 0} (xs ys : List S) (n : ℕ) → n ≡ length xs → length ys ≡ length xs → take n (ys ++ drop (length ys) xs) ≡ ys
lent-whole {S} xs ys n long same =
    ap (λ zs. take n (ys ++ zs)) (drop_of_length-le xs {i = length ys} (omega arith))
    ∙ ap (take n) (append-nil ys)
    ∙ ap (λ m. take m ys) (long ∙ sym same)
    ∙ take-length ys

-- ---- receipts that writers have given
pub numbered-more : {W : Type 0} (next : W → ℕ) (ws : List W) (w : W) (now : ℕ) → AreNumbered next ws now → next w ≤ now → AreNumbered next (ws ++ w ∷ []) now
numbered-more next ws w now before low p u at = elim (get-append_cases ws w p u at) [
  | inl was ↦ before p u was
  | inr new ↦ subst (λ z. next z ≤ now) new.1 low
]

pub numbered-later : {W : Type 0} (next : W → ℕ) (ws : List W) (now then : ℕ) → AreNumbered next ws now → now ≤ then → AreNumbered next ws then
numbered-later next ws now then before later p u at = let low = before p u at in omega arith

module _ {S W : Type 0} (writer : S → W) (next : W → ℕ) (items : List S) (now : ℕ) (home : ℕ) (x : S) (numbered : AreNumbered next (map writer items) now) (here : slice_get items home ≡ Some x) where
  pub home-numbered : next (writer x) ≤ now
  home-numbered = numbered home (writer x) (view-get writer items home x here)

  pub numbered-set : (y : S) (then : ℕ) → next (writer y) ≤ then → now ≤ then → AreNumbered next (map writer (slice_set items home y)) then
  numbered-set y then low later p w at = by (get-set_cases (map writer items) home p (writer y) w (subst (λ ws. slice_get ws p ≡ Some w) (view-set writer items home y) at))
    where
      by : ((p ≡ home) × (writer y ≡ w)) ⊎ (slice_get (map writer items) p ≡ Some w) → next w ≤ then
      by (inl set) = subst (λ u. next u ≤ then) set.1 low
      by (inr was) = let before = numbered p w was in omega arith

pub merge-loads : {K V I : Type 0} (op : KeyedOp K V I) → is_merge op ≡ true → may_load op ≡ false
merge-loads (Read k i) h = absurd (cc)
merge-loads (Upsert k v) h = refl
merge-loads (Rmw k i) h = absurd (cc)
merge-loads (Delete k) h = refl
merge-loads (Merge k i) h = refl

-- ---- where no device can fail
module _ {A B K V I : Type 0} (merges : Bool) (op : KeyedOp K V I) {e : Refused} (no_write : A → ⊥) (no_read : B → ⊥) where
  as-memory : e ≡ NoMemory → IsMemoryRefusal merges op e
  as-memory a = subst (IsMemoryRefusal merges op) (sym a) tt

  as-worn : e ≡ Worn → IsMemoryRefusal merges op e
  as-worn a = subst (IsMemoryRefusal merges op) (sym a) tt

  no-device : {code page : ℕ} → IsCausedBy A B e → e ≡ Device code page → ⊥
  no-device {code} {page} caused a = elim (subst (IsCausedBy A B) a caused) [ inl w ↦ no_write w.1 | inr r ↦ no_read r.1 ]

  no-damage : {page : ℕ} → IsCausedBy A B e → e ≡ Damaged page → ⊥
  no-damage caused a = no_read (subst (IsCausedBy A B) a caused)

  memory-work : {keeps : Bool} {tail clock : ℕ} {old now : Failures} → IsCausedBy A B e → IsWorkRefusal keeps tail clock old now e → IsMemoryRefusal merges op e
  memory-work caused (IsWorkRefusal.no_memory a s) = as-memory a
  memory-work caused (IsWorkRefusal.unwritten page (inl a) s) = as-memory a.0
  memory-work caused (IsWorkRefusal.unwritten page (inr b) s) = absurd (no-device caused b.0)
  memory-work caused (IsWorkRefusal.unread page (inl (inl a)) s) = as-memory a.0
  memory-work caused (IsWorkRefusal.unread page (inl (inr b)) s) = absurd (no-device caused b.0)
  memory-work caused (IsWorkRefusal.unread page (inr b) s) = absurd (no-damage caused b.0)
  memory-work caused (IsWorkRefusal.misspelled page loose a s) = absurd (no-damage caused a)
  memory-work caused (IsWorkRefusal.no_address a t s) = as-worn a
  memory-work caused (IsWorkRefusal.no_moment a t s) = as-worn a

  pub memory-stopped : {keeps : Bool} {tail clock : ℕ} {old now : Failures} → IsCausedBy A B e → IsStopped keeps merges op tail clock old now e → IsMemoryRefusal merges op e
  memory-stopped caused (IsStopped.unworked h) = memory-work caused h
  memory-stopped caused (IsStopped.unmerged a m f s) = subst (IsMemoryRefusal merges op) (sym a) (m, f)
