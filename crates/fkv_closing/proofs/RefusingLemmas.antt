-- Why a store is not closed, from why a step of it is refused.
use Rattle.std.proofs.Common.{◌≡◌, ◌≢◌, ◌⊎◌, inl, inr, ◌<◌, ◌≤◌, ◌^◌, ℕ, Bool, List, slice_set, refl, sym, ap, subst, ◌∙◌, arith}
use Rattle.std.proofs.lemmas.List.{set-get_or}
use Rattle.fkv_functions.specs.declared.refusals.Refused.{Refused}
use Rattle.fkv_functions.specs.declared.refusals.Refused.TheVariants.{NoMemory, Worn, Mismatch, Device, Damaged}
use Rattle.fkv_hybrid.specs.Scans.{IsScanRefusal}
use Rattle.fkv_device.specs.Failing.{ReadFailsBy}
use Rattle.fkv_partition.specs.Views.{PartitionView}
use Rattle.fkv_histories.specs.declared.entries.Entry.{Entry}
use Rattle.fkv_closing.specs.Closing.{AreNumbered, AreMerged, IsUnmerged}
use Rattle.fkv_closing.specs.Refusing.{IsUneven, IsUnsettled, IsUnread, IsUnclosed}

-- ---- the sums and the places
module _ {K V I : Type 0} (views : List (PartitionView K V I)) (shared booked : ℕ) where
  pub uneven_worn : (why : Refused) → IsUneven views shared booked why → (2 ^ 64 ≤ shared) ⊎ (2 ^ 64 ≤ booked) → why ≡ Worn
  uneven_worn Worn h past = refl
  uneven_worn Mismatch h past = absurd (elim past [ inl s ↦ omega (arith, s, h.0) | inr b ↦ omega (arith, b, h.1) ])
  uneven_worn other h past = absurd h

  pub uneven_mismatch : (why : Refused) → IsUneven views shared booked why → shared < 2 ^ 64 → booked < 2 ^ 64 → why ≡ Mismatch
  uneven_mismatch Worn h s b = absurd (elim h [ inl past ↦ omega (arith, past, s) | inr past ↦ omega (arith, past, b) ])
  uneven_mismatch Mismatch h s b = refl
  uneven_mismatch other h s b = absurd h

  pub uneven_only : (why : Refused) → IsUneven views shared booked why → why ≢ Worn → why ≢ Mismatch → ⊥
  uneven_only Worn h w m = w refl
  uneven_only Mismatch h w m = m refl
  uneven_only other h w m = h

  -- where they are as they have to be
  module _ (total : ℕ) (fits : total < 2 ^ 64) (s : total ≡ shared) (b : total ≡ booked) (n : AreNumbered views) where
    pub never_worn : (2 ^ 64 ≤ shared) ⊎ (2 ^ 64 ≤ booked) → ⊥
    never_worn past = elim past [ inl h ↦ omega (arith, h, fits, s) | inr h ↦ omega (arith, h, fits, b) ]

    pub never_apart : (shared ≢ booked) ⊎ ¬ AreNumbered views → ⊥
    never_apart apart = elim apart [ inl h ↦ h (sym s ∙ b) | inr h ↦ h n ]

-- ---- pages
reads_by : (page old new : ℕ) (e : Refused) → ReadFailsBy page old new e → (e ≡ NoMemory) ⊎ (((n : ℕ) × (e ≡ Damaged n)) ⊎ ((n : ℕ) × (e ≡ Device 3 n)))
reads_by page old new e f = elim f [
  | inl a ↦ elim a [ inl b ↦ inl b.0 | inr b ↦ inr (inr (page, b.0)) ]
  | inr b ↦ inr (inl (page, b.0))
]

pub scan_by : (keeps : Bool) (low flushed old new : ℕ) (e : Refused) → IsScanRefusal keeps low flushed old new e → (e ≡ NoMemory) ⊎ (((n : ℕ) × (e ≡ Damaged n)) ⊎ ((n : ℕ) × (e ≡ Device 3 n)))
scan_by keeps low flushed old new e (IsScanRefusal.memory a b) = inl a
scan_by keeps low flushed old new e (IsScanRefusal.at_page {page} a b why) = elim why [
  | inl r ↦ reads_by page old new e r
  | inr s ↦ inr (inl (page, s.1))
]

never_by : (e : Refused) → (e ≡ NoMemory → ⊥) → ((n : ℕ) → e ≡ Damaged n → ⊥) → ((n : ℕ) → e ≡ Device 3 n → ⊥) → (e ≡ NoMemory) ⊎ (((n : ℕ) × (e ≡ Damaged n)) ⊎ ((n : ℕ) × (e ≡ Device 3 n))) → ⊥
never_by e m d v h = elim h [
  | inl a ↦ m a
  | inr b ↦ elim b [ inl x ↦ d x.0 x.1 | inr x ↦ v x.0 x.1 ]
]

-- where it is want of memory, the reader counts no failure
scan_quiet : (keeps : Bool) (low flushed old new : ℕ) → IsScanRefusal keeps low flushed old new NoMemory → new ≡ old
scan_quiet keeps low flushed old new (IsScanRefusal.memory a b) = b
scan_quiet keeps low flushed old new (IsScanRefusal.at_page {page} a b why) = elim why [
  | inl r ↦ elim r [
    | inl t ↦ elim t [ inl memory ↦ memory.1 | inr device ↦ (let e : NoMemory ≡ Device 3 page = device.0 in absurd (cc)) ]
    | inr damaged ↦ (let e : NoMemory ≡ Damaged page = damaged.0 in absurd (cc))
  ]
  | inr spelled ↦ spelled.2
]

pub unread_quiet : {K V I : Type 0} (keeps : Bool) (views : List (PartitionView K V I)) (old new : List ℕ) → IsUnread keeps views old new NoMemory → new ≡ old
unread_quiet keeps views old new un =
    un.counts ∙ (ap (slice_set old un.partition) (scan_quiet keeps _ _ _ _ un.scan) ∙ set-get_or old un.partition 0)

-- ---- before the pages
module _ {K V I O : Type 0} (views : List (PartitionView K V I)) (histories : List (List (Entry K V I O))) (lists : ℕ → List (List (Entry K V I O))) (shared booked : ℕ) where
  pub by_uneven : (why : Refused) → IsUneven views shared booked why → IsUnsettled views histories lists shared booked why
  by_uneven Worn h = h
  by_uneven Mismatch h = elim h.2 [ inl apart ↦ inl apart | inr wrong ↦ inr (inl wrong) ]
  by_uneven other h = absurd h

  pub by_audit : (why : Refused) → ((why ≡ Mismatch) × IsUnmerged histories lists) ⊎ (why ≡ NoMemory) → IsUnsettled views histories lists shared booked why
  by_audit why h = elim h [
    | inl un ↦ subst (IsUnsettled views histories lists shared booked) (sym un.0) (inr (inr un.1))
    | inr memory ↦ subst (IsUnsettled views histories lists shared booked) (sym memory) tt
  ]

  pub unsettled_only : (why : Refused) → IsUnsettled views histories lists shared booked why → why ≢ Worn → why ≢ Mismatch → why ≢ NoMemory → ⊥
  unsettled_only Worn h w m n = w refl
  unsettled_only Mismatch h w m n = m refl
  unsettled_only NoMemory h w m n = n refl
  unsettled_only other h w m n = h

-- ---- the whole
module _ {K V I O : Type 0} (keeps : Bool) (views : List (PartitionView K V I)) (histories : List (List (Entry K V I O))) (lists : ℕ → List (List (Entry K V I O))) (shared booked : ℕ) (old new : List ℕ) where
  pub from_settled : new ≡ old → (why : Refused) → IsUnsettled views histories lists shared booked why → IsUnclosed keeps views histories lists shared booked old new why
  from_settled same Worn h = (h, same)
  from_settled same Mismatch h = (h, same)
  from_settled same NoMemory h = same
  from_settled same other h = absurd h

  pub from_memory : new ≡ old → (why : Refused) → why ≡ NoMemory → IsUnclosed keeps views histories lists shared booked old new why
  from_memory same why is = subst (IsUnclosed keeps views histories lists shared booked old new) (sym is) same

  pub from_unread : AreMerged histories lists → (why : Refused) → IsUnread keeps views old new why → IsUnclosed keeps views histories lists shared booked old new why
  from_unread merged Worn un = absurd (never_by Worn (λ e. cc) (λ n e. cc) (λ n e. cc) (scan_by keeps _ _ _ _ Worn un.scan))
  from_unread merged Mismatch un = absurd (never_by Mismatch (λ e. cc) (λ n e. cc) (λ n e. cc) (scan_by keeps _ _ _ _ Mismatch un.scan))
  from_unread merged NoMemory un = unread_quiet keeps views old new un
  from_unread merged other un = (merged, un)
