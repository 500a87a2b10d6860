-- What the end of a store is refused by.
use Rattle.std.proofs.Common.{◌≡◌, ◌∙◌, ⊎_elim, inl, inr, refl, sym, ℕ, Bool, List, Result, Ok, Err}
use Rattle.fkv_functions.specs.declared.refusals.Refused.{Refused}
use Rattle.fkv_functions.specs.declared.refusals.Refused.TheVariants.{NoMemory, BadConfig, NoSlot, NoContext, Unknown, Busy, NotDue, DrainFull, Stranger, Worn, Device, Damaged, Stalled, Mismatch, BadRow, BadScript, NotReady, Unreadable, Unwritable, NoMerge}
use Rattle.fkv_device.specs.Failing.{ReadFailsBy}
use Rattle.fkv_hybrid.specs.Scans.{IsStepRefusal, IsScanRefusal}
use Rattle.fkv_hybrid.specs.Scans.IsScanRefusal.{memory, at_page}
use Rattle.fkv_partition.specs.Views.{PartitionView}
use Rattle.fkv_histories.specs.declared.entries.Entry.{Entry}
use Rattle.fkv_closing.specs.Closing.{AreMerged}
use Rattle.fkv_closing.specs.Refusing.{IsUnclosed, IsUnsettled, IsUnread}
use Rattle.fkv_store.specs.Stores.{IsClosing, IsEnding, IsUnlisted, IsUnopened}

-- a page that is not read
unread : (page old new : ℕ) (why : Refused) → ReadFailsBy page old new why → IsUnlisted why
unread page old new why h =
    ⊎_elim (⊎_elim (λ m. rw m.0 tt) (λ d. rw d.0 refl)) (λ d. rw d.0 tt) h

step : (keeps : Bool) (page old new : ℕ) (why : Refused) → IsStepRefusal keeps page old new why → IsUnlisted why
step keeps page old new why h = ⊎_elim (unread page old new why) (λ d. rw d.1 tt) h

pub scan : (keeps : Bool) (low flushed old new : ℕ) (why : Refused) → IsScanRefusal keeps low flushed old new why → IsUnlisted why
scan keeps low flushed old new why (memory is same) = rw is tt
scan keeps low flushed old new why (at_page {page} from below h) = step keeps page old new why h

-- what is refused before pages are read, and of one partition, is refused of the whole
pub ending_closing : (why : Refused) → IsEnding why → IsClosing why
ending_closing NoMemory h = tt
ending_closing Worn h = tt
ending_closing (Device code page) h = inl h
ending_closing Mismatch h = tt
ending_closing other h = absurd h

pub unlisted_closing : (why : Refused) → IsUnlisted why → IsClosing why
unlisted_closing NoMemory h = tt
unlisted_closing (Device code page) h = inr h
unlisted_closing (Damaged page) h = tt
unlisted_closing other h = absurd h

pub unsettled : {K V I O : Type 0} (views : List (PartitionView K V I)) (histories : List (List (Entry K V I O))) (lists : ℕ → List (List (Entry K V I O)))
    (shared booked : ℕ) (why : Refused) → IsUnsettled views histories lists shared booked why → IsEnding why
unsettled views histories lists shared booked NoMemory h = tt
unsettled views histories lists shared booked Worn h = tt
unsettled views histories lists shared booked Mismatch h = tt
unsettled views histories lists shared booked other h = absurd h

module _ {K V I O : Type 0} (keeps : Bool) (views : List (PartitionView K V I)) (histories : List (List (Entry K V I O)))
    (lists : ℕ → List (List (Entry K V I O))) (old new : List ℕ) where
  other : (why : Refused) → AreMerged histories lists × IsUnread keeps views old new why → IsClosing why
  other why h = unlisted_closing why (scan keeps _ _ _ _ why h.1.scan)

  pub unclosed : (shared booked : ℕ) (why : Refused) → IsUnclosed keeps views histories lists shared booked old new why
      → IsClosing why
  unclosed shared booked NoMemory h = tt
  unclosed shared booked Worn h = tt
  unclosed shared booked (Device code page) h = other (Device code page) h
  unclosed shared booked (Damaged page) h = tt
  unclosed shared booked Mismatch h = tt
  unclosed shared booked BadConfig h = other BadConfig h
  unclosed shared booked NoSlot h = other NoSlot h
  unclosed shared booked NoContext h = other NoContext h
  unclosed shared booked Unknown h = other Unknown h
  unclosed shared booked Busy h = other Busy h
  unclosed shared booked NotDue h = other NotDue h
  unclosed shared booked DrainFull h = other DrainFull h
  unclosed shared booked (Stranger what held came) h = other (Stranger what held came) h
  unclosed shared booked Stalled h = other Stalled h
  unclosed shared booked (BadRow feed row) h = other (BadRow feed row) h
  unclosed shared booked (BadScript line) h = other (BadScript line) h
  unclosed shared booked NotReady h = other NotReady h
  unclosed shared booked (Unreadable number) h = other (Unreadable number) h
  unclosed shared booked Unwritable h = other Unwritable h
  unclosed shared booked NoMerge h = other NoMerge h

-- a device that does not open, or no memory
pub ending_unopened : (why : Refused) → IsUnopened why → IsEnding why
ending_unopened why h = ⊎_elim (λ memory. rw memory tt) (λ device. rw device (refl, refl)) h

-- a result is refused once
pub same_refusal : {A : Type 0} (r : Result A Refused) (e f : Refused) → r ≡ Err e → r ≡ Err f → e ≡ f
same_refusal (Ok x) e f is too = absurd (cc)
same_refusal (Err d) e f is too =
    let a : d ≡ e = cc in
    let b : d ≡ f = cc in
    sym a ∙ b
