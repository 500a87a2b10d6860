-- The steps that reach the device.
use Rattle.std.proofs.Common.{◌≡◌, ℕ, zero, suc, ◌∷◌, ◌<◌, ◌⊎◌, inl, inr, true, false, List, [], length, map, Option, Some, None, option_map, Ok, Err, slice_get, slice_set, slice_index_or, unwrap_or, IsSome, is_none, is_some, refl, sym, ◌∙◌, ap, subst, arith}
use Rattle.std.proofs.lemmas.Option.{slice_get-map}
use Rattle.std.specs.declared.cmp.Ordering.{Ordering}
use Rattle.fkv_functions.specs.Meanings.{Meanings}
use Rattle.fkv_functions.specs.declared.refusals.Refused.{Refused}
use Rattle.fkv_functions.specs.declared.refusals.Refused.TheVariants.{NoMemory, NotDue}
use Rattle.fkv_device.specs.Standing.{Standing}
use Rattle.fkv_device.specs.declared.messages.FlushJob.{FlushJob}
use Rattle.fkv_texts.specs.declared.entries.Entry.{Entry}
use Rattle.fkv_partition.specs.Views.{PartitionView, at_moment}
use Rattle.fkv_partition.specs.Effect.{IsQuiet}
use Rattle.fkv_partition.specs.Events.{Flushes}
use Rattle.fkv_worlds.specs.declared.flush_slots.FlushSlot.{FlushSlot}
use Rattle.fkv_lives.specs.declared.outcomes.Outcome.TheVariants as outcome
use Rattle.fkv_lives.specs.declared.steps.Access.{Access}
use Rattle.fkv_lives.specs.declared.steps.Access.TheVariants.{Works}
use Rattle.fkv_lives.specs.declared.steps.Step.TheVariants.{Take, Write}
use Rattle.fkv_worlds.specs.Devices.{receipt_of, Unwritten, Spoils}
use Rattle.fkv_worlds.specs.Refusing as refusing
use Rattle.fkv_worlds.specs.States.{StateView, job_in, is_unasked}
use Rattle.fkv_worlds.specs.Moments.{IsMomentIn}
use Rattle.fkv_worlds.specs.Acts.{Acts}
use Rattle.fkv_worlds.specs.Sound.{IsState}
use Rattle.fkv_worlds.proofs.ResultLemmas.{some_of, some_there, some_not_none, not_some_none}
use Rattle.fkv_worlds.proofs.StateLemmas.{at-index, set-unchanged}
use Rattle.fkv_worlds.proofs.ActsLemmas.{acts-refused, acts-take, acts-spoil, acts-write}
use Rattle.fkv_worlds.proofs.EventLemmas.{here}

-- ---- flush slots
map-set : {A B : Type 0} (f : A → B) (xs : List A) (i : ℕ) (y : A) → map f (slice_set xs i y) ≡ slice_set (map f xs) i (f y)
map-set f [] i y = refl
map-set f (x ∷ xs) zero y = refl
map-set f (x ∷ xs) (suc i) y = ap (λ ys. f x ∷ ys) (map-set f xs i y)

len-map : {A B : Type 0} (f : A → B) (xs : List A) → length (map f xs) ≡ length xs
len-map f [] = refl
len-map f (x ∷ xs) = ap suc (len-map f xs)

-- a flush slot for each row of the jobs
pub flush_slot-there : (flush_slots : List FlushSlot) (p : ℕ) → p < length (map (λ (e : FlushSlot). e.job) flush_slots) → p < length flush_slots
flush_slot-there flush_slots p low = let l = len-map (λ (e : FlushSlot). e.job) flush_slots in omega arith

-- the page in a flush slot
pub flush_slot-job : (flush_slots : List FlushSlot) (p : ℕ) (d : FlushSlot) → p < length (map (λ (e : FlushSlot). e.job) flush_slots) → d ≡ slice_index_or flush_slots p d → job_in (map (λ (e : FlushSlot). e.job) flush_slots) p ≡ d.job
flush_slot-job flush_slots p d low is =
    let l = len-map (λ (e : FlushSlot). e.job) flush_slots in
    let at : slice_get flush_slots p ≡ Some d = at-index flush_slots p d (omega arith) is in
    ap (λ o. unwrap_or o None) (slice_get-map (λ (e : FlushSlot). e.job) flush_slots p ∙ ap (option_map (λ (e : FlushSlot). e.job)) at)

-- which is there where it is not none
pub job-there : {o d : Option FlushJob} → o ≡ d → is_none o ≡ false → (job : FlushJob) × (o ≡ Some job) × (d ≡ Some job)
job-there {o = o} e h = let job = some_of o h in (job.0, job.1, sym e ∙ job.1)

pub job-some : {o d : Option FlushJob} → o ≡ d → is_none o ≡ false → IsSome d
job-some {o = o} {d = d} e h = some_there d (ap is_none (sym e) ∙ h)

-- where no page is in a flush slot, a write answers nothing
pub flush_slot-idle : (flush_slots : List FlushSlot) (p : ℕ) (d : FlushSlot) → p < length (map (λ (e : FlushSlot). e.job) flush_slots) → d ≡ slice_index_or flush_slots p d → is_some d.job ≡ false → is_none (job_in (map (λ (e : FlushSlot). e.job) flush_slots) p) ≡ true
flush_slot-idle flush_slots p d low is h = rw (flush_slot-job flush_slots p d low is) (not_some_none d.job h)

pub flush_slot-busy : (flush_slots : List FlushSlot) (p : ℕ) (d : FlushSlot) → p < length (map (λ (e : FlushSlot). e.job) flush_slots) → d ≡ slice_index_or flush_slots p d → is_some d.job ≡ true → is_none (job_in (map (λ (e : FlushSlot). e.job) flush_slots) p) ≡ false
flush_slot-busy flush_slots p d low is h = rw (flush_slot-job flush_slots p d low is) (some_not_none d.job h)

-- the jobs where a flush slot has another one
pub flush_slot-set : (flush_slots : List FlushSlot) (p : ℕ) (d : FlushSlot) (job : Option FlushJob) → d.job ≡ job → map (λ (e : FlushSlot). e.job) (slice_set flush_slots p d) ≡ slice_set (map (λ (e : FlushSlot). e.job) flush_slots) p job
flush_slot-set flush_slots p d job h = map-set (λ (e : FlushSlot). e.job) flush_slots p d ∙ ap (slice_set (map (λ (e : FlushSlot). e.job) flush_slots) p) h

-- ---- the rules
module _ {K V I O R : Type 0} {stands : R → Standing} {entry : ℕ → List ℕ → ℕ → Entry K V → Type 0} (cmp : K → K → Ordering) (join : V → V → V) (f : Meanings K V I O) (code : K → ℕ) (s : StateView K V I O R) (state : IsState cmp f code s) (p now : ℕ) (due : IsMomentIn s p now) (old : PartitionView K V I) (is : old ≡ slice_index_or s.partitions p old) where
  pub does-take : {t : StateView K V I O R} → s ≡ t → {jobs : List (Option FlushJob)} (new : PartitionView K V I) (job : FlushJob) → jobs ≡ slice_set s.jobs p (Some job) → job.page ≡ length old.records.log.receipts → slice_get old.records.log.waiting 0 ≡ Some job.bytes → new ≡ at_moment old now
      → Acts stands entry cmp join f code t (record s { partitions = slice_set s.partitions p new; jobs = jobs; moment = now }) (Take p) (Ok (outcome.Taken job.page))
  does-take view new job taken page bytes at = rw (← view, taken) (acts-take stands entry cmp join f code s now due.next due.fits p old new (here cmp f code s state p now due old is) job page bytes at)

  pub refused-take : (new : PartitionView K V I) (r : Refused) → new ≡ old → (r ≡ NotDue) ⊎ (r ≡ NoMemory) → (r ≡ NotDue → old.records.log.waiting ≡ []) → (old.records.log.waiting ≡ [] → r ≡ NotDue) → Acts stands entry cmp join f code s (record s { partitions = slice_set s.partitions p new }) (Take p) (Err r)
  refused-take new r same only idle due_not = rw (set-unchanged s.partitions p old new (here cmp f code s state p now due old is) same) (acts-refused stands entry cmp join f code s now due.next due.fits (Take p) old r (here cmp f code s state p now due old is) refl (elim only [
    | inl e ↦ refusing.idle p (idle e) e
    | inr e ↦ refusing.untaken p (λ w. (let k = due_not w in absurd (cc))) e
  ]))

  -- the jobs as they are told after a write
  module _ {t : StateView K V I O R} (view : s ≡ t) {jobs : List (Option FlushJob)} (used : jobs ≡ slice_set s.jobs p None) (access : Access) (job : FlushJob) (asked : is_unasked s (Write p access) ≡ false) (has : job_in s.jobs p ≡ Some job) where
    pub spoils-unwritten : (r : Refused) → Unwritten job access r → Acts stands entry cmp join f code t (record s { jobs = jobs }) (Write p access) (Err r)
    spoils-unwritten r h = rw (← view, used) (acts-spoil stands entry cmp join f code s now due.next due.fits p old old (here cmp f code s state p now due old is) access job r asked has (Spoils.unwritten h))

    module _ (new : PartitionView K V I) (receipt : Standing) (bytes : List ℕ) (works : access ≡ Works) (of : receipt ≡ receipt_of job) (same_bytes : bytes ≡ job.bytes) where
      pub spoils-strange : (r : Refused) → new ≡ old → Flushes old new receipt bytes now (Err r) → Acts stands entry cmp join f code t (record s { partitions = slice_set s.partitions p new; jobs = jobs }) (Write p access) (Err r)
      spoils-strange r same does =
          rw (← view, used, set-unchanged s.partitions p old new (here cmp f code s state p now due old is) same)
          (acts-spoil stands entry cmp join f code s now due.next due.fits p old old (here cmp f code s state p now due old is) access job r asked has
          (Spoils.strange works (subst (λ b. Flushes old old (receipt_of job) b now (Err r)) same_bytes (subst (λ s. Flushes old old s bytes now (Err r)) of (subst (λ (v : PartitionView K V I). Flushes old v receipt bytes now (Err r)) same does)))))

      pub does-write : (page : ℕ) → page ≡ receipt.page → Flushes old new receipt bytes now (Ok tt) → IsQuiet true old new now
          → Acts stands entry cmp join f code t (record s { partitions = slice_set s.partitions p new; jobs = jobs; moment = now }) (Write p access) (Ok (outcome.Flushed page))
      does-write page at does ev =
          rw (← view, used, at ∙ ap (λ (s : Standing). s.page) of)
          (acts-write stands entry cmp join f code s now due.next due.fits p old new (here cmp f code s state p now due old is) access job works asked has
          (subst (λ b. Flushes old new (receipt_of job) b now (Ok tt)) same_bytes (subst (λ s. Flushes old new s bytes now (Ok tt)) of does)) ev)
