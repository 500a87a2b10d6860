-- What the events that move pages and cut a log are refused by.
use Rattle.std.proofs.Common.{◌≡◌, ◌≢◌, ◌==◌, ◌⊎◌, inl, inr, ℕ, Bool, true, false, IsTrue, if◌then◌else◌, Result, Ok, Err, Option, Some, None, List, [], ◌∷◌, length, option_map, sym, ap, subst, ◌∙◌, refl}
use Rattle.std.specs.Prelude.{IfErr}
use Rattle.std.proofs.lemmas.Bool.{eqb-false}
use Rattle.fkv_functions.specs.declared.refusals.Refused.{Refused}
use Rattle.fkv_functions.specs.declared.refusals.Refused.TheVariants.{NoMemory, NoSlot, NotDue, DrainFull, Worn, Stranger, Device, Damaged, Stalled}
use Rattle.fkv_functions.specs.declared.refusals.What.TheVariants as what
use Rattle.fkv_device.specs.Failing.{FailsOnlyBy}
use Rattle.fkv_device.specs.Standing.{Standing}
use Rattle.fkv_hybrid.specs.Flushes.{first_difference, difference, bytes_refusal, flush_refusal}
use Rattle.fkv_hybrid.specs.Views.{LogView}
use Rattle.fkv_partition.specs.KeyBeginning as beginning
use Rattle.fkv_partition.specs.Flushing as flushing
use Rattle.fkv_partition.specs.Moves as looking
use Rattle.fkv_partition.specs.Events.{Enters, Shifts, Evicts, Flushes}
use Rattle.fkv_partition.specs.Truncating.{Truncates, told_of}
use Rattle.fkv_partition.specs.Views.{PartitionView}
use Rattle.fkv_locked.specs.Locks.{IsTimed}
use Rattle.fkv_store.specs.Stores.{IsUntidy, IsUnshifted, IsUntaken, IsUnflushed, IsUnentered, IsUncut, IsUnopened, IsUnrelocated, IsUncompacted}

-- a call that is refused is refused by this alone
told-as : {A : Type 0} (P : Refused → Type 0) (r : Result A Refused) (e : Refused) → r ≡ Err e → P e → IfErr r P
told-as P r e is h = rw is h

told-none : {A : Type 0} (P : Refused → Type 0) (r : Result A Refused) (x : A) → r ≡ Ok x → IfErr r P
told-none P r x is = rw is tt

module _ {K V I : Type 0} (keeps : Bool) (old new : PartitionView K V I) (clock now : ℕ) where
  pub shift_told : (page : ℕ) (r : Result (Unit {0}) Refused) → IsTimed clock r (Shifts keeps old new page now r) → IfErr r IsUnshifted
  shift_told page r (inl worn) = told-as IsUnshifted r Worn worn.1 tt
  shift_told page r (inr h) = by_rule h.does
    where
      by_rule : looking.Shifts keeps old new page now r → IfErr r IsUnshifted
      by_rule (looking.Shifts.not_due undue is told) = told-as IsUnshifted r NotDue told tt
      by_rule (looking.Shifts.full due full is told) = told-as IsUnshifted r DrainFull told tt
      by_rule (looking.Shifts.shifts due room moves told) = told-none IsUnshifted r tt told

  pub evict_told : (page : ℕ) (r : Result (Unit {0}) Refused) → IsTimed clock r (Evicts keeps old new page now r) → IfErr r IsUnshifted
  evict_told page r (inl worn) = told-as IsUnshifted r Worn worn.1 tt
  evict_told page r (inr h) = by_rule h.does
    where
      by_rule : looking.Evicts keeps old new page now r → IfErr r IsUnshifted
      by_rule (looking.Evicts.not_due undue is told) = told-as IsUnshifted r NotDue told tt
      by_rule (looking.Evicts.full due full is told) = told-as IsUnshifted r DrainFull told tt
      by_rule (looking.Evicts.evicts due room moves told) = told-none IsUnshifted r tt told

  pub cut_told : {A : Type 0} (page : ℕ) (r : Result A Refused) → IsTimed clock r (Truncates keeps old new page now (told_of r)) → IfErr r IsUncut
  cut_told page (Ok x) h = tt
  cut_told page (Err e) (inl worn) = let is : e ≡ Worn = (let same = worn.1 in cc) in rw is tt
  cut_told page (Err e) (inr (Truncates.not_due undue is told)) = let due : e ≡ NotDue = cc in rw due tt
  cut_told page (Err e) (inr (Truncates.truncates due is told)) = absurd (cc)

  pub enter_told : (r : Result ℕ Refused) → IsTimed clock r (Enters old new now r) → IfErr r IsUnentered
  enter_told r (inl worn) = told-as IsUnentered r Worn worn.1 tt
  enter_told r (inr h) = by_rule h.does
    where
      by_rule : beginning.Enters old new now r → IfErr r IsUnentered
      by_rule (beginning.Enters.full none is told) = told-as IsUnentered r NoSlot told tt
      by_rule (beginning.Enters.enters slot free is told) = told-none IsUnentered r slot told

pub take_told : {A : Type 0} (clock : ℕ) (r : Result A Refused) → IsTimed clock r (IfErr r (λ why. (why ≡ NotDue) ⊎ (why ≡ NoMemory))) → IfErr r IsUntaken
take_told clock (Ok x) h = tt
take_told clock (Err e) (inl worn) = let is : e ≡ Worn = (let same = worn.1 in cc) in rw is tt
take_told clock (Err e) (inr (inl due)) = rw due tt
take_told clock (Err e) (inr (inr memory)) = rw memory tt

pub write_told : (page old new : ℕ) (why : Refused) → FailsOnlyBy 2 page old new why → IsUntidy why
write_told page old new why (inl memory) = rw memory.0 tt
write_told page old new why (inr device) = rw device.0 refl

-- ---- a page that was written
differs : (held came : List ℕ) (d : ℕ × ℕ) → first_difference held came ≡ Some d → d.0 ≢ d.1
differs [] came d h = absurd (cc)
differs (x ∷ xs) [] d h = absurd (cc)
differs (x ∷ xs) (y ∷ ys) d h = by_same (x == y) (differs xs ys d) refl h
  where
    by_same : (b : Bool) → (first_difference xs ys ≡ Some d → d.0 ≢ d.1) → (x == y) ≡ b
        → (if b then first_difference xs ys else Some (x, y)) ≡ Some d → d.0 ≢ d.1
    by_same true more t is = more is
    by_same false more t is = λ same. let e : ◌≡◌ {A = ℕ × ℕ} (x, y) d = cc in eqb-false x y t (ap (λ p. p.0) e ∙ (same ∙ sym (ap (λ p. p.1) e)))

differ : (held came : List ℕ) (d : ℕ × ℕ) → difference held came ≡ Some d → d.0 ≢ d.1
differ held came d h = by_long (length held == length came) refl h
  where
    by_long : (b : Bool) → (length held == length came) ≡ b → (if b then first_difference held came else Some (length held, length came)) ≡ Some d
        → d.0 ≢ d.1
    by_long true t is = differs held came d is
    by_long false t is = λ same. let e : ◌≡◌ {A = ℕ × ℕ} (length held, length came) d = cc in
        eqb-false (length held) (length came) t (ap (λ p. p.0) e ∙ (same ∙ sym (ap (λ p. p.1) e)))

bytes_told : (waiting : List (List ℕ)) (came : List ℕ) (why : Refused) → bytes_refusal waiting came ≡ Some why → IsUnflushed why
bytes_told [] came why h = let due : NotDue ≡ why = cc in subst IsUnflushed due tt
bytes_told (held ∷ rest) came why h = by_difference (difference held came) refl h
  where
    by_difference : (o : Option (ℕ × ℕ)) → difference held came ≡ o → option_map (λ d. Stranger what.Bytes d.0 d.1) o ≡ Some why → IsUnflushed why
    by_difference None is told = absurd (cc)
    by_difference (Some d) is told =
        let e : Stranger what.Bytes d.0 d.1 ≡ why = cc in subst IsUnflushed e (differ held came d is)

page_told : {K V : Type 0} (log : LogView K V) (page : ℕ) (came : List ℕ) (why : Refused) → flush_refusal log page came ≡ Some why → IsUnflushed why
page_told log page came why h = by_page (page == length log.receipts) refl h
  where
    by_page : (b : Bool) → (page == length log.receipts) ≡ b
        → (if b then bytes_refusal log.waiting came else Some (Stranger what.Page (length log.receipts) page)) ≡ Some why → IsUnflushed why
    by_page true t is = bytes_told log.waiting came why is
    by_page false t is = let e : Stranger what.Page (length log.receipts) page ≡ why = cc in
        subst IsUnflushed e (λ same. eqb-false page (length log.receipts) t (sym same))

pub flush_told : {K V I : Type 0} (old new : PartitionView K V I) (s : Standing) (bytes : List ℕ) (clock now : ℕ) (r : Result (Unit {0}) Refused)
    → IsTimed clock r (Flushes old new s bytes now r) → IfErr r IsUnflushed
flush_told old new s bytes clock now r (inl worn) = told-as IsUnflushed r Worn worn.1 tt
flush_told old new s bytes clock now r (inr h) = by_rule h.does
  where
    by_rule : flushing.Flushes old new s bytes now r → IfErr r IsUnflushed
    by_rule (flushing.Flushes.refused why refused is told) = told-as IsUnflushed r why told (page_told old.records.log s.page bytes why refused)
    by_rule (flushing.Flushes.unkept fine is told) = told-as IsUnflushed r NoMemory told tt
    by_rule (flushing.Flushes.keeps fine is told) = told-none IsUnflushed r tt told

-- what is refused of a page that waits
pub taken_untidy : (why : Refused) → IsUntaken why → why ≢ NotDue → IsUntidy why
taken_untidy NotDue h late = absurd (late refl)
taken_untidy NoMemory h late = tt
taken_untidy Worn h late = tt
taken_untidy other h late = absurd h

pub flushed_untidy : (why : Refused) → IsUnflushed why → why ≢ NotDue → IsUntidy why
flushed_untidy NotDue h late = absurd (late refl)
flushed_untidy NoMemory h late = tt
flushed_untidy (Stranger what.Page held came) h late = h
flushed_untidy (Stranger what.Bytes held came) h late = h
flushed_untidy Worn h late = tt
flushed_untidy other h late = absurd h

-- ---- a compaction
pub unopened_uncompacted : (why : Refused) → IsUnopened why → IsUncompacted why
unopened_uncompacted why (inl memory) = rw memory tt
unopened_uncompacted why (inr device) = rw device (inl (refl, refl))

pub unentered_uncompacted : (why : Refused) → IsUnentered why → IsUncompacted why
unentered_uncompacted NoSlot h = tt
unentered_uncompacted Worn h = tt
unentered_uncompacted other h = absurd h

unrelocated : (why : Refused) → IsUnrelocated why → IsUncompacted why
unrelocated NoMemory h = tt
unrelocated Worn h = tt
unrelocated (Device code page) h = inr h
unrelocated (Damaged page) h = tt
unrelocated other h = absurd h

pub unrelocated_uncompacted : (why : Refused) → (why ≡ Stalled) ⊎ IsUnrelocated why → IsUncompacted why
unrelocated_uncompacted why (inl stalled) = rw stalled tt
unrelocated_uncompacted why (inr h) = unrelocated why h

pub worn_uncompacted : (why : Refused) → why ≡ Worn → IsUncompacted why
worn_uncompacted why is = rw is tt

-- and none of these stalls
pub unopened_on : {P : Type 0} (why : Refused) → IsUnopened why → why ≡ Stalled → P
unopened_on why (inl memory) is = absurd (cc)
unopened_on why (inr device) is = absurd (cc)

pub unentered_on : {P : Type 0} (why : Refused) → IsUnentered why → why ≡ Stalled → P
unentered_on why h is = absurd (subst IsUnentered is h)

pub worn_on : {P : Type 0} (why : Refused) → why ≡ Worn → why ≡ Stalled → P
worn_on why worn is = absurd (cc)
