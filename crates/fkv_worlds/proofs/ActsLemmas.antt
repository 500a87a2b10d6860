-- Which rule of a step a call is, in the words of the code.
use Rattle.std.proofs.Common.{◌≡◌, ◌&&◌, ℕ, suc, ◌+◌, ◌^◌, ◌<◌, ◌≤◌, Bool, true, false, List, ◌∷◌, [], ◌++◌, length, Option, Some, None, IsSome, is_none, is_some, Result, Ok, Err, slice_get, slice_set, refl, sym, ◌∙◌, ap, subst, arith}
use Rattle.std.specs.declared.cmp.Ordering.{Ordering}
use Rattle.fkv_functions.specs.Meanings.{Meanings}
use Rattle.fkv_functions.specs.declared.asks.Ask.{Ask}
use Rattle.fkv_functions.specs.declared.refusals.Refused.{Refused}
use Rattle.fkv_functions.specs.declared.refusals.Refused.TheVariants.{Unknown, NotReady}
use Rattle.fkv_device.specs.Standing.{Standing, Joined}
use Rattle.fkv_device.specs.declared.messages.FlushJob.{FlushJob}
use Rattle.fkv_texts.specs.declared.entries.Entry.{Entry}
use Rattle.fkv_operations.specs.declared.operations.Op.{Op}
use Rattle.fkv_partition.specs.declared.contexts.Progress.{Progress}
use Rattle.fkv_partition.specs.Views.{PartitionView, at_moment}
use Rattle.fkv_partition.specs.Effect.{IsQuiet, IsIssue, IsEvent, IsGiveUp, IsLoad, IsTruncation}
use Rattle.fkv_partition.specs.Events.{Enters, Flushes, Goes, Installs, Loads, GivesUp, Refreshes, Shifts, Evicts, Issues}
use Rattle.fkv_partition.specs.Beginning.{LeavesAll}
use Rattle.fkv_partition.specs.Truncating.{Truncates}
use Rattle.fkv_records.specs.Places.{page_at}
use Rattle.fkv_lives.specs.declared.lives.End.TheVariants.{Failed, GivenUp}
use Rattle.fkv_lives.specs.Changes.{ended_at}
use Rattle.fkv_lives.specs.declared.outcomes.Outcome.TheVariants as outcome
use Rattle.fkv_lives.specs.declared.steps.Access.{Access}
use Rattle.fkv_lives.specs.declared.steps.Access.TheVariants.{Works}
use Rattle.fkv_lives.specs.declared.steps.ContextId.{ContextId}
use Rattle.fkv_lives.specs.declared.steps.Step.{Step}
use Rattle.fkv_lives.specs.declared.steps.Step.TheVariants.{Enter, Leave, Refresh, ReadOnly, Take, Write, Head, Issue, Go, Install, Load, GiveUp, Truncate}
use Rattle.fkv_worlds.specs.declared.tables.Seat.{Seat}
use Rattle.fkv_worlds.specs.Devices.{receipt_of, Comes, Spoils}
use Rattle.fkv_worlds.specs.Refusing.{Refuses}
use Rattle.fkv_lives.specs.Told.{ends_operation}
use Rattle.fkv_worlds.specs.Worlds.{asked_in}
use Rattle.fkv_worlds.specs.States.{StateView, seat_row, context_row, question_in, receipt_in, job_in, is_unasked, life_in}
use Rattle.fkv_worlds.specs.Moments.{IsUntimely, no_partition, worn}
use Rattle.fkv_worlds.specs.Acts as acts
use Rattle.fkv_worlds.specs.Acts.{Acts, IsDue, is_refused_first, begun_life, after_issue, lives_by, questions_by, receipts_by, told}
use Rattle.fkv_lives.specs.Steps.{partition_in}
use Rattle.fkv_worlds.proofs.ResultLemmas.{some_of, some_there, some_not_none, not_some_none}

module _ {K V I O R : Type 0} (stands : R → Standing) (entry : ℕ → List ℕ → ℕ → Entry K V → Type 0) (cmp : K → K → Ordering) (join : V → V → V) (f : Meanings K V I O) (code : K → ℕ) (s : StateView K V I O R) (next : ℕ) (then : next ≡ s.moment + 1) (fits : next < 2 ^ 64) where
  e : next ≡ suc s.moment
  e = omega arith

  due : (step : Step K V I) (old : PartitionView K V I) → slice_get s.partitions (partition_in step) ≡ Some old → is_unasked s step ≡ false → IsDue s step old
  due step old here asked = record { here = here; asked = asked; moment = omega arith }

  -- what the partition refuses
  pub acts-refused : (step : Step K V I) (old : PartitionView K V I) (r : Refused) → slice_get s.partitions (partition_in step) ≡ Some old → is_unasked s step ≡ false
      → Refuses stands entry cmp join f code s old next r step → Acts stands entry cmp join f code s s step (Err r)
  acts-refused step old r here asked refuses = acts.refuses old r (due step old here asked) (subst (λ m. Refuses stands entry cmp join f code s old m r step) e refuses) refl refl

  module _ (p : ℕ) (old new : PartitionView K V I) (here : slice_get s.partitions p ≡ Some old) where
    pub acts-enter : (slot n : ℕ) → Enters old new next (Ok slot) → IsQuiet true old new next → slot < 16 → slice_get s.enters p ≡ Some n
        → Acts stands entry cmp join f code s (record s { partitions = slice_set s.partitions p new; enters = slice_set s.enters p (n + 1); seats = slice_set s.seats (seat_row p slot) (record { session = n + 1; issues = 0 }); moment = next }) (Enter p) (Ok (outcome.Entered slot))
    acts-enter slot n does ev low count =
        let up : n + 1 ≡ suc n = omega arith in
        rw (e, up) (acts.enters p slot n old new refl (due (Enter p) old here refl) (subst (λ m. Enters old new m (Ok slot)) e does) (subst (λ m. IsQuiet true old new m) e ev) low count refl refl)

    pub acts-leave : (slot : ℕ) → LeavesAll true old new slot next (Ok tt) → IsQuiet true old new next → Acts stands entry cmp join f code s (record s { partitions = slice_set s.partitions p new; moment = next }) (Leave p slot) (Ok outcome.Left)
    acts-leave slot does ev =
        rw e (acts.leaves p slot old new refl (due (Leave p slot) old here refl) (subst (λ m. LeavesAll true old new slot m (Ok tt)) e does) (subst (λ m. IsQuiet true old new m) e ev) refl refl)

    pub acts-refresh : (slot : ℕ) → Refreshes true old new slot next (Ok tt) → IsQuiet true old new next → Acts stands entry cmp join f code s (record s { partitions = slice_set s.partitions p new; moment = next }) (Refresh p slot) (Ok outcome.Refreshed)
    acts-refresh slot does ev =
        rw e (acts.refreshes p slot old new refl (due (Refresh p slot) old here refl) (subst (λ m. Refreshes true old new slot m (Ok tt)) e does) (subst (λ m. IsQuiet true old new m) e ev) refl refl)

    pub acts-shift : (page : ℕ) → Shifts true old new page next (Ok tt) → IsQuiet true old new next → Acts stands entry cmp join f code s (record s { partitions = slice_set s.partitions p new; moment = next }) (ReadOnly p page) (Ok outcome.Shifted)
    acts-shift page does ev =
        rw e (acts.shifts p page old new refl (due (ReadOnly p page) old here refl) (subst (λ m. Shifts true old new page m (Ok tt)) e does) (subst (λ m. IsQuiet true old new m) e ev) refl refl)

    pub acts-evict : (page : ℕ) → Evicts true old new page next (Ok tt) → IsQuiet true old new next → Acts stands entry cmp join f code s (record s { partitions = slice_set s.partitions p new; moment = next }) (Head p page) (Ok outcome.Shifted)
    acts-evict page does ev =
        rw e (acts.evicts p page old new refl (due (Head p page) old here refl) (subst (λ m. Evicts true old new page m (Ok tt)) e does) (subst (λ m. IsQuiet true old new m) e ev) refl refl)

    pub acts-take : (job : FlushJob) → job.page ≡ length old.records.log.receipts → slice_get old.records.log.waiting 0 ≡ Some job.bytes → new ≡ at_moment old next
        → Acts stands entry cmp join f code s (record s { partitions = slice_set s.partitions p new; jobs = slice_set s.jobs p (Some job); moment = next }) (Take p) (Ok (outcome.Taken job.page))
    acts-take job page bytes is = rw (is, e) (acts.takes p old job refl (due (Take p) old here refl) page bytes refl refl)

    pub acts-spoil : (access : Access) (job : FlushJob) (r : Refused) → is_unasked s (Write p access) ≡ false → job_in s.jobs p ≡ Some job → Spoils old next job access r
        → Acts stands entry cmp join f code s (record s { jobs = slice_set s.jobs p None }) (Write p access) (Err r)
    acts-spoil access job r asked has spoils = acts.spoils p access old job r refl (due (Write p access) old here asked) has (subst (λ m. Spoils old m job access r) e spoils) refl refl

    pub acts-write : (access : Access) (job : FlushJob) → access ≡ Works → is_unasked s (Write p access) ≡ false → job_in s.jobs p ≡ Some job
        → Flushes old new (receipt_of job) job.bytes next (Ok tt) → IsQuiet true old new next
        → Acts stands entry cmp join f code s (record s { partitions = slice_set s.partitions p new; jobs = slice_set s.jobs p None; moment = next }) (Write p access) (Ok (outcome.Flushed job.page))
    acts-write access job works asked has does ev =
        rw (e, works) (acts.writes p old new job refl (due (Write p Works) old here (ap (λ a. is_unasked s (Write p a)) (sym works) ∙ asked)) has
        (subst (λ m. Flushes old new (receipt_of job) job.bytes m (Ok tt)) e does) (subst (λ m. IsQuiet true old new m) e ev) refl refl)

    pub acts-truncate : Truncates true old new (page_at old.records.log.bits old.cleared) next (Ok tt) → IsTruncation true cmp old new (page_at old.records.log.bits old.cleared) next
        → Acts stands entry cmp join f code s (record s { partitions = slice_set s.partitions p new; moment = next }) (Truncate p) (Ok (outcome.Truncated new.records.log.begin))
    acts-truncate does ev =
        rw e (acts.truncates p old new refl (due (Truncate p) old here refl) (subst (λ m. Truncates true old new (page_at old.records.log.bits old.cleared) m (Ok tt)) e does)
        (subst (λ m. IsTruncation true cmp old new (page_at old.records.log.bits old.cleared) m) e ev) refl refl)

    pub acts-issue : (slot c : ℕ) (op : Op K V I) (seat : Seat) → Issues code old new slot op next (Ok c) → IsIssue code old new slot c op next → slot < 16 → slice_get s.seats (seat_row p slot) ≡ Some seat
        → Acts stands entry cmp join f code s (record s {
          partitions = slice_set s.partitions p new;
          seats = slice_set s.seats (seat_row p slot) (after_issue seat);
          begun = slice_set s.begun (context_row (record { partition = p; slot = slot; context = c })) (length s.lives);
          questions = slice_set s.questions (context_row (record { partition = p; slot = slot; context = c })) None;
          receipts = slice_set s.receipts (context_row (record { partition = p; slot = slot; context = c })) None;
          lives = s.lives ++ begun_life p seat op next ∷ [];
          moment = next;
        }) (Issue p slot op) (Ok (outcome.Issued c))
    acts-issue slot c op seat does ev low at =
        rw e (acts.issues p slot c op old new seat refl (due (Issue p slot op) old here refl) (subst (λ m. Issues code old new slot op m (Ok c)) e does) (subst (λ m. IsIssue code old new slot c op m) e ev) low at refl refl)

  module _ (w : ContextId) (old new : PartitionView K V I) (here : slice_get s.partitions w.partition ≡ Some old) where
    pub acts-give_up : GivesUp old new w.slot w.context next (Ok tt) → IsGiveUp old new w.slot w.context next
        → Acts stands entry cmp join f code s (record s { partitions = slice_set s.partitions w.partition new; lives = ended_at s.lives (life_in s.begun w) GivenUp; moment = next }) (GiveUp w) (Ok outcome.GivenUp)
    acts-give_up does ev =
        rw e (acts.gives_up w old new refl (due (GiveUp w) old here refl) (subst (λ m. GivesUp old new w.slot w.context m (Ok tt)) e does) (subst (λ m. IsGiveUp old new w.slot w.context m) e ev) refl refl)

    pub acts-go : (progress : Progress K V I O R) → Goes stands cmp join f code old new w.slot w.context next (Ok progress) → IsEvent cmp f old new w.slot w.context next progress
        → Acts stands entry cmp join f code s (record s { partitions = slice_set s.partitions w.partition new; questions = questions_by s.questions (context_row w) progress; receipts = receipts_by s.receipts (context_row w) progress; lives = lives_by s.lives (life_in s.begun w) next progress; moment = next })
        (Go w) (Ok (told progress))
    acts-go progress does ev =
        rw e (acts.goes w old new progress refl (due (Go w) old here refl) (subst (λ m. Goes stands cmp join f code old new w.slot w.context m (Ok progress)) e does) (subst (λ m. IsEvent cmp f old new w.slot w.context m progress) e ev) refl refl)

    pub acts-install : (ask : Ask K V I) → question_in s.questions w ≡ Some ask → (progress : Progress K V I O R) → Installs cmp f code old new w.slot w.context ask next (Ok progress) → IsEvent cmp f old new w.slot w.context next progress
        → Acts stands entry cmp join f code s (record s { partitions = slice_set s.partitions w.partition new; questions = questions_by s.questions (context_row w) progress; receipts = receipts_by s.receipts (context_row w) progress; lives = lives_by s.lives (life_in s.begun w) next progress; moment = next })
        (Install w) (Ok (told progress))
    acts-install ask asks progress does ev =
        rw e (acts.installs w old new ask progress refl (due (Install w) old here (rw asks refl)) asks (subst (λ m. Installs cmp f code old new w.slot w.context ask m (Ok progress)) e does) (subst (λ m. IsEvent cmp f old new w.slot w.context m progress) e ev) refl refl)

    module _ (access : Access) (receipt : R) (came : Result (Joined R) Refused) (asks : receipt_in s.receipts w ≡ Some receipt) (comes : Comes stands receipt access came) where
      pub acts-load : (progress : Progress K V I O R) → Loads stands entry cmp join f code old new w.slot w.context came next (Ok progress) → IsLoad cmp f old new w.slot w.context next progress
          → Acts stands entry cmp join f code s (record s { partitions = slice_set s.partitions w.partition new; questions = questions_by s.questions (context_row w) progress; receipts = receipts_by s.receipts (context_row w) progress; lives = lives_by s.lives (life_in s.begun w) next progress; moment = next })
          (Load w access) (Ok (told progress))
      acts-load progress does ev =
          rw e (acts.loads w access old new receipt came progress refl (due (Load w access) old here (rw asks refl)) asks comes (subst (λ m. Loads stands entry cmp join f code old new w.slot w.context came m (Ok progress)) e does) (subst (λ m. IsLoad cmp f old new w.slot w.context m progress) e ev) refl refl)

      pub acts-fail : (r : Refused) → Loads stands entry cmp join f code old new w.slot w.context came next (Err r) → ends_operation r ≡ true → IsGiveUp old new w.slot w.context next
          → Acts stands entry cmp join f code s (record s { partitions = slice_set s.partitions w.partition new; lives = ended_at s.lives (life_in s.begun w) Failed; moment = next }) (Load w access) (Err r)
      acts-fail r does ends ev =
          rw e (acts.fails w access old new receipt came r refl (due (Load w access) old here (rw asks refl)) asks comes (subst (λ m. Loads stands entry cmp join f code old new w.slot w.context came m (Err r)) e does) ends (subst (λ m. IsGiveUp old new w.slot w.context m) e ev) refl refl)

-- the other steps answer nothing
pub first-none : {K V I O R : Type 0} (s : StateView K V I O R) (step : Step K V I) → ((w : ContextId) → step ≡ Install w → ⊥) → ((w : ContextId) (access : Access) → step ≡ Load w access → ⊥) → ((p : ℕ) (access : Access) → step ≡ Write p access → ⊥) → is_refused_first s step ≡ false
first-none s (Enter p) i l w = refl
first-none s (Leave p slot) i l w = refl
first-none s (Refresh p slot) i l w = refl
first-none s (ReadOnly p page) i l w = refl
first-none s (Take p) i l w = refl
first-none s (Write p access) i l w = absurd (w p access refl)
first-none s (Head p page) i l w = refl
first-none s (Issue p slot op) i l w = refl
first-none s (Go u) i l w = refl
first-none s (Install u) i l w = absurd (i u refl)
first-none s (Load u access) i l w = refl
first-none s (GiveUp u) i l w = refl
first-none s (Truncate p) i l w = refl

-- a step that has no moment
pub acts-untimely : {K V I O R : Type 0} (stands : R → Standing) (entry : ℕ → List ℕ → ℕ → Entry K V → Type 0) (cmp : K → K → Ordering) (join : V → V → V) (f : Meanings K V I O) (code : K → ℕ) (s : StateView K V I O R) (step : Step K V I) (r : Refused)
    → is_refused_first s step ≡ false → IsUntimely s (partition_in step) r → Acts stands entry cmp join f code s s step (Err r)
acts-untimely stands entry cmp join f code s step r first (no_partition h e) = acts.no_partition h refl (ap Err e)
acts-untimely stands entry cmp join f code s step r first (worn h m e) = acts.worn h first m refl (ap Err e)

and-false : (b : Bool) → (b && false) ≡ false
and-false true = refl
and-false false = refl

-- an install where nothing is open is not refused first
pub late-first : {K V I O R : Type 0} (s : StateView K V I O R) (w : ContextId) → asked_in s.partitions w ≡ None → is_refused_first s (Install w) ≡ false
late-first s w none = ap (λ o. is_none (question_in s.questions w) && is_some o) none ∙ and-false (is_none (question_in s.questions w))

-- ---- a world that is seen as another
module _ {K V I O R : Type 0} {s t : StateView K V I O R} (view : s ≡ t) where
  pub there-seen : {p : ℕ} → p < length s.partitions → p < length t.partitions
  there-seen h = rw (← view) h

  pub there-behind : {p : ℕ} → p < length t.partitions → p < length s.partitions
  there-behind h = rw view h

  -- a step in no partition
  pub acts-nowhere : {stands : R → Standing} {entry : ℕ → List ℕ → ℕ → Entry K V → Type 0} {cmp : K → K → Ordering} {join : V → V → V} {f : Meanings K V I O} {code : K → ℕ} {step : Step K V I} {n : ℕ} → n ≡ length s.partitions → n ≤ partition_in step → Acts stands entry cmp join f code t t step (Err Unknown)
  acts-nowhere e h = acts.no_partition (rw (← view, ← e) h) refl refl

  -- what a step answers was asked
  pub asked-seen : (step : Step K V I) → is_unasked s step ≡ false → is_unasked t step ≡ false
  asked-seen step h = rw (← view) h

  pub asked-behind : (step : Step K V I) → is_unasked t step ≡ false → is_unasked s step ≡ false
  asked-behind step h = rw view h

  -- a write of no page
  pub acts-idle : {stands : R → Standing} {entry : ℕ → List ℕ → ℕ → Entry K V → Type 0} {cmp : K → K → Ordering} {join : V → V → V} {f : Meanings K V I O} {code : K → ℕ} (p : ℕ) (access : Access) → p < length s.partitions → is_none (job_in s.jobs p) ≡ true → Acts stands entry cmp join f code t t (Write p access) (Err NotReady)
  acts-idle p access there idle = rw (← view) (acts.no_flush_job p access refl there idle refl refl)

  -- whether a context asked, by what its row holds
  pub question-unasked : (w : ContextId) {questions : List (Option (Ask K V I))} → questions ≡ s.questions → None ≡ question_in questions w → is_none (question_in t.questions w) ≡ true
  question-unasked w e h = ap is_none (ap (λ (v : StateView K V I O R). question_in v.questions w) (sym view) ∙ ap (λ xs. question_in xs w) (sym e) ∙ sym h)

  pub receipt-unasked : (w : ContextId) {receipts : List (Option R)} {b : Bool} → receipts ≡ s.receipts → b ≡ is_some (receipt_in receipts w) → b ≡ false → is_none (receipt_in t.receipts w) ≡ true
  receipt-unasked w {receipts = receipts} e h off = ap (λ (v : StateView K V I O R). is_none (receipt_in v.receipts w)) (sym view) ∙ ap (λ xs. is_none (receipt_in xs w)) (sym e) ∙ not_some_none (receipt_in receipts w) (sym h ∙ off)

  pub receipt-asked : (w : ContextId) {receipts : List (Option R)} {b : Bool} → receipts ≡ s.receipts → b ≡ is_some (receipt_in receipts w) → b ≡ true → is_none (receipt_in t.receipts w) ≡ false
  receipt-asked w {receipts = receipts} e h on = ap (λ (v : StateView K V I O R). is_none (receipt_in v.receipts w)) (sym view) ∙ ap (λ xs. is_none (receipt_in xs w)) (sym e) ∙ some_not_none (receipt_in receipts w) (sym h ∙ on)

  pub question-behind : (w : ContextId) {ask : Ask K V I} → question_in t.questions w ≡ Some ask → question_in s.questions w ≡ Some ask
  question-behind w h = ap (λ (v : StateView K V I O R). question_in v.questions w) view ∙ h

  pub receipt-behind : (w : ContextId) → is_none (receipt_in t.receipts w) ≡ false → (receipt : R) × (receipt_in s.receipts w ≡ Some receipt)
  receipt-behind w h = some_of (receipt_in s.receipts w) (ap (λ (v : StateView K V I O R). is_none (receipt_in v.receipts w)) view ∙ h)

  pub receipt-there : (w : ContextId) {receipts : List (Option R)} → receipts ≡ s.receipts → is_none (receipt_in t.receipts w) ≡ false → IsSome (receipt_in receipts w)
  receipt-there w {receipts = receipts} e h = some_there (receipt_in receipts w) (ap (λ xs. is_none (receipt_in xs w)) e ∙ ap (λ (v : StateView K V I O R). is_none (receipt_in v.receipts w)) view ∙ h)

-- what a context asked for, by the list's name
pub at-rows : {R : Type 0} {xs ys : List (Option R)} (w : ContextId) {o : Option R} → ys ≡ xs → receipt_in xs w ≡ o → receipt_in ys w ≡ o
at-rows w e h = ap (λ zs. receipt_in zs w) e ∙ h
