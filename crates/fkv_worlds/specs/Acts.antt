-- What a step does: a rule for each case, in the order of the tests.
use Rattle.std.specs.Prelude.{length, IsSome, ◌≡◌, ◌<◌, ◌≤◌, ◌-◌, ◌^◌, ◌&&◌, ℕ, suc, Bool, true, false, is_none, is_some, List, [], ◌∷◌, ◌++◌, Option, Some, None, Result, Ok, Err, slice_get, slice_set}
use Rattle.std.specs.declared.cmp.Ordering.{Ordering}
use Rattle.fkv_functions.specs.Meanings.{Meanings}
use Rattle.fkv_functions.specs.declared.asks.Ask.{Ask}
use Rattle.fkv_functions.specs.declared.refusals.Refused.{Refused}
use Rattle.fkv_functions.specs.declared.refusals.Refused.TheVariants.{NoMemory, Unknown, NotReady, Worn}
use Rattle.fkv_texts.specs.declared.entries.Entry.{Entry}
use Rattle.fkv_device.specs.Standing.{Standing, Joined}
use Rattle.fkv_device.specs.declared.messages.FlushJob.{FlushJob}
use Rattle.fkv_operations.specs.declared.operations.Op.{Op}
use Rattle.fkv_partition.specs.declared.contexts.Progress.{Progress}
use Rattle.fkv_partition.specs.declared.contexts.Progress.TheVariants.{Done, Next, NeedsBuild, NeedsLoad, Waits}
use Rattle.fkv_partition.specs.Views.{PartitionView, at_moment}
use Rattle.fkv_partition.specs.Effect.{asked, IsQuiet, IsIssue, IsEvent, IsGiveUp, IsLoad, IsTruncation}
use Rattle.fkv_partition.specs.Events.{Enters, Goes, Installs, Loads, Flushes, GivesUp, Refreshes, Shifts, Evicts, Issues}
use Rattle.fkv_partition.specs.Beginning.{LeavesAll}
use Rattle.fkv_partition.specs.Truncating.{Truncates}
use Rattle.fkv_records.specs.Places.{page_at}
use Rattle.fkv_lives.specs.declared.lives.End.{End}
use Rattle.fkv_lives.specs.declared.lives.Life.{Life}
use Rattle.fkv_lives.specs.declared.lives.End.TheVariants.{Open, Finished, Failed, GivenUp}
use Rattle.fkv_lives.specs.declared.outcomes.Outcome.{Outcome}
use Rattle.fkv_lives.specs.declared.outcomes.Outcome.TheVariants as outcome
use Rattle.fkv_worlds.specs.declared.tables.Seat.{Seat}
use Rattle.fkv_lives.specs.declared.steps.Access.{Access}
use Rattle.fkv_lives.specs.declared.steps.Access.TheVariants.{Works}
use Rattle.fkv_lives.specs.declared.steps.ContextId.{ContextId}
use Rattle.fkv_lives.specs.declared.steps.Step.{Step}
use Rattle.fkv_lives.specs.declared.steps.Step.TheVariants.{Enter, Leave, Refresh, ReadOnly, Take, Write, Head, Issue, Go, Install, Load, GiveUp, Truncate}
use Rattle.fkv_lives.specs.Steps.{partition_in}
use Rattle.fkv_lives.specs.Changes.{ended_at}
use Rattle.fkv_worlds.specs.Devices.{receipt_of, Comes, Spoils}
use Rattle.fkv_worlds.specs.Refusing.{Refuses}
use Rattle.fkv_lives.specs.Told.{ends_operation}
use Rattle.fkv_worlds.specs.Worlds.{asked_in}
use Rattle.fkv_worlds.specs.States.{StateView, WorldView, seat_row, context_row, life_in, question_in, receipt_in, job_in, is_unasked}

-- the state where the partition at a place has become this one, at its moment
abbrev pub with_partition : {K V I O R : Type 0} → StateView K V I O R → ℕ → PartitionView K V I → StateView K V I O R
with_partition s p v = record s { partitions = slice_set s.partitions p v; moment = suc s.moment }

-- the session that entered a slot is the next of its partition, and has issued nothing
abbrev pub with_session : {K V I O R : Type 0} → StateView K V I O R → ℕ → ℕ → ℕ → PartitionView K V I
    → StateView K V I O R
with_session s p slot n v = record (with_partition s p v) {
  enters = slice_set s.enters p (suc n);
  seats = slice_set s.seats (seat_row p slot) (record { session = suc n; issues = 0 });
}

-- a seat that has issued one more
abbrev pub after_issue : Seat → Seat
after_issue seat = record seat { issues = suc seat.issues }

-- the life that an accepted issue begins
abbrev pub begun_life : {K V I O : Type 0} → ℕ → Seat → Op K V I → ℕ → Life K V I O
begun_life p seat op now =
    record { partition = p; session = seat.session; number = suc seat.issues; op = op; issue = now; end = Open }

-- one more life, which is that of its context
abbrev pub with_life : {K V I O R : Type 0} → StateView K V I O R → ContextId → Seat → Op K V I → PartitionView K V I
    → StateView K V I O R
with_life s w seat op v = record (with_partition s w.partition v) {
  seats = slice_set s.seats (seat_row w.partition w.slot) (after_issue seat);
  begun = slice_set s.begun (context_row w) (length s.lives);
  questions = slice_set s.questions (context_row w) None;
  receipts = slice_set s.receipts (context_row w) None;
  lives = s.lives ++ begun_life w.partition seat op (suc s.moment) ∷ [];
}

-- the lives after a progress of the one at a place
abbrev pub lives_by : {K V I O R : Type 0} → List (Life K V I O) → ℕ → ℕ → Progress K V I O R → List (Life K V I O)
lives_by lives place now (Done a effect) =
    ended_at lives place (Finished (record { effect = effect; done = now; answer = a }))
lives_by lives place now Next = lives
lives_by lives place now (Waits why) = lives
lives_by lives place now (NeedsBuild ask) = lives
lives_by lives place now (NeedsLoad receipt address) = lives

-- what the contexts asked to be built last, after a progress in one of them
abbrev pub questions_by : {K V I O R : Type 0} → List (Option (Ask K V I)) → ℕ → Progress K V I O R
    → List (Option (Ask K V I))
questions_by questions row (Done a effect) = questions
questions_by questions row Next = questions
questions_by questions row (Waits why) = questions
questions_by questions row (NeedsBuild ask) = slice_set questions row (Some ask)
questions_by questions row (NeedsLoad receipt address) = questions

-- the receipts of the pages that they asked for last
abbrev pub receipts_by : {K V I O R : Type 0} → List (Option R) → ℕ → Progress K V I O R → List (Option R)
receipts_by receipts row (Done a effect) = receipts
receipts_by receipts row Next = receipts
receipts_by receipts row (Waits why) = receipts
receipts_by receipts row (NeedsBuild ask) = receipts
receipts_by receipts row (NeedsLoad receipt address) = slice_set receipts row (Some receipt)

-- an operation's progress: its life ends where it is done, and its context's question is kept
abbrev pub with_progress : {K V I O R : Type 0} → StateView K V I O R → ContextId → Progress K V I O R → PartitionView K V I
    → StateView K V I O R
with_progress s w progress v = record (with_partition s w.partition v) {
  lives = lives_by s.lives (life_in s.begun w) (suc s.moment) progress;
  questions = questions_by s.questions (context_row w) progress;
  receipts = receipts_by s.receipts (context_row w) progress;
}

-- an operation ends without effect: it is given up, or a fault ends it
abbrev pub with_end : {K V I O R : Type 0} → StateView K V I O R → ContextId → End O → PartitionView K V I
    → StateView K V I O R
with_end s w end v = record (with_partition s w.partition v) { lives = ended_at s.lives (life_in s.begun w) end }

-- the page of a partition that was taken is this one, or none any more
abbrev pub with_job : {K V I O R : Type 0} → StateView K V I O R → ℕ → Option FlushJob → StateView K V I O R
with_job s p job = record s { jobs = slice_set s.jobs p job }

-- what a step tells of a progress
abbrev pub told : {K V I O R : Type 0} → Progress K V I O R → Outcome V O
told (Done a effect) = outcome.Done a
told Next = outcome.Next
told (Waits why) = outcome.Waits why
told (NeedsBuild ask) = outcome.Build ask.source
told (NeedsLoad receipt address) = outcome.Load address

-- the context whose question a step answers
abbrev pub answers_in : {K V I : Type 0} → Step K V I → Option ContextId
answers_in (Enter p) = None
answers_in (Leave p slot) = None
answers_in (Refresh p slot) = None
answers_in (ReadOnly p page) = None
answers_in (Take p) = None
answers_in (Write p access) = None
answers_in (Head p page) = None
answers_in (Issue p slot op) = None
answers_in (Go w) = None
answers_in (Install w) = Some w
answers_in (Load w access) = Some w
answers_in (GiveUp w) = None
answers_in (Truncate p) = None

-- whether a step is refused before it is seen whether a moment is left: an install of what no operation asked, where one is
-- open, and a write of no page
abbrev pub is_refused_first : {K V I O R : Type 0} → StateView K V I O R → Step K V I → Bool
is_refused_first s (Enter p) = false
is_refused_first s (Leave p slot) = false
is_refused_first s (Refresh p slot) = false
is_refused_first s (ReadOnly p page) = false
is_refused_first s (Take p) = false
is_refused_first s (Write p access) = is_none (job_in s.jobs p)
is_refused_first s (Head p page) = false
is_refused_first s (Issue p slot op) = false
is_refused_first s (Go w) = false
is_refused_first s (Install w) = is_none (question_in s.questions w) && is_some (asked_in s.partitions w)
is_refused_first s (Load w access) = false
is_refused_first s (GiveUp w) = false
is_refused_first s (Truncate p) = false

-- the step is in this partition, what it answers was asked, and a moment is left
pub record IsDue {K V I O R : Type 0} (s : StateView K V I O R) (step : Step K V I) (v : PartitionView K V I) : Type 0 where
  pub here : slice_get s.partitions (partition_in step) ≡ Some v
  pub asked : is_unasked s step ≡ false
  pub moment : s.moment < 2 ^ 64 - 1

pub data Acts {K V I O R : Type 0} (stands : R → Standing) (entry : ℕ → List ℕ → ℕ → Entry K V → Type 0)
    (cmp : K → K → Ordering) (join : V → V → V) (f : Meanings K V I O) (code : K → ℕ) (old new : StateView K V I O R)
    (step : Step K V I) (result : Result (Outcome V O) Refused) : Type 0 where
  -- there is no such partition
  no_partition : length old.partitions ≤ partition_in step
      → new ≡ old
      → result ≡ Err Unknown
      → Acts stands entry cmp join f code old new step result
  -- an install of what the operation there did not ask
  uninstalled : (w : ContextId) (v : PartitionView K V I)
      → step ≡ Install w
      → slice_get old.partitions w.partition ≡ Some v
      → is_unasked old step ≡ true
      → IsSome (asked v w.slot w.context)
      → new ≡ old
      → result ≡ Err NotReady
      → Acts stands entry cmp join f code old new step result
  -- a write of no page
  no_flush_job : (p : ℕ) (access : Access)
      → step ≡ Write p access
      → p < length old.partitions
      → is_unasked old step ≡ true
      → new ≡ old
      → result ≡ Err NotReady
      → Acts stands entry cmp join f code old new step result
  -- no moment is left
  worn : partition_in step < length old.partitions
      → is_refused_first old step ≡ false
      → old.moment ≡ 2 ^ 64 - 1
      → new ≡ old
      → result ≡ Err Worn
      → Acts stands entry cmp join f code old new step result
  -- a load of a page that the operation there did not ask for; and an install or a load where nothing is open
  unloaded : (w : ContextId) (access : Access) (v : PartitionView K V I)
      → step ≡ Load w access
      → slice_get old.partitions w.partition ≡ Some v
      → is_unasked old step ≡ true
      → old.moment < 2 ^ 64 - 1
      → IsSome (asked v w.slot w.context)
      → new ≡ old
      → result ≡ Err NotReady
      → Acts stands entry cmp join f code old new step result
  unknown : (w : ContextId) (v : PartitionView K V I)
      → answers_in step ≡ Some w
      → slice_get old.partitions w.partition ≡ Some v
      → is_unasked old step ≡ true
      → old.moment < 2 ^ 64 - 1
      → asked v w.slot w.context ≡ None
      → new ≡ old
      → result ≡ Err Unknown
      → Acts stands entry cmp join f code old new step result
  -- no memory is left for the life of an issue
  no_memory_for_life : (p slot : ℕ) (op : Op K V I) (v : PartitionView K V I)
      → step ≡ Issue p slot op
      → IsDue old step v
      → new ≡ old
      → result ≡ Err NoMemory
      → Acts stands entry cmp join f code old new step result
  -- what the partition refuses is refused; what it does is done, at the next moment: its rule, and what its event
  -- changes
  refuses : (v : PartitionView K V I) (e : Refused)
      → IsDue old step v
      → Refuses stands entry cmp join f code old v (suc old.moment) e step
      → new ≡ old
      → result ≡ Err e
      → Acts stands entry cmp join f code old new step result
  enters : (p slot n : ℕ) (v v' : PartitionView K V I)
      → step ≡ Enter p
      → IsDue old step v
      → Enters v v' (suc old.moment) (Ok slot)
      → IsQuiet true v v' (suc old.moment)
      → slot < 16
      → slice_get old.enters p ≡ Some n
      → new ≡ with_session old p slot n v'
      → result ≡ Ok (outcome.Entered slot)
      → Acts stands entry cmp join f code old new step result
  leaves : (p slot : ℕ) (v v' : PartitionView K V I)
      → step ≡ Leave p slot
      → IsDue old step v
      → LeavesAll true v v' slot (suc old.moment) (Ok tt)
      → IsQuiet true v v' (suc old.moment)
      → new ≡ with_partition old p v'
      → result ≡ Ok outcome.Left
      → Acts stands entry cmp join f code old new step result
  refreshes : (p slot : ℕ) (v v' : PartitionView K V I)
      → step ≡ Refresh p slot
      → IsDue old step v
      → Refreshes true v v' slot (suc old.moment) (Ok tt)
      → IsQuiet true v v' (suc old.moment)
      → new ≡ with_partition old p v'
      → result ≡ Ok outcome.Refreshed
      → Acts stands entry cmp join f code old new step result
  shifts : (p page : ℕ) (v v' : PartitionView K V I)
      → step ≡ ReadOnly p page
      → IsDue old step v
      → Shifts true v v' page (suc old.moment) (Ok tt)
      → IsQuiet true v v' (suc old.moment)
      → new ≡ with_partition old p v'
      → result ≡ Ok outcome.Shifted
      → Acts stands entry cmp join f code old new step result
  evicts : (p page : ℕ) (v v' : PartitionView K V I)
      → step ≡ Head p page
      → IsDue old step v
      → Evicts true v v' page (suc old.moment) (Ok tt)
      → IsQuiet true v v' (suc old.moment)
      → new ≡ with_partition old p v'
      → result ≡ Ok outcome.Shifted
      → Acts stands entry cmp join f code old new step result
  -- the lowest page that is not flushed is taken, which changes nothing in the partition but its moment
  takes : (p : ℕ) (v : PartitionView K V I) (job : FlushJob)
      → step ≡ Take p
      → IsDue old step v
      → job.page ≡ length v.records.log.receipts
      → slice_get v.records.log.waiting 0 ≡ Some job.bytes
      → new ≡ with_job (with_partition old p (at_moment v (suc old.moment))) p (Some job)
      → result ≡ Ok (outcome.Taken job.page)
      → Acts stands entry cmp join f code old new step result
  -- a write spends the page that was taken, whether it is flushed or not
  spoils : (p : ℕ) (access : Access) (v : PartitionView K V I) (job : FlushJob) (e : Refused)
      → step ≡ Write p access
      → IsDue old step v
      → job_in old.jobs p ≡ Some job
      → Spoils v (suc old.moment) job access e
      → new ≡ with_job old p None
      → result ≡ Err e
      → Acts stands entry cmp join f code old new step result
  writes : (p : ℕ) (v v' : PartitionView K V I) (job : FlushJob)
      → step ≡ Write p Works
      → IsDue old step v
      → job_in old.jobs p ≡ Some job
      → Flushes v v' (receipt_of job) job.bytes (suc old.moment) (Ok tt)
      → IsQuiet true v v' (suc old.moment)
      → new ≡ with_job (with_partition old p v') p None
      → result ≡ Ok (outcome.Flushed job.page)
      → Acts stands entry cmp join f code old new step result
  issues : (p slot c : ℕ) (op : Op K V I) (v v' : PartitionView K V I) (seat : Seat)
      → step ≡ Issue p slot op
      → IsDue old step v
      → Issues code v v' slot op (suc old.moment) (Ok c)
      → IsIssue code v v' slot c op (suc old.moment)
      → slot < 16
      → slice_get old.seats (seat_row p slot) ≡ Some seat
      → new ≡ with_life old (record { partition = p; slot = slot; context = c }) seat op v'
      → result ≡ Ok (outcome.Issued c)
      → Acts stands entry cmp join f code old new step result
  goes : (w : ContextId) (v v' : PartitionView K V I) (progress : Progress K V I O R)
      → step ≡ Go w
      → IsDue old step v
      → Goes stands cmp join f code v v' w.slot w.context (suc old.moment) (Ok progress)
      → IsEvent cmp f v v' w.slot w.context (suc old.moment) progress
      → new ≡ with_progress old w progress v'
      → result ≡ Ok (told progress)
      → Acts stands entry cmp join f code old new step result
  installs : (w : ContextId) (v v' : PartitionView K V I) (ask : Ask K V I) (progress : Progress K V I O R)
      → step ≡ Install w
      → IsDue old step v
      → question_in old.questions w ≡ Some ask
      → Installs cmp f code v v' w.slot w.context ask (suc old.moment) (Ok progress)
      → IsEvent cmp f v v' w.slot w.context (suc old.moment) progress
      → new ≡ with_progress old w progress v'
      → result ≡ Ok (told progress)
      → Acts stands entry cmp join f code old new step result
  loads : (w : ContextId) (access : Access) (v v' : PartitionView K V I) (receipt : R) (came : Result (Joined R) Refused)
      (progress : Progress K V I O R)
      → step ≡ Load w access
      → IsDue old step v
      → receipt_in old.receipts w ≡ Some receipt
      → Comes stands receipt access came
      → Loads stands entry cmp join f code v v' w.slot w.context came (suc old.moment) (Ok progress)
      → IsLoad cmp f v v' w.slot w.context (suc old.moment) progress
      → new ≡ with_progress old w progress v'
      → result ≡ Ok (told progress)
      → Acts stands entry cmp join f code old new step result
  -- a page that could not be read, or is damaged, ends the operation that asked for it: that step is refused, and takes
  -- its moment
  fails : (w : ContextId) (access : Access) (v v' : PartitionView K V I) (receipt : R) (came : Result (Joined R) Refused)
      (e : Refused)
      → step ≡ Load w access
      → IsDue old step v
      → receipt_in old.receipts w ≡ Some receipt
      → Comes stands receipt access came
      → Loads stands entry cmp join f code v v' w.slot w.context came (suc old.moment) (Err e)
      → ends_operation e ≡ true
      → IsGiveUp v v' w.slot w.context (suc old.moment)
      → new ≡ with_end old w Failed v'
      → result ≡ Err e
      → Acts stands entry cmp join f code old new step result
  gives_up : (w : ContextId) (v v' : PartitionView K V I)
      → step ≡ GiveUp w
      → IsDue old step v
      → GivesUp v v' w.slot w.context (suc old.moment) (Ok tt)
      → IsGiveUp v v' w.slot w.context (suc old.moment)
      → new ≡ with_end old w GivenUp v'
      → result ≡ Ok outcome.GivenUp
      → Acts stands entry cmp join f code old new step result
  -- Begin moves to the start of the page up to which all is cleared
  truncates : (p : ℕ) (v v' : PartitionView K V I)
      → step ≡ Truncate p
      → IsDue old step v
      → Truncates true v v' (page_at v.records.log.bits v.cleared) (suc old.moment) (Ok tt)
      → IsTruncation true cmp v v' (page_at v.records.log.bits v.cleared) (suc old.moment)
      → new ≡ with_partition old p v'
      → result ≡ Ok (outcome.Truncated v'.records.log.begin)
      → Acts stands entry cmp join f code old new step result

-- a step of a world: it is kept with its outcome, after those before it; where there is no memory to keep them, nothing is
-- done
pub data Steps {K V I O R : Type 0} (stands : R → Standing) (entry : ℕ → List ℕ → ℕ → Entry K V → Type 0)
    (cmp : K → K → Ordering) (join : V → V → V) (f : Meanings K V I O) (code : K → ℕ) (old new : WorldView K V I O R)
    (step : Step K V I) (result : Result (Outcome V O) Refused) : Type 0 where
  unkept : new ≡ old → result ≡ Err NoMemory → Steps stands entry cmp join f code old new step result
  kept : Acts stands entry cmp join f code old.state new.state step result
      → new.steps ≡ old.steps ++ step ∷ []
      → new.outcomes ≡ old.outcomes ++ result ∷ []
      → Steps stands entry cmp join f code old new step result
