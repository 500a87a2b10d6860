-- What the steps were told: which took a moment, which answered, and which issued.
use Rattle.std.specs.Prelude.{◌==◌, Bool, true, false, cond, ℕ, zero, suc, List, [], ◌∷◌, Option, Some, None, Result, Ok, Err, slice_get}
use Rattle.std.specs.List.{filter}
use Rattle.fkv_functions.specs.declared.refusals.Refused.{Refused}
use Rattle.fkv_functions.specs.declared.refusals.Refused.TheVariants.{NoMemory, BadConfig, NoSlot, NoContext, Unknown, Busy, NotDue, DrainFull, Stranger, Worn, Device, Damaged, Stalled, Mismatch, BadRow, BadScript, NotReady, Unreadable, Unwritable, NoMerge}
use Rattle.fkv_operations.specs.declared.operations.Answer.{Answer}
use Rattle.fkv_lives.specs.declared.outcomes.Outcome.{Outcome}
use Rattle.fkv_lives.specs.declared.outcomes.Outcome.TheVariants.{Entered, Left, Refreshed, Shifted, Taken, Flushed, Issued, Next, Build, Load, Waits, Done, GivenUp, Truncated}

-- whether a refusal ends the operation that it is told to: that of a page which could not be read, or is damaged
abbrev pub ends_operation : Refused → Bool
ends_operation NoMemory = false
ends_operation BadConfig = false
ends_operation NoSlot = false
ends_operation NoContext = false
ends_operation Unknown = false
ends_operation Busy = false
ends_operation NotDue = false
ends_operation DrainFull = false
ends_operation (Stranger what held came) = false
ends_operation Worn = false
ends_operation (Device code page) = code == 3
ends_operation (Damaged page) = true
ends_operation Stalled = false
ends_operation Mismatch = false
ends_operation (BadRow feed row) = false
ends_operation (BadScript line) = false
ends_operation NotReady = false
ends_operation (Unreadable number) = false
ends_operation Unwritable = false
ends_operation NoMerge = false

-- whether a step took a moment: it was not refused, or was a load that ended its operation
abbrev pub took_moment : {V O : Type 0} → Result (Outcome V O) Refused → Bool
took_moment (Ok x) = true
took_moment (Err e) = ends_operation e

-- what the steps that took a moment were told, in order: that of moment s stands at s - 1
abbrev pub taken : {V O : Type 0} → List (Result (Outcome V O) Refused) → List (Result (Outcome V O) Refused)
taken told = filter took_moment told

-- the answer that a step told, if it told one
abbrev pub answer_in : {V O : Type 0} → Outcome V O → Option (Answer O)
answer_in (Entered slot) = None
answer_in Left = None
answer_in Refreshed = None
answer_in Shifted = None
answer_in (Taken page) = None
answer_in (Flushed page) = None
answer_in (Issued context) = None
answer_in Next = None
answer_in (Build source) = None
answer_in (Load address) = None
answer_in (Waits why) = None
answer_in (Done a) = Some a
answer_in GivenUp = None
answer_in (Truncated begin) = None

abbrev pub answer_told : {V O : Type 0} → Result (Outcome V O) Refused → Option (Answer O)
answer_told (Ok x) = answer_in x
answer_told (Err e) = None

abbrev pub answer_some : {V O : Type 0} → Option (Result (Outcome V O) Refused) → Option (Answer O)
answer_some None = None
answer_some (Some x) = answer_told x

-- the answer told at a step
abbrev pub told_at : {V O : Type 0} → List (Result (Outcome V O) Refused) → ℕ → Option (Answer O)
told_at told zero = None
told_at told (suc s) = answer_some (slice_get told s)

-- whether a step was an accepted issue
abbrev pub is_issue : {V O : Type 0} → Result (Outcome V O) Refused → Bool
is_issue (Ok (Entered slot)) = false
is_issue (Ok Left) = false
is_issue (Ok Refreshed) = false
is_issue (Ok Shifted) = false
is_issue (Ok (Taken page)) = false
is_issue (Ok (Flushed page)) = false
is_issue (Ok (Issued context)) = true
is_issue (Ok Next) = false
is_issue (Ok (Build source)) = false
is_issue (Ok (Load address)) = false
is_issue (Ok (Waits why)) = false
is_issue (Ok (Done a)) = false
is_issue (Ok GivenUp) = false
is_issue (Ok (Truncated begin)) = false
is_issue (Err e) = false

-- the steps of the accepted issues, where the first of these is step s
abbrev pub issues_from : {V O : Type 0} → ℕ → List (Result (Outcome V O) Refused) → List ℕ
issues_from s [] = []
issues_from s (t ∷ rest) = cond (is_issue t) (s ∷ issues_from (suc s) rest) (issues_from (suc s) rest)
