-- Which operations were issued, and what was answered: read off the steps and what each was told.
use Rattle.std.specs.Prelude.{ℕ, suc, ◌==◌, ◌&&◌, Bool, false, cond, List, [], ◌∷◌, ◌++◌, Option, Some, None, option_map, Result, Ok, Err}
use Rattle.fkv_functions.specs.declared.refusals.Refused.{Refused}
use Rattle.fkv_operations.specs.declared.operations.Answer.{Answer}
use Rattle.fkv_operations.specs.declared.operations.Op.{Op}
use Rattle.fkv_lives.specs.declared.lives.Life.{Life}
use Rattle.fkv_lives.specs.declared.outcomes.Outcome.{Outcome}
use Rattle.fkv_lives.specs.declared.outcomes.Outcome.TheVariants.{Entered, Left, Refreshed, Shifted, Taken, Flushed, Issued, Next, Build, Load, Waits, Done, GivenUp, Truncated}
use Rattle.fkv_lives.specs.Told.{took_moment}
use Rattle.fkv_lives.specs.declared.steps.ContextId.{ContextId}
use Rattle.fkv_lives.specs.declared.steps.Step.{Step}
use Rattle.fkv_lives.specs.declared.steps.Step.TheVariants as step

-- a step, and what it was told
pub record Event (K V I O : Type 0) : Type 0 where
  pub step : Step K V I
  pub told : Result (Outcome V O) Refused

-- the steps with what they were told, the last one first, before which this was
abbrev pub backwards : {K V I O : Type 0} → List (Step K V I) → List (Result (Outcome V O) Refused)
    → List (Event K V I O) → List (Event K V I O)
backwards [] told before = before
backwards (s ∷ steps) [] before = before
backwards (s ∷ steps) (t ∷ told) before = backwards steps told (record { step = s; told = t } ∷ before)

-- who entered by a step: its partition, and the slot
abbrev pub entered_at : {K V I O : Type 0} → Result (Outcome V O) Refused → Step K V I → Option (ℕ × ℕ)
entered_at (Err e) s = None
entered_at (Ok (Entered slot)) (step.Enter p) = Some (p, slot)
entered_at (Ok x) s = None

-- what was issued by a step: its partition and slot, and the operation
abbrev pub issued_at : {K V I O : Type 0} → Result (Outcome V O) Refused → Step K V I → Option (ℕ × ℕ × Op K V I)
issued_at (Err e) s = None
issued_at (Ok x) (step.Issue p slot op) = Some (p, slot, op)
issued_at (Ok x) s = None

-- the steps that took a moment
abbrev pub moment_by : {V O : Type 0} → Result (Outcome V O) Refused → ℕ → ℕ
moment_by t n = cond (took_moment t) (suc n) n

abbrev pub moments : {K V I O : Type 0} → List (Event K V I O) → ℕ
moments [] = 0
moments (e ∷ before) = moment_by e.told (moments before)

-- how many sessions entered a partition
abbrev pub enters_by : ℕ → Option (ℕ × ℕ) → ℕ → ℕ
enters_by p None n = n
enters_by p (Some w) n = cond (w.0 == p) (suc n) n

abbrev pub enters_in : {K V I O : Type 0} → ℕ → List (Event K V I O) → ℕ
enters_in p [] = 0
enters_in p (e ∷ before) = enters_by p (entered_at e.told e.step) (enters_in p before)

-- the session of a slot: it entered last of those in that slot, and is numbered by the enters in its partition
abbrev pub session_by : ℕ → ℕ → Option (ℕ × ℕ) → ℕ → ℕ → ℕ
session_by p slot None here before = before
session_by p slot (Some w) here before = cond (w.0 == p && w.1 == slot) here before

abbrev pub session_in : {K V I O : Type 0} → ℕ → ℕ → List (Event K V I O) → ℕ
session_in p slot [] = 0
session_in p slot (e ∷ before) =
    session_by p slot (entered_at e.told e.step) (suc (enters_in p before)) (session_in p slot before)

-- an accepted issue: in which partition, by which session, of what, at which step
pub record IssuedOp (K V I : Type 0) : Type 0 where
  pub partition : ℕ
  pub session : ℕ
  pub op : Op K V I
  pub issue : ℕ

abbrev pub issue_by : {K V I O : Type 0} → Option (ℕ × ℕ × Op K V I) → List (Event K V I O) → List (IssuedOp K V I)
issue_by None before = []
issue_by (Some w) before =
    record { partition = w.0; session = session_in w.0 w.1 before; op = w.2; issue = suc (moments before) } ∷ []

-- the accepted issues, in order
abbrev pub issues_in : {K V I O : Type 0} → List (Event K V I O) → List (IssuedOp K V I)
issues_in [] = []
issues_in (e ∷ before) = issues_in before ++ issue_by (issued_at e.told e.step) before

-- what was issued where a life began
abbrev pub issue_of : {K V I O : Type 0} → Life K V I O → IssuedOp K V I
issue_of x = record { partition = x.partition; session = x.session; op = x.op; issue = x.issue }

-- the context that an accepted issue was given
abbrev pub given_at : {K V I O : Type 0} → Result (Outcome V O) Refused → Step K V I → Option ContextId
given_at (Err e) s = None
given_at (Ok (Issued c)) (step.Issue p slot op) = Some (record { partition = p; slot = slot; context = c })
given_at (Ok x) s = None

abbrev pub is_same : ContextId → Option ContextId → Bool
is_same w None = false
is_same w (Some u) = w.partition == u.partition && w.slot == u.slot && w.context == u.context

-- the step of the last accepted issue that was given a context, whose number is given anew once an operation has ended;
-- 0 where none was
abbrev pub given_in : {K V I O : Type 0} → ContextId → List (Event K V I O) → ℕ
given_in w [] = 0
given_in w (e ∷ before) =
    cond (is_same w (given_at e.told e.step)) (suc (moments before)) (given_in w before)

-- the context in which a step goes on with an operation
abbrev pub context_of : {K V I : Type 0} → Step K V I → Option ContextId
context_of (step.Enter p) = None
context_of (step.Leave p slot) = None
context_of (step.Refresh p slot) = None
context_of (step.ReadOnly p page) = None
context_of (step.Take p) = None
context_of (step.Write p access) = None
context_of (step.Head p page) = None
context_of (step.Issue p slot op) = None
context_of (step.Go w) = Some w
context_of (step.Install w) = Some w
context_of (step.Load w access) = Some w
context_of (step.GiveUp w) = None
context_of (step.Truncate p) = None

-- the issue of what a step went on with, both by their numbers: the last issue before it that was given its context
abbrev pub issue_at : {K V I O : Type 0} → List (Event K V I O) → ℕ → Option ℕ
issue_at [] s = None
issue_at (e ∷ before) s =
    cond (took_moment e.told && suc (moments before) == s) (option_map (λ w. given_in w before) (context_of e.step))
    (issue_at before s)

-- the answers that were told, in order
abbrev pub answer_by : {V O : Type 0} → Result (Outcome V O) Refused → List (Answer O) → List (Answer O)
answer_by (Ok (Entered slot)) rest = rest
answer_by (Ok Left) rest = rest
answer_by (Ok Refreshed) rest = rest
answer_by (Ok Shifted) rest = rest
answer_by (Ok (Taken page)) rest = rest
answer_by (Ok (Flushed page)) rest = rest
answer_by (Ok (Issued c)) rest = rest
answer_by (Ok Next) rest = rest
answer_by (Ok (Build source)) rest = rest
answer_by (Ok (Load address)) rest = rest
answer_by (Ok (Waits why)) rest = rest
answer_by (Ok (Done a)) rest = a ∷ rest
answer_by (Ok GivenUp) rest = rest
answer_by (Ok (Truncated begin)) rest = rest
answer_by (Err e) rest = rest

abbrev pub answers_in : {V O : Type 0} → List (Result (Outcome V O) Refused) → List (Answer O)
answers_in [] = []
answers_in (t ∷ told) = answer_by t (answers_in told)
