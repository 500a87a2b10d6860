-- What the definitions refuse, on small lists of lives: keys, values, inputs and outputs are numbers, the functions
-- any.
use Rattle.std.specs.Prelude.{◌≡◌, ◌≤◌, ◌<◌, true, ℕ, List, [], ◌∷◌, map, Some, None, Result, Ok, Err}
use Rattle.std.specs.Ordering.{nat_cmp}
use Rattle.fkv_functions.specs.Meanings.{Meanings}
use Rattle.fkv_operations.specs.declared.operations.Op.{Op}
use Rattle.fkv_operations.specs.declared.operations.Op.TheVariants.{Read, Upsert, Rmw, Delete, Merge, Relocate}
use Rattle.fkv_operations.specs.declared.operations.Answer.{Answer}
use Rattle.fkv_operations.specs.declared.operations.Answer.TheVariants.{Absent, Stored, Deleted, Cleared}
use Rattle.fkv_lives.specs.declared.lives.Life.{Life}
use Rattle.fkv_lives.specs.declared.lives.End.TheVariants.{Open, Finished}
use Rattle.fkv_functions.specs.declared.refusals.Refused.{Refused}
use Rattle.fkv_functions.specs.declared.refusals.Refused.TheVariants.{Unknown}
use Rattle.fkv_operations.specs.After.{told_of}
use Rattle.fkv_operations.specs.Operations.{may_update}
use Rattle.fkv_lives.specs.declared.outcomes.Outcome.{Outcome}
use Rattle.fkv_lives.specs.declared.outcomes.Outcome.TheVariants.{Entered, Left, Issued, Done}
use Rattle.fkv_lives.specs.declared.steps.ContextId.{ContextId}
use Rattle.fkv_lives.specs.declared.steps.Step.TheVariants.{Enter, Leave, Issue, Go}
use Rattle.fkv_lives.specs.Accounts.{IsAccount}
use Rattle.fkv_lives.specs.Histories.{Event, backwards, issues_in, issue_of, issue_at}
use Rattle.fkv_lives.specs.Told.{taken}
use Rattle.fkv_lives.specs.Lives.{map_before}
use Rattle.fkv_lives.specs.Placed.{IsPlaced}

-- any functions on numbers
abbrev pub Numbers : Type 0
Numbers = Meanings ℕ ℕ ℕ ℕ

-- an operation that was issued at one step, took effect at the next number and was answered at the last
abbrev pub finished : Op ℕ ℕ ℕ → ℕ → ℕ → ℕ → Answer ℕ → Life ℕ ℕ ℕ ℕ
finished op issue effect done a = record {
  partition = 0;
  session = 1;
  number = 1;
  op = op;
  issue = issue;
  end = Finished (record { effect = effect; done = done; answer = a });
}

abbrev pub opened : Op ℕ ℕ ℕ → ℕ → Life ℕ ℕ ℕ ℕ
opened op issue = record { partition = 0; session = 1; number = 1; op = op; issue = issue; end = Open }

-- an answer that nobody gave: a read of no value is Absent, a first update shows the first value or is Declined, a blind
-- write or a merge is Stored, a delete is Deleted and a relocation is Cleared
abbrev pub RefusesInvented : Type 0
RefusesInvented = (f : Numbers) (k i v now : ℕ) (a : Answer ℕ)
    → (IsPlaced nat_cmp f (finished (Read k i) 1 2 2 a ∷ []) now → a ≡ Absent)
    × (IsPlaced nat_cmp f (finished (Rmw k i) 1 2 2 a ∷ []) now → a ≡ told_of f k i (f.first k i))
    × (IsPlaced nat_cmp f (finished (Upsert k v) 1 2 2 a ∷ []) now → a ≡ Stored)
    × (IsPlaced nat_cmp f (finished (Delete k) 1 2 2 a ∷ []) now → a ≡ Deleted)
    × (IsPlaced nat_cmp f (finished (Merge k i) 1 2 2 a ∷ []) now → a ≡ Stored)
    × (IsPlaced nat_cmp f (finished Relocate 1 2 2 a ∷ []) now → a ≡ Cleared)

-- an update or a merge that is left out, or counted twice; one that is open counts nothing, and neither does one that is
-- declined; a delete after a blind write leaves nothing
abbrev pub CountsOnce : Type 0
CountsOnce = (f : Numbers) (k i v : ℕ) (a b : Answer ℕ)
    → (map_before nat_cmp f (finished (Rmw k i) 1 2 2 a ∷ []) 2 k ≡ None)
    × (map_before nat_cmp f (finished (Rmw k i) 1 2 2 a ∷ []) 3 k ≡ f.first k i)
    × (map_before nat_cmp f (finished (Rmw k i) 1 2 2 a ∷ []) 4 k ≡ f.first k i)
    × (map_before nat_cmp f (finished (Merge k i) 1 2 2 a ∷ []) 3 k ≡ f.first k i)
    × (map_before nat_cmp f (opened (Rmw k i) 1 ∷ []) 4 k ≡ None)
    × (map_before nat_cmp f (finished (Upsert k v) 1 2 2 a ∷ finished (Delete k) 1 4 4 b ∷ []) 4 k ≡ Some v)
    × (map_before nat_cmp f (finished (Upsert k v) 1 2 2 a ∷ finished (Delete k) 1 4 4 b ∷ []) 5 k ≡ None)

-- two lives with their effects at one step
abbrev pub RefusesSharedSteps : Type 0
RefusesSharedSteps = (f : Numbers) (p q : Op ℕ ℕ ℕ) (i j d e s now : ℕ) (a b : Answer ℕ)
    → IsPlaced nat_cmp f (finished p i s d a ∷ finished q j s e b ∷ []) now → ⊥

-- an effect at the issue, before it, or after the answer; an answer at a step to come
abbrev pub RefusesOtherTimes : Type 0
RefusesOtherTimes = (f : Numbers) (op : Op ℕ ℕ ℕ) (issue effect done now : ℕ) (a : Answer ℕ)
    → IsPlaced nat_cmp f (finished op issue effect done a ∷ []) now → (issue < effect) × (effect ≤ done) × (done ≤ now)

-- an update, blind write or delete that takes effect before it is answered
abbrev pub RefusesEarlyUpdates : Type 0
RefusesEarlyUpdates = (f : Numbers) (op : Op ℕ ℕ ℕ) (issue effect done now : ℕ) (a : Answer ℕ)
    → may_update op ≡ true
    → IsPlaced nat_cmp f (finished op issue effect done a ∷ []) now
    → effect ≡ done

-- an answer that was told without a life
abbrev pub RefusesUnowned : Type 0
RefusesUnowned = (h : List (Event ℕ ℕ ℕ ℕ)) (now : ℕ) (a : Answer ℕ) → IsAccount [] (Ok (Done a) ∷ []) h now → ⊥

-- a life without an issue
abbrev pub RefusesUnissued : Type 0
RefusesUnissued = (h : List (Event ℕ ℕ ℕ ℕ)) (now : ℕ) (x : Life ℕ ℕ ℕ ℕ) → IsAccount (x ∷ []) [] h now → ⊥

-- what was issued is read off the steps: of two sessions in a partition the second issues, leaves, and a third takes its
-- slot and issues; of another partition nothing is read
abbrev pub ReadsIssues : Type 0
ReadsIssues = (p q : Op ℕ ℕ ℕ)
    → issues_in {O = ℕ} (backwards
    (Enter 1 ∷ Enter 0 ∷ Enter 1 ∷ Issue 1 1 p ∷ Leave 1 1 ∷ Enter 1 ∷ Issue 0 3 p ∷ Issue 1 1 q ∷ [])
    (Ok (Entered 0) ∷ Ok (Entered 0) ∷ Ok (Entered 1) ∷ Ok (Issued 0) ∷ Ok Left ∷ Ok (Entered 1) ∷ Err Unknown
    ∷ Ok (Issued 0) ∷ []) [])
    ≡ record { partition = 1; session = 2; op = p; issue = 4 } ∷ record { partition = 1; session = 3; op = q; issue = 7 } ∷ []

-- a life of another operation than was issued
abbrev pub RefusesUnasked : Type 0
RefusesUnasked = (p q : Op ℕ ℕ ℕ)
    → map issue_of (opened p 2 ∷ [])
    ≡ issues_in {O = ℕ} (backwards (Enter 0 ∷ Issue 0 0 q ∷ []) (Ok (Entered 0) ∷ Ok (Issued 0) ∷ []) [])
    → p ≡ q

-- a context of the first session of partition 0
abbrev pub first : ℕ → ContextId
first c = record { partition = 0; slot = 0; context = c }

-- two operations are open at once, and the answers are crossed: the step that goes on with the blind write is told
-- Deleted, and the one that goes on with the delete is told Stored
abbrev pub crossed : List (Result (Outcome ℕ ℕ) Refused)
crossed = Ok (Entered 0) ∷ Ok (Issued 0) ∷ Ok (Issued 1) ∷ Ok (Done Deleted) ∷ Ok (Done Stored) ∷ []

abbrev pub RefusesCrossed : Type 0
RefusesCrossed = (k q v now : ℕ)
    → IsAccount (finished (Upsert k v) 2 5 5 Stored ∷ finished (Delete q) 3 4 4 Deleted ∷ []) (taken crossed)
    (backwards (Enter 0 ∷ Issue 0 0 (Upsert k v) ∷ Issue 0 0 (Delete q) ∷ Go (first 0) ∷ Go (first 1) ∷ []) crossed [])
    now
    → ⊥

-- what a step goes on with is read off the steps: the second operation is answered, its context is given to a third, and
-- then the first and the third are answered
abbrev pub ReadsOwners : Type 0
ReadsOwners = (p q r : Op ℕ ℕ ℕ) (a b c : Answer ℕ) (h : List (Event ℕ ℕ ℕ ℕ))
    → h ≡ backwards
    (Enter 0 ∷ Issue 0 0 p ∷ Issue 0 0 q ∷ Go (first 1) ∷ Issue 0 0 r ∷ Go (first 0) ∷ Go (first 1) ∷ [])
    (Ok (Entered 0) ∷ Ok (Issued 0) ∷ Ok (Issued 1) ∷ Ok (Done a) ∷ Ok (Issued 1) ∷ Ok (Done b) ∷ Ok (Done c) ∷ []) []
    → (issue_at h 4 ≡ Some 3)
    × (issue_at h 6 ≡ Some 2)
    × (issue_at h 7 ≡ Some 5)
