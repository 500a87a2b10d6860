-- What a world reports, and a list of steps done in turn.
use Rattle.std.specs.Prelude.{◌≡◌, ◌||◌, ℕ, zero, suc, Bool, false, cond, is_some, slice_get, List, [], ◌∷◌, ◌++◌, Option, Some, None, Result, Ok, Err, map, unwrap_or}
use Rattle.std.specs.declared.cmp.Ordering.{Ordering}
use Rattle.std.specs.BTreeMap.{is_at}
use Rattle.std.specs.Map.{lookup, keys_of}
use Rattle.std.specs.List.Sorted.{IsStrictlySortedBy}
use Rattle.fkv_functions.specs.Meanings.{Meanings}
use Rattle.fkv_functions.specs.declared.refusals.Refused.{Refused}
use Rattle.fkv_functions.specs.declared.refusals.Refused.TheVariants.{Stalled, NoMemory}
use Rattle.fkv_texts.specs.declared.entries.Entry.{Entry}
use Rattle.fkv_device.specs.Standing.{Standing}
use Rattle.fkv_partition.specs.declared.limits.Config.{Config}
use Rattle.fkv_partition.specs.Views.{loading_at, PartitionView, relocation_at}
use Rattle.fkv_partition.specs.Going.{is_awaiting}
use Rattle.fkv_partition.specs.Unions.{union_of}
use Rattle.fkv_lives.specs.declared.lives.Life.{Life}
use Rattle.fkv_lives.specs.declared.outcomes.Outcome.{Outcome}
use Rattle.fkv_lives.specs.declared.outcomes.Outcome.TheVariants.{Entered, Left, Refreshed, Shifted, Taken, Flushed, Issued, Next, Build, Load, Waits, Done, GivenUp, Truncated}
use Rattle.fkv_lives.specs.declared.steps.ContextId.{ContextId}
use Rattle.fkv_lives.specs.declared.steps.Step.{Step}
use Rattle.fkv_lives.specs.declared.steps.Access.TheVariants.{Works}
use Rattle.fkv_lives.specs.declared.steps.Step.TheVariants as step
use Rattle.fkv_worlds.specs.declared.run_until.Until.{Until}
use Rattle.fkv_worlds.specs.declared.run_until.Until.TheVariants.{Ready, Finish}
use Rattle.fkv_worlds.specs.States.{WorldView, empty_world}
use Rattle.fkv_worlds.specs.Acts.{Acts}
use Rattle.fkv_lives.specs.Histories.{backwards, issues_in, issue_of}
use Rattle.fkv_worlds.specs.Headline.{IsHeadline}

-- a report of a world: its outcomes, its lives, and each live key with its value, keys rising
pub record IsReport {K V I O R : Type 0} (cmp : K → K → Ordering) (code : K → ℕ) (w : WorldView K V I O R)
    (told : List (Result (Outcome V O) Refused)) (lived : List (Life K V I O)) (pairs : List (K × V)) : Type 0 where
  pub outcomes : told ≡ w.outcomes
  pub lives : lived ≡ w.state.lives
  pub map : (k : K) → lookup (is_at (cmp k)) pairs ≡ union_of cmp code w.state.partitions k
  pub rising : IsStrictlySortedBy cmp (keys_of pairs)

-- a step that was done, or refused, and kept; the world that it leads to keeps the headline
pub record IsStepTaken {K V I O R : Type 0} (stands : R → Standing) (entry : ℕ → List ℕ → ℕ → Entry K V → Type 0)
    (cmp : K → K → Ordering) (join : V → V → V) (f : Meanings K V I O) (code : K → ℕ) (old new : WorldView K V I O R)
    (step : Step K V I) (r : Result (Outcome V O) Refused) : Type 0 where
  pub acts : Acts stands entry cmp join f code old.state new.state step r
  pub steps : new.steps ≡ old.steps ++ step ∷ []
  pub outcomes : new.outcomes ≡ old.outcomes ++ r ∷ []
  pub headline : IsHeadline cmp f code new

-- the steps of a list, in turn, each of them kept
abbrev pub RunsTo : {K V I O R : Type 0} → (R → Standing) → (ℕ → List ℕ → ℕ → Entry K V → Type 0) → (K → K → Ordering)
    → (V → V → V) → Meanings K V I O → (K → ℕ) → WorldView K V I O R → List (Step K V I) → WorldView K V I O R → Type 0
RunsTo stands entry cmp join f code v [] w = w ≡ v
RunsTo {K} {V} {I} {O} {R} stands entry cmp join f code v (s ∷ ss) w =
    (u : WorldView K V I O R)
    × (r : Result (Outcome V O) Refused)
    × IsStepTaken stands entry cmp join f code v u s r
    × RunsTo stands entry cmp join f code u ss w

-- a replay: the steps in turn from a world with nothing in it, where each world along the list keeps the headline, and the
-- report of the world which they lead to
pub record IsReplay {K V I O R : Type 0} (stands : R → Standing) (entry : ℕ → List ℕ → ℕ → Entry K V → Type 0)
    (cmp : K → K → Ordering) (join : V → V → V) (f : Meanings K V I O) (code : K → ℕ) (merges : Bool) (config : Config)
    (record_size : ℕ) (steps : List (Step K V I)) (told : List (Result (Outcome V O) Refused))
    (lived : List (Life K V I O)) (pairs : List (K × V)) : Type 0 where
  pub world : WorldView K V I O R
  pub ran : RunsTo stands entry cmp join f code (empty_world merges config record_size) steps world
  pub headline : IsHeadline cmp f code world
  pub report : IsReport cmp code world told lived pairs
  -- the lives are those of the accepted issues of the steps, in order
  pub issued : map issue_of lived ≡ issues_in (backwards steps told [])

-- the step that follows an outcome, if one does: `ready` goes on after Next, and `finish` installs after Build and loads
-- after Load too
abbrev pub step_after : {K V I O : Type 0} → Until → ContextId → Outcome V O → Option (Step K V I)
step_after until place (Entered slot) = None
step_after until place Left = None
step_after until place Refreshed = None
step_after until place Shifted = None
step_after until place (Taken page) = None
step_after until place (Flushed page) = None
step_after until place (Issued context) = None
step_after until place Next = Some (step.Go place)
step_after Ready place (Build source) = None
step_after Finish place (Build source) = Some (step.Install place)
step_after Ready place (Load address) = None
step_after Finish place (Load address) = Some (step.Load place Works)
step_after until place (Waits why) = None
step_after until place (Done a) = None
step_after until place GivenUp = None
step_after until place (Truncated begin) = None

abbrev pub follows : {K V I O : Type 0} → Until → ContextId → Result (Outcome V O) Refused → Option (Step K V I)
follows until place (Ok x) = step_after until place x
follows until place (Err e) = None

-- the step that a run begins with: `finish` begins with the load, where the operation waits for a page
abbrev pub awaits_at : {K V I : Type 0} → Option (PartitionView K V I) → ℕ → ℕ → Bool
awaits_at None slot c = false
awaits_at (Some v) slot c = is_some (loading_at v slot c) || is_awaiting (relocation_at v slot c)

abbrev pub first_step : {K V I : Type 0} → List (PartitionView K V I) → Until → ContextId → Step K V I
first_step views Ready place = step.Go place
first_step views Finish place =
    cond (awaits_at (slice_get views place.partition) place.slot place.context) (step.Load place Works) (step.Go place)

-- at most so many steps, each of them kept, the first of them this one, and each followed by the one that its outcome
-- leads to; where another would follow the last of them, the run is Stalled. It answers what its last step told,
-- and nothing where there was no memory to keep a step's outcome: that step was not done.
pub data RunsUntil {K V I O R : Type 0} (stands : R → Standing) (entry : ℕ → List ℕ → ℕ → Entry K V → Type 0)
    (cmp : K → K → Ordering) (join : V → V → V) (f : Meanings K V I O) (code : K → ℕ) (until : Until)
    (place : ContextId) (new : WorldView K V I O R) (result : Option (Result (Outcome V O) Refused))
    : ℕ → Step K V I → WorldView K V I O R → Type 0 where
  unkept : (n : ℕ) (s : Step K V I) (v : WorldView K V I O R)
      → new ≡ v
      → result ≡ None
      → RunsUntil stands entry cmp join f code until place new result (suc n) s v
  stalls : (s : Step K V I) (v : WorldView K V I O R)
      → new ≡ v
      → result ≡ Some (Err Stalled)
      → RunsUntil stands entry cmp join f code until place new result zero s v
  ends : (n : ℕ) (s : Step K V I) (v : WorldView K V I O R) (x : Result (Outcome V O) Refused)
      → IsStepTaken stands entry cmp join f code v new s x
      → follows {K = K} {I = I} until place x ≡ None
      → result ≡ Some x
      → RunsUntil stands entry cmp join f code until place new result (suc n) s v
  goes_on : (n : ℕ) (s t : Step K V I) (v u : WorldView K V I O R) (x : Result (Outcome V O) Refused)
      → IsStepTaken stands entry cmp join f code v u s x
      → follows until place x ≡ Some t
      → RunsUntil stands entry cmp join f code until place new result n t u
      → RunsUntil stands entry cmp join f code until place new result (suc n) s v

-- a run of at most 10,000 steps, and what it answers: NoMemory where an outcome could not be kept
pub record IsRunUntil {K V I O R : Type 0} (stands : R → Standing) (entry : ℕ → List ℕ → ℕ → Entry K V → Type 0)
    (cmp : K → K → Ordering) (join : V → V → V) (f : Meanings K V I O) (code : K → ℕ) (until : Until)
    (place : ContextId) (old new : WorldView K V I O R) (result : Result (Outcome V O) Refused) : Type 0 where
  pub kept : Option (Result (Outcome V O) Refused)
  pub runs : RunsUntil stands entry cmp join f code until place new kept 10000
      (first_step old.state.partitions until place) old
  pub answers : result ≡ unwrap_or kept (Err NoMemory)
