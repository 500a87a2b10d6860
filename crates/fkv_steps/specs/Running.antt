-- What the lines of a script do, and what a whole script prints.
use Rattle.std.specs.Prelude.{◌≡◌, ◌≤◌, length, ℕ, ℤ, pos, negsuc, List, [], ◌∷◌, ◌++◌, map, Bool, true, false, Option, Some, None, Result, Ok}
use Rattle.std.specs.declared.cmp.Ordering.{Ordering}
use Rattle.std.specs.Fmt.{decimal, signed_decimal}
use Rattle.std.specs.BTreeMap.{is_at}
use Rattle.std.specs.Map.{lookup, keys_of}
use Rattle.std.specs.List.Sorted.{IsStrictlySortedBy}
use Rattle.fkv_functions.specs.Meanings.{Meanings}
use Rattle.fkv_functions.specs.Names.{name_cmp, text_of}
use Rattle.fkv_functions.specs.Integers.{word_codec, signed_codec, long_codec}
use Rattle.fkv_functions.specs.Sets.{counts, sums, maxima, capped_sums, count_parts, sum_parts, max_parts}
use Rattle.fkv_functions.specs.Hashes.{fnv_1a}
use Rattle.fkv_functions.specs.declared.names.Name.{Name}
use Rattle.fkv_functions.specs.declared.refusals.Refused.{Refused}
use Rattle.fkv_device.specs.Standing.{Standing}
use Rattle.fkv_texts.specs.declared.entries.Entry.{Entry}
use Rattle.fkv_operations.specs.declared.operations.KeyedOp.{KeyedOp}
use Rattle.fkv_operations.specs.declared.operations.KeyedOp.TheVariants as on_key
use Rattle.fkv_operations.specs.declared.operations.Op.{Op}
use Rattle.fkv_operations.specs.declared.operations.Op.TheVariants.{Read, Upsert, Rmw, Delete, Merge, Relocate}
use Rattle.fkv_partition.specs.declared.limits.Config.{Config}
use Rattle.fkv_partition.specs.Limits.{IsWithinLimits}
use Rattle.fkv_lives.specs.declared.outcomes.Outcome.{Outcome}
use Rattle.fkv_lives.specs.declared.outcomes.Outcome.TheVariants.{Taken, Issued}
use Rattle.fkv_lives.specs.declared.steps.Access.{Access}
use Rattle.fkv_lives.specs.declared.steps.Step.{Step}
use Rattle.fkv_lives.specs.declared.steps.Step.TheVariants as step
use Rattle.fkv_worlds.specs.declared.run_until.Until.TheVariants as until
use Rattle.fkv_scripts.specs.declared.lines.Line.{Line}
use Rattle.fkv_scripts.specs.declared.lines.Line.TheVariants as line
use Rattle.fkv_scripts.specs.declared.lines.Opening.{Opening}
use Rattle.fkv_scripts.specs.declared.lines.FunctionsName.{FunctionsName}
use Rattle.fkv_scripts.specs.declared.lines.FunctionsName.TheVariants.{Count, Sum, Max, Capped}
use Rattle.fkv_scripts.specs.Configs.{config_of}
use Rattle.fkv_scripts.specs.Script.{lines_of, SaysScript}
use Rattle.fkv_worlds.specs.States.{WorldView, empty_world}
use Rattle.fkv_lives.specs.Histories.{backwards, issues_in, issue_of, answers_in}
use Rattle.fkv_worlds.specs.Headline.{IsHeadline}
use Rattle.fkv_partition.specs.Unions.{union_of}
use Rattle.fkv_worlds.specs.Reports.{IsStepTaken, RunsTo, RunsUntil, first_step}
use Rattle.fkv_steps.specs.Bytes.{standing_of, IsNamedEntry}
use Rattle.fkv_steps.specs.Printing.{steps_text, map_text}

-- the context of an accepted issue
abbrev pub context_in : {V O : Type 0} → Result (Outcome V O) Refused → Option ℕ
context_in (Ok (Issued c)) = Some c
context_in other = None

-- whether a page was taken
abbrev pub is_page : {V O : Type 0} → Result (Outcome V O) Refused → Bool
is_page (Ok (Taken page)) = true
is_page other = false

-- what follows an issue, and is told
pub data FollowsIssue {V O R : Type 0} (stands : R → Standing) (entry : ℕ → List ℕ → ℕ → Entry Name V → Type 0)
    (cmp : Name → Name → Ordering) (join : V → V → V) (f : Meanings Name V ℤ O) (code : Name → ℕ) (p slot : ℕ)
    (mid new : WorldView Name V ℤ O R) (told issued : Result (Outcome V O) Refused) : Type 0 where
  -- what was issued is finished
  finishes : (c : ℕ)
      → context_in issued ≡ Some c
      → RunsUntil stands entry cmp join f code until.Finish (record { partition = p; slot = slot; context = c }) new
      (Some told) 10000
      (first_step mid.state.partitions until.Finish (record { partition = p; slot = slot; context = c })) mid
      → FollowsIssue stands entry cmp join f code p slot mid new told issued
  -- nothing was issued
  tells : context_in issued ≡ None
      → new ≡ mid
      → told ≡ issued
      → FollowsIssue stands entry cmp join f code p slot mid new told issued

-- what follows a take, and is told
pub data FollowsTake {V O R : Type 0} (stands : R → Standing) (entry : ℕ → List ℕ → ℕ → Entry Name V → Type 0)
    (cmp : Name → Name → Ordering) (join : V → V → V) (f : Meanings Name V ℤ O) (code : Name → ℕ) (p : ℕ)
    (access : Access) (mid new : WorldView Name V ℤ O R) (told taken : Result (Outcome V O) Refused) : Type 0 where
  -- the page that was taken is written
  writes : is_page taken ≡ true
      → IsStepTaken stands entry cmp join f code mid new (step.Write p access) told
      → FollowsTake stands entry cmp join f code p access mid new told taken
  -- no page was taken
  tells : is_page taken ≡ false
      → new ≡ mid
      → told ≡ taken
      → FollowsTake stands entry cmp join f code p access mid new told taken

-- the operation of a line, on values: an upsert writes the value of its amount
abbrev pub op_of : {V : Type 0} → (ℤ → V) → KeyedOp Name ℤ ℤ → Op Name V ℤ
op_of written (on_key.Read k i) = Read k i
op_of written (on_key.Upsert k n) = Upsert k (written n)
op_of written (on_key.Rmw k n) = Rmw k n
op_of written (on_key.Delete k) = Delete k
op_of written (on_key.Merge k n) = Merge k n

-- what a line does, and tells: a step, or several, each of them kept; an amount is written as this value
abbrev pub RunsLine : {V O R : Type 0} → (R → Standing) → (ℕ → List ℕ → ℕ → Entry Name V → Type 0)
    → (Name → Name → Ordering) → (V → V → V) → Meanings Name V ℤ O → (Name → ℕ) → (ℤ → V) → WorldView Name V ℤ O R
    → WorldView Name V ℤ O R → Result (Outcome V O) Refused → Line → Type 0
RunsLine stands entry cmp join f code written old new told (line.Enter p) =
    IsStepTaken stands entry cmp join f code old new (step.Enter p) told
RunsLine stands entry cmp join f code written old new told (line.Leave p slot) =
    IsStepTaken stands entry cmp join f code old new (step.Leave p slot) told
RunsLine stands entry cmp join f code written old new told (line.Refresh p slot) =
    IsStepTaken stands entry cmp join f code old new (step.Refresh p slot) told
RunsLine stands entry cmp join f code written old new told (line.ReadOnly p page) =
    IsStepTaken stands entry cmp join f code old new (step.ReadOnly p page) told
RunsLine stands entry cmp join f code written old new told (line.Head p page) =
    IsStepTaken stands entry cmp join f code old new (step.Head p page) told
RunsLine {V} {O} {R} stands entry cmp join f code written old new told (line.Flush p access) =
    (mid : WorldView Name V ℤ O R)
    × (taken : Result (Outcome V O) Refused)
    × IsStepTaken stands entry cmp join f code old mid (step.Take p) taken
    × FollowsTake stands entry cmp join f code p access mid new told taken
RunsLine stands entry cmp join f code written old new told (line.Truncate p) =
    IsStepTaken stands entry cmp join f code old new (step.Truncate p) told
RunsLine stands entry cmp join f code written old new told (line.Issue p slot op) =
    IsStepTaken stands entry cmp join f code old new (step.Issue p slot (op_of written op)) told
RunsLine {V} {O} {R} stands entry cmp join f code written old new told (line.Do p slot op) =
    (mid : WorldView Name V ℤ O R)
    × (issued : Result (Outcome V O) Refused)
    × IsStepTaken stands entry cmp join f code old mid (step.Issue p slot (op_of written op)) issued
    × FollowsIssue stands entry cmp join f code p slot mid new told issued
RunsLine {V} {O} {R} stands entry cmp join f code written old new told (line.Compact p slot) =
    (mid : WorldView Name V ℤ O R)
    × (issued : Result (Outcome V O) Refused)
    × IsStepTaken stands entry cmp join f code old mid (step.Issue p slot Relocate) issued
    × FollowsIssue stands entry cmp join f code p slot mid new told issued
RunsLine stands entry cmp join f code written old new told (line.Go w) =
    IsStepTaken stands entry cmp join f code old new (step.Go w) told
RunsLine stands entry cmp join f code written old new told (line.Install w) =
    IsStepTaken stands entry cmp join f code old new (step.Install w) told
RunsLine stands entry cmp join f code written old new told (line.Load w access) =
    IsStepTaken stands entry cmp join f code old new (step.Load w access) told
RunsLine stands entry cmp join f code written old new told (line.GiveUp w) =
    IsStepTaken stands entry cmp join f code old new (step.GiveUp w) told
RunsLine stands entry cmp join f code written old new told (line.Ready w) =
    RunsUntil stands entry cmp join f code until.Ready w new (Some told) 10000
    (first_step old.state.partitions until.Ready w) old
RunsLine stands entry cmp join f code written old new told (line.Finish w) =
    RunsUntil stands entry cmp join f code until.Finish w new (Some told) 10000
    (first_step old.state.partitions until.Finish w) old

-- lines in turn, and what each of them tells
abbrev pub RunLines : {V O R : Type 0} → (R → Standing) → (ℕ → List ℕ → ℕ → Entry Name V → Type 0)
    → (Name → Name → Ordering) → (V → V → V) → Meanings Name V ℤ O → (Name → ℕ) → (ℤ → V) → WorldView Name V ℤ O R
    → List Line → List (Result (Outcome V O) Refused) → WorldView Name V ℤ O R → Type 0
RunLines stands entry cmp join f code written v [] [] w = w ≡ v
RunLines stands entry cmp join f code written v [] (t ∷ ts) w = ⊥
RunLines stands entry cmp join f code written v (l ∷ ls) [] w = ⊥
RunLines {V} {O} {R} stands entry cmp join f code written v (l ∷ ls) (t ∷ ts) w =
    (u : WorldView Name V ℤ O R)
    × RunsLine stands entry cmp join f code written v u t l
    × RunLines stands entry cmp join f code written u ls ts w

-- the text that a script prints: what each line tells, and then each live key with its value, keys rising, in a world
-- that keeps the headline
pub record IsPrintedBy {V O R : Type 0} (stands : R → Standing) (entry : ℕ → List ℕ → ℕ → Entry Name V → Type 0)
    (cmp : Name → Name → Ordering) (join : V → V → V) (f : Meanings Name V ℤ O) (code : Name → ℕ)
    (written : ℤ → V) (value : V → List ℕ) (shown : O → List ℕ) (merges : Bool) (config : Config) (record_size : ℕ) (lines : List Line)
    (text : List ℕ) : Type 0 where
  pub world : WorldView Name V ℤ O R
  pub told : List (Result (Outcome V O) Refused)
  pub pairs : List (Name × V)
  pub ran : RunLines stands entry cmp join f code written (empty_world merges config record_size) lines told world
  pub headline : IsHeadline cmp f code world
  -- the steps that the lines asked for, each of them kept; the lives are those of their accepted issues, in order; and
  -- the answers that are printed are those that the steps told, no more and no fewer
  pub steps : List (Step Name V ℤ)
  pub stepped : RunsTo stands entry cmp join f code (empty_world merges config record_size) steps world
  pub issued : map issue_of world.state.lives ≡ issues_in (backwards steps world.outcomes [])
  pub answers : answers_in told ≡ answers_in world.outcomes
  pub map : (k : Name) → lookup (is_at (cmp k)) pairs ≡ union_of cmp code world.state.partitions k
  pub rising : IsStrictlySortedBy cmp (keys_of pairs)
  pub printed : text ≡ steps_text value shown told ++ map_text value pairs

-- the count that an amount writes; no script writes one below 0
abbrev pub count_of : ℤ → ℕ
count_of (pos n) = n
count_of (negsuc n) = 0

-- how many bytes a record has: 8, those of its key and of its value, and zeros up to a multiple of 8
abbrev pub record_size : FunctionsName → ℕ
record_size Count = 48
record_size Sum = 56
record_size Max = 48
record_size Capped = 56

-- the hash of a name
abbrev pub hash_of : Name → ℕ
hash_of name = fnv_1a (text_of name)

-- the text that a script prints with the functions that its first line names
abbrev pub Prints : FunctionsName → Config → List Line → List ℕ → Type 0
Prints Count config lines text =
    IsPrintedBy standing_of (IsNamedEntry word_codec) name_cmp (count_parts {K = Name}).joined
    counts hash_of count_of decimal decimal true config (record_size Count) lines text
Prints Sum config lines text =
    IsPrintedBy standing_of (IsNamedEntry long_codec) name_cmp (sum_parts {K = Name}).joined
    sums hash_of (λ n. n) signed_decimal signed_decimal true config (record_size Sum) lines text
Prints Max config lines text =
    IsPrintedBy standing_of (IsNamedEntry signed_codec) name_cmp (max_parts {K = Name}).joined
    maxima hash_of (λ n. n) signed_decimal signed_decimal true config (record_size Max) lines text
Prints Capped config lines text =
    IsPrintedBy standing_of (IsNamedEntry long_codec) name_cmp (λ v w. w)
    capped_sums hash_of (λ n. n) signed_decimal signed_decimal false config (record_size Capped) lines text

-- the output of an input: it says a script of at most 1,000,000 lines, whose numbers are within the limits, and this is
-- what the script prints
pub record IsOutputOf (input text : List ℕ) : Type 0 where
  pub opening : Opening
  pub lines : List Line
  pub short : length (lines_of input) ≤ 1000000
  pub says : SaysScript (lines_of input) opening lines
  pub within : IsWithinLimits (config_of opening) (record_size opening.functions)
  pub prints : Prints opening.functions (config_of opening) lines text

-- an input says a script of at most 1,000,000 lines with a number outside the limits
pub record HasBadConfig (input : List ℕ) : Type 0 where
  pub opening : Opening
  pub lines : List Line
  pub short : length (lines_of input) ≤ 1000000
  pub says : SaysScript (lines_of input) opening lines
  pub outside : ¬ IsWithinLimits (config_of opening) (record_size opening.functions)
