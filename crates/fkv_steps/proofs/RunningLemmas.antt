-- Lines of a script in turn.
use Rattle.std.proofs.Common.{◌≡◌, Bool, ℕ, ℤ, List, [], ◌∷◌, ◌++◌, Option, Some, None, Result, Ok, Err, refl, sym, ◌∙◌, ap, subst}
use Rattle.std.specs.declared.cmp.Ordering.{Ordering}
use Rattle.fkv_device.specs.Standing.{Standing}
use Rattle.fkv_texts.specs.declared.entries.Entry.{Entry}
use Rattle.fkv_functions.specs.Meanings.{Meanings}
use Rattle.fkv_functions.specs.declared.names.Name.{Name}
use Rattle.fkv_functions.specs.declared.refusals.Refused.{Refused}
use Rattle.fkv_functions.specs.declared.refusals.Refused.TheVariants.{Stalled}
use Rattle.fkv_operations.specs.declared.operations.Answer.{Answer}
use Rattle.fkv_operations.specs.declared.operations.KeyedOp.{KeyedOp}
use Rattle.fkv_operations.specs.declared.operations.Op.TheVariants.{Relocate}
use Rattle.fkv_lives.specs.declared.outcomes.Outcome.{Outcome}
use Rattle.fkv_lives.specs.declared.outcomes.Outcome.TheVariants as outcome
use Rattle.fkv_worlds.specs.declared.run_until.Until.{Until}
use Rattle.fkv_worlds.specs.declared.run_until.Until.TheVariants as until
use Rattle.fkv_lives.specs.declared.steps.ContextId.{ContextId}
use Rattle.fkv_lives.specs.declared.steps.Access.{Access}
use Rattle.fkv_lives.specs.declared.steps.Step.{Step}
use Rattle.fkv_lives.specs.declared.steps.Step.TheVariants as step
use Rattle.fkv_lives.specs.Histories.{answer_by, answers_in}
use Rattle.fkv_worlds.specs.Reports.{IsStepTaken, RunsTo, RunsUntil, unkept, stalls, ends, goes_on, follows, first_step}
use Rattle.fkv_scripts.specs.declared.lines.Line.{Line}
use Rattle.fkv_scripts.specs.declared.lines.Line.TheVariants as line
use Rattle.std.specs.Prelude.{true, IfOk, IfSome}
use Rattle.std.specs.BTreeMap.{is_at}
use Rattle.std.specs.Map.{lookup, keys_of}
use Rattle.std.specs.List.Sorted.{IsStrictlySortedBy}
use Rattle.fkv_functions.specs.Names.{name_cmp}
use Rattle.fkv_partition.specs.declared.limits.Config.{Config}
use Rattle.fkv_worlds.specs.States.{WorldView, empty_world}
use Rattle.fkv_worlds.specs.Headline.{IsHeadline}
use Rattle.fkv_partition.specs.Unions.{union_of}
use Rattle.fkv_worlds.proofs.HistoryLemmas.{issued-runs}
use Rattle.fkv_steps.specs.Printing.{steps_text, map_text}
use Rattle.fkv_steps.specs.Running.{context_in, is_page, op_of, FollowsIssue, FollowsTake, finishes, writes, RunsLine, RunLines, IsPrintedBy}

pub lines-append : {V O R : Type 0} (stands : R → Standing) (entry : ℕ → List ℕ → ℕ → Entry Name V → Type 0) (cmp : Name → Name → Ordering) (join : V → V → V) (f : Meanings Name V ℤ O) (code : Name → ℕ) (written : ℤ → V) (v u w : WorldView Name V ℤ O R) (ls : List Line) (ts : List (Result (Outcome V O) Refused)) (l : Line) (t : Result (Outcome V O) Refused)
    → RunLines stands entry cmp join f code written v ls ts u → RunsLine stands entry cmp join f code written u w t l → RunLines stands entry cmp join f code written v (ls ++ l ∷ []) (ts ++ t ∷ []) w
lines-append stands entry cmp join f code written v u w [] [] l t run one = (w, subst (λ x. RunsLine stands entry cmp join f code written x w t l) run one, refl)
lines-append stands entry cmp join f code written v u w [] (s ∷ ts) l t run one = absurd run
lines-append stands entry cmp join f code written v u w (k ∷ ls) [] l t run one = absurd run
lines-append stands entry cmp join f code written v u w (k ∷ ls) (s ∷ ts) l t run one = (run.0, run.1, lines-append stands entry cmp join f code written run.0 u w ls ts l t run.2 one)

-- ---- the steps of lines, and the answers that they told
append-nothing : {A : Type 0} (xs : List A) → xs ++ [] ≡ xs
append-nothing [] = refl
append-nothing (x ∷ xs) = ap (λ ys. x ∷ ys) (append-nothing xs)

append-assoc : {A : Type 0} (xs ys zs : List A) → (xs ++ ys) ++ zs ≡ xs ++ (ys ++ zs)
append-assoc [] ys zs = refl
append-assoc (x ∷ xs) ys zs = ap (λ ws. x ∷ ws) (append-assoc xs ys zs)

answer-joined : {V O : Type 0} (t : Result (Outcome V O) Refused) (xs ys : List (Answer O)) → answer_by t (xs ++ ys) ≡ answer_by t xs ++ ys
answer-joined (Ok (outcome.Entered slot)) xs ys = refl
answer-joined (Ok outcome.Left) xs ys = refl
answer-joined (Ok outcome.Refreshed) xs ys = refl
answer-joined (Ok outcome.Shifted) xs ys = refl
answer-joined (Ok (outcome.Taken page)) xs ys = refl
answer-joined (Ok (outcome.Flushed page)) xs ys = refl
answer-joined (Ok (outcome.Load address)) xs ys = refl
answer-joined (Ok (outcome.Waits why)) xs ys = refl
answer-joined (Ok (outcome.Issued c)) xs ys = refl
answer-joined (Ok outcome.Next) xs ys = refl
answer-joined (Ok (outcome.Build source)) xs ys = refl
answer-joined (Ok (outcome.Done a)) xs ys = refl
answer-joined (Ok outcome.GivenUp) xs ys = refl
answer-joined (Ok (outcome.Truncated begin)) xs ys = refl
answer-joined (Err e) xs ys = refl

answers-joined : {V O : Type 0} (ts us : List (Result (Outcome V O) Refused)) → answers_in (ts ++ us) ≡ answers_in ts ++ answers_in us
answers-joined [] us = refl
answers-joined (t ∷ ts) us = ap (answer_by t) (answers-joined ts us) ∙ answer-joined t (answers_in ts) (answers_in us)

-- a step that another follows told no answer
silent : {K V I O : Type 0} (until : Until) (place : ContextId) (x : Result (Outcome V O) Refused) (t : Step K V I) → follows until place x ≡ Some t → answers_in (x ∷ []) ≡ []
silent until place (Ok (outcome.Entered slot)) t h = refl
silent until place (Ok outcome.Left) t h = refl
silent until place (Ok (outcome.Issued c)) t h = refl
silent until place (Ok outcome.Next) t h = refl
silent until place (Ok (outcome.Build source)) t h = refl
silent until place (Ok outcome.Refreshed) t h = refl
silent until place (Ok outcome.Shifted) t h = refl
silent until place (Ok (outcome.Taken page)) t h = refl
silent until place (Ok (outcome.Flushed page)) t h = refl
silent until place (Ok (outcome.Load address)) t h = refl
silent until place (Ok (outcome.Waits why)) t h = absurd (cc)
silent until place (Ok (outcome.Done a)) t h = absurd (cc)
silent until place (Ok outcome.GivenUp) t h = refl
silent until place (Ok (outcome.Truncated begin)) t h = refl
silent until place (Err e) t h = refl

-- an accepted issue told no answer, and neither did a take
silent-issue : {V O : Type 0} (c : ℕ) (x : Result (Outcome V O) Refused) → context_in x ≡ Some c → answers_in (x ∷ []) ≡ []
silent-issue c (Ok (outcome.Entered x)) h = refl
silent-issue c (Ok outcome.Left) h = refl
silent-issue c (Ok outcome.Refreshed) h = refl
silent-issue c (Ok outcome.Shifted) h = refl
silent-issue c (Ok (outcome.Taken x)) h = refl
silent-issue c (Ok (outcome.Flushed x)) h = refl
silent-issue c (Ok (outcome.Issued x)) h = refl
silent-issue c (Ok outcome.Next) h = refl
silent-issue c (Ok (outcome.Build x)) h = refl
silent-issue c (Ok (outcome.Load x)) h = refl
silent-issue c (Ok (outcome.Waits x)) h = refl
silent-issue c (Ok (outcome.Done x)) h = absurd (cc)
silent-issue c (Ok outcome.GivenUp) h = refl
silent-issue c (Ok (outcome.Truncated x)) h = refl
silent-issue c (Err e) h = refl

silent-take : {V O : Type 0} (x : Result (Outcome V O) Refused) → is_page x ≡ true → answers_in (x ∷ []) ≡ []
silent-take (Ok (outcome.Entered x)) h = refl
silent-take (Ok outcome.Left) h = refl
silent-take (Ok outcome.Refreshed) h = refl
silent-take (Ok outcome.Shifted) h = refl
silent-take (Ok (outcome.Taken x)) h = refl
silent-take (Ok (outcome.Flushed x)) h = refl
silent-take (Ok (outcome.Issued x)) h = refl
silent-take (Ok outcome.Next) h = refl
silent-take (Ok (outcome.Build x)) h = refl
silent-take (Ok (outcome.Load x)) h = refl
silent-take (Ok (outcome.Waits x)) h = refl
silent-take (Ok (outcome.Done x)) h = absurd (cc)
silent-take (Ok outcome.GivenUp) h = refl
silent-take (Ok (outcome.Truncated x)) h = refl
silent-take (Err e) h = refl

-- steps from one world to another, of which these are all the answers
pub record IsRun {K V I O R : Type 0} (stands : R → Standing) (entry : ℕ → List ℕ → ℕ → Entry K V → Type 0) (cmp : K → K → Ordering) (join : V → V → V) (f : Meanings K V I O) (code : K → ℕ) (v w : WorldView K V I O R) (told : List (Result (Outcome V O) Refused)) : Type 0 where
  pub steps : List (Step K V I)
  pub ran : RunsTo stands entry cmp join f code v steps w
  pub answers : answers_in w.outcomes ≡ answers_in v.outcomes ++ answers_in told

module _ {K V I O R : Type 0} (stands : R → Standing) (entry : ℕ → List ℕ → ℕ → Entry K V → Type 0) (cmp : K → K → Ordering) (join : V → V → V) (f : Meanings K V I O) (code : K → ℕ) where
  runs-joined : (v u w : WorldView K V I O R) (ss rs : List (Step K V I)) → RunsTo stands entry cmp join f code v ss u → RunsTo stands entry cmp join f code u rs w → RunsTo stands entry cmp join f code v (ss ++ rs) w
  runs-joined v u w [] rs one two = subst (λ x. RunsTo stands entry cmp join f code x rs w) one two
  runs-joined v u w (s ∷ ss) rs one two = (one.0, one.1, one.2, runs-joined one.0 u w ss rs one.3 two)

  run-nothing : (v : WorldView K V I O R) → IsRun stands entry cmp join f code v v []
  run-nothing v = record { steps = []; ran = refl; answers = sym (append-nothing (answers_in v.outcomes)) }

  run-one : (v w : WorldView K V I O R) (s : Step K V I) (t : Result (Outcome V O) Refused) → IsStepTaken stands entry cmp join f code v w s t → IsRun stands entry cmp join f code v w (t ∷ [])
  run-one v w s t kept = record { steps = s ∷ []; ran = (w, t, kept, refl); answers = ap answers_in kept.outcomes ∙ answers-joined v.outcomes (t ∷ []) }

  run-joined : (v u w : WorldView K V I O R) (ts us : List (Result (Outcome V O) Refused)) → IsRun stands entry cmp join f code v u ts → IsRun stands entry cmp join f code u w us → IsRun stands entry cmp join f code v w (ts ++ us)
  run-joined v u w ts us one two = record {
    steps = one.steps ++ two.steps;
    ran = runs-joined v u w one.steps two.steps one.ran two.ran;
    answers = two.answers ∙ ap (λ xs. xs ++ answers_in us) one.answers ∙ append-assoc (answers_in v.outcomes) (answers_in ts) (answers_in us) ∙ ap (λ xs. answers_in v.outcomes ++ xs) (sym (answers-joined ts us));
  }

  -- steps that told the same answers
  run-told : (v w : WorldView K V I O R) (ts us : List (Result (Outcome V O) Refused)) → answers_in ts ≡ answers_in us → IsRun stands entry cmp join f code v w ts → IsRun stands entry cmp join f code v w us
  run-told v w ts us same run = record { steps = run.steps; ran = run.ran; answers = run.answers ∙ ap (λ xs. answers_in v.outcomes ++ xs) same }

  run-until : (until : Until) (place : ContextId) (w : WorldView K V I O R) (result : Option (Result (Outcome V O) Refused)) (n : ℕ) (s : Step K V I) (v : WorldView K V I O R) (t : Result (Outcome V O) Refused)
      → RunsUntil stands entry cmp join f code until place w result n s v → result ≡ Some t → IsRun stands entry cmp join f code v w (t ∷ [])
  run-until until place w result n s v t (unkept m s' v' same is) h = absurd (cc)
  run-until until place w result n s v t (stalls s' v' same is) h =
      let e : t ≡ Err Stalled = cc in
      rw (same, e) (run-told v v [] (Err Stalled ∷ []) refl (run-nothing v))
  run-until until place w result n s v t (ends m s' v' x kept last is) h =
      let e : x ≡ t = cc in
      subst (λ y. IsRun stands entry cmp join f code v w (y ∷ [])) e (run-one v w s x kept)
  run-until until place w result n s v t (goes_on m s' next v' u x kept follow rest) h =
      run-told v w (x ∷ t ∷ []) (t ∷ []) (answers-joined (x ∷ []) (t ∷ []) ∙ ap (λ xs. xs ++ answers_in (t ∷ [])) (silent until place x next follow))
      (run-joined v u w (x ∷ []) (t ∷ []) (run-one v u s x kept) (run-until until place w result m next u t rest h))

-- what was issued was accepted, and is finished
pub did-finish : {V O R : Type 0} (stands : R → Standing) (entry : ℕ → List ℕ → ℕ → Entry Name V → Type 0) (cmp : Name → Name → Ordering) (join : V → V → V) (f : Meanings Name V ℤ O) (code : Name → ℕ) (p slot c : ℕ) (mid w : WorldView Name V ℤ O R) (issued : Result (Outcome V O) Refused) (r : Option (Result (Outcome V O) Refused))
    → context_in issued ≡ Some c
    → RunsUntil stands entry cmp join f code until.Finish (record { partition = p; slot = slot; context = c }) w r 10000 (first_step mid.state.partitions until.Finish (record { partition = p; slot = slot; context = c })) mid
    → IfSome r (λ told. FollowsIssue stands entry cmp join f code p slot mid w told issued)
did-finish stands entry cmp join f code p slot c mid w issued None is h = tt
did-finish stands entry cmp join f code p slot c mid w issued (Some told) is h = finishes c is h

module _ {V O R : Type 0} (stands : R → Standing) (entry : ℕ → List ℕ → ℕ → Entry Name V → Type 0) (cmp : Name → Name → Ordering) (join : V → V → V) (f : Meanings Name V ℤ O) (code : Name → ℕ) (written : ℤ → V) where
  run-issued : (p slot : ℕ) (mid w : WorldView Name V ℤ O R) (told issued : Result (Outcome V O) Refused) (v : WorldView Name V ℤ O R) (s : Step Name V ℤ)
      → IsStepTaken stands entry cmp join f code v mid s issued → FollowsIssue stands entry cmp join f code p slot mid w told issued → IsRun stands entry cmp join f code v w (told ∷ [])
  run-issued p slot mid w told issued v s kept (finishes c is h) =
      run-told stands entry cmp join f code v w (issued ∷ told ∷ []) (told ∷ []) (answers-joined (issued ∷ []) (told ∷ []) ∙ ap (λ xs. xs ++ answers_in (told ∷ [])) (silent-issue c issued is))
      (run-joined stands entry cmp join f code v mid w (issued ∷ []) (told ∷ []) (run-one stands entry cmp join f code v mid s issued kept) (run-until stands entry cmp join f code _ _ w (Some told) 10000 _ mid told h refl))
  run-issued p slot mid w told issued v s kept (FollowsIssue.tells is same e) = rw (same, e) (run-one stands entry cmp join f code v mid s issued kept)

  run-taken : (p : ℕ) (access : Access) (mid w : WorldView Name V ℤ O R) (told taken : Result (Outcome V O) Refused) (v : WorldView Name V ℤ O R) (s : Step Name V ℤ)
      → IsStepTaken stands entry cmp join f code v mid s taken → FollowsTake stands entry cmp join f code p access mid w told taken → IsRun stands entry cmp join f code v w (told ∷ [])
  run-taken p access mid w told taken v s kept (writes is h) =
      run-told stands entry cmp join f code v w (taken ∷ told ∷ []) (told ∷ []) (answers-joined (taken ∷ []) (told ∷ []) ∙ ap (λ xs. xs ++ answers_in (told ∷ [])) (silent-take taken is))
      (run-joined stands entry cmp join f code v mid w (taken ∷ []) (told ∷ []) (run-one stands entry cmp join f code v mid s taken kept) (run-one stands entry cmp join f code mid w (step.Write p access) told h))
  run-taken p access mid w told taken v s kept (FollowsTake.tells is same e) = rw (same, e) (run-one stands entry cmp join f code v mid s taken kept)

  pub did-issue : (p slot : ℕ) (op : KeyedOp Name ℤ ℤ) (v mid w : WorldView Name V ℤ O R) (issued : Result (Outcome V O) Refused) (r : Option (Result (Outcome V O) Refused))
      → IsStepTaken stands entry cmp join f code v mid (step.Issue p slot (op_of written op)) issued
      → IfSome r (λ told. FollowsIssue stands entry cmp join f code p slot mid w told issued)
      → IfSome r (λ told. RunsLine stands entry cmp join f code written v w told (line.Do p slot op))
  did-issue p slot op v mid w issued None kept h = tt
  did-issue p slot op v mid w issued (Some told) kept h = (mid, issued, kept, h)

  pub did-relocate : (p slot : ℕ) (v mid w : WorldView Name V ℤ O R) (issued : Result (Outcome V O) Refused) (r : Option (Result (Outcome V O) Refused))
      → IsStepTaken stands entry cmp join f code v mid (step.Issue p slot Relocate) issued
      → IfSome r (λ told. FollowsIssue stands entry cmp join f code p slot mid w told issued)
      → IfSome r (λ told. RunsLine stands entry cmp join f code written v w told (line.Compact p slot))
  did-relocate p slot v mid w issued None kept h = tt
  did-relocate p slot v mid w issued (Some told) kept h = (mid, issued, kept, h)

  pub did-take : (p : ℕ) (access : Access) (v mid w : WorldView Name V ℤ O R) (taken : Result (Outcome V O) Refused) (r : Option (Result (Outcome V O) Refused))
      → IsStepTaken stands entry cmp join f code v mid (step.Take p) taken
      → is_page taken ≡ true
      → IfSome r (IsStepTaken stands entry cmp join f code mid w (step.Write p access))
      → IfSome r (λ told. RunsLine stands entry cmp join f code written v w told (line.Flush p access))
  did-take p access v mid w taken None kept is h = tt
  did-take p access v mid w taken (Some told) kept is h = (mid, taken, kept, writes is h)

  run-line : (v w : WorldView Name V ℤ O R) (t : Result (Outcome V O) Refused) (l : Line) → RunsLine stands entry cmp join f code written v w t l → IsRun stands entry cmp join f code v w (t ∷ [])
  run-line v w t (line.Enter p) h = run-one stands entry cmp join f code v w _ t h
  run-line v w t (line.Leave p slot) h = run-one stands entry cmp join f code v w _ t h
  run-line v w t (line.Refresh p slot) h = run-one stands entry cmp join f code v w _ t h
  run-line v w t (line.ReadOnly p page) h = run-one stands entry cmp join f code v w _ t h
  run-line v w t (line.Head p page) h = run-one stands entry cmp join f code v w _ t h
  run-line v w t (line.Flush p access) h = run-taken p access h.0 w t h.1 v _ h.2 h.3
  run-line v w t (line.Truncate p) h = run-one stands entry cmp join f code v w _ t h
  run-line v w t (line.Load place access) h = run-one stands entry cmp join f code v w _ t h
  run-line v w t (line.Issue p slot op) h = run-one stands entry cmp join f code v w _ t h
  run-line v w t (line.Do p slot op) h = run-issued p slot h.0 w t h.1 v _ h.2 h.3
  run-line v w t (line.Compact p slot) h = run-issued p slot h.0 w t h.1 v _ h.2 h.3
  run-line v w t (line.Go place) h = run-one stands entry cmp join f code v w _ t h
  run-line v w t (line.Install place) h = run-one stands entry cmp join f code v w _ t h
  run-line v w t (line.GiveUp place) h = run-one stands entry cmp join f code v w _ t h
  run-line v w t (line.Ready place) h = run-until stands entry cmp join f code _ place w (Some t) 10000 _ v t h refl
  run-line v w t (line.Finish place) h = run-until stands entry cmp join f code _ place w (Some t) 10000 _ v t h refl

  pub run-lines : (v w : WorldView Name V ℤ O R) (ls : List Line) (ts : List (Result (Outcome V O) Refused)) → RunLines stands entry cmp join f code written v ls ts w → IsRun stands entry cmp join f code v w ts
  run-lines v w [] [] h = rw h (run-nothing stands entry cmp join f code v)
  run-lines v w [] (t ∷ ts) h = absurd h
  run-lines v w (l ∷ ls) [] h = absurd h
  run-lines v w (l ∷ ls) (t ∷ ts) h = run-joined stands entry cmp join f code v h.0 w (t ∷ []) ts (run-line v h.0 t l h.1) (run-lines h.0 w ls ts h.2)

-- what holds of each value of one kind holds of the value that is there
pub if-ok : {T E : Type 0} (P Q : T → Type 0) (r : Result T E) → ((x : T) → P x → Q x) → IfOk r P → IfOk r Q
if-ok P Q (Ok x) f h = f x h
if-ok P Q (Err e) f h = tt

module _ {V O R : Type 0} (stands : R → Standing) (entry : ℕ → List ℕ → ℕ → Entry Name V → Type 0) (join : V → V → V) (f : Meanings Name V ℤ O) (code : Name → ℕ) (written : ℤ → V) (value : V → List ℕ) (shown : O → List ℕ) where
  -- lines that were run in a world with nothing in it, and the text of what they told and of the live map
  pub prints : (merges : Bool) (config : Config) (size : ℕ) (lines : List Line) (text : List ℕ) (v w : WorldView Name V ℤ O R) (told : List (Result (Outcome V O) Refused)) (pairs : List (Name × V))
      → v ≡ empty_world merges config size
      → RunLines stands entry name_cmp join f code written v lines told w
      → IsHeadline name_cmp f code w
      → ((k : Name) → lookup (is_at (name_cmp k)) pairs ≡ union_of name_cmp code w.state.partitions k)
      → IsStrictlySortedBy name_cmp (keys_of pairs)
      → text ≡ steps_text value shown told ++ map_text value pairs
      → IsPrintedBy stands entry name_cmp join f code written value shown merges config size lines text
  prints merges config size lines text v w told pairs empty ran headline map rising printed =
      let ran_there : RunLines stands entry name_cmp join f code written (empty_world merges config size) lines told w = rw empty at ran in
      let run = run-lines stands entry name_cmp join f code written (empty_world merges config size) w lines told ran_there in
      record {
        world = w;
        told = told;
        pairs = pairs;
        ran = ran_there;
        headline = headline;
        steps = run.steps;
        stepped = run.ran;
        issued = issued-runs stands entry name_cmp join f code merges config size w run.steps run.ran headline;
        answers = sym run.answers;
        map = map;
        rising = rising;
        printed = printed;
      }
