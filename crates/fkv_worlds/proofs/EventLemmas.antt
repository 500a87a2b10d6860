-- What the call of a partition at the moment of a step comes to in its world: a refusal leaves the state, and an event
-- is the step's rule and keeps what every state keeps.
use Rattle.std.proofs.Common.{◌≡◌, ℕ, ◌+◌, ◌*◌, ◌-◌, ◌^◌, ◌<◌, ◌≤◌, true, false, List, [], ◌∷◌, ◌++◌, ◌⊎◌, length, Option, None, Some, Result, Ok, Err, slice_get, slice_set, slice_index_or, unwrap_or, refl, ◌∙◌, ap, subst, arith}
use Rattle.std.specs.declared.cmp.Ordering.{Ordering}
use Rattle.fkv_functions.specs.Meanings.{Meanings}
use Rattle.fkv_functions.specs.Plain.{IsKeyOrder}
use Rattle.fkv_functions.specs.declared.asks.Ask.{Ask}
use Rattle.fkv_functions.specs.declared.refusals.Refused.{Refused}
use Rattle.fkv_functions.specs.declared.refusals.Refused.TheVariants.{NoMemory}
use Rattle.fkv_device.specs.Standing.{Standing, Joined}
use Rattle.fkv_texts.specs.declared.entries.Entry.{Entry}
use Rattle.fkv_operations.specs.declared.operations.Op.{Op}
use Rattle.fkv_partition.specs.declared.contexts.Progress.{Progress}
use Rattle.fkv_partition.specs.Views.{PartitionView}
use Rattle.fkv_partition.specs.Pending.{AllPend, OthersPend}
use Rattle.fkv_partition.specs.Effect.{Asked, asked, IsQuiet, IsIssue, IsEvent, IsGiveUp, Finds, IsLoad, IsTruncation}
use Rattle.fkv_partition.specs.Events.{Enters, Goes, Installs, Loads, GivesUp, Refreshes, Shifts, Evicts, Issues}
use Rattle.fkv_partition.specs.Beginning.{LeavesAll}
use Rattle.fkv_partition.specs.Truncating.{Truncates}
use Rattle.fkv_records.specs.Places.{page_at}
use Rattle.fkv_lives.specs.declared.lives.End.{End}
use Rattle.fkv_lives.specs.declared.lives.End.TheVariants.{Failed, GivenUp}
use Rattle.fkv_lives.specs.declared.lives.Life.{Life}
use Rattle.fkv_lives.specs.declared.outcomes.Outcome.{Outcome}
use Rattle.fkv_lives.specs.declared.outcomes.Outcome.TheVariants as outcome
use Rattle.fkv_lives.specs.declared.steps.Access.{Access}
use Rattle.fkv_lives.specs.declared.steps.ContextId.{ContextId}
use Rattle.fkv_lives.specs.declared.steps.Step.{Step}
use Rattle.fkv_lives.specs.declared.steps.Step.TheVariants.{Enter, Leave, Refresh, ReadOnly, Head, Issue, Go, Install, Load, GiveUp, Truncate}
use Rattle.fkv_lives.specs.Changes.{ended_at}
use Rattle.fkv_worlds.specs.Devices.{Comes}
use Rattle.fkv_worlds.specs.Refusing as refusing
use Rattle.fkv_worlds.specs.Refusing.{Refuses}
use Rattle.fkv_lives.specs.Lives.{finish_in}
use Rattle.fkv_lives.specs.Told.{ends_operation}
use Rattle.fkv_worlds.specs.declared.tables.Seat.{Seat}
use Rattle.fkv_worlds.specs.States.{StateView, state_of, seat_row, seat_at, context_row, life_in, question_in, receipt_in, is_unasked}
use Rattle.fkv_worlds.specs.Moments.{IsMomentIn}
use Rattle.fkv_worlds.specs.Acts.{Acts, after_issue, begun_life, lives_by, questions_by, receipts_by, told, no_memory_for_life}
use Rattle.fkv_lives.specs.Steps.{partition_in}
use Rattle.fkv_worlds.specs.Sound.{IsState}
use Rattle.fkv_worlds.proofs.ManyLemmas.{asked-was}
use Rattle.fkv_worlds.proofs.RefusedLemmas.{loads-cases, leaves-it, ends-it}
use Rattle.fkv_worlds.proofs.StateLemmas.{at-index, some-at, set-unchanged, seat-is, state-enter, state-quiet, state-issue, state-ended, state-progress, state-load, state-truncated}
use Rattle.fkv_worlds.proofs.ActsLemmas.{acts-refused, acts-enter, acts-leave, acts-refresh, acts-shift, acts-evict, acts-issue, acts-give_up, acts-go, acts-install, acts-load, acts-fail, acts-truncate}
use Rattle.std.proofs.lemmas.Option.{slice_get_within}

-- the state before a step, as it is seen
module _ {K V I O R : Type 0} {s t : StateView K V I O R} (view : s ≡ t) where
  pub moment-behind : {p now : ℕ} → IsMomentIn t p now → IsMomentIn s p now
  moment-behind h = rw view h

  pub acts-seen : {stands : R → Standing} {entry : ℕ → List ℕ → ℕ → Entry K V → Type 0} {cmp : K → K → Ordering} {join : V → V → V} {f : Meanings K V I O} {code : K → ℕ} {new : StateView K V I O R} {step : Step K V I} {r : Result (Outcome V O) Refused}
      → Acts stands entry cmp join f code s new step r → Acts stands entry cmp join f code t new step r
  acts-seen h = rw (← view) h

-- a step by its name
pub moment-of : {K V I O R : Type 0} {s : StateView K V I O R} {step named : Step K V I} {now : ℕ} → step ≡ named → IsMomentIn s (partition_in step) now → IsMomentIn s (partition_in named) now
moment-of e h = rw (← e) h

pub acts-of : {K V I O R : Type 0} {stands : R → Standing} {entry : ℕ → List ℕ → ℕ → Entry K V → Type 0} {cmp : K → K → Ordering} {join : V → V → V} {f : Meanings K V I O} {code : K → ℕ} {old new : StateView K V I O R} {step named : Step K V I} {r : Result (Outcome V O) Refused}
    → step ≡ named → Acts stands entry cmp join f code old new named r → Acts stands entry cmp join f code old new step r
acts-of e h = rw e h

-- the rows of a partition
pub rows-of : {K V I O R : Type 0} (cmp : K → K → Ordering) (f : Meanings K V I O) (code : K → ℕ) (s : StateView K V I O R) → IsState cmp f code s → (p : ℕ) → p < length s.partitions
    → (p < 64) × (p < length s.enters) × (p * 16 + 16 ≤ length s.seats) × (p * 128 + 128 ≤ length s.begun) × (p * 128 + 128 ≤ length s.questions) × (p * 128 + 128 ≤ length s.receipts) × (p < length s.jobs)
rows-of cmp f code s state p there =
    let most = state.tables.most in
    let enters = state.tables.enters in
    let seats = state.tables.seats in
    let begun = state.tables.begun in
    let questions = state.tables.questions in
    let receipts = state.tables.receipts in
    let jobs = state.tables.jobs in
    (omega arith, omega arith, omega arith, omega arith, omega arith, omega arith, omega arith)

module _ {K V I O R : Type 0} (cmp : K → K → Ordering) (f : Meanings K V I O) (code : K → ℕ) (s : StateView K V I O R) (state : IsState cmp f code s) (p now : ℕ) (due : IsMomentIn s p now) where
  pub rows : (p < 64) × (p < length s.enters) × (p * 16 + 16 ≤ length s.seats) × (p * 128 + 128 ≤ length s.begun) × (p * 128 + 128 ≤ length s.questions) × (p * 128 + 128 ≤ length s.receipts) × (p < length s.jobs)
  rows = rows-of cmp f code s state p due.there

  pub entered : (n : ℕ) × (slice_get s.enters p ≡ Some n)
  entered = let r = rows in some-at s.enters p r.1

  -- the counts of sessions and of issues are of past steps, so one more fits
  pub enters-fit : unwrap_or (slice_get s.enters p) 0 < 2 ^ 64 - 1
  enters-fit =
      let n = entered in
      let count = state.tables.counted p n.0 n.1 in
      let next = due.next in
      let fits = due.fits in
      rw n.1 (omega arith)

  pub seated : (slot : ℕ) → slot < 16 → slice_get s.seats (seat_row p slot) ≡ Some (seat_at s.seats p slot)
  seated slot low = let r = rows in seat-is s.seats p slot low (omega arith)

  pub issues-fit : (slot : ℕ) → slot < 16 → (seat_at s.seats p slot).issues < 2 ^ 64 - 1
  issues-fit slot low =
      let count = state.tables.issued (seat_row p slot) (seat_at s.seats p slot) (seated slot low) in
      let next = due.next in
      let fits = due.fits in
      omega arith

  module _ (old : PartitionView K V I) (is : old ≡ slice_index_or s.partitions p old) where
    pub here : slice_get s.partitions p ≡ Some old
    here = at-index s.partitions p old due.there is

    pub event-later : old.moment < now
    event-later = let m = state.world.housed.past p old here in let next = due.next in omega arith

    -- what is refused leaves the state
    pub refused-state : (new : PartitionView K V I) → new ≡ old → IsState cmp f code (record s { partitions = slice_set s.partitions p new })
    refused-state new same = rw (set-unchanged s.partitions p old new here same) state

    -- the same, with the lives as they are told
    pub refused-state_of : (new : PartitionView K V I) → new ≡ old → {lives : List (Life K V I O)} → lives ≡ s.lives → IsState cmp f code (record s { partitions = slice_set s.partitions p new; lives = lives })
    refused-state_of new same l = rw l (refused-state new same)

    module _ (new : PartitionView K V I) (o : IsKeyOrder cmp) where
      pub entered-state : (slot : ℕ) → {enters : List ℕ} {seats : List Seat} → enters ≡ slice_set s.enters p (unwrap_or (slice_get s.enters p) 0 + 1)
          → seats ≡ slice_set s.seats (seat_row p slot) (record { session = unwrap_or (slice_get s.enters p) 0 + 1; issues = 0 })
          → IsQuiet true old new now → AllPend cmp old new
          → IsState cmp f code (record s { partitions = slice_set s.partitions p new; enters = enters; seats = seats; moment = now })
      entered-state slot a b ev pends = let n = entered in rw (a, b, n.1) (state-enter cmp o f code s state now due.next p slot n.0 old new here ev pends n.1)

      pub quiet-state : IsQuiet true old new now → AllPend cmp old new → IsState cmp f code (record s { partitions = slice_set s.partitions p new; moment = now })
      quiet-state ev pends = state-quiet cmp o f code s state now due.next p old new here ev pends

      pub truncated-state : (page : ℕ) → IsTruncation true cmp old new page now → IsState cmp f code (record s { partitions = slice_set s.partitions p new; moment = now })
      truncated-state page ev = state-truncated cmp o f code s state now due.next p old new here s.questions s.receipts refl refl page ev

      -- the tables and lives as they are told after it
      pub issued-state : (slot c : ℕ) (op : Op K V I) → {kept : List (Life K V I O)} {begun : List ℕ} {questions : List (Option (Ask K V I))} {receipts : List (Option R)} {seats : List Seat} {enters : List ℕ} {lives : List (Life K V I O)}
          → kept ≡ s.lives → lives ≡ kept ++ begun_life p (seat_at s.seats p slot) op now ∷ [] → seats ≡ slice_set s.seats (seat_row p slot) (after_issue (seat_at s.seats p slot))
          → begun ≡ slice_set s.begun (context_row (record { partition = p; slot = slot; context = c })) (length kept) → questions ≡ slice_set s.questions (context_row (record { partition = p; slot = slot; context = c })) None
          → receipts ≡ slice_set s.receipts (context_row (record { partition = p; slot = slot; context = c })) None → enters ≡ s.enters
          → IsIssue code old new slot c op now → AllPend cmp old new → slot < 16 → c < 8
          → IsState cmp f code (state_of (slice_set s.partitions p new) begun questions receipts s.jobs seats enters lives now)
      issued-state slot c op k l e b q r n ev pends low within = rw (l, e, b, q, r, n, k) (state-issue cmp o f code s state now due.next p slot c op (seat_at s.seats p slot) old new here ev pends low within (seated slot low))

-- the step's rule
module _ {K V I O R : Type 0} {stands : R → Standing} {entry : ℕ → List ℕ → ℕ → Entry K V → Type 0} (cmp : K → K → Ordering) (join : V → V → V) (f : Meanings K V I O) (code : K → ℕ) (s : StateView K V I O R) (state : IsState cmp f code s) (p now : ℕ) (due : IsMomentIn s p now) where
  -- no memory is left for the life of an issue
  pub no_memory_for_life-issue : {t : StateView K V I O R} → s ≡ t → {lives : List (Life K V I O)} → lives ≡ s.lives → (slot : ℕ) (op : Op K V I) → Acts stands entry cmp join f code t (record s { lives = lives }) (Issue p slot op) (Err NoMemory)
  no_memory_for_life-issue view l slot op =
      let held = some-at s.partitions p due.there in
      let next = due.next in
      let fits = due.fits in
      rw (← view, l) (no_memory_for_life p slot op held.0 refl (record { here = held.1; asked = refl; moment = omega arith }) refl refl)

  module _ (old : PartitionView K V I) (is : old ≡ slice_index_or s.partitions p old) (new : PartitionView K V I) where
    -- what the partition refuses
    pub refused-step : (step : Step K V I) → partition_in step ≡ p → is_unasked s step ≡ false → (r : Refused) → new ≡ old → Refuses stands entry cmp join f code s old now r step
        → Acts stands entry cmp join f code s (record s { partitions = slice_set s.partitions p new }) step (Err r)
    refused-step step at asked r same refuses =
        rw (set-unchanged s.partitions p old new (here cmp f code s state p now due old is) same)
        (acts-refused stands entry cmp join f code s now due.next due.fits step old r (ap (slice_get s.partitions) at ∙ here cmp f code s state p now due old is) asked refuses)

    pub refused-enter : (r : Refused) → new ≡ old → Enters old new now (Err r) → Acts stands entry cmp join f code s (record s { partitions = slice_set s.partitions p new }) (Enter p) (Err r)
    refused-enter r same does = refused-step (Enter p) refl refl r same (refusing.enter p (subst (λ (v : PartitionView K V I). Enters old v now (Err r)) same does))

    pub refused-leave : (slot : ℕ) (r : Refused) → new ≡ old → LeavesAll true old new slot now (Err r) → Acts stands entry cmp join f code s (record s { partitions = slice_set s.partitions p new }) (Leave p slot) (Err r)
    refused-leave slot r same does = refused-step (Leave p slot) refl refl r same (refusing.leave p slot (subst (λ (v : PartitionView K V I). LeavesAll true old v slot now (Err r)) same does))

    pub refused-refresh : (slot : ℕ) (r : Refused) → new ≡ old → Refreshes true old new slot now (Err r) → Acts stands entry cmp join f code s (record s { partitions = slice_set s.partitions p new }) (Refresh p slot) (Err r)
    refused-refresh slot r same does = refused-step (Refresh p slot) refl refl r same (refusing.refresh p slot (subst (λ (v : PartitionView K V I). Refreshes true old v slot now (Err r)) same does))

    pub refused-shift : (page : ℕ) (r : Refused) → new ≡ old → Shifts true old new page now (Err r) → Acts stands entry cmp join f code s (record s { partitions = slice_set s.partitions p new }) (ReadOnly p page) (Err r)
    refused-shift page r same does = refused-step (ReadOnly p page) refl refl r same (refusing.shift p page (subst (λ (v : PartitionView K V I). Shifts true old v page now (Err r)) same does))

    pub refused-evict : (page : ℕ) (r : Refused) → new ≡ old → Evicts true old new page now (Err r) → Acts stands entry cmp join f code s (record s { partitions = slice_set s.partitions p new }) (Head p page) (Err r)
    refused-evict page r same does = refused-step (Head p page) refl refl r same (refusing.evict p page (subst (λ (v : PartitionView K V I). Evicts true old v page now (Err r)) same does))

    pub refused-issue : {t : StateView K V I O R} → s ≡ t → {lives : List (Life K V I O)} → lives ≡ s.lives → (slot : ℕ) (op : Op K V I) (r : Refused) → new ≡ old → Issues code old new slot op now (Err r)
        → Acts stands entry cmp join f code t (record s { partitions = slice_set s.partitions p new; lives = lives }) (Issue p slot op) (Err r)
    refused-issue view l slot op r same does = rw (← view, l) (refused-step (Issue p slot op) refl refl r same (refusing.issue p slot op (subst (λ (v : PartitionView K V I). Issues code old v slot op now (Err r)) same does)))

    pub does-enter : {t : StateView K V I O R} → s ≡ t → (slot : ℕ) → {enters : List ℕ} {seats : List Seat} → enters ≡ slice_set s.enters p (unwrap_or (slice_get s.enters p) 0 + 1)
        → seats ≡ slice_set s.seats (seat_row p slot) (record { session = unwrap_or (slice_get s.enters p) 0 + 1; issues = 0 })
        → Enters old new now (Ok slot) → IsQuiet true old new now → slot < 16
        → Acts stands entry cmp join f code t (record s { partitions = slice_set s.partitions p new; enters = enters; seats = seats; moment = now }) (Enter p) (Ok (outcome.Entered slot))
    does-enter view slot a b does ev low = let n = entered cmp f code s state p now due in rw (← view, a, b, n.1) (acts-enter stands entry cmp join f code s now due.next due.fits p old new (here cmp f code s state p now due old is) slot n.0 does ev low n.1)

    pub does-leave : (slot : ℕ) → LeavesAll true old new slot now (Ok tt) → IsQuiet true old new now → Acts stands entry cmp join f code s (record s { partitions = slice_set s.partitions p new; moment = now }) (Leave p slot) (Ok outcome.Left)
    does-leave slot does ev = acts-leave stands entry cmp join f code s now due.next due.fits p old new (here cmp f code s state p now due old is) slot does ev

    pub does-refresh : (slot : ℕ) → Refreshes true old new slot now (Ok tt) → IsQuiet true old new now → Acts stands entry cmp join f code s (record s { partitions = slice_set s.partitions p new; moment = now }) (Refresh p slot) (Ok outcome.Refreshed)
    does-refresh slot does ev = acts-refresh stands entry cmp join f code s now due.next due.fits p old new (here cmp f code s state p now due old is) slot does ev

    pub does-shift : (page : ℕ) → Shifts true old new page now (Ok tt) → IsQuiet true old new now → Acts stands entry cmp join f code s (record s { partitions = slice_set s.partitions p new; moment = now }) (ReadOnly p page) (Ok outcome.Shifted)
    does-shift page does ev = acts-shift stands entry cmp join f code s now due.next due.fits p old new (here cmp f code s state p now due old is) page does ev

    pub does-evict : (page : ℕ) → Evicts true old new page now (Ok tt) → IsQuiet true old new now → Acts stands entry cmp join f code s (record s { partitions = slice_set s.partitions p new; moment = now }) (Head p page) (Ok outcome.Shifted)
    does-evict page does ev = acts-evict stands entry cmp join f code s now due.next due.fits p old new (here cmp f code s state p now due old is) page does ev

    pub refused-truncate : (r : Refused) → new ≡ old → Truncates true old new (page_at old.records.log.bits old.cleared) now (Err r) → Acts stands entry cmp join f code s (record s { partitions = slice_set s.partitions p new }) (Truncate p) (Err r)
    refused-truncate r same does = refused-step (Truncate p) refl refl r same (refusing.truncate p (subst (λ (v : PartitionView K V I). Truncates true old v (page_at old.records.log.bits old.cleared) now (Err r)) same does))

    pub does-truncate : (begin : ℕ) → begin ≡ new.records.log.begin → Truncates true old new (page_at old.records.log.bits old.cleared) now (Ok tt)
        → IsTruncation true cmp old new (page_at old.records.log.bits old.cleared) now
        → Acts stands entry cmp join f code s (record s { partitions = slice_set s.partitions p new; moment = now }) (Truncate p) (Ok (outcome.Truncated begin))
    does-truncate begin at does ev = rw at (acts-truncate stands entry cmp join f code s now due.next due.fits p old new (here cmp f code s state p now due old is) does ev)

    pub does-issue : {t : StateView K V I O R} → s ≡ t → (slot c : ℕ) (op : Op K V I) → {kept : List (Life K V I O)} {begun : List ℕ} {questions : List (Option (Ask K V I))} {receipts : List (Option R)} {seats : List Seat} {enters : List ℕ} {lives : List (Life K V I O)}
        → kept ≡ s.lives → lives ≡ kept ++ begun_life p (seat_at s.seats p slot) op now ∷ [] → seats ≡ slice_set s.seats (seat_row p slot) (after_issue (seat_at s.seats p slot))
        → begun ≡ slice_set s.begun (context_row (record { partition = p; slot = slot; context = c })) (length kept) → questions ≡ slice_set s.questions (context_row (record { partition = p; slot = slot; context = c })) None
        → receipts ≡ slice_set s.receipts (context_row (record { partition = p; slot = slot; context = c })) None → enters ≡ s.enters
        → Issues code old new slot op now (Ok c) → IsIssue code old new slot c op now → slot < 16
        → Acts stands entry cmp join f code t (state_of (slice_set s.partitions p new) begun questions receipts s.jobs seats enters lives now) (Issue p slot op) (Ok (outcome.Issued c))
    does-issue view slot c op k l e b q r n does ev low = rw (← view, l, e, b, q, r, n, k) (acts-issue stands entry cmp join f code s now due.next due.fits p old new (here cmp f code s state p now due old is) slot c op (seat_at s.seats p slot) does ev low (seated cmp f code s state p now due slot low))

-- the same in a context of the partition
module _ {K V I O R : Type 0} (cmp : K → K → Ordering) (f : Meanings K V I O) (code : K → ℕ) (s : StateView K V I O R) (state : IsState cmp f code s) (w : ContextId) (now : ℕ) (due : IsMomentIn s w.partition now) (old : PartitionView K V I) (is : old ≡ slice_index_or s.partitions w.partition old) where
  at : slice_get s.partitions w.partition ≡ Some old
  at = at-index s.partitions w.partition old due.there is

  -- the life of an opened operation stands in the list
  pub life-there : (x : Asked K V I) → asked old w.slot w.context ≡ Some x → life_in s.begun w < length s.lives
  life-there x h = let l = state.world.linked.linked w x (asked-was s.partitions w.partition old old at w.slot w.context ∙ h) in slice_get_within s.lives (life_in s.begun w) l.life l.here

  -- at the place that the tables tell
  pub life-told : {begun : List ℕ} {place : ℕ} → place ≡ life_in begun w → begun ≡ s.begun → (x : Asked K V I) → asked old w.slot w.context ≡ Some x → place < length s.lives
  life-told at_is begun_is x h = rw (at_is, begun_is) (life-there x h)

  module _ (new : PartitionView K V I) (o : IsKeyOrder cmp) (others : OthersPend cmp old new w.slot w.context) where
    -- the life at a place that the tables tell is ended
    pub ended-state : (end : End O) → finish_in end ≡ None → {begun : List ℕ} {place : ℕ} {lives : List (Life K V I O)} → place ≡ life_in begun w → begun ≡ s.begun → lives ≡ ended_at s.lives place end
        → IsGiveUp old new w.slot w.context now → IsState cmp f code (record s { partitions = slice_set s.partitions w.partition new; lives = lives; moment = now })
    ended-state end untold at_is begun_is l ev = rw (l, at_is, begun_is) (state-ended cmp o f code s state now due.next w old new end untold at ev others)

    -- a progress is noted in the tables and lives
    module _ (progress : Progress K V I O R) {begun : List ℕ} {questions : List (Option (Ask K V I))} {receipts : List (Option R)} {seats : List Seat} {enters : List ℕ} {lives : List (Life K V I O)}
        (l : lives ≡ lives_by s.lives (life_in s.begun w) now progress) (q : questions ≡ questions_by s.questions (context_row w) progress) (r : receipts ≡ receipts_by s.receipts (context_row w) progress) (b : begun ≡ s.begun) (e : seats ≡ s.seats) (n : enters ≡ s.enters) where
      pub progressed-state : IsEvent cmp f old new w.slot w.context now progress → Finds cmp old new w.slot w.context now progress
          → IsState cmp f code (state_of (slice_set s.partitions w.partition new) begun questions receipts s.jobs seats enters lives now)
      progressed-state ev finds = rw (l, q, r, b, e, n) (state-progress cmp o f code s state now due.next w old new at others progress ev finds)

      pub loaded-state : IsLoad cmp f old new w.slot w.context now progress
          → IsState cmp f code (state_of (slice_set s.partitions w.partition new) begun questions receipts s.jobs seats enters lives now)
      loaded-state ev = rw (l, q, r, b, e, n) (state-load cmp o f code s state now due.next w old new at others progress ev)

module _ {K V I O R : Type 0} {stands : R → Standing} {entry : ℕ → List ℕ → ℕ → Entry K V → Type 0} (cmp : K → K → Ordering) (join : V → V → V) (f : Meanings K V I O) (code : K → ℕ) (s : StateView K V I O R) (state : IsState cmp f code s) (w : ContextId) (now : ℕ) (due : IsMomentIn s w.partition now) (old : PartitionView K V I) (is : old ≡ slice_index_or s.partitions w.partition old) (new : PartitionView K V I) where
  pub refused-give_up : (r : Refused) → new ≡ old → GivesUp old new w.slot w.context now (Err r) → Acts stands entry cmp join f code s (record s { partitions = slice_set s.partitions w.partition new }) (GiveUp w) (Err r)
  refused-give_up r same does = refused-step cmp join f code s state w.partition now due old is new (GiveUp w) refl refl r same (refusing.give_up w (subst (λ (v : PartitionView K V I). GivesUp old v w.slot w.context now (Err r)) same does))

  pub does-give_up : {t : StateView K V I O R} → s ≡ t → {begun : List ℕ} {place : ℕ} {lives : List (Life K V I O)} → place ≡ life_in begun w → begun ≡ s.begun → lives ≡ ended_at s.lives place GivenUp
      → GivesUp old new w.slot w.context now (Ok tt) → IsGiveUp old new w.slot w.context now
      → Acts stands entry cmp join f code t (record s { partitions = slice_set s.partitions w.partition new; lives = lives; moment = now }) (GiveUp w) (Ok outcome.GivenUp)
  does-give_up view at_is begun_is l does ev = rw (← view, l, at_is, begun_is) (acts-give_up stands entry cmp join f code s now due.next due.fits w old new (here cmp f code s state w.partition now due old is) does ev)

  pub refused-go : (r : Refused) → new ≡ old → Goes stands cmp join f code old new w.slot w.context now (Err r) → Acts stands entry cmp join f code s (record s { partitions = slice_set s.partitions w.partition new }) (Go w) (Err r)
  refused-go r same does = refused-step cmp join f code s state w.partition now due old is new (Go w) refl refl r same (refusing.go w (subst (λ (v : PartitionView K V I). Goes stands cmp join f code old v w.slot w.context now (Err r)) same does))

  -- a progress is noted and told
  module _ {t : StateView K V I O R} (view : s ≡ t) (progress : Progress K V I O R) {begun : List ℕ} {questions : List (Option (Ask K V I))} {receipts : List (Option R)} {seats : List Seat} {enters : List ℕ} {lives : List (Life K V I O)}
      (l : lives ≡ lives_by s.lives (life_in s.begun w) now progress) (q : questions ≡ questions_by s.questions (context_row w) progress) (r : receipts ≡ receipts_by s.receipts (context_row w) progress) (b : begun ≡ s.begun) (e : seats ≡ s.seats) (n : enters ≡ s.enters) {o : Outcome V O} (tells : o ≡ told progress) where
    noted : {step : Step K V I} → Acts stands entry cmp join f code s (record s { partitions = slice_set s.partitions w.partition new; questions = questions_by s.questions (context_row w) progress; receipts = receipts_by s.receipts (context_row w) progress; lives = lives_by s.lives (life_in s.begun w) now progress; moment = now }) step (Ok (told progress))
        → Acts stands entry cmp join f code t (state_of (slice_set s.partitions w.partition new) begun questions receipts s.jobs seats enters lives now) step (Ok o)
    noted h = rw (← view, l, q, r, b, e, n, tells) h

    pub does-go : Goes stands cmp join f code old new w.slot w.context now (Ok progress) → IsEvent cmp f old new w.slot w.context now progress
        → Acts stands entry cmp join f code t (state_of (slice_set s.partitions w.partition new) begun questions receipts s.jobs seats enters lives now) (Go w) (Ok o)
    does-go does ev = noted (acts-go stands entry cmp join f code s now due.next due.fits w old new (here cmp f code s state w.partition now due old is) progress does ev)

    pub does-install : (ask : Ask K V I) → question_in s.questions w ≡ Some ask → Installs cmp f code old new w.slot w.context ask now (Ok progress) → IsEvent cmp f old new w.slot w.context now progress
        → Acts stands entry cmp join f code t (state_of (slice_set s.partitions w.partition new) begun questions receipts s.jobs seats enters lives now) (Install w) (Ok o)
    does-install ask asks does ev = noted (acts-install stands entry cmp join f code s now due.next due.fits w old new (here cmp f code s state w.partition now due old is) ask asks progress does ev)

    pub does-load : (access : Access) (receipt : R) (came : Result (Joined R) Refused) → receipt_in s.receipts w ≡ Some receipt → Comes stands receipt access came
        → Loads stands entry cmp join f code old new w.slot w.context came now (Ok progress) → IsLoad cmp f old new w.slot w.context now progress
        → Acts stands entry cmp join f code t (state_of (slice_set s.partitions w.partition new) begun questions receipts s.jobs seats enters lives now) (Load w access) (Ok o)
    does-load access receipt came asks comes does ev = noted (acts-load stands entry cmp join f code s now due.next due.fits w old new (here cmp f code s state w.partition now due old is) access receipt came asks comes progress does ev)

  pub refused-install : (ask : Ask K V I) → question_in s.questions w ≡ Some ask → (r : Refused) → new ≡ old → Installs {R = R} cmp f code old new w.slot w.context ask now (Err r) → Acts stands entry cmp join f code s (record s { partitions = slice_set s.partitions w.partition new }) (Install w) (Err r)
  refused-install ask asks r same does = refused-step cmp join f code s state w.partition now due old is new (Install w) refl (rw asks refl) r same (refusing.install w ask asks (subst (λ (v : PartitionView K V I). Installs {R = R} cmp f code old v w.slot w.context ask now (Err r)) same does))

  -- a load that fails leaves the partition, or ends the operation
  module _ (access : Access) (receipt : R) (came : Result (Joined R) Refused) (asks : receipt_in s.receipts w ≡ Some receipt) (comes : Comes stands receipt access came) (r : Refused) (does : Loads stands entry cmp join f code old new w.slot w.context came now (Err r)) (fails : (new ≡ old) ⊎ IsGiveUp old new w.slot w.context now) where
    cases : ((new ≡ old) × (ends_operation r ≡ false)) ⊎ (IsGiveUp old new w.slot w.context now × (ends_operation r ≡ true))
    cases = loads-cases stands entry cmp join f code old new w.slot w.context now receipt access came r (event-later cmp f code s state w.partition now due old is) comes does fails

    pub load-leaves : ends_operation r ≡ false → new ≡ old
    load-leaves quiet = leaves-it r cases quiet

    pub load-ends : ends_operation r ≡ true → IsGiveUp old new w.slot w.context now
    load-ends ends = ends-it r cases ends

    pub refused-load : ends_operation r ≡ false → Acts stands entry cmp join f code s (record s { partitions = slice_set s.partitions w.partition new }) (Load w access) (Err r)
    refused-load quiet = let same = load-leaves quiet in refused-step cmp join f code s state w.partition now due old is new (Load w access) refl (rw asks refl) r same (refusing.load w access receipt came asks comes (subst (λ (v : PartitionView K V I). Loads stands entry cmp join f code old v w.slot w.context came now (Err r)) same does) quiet)

    pub does-fail : {t : StateView K V I O R} → s ≡ t → {begun : List ℕ} {place : ℕ} {lives : List (Life K V I O)} → place ≡ life_in begun w → begun ≡ s.begun → lives ≡ ended_at s.lives place Failed → ends_operation r ≡ true
        → Acts stands entry cmp join f code t (record s { partitions = slice_set s.partitions w.partition new; lives = lives; moment = now }) (Load w access) (Err r)
    does-fail view at_is begun_is l ends = rw (← view, l, at_is, begun_is) (acts-fail stands entry cmp join f code s now due.next due.fits w old new (here cmp f code s state w.partition now due old is) access receipt came asks comes r does ends (load-ends ends))
