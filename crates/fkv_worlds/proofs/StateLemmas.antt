-- What each step keeps of a world's state, and which rule it is.
use Rattle.std.proofs.Common.{◌≡◌, ◌≢◌, Bool, true, false, cond, ◌&&◌, ℕ, zero, suc, ◌+◌, ◌*◌, ◌<◌, ◌≤◌, inl, inr, List, [], ◌∷◌, ◌++◌, length, Option, Some, None, slice_get, slice_set, slice_index_or, unwrap_or, nat_lt, refl, sym, ◌∙◌, ap, arith}
use Rattle.std.proofs.lemmas.Bool.Decides.{nat_tests}
use Rattle.std.proofs.lemmas.List.{length-set}
use Rattle.std.proofs.lemmas.Option.{slice_get_within}
use Rattle.std.specs.declared.cmp.Ordering.{Ordering}
use Rattle.fkv_functions.specs.Meanings.{Meanings}
use Rattle.fkv_functions.specs.Plain.{IsKeyOrder}
use Rattle.fkv_functions.specs.declared.asks.Ask.{Ask}
use Rattle.fkv_operations.specs.declared.operations.Op.{Op}
use Rattle.fkv_partition.specs.declared.contexts.Progress.{Progress}
use Rattle.fkv_partition.specs.declared.contexts.Progress.TheVariants.{Done, Next, NeedsBuild, NeedsLoad, Waits}
use Rattle.fkv_partition.specs.Views.{PartitionView}
use Rattle.fkv_partition.specs.Pending.{AllPend, OthersPend}
use Rattle.fkv_partition.specs.Effect.{Asked, asked, IsTruncation, IsQuiet, IsIssue, IsEvent, IsGiveUp, Finds, IsLoad, IsLoaded}
use Rattle.fkv_functions.proofs.ListLemmas.{get-set_cases, get-set_other, get-set_within}
use Rattle.fkv_lives.specs.declared.lives.Life.{Life}
use Rattle.fkv_lives.specs.declared.lives.End.{End}
use Rattle.fkv_device.specs.declared.messages.FlushJob.{FlushJob}
use Rattle.fkv_texts.specs.Text.{live}
use Rattle.fkv_lives.specs.Lives.{finish_in}
use Rattle.fkv_lives.specs.declared.steps.ContextId.{ContextId}
use Rattle.fkv_worlds.specs.declared.tables.Seat.{Seat}
use Rattle.fkv_lives.specs.Changes.{ended_at}
use Rattle.fkv_worlds.specs.States.{StateView, is_context, context_row, seat_row, seat_at, life_in, question_in, receipt_in}
use Rattle.fkv_worlds.specs.Acts.{lives_by, questions_by, receipts_by, begun_life, after_issue}
use Rattle.fkv_worlds.specs.Worlds.{IsWorld}
use Rattle.fkv_worlds.specs.Sound.{HasTables, IsState}
use Rattle.fkv_worlds.proofs.WorldLemmas.{world-silent, world-kept, world-issue, world-done, world-loaded, world-ended, world-next, world-further, world-asks}

-- ---- lists by their places
pub at-index : {A : Type 0} (xs : List A) (i : ℕ) (x : A) → i < length xs → x ≡ slice_index_or xs i x → slice_get xs i ≡ Some x
at-index [] i x h e = absurd (omega arith)
at-index (y ∷ ys) zero x h e = ap Some (sym e)
at-index (y ∷ ys) (suc i) x h e = at-index ys i x (omega arith) e

pub some-at : {A : Type 0} (xs : List A) (i : ℕ) → i < length xs → (x : A) × (slice_get xs i ≡ Some x)
some-at [] i h = absurd (omega arith)
some-at (y ∷ ys) zero h = (y, refl)
some-at (y ∷ ys) (suc i) h = some-at ys i (omega arith)

pub index-of : {A : Type 0} (xs : List A) (i : ℕ) (x : A) → slice_get xs i ≡ Some x → x ≡ slice_index_or xs i x
index-of [] i x h = absurd (cc)
index-of (y ∷ ys) zero x h = cc
index-of (y ∷ ys) (suc i) x h = index-of ys i x h

-- below a number, by its other name
pub below-by : {p n m : ℕ} → n ≡ m → p < n → p < m
below-by e h = rw (← e) h

-- what a list has room for, by the list's name
pub within-by : {A : Type 0} {xs ys : List A} {n : ℕ} → ys ≡ xs → n ≤ length xs → n ≤ length ys
within-by e h = rw e h

pub set-unchanged : {A : Type 0} (xs : List A) (i : ℕ) (x y : A) → slice_get xs i ≡ Some x → y ≡ x → slice_set xs i y ≡ xs
set-unchanged [] i x y h e = refl
set-unchanged (z ∷ zs) zero x y h e = let same : y ≡ z = cc in ap (λ q. q ∷ zs) same
set-unchanged (z ∷ zs) (suc i) x y h e = ap (λ qs. z ∷ qs) (set-unchanged zs i x y h e)

pub ended-set : {K V I O : Type 0} (lives : List (Life K V I O)) (j : ℕ) (x : Life K V I O) (e : End O) → slice_get lives j ≡ Some x → slice_set lives j (record x { end = e }) ≡ ended_at lives j e
ended-set [] j x e h = refl
ended-set (y ∷ ys) zero x e h = let same : x ≡ y = cc in ap (λ (z : Life _ _ _ _). record z { end = e } ∷ ys) same
ended-set (y ∷ ys) (suc j) x e h = ap (λ qs. y ∷ qs) (ended-set ys j x e h)

-- what a context asked for which a page came
pub load-question : {K V I O R : Type 0} (cmp : K → K → Ordering) (f : Meanings K V I O) (old new : PartitionView K V I) (slot c now : ℕ) (progress : Progress K V I O R) → IsLoad cmp f old new slot c now progress → (x : Asked K V I) × (asked old slot c ≡ Some x)
load-question cmp f old new slot c now progress (IsLoad.on_key ev) = (ev.question, ev.was)
load-question cmp f old new slot c now progress (IsLoad.relocation ev finds) = (ev.question, ev.was)

-- ---- rows of contexts
pub is_context-within : (w : ContextId) → w.slot < 16 → w.context < 8 → is_context w ≡ true
is_context-within w h k = let a : nat_lt w.slot 16 ≡ true = grind (arith, nat_tests) in let b : nat_lt w.context 8 ≡ true = grind (arith, nat_tests) in rw (a, b) refl

pub is_context-bounds : (w : ContextId) → is_context w ≡ true → (w.slot < 16) × (w.context < 8)
is_context-bounds w h = by_cases (nat_lt w.slot 16) (nat_lt w.context 8) refl refl h
  where
    by_cases : (a b : Bool) → nat_lt w.slot 16 ≡ a → nat_lt w.context 8 ≡ b → (a && b) ≡ true → (w.slot < 16) × (w.context < 8)
    by_cases true true p q e = (grind (arith, nat_tests), grind (arith, nat_tests))
    by_cases true false p q e = absurd (cc)
    by_cases false b p q e = absurd (cc)

row-apart : (w u : ContextId) → w.slot < 16 → w.context < 8 → u.slot < 16 → u.context < 8 → u ≢ w → context_row u ≢ context_row w
row-apart w u a b c d n e =
    let p : u.partition ≡ w.partition = omega arith in
    let s : u.slot ≡ w.slot = omega arith in
    let x : u.context ≡ w.context = omega arith in
    n (λ i. record { partition = p i; slot = s i; context = x i })

pub life_in-same : (begun : List ℕ) (w : ContextId) (x : ℕ) → w.slot < 16 → w.context < 8 → context_row w < length begun → life_in (slice_set begun (context_row w) x) w ≡ x
life_in-same begun w x a b h = rw (is_context-within w a b, get-set_within begun (context_row w) x h) refl

pub life_in-other : (begun : List ℕ) (w u : ContextId) (x : ℕ) → w.slot < 16 → w.context < 8 → u ≢ w → life_in (slice_set begun (context_row w) x) u ≡ life_in begun u
life_in-other begun w u x a b n = by_cases (is_context u) refl
  where
    by_cases : (t : Bool) → is_context u ≡ t → life_in (slice_set begun (context_row w) x) u ≡ life_in begun u
    by_cases true t = let h = is_context-bounds u t in ap (λ o. cond (is_context u) (unwrap_or o 0) 0) (get-set_other begun (context_row w) (context_row u) x (row-apart w u a b h.0 h.1 n))
    by_cases false t = rw t refl

-- its row
pub row-within : (w : ContextId) {row n : ℕ} → is_context w ≡ true → row ≡ context_row w → w.partition * 128 + 128 ≤ n → row < n
row-within w on e rows = let within = is_context-bounds w on in omega arith

-- what a context asked for last
pub question-is : {K V I : Type 0} (questions : List (Option (Ask K V I))) (w : ContextId) (x : Option (Ask K V I)) → is_context w ≡ true → slice_get questions (context_row w) ≡ Some x → question_in questions w ≡ x
question-is questions w x on h = rw (on, h) refl

pub receipt-is : {R : Type 0} (receipts : List (Option R)) (w : ContextId) (x : Option R) → is_context w ≡ true → slice_get receipts (context_row w) ≡ Some x → receipt_in receipts w ≡ x
receipt-is receipts w x on h = rw (on, h) refl

pub receipt-context : {R : Type 0} (receipts : List (Option R)) (w : ContextId) (x : R) → receipt_in receipts w ≡ Some x → is_context w ≡ true
receipt-context receipts w x h = by_test (is_context w) refl
  where
    by_test : (b : Bool) → is_context w ≡ b → is_context w ≡ true
    by_test true t = t
    by_test false t = let n : None ≡ Some x = rw t at h in absurd (cc)

-- the seat of a slot that there is
pub seat-is : (seats : List Seat) (p slot : ℕ) → slot < 16 → seat_row p slot < length seats → slice_get seats (seat_row p slot) ≡ Some (seat_at seats p slot)
seat-is seats p slot low h =
    let there = some-at seats (seat_row p slot) h in
    let t : nat_lt slot 16 ≡ true = grind (arith, nat_tests) in
    rw (t, there.1) refl

-- ---- steps
-- the tables, where they have as many rows as before, and the counts stay
tables-kept : {K V I O R : Type 0} (s t : StateView K V I O R) → HasTables s → length t.partitions ≡ length s.partitions → length t.begun ≡ length s.begun → length t.questions ≡ length s.questions
    → length t.receipts ≡ length s.receipts → length t.jobs ≡ length s.jobs → t.seats ≡ s.seats → t.enters ≡ s.enters → s.moment ≤ t.moment → HasTables t
tables-kept s t tables partitions begun questions receipts jobs seats enters later = record {
  most = rw partitions tables.most;
  begun = begun ∙ tables.begun ∙ ap (λ k. k * 128) (sym partitions);
  questions = questions ∙ tables.questions ∙ ap (λ k. k * 128) (sym partitions);
  receipts = receipts ∙ tables.receipts ∙ ap (λ k. k * 128) (sym partitions);
  jobs = jobs ∙ tables.jobs ∙ sym partitions;
  seats = ap length seats ∙ tables.seats ∙ ap (λ k. k * 16) (sym partitions);
  enters = ap length enters ∙ tables.enters ∙ sym partitions;
  counted = λ q m h. (let k = tables.counted q m (ap (λ xs. slice_get xs q) (sym enters) ∙ h) in omega arith);
  issued = λ i x h. (let k = tables.issued i x (ap (λ xs. slice_get xs i) (sym seats) ∙ h) in omega arith);
}

module _ {K V I O R : Type 0} (cmp : K → K → Ordering) (f : Meanings K V I O) (code : K → ℕ) (s : StateView K V I O R) (state : IsState cmp f code s) where
  -- the lives by another name
  pub state-lives : {lives : List (Life K V I O)} → lives ≡ s.lives → IsState cmp f code (record s { lives = lives })
  state-lives l = rw l state

  -- a page that was taken is used
  pub state-used : {jobs : List (Option FlushJob)} (p : ℕ) (job : Option FlushJob) → jobs ≡ slice_set s.jobs p job → IsState cmp f code (record s { jobs = jobs })
  state-used p job used = rw used (record {
    world = state.world;
    tables = tables-kept s (record s { jobs = slice_set s.jobs p job }) state.tables refl refl refl refl (length-set s.jobs p job) refl refl (omega arith);
  })

module _ {K V I O R : Type 0} (cmp : K → K → Ordering) (o : IsKeyOrder cmp) (f : Meanings K V I O) (code : K → ℕ) (s : StateView K V I O R) (state : IsState cmp f code s) (next : ℕ) (then : next ≡ s.moment + 1) where
  e : next ≡ suc s.moment
  e = omega arith

  -- a page is taken
  pub state-take : {jobs : List (Option FlushJob)} (p : ℕ) (job : Option FlushJob) → jobs ≡ slice_set s.jobs p job → (old new : PartitionView K V I) → slice_get s.partitions p ≡ Some old → IsQuiet true old new next → AllPend cmp old new
      → IsState cmp f code (record s { partitions = slice_set s.partitions p new; jobs = jobs; moment = next })
  state-take p job used old new here ev pends = rw used (record {
    world = world-silent cmp o f code s.partitions (life_in s.begun) s.lives s.moment next e state.world p old new here ev pends;
    tables = tables-kept s (record s { partitions = slice_set s.partitions p new; jobs = slice_set s.jobs p job; moment = next }) state.tables (length-set s.partitions p new) refl refl refl (length-set s.jobs p job) refl refl (omega arith);
  })

  pub state-enter : (p slot n : ℕ) (old new : PartitionView K V I) → slice_get s.partitions p ≡ Some old → IsQuiet true old new next → AllPend cmp old new → slice_get s.enters p ≡ Some n
      → IsState cmp f code (record s { partitions = slice_set s.partitions p new; enters = slice_set s.enters p (n + 1); seats = slice_set s.seats (seat_row p slot) (record { session = n + 1; issues = 0 }); moment = next })
  state-enter p slot n old new here ev pends at = record {
    world = (world-silent cmp o f code s.partitions (life_in s.begun) s.lives s.moment next e state.world p old new here ev pends);
    tables = record {
      most = rw (length-set s.partitions p new) state.tables.most;
      begun = rw (length-set s.partitions p new) state.tables.begun;
      questions = rw (length-set s.partitions p new) state.tables.questions;
      receipts = rw (length-set s.partitions p new) state.tables.receipts;
      jobs = rw (length-set s.partitions p new) state.tables.jobs;
      seats = length-set s.seats (seat_row p slot) _ ∙ state.tables.seats ∙ ap (λ k. k * 16) (sym (length-set s.partitions p new));
      enters = length-set s.enters p (n + 1) ∙ state.tables.enters ∙ sym (length-set s.partitions p new);
      counted = λ q m h. elim (get-set_cases s.enters p q (n + 1) m h) [
        | inl c ↦ (let k = state.tables.counted p n at in let r : n + 1 ≡ m = c.1 in omega arith)
        | inr c ↦ (let k = state.tables.counted q m c in omega arith)
      ];
      issued = λ i x h. elim (get-set_cases s.seats (seat_row p slot) i _ x h) [
        | inl c ↦ (let r : 0 ≡ x.issues = ap (λ (z : Seat). z.issues) c.1 in omega arith)
        | inr c ↦ (let k = state.tables.issued i x c in omega arith)
      ];
    };
  }

  pub state-quiet : (p : ℕ) (old new : PartitionView K V I) → slice_get s.partitions p ≡ Some old → IsQuiet true old new next → AllPend cmp old new → IsState cmp f code (record s { partitions = slice_set s.partitions p new; moment = next })
  state-quiet p old new here ev pends = record {
    world = (world-silent cmp o f code s.partitions (life_in s.begun) s.lives s.moment next e state.world p old new here ev pends);
    tables = tables-kept s (record s { partitions = slice_set s.partitions p new; moment = next }) state.tables (length-set s.partitions p new) refl refl refl refl refl refl (omega arith);
  }

  -- a relocation begins, goes on or ends, or the log's start is cut; the tables of questions and receipts may change
  module _ (p : ℕ) (old new : PartitionView K V I) (here : slice_get s.partitions p ≡ Some old) (questions : List (Option (Ask K V I))) (receipts : List (Option R)) (asks : length questions ≡ length s.questions) (pages : length receipts ≡ length s.receipts) where
    state-kept : IsWorld cmp f code (slice_set s.partitions p new) (life_in s.begun) s.lives next → IsState cmp f code (record s { partitions = slice_set s.partitions p new; questions = questions; receipts = receipts; moment = next })
    state-kept world = record {
      world = world;
      tables = tables-kept s (record s { partitions = slice_set s.partitions p new; questions = questions; receipts = receipts; moment = next }) state.tables (length-set s.partitions p new) refl asks pages refl refl refl (omega arith);
    }

    pub state-truncated : (page : ℕ) → IsTruncation true cmp old new page next → IsState cmp f code (record s { partitions = slice_set s.partitions p new; questions = questions; receipts = receipts; moment = next })
    state-truncated page ev = state-kept (world-kept cmp o f code s.partitions (life_in s.begun) s.lives s.moment next e state.world p old new here
        ev.number ev.count ev.moment ev.same (ev.live refl) (λ a d q h. (let n : None ≡ Some q = sym (ev.pend a d) ∙ h in absurd (cc))))

  -- an operation ends without effect
  pub state-ended : (w : ContextId) (old new : PartitionView K V I) (end : End O) → finish_in end ≡ None → slice_get s.partitions w.partition ≡ Some old → IsGiveUp old new w.slot w.context next → OthersPend cmp old new w.slot w.context
      → IsState cmp f code (record s { partitions = slice_set s.partitions w.partition new; lives = ended_at s.lives (life_in s.begun w) end; moment = next })
  state-ended w old new end untold here ev others = record {
    world = (world-ended cmp o f code s.partitions (life_in s.begun) s.lives s.moment next e state.world w.partition old new w.slot w.context ev.question here ev.was ev.closed ev.frame others end untold (λ q. ap (λ t. live cmp t q) ev.text));
    tables = tables-kept s (record s { partitions = slice_set s.partitions w.partition new; lives = ended_at s.lives (life_in s.begun w) end; moment = next }) state.tables (length-set s.partitions w.partition new) refl refl refl refl refl refl (omega arith);
  }

  pub state-issue : (p slot c : ℕ) (op : Op K V I) (seat : Seat) (old new : PartitionView K V I) → slice_get s.partitions p ≡ Some old → IsIssue code old new slot c op next → AllPend cmp old new
      → slot < 16 → c < 8 → slice_get s.seats (seat_row p slot) ≡ Some seat
      → IsState cmp f code (record s {
        partitions = slice_set s.partitions p new;
        seats = slice_set s.seats (seat_row p slot) (after_issue seat);
        begun = slice_set s.begun (context_row (record { partition = p; slot = slot; context = c })) (length s.lives);
        questions = slice_set s.questions (context_row (record { partition = p; slot = slot; context = c })) None;
        receipts = slice_set s.receipts (context_row (record { partition = p; slot = slot; context = c })) None;
        lives = s.lives ++ begun_life p seat op next ∷ [];
        moment = next;
      })
  state-issue p slot c op seat old new here ev pends low within at =
      let w : ContextId = record { partition = p; slot = slot; context = c } in
      let there : p < length s.partitions = slice_get_within s.partitions p old here in
      let rows = state.tables.begun in
      let row : context_row w < length s.begun = omega arith in
      record {
        world = (world-issue cmp o f code s.partitions (life_in s.begun) s.lives s.moment next e state.world p old new slot c op here ev pends (begun_life p seat op next) refl refl refl
            (life_in (slice_set s.begun (context_row w) (length s.lives))) (life_in-same s.begun w (length s.lives) low within row)
            (λ u n. life_in-other s.begun w u (length s.lives) low within n));
        tables = record {
          most = rw (length-set s.partitions p new) state.tables.most;
          begun = length-set s.begun (context_row w) (length s.lives) ∙ state.tables.begun ∙ ap (λ k. k * 128) (sym (length-set s.partitions p new));
          questions = length-set s.questions (context_row w) None ∙ state.tables.questions ∙ ap (λ k. k * 128) (sym (length-set s.partitions p new));
          receipts = length-set s.receipts (context_row w) None ∙ state.tables.receipts ∙ ap (λ k. k * 128) (sym (length-set s.partitions p new));
          jobs = state.tables.jobs ∙ sym (length-set s.partitions p new);
          seats = length-set s.seats (seat_row p slot) _ ∙ state.tables.seats ∙ ap (λ k. k * 16) (sym (length-set s.partitions p new));
          enters = state.tables.enters ∙ sym (length-set s.partitions p new);
          counted = λ q m h. (let k = state.tables.counted q m h in omega arith);
          issued = λ i x h. elim (get-set_cases s.seats (seat_row p slot) i _ x h) [
            | inl d ↦ (let k = state.tables.issued (seat_row p slot) seat at in let r : suc seat.issues ≡ x.issues = ap (λ (z : Seat). z.issues) d.1 in omega arith)
            | inr d ↦ (let k = state.tables.issued i x d in omega arith)
          ];
        };
      }

  asked-rows : (row : ℕ) (z : Progress K V I O R) → length (questions_by s.questions row z) ≡ length s.questions
  asked-rows row (Done a effect) = refl
  asked-rows row Next = refl
  asked-rows row (Waits why) = refl
  asked-rows row (NeedsBuild ask) = length-set s.questions row (Some ask)
  asked-rows row (NeedsLoad receipt address) = refl

  receipt-rows : (row : ℕ) (z : Progress K V I O R) → length (receipts_by s.receipts row z) ≡ length s.receipts
  receipt-rows row (Done a effect) = refl
  receipt-rows row Next = refl
  receipt-rows row (Waits why) = refl
  receipt-rows row (NeedsBuild ask) = refl
  receipt-rows row (NeedsLoad receipt address) = length-set s.receipts row (Some receipt)

  module _ (w : ContextId) (old new : PartitionView K V I) (here : slice_get s.partitions w.partition ≡ Some old) (others : OthersPend cmp old new w.slot w.context) where
    state-by : (progress : Progress K V I O R) → IsWorld cmp f code (slice_set s.partitions w.partition new) (life_in s.begun) (lives_by s.lives (life_in s.begun w) next progress) next
        → IsState cmp f code (record s { partitions = slice_set s.partitions w.partition new; questions = questions_by s.questions (context_row w) progress; receipts = receipts_by s.receipts (context_row w) progress; lives = lives_by s.lives (life_in s.begun w) next progress; moment = next })
    state-by progress world = record {
      world = world;
      tables = tables-kept s (record s { partitions = slice_set s.partitions w.partition new; questions = questions_by s.questions (context_row w) progress; receipts = receipts_by s.receipts (context_row w) progress; lives = lives_by s.lives (life_in s.begun w) next progress; moment = next }) state.tables
          (length-set s.partitions w.partition new) refl (asked-rows (context_row w) progress) (receipt-rows (context_row w) progress) refl refl refl (omega arith);
    }

    world-progress : (progress : Progress K V I O R) → IsEvent cmp f old new w.slot w.context next progress → Finds cmp old new w.slot w.context next progress
        → IsWorld cmp f code (slice_set s.partitions w.partition new) (life_in s.begun) (lives_by s.lives (life_in s.begun w) next progress) next
    world-progress (Done a effect) ev finds =
        rw ev.effect.1 (world-done cmp o f code s.partitions (life_in s.begun) s.lives s.moment next e state.world w.partition old new w.slot w.context ev.question here ev.was ev.effect.0 ev.frame others a ev.effect.2 ev.effect.3)
    world-progress Next ev finds =
        world-next cmp o f code s.partitions (life_in s.begun) s.lives s.moment next e state.world w.partition old new w.slot w.context ev.question here ev.was ev.effect.0 ev.frame ev.effect.1 others finds
    world-progress (Waits why) ev finds =
        world-next cmp o f code s.partitions (life_in s.begun) s.lives s.moment next e state.world w.partition old new w.slot w.context ev.question here ev.was ev.effect.0 ev.frame ev.effect.1 others finds
    world-progress (NeedsBuild ask) ev finds =
        world-next cmp o f code s.partitions (life_in s.begun) s.lives s.moment next e state.world w.partition old new w.slot w.context ev.question here ev.was ev.effect.0 ev.frame ev.effect.1 others finds
    world-progress (NeedsLoad receipt address) ev finds =
        world-asks cmp o f code s.partitions (life_in s.begun) s.lives s.moment next e state.world w.partition old new w.slot w.context ev.question here ev.was ev.effect.0 ev.frame ev.effect.1 others finds

    pub state-progress : (progress : Progress K V I O R) → IsEvent cmp f old new w.slot w.context next progress → Finds cmp old new w.slot w.context next progress
        → IsState cmp f code (record s { partitions = slice_set s.partitions w.partition new; questions = questions_by s.questions (context_row w) progress; receipts = receipts_by s.receipts (context_row w) progress; lives = lives_by s.lives (life_in s.begun w) next progress; moment = next })
    state-progress progress ev finds = state-by progress (world-progress progress ev finds)

    world-loads : (progress : Progress K V I O R) → IsLoaded cmp f old new w.slot w.context next progress
        → IsWorld cmp f code (slice_set s.partitions w.partition new) (life_in s.begun) (lives_by s.lives (life_in s.begun w) next progress) next
    world-loads (Done a effect) ev =
        let q = ev.effect.1 in
        rw q.2 (world-loaded cmp o f code s.partitions (life_in s.begun) s.lives s.moment next e state.world w.partition old new w.slot w.context ev.question here ev.was ev.effect.0 ev.frame others q.0 q.1 a q.3.0 q.3.1 q.3.2 q.3.3 ev.live)
    world-loads Next ev =
        world-next cmp o f code s.partitions (life_in s.begun) s.lives s.moment next e state.world w.partition old new w.slot w.context ev.question here ev.was ev.effect.0 ev.frame ev.live others ev.effect.2
    world-loads (Waits why) ev = absurd ev.effect
    world-loads (NeedsBuild ask) ev =
        world-next cmp o f code s.partitions (life_in s.begun) s.lives s.moment next e state.world w.partition old new w.slot w.context ev.question here ev.was ev.effect.0 ev.frame ev.live others ev.effect.1
    world-loads (NeedsLoad receipt address) ev =
        world-further cmp o f code s.partitions (life_in s.begun) s.lives s.moment next e state.world w.partition old new w.slot w.context ev.question here ev.was ev.effect.0 ev.frame ev.live others ev.effect.1

    world-load : (progress : Progress K V I O R) → IsLoad cmp f old new w.slot w.context next progress
        → IsWorld cmp f code (slice_set s.partitions w.partition new) (life_in s.begun) (lives_by s.lives (life_in s.begun w) next progress) next
    world-load progress (IsLoad.on_key ev) = world-loads progress ev
    world-load progress (IsLoad.relocation ev finds) = world-progress progress ev finds

    pub state-load : (progress : Progress K V I O R) → IsLoad cmp f old new w.slot w.context next progress
        → IsState cmp f code (record s { partitions = slice_set s.partitions w.partition new; questions = questions_by s.questions (context_row w) progress; receipts = receipts_by s.receipts (context_row w) progress; lives = lives_by s.lives (life_in s.begun w) next progress; moment = next })
    state-load progress ev = state-by progress (world-load progress ev)
