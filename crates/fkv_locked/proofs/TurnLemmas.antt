-- What is kept under a lock stays so with each event, as a partition tells it.
use Rattle.std.proofs.Common.{◌≡◌, ◌⊎◌, inl, inr, Bool, IsTrue, ℕ, ◌+◌, ◌<◌, ◌≤◌, List, [], ◌∷◌, ◌++◌, length, Some, None, slice_index, slice_set, sym, ap, subst, ◌∙◌, arith}
use Rattle.std.specs.declared.cmp.Ordering.{Ordering}
use Rattle.fkv_functions.specs.Meanings.{Meanings}
use Rattle.fkv_functions.specs.Plain.{Same}
use Rattle.fkv_functions.specs.declared.asks.Ask.{Ask}
use Rattle.fkv_texts.specs.Text.{live}
use Rattle.fkv_operations.specs.Operations.{keyed, op_of, after_keyed, answer_keyed}
use Rattle.fkv_operations.specs.declared.operations.Op.{Op}
use Rattle.fkv_operations.specs.declared.operations.Answer.{Answer}
use Rattle.fkv_partition.specs.declared.contexts.Wait.{Wait}
use Rattle.fkv_partition.specs.declared.contexts.Progress.TheVariants.{Done, Next, NeedsBuild, NeedsLoad, Waits}
use Rattle.fkv_partition.specs.Pending.{AllPend, OthersPend, pending}
use Rattle.fkv_partition.specs.Views.{live_of, PartitionView}
use Rattle.fkv_partition.specs.Effect.{Asked, asked, to_find, IsQuiet, IsIssue, IsGiveUp}
use Rattle.fkv_partition.proofs.EffectLemmas.{asked-low}
use Rattle.fkv_partition.proofs.AskedLemmas.{keyed-op}
use Rattle.fkv_histories.specs.declared.entries.Entry.{Entry}
use Rattle.fkv_histories.specs.Histories.{updates}
use Rattle.fkv_locked.specs.declared.open_operations.OpenOperation.{OpenOperation}
use Rattle.fkv_locked.specs.Kept.{seen, place_of, IsFaithful}
use Rattle.fkv_locked.specs.Turns.{question_of, IsGone, IsCome}
use Rattle.fkv_locked.proofs.KeptLemmas.{orderly, kept_quiet, kept_still, kept_further, kept_asks, kept_closed, kept_done, kept_loaded, kept_issue}

module _ {K V I O : Type 0} (cmp : K → K → Ordering) (f : Meanings K V I O) (old new : PartitionView K V I) (es : List (Entry K V I O)) (lows looks : List ℕ) (book now : ℕ)
    (k : IsFaithful cmp f (seen cmp old) es lows looks book) where
  -- an event of no operation
  pub quiet_keeps : (keeps : Bool) → IsTrue keeps → old.moment < now → IsQuiet keeps old new now → AllPend cmp old new → IsFaithful cmp f (seen cmp new) es lows looks book
  quiet_keeps keeps held later q pend =
      let at = q.moment in
      kept_quiet cmp f (seen cmp old) (seen cmp new) (omega arith) es lows looks book q.same pend (λ x. ap (λ t. live cmp t x) (q.text held)) k

  -- an issue
  pub issue_keeps : (slot c : ℕ) (op : Op K V I) (code : K → ℕ) (lows' : List ℕ) → c < 8 → old.moment < now → IsIssue code old new slot c op now → AllPend cmp old new
      → lows' ≡ slice_set lows (place_of slot c) (length (updates es))
      → place_of slot c < length lows
      → IsFaithful cmp f (seen cmp new) es lows' looks book
  issue_keeps slot c op code lows' low later e pend set within =
      let at = e.frame.moment in
      kept_issue cmp f (seen cmp old) (seen cmp new) (omega arith) (orderly cmp old) (orderly cmp new) slot c low e.frame.others (λ s d n. pend s d) es lows looks book k
      lows' e.closed (pend slot c) (λ x. ap (λ t. live cmp t x) e.text) set within

  -- an operation is given up
  pub give_up_keeps : (slot c : ℕ) → old.moment < now → IsGiveUp old new slot c now → OthersPend cmp old new slot c → IsFaithful cmp f (seen cmp new) es lows looks book
  give_up_keeps slot c later e others =
      let at = e.frame.moment in
      kept_closed cmp f (seen cmp old) (seen cmp new) (omega arith) (orderly cmp old) (orderly cmp new) slot c (asked-low old slot c e.question e.was) e.frame.others others es lows looks book k
      e.closed (λ x. ap (λ t. live cmp t x) e.text)

  pub failed_keeps : (slot c : ℕ) → old.moment < now → (new ≡ old) ⊎ IsGiveUp old new slot c now → OthersPend cmp old new slot c → IsFaithful cmp f (seen cmp new) es lows looks book
  failed_keeps slot c later e others = elim e [ inl same ↦ subst (λ v. IsFaithful cmp f (seen cmp v) es lows looks book) (sym same) k | inr given ↦ give_up_keeps slot c later given others ]

  -- an operation goes on, and is to find nothing any more
  came_still : (slot c : ℕ) (x : Asked K V I) → pending cmp new slot c ≡ None → old.moment ≤ new.moment
      → asked old slot c ≡ Some x
      → ((s d : ℕ) → (s ≡ slot → ⊥) ⊎ (d ≡ c → ⊥) → asked new s d ≡ asked old s d)
      → OthersPend cmp old new slot c
      → Same (live_of cmp new) (live_of cmp old)
      → IsFaithful cmp f (seen cmp new) es lows looks book
  came_still slot c x none later asks rest others lives =
      kept_still cmp f (seen cmp old) (seen cmp new) later (orderly cmp old) (orderly cmp new) slot c (asked-low old slot c x asks)
      rest others es lows looks book k none lives

module _ {K V I O R : Type 0} (cmp : K → K → Ordering) (f : Meanings K V I O) (old new : PartitionView K V I) (es : List (Entry K V I O)) (lows looks : List ℕ) (book now : ℕ)
    (k : IsFaithful cmp f (seen cmp old) es lows looks book) (operation : OpenOperation K V I) where
  pub went_next : IsGone {R = R} cmp f old new operation now Next → IsFaithful cmp f (seen cmp new) es lows looks book
  went_next e =
      let at = e.event.frame.moment in
      let later = e.later in
      kept_still cmp f (seen cmp old) (seen cmp new) (omega arith) (orderly cmp old) (orderly cmp new) operation.session.slot operation.context (asked-low old operation.session.slot operation.context (question_of operation) e.asks)
      e.event.frame.others e.others es lows looks book k e.finds e.event.effect.1

  pub went_build : (ask : Ask K V I) → IsGone {R = R} cmp f old new operation now (NeedsBuild ask) → IsFaithful cmp f (seen cmp new) es lows looks book
  went_build ask e =
      let at = e.event.frame.moment in
      let later = e.later in
      kept_still cmp f (seen cmp old) (seen cmp new) (omega arith) (orderly cmp old) (orderly cmp new) operation.session.slot operation.context (asked-low old operation.session.slot operation.context (question_of operation) e.asks)
      e.event.frame.others e.others es lows looks book k e.finds e.event.effect.1

  pub went_wait : (why : Wait) → IsGone {R = R} cmp f old new operation now (Waits why) → IsFaithful cmp f (seen cmp new) es lows looks book
  went_wait why e =
      let at = e.event.frame.moment in
      let later = e.later in
      kept_still cmp f (seen cmp old) (seen cmp new) (omega arith) (orderly cmp old) (orderly cmp new) operation.session.slot operation.context (asked-low old operation.session.slot operation.context (question_of operation) e.asks)
      e.event.frame.others e.others es lows looks book k e.finds e.event.effect.1

  pub went_load : (r : R) (a : ℕ) (looks' : List ℕ) → IsGone cmp f old new operation now (NeedsLoad r a)
      → looks' ≡ slice_set looks (place_of operation.session.slot operation.context) (length (updates es))
      → place_of operation.session.slot operation.context < length looks
      → IsFaithful cmp f (seen cmp new) es lows looks' book
  went_load r a looks' e set within =
      let at = e.event.frame.moment in
      let later = e.later in
      let x = e.event.question in
      let y = e.finds.question in
      let first : Some x ≡ Some (question_of operation) = sym e.event.was ∙ e.asks in
      let second : Some y ≡ Some (question_of operation) = sym e.finds.was ∙ e.asks in
      let is : asked new operation.session.slot operation.context ≡ Some (question_of operation) = e.event.effect.0 ∙ first in
      let y_is : y ≡ question_of operation = cc in
      let finds = e.finds.asks ∙ (ap (λ (z : Asked K V I). to_find cmp old now (keyed z.op)) y_is ∙ ap (to_find cmp old now) (keyed-op operation.op)) in
      kept_asks cmp f (seen cmp old) (seen cmp new) (omega arith) (orderly cmp old) (orderly cmp new) operation.session.slot operation.context (asked-low old operation.session.slot operation.context (question_of operation) e.asks)
      e.event.frame.others e.others es lows looks book k operation.number operation.op now looks' (omega arith) is finds e.event.effect.1 set within

  pub went_done : (a : Answer O) (effect : ℕ) (entry : Entry K V I O) (es' : List (Entry K V I O)) → IsGone {R = R} cmp f old new operation now (Done a effect)
      → entry.op ≡ operation.op
      → entry.answer ≡ a
      → entry.at ≡ length (updates es)
      → entry.high ≡ length (updates es)
      → entry.low ≡ slice_index lows (place_of operation.session.slot operation.context)
      → es' ≡ es ++ entry ∷ []
      → IsFaithful cmp f (seen cmp new) es' lows looks (book + 1)
  went_done a effect entry es' e op_is told at high low_is grown =
      let moment = e.event.frame.moment in
      let later = e.later in
      let x = e.event.question in
      let same : Some x ≡ Some (question_of operation) = sym e.event.was ∙ e.asks in
      let x_is : x ≡ question_of operation = cc in
      let key : keyed x.op ≡ Some entry.op = ap (λ (z : Asked K V I). keyed z.op) x_is ∙ (keyed-op operation.op ∙ ap Some (sym op_is)) in
      rw grown (kept_done cmp f (seen cmp old) (seen cmp new) (omega arith) (orderly cmp old) (orderly cmp new) operation.session.slot operation.context (asked-low old operation.session.slot operation.context (question_of operation) e.asks)
      e.event.frame.others e.others es lows looks book k entry e.event.effect.0
      (subst (λ t. Same (live_of cmp new) (after_keyed cmp f (live_of cmp old) t)) key e.event.effect.2)
      (told ∙ (e.event.effect.3 ∙ ap (answer_keyed f (live_of cmp old)) key)) at high low_is)

  -- a page came
  pub came_next : IsCome {R = R} cmp f old new operation Next → IsFaithful cmp f (seen cmp new) es lows looks book
  came_next e = came_still cmp f old new es lows looks book now k operation.session.slot operation.context (question_of operation) e.effect e.later e.asks e.rest e.others e.live

  pub came_build : (ask : Ask K V I) → IsCome {R = R} cmp f old new operation (NeedsBuild ask) → IsFaithful cmp f (seen cmp new) es lows looks book
  came_build ask e = came_still cmp f old new es lows looks book now k operation.session.slot operation.context (question_of operation) e.effect e.later e.asks e.rest e.others e.live

  pub came_wait : (why : Wait) → IsCome {R = R} cmp f old new operation (Waits why) → IsFaithful cmp f (seen cmp new) es lows looks book
  came_wait why e = came_still cmp f old new es lows looks book now k operation.session.slot operation.context (question_of operation) e.effect e.later e.asks e.rest e.others e.live

  pub came_further : (r : R) (a : ℕ) → IsCome cmp f old new operation (NeedsLoad r a) → IsFaithful cmp f (seen cmp new) es lows looks book
  came_further r a e =
      kept_further cmp f (seen cmp old) (seen cmp new) e.later (orderly cmp old) (orderly cmp new) operation.session.slot operation.context (asked-low old operation.session.slot operation.context (question_of operation) e.asks)
      e.rest e.others es lows looks book k (e.effect.0 ∙ sym e.asks) e.effect.1 e.live

  pub came_done : (a : Answer O) (effect : ℕ) (entry : Entry K V I O) (es' : List (Entry K V I O)) → IsCome {R = R} cmp f old new operation (Done a effect)
      → entry.op ≡ operation.op
      → entry.answer ≡ a
      → entry.at ≡ slice_index looks (place_of operation.session.slot operation.context)
      → entry.high ≡ length (updates es)
      → entry.low ≡ slice_index lows (place_of operation.session.slot operation.context)
      → es' ≡ es ++ entry ∷ []
      → IsFaithful cmp f (seen cmp new) es' lows looks (book + 1)
  came_done a effect entry es' e op_is told at high low_is grown =
      let found = e.effect.1 in
      let read = found.2 in
      rw grown (kept_loaded cmp f (seen cmp old) (seen cmp new) e.later (orderly cmp old) (orderly cmp new) operation.session.slot operation.context (asked-low old operation.session.slot operation.context (question_of operation) e.asks)
      e.rest e.others es lows looks book k entry found.0 operation.number read.0 read.1 e.effect.0
      (e.asks ∙ ap (λ o. Some (record { number = operation.number; op = op_of o })) (sym op_is)) found.1 e.live (op_is ∙ read.2) (told ∙ read.3) at high low_is)
