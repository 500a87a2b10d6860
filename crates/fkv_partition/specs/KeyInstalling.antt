-- What `install` does with an answer to the question `ask`: a rule for each case, in the order of the tests.
use Rattle.std.specs.Prelude.{◌≡◌, ◌≢◌, ◌^◌, ℕ, Some, None, Result, Ok, Err}
use Rattle.std.specs.declared.cmp.Ordering.{Ordering}
use Rattle.fkv_functions.specs.Meanings.{Meanings, updated}
use Rattle.fkv_functions.specs.declared.asks.Ask.{Ask}
use Rattle.fkv_functions.specs.declared.refusals.Refused.{Refused}
use Rattle.fkv_functions.specs.declared.refusals.Refused.TheVariants.{Unknown, NotReady, Stranger, Worn}
use Rattle.fkv_functions.specs.declared.refusals.What.TheVariants.{Built}
use Rattle.fkv_hybrid.specs.Views.{IsFull}
use Rattle.fkv_index.specs.Places.{word_at}
use Rattle.fkv_operations.specs.declared.entries.IndexEntry.{IndexEntry}
use Rattle.fkv_operations.specs.declared.operations.Answer.TheVariants.{Value, Declined}
use Rattle.fkv_partition.specs.declared.contexts.Context.{Context}
use Rattle.fkv_partition.specs.declared.contexts.Phase.TheVariants.{Fresh}
use Rattle.fkv_partition.specs.declared.contexts.Progress.{Progress}
use Rattle.fkv_partition.specs.declared.contexts.Progress.TheVariants.{Done, Next, Waits}
use Rattle.fkv_partition.specs.declared.contexts.Wait.TheVariants.{Full}
use Rattle.fkv_partition.specs.Contexts.{question_in, at_phase}
use Rattle.fkv_partition.specs.Views.{PartitionView, context_at, with_context, with_appended}

-- the operation that is open in a context kept this entry, and asks this
pub record Asks {K V I : Type 0} (v : PartitionView K V I) (slot c : ℕ) (kept : IndexEntry) (ask : Ask K V I) : Type 0 where
  pub operation : Context K V I
  pub here : context_at v slot c ≡ Some operation
  pub question : question_in operation ≡ Some (kept, ask)

pub data Installs {K V I O R : Type 0} (cmp : K → K → Ordering) (f : Meanings K V I O) (code : K → ℕ)
    (old new : PartitionView K V I) (slot c : ℕ) (ask : Ask K V I) (now : ℕ)
    (result : Result (Progress K V I O R) Refused) : Type 0 where
  -- nothing is open there
  unknown : context_at old slot c ≡ None
      → new ≡ old
      → result ≡ Err Unknown
      → Installs cmp f code old new slot c ask now result
  -- the context asks for nothing to be built
  not_ready : (x : Context K V I)
      → context_at old slot c ≡ Some x
      → question_in x ≡ None
      → new ≡ old
      → result ≡ Err NotReady
      → Installs cmp f code old new slot c ask now result
  -- the answer is to another question
  stranger : (x : Context K V I) (e : IndexEntry) (mine : Ask K V I)
      → context_at old slot c ≡ Some x
      → question_in x ≡ Some (e, mine)
      → ask ≢ mine
      → new ≡ old
      → result ≡ Err (Stranger Built mine.number ask.number)
      → Installs cmp f code old new slot c ask now result
  -- the place of the entry does not hold the kept word any more: the update looks again
  moved : (x : Context K V I) (e : IndexEntry)
      → context_at old slot c ≡ Some x
      → question_in x ≡ Some (e, ask)
      → word_at old.records.words e.place ≢ e.word
      → new ≡ with_context old slot c (Some (at_phase x Fresh)) now
      → result ≡ Ok Next
      → Installs cmp f code old new slot c ask now result
  -- the functions decline the update: it is done, and nothing is appended
  declined : (x : Context K V I) (e : IndexEntry)
      → context_at old slot c ≡ Some x
      → question_in x ≡ Some (e, ask)
      → word_at old.records.words e.place ≡ e.word
      → updated f ask.key ask.input ask.source ≡ None
      → new ≡ with_context old slot c None now
      → result ≡ Ok (Done Declined now)
      → Installs cmp f code old new slot c ask now result
  -- no address is left
  worn : (x : Context K V I) (e : IndexEntry) (value : V)
      → context_at old slot c ≡ Some x
      → question_in x ≡ Some (e, ask)
      → word_at old.records.words e.place ≡ e.word
      → updated f ask.key ask.input ask.source ≡ Some value
      → old.records.log.tail ≡ 2 ^ 48
      → new ≡ old
      → result ≡ Err Worn
      → Installs cmp f code old new slot c ask now result
  -- there is no room for a record: the update stays as it is
  full : (x : Context K V I) (e : IndexEntry) (value : V)
      → context_at old slot c ≡ Some x
      → question_in x ≡ Some (e, ask)
      → word_at old.records.words e.place ≡ e.word
      → updated f ask.key ask.input ask.source ≡ Some value
      → IsFull old.records.log
      → new ≡ record old { moment = now }
      → result ≡ Ok (Waits Full)
      → Installs cmp f code old new slot c ask now result
  -- the new value is appended, the entry moves to it, and the answer shows it
  done : (x : Context K V I) (e : IndexEntry) (value : V)
      → context_at old slot c ≡ Some x
      → question_in x ≡ Some (e, ask)
      → word_at old.records.words e.place ≡ e.word
      → updated f ask.key ask.input ask.source ≡ Some value
      → old.records.log.tail ≢ 2 ^ 48
      → (IsFull old.records.log → ⊥)
      → new ≡ with_appended old slot c e ask.key (Some value) now
      → result ≡ Ok (Done (Value (f.shown ask.key ask.input value)) now)
      → Installs cmp f code old new slot c ask now result
