use Rattle.std.proofs.Common.{◌≡◌, ◌^◌, ℕ, Some, Ok, Err, refl, sym, ap, ◌∙◌}
use Rattle.std.proofs.Math.Nat.{le_of_lt, le_refl}
use Rattle.std.specs.declared.cmp.Ordering.{Ordering}
use Rattle.fkv_functions.specs.Meanings.{Meanings, updated}
use Rattle.fkv_functions.specs.declared.asks.Ask.{Ask}
use Rattle.fkv_functions.proofs.KeyOrder.{key_order}
use Rattle.fkv_index.specs.Places.{word_at}
use Rattle.fkv_index.specs.Words.{address_of}
use Rattle.fkv_operations.specs.After.{key_of}
use Rattle.fkv_operations.specs.declared.entries.IndexEntry.{IndexEntry}
use Rattle.fkv_operations.specs.declared.operations.Answer.TheVariants.{Value}
use Rattle.fkv_lookups.specs.Payloads.{standing}
use Rattle.fkv_lookups.specs.RecordsViews.{class_in}
use Rattle.fkv_hybrid.specs.Views.{IsFull}
use Rattle.fkv_lookups.specs.declared.payloads.Payload.TheVariants.{Whole}
use Rattle.fkv_partition.specs.declared.contexts.Context.{Context}
use Rattle.fkv_partition.specs.declared.contexts.Progress.TheVariants.{Done}
use Rattle.fkv_partition.specs.declared.contexts.Wait.TheVariants.{Full}
use Rattle.fkv_partition.specs.Contexts.{question_in}
use Rattle.fkv_partition.specs.KeyEffect.{IsEvent}
use Rattle.fkv_partition.specs.KeyInstalling.{Installs, declined, worn, full, done}
use Rattle.fkv_partition.specs.Views.{PartitionView, context_at, live_of, partition_of, with_appended, with_payload}
use Rattle.fkv_partition.proofs.AppendedLemmas.{appended-of, not-full, not-worn}
use Rattle.fkv_partition.proofs.EventLemmas.{question-of, question-quiet, kept-entry, own-at, event-declined, event-done, event-waits, claims-none}
use Rattle.fkv_partition.proofs.partitions.Partition.append_built.Goals as goal

-- what was built was appended
module _ {K V I O : Type 0} (cmp : K → K → Ordering) (join : V → V → V) (f : Meanings K V I O) (code : K → ℕ) (v new : PartitionView K V I) (slot c now : ℕ) (e : IndexEntry) (ask asked : Ask K V I) (value : V) (shown : O) (same : asked ≡ ask)
    (made : new ≡ with_payload v slot c e asked.key (Whole (Some value)) (standing join (live_of cmp v asked.key) (Whole (Some value))) now) (shows : shown ≡ f.shown asked.key asked.input value) where
  made-here : new ≡ with_appended v slot c e ask.key (Some value) now
  made-here = made ∙ ap (λ (a : Ask K V I). with_appended v slot c e a.key (Some value) now) same

  shown-here : shown ≡ f.shown ask.key ask.input value
  shown-here = shows ∙ ap (λ (a : Ask K V I). f.shown a.key a.input value) same

  built-installs : {R : Type 0} (x : Context K V I) → context_at v slot c ≡ Some x → question_in x ≡ Some (e, ask) → word_at v.records.words e.place ≡ e.word → updated f ask.key ask.input ask.source ≡ Some value → (v.records.log.tail ≡ 2 ^ 48 → ⊥) → (IsFull v.records.log → ⊥)
      → Installs {R = R} cmp f code v new slot c ask now (Ok (Done (Value shown) now))
  built-installs x here question stands built low room = done x e value here question stands built low room made-here (ap (λ s. Ok (Done (Value s) now)) shown-here)

  built-event : {R : Type 0} → IsEvent {R = R} cmp f v (with_appended v slot c e ask.key (Some value) now) slot c now (Done (Value (f.shown ask.key ask.input value)) now) → IsEvent {R = R} cmp f v new slot c now (Done (Value shown) now)
  built-event event = rw (made-here, shown-here) event

pub free-requires-clause-unclaimed : goal.free-requires-clause-unclaimed
free-requires-clause-unclaimed g c =
    let a = c.requires.asks in
    claims-none c.args.self.now c.args.slot c.args.context a.operation a.here (question-quiet a.operation c.args.kept c.args.built a.question)

pub returns-in_default-clause-effect : goal.returns-in_default-clause-effect
returns-in_default-clause-effect g c =
    let a = c.requires.asks in
    rw c.free.ensures (declined a.operation c.args.kept a.here a.question c.requires.stands (sym c.in_default.ensures) refl refl)

pub returns-in_default-clause-event : goal.returns-in_default-clause-event
returns-in_default-clause-event g c = λ keeps.
    let ord = g.met.F.Key.Ord in
    let facts = g.met.F.Key.FixedKey in
    let order = key_order g.F.Key.PartialEq.eq g.F.Key.Ord.cmp ord.matches_eq facts.exact ord.total in
    let a = c.requires.asks in
    let v = c.args.self.now in
    let ask = c.args.built in
    let kept = c.args.kept in
    let entry = kept-entry g.F.Key.Ord.cmp g.F.Mergeable.parts.joined g.F.Functions.code v c.facts.ensures.sound c.args.slot c.args.context a.operation kept ask a.here a.question c.requires.stands in
    let leads = c.entries_lead.ensures.found g.R.Receipt.keeps g.F.Functions.code v.records (class_in g.F.Functions.code v.records ask.key) kept c.facts.ensures.sound.traced entry in
    let newest = c.entries_lead.ensures.held g.F.Key.Ord.cmp g.R.Receipt.keeps g.F.Functions.code v.records ask.key (address_of kept.word) order c.facts.ensures.sound.traced leads in
    rw c.free.ensures
    (event-declined g.F.Key.Ord.cmp g.F.Mergeable.parts.joined g.F.Functions.meaning g.F.Functions.code v c.args.slot c.args.context c.args.now a.operation a.here keeps c.facts.ensures.sound kept ask a.question c.requires.stands newest (sym c.in_default.ensures))

pub append-requires-clause-unclaimed : goal.append-requires-clause-unclaimed
append-requires-clause-unclaimed g c =
    let a = c.requires.asks in
    claims-none c.args.self.now c.args.slot c.args.context a.operation a.here (question-quiet a.operation c.args.kept c.args.built a.question)

pub append-requires-clause-write : goal.append-requires-clause-write
append-requires-clause-write g c =
    let a = c.requires.asks in
    let x = a.operation in
    let asked = question-of x.number x.op x.phase c.args.kept c.args.built a.question in
    let v = c.args.self.now in
    rw c.ask-ask.ensures (record {
      own = ap (λ k. partition_of v.count (g.F.Functions.code k)) (ap key_of (sym asked.op_is)) ∙ own-at g.F.Key.Ord.cmp g.F.Mergeable.parts.joined g.F.Functions.code v c.facts.ensures.sound c.args.slot c.args.context x a.here;
      entry = kept-entry g.F.Key.Ord.cmp g.F.Mergeable.parts.joined g.F.Functions.code v c.facts.ensures.sound c.args.slot c.args.context x c.args.kept c.args.built a.here a.question c.requires.stands;
    })

pub returns-in-Err-clause-effect : goal.returns-in-Err-clause-effect
returns-in-Err-clause-effect g c =
    let a = c.requires.asks in
    let e = c.in-Err.ensures.only in
    rw c.in-Err.ensures.unchanged (worn a.operation c.args.kept c.in-Some.value a.here a.question c.requires.stands (sym c.in-Some.ensures) (c.in-Err.ensures.worn.0 (ap Err e)) refl (ap Err e))

pub returns-in-Ok-None-clause-effect : goal.returns-in-Ok-None-clause-effect
returns-in-Ok-None-clause-effect g c =
    let a = c.requires.asks in
    let is = ap Ok c.in-Ok-None.field-0-is in
    rw (c.in-Ok-None.ensures.full is) (full a.operation c.args.kept c.in-Some.value a.here a.question c.requires.stands (sym c.in-Some.ensures) (c.in-Ok-None.ensures.room.0 is) refl refl)

pub returns-in-Ok-None-clause-event : goal.returns-in-Ok-None-clause-event
returns-in-Ok-None-clause-event g c = λ keeps.
    let a = c.requires.asks in
    let is = ap Ok c.in-Ok-None.field-0-is in
    rw (c.in-Ok-None.ensures.full is) (event-waits g.F.Key.Ord.cmp g.F.Mergeable.parts.joined g.F.Functions.meaning g.F.Functions.code c.args.self.now c.args.slot c.args.context c.args.now a.operation a.here Full)

pub returns-in-Ok-Some-clause-effect : goal.returns-in-Ok-Some-clause-effect
returns-in-Ok-Some-clause-effect g c =
    let a = c.requires.asks in
    let is = c.in-Ok-Some.field-0-is in
    let made = c.in-Ok-Some.ensures in
    built-installs g.F.Key.Ord.cmp g.F.Mergeable.parts.joined g.F.Functions.meaning g.F.Functions.code c.args.self.now c.append.new.self c.args.slot c.args.context c.args.now c.args.kept c.args.built c.ask-ask.result c.in-Some.value c.read-shown.result c.ask-ask.ensures (appended-of _ _ is made.ok) c.read-shown.ensures
    a.operation a.here a.question c.requires.stands (sym c.in-Some.ensures) (not-worn _ _ made.worn) (not-full _ _ is made.room)

pub returns-in-Ok-Some-clause-event : goal.returns-in-Ok-Some-clause-event
returns-in-Ok-Some-clause-event g c = λ keeps.
    let ord = g.met.F.Key.Ord in
    let facts = g.met.F.Key.FixedKey in
    let order = key_order g.F.Key.PartialEq.eq g.F.Key.Ord.cmp ord.matches_eq facts.exact ord.total in
    let a = c.requires.asks in
    let v = c.args.self.now in
    let ask = c.args.built in
    let kept = c.args.kept in
    let entry = kept-entry g.F.Key.Ord.cmp g.F.Mergeable.parts.joined g.F.Functions.code v c.facts.ensures.sound c.args.slot c.args.context a.operation kept ask a.here a.question c.requires.stands in
    let leads = c.entries_lead.ensures.found g.R.Receipt.keeps g.F.Functions.code v.records (class_in g.F.Functions.code v.records ask.key) kept c.facts.ensures.sound.traced entry in
    let newest = c.entries_lead.ensures.held g.F.Key.Ord.cmp g.R.Receipt.keeps g.F.Functions.code v.records ask.key (address_of kept.word) order c.facts.ensures.sound.traced leads in
    built-event g.F.Key.Ord.cmp g.F.Mergeable.parts.joined g.F.Functions.meaning g.F.Functions.code v c.append.new.self c.args.slot c.args.context c.args.now kept ask c.ask-ask.result c.in-Some.value c.read-shown.result c.ask-ask.ensures (appended-of _ _ c.in-Ok-Some.field-0-is c.in-Ok-Some.ensures.ok) c.read-shown.ensures
    (event-done g.F.Key.Ord.cmp g.F.Mergeable.parts.joined g.F.Functions.meaning g.F.Functions.code v c.args.slot c.args.context c.args.now a.operation a.here keeps c.facts.ensures.sound kept ask c.in-Some.value a.question c.requires.stands newest (sym c.in-Some.ensures)
    (λ value. c.records_grow.ensures.lives g.F.Key.Ord.cmp v.records kept ask.key (Whole value) value))

pub returns-in_default-clause-moment : goal.returns-in_default-clause-moment
returns-in_default-clause-moment g c = rw c.free.ensures (le_refl c.args.now)

pub returns-in-Err-clause-unchanged : goal.returns-in-Err-clause-unchanged
returns-in-Err-clause-unchanged g c = c.in-Err.ensures.unchanged

pub returns-in-Err-clause-moment : goal.returns-in-Err-clause-moment
returns-in-Err-clause-moment g c = rw c.in-Err.ensures.unchanged (le_of_lt c.requires.later)

pub returns-in-Ok-None-clause-moment : goal.returns-in-Ok-None-clause-moment
returns-in-Ok-None-clause-moment g c = rw (c.in-Ok-None.ensures.full (ap Ok c.in-Ok-None.field-0-is)) (le_refl c.args.now)

pub returns-in-Ok-Some-clause-moment : goal.returns-in-Ok-Some-clause-moment
returns-in-Ok-Some-clause-moment g c = rw (appended-of _ _ c.in-Ok-Some.field-0-is c.in-Ok-Some.ensures.ok) (le_refl c.args.now)
