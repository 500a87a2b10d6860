use Rattle.std.proofs.Common.{◌≡◌, true, false, Some, refl, sym, ap, ◌∙◌}
use Rattle.std.proofs.Math.Nat.{le_of_lt, le_refl}
use Rattle.fkv_index.specs.Places.{word_at}
use Rattle.fkv_partition.specs.declared.contexts.Phase.TheVariants.{Fresh}
use Rattle.fkv_partition.specs.Contexts.{context_in, question_in, on_key}
use Rattle.fkv_partition.specs.Inside.{view_of}
use Rattle.fkv_partition.specs.KeyInstalling.{unknown, not_ready, stranger, moved}
use Rattle.fkv_functions.proofs.CallLemmas.{with_six}
use Rattle.fkv_partition.proofs.EventLemmas.{event-next, kept-at, question-quiet, if-all}
use Rattle.fkv_partition.proofs.partitions.Partition.install_on_key.Goals as goal

pub returns-in_default-question_of-clause-effect : goal.returns-in_default-question_of-clause-effect
returns-in_default-question_of-clause-effect g c = not_ready c.in-Some.open (sym c.in-Some.ensures.value) (sym c.in_default-question_of.ensures) refl refl

pub returns-then-not-is-clause-effect : goal.returns-then-not-is-clause-effect
returns-then-not-is-clause-effect g c =
    let q = c.in-Some-question_of.question in
    rw c.ask-ask.ensures (stranger c.in-Some.open q.0 q.1 (sym c.in-Some.ensures.value) (sym c.in-Some-question_of.ensures)
    (λ e. let yes = c.is.ensures.1 (c.ask-ask.ensures ∙ e) in let no : false ≡ true = sym c.if-not-is.true ∙ yes in cc) refl refl)

pub holds-requires-whole : goal.holds-requires-whole
holds-requires-whole g c κs =
    let q = c.in-Some-question_of.question in
    let at : on_key (context_in c.self.inside.records.log.regions.epochs.slots c.self.inside.contexts.items c.args.slot c.args.context) ≡ Some c.in-Some.open = rw (← c.self.view_is) at (sym c.in-Some.ensures.value) in
    with_six (
    (kept-at g.F.Key.Ord.cmp g.F.Mergeable.parts.joined g.F.Functions.code (view_of g.F.Mergeable.MERGES c.self.inside.number c.self.inside.count c.self.inside.records c.self.inside.contexts.items c.self.inside.moment c.self.inside.cleared) c.self.invariant.sound c.args.slot c.args.context c.in-Some.open q.0 q.1 at (sym c.in-Some-question_of.ensures)).entry.place)

pub set_phase-requires-clause-unclaimed : goal.set_phase-requires-clause-unclaimed
set_phase-requires-clause-unclaimed g c =
    let q = c.in-Some-question_of.question in
    question-quiet c.in-Some.open q.0 q.1 (sym c.in-Some-question_of.ensures)

pub returns-then-not-holds-clause-effect : goal.returns-then-not-holds-clause-effect
returns-then-not-holds-clause-effect g c =
    let q = c.in-Some-question_of.question in
    let mine : question_in c.in-Some.open ≡ Some (q.0, c.args.built) = sym c.in-Some-question_of.ensures ∙ ap (λ a. Some (q.0, a)) (sym (c.is.ensures.0 c.if-not-is.false) ∙ c.ask-ask.ensures) in
    rw c.set_phase.ensures (moved c.in-Some.open q.0 (sym c.in-Some.ensures.value) mine
    (λ e. let yes = c.holds.ensures.1 (ap (λ v. word_at v.records.words q.0.place) c.self.view_is ∙ e) in let no : false ≡ true = sym c.if-not-holds.true ∙ yes in cc) refl refl)

pub returns-then-not-holds-clause-event : goal.returns-then-not-holds-clause-event
returns-then-not-holds-clause-event g c = λ keeps.
    let v = c.args.self.now in
    rw c.set_phase.ensures
    (event-next g.F.Key.Ord.cmp g.F.Mergeable.parts.joined g.F.Functions.meaning g.F.Functions.code v c.args.slot c.args.context c.args.now c.in-Some.open (sym c.in-Some.ensures.value) Fresh v.records refl refl refl)

pub append_built-requires-clause-asks : goal.append_built-requires-clause-asks
append_built-requires-clause-asks g c =
    let q = c.in-Some-question_of.question in
    record {
      operation = c.in-Some.open;
      here = sym c.in-Some.ensures.value;
      question = sym c.in-Some-question_of.ensures ∙ ap (λ a. Some (q.0, a)) (sym (c.is.ensures.0 c.if-not-is.false) ∙ c.ask-ask.ensures);
    }

pub append_built-requires-clause-stands : goal.append_built-requires-clause-stands
append_built-requires-clause-stands g c =
    let q = c.in-Some-question_of.question in
    ap (λ v. word_at v.records.words q.0.place) (sym c.self.view_is) ∙ c.holds.ensures.0 c.if-not-holds.false

pub returns-clause-within : goal.returns-clause-within
returns-clause-within g c = if-all c.append_built.result (c.in-Some.ensures.session, c.in-Some.ensures.context)

pub returns-in_default-clause-effect : goal.returns-in_default-clause-effect
returns-in_default-clause-effect g c = unknown (sym c.in_default.ensures.value) refl refl

pub returns-in_default-clause-moment : goal.returns-in_default-clause-moment
returns-in_default-clause-moment g c = le_of_lt c.requires.later

pub returns-in_default-question_of-clause-moment : goal.returns-in_default-question_of-clause-moment
returns-in_default-question_of-clause-moment g c = le_of_lt c.requires.later

pub returns-then-not-is-clause-moment : goal.returns-then-not-is-clause-moment
returns-then-not-is-clause-moment g c = le_of_lt c.requires.later

pub set_phase-requires-clause-session : goal.set_phase-requires-clause-session
set_phase-requires-clause-session g c = c.in-Some.ensures.session

pub set_phase-requires-clause-context : goal.set_phase-requires-clause-context
set_phase-requires-clause-context g c = c.in-Some.ensures.context

pub set_phase-requires-clause-here : goal.set_phase-requires-clause-here
set_phase-requires-clause-here g c = sym c.in-Some.ensures.value

pub set_phase-requires-clause-claims_nothing : goal.set_phase-requires-clause-claims_nothing
set_phase-requires-clause-claims_nothing g c = refl

pub returns-then-not-holds-clause-within : goal.returns-then-not-holds-clause-within
returns-then-not-holds-clause-within g c = (c.in-Some.ensures.session, c.in-Some.ensures.context)

pub returns-then-not-holds-clause-moment : goal.returns-then-not-holds-clause-moment
returns-then-not-holds-clause-moment g c = rw c.set_phase.ensures (le_refl c.args.now)

pub append_built-requires-clause-session : goal.append_built-requires-clause-session
append_built-requires-clause-session g c = c.in-Some.ensures.session

pub append_built-requires-clause-context : goal.append_built-requires-clause-context
append_built-requires-clause-context g c = c.in-Some.ensures.context

pub returns-clause-effect : goal.returns-clause-effect
returns-clause-effect g c = c.append_built.ensures.effect

pub returns-clause-event : goal.returns-clause-event
returns-clause-event g c = c.append_built.ensures.event

pub returns-clause-unchanged : goal.returns-clause-unchanged
returns-clause-unchanged g c = c.append_built.ensures.unchanged

pub returns-clause-moment : goal.returns-clause-moment
returns-clause-moment g c = c.append_built.ensures.moment
