use Rattle.std.proofs.Common.{refl, sym}
use Rattle.std.proofs.Math.Nat.{le_refl}
use Rattle.fkv_lookups.specs.RecordsViews.{released}
use Rattle.fkv_partition.specs.KeyEnding.{unknown, gives_up, cancels}
use Rattle.fkv_partition.proofs.EventLemmas.{event-give_up, claims-none, confirm-by}
use Rattle.fkv_partition.proofs.partitions.Partition.give_up_on_key.Goals as goal

pub cancel-requires-clause-phase : goal.cancel-requires-clause-phase
cancel-requires-clause-phase g c = confirm-by c.in-Some.open.phase c.in-Some-claim_of.place (sym c.in-Some-claim_of.ensures)

pub returns-in-Some-claim_of-clause-effect : goal.returns-in-Some-claim_of-clause-effect
returns-in-Some-claim_of-clause-effect g c =
    let p = c.in-Some-claim_of.place in
    rw c.cancel.ensures (cancels c.in-Some.open p (sym c.in-Some.ensures.value) (confirm-by c.in-Some.open.phase p (sym c.in-Some-claim_of.ensures)) refl refl)

pub returns-in-Some-claim_of-clause-event : goal.returns-in-Some-claim_of-clause-event
returns-in-Some-claim_of-clause-event g c =
    let v = c.args.self.now in
    rw c.cancel.ensures (event-give_up v c.args.slot c.args.context c.args.now c.in-Some.open (released v.records c.in-Some-claim_of.place) (sym c.in-Some.ensures.value) refl refl refl)

pub free-requires-clause-unclaimed : goal.free-requires-clause-unclaimed
free-requires-clause-unclaimed g c =
    claims-none c.args.self.now c.args.slot c.args.context c.in-Some.open (sym c.in-Some.ensures.value) (sym c.in_default-claim_of.ensures)

pub returns-clause-effect : goal.returns-clause-effect
returns-clause-effect g c = rw c.free.ensures (gives_up c.in-Some.open (sym c.in-Some.ensures.value) (sym c.in_default-claim_of.ensures) refl refl)

pub returns-clause-event : goal.returns-clause-event
returns-clause-event g c =
    let v = c.args.self.now in
    rw c.free.ensures (event-give_up v c.args.slot c.args.context c.args.now c.in-Some.open v.records (sym c.in-Some.ensures.value) refl refl refl)

pub returns-in_default-clause-effect : goal.returns-in_default-clause-effect
returns-in_default-clause-effect g c = unknown (sym c.in_default.ensures.value) refl refl

pub returns-in_default-clause-moment : goal.returns-in_default-clause-moment
returns-in_default-clause-moment g c = c.requires.since

pub cancel-requires-clause-session : goal.cancel-requires-clause-session
cancel-requires-clause-session g c = c.in-Some.ensures.session

pub cancel-requires-clause-context : goal.cancel-requires-clause-context
cancel-requires-clause-context g c = c.in-Some.ensures.context

pub cancel-requires-clause-here : goal.cancel-requires-clause-here
cancel-requires-clause-here g c = sym c.in-Some.ensures.value

pub returns-in-Some-claim_of-clause-within : goal.returns-in-Some-claim_of-clause-within
returns-in-Some-claim_of-clause-within g c = (c.in-Some.ensures.session, c.in-Some.ensures.context)

pub returns-in-Some-claim_of-clause-moment : goal.returns-in-Some-claim_of-clause-moment
returns-in-Some-claim_of-clause-moment g c = rw c.cancel.ensures (le_refl c.args.now)

pub free-requires-clause-session : goal.free-requires-clause-session
free-requires-clause-session g c = c.in-Some.ensures.session

pub free-requires-clause-context : goal.free-requires-clause-context
free-requires-clause-context g c = c.in-Some.ensures.context

pub returns-clause-within : goal.returns-clause-within
returns-clause-within g c = (c.in-Some.ensures.session, c.in-Some.ensures.context)

pub returns-clause-moment : goal.returns-clause-moment
returns-clause-moment g c = rw c.free.ensures (le_refl c.args.now)
