use Rattle.std.proofs.Common.{refl, sym}
use Rattle.std.proofs.Math.Nat.{le_of_lt, le_refl}
use Rattle.fkv_partition.specs.KeyGoing.{unknown, asks, not_ready}
use Rattle.fkv_partition.proofs.EventLemmas.{event-asks, loading-is, if-all}
use Rattle.fkv_partition.proofs.partitions.Partition.go_on_key.Goals as goal

pub returns-in-Some-question_of-clause-effect : goal.returns-in-Some-question_of-clause-effect
returns-in-Some-question_of-clause-effect g c =
    let q = c.in-Some-question_of.question in
    rw c.pass.ensures (asks c.in-Some.open q.0 q.1 (sym c.in-Some.ensures.value) (sym c.in-Some-question_of.ensures) refl refl)

pub returns-in-Some-question_of-clause-event : goal.returns-in-Some-question_of-clause-event
returns-in-Some-question_of-clause-event g c =
    let q = c.in-Some-question_of.question in
    rw c.pass.ensures
    (event-asks g.F.Key.Ord.cmp g.F.Mergeable.parts.joined g.F.Functions.meaning g.F.Functions.code c.args.self.now c.args.slot c.args.context c.args.now c.in-Some.open (sym c.in-Some.ensures.value) q.0 q.1 (sym c.in-Some-question_of.ensures))

pub returns-in-Some-loading_of-clause-effect : goal.returns-in-Some-loading_of-clause-effect
returns-in-Some-loading_of-clause-effect g c =
    let l = c.in-Some-loading_of._loading in
    not_ready c.in-Some.open l (sym c.in-Some.ensures.value) (loading-is c.in-Some.open.phase l (sym c.in-Some-loading_of.ensures)) refl refl

pub returns-in_default-clause-effect : goal.returns-in_default-clause-effect
returns-in_default-clause-effect g c = unknown (sym c.in_default.ensures.value) refl refl

pub returns-in_default-clause-moment : goal.returns-in_default-clause-moment
returns-in_default-clause-moment g c = le_of_lt c.requires.later

pub returns-in-Some-question_of-clause-within : goal.returns-in-Some-question_of-clause-within
returns-in-Some-question_of-clause-within g c = (c.in-Some.ensures.session, c.in-Some.ensures.context)

pub returns-in-Some-question_of-clause-moment : goal.returns-in-Some-question_of-clause-moment
returns-in-Some-question_of-clause-moment g c = rw c.pass.ensures (le_refl c.args.now)

pub confirm_claim-requires-clause-session : goal.confirm_claim-requires-clause-session
confirm_claim-requires-clause-session g c = c.in-Some.ensures.session

pub confirm_claim-requires-clause-context : goal.confirm_claim-requires-clause-context
confirm_claim-requires-clause-context g c = c.in-Some.ensures.context

pub confirm_claim-requires-clause-here : goal.confirm_claim-requires-clause-here
confirm_claim-requires-clause-here g c = sym c.in-Some.ensures.value

pub confirm_claim-requires-clause-phase : goal.confirm_claim-requires-clause-phase
confirm_claim-requires-clause-phase g c = sym c.in-Some-claim_of.ensures

pub returns-in-Some-claim_of-clause-effect : goal.returns-in-Some-claim_of-clause-effect
returns-in-Some-claim_of-clause-effect g c = c.confirm_claim.ensures.effect

pub returns-in-Some-claim_of-clause-event : goal.returns-in-Some-claim_of-clause-event
returns-in-Some-claim_of-clause-event g c = c.confirm_claim.ensures.event

pub returns-in-Some-claim_of-clause-within : goal.returns-in-Some-claim_of-clause-within
returns-in-Some-claim_of-clause-within g c = (c.in-Some.ensures.session, c.in-Some.ensures.context)

pub returns-in-Some-claim_of-clause-moment : goal.returns-in-Some-claim_of-clause-moment
returns-in-Some-claim_of-clause-moment g c = c.confirm_claim.ensures.moment

pub returns-in-Some-loading_of-clause-moment : goal.returns-in-Some-loading_of-clause-moment
returns-in-Some-loading_of-clause-moment g c = le_of_lt c.requires.later

pub look_up-requires-clause-session : goal.look_up-requires-clause-session
look_up-requires-clause-session g c = c.in-Some.ensures.session

pub look_up-requires-clause-context : goal.look_up-requires-clause-context
look_up-requires-clause-context g c = c.in-Some.ensures.context

pub look_up-requires-clause-here : goal.look_up-requires-clause-here
look_up-requires-clause-here g c = sym c.in-Some.ensures.value

pub look_up-requires-clause-asks_nothing : goal.look_up-requires-clause-asks_nothing
look_up-requires-clause-asks_nothing g c = sym c.in_default-question_of.ensures

pub look_up-requires-clause-unclaimed : goal.look_up-requires-clause-unclaimed
look_up-requires-clause-unclaimed g c = sym c.in_default-claim_of.ensures

pub look_up-requires-clause-unloading : goal.look_up-requires-clause-unloading
look_up-requires-clause-unloading g c = sym c.in_default-loading_of.ensures

pub returns-clause-effect : goal.returns-clause-effect
returns-clause-effect g c = c.look_up.ensures.effect

pub returns-clause-event : goal.returns-clause-event
returns-clause-event g c = c.look_up.ensures.event

pub returns-clause-within : goal.returns-clause-within
returns-clause-within g c = if-all c.look_up.result (c.in-Some.ensures.session, c.in-Some.ensures.context)

pub returns-clause-unchanged : goal.returns-clause-unchanged
returns-clause-unchanged g c = c.look_up.ensures.unchanged

pub returns-clause-moment : goal.returns-clause-moment
returns-clause-moment g c = c.look_up.ensures.moment
