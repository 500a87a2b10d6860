use Rattle.std.proofs.Common.{◌<◌, ◌≤◌, inl, inr, None, refl, sym, ap, subst, arith}
use Rattle.std.specs.Prelude.{IfSome}
use Rattle.fkv_partition.specs.Stages.{StageStands}
use Rattle.fkv_partition.specs.Sound.{IsCompacting}
use Rattle.fkv_partition.specs.Going.{awaited_by, GoesOn}
use Rattle.fkv_partition.proofs.ApartLemmas.{err-ok, ok-all, no-later, has-come}
use Rattle.fkv_partition.proofs.MoveLemmas.{is-set, stands-here, keyless-here}
use Rattle.fkv_partition.proofs.partitions.Partition.go_on.Goals as goal

pub append_again-requires-clause-stands : goal.append_again-requires-clause-stands
append_again-requires-clause-stands g c =
    let v = c.args.self.now in
    let x = c.in-Some.relocation in
    let here = sym c.in-Some.ensures.value in
    let sound = subst (λ u. IsCompacting g.R.Receipt.keeps g.F.Key.Ord.cmp g.F.Mergeable.parts.joined g.F.Functions.code u) c.self.view_is c.self.invariant.compacting in
    subst (λ s. StageStands g.R.Receipt.keeps g.F.Key.Ord.cmp g.F.Mergeable.parts.joined g.F.Functions.code v x.target s) c.in-Ready.is (stands-here v c.args.slot c.args.context x here sound).stage

pub returns-then-relocation-self-clause-effect : goal.returns-then-relocation-self-clause-effect
returns-then-relocation-self-clause-effect g c =
    let v = c.args.self.now in
    let x = c.in-Some.relocation in
    let here = sym c.in-Some.ensures.value in
    let low = subst (λ u. x.target < u.cleared) c.self.view_is c.if-relocation-self.true in
    GoesOn.passed x here c.in-Fresh.is low c.end.ensures refl

pub returns-then-relocation-self-clause-event : goal.returns-then-relocation-self-clause-event
returns-then-relocation-self-clause-event g c =
    let v = c.args.self.now in
    is-set g.R.Receipt.keeps g.F.Key.Ord.cmp v c.args.slot c.args.context c.args.now c.in-Some.ensures.context (keyless-here v c.args.slot c.args.context c.in-Some.relocation (sym c.in-Some.ensures.value)) None c.end.ensures

pub look-requires-clause-uncleared : goal.look-requires-clause-uncleared
look-requires-clause-uncleared g c =
    let v = c.args.self.now in
    let x = c.in-Some.relocation in
    let here = sym c.in-Some.ensures.value in
    let sound = subst (λ u. IsCompacting g.R.Receipt.keeps g.F.Key.Ord.cmp g.F.Mergeable.parts.joined g.F.Functions.code u) c.self.view_is c.self.invariant.compacting in
    let high = subst (λ u. u.cleared ≤ x.target) c.self.view_is c.if-relocation-self.false in
    let issued = (stands-here v c.args.slot c.args.context x here sound).issued in
    omega arith

pub returns-in-Reading-clause-effect : goal.returns-in-Reading-clause-effect
returns-in-Reading-clause-effect g c =
    let x = c.in-Some.relocation in
    let here = sym c.in-Some.ensures.value in
    elim c.in-Reading.is [
      | inl r ↦ GoesOn.not_ready x (record { begin = r.0; wanted = x.target }) here (ap (awaited_by x.target) r.1) refl refl
      | inr t ↦ GoesOn.not_ready x (record { begin = t.1.begin; wanted = t.1.wanted }) here (ap (awaited_by x.target) t.2) refl refl
    ]

pub returns-in-Ready-clause-effect : goal.returns-in-Ready-clause-effect
returns-in-Ready-clause-effect g c =
    let v = c.args.self.now in
    let x = c.in-Some.relocation in
    let here = sym c.in-Some.ensures.value in
    GoesOn.again x c.in-Ready.entry c.in-Ready.kept here c.in-Ready.is c.append_again.ensures.effect

pub returns-in_default-clause-effect : goal.returns-in_default-clause-effect
returns-in_default-clause-effect g c = GoesOn.unknown (sym c.in_default.ensures.value) refl refl

pub returns-in_default-clause-cleared : goal.returns-in_default-clause-cleared
returns-in_default-clause-cleared g c = err-ok

pub returns-in_default-clause-moment : goal.returns-in_default-clause-moment
returns-in_default-clause-moment g c = no-later c.requires.later

pub returns-then-relocation-self-clause-cleared : goal.returns-then-relocation-self-clause-cleared
returns-then-relocation-self-clause-cleared g c =
    let low = subst (λ u. c.in-Some.relocation.target < u.cleared) c.self.view_is c.if-relocation-self.true in
    λ is. subst (λ o. IfSome o (λ x. x.target < c.end.new.self.cleared)) c.in-Some.ensures.value (subst (λ u. c.in-Some.relocation.target < u.cleared) (sym c.end.ensures) low)

pub returns-then-relocation-self-clause-moment : goal.returns-then-relocation-self-clause-moment
returns-then-relocation-self-clause-moment g c = has-come c.end.ensures refl

pub returns-in-Reading-clause-cleared : goal.returns-in-Reading-clause-cleared
returns-in-Reading-clause-cleared g c = err-ok

pub returns-in-Reading-clause-moment : goal.returns-in-Reading-clause-moment
returns-in-Reading-clause-moment g c = no-later c.requires.later

pub returns-in-Ready-clause-cleared : goal.returns-in-Ready-clause-cleared
returns-in-Ready-clause-cleared g c = λ is. subst (λ o. IfSome o (λ x. x.target < c.append_again.new.self.cleared)) c.in-Some.ensures.value (c.append_again.ensures.cleared is)

pub returns-in-Ready-clause-within : goal.returns-in-Ready-clause-within
returns-in-Ready-clause-within g c = ok-all c.append_again.result (c.in-Some.ensures.session, c.in-Some.ensures.context)

pub returns-else-relocation-self-clause-cleared : goal.returns-else-relocation-self-clause-cleared
returns-else-relocation-self-clause-cleared g c = λ is. subst (λ o. IfSome o (λ x. x.target < c.look.new.self.cleared)) c.in-Some.ensures.value (c.look.ensures.cleared is)

pub returns-else-relocation-self-clause-within : goal.returns-else-relocation-self-clause-within
returns-else-relocation-self-clause-within g c = ok-all c.look.result (c.in-Some.ensures.session, c.in-Some.ensures.context)

pub append_again-requires-clause-later : goal.append_again-requires-clause-later
append_again-requires-clause-later g c = c.requires.later

pub append_again-requires-clause-session : goal.append_again-requires-clause-session
append_again-requires-clause-session g c = c.in-Some.ensures.session

pub append_again-requires-clause-context : goal.append_again-requires-clause-context
append_again-requires-clause-context g c = c.in-Some.ensures.context

pub append_again-requires-clause-here : goal.append_again-requires-clause-here
append_again-requires-clause-here g c = sym c.in-Some.ensures.value

pub end-requires-clause-session : goal.end-requires-clause-session
end-requires-clause-session g c = c.in-Some.ensures.session

pub end-requires-clause-context : goal.end-requires-clause-context
end-requires-clause-context g c = c.in-Some.ensures.context

pub look-requires-clause-later : goal.look-requires-clause-later
look-requires-clause-later g c = c.requires.later

pub look-requires-clause-session : goal.look-requires-clause-session
look-requires-clause-session g c = c.in-Some.ensures.session

pub look-requires-clause-context : goal.look-requires-clause-context
look-requires-clause-context g c = c.in-Some.ensures.context

pub look-requires-clause-here : goal.look-requires-clause-here
look-requires-clause-here g c = sym c.in-Some.ensures.value

pub look-requires-clause-fresh : goal.look-requires-clause-fresh
look-requires-clause-fresh g c = c.in-Fresh.is

pub returns-in-Ready-clause-event : goal.returns-in-Ready-clause-event
returns-in-Ready-clause-event g c = c.append_again.ensures.event

pub returns-in-Ready-clause-unchanged : goal.returns-in-Ready-clause-unchanged
returns-in-Ready-clause-unchanged g c = c.append_again.ensures.unchanged

pub returns-in-Ready-clause-moment : goal.returns-in-Ready-clause-moment
returns-in-Ready-clause-moment g c = c.append_again.ensures.moment

pub returns-else-relocation-self-clause-effect : goal.returns-else-relocation-self-clause-effect
returns-else-relocation-self-clause-effect g c = c.look.ensures.effect

pub returns-else-relocation-self-clause-event : goal.returns-else-relocation-self-clause-event
returns-else-relocation-self-clause-event g c = c.look.ensures.event

pub returns-else-relocation-self-clause-unchanged : goal.returns-else-relocation-self-clause-unchanged
returns-else-relocation-self-clause-unchanged g c = c.look.ensures.unchanged

pub returns-else-relocation-self-clause-moment : goal.returns-else-relocation-self-clause-moment
returns-else-relocation-self-clause-moment g c = c.look.ensures.moment

pub returns-in_default-clause-unchanged : goal.returns-in_default-clause-unchanged
returns-in_default-clause-unchanged g c = refl

pub returns-in-Reading-clause-unchanged : goal.returns-in-Reading-clause-unchanged
returns-in-Reading-clause-unchanged g c = refl

pub returns-then-relocation-self-clause-within : goal.returns-then-relocation-self-clause-within
returns-then-relocation-self-clause-within g c = (c.in-Some.ensures.session, c.in-Some.ensures.context)
