use Rattle.std.proofs.Common.{◌≡◌, ◌-◌, zero, suc, Some, None, Err, refl, sym, arith}
use Rattle.fkv_functions.specs.declared.refusals.Refused.TheVariants.{Stalled}
use Rattle.fkv_worlds.specs.Reports.{unkept, stalls, ends, goes_on}
use Rattle.fkv_worlds.proofs.worlds.World.follow.Goals as goal

pub loop-init : goal.loop-init
loop-init g c = λ n new result all p. (let whole : n ≡ 10000 = omega arith in rw (← whole, ← c.first-step.ensures) p)

pub loop-preserved : goal.loop-preserved
loop-preserved g c = λ n new result all p. c.loop.invariant (suc n) new result (omega arith)
    (goes_on n c.loop.step c.in-Some-following.next c.loop.self c.try_step.new.self c.in-Some.told c.in-Some.ensures.kept (sym c.in-Some-following.ensures) p)

pub returns-in_default : goal.returns-in_default
returns-in_default g c =
    let within = c.loop-test.true in
    c.loop.invariant (suc (10000 - suc c.loop.counter)) c.try_step.new.self None (omega arith)
    (unkept (10000 - suc c.loop.counter) c.loop.step c.loop.self c.in_default.ensures.none refl)

pub returns-in_default-following : goal.returns-in_default-following
returns-in_default-following g c =
    let within = c.loop-test.true in
    c.loop.invariant (suc (10000 - suc c.loop.counter)) c.try_step.new.self (Some c.in-Some.told) (omega arith)
    (ends (10000 - suc c.loop.counter) c.loop.step c.loop.self c.in-Some.told c.in-Some.ensures.kept (sym c.in_default-following.ensures) refl)

pub returns : goal.returns
returns g c =
    let past = c.loop-test.false in
    let end = c.loop.auto in
    c.loop.invariant zero c.loop.self (Some (Err Stalled)) (omega arith) (stalls c.loop.step c.loop.self refl refl)
