use Rattle.std.proofs.Common.{◌<◌, Some, refl, sym, ap, ◌∙◌}
use Rattle.std.specs.Prelude.{IfSome}
use Rattle.std.proofs.Common.{subst}
use Rattle.fkv_partition.specs.Reading.{LoadsOn}
use Rattle.fkv_partition.specs.Views.{at_stage}
use Rattle.fkv_partition.specs.declared.relocations.Stage.TheVariants.{Fresh}
use Rattle.fkv_partition.proofs.ApartLemmas.{err-ok, next-done, ok-all, no-later, has-come}
use Rattle.fkv_partition.proofs.MoveLemmas.{is-set, keyless-here}
use Rattle.fkv_partition.proofs.ReadLemmas.{awaits-none, awaits-some, awaits-page}
use Rattle.fkv_partition.proofs.DamageLemmas.{answer-not, unknown-not, not_ready-not}
use Rattle.fkv_partition.proofs.partitions.Partition.resume_load_own.Goals as goal

pub returns-in_default-awaited-clause-effect : goal.returns-in_default-awaited-clause-effect
returns-in_default-awaited-clause-effect g c =
    let v = c.args.self.now in
    let x = c.in-Some.relocation in
    let here = sym c.in-Some.ensures.value in
    LoadsOn.not_ready x here (awaits-none v c.args.slot c.args.context x c.in_default-awaited.ensures) refl refl

pub returns-then-begin-begins-clause-effect : goal.returns-then-begin-begins-clause-effect
returns-then-begin-begins-clause-effect g c =
    let v = c.args.self.now in
    let x = c.in-Some.relocation in
    let here = sym c.in-Some.ensures.value in
    let wanted = c.in-Some-awaited._wanted in
    let told = sym c.in-Some-awaited.is ∙ c.awaited.ensures in
    let begins = c.begin-begins.ensures ∙ ap (λ r. r.log.begin) c.records.ensures in
    LoadsOn.moved x (record { begin = c.in-Some-awaited.begin; wanted = wanted }) here (awaits-some v c.args.slot c.args.context x c.in-Some-awaited.begin wanted told) (λ e. c.if-begin-begins.true (e ∙ sym begins)) c.set_stage.ensures refl

pub returns-then-begin-begins-clause-event : goal.returns-then-begin-begins-clause-event
returns-then-begin-begins-clause-event g c =
    is-set g.R.Receipt.keeps g.F.Key.Ord.cmp c.args.self.now c.args.slot c.args.context c.args.now c.in-Some.ensures.context (keyless-here c.args.self.now c.args.slot c.args.context c.in-Some.relocation (sym c.in-Some.ensures.value)) (Some (at_stage c.in-Some.relocation Fresh)) c.set_stage.ensures

pub returns-in_default-clause-effect : goal.returns-in_default-clause-effect
returns-in_default-clause-effect g c = LoadsOn.unknown (sym c.in_default.ensures.value) refl refl

pub returns-in_default-clause-cleared : goal.returns-in_default-clause-cleared
returns-in_default-clause-cleared g c = err-ok

pub returns-in_default-clause-moment : goal.returns-in_default-clause-moment
returns-in_default-clause-moment g c = no-later c.requires.later

pub returns-in_default-awaited-clause-cleared : goal.returns-in_default-awaited-clause-cleared
returns-in_default-awaited-clause-cleared g c = err-ok

pub returns-in_default-awaited-clause-moment : goal.returns-in_default-awaited-clause-moment
returns-in_default-awaited-clause-moment g c = no-later c.requires.later

pub returns-then-begin-begins-clause-cleared : goal.returns-then-begin-begins-clause-cleared
returns-then-begin-begins-clause-cleared g c = next-done

pub returns-then-begin-begins-clause-moment : goal.returns-then-begin-begins-clause-moment
returns-then-begin-begins-clause-moment g c = has-come c.set_stage.ensures refl

pub set_stage-requires-clause-session : goal.set_stage-requires-clause-session
set_stage-requires-clause-session g c = c.in-Some.ensures.session

pub set_stage-requires-clause-context : goal.set_stage-requires-clause-context
set_stage-requires-clause-context g c = c.in-Some.ensures.context

pub set_stage-requires-clause-here : goal.set_stage-requires-clause-here
set_stage-requires-clause-here g c = sym c.in-Some.ensures.value

pub returns-then-begin-begins-clause-within : goal.returns-then-begin-begins-clause-within
returns-then-begin-begins-clause-within g c = (c.in-Some.ensures.session, c.in-Some.ensures.context)

pub read_on-requires-clause-has : goal.read_on-requires-clause-has
read_on-requires-clause-has g c =
    let v = c.args.self.now in
    let x = c.in-Some.relocation in
    let here = sym c.in-Some.ensures.value in
    let wanted = c.in-Some-awaited._wanted in
    let told = sym c.in-Some-awaited.is ∙ c.awaited.ensures in
    let begins = c.begin-begins.ensures ∙ ap (λ r. r.log.begin) c.records.ensures in
    let a = awaits-page v c.args.slot c.args.context x c.in-Some-awaited.begin wanted here told (c.if-begin-begins.false ∙ begins) in
    (wanted, record { awaits = a; own = c.requires.own _ (record { relocation = x; wanted = wanted; awaits = a; page_is = refl }) })

pub read_on-requires-clause-later : goal.read_on-requires-clause-later
read_on-requires-clause-later g c = c.requires.later

pub read_on-requires-clause-session : goal.read_on-requires-clause-session
read_on-requires-clause-session g c = c.in-Some.ensures.session

pub read_on-requires-clause-context : goal.read_on-requires-clause-context
read_on-requires-clause-context g c = c.in-Some.ensures.context

pub returns-clause-effect : goal.returns-clause-effect
returns-clause-effect g c = c.read_on.ensures.effect

pub returns-clause-event : goal.returns-clause-event
returns-clause-event g c = c.read_on.ensures.event

pub returns-clause-cleared : goal.returns-clause-cleared
returns-clause-cleared g c = λ is. subst (λ o. IfSome o (λ x. x.target < c.read_on.new.self.cleared)) c.in-Some.ensures.value (c.read_on.ensures.cleared is)

pub returns-clause-within : goal.returns-clause-within
returns-clause-within g c = ok-all c.read_on.result (c.in-Some.ensures.session, c.in-Some.ensures.context)

pub returns-clause-moment : goal.returns-clause-moment
returns-clause-moment g c = c.read_on.ensures.moment

pub returns-in_default-clause-undamaged : goal.returns-in_default-clause-undamaged
returns-in_default-clause-undamaged g c = λ yes_keeps page is. unknown-not is

pub returns-in_default-awaited-clause-undamaged : goal.returns-in_default-awaited-clause-undamaged
returns-in_default-awaited-clause-undamaged g c = λ yes_keeps page is. not_ready-not is

pub returns-then-begin-begins-clause-undamaged : goal.returns-then-begin-begins-clause-undamaged
returns-then-begin-begins-clause-undamaged g c = λ yes_keeps page is. answer-not is

pub returns-clause-undamaged : goal.returns-clause-undamaged
returns-clause-undamaged g c = c.read_on.ensures.undamaged
