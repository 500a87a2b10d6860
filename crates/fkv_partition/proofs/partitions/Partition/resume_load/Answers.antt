use Rattle.std.proofs.Common.{◌<◌, Some, Err, refl, sym, ap, subst, ◌∙◌}
use Rattle.std.proofs.lemmas.Bool.{false≢true}
use Rattle.std.specs.Prelude.{IfSome}
use Rattle.fkv_hybrid.specs.Spelled.{IsEntryIn}
use Rattle.fkv_partition.specs.Reading.{LoadsOn}
use Rattle.fkv_partition.specs.Views.{at_stage}
use Rattle.fkv_partition.specs.declared.relocations.Stage.TheVariants.{Fresh}
use Rattle.fkv_partition.proofs.ApartLemmas.{err-ok, next-done, ok-all, no-later, has-come, err-as}
use Rattle.fkv_partition.proofs.MoveLemmas.{is-set, keyless-here}
use Rattle.fkv_partition.proofs.ReadLemmas.{awaits-none, awaits-some, awaits-page}
use Rattle.fkv_partition.proofs.DamageLemmas.{answer-not, unknown-not, not_ready-not}
use Rattle.fkv_partition.proofs.partitions.Partition.resume_load.Goals as goal

pub returns-in_default-awaited-clause-effect : goal.returns-in_default-awaited-clause-effect
returns-in_default-awaited-clause-effect g c =
    let v = c.args.self.now in
    let x = c.in-Some.relocation in
    let here = sym c.in-Some.ensures.value in
    LoadsOn.not_ready x here (awaits-none v c.args.slot c.args.context x c.in_default-awaited.ensures) refl refl

pub returns-then-begin-clause-effect : goal.returns-then-begin-clause-effect
returns-then-begin-clause-effect g c =
    let v = c.args.self.now in
    let x = c.in-Some.relocation in
    let here = sym c.in-Some.ensures.value in
    let wanted = c.in-Some-awaited.wanted in
    let told = sym c.in-Some-awaited.is ∙ c.awaited.ensures in
    let begins = c.begin.ensures ∙ ap (λ r. r.log.begin) c.records.ensures in
    LoadsOn.moved x (record { begin = c.in-Some-awaited.begin; wanted = wanted }) here (awaits-some v c.args.slot c.args.context x c.in-Some-awaited.begin wanted told) (λ e. c.if-begin.true (e ∙ sym begins)) c.set_stage.ensures refl

pub returns-then-begin-clause-event : goal.returns-then-begin-clause-event
returns-then-begin-clause-event g c =
    is-set g.R.Receipt.keeps g.F.Key.Ord.cmp c.args.self.now c.args.slot c.args.context c.args.now c.in-Some.ensures.context (keyless-here c.args.self.now c.args.slot c.args.context c.in-Some.relocation (sym c.in-Some.ensures.value)) (Some (at_stage c.in-Some.relocation Fresh)) c.set_stage.ensures

pub returns-then-is_no_memory-clause-effect : goal.returns-then-is_no_memory-clause-effect
returns-then-is_no_memory-clause-effect g c =
    let v = c.args.self.now in
    let x = c.in-Some.relocation in
    let here = sym c.in-Some.ensures.value in
    let wanted = c.in-Some-awaited.wanted in
    let told = sym c.in-Some-awaited.is ∙ c.awaited.ensures in
    let begins = c.begin.ensures ∙ ap (λ r. r.log.begin) c.records.ensures in
    let a = awaits-page v c.args.slot c.args.context x c.in-Some-awaited.begin wanted here told (c.if-begin.false ∙ begins) in
    let is = c.is_no_memory.ensures.0 c.if-is_no_memory.true in
    LoadsOn.unread x wanted a (c.in-Err.is ∙ ap Err is) refl (ap Err is)

pub receive_place-requires-clause-awaits : goal.receive_place-requires-clause-awaits
receive_place-requires-clause-awaits g c =
    let v = c.args.self.now in
    let x = c.in-Some.relocation in
    let here = sym c.in-Some.ensures.value in
    let wanted = c.in-Some-awaited.wanted in
    let told = sym c.in-Some-awaited.is ∙ c.awaited.ensures in
    let begins = c.begin.ensures ∙ ap (λ r. r.log.begin) c.records.ensures in
    let a = awaits-page v c.args.slot c.args.context x c.in-Some-awaited.begin wanted here told (c.if-begin.false ∙ begins) in
    a

pub returns-else-is_no_memory-clause-effect : goal.returns-else-is_no_memory-clause-effect
returns-else-is_no_memory-clause-effect g c =
    let v = c.args.self.now in
    let x = c.in-Some.relocation in
    let here = sym c.in-Some.ensures.value in
    let wanted = c.in-Some-awaited.wanted in
    let told = sym c.in-Some-awaited.is ∙ c.awaited.ensures in
    let begins = c.begin.ensures ∙ ap (λ r. r.log.begin) c.records.ensures in
    let a = awaits-page v c.args.slot c.args.context x c.in-Some-awaited.begin wanted here told (c.if-begin.false ∙ begins) in
    LoadsOn.failed x wanted c.in-Err.refused a c.in-Err.is (λ e. false≢true (sym c.if-is_no_memory.false ∙ c.is_no_memory.ensures.1 e)) c.end.ensures refl

pub returns-in-Ok-clause-effect : goal.returns-in-Ok-clause-effect
returns-in-Ok-clause-effect g c = subst (λ r. LoadsOn g.R.Receipt.stands (IsEntryIn g.F.Key.Fixed.codec g.F.Value.Fixed.codec) g.F.Key.Ord.cmp g.F.Mergeable.parts.joined g.F.Functions.code c.args.self.now c.receive_place.new.self c.args.slot c.args.context r c.args.now c.receive_place.result) (sym c.in-Ok.is) c.receive_place.ensures.effect

pub returns-in_default-clause-effect : goal.returns-in_default-clause-effect
returns-in_default-clause-effect g c = LoadsOn.unknown (sym c.in_default.ensures.value) refl refl

pub returns-in_default-clause-cleared : goal.returns-in_default-clause-cleared
returns-in_default-clause-cleared g c = err-ok

pub returns-in_default-clause-moment : goal.returns-in_default-clause-moment
returns-in_default-clause-moment g c = no-later c.requires.later

pub returns-in_default-awaited-clause-cleared : goal.returns-in_default-awaited-clause-cleared
returns-in_default-awaited-clause-cleared g c = err-ok

pub returns-in_default-awaited-clause-moment : goal.returns-in_default-awaited-clause-moment
returns-in_default-awaited-clause-moment g c = no-later c.requires.later

pub returns-then-begin-clause-cleared : goal.returns-then-begin-clause-cleared
returns-then-begin-clause-cleared g c = next-done

pub returns-then-begin-clause-moment : goal.returns-then-begin-clause-moment
returns-then-begin-clause-moment g c = has-come c.set_stage.ensures refl

pub returns-then-is_no_memory-clause-cleared : goal.returns-then-is_no_memory-clause-cleared
returns-then-is_no_memory-clause-cleared g c = err-ok

pub returns-then-is_no_memory-clause-moment : goal.returns-then-is_no_memory-clause-moment
returns-then-is_no_memory-clause-moment g c = no-later c.requires.later

pub returns-else-is_no_memory-clause-cleared : goal.returns-else-is_no_memory-clause-cleared
returns-else-is_no_memory-clause-cleared g c = err-ok

pub returns-else-is_no_memory-clause-moment : goal.returns-else-is_no_memory-clause-moment
returns-else-is_no_memory-clause-moment g c = has-come c.end.ensures refl

pub returns-in-Ok-clause-cleared : goal.returns-in-Ok-clause-cleared
returns-in-Ok-clause-cleared g c = λ is. subst (λ o. IfSome o (λ x. x.target < c.receive_place.new.self.cleared)) c.in-Some.ensures.value (c.receive_place.ensures.cleared is)

pub returns-in-Ok-clause-within : goal.returns-in-Ok-clause-within
returns-in-Ok-clause-within g c = ok-all c.receive_place.result (c.in-Some.ensures.session, c.in-Some.ensures.context)

pub set_stage-requires-clause-session : goal.set_stage-requires-clause-session
set_stage-requires-clause-session g c = c.in-Some.ensures.session

pub set_stage-requires-clause-context : goal.set_stage-requires-clause-context
set_stage-requires-clause-context g c = c.in-Some.ensures.context

pub set_stage-requires-clause-here : goal.set_stage-requires-clause-here
set_stage-requires-clause-here g c = sym c.in-Some.ensures.value

pub end-requires-clause-session : goal.end-requires-clause-session
end-requires-clause-session g c = c.in-Some.ensures.session

pub end-requires-clause-context : goal.end-requires-clause-context
end-requires-clause-context g c = c.in-Some.ensures.context

pub receive_place-requires-clause-later : goal.receive_place-requires-clause-later
receive_place-requires-clause-later g c = c.requires.later

pub receive_place-requires-clause-session : goal.receive_place-requires-clause-session
receive_place-requires-clause-session g c = c.in-Some.ensures.session

pub receive_place-requires-clause-context : goal.receive_place-requires-clause-context
receive_place-requires-clause-context g c = c.in-Some.ensures.context

pub returns-in-Ok-clause-event : goal.returns-in-Ok-clause-event
returns-in-Ok-clause-event g c = c.receive_place.ensures.event

pub returns-in-Ok-clause-moment : goal.returns-in-Ok-clause-moment
returns-in-Ok-clause-moment g c = c.receive_place.ensures.moment

pub returns-then-begin-clause-within : goal.returns-then-begin-clause-within
returns-then-begin-clause-within g c = (c.in-Some.ensures.session, c.in-Some.ensures.context)

pub returns-in_default-clause-undamaged : goal.returns-in_default-clause-undamaged
returns-in_default-clause-undamaged g c = λ yes_keeps page is. unknown-not is

pub returns-in_default-awaited-clause-undamaged : goal.returns-in_default-awaited-clause-undamaged
returns-in_default-awaited-clause-undamaged g c = λ yes_keeps page is. not_ready-not is

pub returns-then-begin-clause-undamaged : goal.returns-then-begin-clause-undamaged
returns-then-begin-clause-undamaged g c = λ yes_keeps page is. answer-not is

pub returns-then-is_no_memory-clause-undamaged : goal.returns-then-is_no_memory-clause-undamaged
returns-then-is_no_memory-clause-undamaged g c = λ yes_keeps page is. c.in-Err.is ∙ err-as is

pub returns-else-is_no_memory-clause-undamaged : goal.returns-else-is_no_memory-clause-undamaged
returns-else-is_no_memory-clause-undamaged g c = λ yes_keeps page is. c.in-Err.is ∙ err-as is

pub returns-in-Ok-clause-undamaged : goal.returns-in-Ok-clause-undamaged
returns-in-Ok-clause-undamaged g c = λ yes_keeps page is. absurd (c.receive_place.ensures.undamaged yes_keeps page is)
