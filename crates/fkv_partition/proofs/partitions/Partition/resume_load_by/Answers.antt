use Rattle.std.proofs.Common.{◌≢◌, ◌<◌, Some, refl, sym, ap, subst, ◌∙◌}
use Rattle.std.specs.Prelude.{IfSome}
use Rattle.fkv_functions.proofs.KeyOrder.{key_order}
use Rattle.fkv_records.specs.Places.{page_at}
use Rattle.fkv_hybrid.specs.Loads.{IsHeldBy}
use Rattle.fkv_partition.specs.KeyLoading.{idle, came, failed}
use Rattle.fkv_partition.proofs.LoadLemmas.{counted-why}
use Rattle.fkv_partition.specs.Reading.{LoadsOn}
use Rattle.fkv_partition.specs.Views.{at_stage}
use Rattle.fkv_partition.specs.declared.relocations.Stage.TheVariants.{Fresh}
use Rattle.fkv_partition.proofs.ApartLemmas.{err-ok, next-done, ok-all, no-later, has-come}
use Rattle.fkv_partition.proofs.MoveLemmas.{is-set, keyless-here}
use Rattle.fkv_partition.proofs.ReadLemmas.{awaits-none, awaits-some, awaits-page, waits-none-on, waits-not-on, waits-moved-on}
use Rattle.fkv_partition.proofs.TraceLemmas.{awaited-flushed}
use Rattle.fkv_partition.proofs.DamageLemmas.{answer-not, unknown-not, not_ready-not, counted-damage}
use Rattle.fkv_partition.proofs.partitions.Partition.resume_load_by.Goals as goal

pub returns-in_default-clause-effect : goal.returns-in_default-clause-effect
returns-in_default-clause-effect g c =
    let none = sym c.in_default.ensures.value in
    idle (waits-none-on c.args.self.now c.args.slot c.args.context none) (λ handed. LoadsOn.unknown none refl refl) refl

pub returns-in_default-awaited-clause-effect : goal.returns-in_default-awaited-clause-effect
returns-in_default-awaited-clause-effect g c =
    let v = c.args.self.now in
    let x = c.in-Some.relocation in
    let here = sym c.in-Some.ensures.value in
    let none = awaits-none v c.args.slot c.args.context x c.in_default-awaited.ensures in
    idle (waits-not-on v c.args.slot c.args.context x here none) (λ handed. LoadsOn.not_ready x here none refl refl) refl

pub returns-then-begin-begins-clause-effect : goal.returns-then-begin-begins-clause-effect
returns-then-begin-begins-clause-effect g c =
    let v = c.args.self.now in
    let x = c.in-Some.relocation in
    let here = sym c.in-Some.ensures.value in
    let wanted = c.in-Some-awaited.wanted in
    let told = sym c.in-Some-awaited.is ∙ c.awaited.ensures in
    let begins = c.begin-begins.ensures ∙ ap (λ r. r.log.begin) (c.records.ensures) in
    let waits = awaits-some v c.args.slot c.args.context x c.in-Some-awaited.begin wanted told in
    let other : c.in-Some-awaited.begin ≢ v.records.log.begin = λ e. c.if-begin-begins.true (e ∙ sym begins) in
    idle (waits-moved-on v c.args.slot c.args.context x c.in-Some-awaited.begin wanted here waits other)
    (λ handed. LoadsOn.moved x (record { begin = c.in-Some-awaited.begin; wanted = wanted }) here waits other c.set_stage.ensures refl) refl

pub returns-then-begin-begins-clause-event : goal.returns-then-begin-begins-clause-event
returns-then-begin-begins-clause-event g c =
    is-set g.R.Receipt.keeps g.F.Key.Ord.cmp c.args.self.now c.args.slot c.args.context c.args.now c.in-Some.ensures.context (keyless-here c.args.self.now c.args.slot c.args.context c.in-Some.relocation (sym c.in-Some.ensures.value)) (Some (at_stage c.in-Some.relocation Fresh)) c.set_stage.ensures

pub read-requires : goal.read-requires
read-requires g c =
    let ord = g.met.F.Key.Ord in
    let facts = g.met.F.Key.FixedKey in
    let order = key_order g.F.Key.PartialEq.eq g.F.Key.Ord.cmp ord.matches_eq facts.exact ord.total in
    let v = c.args.self.now in
    let x = c.in-Some.relocation in
    let here = sym c.in-Some.ensures.value in
    let wanted = c.in-Some-awaited.wanted in
    let told = sym c.in-Some-awaited.is ∙ c.awaited.ensures in
    let begins = c.begin-begins.ensures ∙ ap (λ r. r.log.begin) (c.records.ensures) in
    let a = awaits-page v c.args.slot c.args.context x c.in-Some-awaited.begin wanted here told (c.if-begin-begins.false ∙ begins) in
    let page = c.page_of-page.ensures ∙ ap (λ r. page_at r.log.bits wanted) (c.records-2.ensures) in
    let there = awaited-flushed g.F.Key.Ord.cmp g.F.Mergeable.parts.joined g.F.Functions.code order v c.facts.ensures.sound c.facts.ensures.compacting c.args.slot c.args.context x wanted a in
    record { flushed = (rw page there) }

pub read_on-requires-clause-has : goal.read_on-requires-clause-has
read_on-requires-clause-has g c =
    let v = c.args.self.now in
    let x = c.in-Some.relocation in
    let here = sym c.in-Some.ensures.value in
    let wanted = c.in-Some-awaited.wanted in
    let told = sym c.in-Some-awaited.is ∙ c.awaited.ensures in
    let begins = c.begin-begins.ensures ∙ ap (λ r. r.log.begin) (c.records.ensures) in
    let a = awaits-page v c.args.slot c.args.context x c.in-Some-awaited.begin wanted here told (c.if-begin-begins.false ∙ begins) in
    let page = c.page_of-page.ensures ∙ ap (λ r. page_at r.log.bits wanted) (c.records-2.ensures) in
    let st = g.R.Receipt.stands c.in-Ok.loaded.receipt in
    let own = subst (λ n. IsHeldBy v.records.log.receipts n st) page (c.in-Ok.ensures.own) in
    (wanted, record { awaits = a; own = own })

pub returns-in-Err-clause-effect : goal.returns-in-Err-clause-effect
returns-in-Err-clause-effect g c =
    let v = c.args.self.now in
    let x = c.in-Some.relocation in
    let here = sym c.in-Some.ensures.value in
    let wanted = c.in-Some-awaited.wanted in
    let told = sym c.in-Some-awaited.is ∙ c.awaited.ensures in
    let begins = c.begin-begins.ensures ∙ ap (λ r. r.log.begin) (c.records.ensures) in
    let a = awaits-page v c.args.slot c.args.context x c.in-Some-awaited.begin wanted here told (c.if-begin-begins.false ∙ begins) in
    let page = c.page_of-page.ensures ∙ ap (λ r. page_at r.log.bits wanted) (c.records-2.ensures) in
    failed c.page_of-page.result c.in-Err.refused (record { relocation = x; wanted = wanted; awaits = a; page_is = page }) c.in-Err.ensures.counted refl refl

pub returns-in-Ok-clause-effect : goal.returns-in-Ok-clause-effect
returns-in-Ok-clause-effect g c =
    let v = c.args.self.now in
    let x = c.in-Some.relocation in
    let here = sym c.in-Some.ensures.value in
    let wanted = c.in-Some-awaited.wanted in
    let told = sym c.in-Some-awaited.is ∙ c.awaited.ensures in
    let begins = c.begin-begins.ensures ∙ ap (λ r. r.log.begin) (c.records.ensures) in
    let a = awaits-page v c.args.slot c.args.context x c.in-Some-awaited.begin wanted here told (c.if-begin-begins.false ∙ begins) in
    let page = c.page_of-page.ensures ∙ ap (λ r. page_at r.log.bits wanted) (c.records-2.ensures) in
    let own = c.in-Ok.ensures.own in
    came c.page_of-page.result c.in-Ok.loaded (record { relocation = x; wanted = wanted; awaits = a; page_is = page }) own c.read_on.ensures.effect c.in-Ok.ensures.steady

pub returns-in-Err-clause-unread : goal.returns-in-Err-clause-unread
returns-in-Err-clause-unread g c = λ none.
    let v = c.args.self.now in
    let x = c.in-Some.relocation in
    let here = sym c.in-Some.ensures.value in
    let wanted = c.in-Some-awaited.wanted in
    let told = sym c.in-Some-awaited.is ∙ c.awaited.ensures in
    let begins = c.begin-begins.ensures ∙ ap (λ r. r.log.begin) (c.records.ensures) in
    let a = awaits-page v c.args.slot c.args.context x c.in-Some-awaited.begin wanted here told (c.if-begin-begins.false ∙ begins) in
    let page = c.page_of-page.ensures ∙ ap (λ r. page_at r.log.bits wanted) (c.records-2.ensures) in
    absurd (none c.page_of-page.result (record { relocation = x; wanted = wanted; awaits = a; page_is = page }))

pub returns-in-Ok-clause-unread : goal.returns-in-Ok-clause-unread
returns-in-Ok-clause-unread g c = λ none.
    let v = c.args.self.now in
    let x = c.in-Some.relocation in
    let here = sym c.in-Some.ensures.value in
    let wanted = c.in-Some-awaited.wanted in
    let told = sym c.in-Some-awaited.is ∙ c.awaited.ensures in
    let begins = c.begin-begins.ensures ∙ ap (λ r. r.log.begin) (c.records.ensures) in
    let a = awaits-page v c.args.slot c.args.context x c.in-Some-awaited.begin wanted here told (c.if-begin-begins.false ∙ begins) in
    let page = c.page_of-page.ensures ∙ ap (λ r. page_at r.log.bits wanted) (c.records-2.ensures) in
    absurd (none c.page_of-page.result (record { relocation = x; wanted = wanted; awaits = a; page_is = page }))

pub returns-in_default-clause-caused : goal.returns-in_default-clause-caused
returns-in_default-clause-caused g c = λ other. absurd (other refl)

pub returns-in_default-awaited-clause-caused : goal.returns-in_default-awaited-clause-caused
returns-in_default-awaited-clause-caused g c = λ other. absurd (other refl)

pub returns-then-begin-begins-clause-caused : goal.returns-then-begin-begins-clause-caused
returns-then-begin-begins-clause-caused g c = λ other. absurd (other refl)

pub returns-in-Err-clause-caused : goal.returns-in-Err-clause-caused
returns-in-Err-clause-caused g c = λ other. (
  c.page_of-page.result,
  (c.in-Err.ensures.caused (counted-why c.in-Err.refused c.in-Err.ensures.counted other)),
)

pub returns-in-Ok-clause-caused : goal.returns-in-Ok-clause-caused
returns-in-Ok-clause-caused g c = λ other. absurd (other c.in-Ok.ensures.steady)

pub returns-in_default-clause-cleared : goal.returns-in_default-clause-cleared
returns-in_default-clause-cleared g c = err-ok

pub returns-in_default-clause-moment : goal.returns-in_default-clause-moment
returns-in_default-clause-moment g c = no-later c.requires.later

pub returns-in_default-awaited-clause-cleared : goal.returns-in_default-awaited-clause-cleared
returns-in_default-awaited-clause-cleared g c = err-ok

pub returns-in_default-awaited-clause-moment : goal.returns-in_default-awaited-clause-moment
returns-in_default-awaited-clause-moment g c = no-later c.requires.later

pub returns-then-begin-begins-clause-cleared : goal.returns-then-begin-begins-clause-cleared
returns-then-begin-begins-clause-cleared g c = next-done

pub returns-then-begin-begins-clause-moment : goal.returns-then-begin-begins-clause-moment
returns-then-begin-begins-clause-moment g c = has-come c.set_stage.ensures refl

pub returns-in-Ok-clause-cleared : goal.returns-in-Ok-clause-cleared
returns-in-Ok-clause-cleared g c = λ is. subst (λ o. IfSome o (λ x. x.target < c.read_on.new.self.cleared)) c.in-Some.ensures.value (c.read_on.ensures.cleared is)

pub returns-in-Ok-clause-within : goal.returns-in-Ok-clause-within
returns-in-Ok-clause-within g c = ok-all c.read_on.result (c.in-Some.ensures.session, c.in-Some.ensures.context)

pub set_stage-requires-clause-session : goal.set_stage-requires-clause-session
set_stage-requires-clause-session g c = c.in-Some.ensures.session

pub set_stage-requires-clause-context : goal.set_stage-requires-clause-context
set_stage-requires-clause-context g c = c.in-Some.ensures.context

pub set_stage-requires-clause-here : goal.set_stage-requires-clause-here
set_stage-requires-clause-here g c = sym c.in-Some.ensures.value

pub read_on-requires-clause-later : goal.read_on-requires-clause-later
read_on-requires-clause-later g c = c.requires.later

pub read_on-requires-clause-session : goal.read_on-requires-clause-session
read_on-requires-clause-session g c = c.in-Some.ensures.session

pub read_on-requires-clause-context : goal.read_on-requires-clause-context
read_on-requires-clause-context g c = c.in-Some.ensures.context

pub returns-in-Ok-clause-event : goal.returns-in-Ok-clause-event
returns-in-Ok-clause-event g c = c.read_on.ensures.event

pub returns-in-Ok-clause-moment : goal.returns-in-Ok-clause-moment
returns-in-Ok-clause-moment g c = c.read_on.ensures.moment

pub returns-then-begin-begins-clause-within : goal.returns-then-begin-begins-clause-within
returns-then-begin-begins-clause-within g c = (c.in-Some.ensures.session, c.in-Some.ensures.context)

pub returns-in-Err-clause-cleared : goal.returns-in-Err-clause-cleared
returns-in-Err-clause-cleared g c = err-ok

pub returns-in-Err-clause-moment : goal.returns-in-Err-clause-moment
returns-in-Err-clause-moment g c = no-later c.requires.later

pub returns-in_default-clause-undamaged : goal.returns-in_default-clause-undamaged
returns-in_default-clause-undamaged g c = λ yes_keeps page is. unknown-not is

pub returns-in_default-awaited-clause-undamaged : goal.returns-in_default-awaited-clause-undamaged
returns-in_default-awaited-clause-undamaged g c = λ yes_keeps page is. not_ready-not is

pub returns-then-begin-begins-clause-undamaged : goal.returns-then-begin-begins-clause-undamaged
returns-then-begin-begins-clause-undamaged g c = λ yes_keeps page is. answer-not is

pub returns-in-Err-clause-undamaged : goal.returns-in-Err-clause-undamaged
returns-in-Err-clause-undamaged g c = λ yes_keeps page is. counted-damage c.in-Err.ensures.counted is

pub returns-in-Ok-clause-undamaged : goal.returns-in-Ok-clause-undamaged
returns-in-Ok-clause-undamaged g c = λ yes_keeps page is. absurd (c.read_on.ensures.undamaged yes_keeps page is)
