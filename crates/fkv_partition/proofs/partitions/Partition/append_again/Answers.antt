use Rattle.std.proofs.Common.{◌≡◌, ◌<◌, Some, Ok, Err, refl, sym, ap, subst, ◌∙◌}
use Rattle.std.proofs.lemmas.Bool.{false≢true}
use Rattle.fkv_functions.proofs.KeyOrder.{key_order}
use Rattle.fkv_index.specs.Places.{word_at}
use Rattle.fkv_lookups.specs.Traced.{IsTraced, IsResolved}
use Rattle.fkv_partition.specs.declared.relocations.Stage.TheVariants.{Fresh, Ready}
use Rattle.fkv_partition.specs.Views.{PartitionView, with_appended, relocation_at, at_stage, with_relocation, cleared_past}
use Rattle.fkv_partition.specs.Stages.{StageStands}
use Rattle.fkv_partition.specs.Checking.{Ends}
use Rattle.fkv_partition.specs.Relocating.{IsRelocating}
use Rattle.fkv_partition.specs.Sound.{IsCompacting, MayClear}
use Rattle.fkv_partition.proofs.ApartLemmas.{err-ok, none-some, next-done, waits-done, some-at, has-come, is-before}
use Rattle.fkv_partition.proofs.MoveLemmas.{is-set, past-place, stands-here, frozen-low, keyless-here}
use Rattle.fkv_partition.proofs.KeepLemmas.{rises-past}
use Rattle.fkv_partition.proofs.AgainLemmas.{unclaimed, writes-again, superseded-again, event-again}
use Rattle.fkv_partition.proofs.partitions.Partition.append_again.Goals as goal

pub returns-then-not-holds-clause-effect : goal.returns-then-not-holds-clause-effect
returns-then-not-holds-clause-effect g c =
    let words = ap (λ r. word_at r.words c.args.kept.place) c.records.ensures in
    Ends.moved (λ e. false≢true (sym c.if-not-holds.true ∙ c.holds.ensures.1 (words ∙ e))) c.set_stage.ensures refl

pub returns-then-not-holds-clause-event : goal.returns-then-not-holds-clause-event
returns-then-not-holds-clause-event g c = is-set g.R.Receipt.keeps g.F.Key.Ord.cmp c.args.self.now c.args.slot c.args.context c.args.now c.requires.context (keyless-here c.args.self.now c.args.slot c.args.context c.args.relocation.now c.requires.here) (Some (at_stage c.args.relocation.now Fresh)) c.set_stage.ensures

pub returns-then-not-holds-clause-cleared : goal.returns-then-not-holds-clause-cleared
returns-then-not-holds-clause-cleared g c = next-done

pub returns-then-not-holds-clause-moment : goal.returns-then-not-holds-clause-moment
returns-then-not-holds-clause-moment g c = has-come c.set_stage.ensures refl

pub append-requires-clause-unclaimed : goal.append-requires-clause-unclaimed
append-requires-clause-unclaimed g c =
    (unclaimed g.F.Key.Ord.cmp g.F.Mergeable.parts.joined g.F.Functions.code c.args.self.now c.facts.ensures.compacting c.args.slot c.args.context c.args.now c.args.relocation.now c.requires.here)

pub append-requires-clause-write : goal.append-requires-clause-write
append-requires-clause-write g c =
    let v = c.args.self.now in
    let words = ap (λ r. word_at r.words c.args.kept.place) c.records.ensures in
    let holds = sym words ∙ c.holds.ensures.0 c.if-not-holds.false in
    (writes-again g.F.Key.Ord.cmp g.F.Mergeable.parts.joined g.F.Functions.code v c.facts.ensures.compacting c.args.slot c.args.context c.args.now c.args.relocation.now c.requires.here c.facts.ensures.sound c.args.entry c.args.kept c.requires.stands holds)

pub set_stage-requires-in-Ok-None-clause-here : goal.set_stage-requires-in-Ok-None-clause-here
set_stage-requires-in-Ok-None-clause-here g c =
    let same = c.in-Ok-None.ensures.full (ap Ok c.in-Ok-None.field-0-is) in
    let here = c.requires.here in
    subst (λ q. relocation_at q c.args.slot c.args.context ≡ Some c.args.relocation.now) (sym same) here

pub set_stage-requires-in-Ok-None-clause-stands : goal.set_stage-requires-in-Ok-None-clause-stands
set_stage-requires-in-Ok-None-clause-stands g c =
    let same = c.in-Ok-None.ensures.full (ap Ok c.in-Ok-None.field-0-is) in
    let stands = c.requires.stands in
    subst (λ q. StageStands g.R.Receipt.keeps g.F.Key.Ord.cmp g.F.Mergeable.parts.joined g.F.Functions.code q c.args.relocation.now.target (Ready c.args.entry c.args.kept)) (sym same) stands

pub clear_to-requires : goal.clear_to-requires
clear_to-requires g c =
    let ord = g.met.F.Key.Ord in
    let facts = g.met.F.Key.FixedKey in
    let order = key_order g.F.Key.PartialEq.eq g.F.Key.Ord.cmp ord.matches_eq facts.exact ord.total in
    let keeps = g.R.Receipt.keeps in
    let cmp = g.F.Key.Ord.cmp in
    let join = g.F.Mergeable.parts.joined in
    let code = g.F.Functions.code in
    let x = c.args.relocation.now in
    let e = c.args.entry in
    let kept = c.args.kept in
    let ins = c.args.self.now in
    let compacting = c.facts.ensures.compacting in
    let sound = c.facts.ensures.sound in
    let words = ap (λ r. word_at r.words kept.place) c.records.ensures in
    let holds = sym words ∙ c.holds.ensures.0 c.if-not-holds.false in
    let made = some-at c.in-Ok-Some.field-0-is c.in-Ok-Some.ensures.ok in
    let appended = with_appended ins c.args.slot c.args.context kept e.key e.value c.args.now in
    let traced = subst (λ q. IsTraced keeps code q.records) made c.facts-in-Ok-Some.ensures.sound.traced in
    let resolved = subst (λ q. IsResolved cmp join q.records) made c.facts-in-Ok-Some.ensures.sound.resolved in
    let one = subst (λ q. IsCompacting keeps cmp join code q) made c.facts-in-Ok-Some.ensures.compacting in
    let was = stands-here ins c.args.slot c.args.context x c.requires.here compacting in
    let low = frozen-low appended.records x.target traced was.frozen in
    let rises = rises-past keeps cmp join code appended x.target one traced was.issued was.place low
    (λ yes_keeps clear. c.cleared_stay.ensures.raised keeps cmp join code appended.records x.target traced resolved was.place low clear
    (superseded-again cmp join code ins compacting c.args.slot c.args.context c.args.now x c.requires.here sound e kept c.requires.stands holds order yes_keeps)) in
    rw c.past-cleared.ensures (record { clears = subst (λ q. MayClear keeps cmp q (cleared_past ins x.target)) (sym made) rises })

pub returns-in-Err-clause-effect : goal.returns-in-Err-clause-effect
returns-in-Err-clause-effect g c =
    let kept = c.args.kept in
    let words = ap (λ r. word_at r.words kept.place) c.records.ensures in
    let holds = sym words ∙ c.holds.ensures.0 c.if-not-holds.false in
    let is = c.in-Err.ensures.only in
    let tail = c.in-Err.ensures.worn.0 (ap Err is) in
    Ends.worn holds tail c.in-Err.ensures.unchanged (ap Err is)

pub returns-in-Err-clause-cleared : goal.returns-in-Err-clause-cleared
returns-in-Err-clause-cleared g c = err-ok

pub returns-in-Err-clause-unchanged : goal.returns-in-Err-clause-unchanged
returns-in-Err-clause-unchanged g c = c.in-Err.ensures.unchanged

pub returns-in-Err-clause-moment : goal.returns-in-Err-clause-moment
returns-in-Err-clause-moment g c = is-before c.in-Err.ensures.unchanged c.requires.later

pub returns-in-Ok-None-clause-effect : goal.returns-in-Ok-None-clause-effect
returns-in-Ok-None-clause-effect g c =
    let x = c.args.relocation.now in
    let kept = c.args.kept in
    let words = ap (λ r. word_at r.words kept.place) c.records.ensures in
    let holds = sym words ∙ c.holds.ensures.0 c.if-not-holds.false in
    let same = c.in-Ok-None.ensures.full (ap Ok c.in-Ok-None.field-0-is) in
    let y = Some (at_stage x (Ready c.args.entry kept)) in
    let new = c.set_stage-in-Ok-None.ensures
    ∙ ap (λ q. with_relocation q c.args.slot c.args.context y c.args.now) same in
    let full = (c.in-Ok-None.ensures.room.0 (ap Ok c.in-Ok-None.field-0-is)) in
    Ends.full holds full new refl

pub returns-in-Ok-None-clause-event : goal.returns-in-Ok-None-clause-event
returns-in-Ok-None-clause-event g c =
    let same = c.in-Ok-None.ensures.full (ap Ok c.in-Ok-None.field-0-is) in
    let y = Some (at_stage c.args.relocation.now (Ready c.args.entry c.args.kept)) in
    let new = c.set_stage-in-Ok-None.ensures
    ∙ ap (λ q. with_relocation q c.args.slot c.args.context y c.args.now) same in
    is-set g.R.Receipt.keeps g.F.Key.Ord.cmp c.args.self.now c.args.slot c.args.context c.args.now c.requires.context (keyless-here c.args.self.now c.args.slot c.args.context c.args.relocation.now c.requires.here) y new

pub returns-in-Ok-None-clause-cleared : goal.returns-in-Ok-None-clause-cleared
returns-in-Ok-None-clause-cleared g c = waits-done

pub returns-in-Ok-None-clause-moment : goal.returns-in-Ok-None-clause-moment
returns-in-Ok-None-clause-moment g c = has-come c.set_stage-in-Ok-None.ensures refl

pub returns-in-Ok-Some-clause-effect : goal.returns-in-Ok-Some-clause-effect
returns-in-Ok-Some-clause-effect g c =
    let x = c.args.relocation.now in
    let kept = c.args.kept in
    let words = ap (λ r. word_at r.words kept.place) c.records.ensures in
    let holds = sym words ∙ c.holds.ensures.0 c.if-not-holds.false in
    let made = some-at c.in-Ok-Some.field-0-is c.in-Ok-Some.ensures.ok in
    let new = c.clear_to.ensures ∙ ap (λ (q : PartitionView _ _ _). record q { cleared = c.past-cleared.result }) made
    ∙ ap (λ n. record (with_appended c.args.self.now c.args.slot c.args.context c.args.kept c.args.entry.key c.args.entry.value c.args.now) { cleared = n }) c.past-cleared.ensures in
    Ends.appends holds
    (λ h. err-ok (sym (c.in-Ok-Some.ensures.worn.1 (h))))
    (λ f. none-some (sym (c.in-Ok-Some.ensures.room.1 (f)) ∙ ap Ok c.in-Ok-Some.field-0-is))
    new refl

pub returns-in-Ok-Some-clause-event : goal.returns-in-Ok-Some-clause-event
returns-in-Ok-Some-clause-event g c =
    let ord = g.met.F.Key.Ord in
    let facts = g.met.F.Key.FixedKey in
    let order = key_order g.F.Key.PartialEq.eq g.F.Key.Ord.cmp ord.matches_eq facts.exact ord.total in
    let x = c.args.relocation.now in
    let kept = c.args.kept in
    let v = c.args.self.now in
    let words = ap (λ r. word_at r.words kept.place) c.records.ensures in
    let holds = sym words ∙ c.holds.ensures.0 c.if-not-holds.false in
    let made = some-at c.in-Ok-Some.field-0-is c.in-Ok-Some.ensures.ok in
    let new = c.clear_to.ensures ∙ ap (λ (q : PartitionView _ _ _). record q { cleared = c.past-cleared.result }) made
    ∙ ap (λ n. record (with_appended c.args.self.now c.args.slot c.args.context c.args.kept c.args.entry.key c.args.entry.value c.args.now) { cleared = n }) c.past-cleared.ensures in
    subst (λ u. IsRelocating g.R.Receipt.keeps g.F.Key.Ord.cmp v u c.args.slot c.args.context c.args.now) (sym new)
    (event-again g.F.Key.Ord.cmp g.F.Mergeable.parts.joined g.F.Functions.code v c.facts.ensures.compacting c.args.slot c.args.context c.args.now x c.requires.here c.facts.ensures.sound c.args.entry kept c.requires.stands holds order)

pub returns-in-Ok-Some-clause-cleared : goal.returns-in-Ok-Some-clause-cleared
returns-in-Ok-Some-clause-cleared g c =
    let x = c.args.relocation.now in
    let v = c.args.self.now in
    let made = some-at c.in-Ok-Some.field-0-is c.in-Ok-Some.ensures.ok in
    let new = c.clear_to.ensures ∙ ap (λ (q : PartitionView _ _ _). record q { cleared = c.past-cleared.result }) made
    ∙ ap (λ n. record (with_appended c.args.self.now c.args.slot c.args.context c.args.kept c.args.entry.key c.args.entry.value c.args.now) { cleared = n }) c.past-cleared.ensures in
    λ is. subst (λ u. x.target < u.cleared) (sym new) (past-place v x.target c.facts.ensures.sound.traced (stands-here v c.args.slot c.args.context x c.requires.here c.facts.ensures.compacting).place).1

pub returns-in-Ok-Some-clause-moment : goal.returns-in-Ok-Some-clause-moment
returns-in-Ok-Some-clause-moment g c =
    let made = some-at c.in-Ok-Some.field-0-is c.in-Ok-Some.ensures.ok in
    has-come (c.clear_to.ensures ∙ ap (λ (q : PartitionView _ _ _). record q { cleared = c.past-cleared.result }) made) refl
