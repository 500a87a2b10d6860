use Rattle.std.proofs.Common.{◌≡◌, ◌≢◌, refl, sym, ap, ◌∙◌}
use Rattle.std.proofs.Math.Nat.{le_of_lt, le_refl}
use Rattle.fkv_records.specs.Places.{page_at}
use Rattle.fkv_functions.proofs.KeyOrder.{key_order}
use Rattle.fkv_partition.specs.Contexts.{claim_by}
use Rattle.fkv_partition.specs.KeyLoading.{AwaitsPage, Loads, idle, came, failed}
use Rattle.fkv_partition.proofs.EventLemmas.{loading-is, if-all}
use Rattle.fkv_partition.proofs.LoadLemmas.{wanted-flushed, waits-none, waits-not, waits-moved, counted-why}
use Rattle.fkv_partition.proofs.PendingLemmas.{load-moved}
use Rattle.fkv_partition.proofs.DamageLemmas.{answer-not, unknown-not, not_ready-not, counted-damage}
use Rattle.fkv_partition.proofs.partitions.Partition.load_by_on_key.Goals as goal

pub returns-in_default-clause-effect : goal.returns-in_default-clause-effect
returns-in_default-clause-effect g c =
    idle (waits-none c.args.self.now c.args.slot c.args.context (sym c.in_default.ensures.value))
    (λ handed. Loads.unknown (sym c.in_default.ensures.value) refl refl) refl

pub returns-in_default-loading_of-clause-effect : goal.returns-in_default-loading_of-clause-effect
returns-in_default-loading_of-clause-effect g c =
    idle (waits-not c.args.self.now c.args.slot c.args.context c.in-Some.open (sym c.in-Some.ensures.value) (sym c.in_default-loading_of.ensures))
    (λ handed. Loads.not_ready c.in-Some.open (sym c.in-Some.ensures.value) (sym c.in_default-loading_of.ensures) refl refl) refl

pub returns-then-loading-begin-clause-effect : goal.returns-then-loading-begin-clause-effect
returns-then-loading-begin-clause-effect g c =
    let l = c.in-Some-loading_of.loading in
    let begins : c.begin-begin.result ≡ c.args.self.now.records.log.begin = c.begin-begin.ensures ∙ ap (λ u. u.records.log.begin) c.self.view_is in
    let phase = loading-is c.in-Some.open.phase l (sym c.in-Some-loading_of.ensures) in
    let other : l.begin ≢ c.args.self.now.records.log.begin = λ e. c.if-loading-begin.true (e ∙ sym begins) in
    idle (waits-moved c.args.self.now c.args.slot c.args.context c.in-Some.open l (sym c.in-Some.ensures.value) phase other)
    (λ handed. rw c.set_phase.ensures (Loads.moved c.in-Some.open l (sym c.in-Some.ensures.value) phase other refl refl)) refl

pub returns-in-Err-clause-effect : goal.returns-in-Err-clause-effect
returns-in-Err-clause-effect g c =
    let a : AwaitsPage c.args.self.now c.args.slot c.args.context c.in-Some.open c.in-Some-loading_of.loading = record {
      here = sym c.in-Some.ensures.value;
      loading = loading-is c.in-Some.open.phase c.in-Some-loading_of.loading (sym c.in-Some-loading_of.ensures);
      begin = c.if-loading-begin.false ∙ c.begin-begin.ensures ∙ ap (λ u. u.records.log.begin) c.self.view_is;
    } in
    let page = c.page_of-page.ensures ∙ ap (λ u. page_at u.records.log.bits c.in-Some-loading_of.loading.wanted) c.self.view_is in
    failed c.page_of-page.result c.in-Err.refused (record { operation = c.in-Some.open; loading = c.in-Some-loading_of.loading; awaits = a; page_is = page }) c.in-Err.ensures.counted refl refl

pub returns-in-Ok-clause-effect : goal.returns-in-Ok-clause-effect
returns-in-Ok-clause-effect g c =
    let a : AwaitsPage c.args.self.now c.args.slot c.args.context c.in-Some.open c.in-Some-loading_of.loading = record {
      here = sym c.in-Some.ensures.value;
      loading = loading-is c.in-Some.open.phase c.in-Some-loading_of.loading (sym c.in-Some-loading_of.ensures);
      begin = c.if-loading-begin.false ∙ c.begin-begin.ensures ∙ ap (λ u. u.records.log.begin) c.self.view_is;
    } in
    let page = c.page_of-page.ensures ∙ ap (λ u. page_at u.records.log.bits c.in-Some-loading_of.loading.wanted) c.self.view_is in
    came c.page_of-page.result c.in-Ok.loaded (record { operation = c.in-Some.open; loading = c.in-Some-loading_of.loading; awaits = a; page_is = page })
    c.in-Ok.ensures.own c.resume_look_up.ensures.effect c.in-Ok.ensures.steady

pub returns-in_default-clause-caused : goal.returns-in_default-clause-caused
returns-in_default-clause-caused g c = λ other. absurd (other refl)

pub returns-in_default-loading_of-clause-caused : goal.returns-in_default-loading_of-clause-caused
returns-in_default-loading_of-clause-caused g c = λ other. absurd (other refl)

pub returns-then-loading-begin-clause-caused : goal.returns-then-loading-begin-clause-caused
returns-then-loading-begin-clause-caused g c = λ other. absurd (other refl)

pub returns-in-Err-clause-caused : goal.returns-in-Err-clause-caused
returns-in-Err-clause-caused g c = λ other. (c.page_of-page.result, c.in-Err.ensures.caused (counted-why c.in-Err.refused c.in-Err.ensures.counted other))

pub returns-in-Ok-clause-caused : goal.returns-in-Ok-clause-caused
returns-in-Ok-clause-caused g c = λ other. absurd (other c.in-Ok.ensures.steady)

pub returns-in-Err-clause-unread : goal.returns-in-Err-clause-unread
returns-in-Err-clause-unread g c = λ none.
    let a : AwaitsPage c.args.self.now c.args.slot c.args.context c.in-Some.open c.in-Some-loading_of.loading = record {
      here = sym c.in-Some.ensures.value;
      loading = loading-is c.in-Some.open.phase c.in-Some-loading_of.loading (sym c.in-Some-loading_of.ensures);
      begin = c.if-loading-begin.false ∙ c.begin-begin.ensures ∙ ap (λ u. u.records.log.begin) c.self.view_is;
    } in
    let page = c.page_of-page.ensures ∙ ap (λ u. page_at u.records.log.bits c.in-Some-loading_of.loading.wanted) c.self.view_is in
    absurd (none c.page_of-page.result (record { operation = c.in-Some.open; loading = c.in-Some-loading_of.loading; awaits = a; page_is = page }))

pub returns-in-Ok-clause-unread : goal.returns-in-Ok-clause-unread
returns-in-Ok-clause-unread g c = λ none.
    let a : AwaitsPage c.args.self.now c.args.slot c.args.context c.in-Some.open c.in-Some-loading_of.loading = record {
      here = sym c.in-Some.ensures.value;
      loading = loading-is c.in-Some.open.phase c.in-Some-loading_of.loading (sym c.in-Some-loading_of.ensures);
      begin = c.if-loading-begin.false ∙ c.begin-begin.ensures ∙ ap (λ u. u.records.log.begin) c.self.view_is;
    } in
    let page = c.page_of-page.ensures ∙ ap (λ u. page_at u.records.log.bits c.in-Some-loading_of.loading.wanted) c.self.view_is in
    absurd (none c.page_of-page.result (record { operation = c.in-Some.open; loading = c.in-Some-loading_of.loading; awaits = a; page_is = page }))

pub read-requires : goal.read-requires
read-requires g c =
    let ord = g.met.F.Key.Ord in
    let facts = g.met.F.Key.FixedKey in
    let order = key_order g.F.Key.PartialEq.eq g.F.Key.Ord.cmp ord.matches_eq facts.exact ord.total in
    let a : AwaitsPage c.args.self.now c.args.slot c.args.context c.in-Some.open c.in-Some-loading_of.loading = record {
      here = sym c.in-Some.ensures.value;
      loading = loading-is c.in-Some.open.phase c.in-Some-loading_of.loading (sym c.in-Some-loading_of.ensures);
      begin = c.if-loading-begin.false ∙ c.begin-begin.ensures ∙ ap (λ u. u.records.log.begin) c.self.view_is;
    } in
    let page = c.page_of-page.ensures ∙ ap (λ u. page_at u.records.log.bits c.in-Some-loading_of.loading.wanted) c.self.view_is in
    record { flushed = rw page (wanted-flushed g.F.Key.Ord.cmp g.F.Mergeable.parts.joined g.F.Functions.code order c.args.self.now c.facts.ensures.sound c.args.slot c.args.context c.in-Some.open c.in-Some-loading_of.loading a) }

pub resume_look_up-requires-clause-awaits : goal.resume_look_up-requires-clause-awaits
resume_look_up-requires-clause-awaits g c = record {
  here = sym c.in-Some.ensures.value;
  loading = loading-is c.in-Some.open.phase c.in-Some-loading_of.loading (sym c.in-Some-loading_of.ensures);
  begin = c.if-loading-begin.false ∙ c.begin-begin.ensures ∙ ap (λ u. u.records.log.begin) c.self.view_is;
}

pub resume_look_up-requires-clause-own : goal.resume_look_up-requires-clause-own
resume_look_up-requires-clause-own g c =
    let page = c.page_of-page.ensures ∙ ap (λ u. page_at u.records.log.bits c.in-Some-loading_of.loading.wanted) c.self.view_is in
    rw page at c.in-Ok.ensures.own

pub returns-in-Ok-clause-within : goal.returns-in-Ok-clause-within
returns-in-Ok-clause-within g c = if-all c.resume_look_up.result (c.in-Some.ensures.session, c.in-Some.ensures.context)

pub returns-then-loading-begin-clause-event : goal.returns-then-loading-begin-clause-event
returns-then-loading-begin-clause-event g c = λ keeps.
    let l = c.in-Some-loading_of.loading in
    let begins : c.begin-begin.result ≡ c.args.self.now.records.log.begin = c.begin-begin.ensures ∙ ap (λ u. u.records.log.begin) c.self.view_is in
    rw c.set_phase.ensures (load-moved g.F.Key.Ord.cmp c.args.self.now c.args.slot c.args.context c.args.now c.in-Some.open (sym c.in-Some.ensures.value) g.F.Functions.meaning l (loading-is c.in-Some.open.phase l (sym c.in-Some-loading_of.ensures)) (λ e. c.if-loading-begin.true (e ∙ sym begins)))

pub returns-in_default-clause-moment : goal.returns-in_default-clause-moment
returns-in_default-clause-moment g c = le_of_lt c.requires.later

pub returns-in_default-loading_of-clause-moment : goal.returns-in_default-loading_of-clause-moment
returns-in_default-loading_of-clause-moment g c = le_of_lt c.requires.later

pub set_phase-requires-clause-session : goal.set_phase-requires-clause-session
set_phase-requires-clause-session g c = c.in-Some.ensures.session

pub set_phase-requires-clause-context : goal.set_phase-requires-clause-context
set_phase-requires-clause-context g c = c.in-Some.ensures.context

pub set_phase-requires-clause-here : goal.set_phase-requires-clause-here
set_phase-requires-clause-here g c = sym c.in-Some.ensures.value

pub set_phase-requires-clause-unclaimed : goal.set_phase-requires-clause-unclaimed
set_phase-requires-clause-unclaimed g c = ap claim_by (loading-is c.in-Some.open.phase c.in-Some-loading_of.loading (sym c.in-Some-loading_of.ensures))

pub set_phase-requires-clause-claims_nothing : goal.set_phase-requires-clause-claims_nothing
set_phase-requires-clause-claims_nothing g c = refl

pub returns-then-loading-begin-clause-within : goal.returns-then-loading-begin-clause-within
returns-then-loading-begin-clause-within g c = (c.in-Some.ensures.session, c.in-Some.ensures.context)

pub returns-then-loading-begin-clause-moment : goal.returns-then-loading-begin-clause-moment
returns-then-loading-begin-clause-moment g c = rw c.set_phase.ensures (le_refl c.args.now)

pub resume_look_up-requires-clause-session : goal.resume_look_up-requires-clause-session
resume_look_up-requires-clause-session g c = c.in-Some.ensures.session

pub resume_look_up-requires-clause-context : goal.resume_look_up-requires-clause-context
resume_look_up-requires-clause-context g c = c.in-Some.ensures.context

pub returns-in-Err-clause-moment : goal.returns-in-Err-clause-moment
returns-in-Err-clause-moment g c = le_of_lt c.requires.later

pub returns-in-Ok-clause-event : goal.returns-in-Ok-clause-event
returns-in-Ok-clause-event g c = c.resume_look_up.ensures.event

pub returns-in-Ok-clause-moment : goal.returns-in-Ok-clause-moment
returns-in-Ok-clause-moment g c = c.resume_look_up.ensures.moment

pub returns-in_default-clause-undamaged : goal.returns-in_default-clause-undamaged
returns-in_default-clause-undamaged g c = λ yes_keeps page is. unknown-not is

pub returns-in_default-loading_of-clause-undamaged : goal.returns-in_default-loading_of-clause-undamaged
returns-in_default-loading_of-clause-undamaged g c = λ yes_keeps page is. not_ready-not is

pub returns-then-loading-begin-clause-undamaged : goal.returns-then-loading-begin-clause-undamaged
returns-then-loading-begin-clause-undamaged g c = λ yes_keeps page is. answer-not is

pub returns-in-Err-clause-undamaged : goal.returns-in-Err-clause-undamaged
returns-in-Err-clause-undamaged g c = λ yes_keeps page is. counted-damage c.in-Err.ensures.counted is

pub returns-in-Ok-clause-undamaged : goal.returns-in-Ok-clause-undamaged
returns-in-Ok-clause-undamaged g c = λ yes_keeps page is. absurd (c.resume_look_up.ensures.undamaged yes_keeps page is)
