use Rattle.std.proofs.Common.{◌≡◌, Err, true, false, refl, sym, ap, ◌∙◌}
use Rattle.std.proofs.Math.Nat.{le_of_lt, le_refl}
use Rattle.fkv_partition.specs.Contexts.{claim_by}
use Rattle.fkv_partition.specs.KeyLoading.{AwaitsPage, Loads}
use Rattle.fkv_partition.proofs.EventLemmas.{loading-is, claims-none, if-all}
use Rattle.fkv_partition.proofs.PendingLemmas.{load-moved}
use Rattle.fkv_partition.proofs.ApartLemmas.{err-as}
use Rattle.fkv_partition.proofs.DamageLemmas.{answer-not, unknown-not, not_ready-not}
use Rattle.fkv_partition.proofs.partitions.Partition.load_on_key.Goals as goal

pub returns-in_default-loading_of-clause-effect : goal.returns-in_default-loading_of-clause-effect
returns-in_default-loading_of-clause-effect g c = Loads.not_ready c.in-Some.open (sym c.in-Some.ensures.value) (sym c.in_default-loading_of.ensures) refl refl

pub returns-then-loading-begin-clause-effect : goal.returns-then-loading-begin-clause-effect
returns-then-loading-begin-clause-effect g c =
    let l = c.in-Some-loading_of.loading in
    let begins : c.begin.result ≡ c.args.self.now.records.log.begin = c.begin.ensures ∙ ap (λ u. u.records.log.begin) c.self.view_is in
    rw c.set_phase.ensures (Loads.moved c.in-Some.open l (sym c.in-Some.ensures.value) (loading-is c.in-Some.open.phase l (sym c.in-Some-loading_of.ensures)) (λ e. c.if-loading-begin.true (e ∙ sym begins)) refl refl)

pub receive-requires-clause-awaits : goal.receive-requires-clause-awaits
receive-requires-clause-awaits g c = record {
  here = sym c.in-Some.ensures.value;
  loading = loading-is c.in-Some.open.phase c.in-Some-loading_of.loading (sym c.in-Some-loading_of.ensures);
  begin = c.if-loading-begin.false ∙ c.begin.ensures ∙ ap (λ u. u.records.log.begin) c.self.view_is;
}

pub returns-then-is_no_memory-clause-effect : goal.returns-then-is_no_memory-clause-effect
returns-then-is_no_memory-clause-effect g c =
    let a : AwaitsPage c.args.self.now c.args.slot c.args.context c.in-Some.open c.in-Some-loading_of.loading = record {
      here = sym c.in-Some.ensures.value;
      loading = loading-is c.in-Some.open.phase c.in-Some-loading_of.loading (sym c.in-Some-loading_of.ensures);
      begin = c.if-loading-begin.false ∙ c.begin.ensures ∙ ap (λ u. u.records.log.begin) c.self.view_is;
    } in
    let is = c.is_no_memory.ensures.0 c.if-is_no_memory.true in
    Loads.unread c.in-Some.open c.in-Some-loading_of.loading a (c.in-Err.is ∙ ap Err is) refl (ap Err is)

pub free-requires-clause-unclaimed : goal.free-requires-clause-unclaimed
free-requires-clause-unclaimed g c =
    claims-none c.args.self.now c.args.slot c.args.context c.in-Some.open (sym c.in-Some.ensures.value) (ap claim_by (loading-is c.in-Some.open.phase c.in-Some-loading_of.loading (sym c.in-Some-loading_of.ensures)))

pub returns-else-is_no_memory-clause-effect : goal.returns-else-is_no_memory-clause-effect
returns-else-is_no_memory-clause-effect g c =
    let a : AwaitsPage c.args.self.now c.args.slot c.args.context c.in-Some.open c.in-Some-loading_of.loading = record {
      here = sym c.in-Some.ensures.value;
      loading = loading-is c.in-Some.open.phase c.in-Some-loading_of.loading (sym c.in-Some-loading_of.ensures);
      begin = c.if-loading-begin.false ∙ c.begin.ensures ∙ ap (λ u. u.records.log.begin) c.self.view_is;
    } in
    rw c.free.ensures (Loads.failed c.in-Some.open c.in-Some-loading_of.loading c.in-Err.refused a c.in-Err.is (λ e. let memory = c.is_no_memory.ensures.1 e in let bad : false ≡ true = sym c.if-is_no_memory.false ∙ memory in cc) refl refl)

pub returns-in-Ok-clause-effect : goal.returns-in-Ok-clause-effect
returns-in-Ok-clause-effect g c = rw c.in-Ok.is c.receive.ensures.effect

pub returns-in-Ok-clause-within : goal.returns-in-Ok-clause-within
returns-in-Ok-clause-within g c = if-all c.receive.result (c.in-Some.ensures.session, c.in-Some.ensures.context)

pub returns-then-loading-begin-clause-event : goal.returns-then-loading-begin-clause-event
returns-then-loading-begin-clause-event g c = λ keeps.
    let l = c.in-Some-loading_of.loading in
    let begins : c.begin.result ≡ c.args.self.now.records.log.begin = c.begin.ensures ∙ ap (λ u. u.records.log.begin) c.self.view_is in
    rw c.set_phase.ensures (load-moved g.F.Key.Ord.cmp c.args.self.now c.args.slot c.args.context c.args.now c.in-Some.open (sym c.in-Some.ensures.value) g.F.Functions.meaning l (loading-is c.in-Some.open.phase l (sym c.in-Some-loading_of.ensures)) (λ e. c.if-loading-begin.true (e ∙ sym begins)))

pub returns-in_default-clause-effect : goal.returns-in_default-clause-effect
returns-in_default-clause-effect g c = Loads.unknown (sym c.in_default.ensures.value) refl refl

pub returns-in_default-clause-moment : goal.returns-in_default-clause-moment
returns-in_default-clause-moment g c = le_of_lt c.requires.later

pub returns-in_default-loading_of-clause-moment : goal.returns-in_default-loading_of-clause-moment
returns-in_default-loading_of-clause-moment g c = le_of_lt c.requires.later

pub set_phase-requires-clause-session : goal.set_phase-requires-clause-session
set_phase-requires-clause-session g c = c.in-Some.ensures.session

pub set_phase-requires-clause-context : goal.set_phase-requires-clause-context
set_phase-requires-clause-context g c = c.in-Some.ensures.context

pub set_phase-requires-clause-here : goal.set_phase-requires-clause-here
set_phase-requires-clause-here g c = sym c.in-Some.ensures.value

pub set_phase-requires-clause-unclaimed : goal.set_phase-requires-clause-unclaimed
set_phase-requires-clause-unclaimed g c = ap claim_by (loading-is c.in-Some.open.phase c.in-Some-loading_of.loading (sym c.in-Some-loading_of.ensures))

pub set_phase-requires-clause-claims_nothing : goal.set_phase-requires-clause-claims_nothing
set_phase-requires-clause-claims_nothing g c = refl

pub returns-then-loading-begin-clause-within : goal.returns-then-loading-begin-clause-within
returns-then-loading-begin-clause-within g c = (c.in-Some.ensures.session, c.in-Some.ensures.context)

pub returns-then-loading-begin-clause-moment : goal.returns-then-loading-begin-clause-moment
returns-then-loading-begin-clause-moment g c = rw c.set_phase.ensures (le_refl c.args.now)

pub returns-then-is_no_memory-clause-moment : goal.returns-then-is_no_memory-clause-moment
returns-then-is_no_memory-clause-moment g c = le_of_lt c.requires.later

pub free-requires-clause-session : goal.free-requires-clause-session
free-requires-clause-session g c = c.in-Some.ensures.session

pub free-requires-clause-context : goal.free-requires-clause-context
free-requires-clause-context g c = c.in-Some.ensures.context

pub receive-requires-clause-session : goal.receive-requires-clause-session
receive-requires-clause-session g c = c.in-Some.ensures.session

pub receive-requires-clause-context : goal.receive-requires-clause-context
receive-requires-clause-context g c = c.in-Some.ensures.context

pub returns-else-is_no_memory-clause-moment : goal.returns-else-is_no_memory-clause-moment
returns-else-is_no_memory-clause-moment g c = rw c.free.ensures (le_refl c.args.now)

pub returns-in-Ok-clause-event : goal.returns-in-Ok-clause-event
returns-in-Ok-clause-event g c = c.receive.ensures.event

pub returns-in-Ok-clause-moment : goal.returns-in-Ok-clause-moment
returns-in-Ok-clause-moment g c = c.receive.ensures.moment

pub returns-in_default-clause-undamaged : goal.returns-in_default-clause-undamaged
returns-in_default-clause-undamaged g c = λ yes_keeps page is. unknown-not is

pub returns-in_default-loading_of-clause-undamaged : goal.returns-in_default-loading_of-clause-undamaged
returns-in_default-loading_of-clause-undamaged g c = λ yes_keeps page is. not_ready-not is

pub returns-then-loading-begin-clause-undamaged : goal.returns-then-loading-begin-clause-undamaged
returns-then-loading-begin-clause-undamaged g c = λ yes_keeps page is. answer-not is

pub returns-then-is_no_memory-clause-undamaged : goal.returns-then-is_no_memory-clause-undamaged
returns-then-is_no_memory-clause-undamaged g c = λ yes_keeps page is. c.in-Err.is ∙ err-as is

pub returns-else-is_no_memory-clause-undamaged : goal.returns-else-is_no_memory-clause-undamaged
returns-else-is_no_memory-clause-undamaged g c = λ yes_keeps page is. c.in-Err.is ∙ err-as is

pub returns-in-Ok-clause-undamaged : goal.returns-in-Ok-clause-undamaged
returns-in-Ok-clause-undamaged g c = λ yes_keeps page is. absurd (c.receive.ensures.undamaged yes_keeps page is)
