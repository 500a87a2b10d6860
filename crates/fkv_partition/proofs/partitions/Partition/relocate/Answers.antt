use Rattle.std.proofs.Common.{◌∙◌, ap, Some, refl, sym, arith}
use Rattle.fkv_partition.specs.Views.{slots_of}
use Rattle.fkv_partition.specs.Contexts.{relocating}
use Rattle.fkv_partition.specs.Beginning.{Relocates}
use Rattle.fkv_partition.proofs.ApartLemmas.{no-later, has-come}
use Rattle.fkv_partition.proofs.KeepLemmas.{may-relocate}
use Rattle.fkv_partition.proofs.MoveLemmas.{event-set, open-free, free-keyless}
use Rattle.fkv_partition.proofs.partitions.Partition.relocate.Goals as goal

pub returns-then-not-is_session-clause-effect : goal.returns-then-not-is_session-clause-effect
returns-then-not-is_session-clause-effect g c = (Relocates.unknown (sym c.is_session.ensures.value ∙ c.if-not-is_session.true) refl refl)

pub returns-then-target-view-clause-effect : goal.returns-then-target-view-clause-effect
returns-then-target-view-clause-effect g c =
    let inside = sym c.is_session.ensures.value ∙ c.if-not-is_session.false in
    (Relocates.not_due inside (rw (c.view-view.ensures.value, c.records.ensures, c.cleared-target.ensures) at c.if-target-view.true) refl refl)

pub returns-in_default-clause-effect : goal.returns-in_default-clause-effect
returns-in_default-clause-effect g c =
    let inside = sym c.is_session.ensures.value ∙ c.if-not-is_session.false in
    let none = c.in_default.ensures.value in
    (Relocates.full inside (rw (c.view-view.ensures.value, c.records.ensures, c.cleared-target.ensures) at c.if-target-view.false) none refl refl)

pub begin_relocation-requires-clause-free : goal.begin_relocation-requires-clause-free
begin_relocation-requires-clause-free g c = c.in-Some.ensures.value.1

pub begin_relocation-requires-clause-stands : goal.begin_relocation-requires-clause-stands
begin_relocation-requires-clause-stands g c =
    let v = c.args.self.now in
    let agrees = rw c.records.ensures at c.view-view.ensures.agrees in
    let safe = agrees.safe in
    let low = rw c.cleared-target.ensures at c.if-target-view.false in
    rw c.cleared-target.ensures (may-relocate g.R.Receipt.keeps g.F.Key.Ord.cmp g.F.Mergeable.parts.joined g.F.Functions.code v c.facts.ensures.compacting c.facts.ensures.sound.traced (omega (arith, safe, low)) c.args.now)

pub returns-clause-effect : goal.returns-clause-effect
returns-clause-effect g c =
    let inside = sym c.is_session.ensures.value ∙ c.if-not-is_session.false in
    let first = c.in-Some.ensures.value in
    rw (c.begin_relocation.ensures, c.cleared-target.ensures) (Relocates.relocates c.in-Some.context inside (rw (c.view-view.ensures.value, c.records.ensures, c.cleared-target.ensures) at c.if-target-view.false) first refl refl)

pub returns-clause-event : goal.returns-clause-event
returns-clause-event g c = rw c.begin_relocation.ensures (event-set g.R.Receipt.keeps g.F.Key.Ord.cmp c.args.self.now c.args.slot c.in-Some.context c.args.now c.in-Some.ensures.within (free-keyless c.args.self.now c.args.slot c.in-Some.context c.in-Some.ensures.value.1) (Some _))

pub returns-then-not-is_session-clause-moment : goal.returns-then-not-is_session-clause-moment
returns-then-not-is_session-clause-moment g c = no-later c.requires.later

pub returns-then-target-view-clause-moment : goal.returns-then-target-view-clause-moment
returns-then-target-view-clause-moment g c = no-later c.requires.later

pub first_free-requires-clause-session : goal.first_free-requires-clause-session
first_free-requires-clause-session g c = c.is_session.ensures.within c.if-not-is_session.false

pub first_free-requires-clause-entered : goal.first_free-requires-clause-entered
first_free-requires-clause-entered g c = (sym c.is_session.ensures.value ∙ c.if-not-is_session.false)

pub returns-in_default-clause-moment : goal.returns-in_default-clause-moment
returns-in_default-clause-moment g c = no-later c.requires.later

pub begin_relocation-requires-clause-session : goal.begin_relocation-requires-clause-session
begin_relocation-requires-clause-session g c = c.is_session.ensures.within c.if-not-is_session.false

pub begin_relocation-requires-clause-entered : goal.begin_relocation-requires-clause-entered
begin_relocation-requires-clause-entered g c = (sym c.is_session.ensures.value ∙ c.if-not-is_session.false)

pub returns-clause-within : goal.returns-clause-within
returns-clause-within g c = (c.is_session.ensures.within c.if-not-is_session.false, c.in-Some.ensures.within)

pub returns-clause-closed : goal.returns-clause-closed
returns-clause-closed g c = ap relocating (open-free (slots_of c.args.self.now) c.args.self.now.contexts c.args.slot c.in-Some.context c.in-Some.ensures.value.1)

pub returns-clause-moment : goal.returns-clause-moment
returns-clause-moment g c = has-come c.begin_relocation.ensures refl

pub returns-then-not-is_session-clause-unchanged : goal.returns-then-not-is_session-clause-unchanged
returns-then-not-is_session-clause-unchanged g c = refl

pub returns-then-target-view-clause-unchanged : goal.returns-then-target-view-clause-unchanged
returns-then-target-view-clause-unchanged g c = refl

pub returns-in_default-clause-unchanged : goal.returns-in_default-clause-unchanged
returns-in_default-clause-unchanged g c = refl
