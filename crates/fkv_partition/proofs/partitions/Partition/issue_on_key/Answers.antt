use Rattle.std.proofs.Common.{◌≡◌, ◌∙◌, arith, refl, sym, ap}
use Rattle.std.proofs.lemmas.Bool.{OnTrue_at, OnFalse_at}
use Rattle.fkv_operations.specs.After.{key_of}
use Rattle.fkv_partition.specs.Views.{partition_of, slots_of}
use Rattle.fkv_partition.specs.Contexts.{relocating}
use Rattle.fkv_partition.specs.Beginning.{IssuesOnKey}
use Rattle.fkv_partition.proofs.ApartLemmas.{no-later}
use Rattle.fkv_partition.proofs.KeepLemmas.{issues-told}
use Rattle.fkv_partition.proofs.MoveLemmas.{open-free}
use Rattle.fkv_partition.proofs.SeatLemmas.{issues-seats}
use Rattle.fkv_partition.proofs.partitions.Partition.issue_on_key.Goals as goal

pub returns-then-not-is_session-clause-effect : goal.returns-then-not-is_session-clause-effect
returns-then-not-is_session-clause-effect g c = (IssuesOnKey.unknown (sym c.is_session.ensures.value ∙ c.if-not-is_session.true) refl refl)

pub returns-then-came-held-clause-effect : goal.returns-then-came-held-clause-effect
returns-then-came-held-clause-effect g c =
    let number = c.number-held.ensures in
    let came : c.home-came.result ≡ partition_of c.args.self.now.count (g.F.Functions.code (key_of c.args.op)) = c.home-came.ensures ∙ ap (λ k. partition_of c.args.self.now.count (g.F.Functions.code k)) c.key.ensures in
    let inside = sym c.is_session.ensures.value ∙ c.if-not-is_session.false in
    rw (number, came) (IssuesOnKey.stranger inside (λ e. c.if-came-held.true (came ∙ e ∙ sym number)) refl refl)

pub returns-then-lacks_merges-clause-effect : goal.returns-then-lacks_merges-clause-effect
returns-then-lacks_merges-clause-effect g c =
    let number = c.number-held.ensures in
    let came : c.home-came.result ≡ partition_of c.args.self.now.count (g.F.Functions.code (key_of c.args.op)) = c.home-came.ensures ∙ ap (λ k. partition_of c.args.self.now.count (g.F.Functions.code k)) c.key.ensures in
    let inside = sym c.is_session.ensures.value ∙ c.if-not-is_session.false in
    let own = sym came ∙ c.if-came-held.false ∙ number in
    let lacks = OnTrue_at c.if-lacks_merges.true c.lacks_merges.ensures.lacks in
    (IssuesOnKey.unmerged inside own lacks.0 lacks.1 refl refl)

pub returns-in_default-clause-effect : goal.returns-in_default-clause-effect
returns-in_default-clause-effect g c =
    let number = c.number-held.ensures in
    let came : c.home-came.result ≡ partition_of c.args.self.now.count (g.F.Functions.code (key_of c.args.op)) = c.home-came.ensures ∙ ap (λ k. partition_of c.args.self.now.count (g.F.Functions.code k)) c.key.ensures in
    let inside = sym c.is_session.ensures.value ∙ c.if-not-is_session.false in
    let own = sym came ∙ c.if-came-held.false ∙ number in
    let none = c.in_default.ensures.value in
    (IssuesOnKey.full inside own (OnFalse_at c.if-lacks_merges.false c.lacks_merges.ensures.merges) none refl refl)

pub returns-clause-effect : goal.returns-clause-effect
returns-clause-effect g c =
    let v = c.args.self.now in
    let first = c.in-Some.ensures.value in
    (issues-told g.F.Functions.code v c.issue_in.new.self c.args.slot c.in-Some.context c.args.op c.args.now first c.issue_in.ensures.effect)

pub returns-then-not-is_session-clause-moment : goal.returns-then-not-is_session-clause-moment
returns-then-not-is_session-clause-moment g c = no-later c.requires.later

pub returns-then-came-held-clause-moment : goal.returns-then-came-held-clause-moment
returns-then-came-held-clause-moment g c = no-later c.requires.later

pub returns-then-lacks_merges-clause-moment : goal.returns-then-lacks_merges-clause-moment
returns-then-lacks_merges-clause-moment g c = no-later c.requires.later

pub returns-in_default-clause-moment : goal.returns-in_default-clause-moment
returns-in_default-clause-moment g c = no-later c.requires.later

pub first_free-requires-clause-session : goal.first_free-requires-clause-session
first_free-requires-clause-session g c = c.is_session.ensures.within c.if-not-is_session.false

pub first_free-requires-clause-entered : goal.first_free-requires-clause-entered
first_free-requires-clause-entered g c = (sym c.is_session.ensures.value ∙ c.if-not-is_session.false)

pub issue_in-requires-clause-later : goal.issue_in-requires-clause-later
issue_in-requires-clause-later g c = c.requires.later

pub issue_in-requires-clause-entered : goal.issue_in-requires-clause-entered
issue_in-requires-clause-entered g c = sym c.is_session.ensures.value ∙ c.if-not-is_session.false

pub issue_in-requires-clause-context : goal.issue_in-requires-clause-context
issue_in-requires-clause-context g c = c.in-Some.ensures.within

pub returns-clause-event : goal.returns-clause-event
returns-clause-event g c = c.issue_in.ensures.event

pub returns-clause-closed : goal.returns-clause-closed
returns-clause-closed g c = ap relocating (open-free (slots_of c.args.self.now) c.args.self.now.contexts c.args.slot c.in-Some.context c.in-Some.ensures.value.1)

pub returns-clause-within : goal.returns-clause-within
returns-clause-within g c = (c.is_session.ensures.within c.if-not-is_session.false, c.in-Some.ensures.within)

pub returns-clause-moment : goal.returns-clause-moment
returns-clause-moment g c = omega (arith, ap (λ u. u.moment) c.issue_in.ensures.effect.is)

pub returns-then-not-is_session-clause-rest : goal.returns-then-not-is_session-clause-rest
returns-then-not-is_session-clause-rest g c = record { cleared = refl; relocations = λ p. refl }

pub returns-then-not-is_session-clause-unchanged : goal.returns-then-not-is_session-clause-unchanged
returns-then-not-is_session-clause-unchanged g c = refl

pub returns-then-came-held-clause-rest : goal.returns-then-came-held-clause-rest
returns-then-came-held-clause-rest g c = record { cleared = refl; relocations = λ p. refl }

pub returns-then-came-held-clause-unchanged : goal.returns-then-came-held-clause-unchanged
returns-then-came-held-clause-unchanged g c = refl

pub returns-then-lacks_merges-clause-rest : goal.returns-then-lacks_merges-clause-rest
returns-then-lacks_merges-clause-rest g c = record { cleared = refl; relocations = λ p. refl }

pub returns-then-lacks_merges-clause-unchanged : goal.returns-then-lacks_merges-clause-unchanged
returns-then-lacks_merges-clause-unchanged g c = refl

pub returns-in_default-clause-rest : goal.returns-in_default-clause-rest
returns-in_default-clause-rest g c = record { cleared = refl; relocations = λ p. refl }

pub returns-in_default-clause-unchanged : goal.returns-in_default-clause-unchanged
returns-in_default-clause-unchanged g c = refl

pub issue_in-requires-clause-free : goal.issue_in-requires-clause-free
issue_in-requires-clause-free g c =
    let v = c.args.self.now in
    (open-free (slots_of v) v.contexts c.args.slot c.in-Some.context c.in-Some.ensures.value.1)

pub issue_in-requires-clause-own : goal.issue_in-requires-clause-own
issue_in-requires-clause-own g c =
    let number = c.number-held.ensures in
    let came : c.home-came.result ≡ partition_of c.args.self.now.count (g.F.Functions.code (key_of c.args.op)) = c.home-came.ensures ∙ ap (λ k. partition_of c.args.self.now.count (g.F.Functions.code k)) c.key.ensures in
    sym came ∙ c.if-came-held.false ∙ number

pub issue_in-requires-clause-merging : goal.issue_in-requires-clause-merging
issue_in-requires-clause-merging g c = OnFalse_at c.if-lacks_merges.false c.lacks_merges.ensures.merges

pub returns-clause-rest : goal.returns-clause-rest
returns-clause-rest g c = ((issues-seats c.args.self.now c.issue_in.new.self c.args.slot c.in-Some.context c.args.now g.F.Functions.code c.args.op c.issue_in.ensures.effect).0)
