use Rattle.std.proofs.Common.{◌∙◌, refl, sym}
use Rattle.std.proofs.lemmas.Bool.{false≢true}
use Rattle.fkv_partition.specs.Views.{slots_of}
use Rattle.fkv_partition.proofs.ApartLemmas.{later-still, some-all}
use Rattle.fkv_partition.proofs.AtOnceLemmas.{done-at-once}
use Rattle.fkv_partition.proofs.MoveLemmas.{open-free}
use Rattle.fkv_partition.proofs.SeatLemmas.{goes-seats, issues-seats}
use Rattle.fkv_partition.proofs.partitions.Partition.try_write_in_place.Goals as goal

pub returns-clause-done : goal.returns-clause-done
returns-clause-done g c =
    let v = c.args.self.now in
    let inside = sym c.is_session.ensures.value ∙ c.if-not-is_session.false in
    let first = c.in-Some.ensures.value in
    (done-at-once g.R.Receipt.stands g.F.Key.Ord.cmp g.F.Mergeable.parts.joined g.F.Functions.meaning g.F.Functions.code v c.write_at_once.new.self c.args.slot c.in-Some.context c.args.op.now c.args.issued c.args.now
    inside first
    (λ p issues. (issues-seats v p c.args.slot c.in-Some.context c.args.issued g.F.Functions.code c.args.op.now issues).0)
    (λ p result goes. (goes-seats p c.write_at_once.new.self c.args.slot c.in-Some.context c.args.now g.R.Receipt.stands g.F.Key.Ord.cmp g.F.Mergeable.parts.joined g.F.Functions.meaning g.F.Functions.code result goes).0)
    c.write_at_once.result c.write_at_once.ensures.done)

pub returns-clause-left : goal.returns-clause-left
returns-clause-left g c = λ none h. c.write_at_once.ensures.left none h.hand

pub returns-clause-within : goal.returns-clause-within
returns-clause-within g c = some-all c.write_at_once.result (c.is_session.ensures.within c.if-not-is_session.false)

pub returns-then-not-is_session-clause-left : goal.returns-then-not-is_session-clause-left
returns-then-not-is_session-clause-left g c =
    let out = (sym c.is_session.ensures.value ∙ c.if-not-is_session.true) in
    λ none hand. absurd (false≢true (sym out ∙ hand.entered))

pub returns-then-not-is_session-clause-none : goal.returns-then-not-is_session-clause-none
returns-then-not-is_session-clause-none g c = λ none. refl

pub returns-then-not-is_session-clause-moment : goal.returns-then-not-is_session-clause-moment
returns-then-not-is_session-clause-moment g c = later-still c.requires.later c.requires.after

pub first_free-requires-clause-session : goal.first_free-requires-clause-session
first_free-requires-clause-session g c = c.is_session.ensures.within c.if-not-is_session.false

pub first_free-requires-clause-entered : goal.first_free-requires-clause-entered
first_free-requires-clause-entered g c = (sym c.is_session.ensures.value ∙ c.if-not-is_session.false)

pub returns-in_default-clause-left : goal.returns-in_default-clause-left
returns-in_default-clause-left g c = λ none hand. absurd (c.in_default.ensures.value hand.context hand.free.0 hand.free.1)

pub returns-in_default-clause-none : goal.returns-in_default-clause-none
returns-in_default-clause-none g c = λ none. refl

pub returns-in_default-clause-moment : goal.returns-in_default-clause-moment
returns-in_default-clause-moment g c = later-still c.requires.later c.requires.after

pub write_at_once-requires-clause-later : goal.write_at_once-requires-clause-later
write_at_once-requires-clause-later g c = c.requires.later

pub write_at_once-requires-clause-after : goal.write_at_once-requires-clause-after
write_at_once-requires-clause-after g c = c.requires.after

pub write_at_once-requires-clause-session : goal.write_at_once-requires-clause-session
write_at_once-requires-clause-session g c = c.is_session.ensures.within c.if-not-is_session.false

pub write_at_once-requires-clause-entered : goal.write_at_once-requires-clause-entered
write_at_once-requires-clause-entered g c = sym c.is_session.ensures.value ∙ c.if-not-is_session.false

pub write_at_once-requires-clause-context : goal.write_at_once-requires-clause-context
write_at_once-requires-clause-context g c = c.in-Some.ensures.within

pub write_at_once-requires-clause-free : goal.write_at_once-requires-clause-free
write_at_once-requires-clause-free g c =
    let v = c.args.self.now in
    (open-free (slots_of v) v.contexts c.args.slot c.in-Some.context c.in-Some.ensures.value.1)

pub returns-clause-none : goal.returns-clause-none
returns-clause-none g c = λ none. c.write_at_once.ensures.none none

pub returns-clause-moment : goal.returns-clause-moment
returns-clause-moment g c = c.write_at_once.ensures.moment
