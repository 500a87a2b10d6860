use Rattle.std.proofs.Common.{◌≡◌, Some, refl, sym, ◌∙◌, ap}
use Rattle.fkv_worlds.specs.States.{question_in}
use Rattle.fkv_lives.specs.declared.steps.Step.TheVariants.{Install}
use Rattle.fkv_worlds.proofs.ActsLemmas.{acts-untimely, acts-nowhere, there-seen, question-unasked}
use Rattle.fkv_worlds.proofs.StateLemmas.{below-by, within-by}
use Rattle.fkv_worlds.proofs.EventLemmas.{rows-of}
use Rattle.fkv_worlds.proofs.states.State.asked.Goals as goal

pub returns-in-Ok-clause-ok : goal.returns-in-Ok-clause-ok
returns-in-Ok-clause-ok g c = (rw (← c.self.view_is) (ap (λ xs. question_in xs c.args.place) (sym c.deref.ensures.value) ∙ sym c.in-Some.ensures), c.in-Ok.ensures.ok)

pub returns-in-Err-clause-refused : goal.returns-in-Err-clause-refused
returns-in-Err-clause-refused g c =
    let asks : question_in c.args.self.now.questions c.args.place ≡ Some c.in-Some.ask = rw (← c.self.view_is) (ap (λ xs. question_in xs c.args.place) (sym c.deref.ensures.value) ∙ sym c.in-Some.ensures) in
    acts-untimely _ _ g.F.Key.Ord.cmp g.F.Mergeable.parts.joined g.F.Functions.meaning g.F.Functions.code c.args.self.now (Install c.args.place) c.in-Err.refused (rw asks refl) c.in-Err.ensures.refused

pub returns-in_default-clause-refused : goal.returns-in_default-clause-refused
returns-in_default-clause-refused g c = c.why_uninstalled.ensures

pub returns-then-place-len-clause-refused : goal.returns-then-place-len-clause-refused
returns-then-place-len-clause-refused g c = acts-nowhere c.self.view_is (c.len.ensures ∙ c.self.inside.partitions.ok.0) c.if-place-len.true

pub question_at-requires-clause-partition : goal.question_at-requires-clause-partition
question_at-requires-clause-partition g c =
    let there = below-by (c.len.ensures ∙ c.self.inside.partitions.ok.0) c.if-place-len.false in
    (rows-of g.F.Key.Ord.cmp g.F.Functions.meaning g.F.Functions.code _ c.self.invariant c.args.place.partition there).0

pub question_at-requires-clause-rows : goal.question_at-requires-clause-rows
question_at-requires-clause-rows g c =
    let there = below-by (c.len.ensures ∙ c.self.inside.partitions.ok.0) c.if-place-len.false in
    within-by c.deref.ensures.value (rows-of g.F.Key.Ord.cmp g.F.Functions.meaning g.F.Functions.code _ c.self.invariant c.args.place.partition there).4

pub why_uninstalled-requires-clause-there : goal.why_uninstalled-requires-clause-there
why_uninstalled-requires-clause-there g c =
    let there = below-by (c.len.ensures ∙ c.self.inside.partitions.ok.0) c.if-place-len.false in
    there-seen c.self.view_is there

pub why_uninstalled-requires-clause-unasked : goal.why_uninstalled-requires-clause-unasked
why_uninstalled-requires-clause-unasked g c = question-unasked c.self.view_is c.args.place c.deref.ensures.value c.in_default.ensures
