use Rattle.fkv_steps.specs.Printing.{line, step_text, steps_text, map_text}
use Rattle.fkv_steps.proofs.PrintingLemmas.{first-piece, all-pieces, both-parts}
use Rattle.fkv_steps.proofs.scripts.printing.text_of.Goals as goal

pub loop-step-preserved : goal.loop-step-preserved
loop-step-preserved g c =
    first-piece (λ r. line (step_text g.V.Printed.text g.O.Printed.text r)) c.args.steps.now c.loop-step.step-index c.step-item.result c.loop-step.text.items c.add_step.new.text.items
    c.loop-step-test.true c.step-item.is c.loop-step.invariant c.in-Ok.ensures.ok

pub returns-in-Ok-add_map-clause-ok : goal.returns-in-Ok-add_map-clause-ok
returns-in-Ok-add_map-clause-ok g c =
    both-parts (steps_text g.V.Printed.text g.O.Printed.text c.args.steps.now) (map_text g.V.Printed.text c.args.pairs.now) c.loop-step.text.items c.add_map.new.text.items
    (all-pieces (λ r. line (step_text g.V.Printed.text g.O.Printed.text r)) c.args.steps.now c.loop-step.step-index c.loop-step.text.items c.loop-step-test.false c.loop-step.invariant) c.in-Ok-add_map.ensures.ok
