use Rattle.std.proofs.Common.{◌≡◌, take}
use Rattle.fkv_steps.specs.Printing.{steps_text}
use Rattle.fkv_steps.proofs.scripts.printing.text_of.Given as goal

abbrev pub invariant-loop-step : goal.invariant-loop-step
invariant-loop-step g l = l.text.items ≡ steps_text g.V.Printed.text g.O.Printed.text (take l.step-index l.steps)
