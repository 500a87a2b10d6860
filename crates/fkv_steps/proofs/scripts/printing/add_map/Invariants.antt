use Rattle.std.proofs.Common.{◌≡◌, ◌++◌, take}
use Rattle.std.specs.List.{flat_map}
use Rattle.fkv_steps.specs.Printing.{line, pair_text}
use Rattle.fkv_steps.proofs.scripts.printing.add_map.Given as goal

abbrev pub invariant-loop-key : goal.invariant-loop-key
invariant-loop-key g l = l.text.items ≡ l.initial.text.items ++ flat_map (λ p. line (pair_text g.V.Printed.text p)) (take l.key-index l.pairs)
