use Rattle.std.proofs.Common.{◌≡◌, take}
use Rattle.fkv_regions.specs.Offsets.{ran_all}
use Rattle.fkv_regions.proofs.offsets.run.Given as goal

abbrev pub invariant-loop-action : goal.invariant-loop-action
invariant-loop-action l = l.offsets ≡ ran_all l.initial.offsets (take l.action-index l.due)
