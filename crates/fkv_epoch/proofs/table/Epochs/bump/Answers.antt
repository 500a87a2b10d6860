use Rattle.std.proofs.Common.{refl, ◌<◌, length, arith}
use Rattle.std.proofs.lemmas.Grind.{common_steps}
use Rattle.fkv_epoch.specs.Inside.{state_of}
use Rattle.fkv_epoch.specs.Moves.{bumped}
use Rattle.fkv_epoch.proofs.TimelyLemmas.{timely-by, ordered-bumped}
use Rattle.fkv_epoch.proofs.table.Epochs.bump.Goals as goal

pub invariant_of-self : goal.invariant_of-self
invariant_of-self c =
    let free : length c.self.inside.waiting.items < 16 = grind (arith, common_steps) in
    timely-by (bumped (state_of c.self.inside) c.args.action) _ _ (ordered-bumped (state_of c.self.inside) c.args.action c.self.invariant.ordered free)
    refl refl c.deref.ensures.0 (rw c.push.ensures.items at c.take_due.ensures.left)
