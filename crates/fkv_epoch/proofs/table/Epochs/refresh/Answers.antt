use Rattle.std.proofs.Common.{refl, ◌∙◌}
use Rattle.fkv_epoch.specs.Inside.{state_of}
use Rattle.fkv_epoch.specs.Moves.{renewed}
use Rattle.fkv_epoch.proofs.TimelyLemmas.{timely-by, ordered-renewed}
use Rattle.fkv_epoch.proofs.table.Epochs.refresh.Goals as goal

pub invariant_of-self : goal.invariant_of-self
invariant_of-self c =
    timely-by (renewed (state_of c.self.inside) c.args.slot) _ _ (ordered-renewed (state_of c.self.inside) c.args.slot c.self.invariant.ordered)
    refl c.put_epoch.ensures (c.deref-2.ensures.0 ∙ c.put_epoch.ensures) c.take_due.ensures.left
