use Rattle.std.proofs.Common.{◌≡◌, sym, ◌∙◌}
use Rattle.std.specs.Prelude.{is_none}
use Rattle.std.specs.List.{position}
use Rattle.fkv_epoch.specs.Inside.{state_of}
use Rattle.fkv_epoch.proofs.TimelyLemmas.{timely-entered}
use Rattle.fkv_epoch.proofs.table.Epochs.enter.Goals as goal

pub invariant_of-self : goal.invariant_of-self
invariant_of-self c =
    let lowest : c.lowest_free.result ≡ position is_none c.self.inside.slots.items = rw c.deref.ensures.0 at c.lowest_free.ensures in
    rw c.put_epoch.ensures (timely-entered (state_of c.self.inside) c.in-Some.free c.self.invariant (sym lowest ∙ c.in-Some.is))
