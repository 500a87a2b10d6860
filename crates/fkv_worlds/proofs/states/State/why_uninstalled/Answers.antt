use Rattle.std.proofs.Common.{Option, refl, ◌∙◌, ap}
use Rattle.fkv_partition.specs.Views.{PartitionView}
use Rattle.fkv_worlds.specs.Acts.{uninstalled}
use Rattle.fkv_worlds.specs.Worlds.{asked_at}
use Rattle.fkv_worlds.proofs.ActsLemmas.{there-behind}
use Rattle.fkv_worlds.proofs.StateLemmas.{at-index}
use Rattle.fkv_worlds.proofs.states.State.why_uninstalled.Goals as goal

pub returns-in-Ok : goal.returns-in-Ok
returns-in-Ok g c =
    let there = there-behind c.self.view_is c.requires.there in
    let none = rw (← c.self.view_is) at c.requires.unasked in
    let here = at-index c.self.inside.partitions.items c.args.place.partition c.index.result.now there c.index.ensures in
    rw (← c.self.view_is) (uninstalled c.args.place c.index.result.now refl here none (rw c.in-Ok.ensures.ok refl) refl refl)

pub returns-in-Err : goal.returns-in-Err
returns-in-Err g c = c.why_late.ensures

pub why_late-requires-clause-none : goal.why_late-requires-clause-none
why_late-requires-clause-none g c =
    let there = there-behind c.self.view_is c.requires.there in
    let here = at-index c.self.inside.partitions.items c.args.place.partition c.index.result.now there c.index.ensures in
    rw (← c.self.view_is) (ap (λ (o : Option (PartitionView _ _ _)). asked_at o c.args.place.slot c.args.place.context) here ∙ c.in-Err.ensures.none)
