use Rattle.std.proofs.Common.{refl}
use Rattle.fkv_worlds.specs.Acts.{unloaded, unknown}
use Rattle.fkv_worlds.proofs.ActsLemmas.{there-behind}
use Rattle.fkv_worlds.proofs.StateLemmas.{at-index}
use Rattle.fkv_worlds.proofs.states.State.why_unloaded.Goals as goal

pub returns-in-Ok : goal.returns-in-Ok
returns-in-Ok g c =
    let there = there-behind c.self.view_is c.requires.there in
    let none = rw (← c.self.view_is) at c.requires.unasked in
    let moment = rw (← c.self.view_is) at c.requires.moment in
    let here = at-index c.self.inside.partitions.items c.args.place.partition c.index.result.now there c.index.ensures in
    rw (← c.self.view_is) (unloaded c.args.place c.args.access c.index.result.now refl here none moment (rw c.in-Ok.ensures.ok refl) refl refl)

pub returns-in-Err : goal.returns-in-Err
returns-in-Err g c =
    let there = there-behind c.self.view_is c.requires.there in
    let none = rw (← c.self.view_is) at c.requires.unasked in
    let moment = rw (← c.self.view_is) at c.requires.moment in
    let here = at-index c.self.inside.partitions.items c.args.place.partition c.index.result.now there c.index.ensures in
    rw (← c.self.view_is) (unknown c.args.place c.index.result.now refl here none moment c.in-Err.ensures.none refl refl)
