use Rattle.std.proofs.Common.{◌+◌, ◌*◌, None}
use Rattle.fkv_partition.specs.Inside.{view_of}
use Rattle.fkv_partition.specs.Views.{cleared_past}
use Rattle.fkv_partition.proofs.KeepLemmas.{keep-changed, rises-past}
use Rattle.fkv_partition.proofs.MoveLemmas.{some-unclaimed}
use Rattle.fkv_partition.proofs.SoundLemmas.{sound-freed, sound-cleared}
use Rattle.fkv_partition.proofs.WholeLemmas.{none-moves}
use Rattle.fkv_partition.proofs.partitions.Partition.finish.Goals as goal

pub set_context-requires-clause-places : goal.set_context-requires-clause-places
set_context-requires-clause-places g c = c.self.invariant.sound.places

pub invariant_of-self : goal.invariant_of-self
invariant_of-self g c =
    let v = view_of g.F.Mergeable.MERGES c.self.inside.number c.self.inside.count c.self.inside.records c.self.inside.contexts.items c.self.inside.moment c.self.inside.cleared in
    let r = v.records in
    let keeps = g.R.Receipt.keeps in
    let cmp = g.F.Key.Ord.cmp in
    let join = g.F.Mergeable.parts.joined in
    let code = g.F.Functions.code in
    let place = rw (← c.self.view_is) at c.requires.place in
    let low = rw (← c.self.view_is) at c.requires.low in
    let sound = c.self.invariant.sound in
    let unclaimed = some-unclaimed v c.args.slot c.args.context (rw (← c.self.view_is) at c.requires.here) in
    rw (c.set_context.ensures, c.past-cleared.ensures, ← c.self.view_is)
    (record {
      sound = sound-cleared (sound-freed sound c.args.slot c.args.context c.args.now unclaimed) (cleared_past v c.args.place);
      compacting = keep-changed keeps cmp join code v (c.args.slot * 8 + c.args.context) c.args.now (cleared_past v c.args.place) None c.self.invariant.compacting
          (rises-past keeps cmp join code v c.args.place c.self.invariant.compacting sound.traced (rw (← c.self.view_is) at c.requires.issued) place low
          (λ yes_keeps clear. c.cleared_stay.ensures.raised keeps cmp join code r c.args.place sound.traced sound.resolved place low clear ((rw (← c.self.view_is) at c.requires.superseded) yes_keeps)))
          (λ x e. none-moves x e);
    })
