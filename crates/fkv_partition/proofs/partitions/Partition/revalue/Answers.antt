use Rattle.std.proofs.Common.{refl}
use Rattle.fkv_partition.proofs.SoundLemmas.{sound-revalued}
use Rattle.fkv_partition.proofs.WholeLemmas.{whole-records}
use Rattle.fkv_partition.proofs.PreservedLemmas.{borne-value, live-high}
use Rattle.fkv_partition.specs.Inside.{view_of}
use Rattle.fkv_lookups.specs.RecordsViews.{with_value}
use Rattle.fkv_partition.proofs.partitions.Partition.revalue.Goals as goal

pub invariant_of-self : goal.invariant_of-self
invariant_of-self g c =
    let v = (view_of g.F.Mergeable.MERGES c.self.inside.number c.self.inside.count c.self.inside.records c.self.inside.contexts.items c.self.inside.moment c.self.inside.cleared) in
    let was = v.records in
    let cmp = g.F.Key.Ord.cmp in
    let join = g.F.Mergeable.parts.joined in
    let code = g.F.Functions.code in
    let sound = c.self.invariant.sound in
    let value = c.args.value in
    let last = rw (← c.self.view_is) at c.requires.last in
    let high = rw (← c.self.view_is) at c.requires.mutable in
    rw c.replace.ensures
    (whole-records v c.self.invariant (with_value was c.args.address value) v.contexts c.args.now
    (sound-revalued sound c.args.now c.args.address value high
    (rw c.replace.ensures at c.facts-2.ensures.traced)
    (rw c.replace.ensures at c.facts-2.ensures.resolved)
    (λ q b still. c.records_change.ensures.kept cmp g.R.Receipt.keeps code was c.args.address value q b c.facts.ensures.traced last high still))
    (borne-value cmp join code v sound (record v { records = with_value was c.args.address value; moment = c.args.now }) c.args.address value high (λ q b still. c.records_change.ensures.kept cmp g.R.Receipt.keeps code was c.args.address value q b c.facts.ensures.traced last high still)
    (λ limit low clear. c.cleared_stay.ensures.changed cmp was c.args.address value limit (live-high cmp join code was sound.traced sound.resolved c.args.address last limit clear) clear) refl)
    refl (λ i x h. h))
