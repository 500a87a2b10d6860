use Rattle.std.proofs.Common.{Option, refl, sym, ◌∙◌, ap, arith}
use Rattle.fkv_lives.specs.declared.steps.Step.TheVariants.{Install}
use Rattle.fkv_partition.specs.Views.{PartitionView}
use Rattle.fkv_worlds.specs.Acts.{unknown}
use Rattle.fkv_worlds.specs.Worlds.{asked_at}
use Rattle.fkv_worlds.proofs.ActsLemmas.{acts-untimely, late-first}
use Rattle.fkv_worlds.proofs.StateLemmas.{some-at}
use Rattle.fkv_worlds.proofs.states.State.why_late.Goals as goal

pub returns-in-Ok : goal.returns-in-Ok
returns-in-Ok g c =
    let v = some-at c.args.self.now.partitions c.args.place.partition c.requires.there in
    let next = c.in-Ok.ensures.ok.next in
    let fits = c.in-Ok.ensures.ok.fits in
    unknown c.args.place v.0 refl v.1 c.requires.unasked (omega (arith, next, fits))
    (ap (λ (o : Option (PartitionView _ _ _)). asked_at o c.args.place.slot c.args.place.context) (sym v.1) ∙ c.requires.none) refl refl

pub returns-in-Err : goal.returns-in-Err
returns-in-Err g c = acts-untimely _ _ g.F.Key.Ord.cmp g.F.Mergeable.parts.joined g.F.Functions.meaning g.F.Functions.code c.args.self.now (Install c.args.place) c.in-Err.refused (late-first c.args.self.now c.args.place c.requires.none) c.in-Err.ensures.refused
