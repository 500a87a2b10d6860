use Rattle.std.proofs.Common.{refl}
use Rattle.fkv_worlds.specs.Acts.{unkept, kept}
use Rattle.fkv_worlds.proofs.worlds.World.step.Goals as goal

pub returns-in-None-clause-effect : goal.returns-in-None-clause-effect
returns-in-None-clause-effect g c = unkept c.in-None.ensures.none refl

pub returns-in-Some-clause-effect : goal.returns-in-Some-clause-effect
returns-in-Some-clause-effect g c = kept c.in-Some.ensures.kept.acts c.in-Some.ensures.kept.steps c.in-Some.ensures.kept.outcomes
