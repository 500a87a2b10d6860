use Rattle.std.proofs.Common.{subst}
use Rattle.fkv_partition.specs.KeySound.{IsSound}
use Rattle.fkv_partition.specs.Sound.{IsCompacting}
use Rattle.fkv_partition.proofs.partitions.Partition.facts.Goals as goal

pub returns-clause-sound : goal.returns-clause-sound
returns-clause-sound g c = subst (λ u. IsSound g.R.Receipt.keeps g.F.Key.Ord.cmp g.F.Mergeable.parts.joined g.F.Functions.code u) c.self.view_is c.self.invariant.sound

pub returns-clause-compacting : goal.returns-clause-compacting
returns-clause-compacting g c = subst (λ u. IsCompacting g.R.Receipt.keeps g.F.Key.Ord.cmp g.F.Mergeable.parts.joined g.F.Functions.code u) c.self.view_is c.self.invariant.compacting
