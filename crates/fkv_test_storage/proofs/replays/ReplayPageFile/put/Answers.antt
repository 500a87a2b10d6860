use Rattle.std.proofs.Common.{Contains, subst}
use Rattle.fkv_test_storage.proofs.replays.ReplayPageFile.put.Goals as goal

pub returns-then-is_some : goal.returns-then-is_some
returns-then-is_some g c = record { taken = λ t. subst (λ p. Contains p.taken c.args.bytes.now) c.args.self.now.known (c.stands_in.ensures t) }
