use Rattle.std.proofs.Common.{sym, ap}
use Rattle.fkv_runs.specs.Merging.{first_key}
use Rattle.fkv_spills.proofs.HeldLemmas.{merge-key, merge-none}
use Rattle.fkv_spills.proofs.merging.ReadMergeReadPairs.next_name.Goals as goal

pub returns-in-Some : goal.returns-in-Some
returns-in-Some g c xs h = merge-key g.P.ReadPairs.holds c.args.self.now.rests.items c.args.self.now.first xs h c.in-Some.field-0-0 c.in-Some.name c.in-Some.is

pub returns-in-None : goal.returns-in-None
returns-in-None g c xs h = sym (ap first_key (merge-none g.P.ReadPairs.holds c.args.self.now.rests.items c.args.self.now.first xs h c.in-None.is))
