use Rattle.fkv_hybrid.proofs.ScanLemmas.{begins}
use Rattle.fkv_hybrid.proofs.log.Log.scan.Goals as goal

pub returns-clause-scan : goal.returns-clause-scan
returns-clause-scan g c = begins _ _ c.args.self.now c.facts.ensures.log c.begin.result c.begin.ensures
