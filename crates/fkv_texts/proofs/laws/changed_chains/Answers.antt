use Rattle.fkv_texts.proofs.ChangeLemmas.{chained-changed, last_of_class-changed, leads-changed}
use Rattle.fkv_texts.proofs.laws.changed_chains.Goals as goal

pub returns : goal.returns
returns g c = record {
  kept = λ class same begin text a v h. chained-changed a v class same begin text h;
  last = λ class same text a v cl. last_of_class-changed a v class same text cl;
  leads = λ class same begin text a v cl p h. leads-changed a v class same begin text cl p h;
}
