use Rattle.fkv_worlds.proofs.StateLemmas.{at-index, ended-set}
use Rattle.fkv_worlds.proofs.tables.end_life.Goals as goal

pub returns : goal.returns
returns g c = ended-set c.args.lives.now.items c.args.place c.index_mut.result.now _ (at-index c.args.lives.now.items c.args.place c.index_mut.result.now c.requires c.index_mut.ensures.value)
