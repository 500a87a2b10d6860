use Rattle.std.proofs.Common.{rules}
use Rattle.fkv_locked.proofs.ListLemmas.{map_set_add}
use Rattle.fkv_locked.proofs.owns.add_at.Goals as goal

pub returns-clause-entries : goal.returns-clause-entries
returns-clause-entries g c k =
    map_set_add g.H.Recorder.entries c.args.own.now.items c.args.place c.add.new.self c.index_mut.result.now c.args.entry
    (search rules) c.index_mut.ensures.value (c.add.ensures.entries k)
