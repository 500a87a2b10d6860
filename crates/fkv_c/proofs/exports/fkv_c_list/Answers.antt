use Rattle.fkv_c.specs.Stores.{RefusesList}
use Rattle.fkv_c.specs.Leading.{kind_of}
use Rattle.fkv_c.proofs.StatusLemmas.{list_fault}
use Rattle.fkv_c.proofs.exports.fkv_c_list.Goals as goal

pub returns-in-Err-clause-status : goal.returns-in-Err-clause-status
returns-in-Err-clause-status c =
    list_fault c.args.cursor.now.held (kind_of c.args.store.now.held) (RefusesList c.args.store.now.held c.list.new.from.held) c.in-Err.fault c.number.result c.number.ensures.value c.in-Err.ensures.told
