use Rattle.fkv_operations.specs.declared.operations.KeyedOp.TheVariants.{Delete}
use Rattle.fkv_c.specs.Leading.{IsCellPerformed}
use Rattle.fkv_c.proofs.LeadLemmas.{keyed}
use Rattle.fkv_c.proofs.cell_exports.fkv_c_remove.Goals as goal

pub returns-in-Some-clause-performed : goal.returns-in-Some-clause-performed
returns-in-Some-clause-performed c =
    keyed (λ op. IsCellPerformed c.args.store.now.held c.perform.new.store.held op c.perform.result) (λ n. Delete n) c.args.name.now c.in-Some.key c.in-Some.ensures.some c.perform.ensures
