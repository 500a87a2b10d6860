use Rattle.fkv_store.specs.Runs.{IsSaid}
use Rattle.fkv_store.proofs.CountLemmas.{said-fault}
use Rattle.fkv_store.proofs.holds.load.Goals as goal

pub returns-then-is_page_fault-clause-said : goal.returns-then-is_page_fault-clause-said
returns-then-is_page_fault-clause-said g c =
    said-fault g.D.Receipt.Receipt.keeps c.args.came c.fault_in-fault.result c.load.result c.in-Err.refused c.told_of_load-why.result _ c.fault_in-fault.ensures
    (c.is_page_fault.ensures.0 c.if-is_page_fault.true) c.told_of_load-why.ensures.fault c.in-Err.is c.load.ensures.undamaged
