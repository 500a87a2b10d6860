use Rattle.std.proofs.Common.{IfErr}
use Rattle.fkv_c.specs.Stores.{CellsRefuse}
use Rattle.fkv_functions.specs.Plain.{Same}
use Rattle.fkv_c.specs.Cells.{blind}
use Rattle.fkv_c.specs.Leading.{kind_of, map_of, cells_of, IsMade, IsCellFault}
use Rattle.fkv_c.proofs.LeadLemmas.{led}
use Rattle.fkv_c.proofs.cell_calls.operate_cells.Goals as goal

pub returns-in-Some-clause-made : goal.returns-in-Some-clause-made
returns-in-Some-clause-made c =
    led (λ o n. IsMade blind (cells_of o) (cells_of n) c.args.op c.operate_cells_held-result.result) c.args.handle.now.held c.put.new.self.held c.in-Some.held.value c.deref_mut.result.now c.operate_cells_held-result.new.held c.in-Some.ensures.value c.deref_mut.ensures.value c.put.ensures.value c.operate_cells_held-result.ensures.made

pub returns-in-Some-clause-numbers : goal.returns-in-Some-clause-numbers
returns-in-Some-clause-numbers c =
    led (λ o n. Same (map_of n) (map_of o)) c.args.handle.now.held c.put.new.self.held c.in-Some.held.value c.deref_mut.result.now c.operate_cells_held-result.new.held c.in-Some.ensures.value c.deref_mut.ensures.value c.put.ensures.value c.operate_cells_held-result.ensures.numbers

pub returns-in-Some-clause-told : goal.returns-in-Some-clause-told
returns-in-Some-clause-told c =
    led (λ o n. IfErr c.operate_cells_held-result.result (IsCellFault (kind_of o) (CellsRefuse o n c.args.op))) c.args.handle.now.held c.put.new.self.held c.in-Some.held.value c.deref_mut.result.now c.operate_cells_held-result.new.held c.in-Some.ensures.value c.deref_mut.ensures.value c.put.ensures.value c.operate_cells_held-result.ensures.told
