use Rattle.std.proofs.Common.{IfErr, OnOk}
use Rattle.fkv_functions.specs.Plain.{Same}
use Rattle.fkv_c.specs.Stores.{FitsIn, Refuses}
use Rattle.fkv_c.specs.Leading.{kind_of, map_of, cells_of, meaning_of, IsMade, IsNumberFault}
use Rattle.fkv_c.proofs.LeadLemmas.{led}
use Rattle.fkv_c.proofs.calls.operate.Goals as goal

pub returns-in-Some-clause-made : goal.returns-in-Some-clause-made
returns-in-Some-clause-made c =
    led (λ o n. IsMade (meaning_of o) (map_of o) (map_of n) c.args.op c.operate_held-result.result) c.args.handle.now.held c.put.new.self.held c.in-Some.held.value c.deref_mut.result.now c.operate_held-result.new.held c.in-Some.ensures.value c.deref_mut.ensures.value c.put.ensures.value c.operate_held-result.ensures.made

pub returns-in-Some-clause-cells : goal.returns-in-Some-clause-cells
returns-in-Some-clause-cells c =
    led (λ o n. Same (cells_of n) (cells_of o)) c.args.handle.now.held c.put.new.self.held c.in-Some.held.value c.deref_mut.result.now c.operate_held-result.new.held c.in-Some.ensures.value c.deref_mut.ensures.value c.put.ensures.value c.operate_held-result.ensures.cells

pub returns-in-Some-clause-fits : goal.returns-in-Some-clause-fits
returns-in-Some-clause-fits c =
    led (λ o n. OnOk c.operate_held-result.result (FitsIn o c.args.op)) c.args.handle.now.held c.put.new.self.held c.in-Some.held.value c.deref_mut.result.now c.operate_held-result.new.held c.in-Some.ensures.value c.deref_mut.ensures.value c.put.ensures.value c.operate_held-result.ensures.fits

pub returns-in-Some-clause-told : goal.returns-in-Some-clause-told
returns-in-Some-clause-told c =
    led (λ o n. IfErr c.operate_held-result.result (IsNumberFault (kind_of o) (FitsIn o c.args.op) (Refuses o n c.args.op))) c.args.handle.now.held c.put.new.self.held c.in-Some.held.value c.deref_mut.result.now c.operate_held-result.new.held c.in-Some.ensures.value c.deref_mut.ensures.value c.put.ensures.value c.operate_held-result.ensures.told
