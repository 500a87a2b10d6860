use Rattle.std.proofs.Common.{IfErr, OnOk}
use Rattle.fkv_functions.specs.declared.refusals.Refused.TheVariants.{NoMemory}
use Rattle.fkv_c.specs.Stores.{RefusesList}
use Rattle.fkv_c.specs.Leading.{kind_of, LeadsAsMuch, IsStoreFault}
use Rattle.fkv_c.proofs.LeadLemmas.{led}
use Rattle.fkv_c.proofs.calls.live.Goals as goal

pub returns-in-Some-clause-same : goal.returns-in-Some-clause-same
returns-in-Some-clause-same c =
    led LeadsAsMuch c.args.handle.now.held c.put.new.self.held c.in-Some.held.value c.deref_mut.result.now c.live_held-result.new.held c.in-Some.ensures.value c.deref_mut.ensures.value c.put.ensures.value c.live_held-result.ensures.same

pub returns-in-Some-clause-unfailed : goal.returns-in-Some-clause-unfailed
returns-in-Some-clause-unfailed c =
    led (λ o n. OnOk c.live_held-result.result (RefusesList o n NoMemory)) c.args.handle.now.held c.put.new.self.held c.in-Some.held.value c.deref_mut.result.now c.live_held-result.new.held c.in-Some.ensures.value c.deref_mut.ensures.value c.put.ensures.value c.live_held-result.ensures.unfailed

pub returns-in-Some-clause-told : goal.returns-in-Some-clause-told
returns-in-Some-clause-told c =
    led (λ o n. IfErr c.live_held-result.result (IsStoreFault (kind_of o) (RefusesList o n))) c.args.handle.now.held c.put.new.self.held c.in-Some.held.value c.deref_mut.result.now c.live_held-result.new.held c.in-Some.ensures.value c.deref_mut.ensures.value c.put.ensures.value c.live_held-result.ensures.told
