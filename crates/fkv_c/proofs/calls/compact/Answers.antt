use Rattle.std.proofs.Common.{IfOk, IfErr}
use Rattle.fkv_c.specs.Stores.{Compacts, RefusesCompaction}
use Rattle.fkv_c.specs.Leading.{kind_of, LeadsAsMuch, IsStoreFault}
use Rattle.fkv_c.proofs.LeadLemmas.{led}
use Rattle.fkv_c.proofs.calls.compact.Goals as goal

pub returns-in-Some-clause-same : goal.returns-in-Some-clause-same
returns-in-Some-clause-same c =
    led LeadsAsMuch c.args.handle.now.held c.put.new.self.held c.in-Some.held.value c.deref_mut.result.now c.compact_held-result.new.held c.in-Some.ensures.value c.deref_mut.ensures.value c.put.ensures.value c.compact_held-result.ensures.same

pub returns-in-Some-clause-compacts : goal.returns-in-Some-clause-compacts
returns-in-Some-clause-compacts c =
    led (λ o n. IfOk c.compact_held-result.result (Compacts o n)) c.args.handle.now.held c.put.new.self.held c.in-Some.held.value c.deref_mut.result.now c.compact_held-result.new.held c.in-Some.ensures.value c.deref_mut.ensures.value c.put.ensures.value c.compact_held-result.ensures.compacts

pub returns-in-Some-clause-told : goal.returns-in-Some-clause-told
returns-in-Some-clause-told c =
    led (λ o n. IfErr c.compact_held-result.result (IsStoreFault (kind_of o) (RefusesCompaction o n))) c.args.handle.now.held c.put.new.self.held c.in-Some.held.value c.deref_mut.result.now c.compact_held-result.new.held c.in-Some.ensures.value c.deref_mut.ensures.value c.put.ensures.value c.compact_held-result.ensures.told
