use Rattle.std.proofs.Common.{subst}
use Rattle.fkv_store.specs.Rows.{AreMade}
use Rattle.fkv_workers.proofs.MadeLemmas.{stands_all, long_all, all_told}
use Rattle.fkv_workers.proofs.working.update_all.Goals as goal

pub returns-in-Ok-clause-ok : goal.returns-in-Ok-clause-ok
returns-in-Ok-clause-ok g c = λ fit before h.
    let old = c.args.pass.now in
    let new = c.update_all.new.self in
    let rows = c.args.rows.now in
    let keeps = g.H.Recorder.keeps in
    let code = g.F.Functions.code in
    let made = subst (λ how. AreMade keeps code how c.args.store.now old rows new) c.loads_of-loads.ensures c.in-Ok.ensures.ok in
    stands_all keeps code c.args.mode c.args.store.now old new rows before c.in-Ok.ensures.own.1 fit made h

pub returns-in-Ok-clause-long : goal.returns-in-Ok-clause-long
returns-in-Ok-clause-long g c = long_all g.H.Recorder.keeps g.F.Functions.code c.loads_of-loads.result c.args.store.now c.args.pass.now c.update_all.new.self c.args.rows.now c.in-Ok.ensures.ok

pub returns-in-Err-clause-told : goal.returns-in-Err-clause-told
returns-in-Err-clause-told g c = all_told g.H.Recorder.keeps g.F.Functions.code c.loads_of-loads.result c.args.store.now g.D.Receipt.Receipt.keeps c.args.pass.now c.update_all.new.self c.args.rows.now c.in-Err.refused c.in-Err.ensures.refused
