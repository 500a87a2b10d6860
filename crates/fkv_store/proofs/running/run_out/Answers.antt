use Rattle.std.proofs.Common.{◌≡◌, ap, arith}
use Rattle.fkv_store.specs.Runs.{TurnsView}
use Rattle.fkv_store.proofs.CountLemmas.{plain-counted, undone-plain}
use Rattle.fkv_store.proofs.StopLemmas.{undone_stopped, undone_on}
use Rattle.fkv_store.proofs.running.run_out.Goals as goal

pub returns-in-Err-clause-only : goal.returns-in-Err-clause-only
returns-in-Err-clause-only g c = undone_stopped _ _ c.in-Err.ensures.only

pub returns-in-Err-clause-stalled : goal.returns-in-Err-clause-stalled
returns-in-Err-clause-stalled g c = λ is. absurd (undone_on _ _ c.in-Err.ensures.only is)

pub returns-in-Err-clause-counted : goal.returns-in-Err-clause-counted
returns-in-Err-clause-counted g c =
    let none : c.none.result.missed ≡ 0 = ap (λ (t : TurnsView). t.missed) c.none.ensures in
    plain-counted g.D.Receipt.Receipt.keeps (g.D.Reader.PageReader.failures c.args.reader.now) (g.D.Reader.PageReader.failures c.args.reader.now) c.none.result.missed c.in-Err.refused (undone-plain _ _ c.in-Err.ensures.only) (omega arith)
