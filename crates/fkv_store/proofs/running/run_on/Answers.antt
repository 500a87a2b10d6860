use Rattle.std.proofs.Common.{◌∙◌, ◌+◌, ap}
use Rattle.fkv_store.proofs.CountLemmas.{plain-counted, waited-plain}
use Rattle.fkv_store.proofs.running.run_on.Goals.{in-Next, in-NeedsLoad+else-not-reads, in-Waits+in-Ok-wait}
use Rattle.fkv_store.proofs.StopLemmas.{unturned_stopped, unturned_on, waited_stopped, waited_on}
use Rattle.fkv_store.proofs.running.run_on.Goals as goal

pub returns-in-Err-clause-counted : goal.returns-in-Err-clause-counted
returns-in-Err-clause-counted g c = c.in-Err.ensures.read (g.D.Reader.PageReader.failures c.args.reader.now) c.loop-turn.invariant.steady

pub returns-in-Done-clause-steady : goal.returns-in-Done-clause-steady
returns-in-Done-clause-steady g c = c.in-Ok.ensures.steady (g.D.Reader.PageReader.failures c.args.reader.now) c.loop-turn.invariant.steady

pub returns-then-not-reads-clause-steady : goal.returns-then-not-reads-clause-steady
returns-then-not-reads-clause-steady g c =
    c.in-Ok.ensures.steady (g.D.Reader.PageReader.failures c.args.reader.now) c.loop-turn.invariant.steady

pub returns-in-Err-wait-clause-counted : goal.returns-in-Err-wait-clause-counted
returns-in-Err-wait-clause-counted g c =
    plain-counted g.D.Receipt.Receipt.keeps (g.D.Reader.PageReader.failures c.args.reader.now) (g.D.Reader.PageReader.failures c.attempt.new.reader)
    c.attempt.new.turned.missed c.in-Err-wait.refused (waited-plain _ c.in-Err-wait.ensures.only)
    (c.in-Ok.ensures.steady (g.D.Reader.PageReader.failures c.args.reader.now) c.loop-turn.invariant.steady)

pub loop-turn-preserved : goal.loop-turn-preserved
loop-turn-preserved g c = record {
  turned = c.in-Ok.ensures.counted ∙ ap (λ n. n + 1) c.loop-turn.invariant.turned;
  missed = c.in-Ok.ensures.missed;
  steady = c.in-Ok.ensures.steady (g.D.Reader.PageReader.failures c.args.reader.now) c.loop-turn.invariant.steady;
  unread = λ r. (
    elim c.match-made.branch [
      | in-Next w ↦ w.wanted-is
      | in-NeedsLoad+else-not-reads w ↦ (let t = w.if-not-reads.false in absurd (cc))
      | in-Waits+in-Ok-wait w ↦ w.wanted-is
    ],
    c.in-Ok.ensures.unread (c.loop-turn.invariant.unread r).0 ∙ (c.loop-turn.invariant.unread r).1,
  );
}

pub returns-in-Err-clause-only : goal.returns-in-Err-clause-only
returns-in-Err-clause-only g c = unturned_stopped _ _ c.in-Err.ensures.only

pub returns-in-Err-clause-stalled : goal.returns-in-Err-clause-stalled
returns-in-Err-clause-stalled g c = λ is. absurd (unturned_on _ _ c.in-Err.ensures.only is)

pub returns-in-Err-wait-clause-only : goal.returns-in-Err-wait-clause-only
returns-in-Err-wait-clause-only g c = waited_stopped _ _ c.in-Err-wait.ensures.only

pub returns-in-Err-wait-clause-stalled : goal.returns-in-Err-wait-clause-stalled
returns-in-Err-wait-clause-stalled g c = λ is. absurd (waited_on _ c.in-Err-wait.ensures.only is)

pub returns-clause-counted : goal.returns-clause-counted
returns-clause-counted g c = c.loop-turn.invariant.steady
