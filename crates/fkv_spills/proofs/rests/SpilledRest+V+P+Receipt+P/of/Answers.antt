use Rattle.fkv_spills.proofs.SpillLemmas.{unreadable-weaker}
use Rattle.std.proofs.Common.{sym, ap}
use Rattle.fkv_spills.proofs.rests.SpilledRest+V+P+Receipt+P.of.Goals as goal

pub returns-in-Ok-clause-ok : goal.returns-in-Ok-clause-ok
returns-in-Ok-clause-ok g c xs keeps h = record {
  kept = keeps;
  next = c.in-Ok.ensures.pair xs keeps (c.new-behind.ensures.all xs h);
  unread = c.in-Ok.ensures.after xs keeps (c.new-behind.ensures.all xs h);
}

pub returns-in-Err-clause-told : goal.returns-in-Err-clause-told
returns-in-Err-clause-told g c = (
  c.next.new.self.reader,
  unreadable-weaker _ _ _ _ _ c.in-Err.refused (ap g.P.PageReader.failures (sym c.new-behind.ensures.reader)) (λ k. (k.0, k.1, c.new-behind.ensures.all k.0 k.2)) c.in-Err.ensures.told,
)

pub returns-in-Err-clause-caused : goal.returns-in-Err-clause-caused
returns-in-Err-clause-caused g c xs keeps h = c.in-Err.ensures.caused xs keeps (c.new-behind.ensures.all xs h)
