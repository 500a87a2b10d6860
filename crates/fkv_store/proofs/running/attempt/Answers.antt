use Rattle.fkv_store.proofs.CountLemmas.{install-read, on-ok, undone-unturned}
use Rattle.fkv_store.proofs.running.attempt.Goals as goal

pub returns-in-NeedsBuild : goal.returns-in-NeedsBuild
returns-in-NeedsBuild g c = record {
  counted = on-ok c.install.result c.in-Ok.ensures.counted;
  missed = on-ok c.install.result c.in-Ok.ensures.missed;
  of = c.install.ensures.of;
  only = undone-unturned _ c.install.result c.install.ensures.only;
  steady = λ before start. on-ok c.install.result (c.in-Ok.ensures.steady before start);
  read = λ before start. install-read _ _ c.install.result _ before _ c.install.ensures.only (c.in-Ok.ensures.steady before start);
  unread = c.turn.ensures.unread;
}
