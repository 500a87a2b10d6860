use Rattle.std.proofs.Common.{inr}
use Rattle.fkv_locked.proofs.locked.Locked.install.Goals as goal

pub returns-in-Err-install-clause-refused : goal.returns-in-Err-install-clause-refused
returns-in-Err-install-clause-refused g c = inr (rw (← c.self.view_is, ← c.in-Ok.ensures.now) c.in-Err-install.ensures.effect)

pub returns-clause-effect : goal.returns-clause-effect
returns-clause-effect g c = (c.in-Ok-install.progress, rw (← c.self.view_is, ← c.in-Ok.ensures.now) c.in-Ok-install.ensures.effect, c.note.ensures.tells)
