use Rattle.std.proofs.Common.{inr}
use Rattle.fkv_locked.proofs.locked.Locked.go.Goals as goal

pub returns-in-Err-go-clause-refused : goal.returns-in-Err-go-clause-refused
returns-in-Err-go-clause-refused g c = inr (rw (← c.self.view_is, ← c.in-Ok.ensures.now) c.in-Err-go.ensures.effect)

pub returns-clause-effect : goal.returns-clause-effect
returns-clause-effect g c = (c.in-Ok-go.progress, rw (← c.self.view_is, ← c.in-Ok.ensures.now) c.in-Ok-go.ensures.effect, c.note.ensures.tells)
