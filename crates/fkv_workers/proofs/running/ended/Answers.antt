use Rattle.std.proofs.Common.{⊎_elim, inl, inr}
use Rattle.fkv_workers.proofs.running.ended.Goals as goal

pub returns-in-Err-clause-refused : goal.returns-in-Err-clause-refused
returns-in-Err-clause-refused g c = ⊎_elim (λ memory. inl memory) (λ first. inr (inl first)) c.in-Err.ensures.refused

pub returns-in-Err-kept-clause-refused : goal.returns-in-Err-kept-clause-refused
returns-in-Err-kept-clause-refused g c = inr (inr (c.in-Err-kept.is, c.in-Ok.ensures.none))
