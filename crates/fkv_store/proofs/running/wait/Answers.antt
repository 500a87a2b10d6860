use Rattle.std.proofs.Common.{inl, inr}
use Rattle.fkv_store.proofs.StopLemmas.{tidied_so}
use Rattle.fkv_store.proofs.running.wait.Goals as goal

pub returns-in-Err : goal.returns-in-Err
returns-in-Err g c = record { only = inl (tidied_so _ _ _ c.requires.within c.in-Err.ensures.only) }

pub returns-in-Err-refresh_all : goal.returns-in-Err-refresh_all
returns-in-Err-refresh_all g c = record { only = inr c.in-Err-refresh_all.ensures.only }
