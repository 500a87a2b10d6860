use Rattle.fkv_local.proofs.driving.tidy_where_grown.Goals as goal

pub returns-in-Err-clause-told : goal.returns-in-Err-clause-told
returns-in-Err-clause-told g c = c.in-Err.ensures.told
