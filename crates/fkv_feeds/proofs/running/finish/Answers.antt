use Rattle.std.proofs.Common.{◌∙◌}
use Rattle.fkv_feeds.proofs.running.finish.Goals as goal

pub returns-clause-value : goal.returns-clause-value
returns-clause-value g c = λ kept rows stands k. c.in-Ok.ensures.value kept k ∙ c.into_lists.ensures.map k ∙ stands kept k
