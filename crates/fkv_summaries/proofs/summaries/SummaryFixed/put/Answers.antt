-- Each number's bytes stand at its place.
use Rattle.std.proofs.Common.{refl}
use Rattle.fkv_summaries.proofs.summaries.SummaryFixed.put.Goals as goal

pub returns : goal.returns
returns c = rw (c.put.ensures, c.put-2.ensures, c.put-3.ensures, c.put-4.ensures) refl
