use Rattle.fkv_summaries.proofs.Summing.{summary_of_all, summary_of_amounts}
use Rattle.fkv_summaries.proofs.summaries.updates_come_to_summaries.Goals as goal

pub returns : goal.returns
returns c = record { updates = summary_of_all; tables = summary_of_amounts }
