use Rattle.std.proofs.Common.{rules}
use Rattle.fkv_commands.proofs.TellingLemmas.{told_from_front, told_nothing}
use Rattle.fkv_commands.proofs.reporting.RunReport.tell.Goals as goal

pub returns-in-Ok : goal.returns-in-Ok
returns-in-Ok g c = (
  c.in-Ok.text.items,
  c.in-Ok.ensures.ok,
  told_from_front _ _ _ _ (search rules) c.write_out-untold.result
      c.write_out-untold.ensures.ok c.write_out-untold.ensures.refused,
)

pub returns-in_default : goal.returns-in_default
returns-in_default g c = told_nothing c.args.shown c.args.sized c.args.self.now _
