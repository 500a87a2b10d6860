use Rattle.std.proofs.Common.{sym, ◌∙◌}
use Rattle.fkv_commands.proofs.ending.ended.Goals as goal

pub returns-clause-ends : goal.returns-clause-ends
returns-clause-ends g c =
    let run = c.run-ended.ensures in
    let same = c.from.ensures in (
      c.run-ended.result.report,
      record {
        done = λ e. run.done (sym same ∙ e);
        quiet = λ e. run.quiet (sym same ∙ e);
        fault = λ e. run.fault (sym same ∙ e);
        mistake = λ e. run.mistake (sym same ∙ e);
        only = rw same run.only;
      },
    )
