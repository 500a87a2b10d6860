use Rattle.std.proofs.Common.{sym}
use Rattle.fkv_scripts.proofs.LineLemmas.{cut_line, one_line}
use Rattle.fkv_scripts.proofs.texts.split_line.Goals as goal

pub returns-in-Some-clause-lines : goal.returns-in-Some-clause-lines
returns-in-Some-clause-lines c = cut_line c.args.text.now c.in-Some.at (sym c.in-Some.ensures)

pub returns-in-None-clause-lines : goal.returns-in-None-clause-lines
returns-in-None-clause-lines c = one_line c.args.text.now (sym c.in-None.ensures) c.requires
