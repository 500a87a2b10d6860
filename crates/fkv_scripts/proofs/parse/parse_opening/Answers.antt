use Rattle.std.proofs.Common.{◌∙◌}
use Rattle.fkv_scripts.specs.Words.{words_of}
use Rattle.fkv_scripts.proofs.GrammarLemmas.{opening_found_if, opening_only}
use Rattle.fkv_scripts.proofs.parse.parse_opening.Goals as goal

pub returns-clause-found : goal.returns-clause-found
returns-clause-found c = opening_found_if (words_of c.args.bytes.now) c.opening.result c.opening.ensures

pub returns-clause-only : goal.returns-clause-only
returns-clause-only c = λ o h. c.opening.ensures ∙ opening_only o (words_of c.args.bytes.now) h
