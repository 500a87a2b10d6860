use Rattle.std.proofs.Common.{sym, ◌∙◌, ap}
use Rattle.fkv_scripts.specs.Words.{words_left}
use Rattle.fkv_scripts.proofs.WordLemmas.{cut_at, no_cut}
use Rattle.fkv_scripts.proofs.words.Words.next.Goals as goal

pub returns-in-Some : goal.returns-in-Some
returns-in-Some c = sym c.self.view_is ∙ ap words_left c.in_ok-rest.was ∙ cut_at c.in_ok-rest.rest.now c.in-Some.at (sym c.in-Some.ensures)

pub returns-in-None : goal.returns-in-None
returns-in-None c = sym c.self.view_is ∙ ap words_left c.in_ok-rest.was ∙ no_cut c.in_ok-rest.rest.now (sym c.in-None.ensures)
