use Rattle.fkv_scripts.proofs.WordLemmas.{empty_words}
use Rattle.fkv_scripts.proofs.words.Words.is_empty.Goals as goal

pub returns : goal.returns
returns c = rw (← c.self.view_is) (empty_words c.self.inside.rest c.is_none.result c.is_none.ensures)
