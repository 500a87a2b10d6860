use Rattle.fkv_histories.proofs.HistoryLemmas.{legal_empty, legal_more, history_map}
use Rattle.fkv_histories.proofs.laws.histories_grow.Goals as goal

pub returns : goal.returns
returns g c = record { empty = λ cmp f. legal_empty cmp f; more = λ cmp f. legal_more cmp f; map = λ cmp f. history_map cmp f }
