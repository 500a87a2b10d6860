use Rattle.fkv_scripts.proofs.OneReadingLemmas.{says_once, opens_once, is_bad_once, good_is_not_bad}
use Rattle.fkv_scripts.proofs.laws.one_reading.Goals as goal

pub returns : goal.returns
returns c = record { line = says_once; opening = opens_once; bad = is_bad_once; good = good_is_not_bad }
