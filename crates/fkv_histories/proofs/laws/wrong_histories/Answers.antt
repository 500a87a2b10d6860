use Rattle.fkv_histories.proofs.WrongLemmas.{refuses_invented, refuses_misplaced, refuses_shared_places, refuses_other_times, refuses_unequal, refuses_shared_sessions, refuses_other_order, takes_turns}
use Rattle.fkv_histories.proofs.laws.wrong_histories.Goals as goal

pub returns : goal.returns
returns c = record {
  invented = refuses_invented;
  misplaced = refuses_misplaced;
  shared_places = refuses_shared_places;
  times = refuses_other_times;
  unequal = refuses_unequal;
  shared_sessions = refuses_shared_sessions;
  order = refuses_other_order;
  turns = takes_turns;
}
