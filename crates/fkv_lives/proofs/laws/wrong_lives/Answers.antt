use Rattle.fkv_lives.proofs.WrongLemmas.{refuses_invented, counts_once, refuses_shared_steps, refuses_other_times, refuses_early_updates, refuses_unowned, refuses_unissued, reads_issues, refuses_unasked, refuses_crossed, reads_owners}
use Rattle.fkv_lives.proofs.laws.wrong_lives.Goals as goal

pub returns : goal.returns
returns c = record {
  invented = refuses_invented;
  once = counts_once;
  shared = refuses_shared_steps;
  times = refuses_other_times;
  updates = refuses_early_updates;
  owned = refuses_unowned;
  issued = refuses_unissued;
  read = reads_issues;
  asked = refuses_unasked;
  crossed = refuses_crossed;
  owners = reads_owners;
}
