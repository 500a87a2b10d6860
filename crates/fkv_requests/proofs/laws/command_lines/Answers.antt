use Rattle.fkv_requests.proofs.CommandLineLemmas.{no_word, replay_word, help_option, version_option, other_word, one_more_word}
use Rattle.fkv_requests.proofs.laws.command_lines.Goals as goal

pub returns : goal.returns
returns c = record { none = no_word; replay = replay_word; help = help_option; version = version_option; word = other_word; more = one_more_word }
