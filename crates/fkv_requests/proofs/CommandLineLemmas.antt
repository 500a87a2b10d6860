-- What command lines that are written out ask for: by clap's rules, computed.
use Rattle.std.proofs.Common.{refl}
use Rattle.clap.proofs.OnLiterals.{clap_on_literals}
use Rattle.fkv_requests.specs.Requests.{AsksReplay}
use Rattle.fkv_requests.specs.CommandLines.{AsksByNoWord, AsksByReplay, AsksHelpByOption, AsksVersionByOption, IsMistakenWord, IsMistakenMore}

pub no_word : AsksByNoWord
unfolding clap_on_literals AsksReplay
no_word name = (refl, refl)

pub replay_word : AsksByReplay
unfolding clap_on_literals AsksReplay
replay_word name = (refl, refl)

pub help_option : AsksHelpByOption
unfolding clap_on_literals
help_option name = refl

pub version_option : AsksVersionByOption
unfolding clap_on_literals
version_option name = refl

pub other_word : IsMistakenWord
unfolding clap_on_literals
other_word name = refl

pub one_more_word : IsMistakenMore
unfolding clap_on_literals
one_more_word name = refl
