-- Command lines that are written out, whatever the program's name, and what they ask for.
use Rattle.std.specs.Prelude.{◌≡◌, [], ◌∷◌, codes}
use Rattle.clap.specs.Words.{Text, fault_of}
use Rattle.clap.specs.declared.error.kind.ErrorKind.TheVariants.{DisplayHelp, DisplayVersion, UnknownArgument, InvalidSubcommand}
use Rattle.fkv_requests.specs.Requests.{program, AsksReplay}

abbrev pub AsksByNoWord : Type 0
AsksByNoWord = (name : Text) → AsksReplay (name ∷ [])

abbrev pub AsksByReplay : Type 0
AsksByReplay = (name : Text) → AsksReplay (name ∷ codes "replay" ∷ [])

-- it is help and nothing else that is asked for
abbrev pub AsksHelpByOption : Type 0
AsksHelpByOption = (name : Text) → fault_of program (name ∷ codes "--help" ∷ []) ≡ DisplayHelp ∷ []

-- and the version
abbrev pub AsksVersionByOption : Type 0
AsksVersionByOption = (name : Text) → fault_of program (name ∷ codes "--version" ∷ []) ≡ DisplayVersion ∷ []

-- a word that is no subcommand is a mistake, as this one
abbrev pub IsMistakenWord : Type 0
IsMistakenWord = (name : Text) → fault_of program (name ∷ codes "reply" ∷ []) ≡ UnknownArgument ∷ InvalidSubcommand ∷ []

-- and so is a word behind the subcommand, as this one
abbrev pub IsMistakenMore : Type 0
IsMistakenMore = (name : Text) → fault_of program (name ∷ codes "replay" ∷ codes "more" ∷ []) ≡ UnknownArgument ∷ []
