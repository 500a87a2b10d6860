use Rattle.fkv_either.specs.Either.{is_absent}
use Rattle.fkv_commands.proofs.tabulating.run_of.Given as goal

-- the device keeps where no folder is named
abbrev pub ghosts-run_on : goal.ghosts-run_on
ghosts-run_on g a = record { keeps = is_absent a.folder }
