use Rattle.fkv_either.specs.Either.{is_absent}
use Rattle.fkv_commands.proofs.tabulating.spill_by.Given as goal

-- the device keeps where no folder is named
abbrev pub ghosts-spill_on : goal.ghosts-spill_on
ghosts-spill_on g a = record { keeps = is_absent a.folder }
