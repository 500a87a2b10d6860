use Rattle.fkv_test_storage.proofs.replays.read_back_in.Given as goal

-- the pages of the files are these
abbrev pub ghosts-read_back_on : goal.ghosts-read_back_on
ghosts-read_back_on a = record { pages = record { taken = a.taken.now; given = a.given.now } }
