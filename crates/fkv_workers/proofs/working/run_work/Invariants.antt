use Rattle.fkv_workers.proofs.working.run_work.Given as goal

abbrev pub ghosts-read_by : goal.ghosts-read_by
ghosts-read_by g a = record { mode = a.asked.mode }
