use Rattle.fkv_feed_rows.proofs.reading.read_feed.Given as goal

abbrev pub ghosts-read_lent : goal.ghosts-read_lent
ghosts-read_lent g a = record { name = a.source.ghost_name; count = g.S.Source.failures a.source.now }
