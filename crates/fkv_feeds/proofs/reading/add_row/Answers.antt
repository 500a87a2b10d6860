use Rattle.std.specs.Int.{w64}
use Rattle.std.proofs.lemmas.Int.{to_z-of_z}
use Rattle.fkv_feeds.proofs.RunLemmas.{stands-run, stands-update, refused-row}
use Rattle.fkv_feeds.proofs.reading.add_row.Goals as goal

pub returns-in-Ok-clause-ok : goal.returns-in-Ok-clause-ok
returns-in-Ok-clause-ok g c = λ rows stand.
    stands-run g.D.Receipt.Receipt.keeps g.F.Functions.meaning g.F.Functions.code c.args.rows.now.store c.rmw.new.self rows c.args.key.now c.args.amount _
    (rw (to_z-of_z w64 c.args.amount c.ranges.amount) at c.in-Ok.ensures.runs) stand

pub returns-in-Err-clause-told : goal.returns-in-Err-clause-told
returns-in-Err-clause-told g c = refused-row g.D.Disk.failures g.D.Writer.PageWriter.failures g.D.Reader.PageReader.failures c.in-Err.ensures.caused c.in-Err.ensures.told

pub returns-in-Ok-update_or_merge-clause-ok : goal.returns-in-Ok-update_or_merge-clause-ok
returns-in-Ok-update_or_merge-clause-ok g c = λ rows stand.
    stands-update g.D.Receipt.Receipt.keeps g.F.Functions.meaning g.F.Functions.code c.args.rows.now.store c.update_or_merge.new.self rows c.args.key.now c.args.amount _
    (rw (to_z-of_z w64 c.args.amount c.ranges.amount) at c.in-Ok-update_or_merge.ensures.runs) stand

pub returns-in-Err-update_or_merge-clause-told : goal.returns-in-Err-update_or_merge-clause-told
returns-in-Err-update_or_merge-clause-told g c = refused-row g.D.Disk.failures g.D.Writer.PageWriter.failures g.D.Reader.PageReader.failures c.in-Err-update_or_merge.ensures.caused c.in-Err-update_or_merge.ensures.told
