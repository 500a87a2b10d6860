use Rattle.std.proofs.Common.{refl}
use Rattle.fkv_spills.proofs.SpillLemmas.{gathered-more}
use Rattle.fkv_spills.proofs.gathering.Gathered.add.Goals as goal

pub returns-in-Ok-clause-ok : goal.returns-in-Ok-clause-ok
returns-in-Ok-clause-ok g c xs h =
    let more = c.in-Ok.ensures.ok in
    gathered-more g.V.Fixed.codec g.R.Receipt.stands c.args.self.now _ more.0 xs (c.args.name.now, c.args.value) refl more.1 c.in-Some.ensures.1 more.2 h
