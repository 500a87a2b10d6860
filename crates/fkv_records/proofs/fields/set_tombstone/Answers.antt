use Rattle.fkv_records.proofs.EditLemmas.{tombstone_set}
use Rattle.fkv_records.proofs.fields.set_tombstone.Goals as goal

pub returns-clause-spells : goal.returns-clause-spells
returns-clause-spells g c = λ r no_delta fits s. tombstone_set g.K.Fixed.codec g.V.Fixed.codec c.args.bytes.now r no_delta fits s
