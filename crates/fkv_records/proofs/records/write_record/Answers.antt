use Rattle.fkv_records.proofs.RecordLemmas.{spelled}
use Rattle.fkv_records.proofs.records.write_record.Goals as goal

pub returns-clause-spells : goal.returns-clause-spells
returns-clause-spells g c =
    rw c.fill_record.ensures.bytes
    (spelled g.K.Fixed.codec g.V.Fixed.codec c.args.entry.now c.fill_record.ensures.key_sized c.fill_record.ensures.value_sized)
