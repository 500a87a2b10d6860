use Rattle.std.proofs.Common.{◌≡◌, ◌+◌, ◌≤◌, length, arith}
use Rattle.std.proofs.lemmas.Grind.{common_steps}
use Rattle.fkv_records.proofs.EditLemmas.{value_written}
use Rattle.fkv_records.proofs.fields.write_value.Goals as goal

pub returns-clause-spells : goal.returns-clause-spells
returns-clause-spells g c = λ bytes r size some s.
    let room : 8 + g.K.Fixed.SIZE + g.V.Fixed.SIZE ≤ length bytes = omega (arith, size) in
    let sized : length (g.V.Fixed.codec.bytes_of c.args.value.now) ≡ g.V.Fixed.SIZE = grind (arith, common_steps) in
    rw c.put.ensures (value_written g.K.Fixed.codec g.V.Fixed.codec bytes r c.args.value.now room sized some s)
