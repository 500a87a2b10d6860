use Rattle.std.proofs.Common.{◌≡◌, rules, arith, true, false, replicate}
use Rattle.std.proofs.lemmas.Grind.{common_steps}
use Rattle.fkv_records.specs.Headers.{header_bytes}
use Rattle.fkv_records.specs.Records.{padding_of, header_part, key_part, padding_part}
use Rattle.fkv_records.proofs.RecordLemmas.{whole}
use Rattle.fkv_records.proofs.records.read_record.Goals as goal

pub returns-then-header-clause-spelling : goal.returns-then-header-clause-spelling
returns-then-header-clause-spelling g c =
    let header : header_part c.args.bytes.now ≡ header_bytes c.in-Some.header.previous true false = search rules in
    let key : key_part g.K.Fixed.SIZE c.args.bytes.now ≡ g.K.Fixed.codec.bytes_of c.in-Some-take.key = search rules in
    let padding : padding_part g.K.Fixed.SIZE g.V.Fixed.SIZE c.args.bytes.now ≡ replicate (padding_of g.K.Fixed.SIZE g.V.Fixed.SIZE) 0 = grind (arith, common_steps) in
    whole c.args.bytes.now _ _ _ g.K.Fixed.SIZE g.V.Fixed.SIZE header key padding

pub returns-clause-spelling : goal.returns-clause-spelling
returns-clause-spelling g c =
    let header : header_part c.args.bytes.now ≡ header_bytes c.in-Some.header.previous false c.in-Some.header.is_delta = search rules in
    let key : key_part g.K.Fixed.SIZE c.args.bytes.now ≡ g.K.Fixed.codec.bytes_of c.in-Some-take.key = search rules in
    let padding : padding_part g.K.Fixed.SIZE g.V.Fixed.SIZE c.args.bytes.now ≡ replicate (padding_of g.K.Fixed.SIZE g.V.Fixed.SIZE) 0 = grind (arith, common_steps) in
    whole c.args.bytes.now _ _ _ g.K.Fixed.SIZE g.V.Fixed.SIZE header key padding
