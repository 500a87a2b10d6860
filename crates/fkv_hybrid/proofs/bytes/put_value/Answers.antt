use Rattle.std.proofs.Common.{◌≡◌, ◌+◌, ◌^◌, ◌≤◌, length, refl, arith}
use Rattle.std.proofs.lemmas.Grind.{common_steps}
use Rattle.fkv_records.specs.Places.{offset_at}
use Rattle.fkv_records.specs.Records.{size_of}
use Rattle.fkv_records.proofs.PlaceLemmas.{place_room}
use Rattle.fkv_hybrid.proofs.ValueLemmas.{value_edited}
use Rattle.fkv_hybrid.proofs.bytes.put_value.Goals as goal

pub returns-clause-edited : goal.returns-clause-edited
returns-clause-edited g c =
    let bits = c.args.frames.now.bits in
    let at : c.offset_of.result + c.value_offset.result ≡ offset_at bits c.args.address + (8 + g.K.Fixed.SIZE) = rw (c.offset_of.ensures.value, c.requires.bits, c.value_offset.ensures) refl in
    let fits : offset_at bits c.args.address + size_of g.K.Fixed.SIZE g.V.Fixed.SIZE ≤ 2 ^ bits = rw (← c.requires.size, ← c.requires.bits) (place_room c.args.shape.page_bits c.args.shape.record_size c.args.shape.limits c.args.address c.requires.place) in
    let long : length c.write_value.new.place ≡ g.V.Fixed.SIZE = grind (arith, common_steps) in
    value_edited g.K.Fixed.codec g.V.Fixed.codec c.args.frames.now c.write_in.new.self bits c.args.address _ _ _ c.args.value.now
    (rw (c.page_of-page.ensures, c.requires.bits) refl) at fits c.facts.ensures.sizes long c.write_value.ensures.spells c.write_in.ensures
