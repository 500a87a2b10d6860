use Rattle.fkv_records.proofs.PlaceLemmas.{offset_masked, place_room}
use Rattle.fkv_records.proofs.shapes.Shape.offset_of.Goals as goal

pub returns-clause-room : goal.returns-clause-room
returns-clause-room c = λ p.
    let shape = c.args.self.now in
    rw (c.page_size.ensures, offset_masked c.args.address shape.page_bits) (place_room shape.page_bits shape.record_size shape.limits c.args.address p)
