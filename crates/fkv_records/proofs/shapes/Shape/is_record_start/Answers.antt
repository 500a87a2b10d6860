use Rattle.fkv_records.proofs.PlaceLemmas.{places, place_low, place_ends}
use Rattle.fkv_records.proofs.shapes.Shape.is_record_start.Goals as goal

pub returns : goal.returns
returns c =
    let shape = c.args.self.now in
    let same = places shape.page_bits shape.record_size shape.limits c.args.address in
    record {
      value = (λ h. same.0 (c.stands_in_page.ensures.0 h), λ h. c.stands_in_page.ensures.1 (same.1 h));
      low = λ h. place_low shape.page_bits shape.record_size shape.limits c.args.address (same.0 (c.stands_in_page.ensures.0 h));
      high = λ h. place_ends shape.page_bits shape.record_size shape.limits c.args.address (same.0 (c.stands_in_page.ensures.0 h));
    }
