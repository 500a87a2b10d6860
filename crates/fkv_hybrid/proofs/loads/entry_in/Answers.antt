use Rattle.std.proofs.Common.{◌≡◌, ◌∙◌, Ok, sym, refl, ap}
use Rattle.fkv_records.specs.Places.{offset_at}
use Rattle.fkv_records.specs.Records.{size_of}
use Rattle.fkv_hybrid.specs.Spelled.{record_of, part_of}
use Rattle.fkv_hybrid.proofs.loads.entry_in.Goals as goal

pub returns-in-Ok-clause-found : goal.returns-in-Ok-clause-found
returns-in-Ok-clause-found g c = λ e h.
    let bytes : c.part-bytes.result.now ≡ part_of c.args.page.now (offset_at c.args.shape.page_bits c.args.address) (size_of g.K.Fixed.SIZE g.V.Fixed.SIZE) =
    c.part-bytes.ensures ∙ rw (c.offset_of.ensures.value, c.requires.size) refl in
    let r = c.read_record.ensures.only (record_of e) h.sound (rw bytes h.spells) in
    let same : c.in-Ok.found ≡ record_of e = cc (r, c.in-Ok.is) in
    rw (c.entry_of.ensures, same) (let at = sym h.stands in ap Ok (λ j. record { address = at j; previous = e.previous; key = e.key; value = e.value; delta = e.delta }))

pub returns-in-Err-clause-found : goal.returns-in-Err-clause-found
returns-in-Err-clause-found g c = λ e h.
    let bytes : c.part-bytes.result.now ≡ part_of c.args.page.now (offset_at c.args.shape.page_bits c.args.address) (size_of g.K.Fixed.SIZE g.V.Fixed.SIZE) =
    c.part-bytes.ensures ∙ rw (c.offset_of.ensures.value, c.requires.size) refl in
    let r = c.read_record.ensures.only (record_of e) h.sound (rw bytes h.spells) in
    absurd (cc (r, c.in-Err.is))
