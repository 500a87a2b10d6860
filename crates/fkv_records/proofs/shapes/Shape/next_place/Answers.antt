use Rattle.std.proofs.Common.{◌≡◌, rules, arith, Some, None}
use Rattle.fkv_records.specs.Places.{place_after, next}
use Rattle.fkv_records.proofs.PlaceLemmas.{end_fits, after_above, place_rises, place_nearest}
use Rattle.fkv_records.proofs.shapes.Shape.next_place.Goals as goal

pub start-end-requires : goal.start-end-requires
start-end-requires c =
    let shape = c.args.self.now in
    let end = end_fits shape.page_bits shape.record_size c.args.address shape.limits c.if-address-ge-END.false in
    rw c.page_of.ensures (omega (arith, end))

pub returns-then-place-size-le-END-clause-rises : goal.returns-then-place-size-le-END-clause-rises
returns-then-place-size-le-END-clause-rises c =
    let shape = c.args.self.now in
    let after : place_after shape.page_bits shape.record_size c.args.address ≡ Some c.if-address-size.place = search rules in
    after_above shape.page_bits shape.record_size shape.limits c.args.address _ after

pub returns-then-place-size-le-END-clause-place : goal.returns-then-place-size-le-END-clause-place
returns-then-place-size-le-END-clause-place c = λ p.
    let shape = c.args.self.now in
    let after : place_after shape.page_bits shape.record_size c.args.address ≡ Some c.if-address-size.place = search rules in
    next p after

pub returns-then-place-size-le-END-clause-apart : goal.returns-then-place-size-le-END-clause-apart
returns-then-place-size-le-END-clause-apart c = λ p.
    let shape = c.args.self.now in
    let after : place_after shape.page_bits shape.record_size c.args.address ≡ Some c.if-address-size.place = search rules in
    place_rises shape.page_bits shape.record_size shape.limits c.args.address _ p after

pub returns-then-place-size-le-END-clause-nearest : goal.returns-then-place-size-le-END-clause-nearest
returns-then-place-size-le-END-clause-nearest c = λ place p q less.
    let shape = c.args.self.now in
    let after : place_after shape.page_bits shape.record_size c.args.address ≡ Some c.if-address-size.place = search rules in
    rw after at (place_nearest shape.page_bits shape.record_size shape.limits c.args.address place p q less)

pub returns-else-place-size-le-END-clause-nearest : goal.returns-else-place-size-le-END-clause-nearest
returns-else-place-size-le-END-clause-nearest c = λ place p q less.
    let shape = c.args.self.now in
    let none : place_after shape.page_bits shape.record_size c.args.address ≡ None = search rules in
    rw none at (place_nearest shape.page_bits shape.record_size shape.limits c.args.address place p q less)
