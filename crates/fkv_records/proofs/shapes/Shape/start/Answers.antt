use Rattle.std.proofs.Common.{◌≡◌, ◌*◌, ◌%◌, ◌^◌}
use Rattle.std.proofs.Math.Nat.{mod-eq_of_lt}
use Rattle.fkv_records.proofs.PlaceLemmas.{start_place}
use Rattle.fkv_records.proofs.shapes.Shape.start.Goals as goal

pub returns-clause-place : goal.returns-clause-place
returns-clause-place c = λ h below.
    let shape = c.args.self.now in
    let kept : (c.args.page * 2 ^ shape.page_bits) % 2 ^ 64 ≡ c.args.page * 2 ^ shape.page_bits = mod-eq_of_lt c.requires in
    rw kept (start_place shape.page_bits shape.record_size shape.limits c.args.page h (rw kept at below))
