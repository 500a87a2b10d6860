use Rattle.std.proofs.Common.{◌≡◌, ◌^◌, ◌≤◌, ◌%◌, ◌*◌, arith, refl}
use Rattle.std.proofs.Math.Pow.{pow_mono}
use Rattle.fkv_frames.proofs.Slots.{masked}
use Rattle.fkv_frames.proofs.ring.offset_in.Goals as goal

pub returns : goal.returns
returns c =
    let most : 2 ^ c.args.page_bits ≤ 2 ^ 20 = pow_mono {i = c.args.page_bits} {j = 20} c.requires in
    let size : 1 * 2 ^ c.args.page_bits % 18446744073709551616 ≡ 2 ^ c.args.page_bits = omega arith in
    rw (size, masked c.args.address c.args.page_bits) refl
