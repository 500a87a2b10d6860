use Rattle.std.proofs.Common.{◌≡◌, ◌%◌, ◌<◌, length, rules, refl, ◌∙◌, arith}
use Rattle.std.proofs.lemmas.List.{with_items_is}
use Rattle.std.proofs.lemmas.Option.{slice_get_read}
use Rattle.std.proofs.lemmas.Grind.{common_steps}
use Rattle.fkv_frames.proofs.Slots.{writes}
use Rattle.fkv_frames.specs.Held.{written_at}
use Rattle.fkv_frames.proofs.ring.Frames.write_in.Goals as goal

pub returns : goal.returns
returns c =
    let page = c.args.page in
    let count : c.len.result ≡ length c.self.inside.frames.items = search rules in
    let at : c.frame_of-at.result ≡ page % length c.self.inside.frames.items = rw count at c.frame_of-at.ensures in
    let some = c.self.invariant.some in
    let within : c.frame_of-at.result < c.len.result = omega arith in
    let frame = slice_get_read c.self.inside.frames.items c.len.result c.frame_of-at.result c.index_mut-frame.result.now count within c.index_mut-frame.ensures.value in
    let size : length c.splice.new.page ≡ c.index_mut-frame.result.now.bytes.len = grind (arith, common_steps, c.index_mut-frame.result.now.bytes.ok.0) in
    let bytes : c.splice.new.page ≡ written_at c.index_mut-frame.result.now.bytes.items c.args.offset c.args.bytes.now = rw c.deref_mut.ensures.value at c.splice.ensures in
    rw (← c.self.view_is) (
    writes c.self.inside page c.frame_of-at.result c.args.offset c.index_mut-frame.result.now _ c.args.bytes.now some at frame
    (rw (← c.self.view_is) at c.requires.held) refl (with_items_is c.index_mut-frame.result.now.bytes c.splice.new.page size ∙ bytes)
    )
