use Rattle.std.proofs.Common.{◌≡◌, ◌%◌, ◌^◌, length, replicate, rules, refl, ◌∙◌, arith}
use Rattle.std.proofs.lemmas.List.{with_items_is}
use Rattle.std.proofs.lemmas.Grind.{common_steps}
use Rattle.fkv_frames.proofs.Slots.{opens}
use Rattle.fkv_frames.proofs.ring.Frames.open_page.Goals as goal

pub returns : goal.returns
returns c =
    let count : c.len-count.result ≡ length c.self.inside.frames.items = search rules in
    let at : c.frame_of-at.result ≡ c.args.page % length c.self.inside.frames.items = rw count at c.frame_of-at.ensures in
    let size : length c.index_mut-frame.result.now.bytes.items ≡ 2 ^ c.self.inside.page_bits = search rules in
    let zeros : c.fill.new.self ≡ replicate (2 ^ c.self.inside.page_bits) 0 = rw (c.as_mut_slice.ensures.value, size) at (c.fill.ensures.after (λ y e. e)) in
    let fits : length c.fill.new.self ≡ c.index_mut-frame.result.now.bytes.len = grind (arith, common_steps, c.index_mut-frame.result.now.bytes.ok.0) in
    rw (← c.self.view_is) (opens c.self.inside c.round_for-self-inside.result c.args.page c.frame_of-at.result _ c.self.invariant.some at refl (with_items_is c.index_mut-frame.result.now.bytes c.fill.new.self fits ∙ zeros))
