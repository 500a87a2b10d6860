use Rattle.std.proofs.Common.{◌≡◌, List, arith, ap, map, sym, ◌∙◌, length}
use Rattle.std.proofs.lemmas.List.{length-map}
use Rattle.std.specs.declared.alloc.Global.{Global}
use Rattle.std.specs.declared.vec.Vec.{Vec}
use Rattle.fkv_index.specs.declared.words.Word.{Word}
use Rattle.fkv_index.specs.Words.{swept}
use Rattle.fkv_index.proofs.Maps.{held_step, map_done}
use Rattle.fkv_index.proofs.buckets.sweep_blocks.Goals as goal

abbrev held : Vec Word Global → List Word
held block = block.items

pub loop-at-preserved : goal.loop-at-preserved
loop-at-preserved c =
    let block = c.index_mut-block.result.now in
    let words = c.sweep_words.ensures ∙ ap (map (swept c.args.begin)) c.deref_mut.ensures.value in
    let size : length c.sweep_words.new.words ≡ block.len = ap length words ∙ length-map block.items (swept c.args.begin) ∙ sym block.ok.0 in
    held_step (map (swept c.args.begin)) (map held c.args.blocks.now.items) c.loop-at.blocks.items c.loop-at.at block c.sweep_words.new.words (omega (arith, c.args.blocks.now.ok.0, c.len-at-end.ensures, length-map c.args.blocks.now.items held)) c.loop-at.invariant c.index_mut-block.ensures.value words size

pub returns : goal.returns
returns c = map_done (map (swept c.args.begin)) (map held c.args.blocks.now.items) _ c.loop-at.at (omega (arith, c.args.blocks.now.ok.0, c.len-at-end.ensures, length-map c.args.blocks.now.items held)) c.loop-at.invariant
