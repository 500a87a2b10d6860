use Rattle.std.proofs.Common.{List, [], ◌∷◌, ◌++◌, map, ap, ◌∙◌}
use Rattle.std.proofs.lemmas.Result.{err_from_is_err_and}
use Rattle.fkv_index.specs.declared.buckets.Bucket.{Bucket}
use Rattle.fkv_index.specs.declared.words.Word.{Word}
use Rattle.fkv_index.specs.Storage.{row_words, numbered}
use Rattle.fkv_index.proofs.Rows.{add_in_block, extend_in_block, same_blocks, some_of, same_read, within_rows}
use Rattle.fkv_index.proofs.buckets.Buckets.grow.Goals as goal

pub returns-in_err-extend_from_slice-clause-unchanged : goal.returns-in_err-extend_from_slice-clause-unchanged
returns-in_err-extend_from_slice-clause-unchanged c =
    let p = err_from_is_err_and c.from_residual-in_err-extend_from_slice.result c.from_residual-in_err-extend_from_slice.ensures.1 in
    rw (p.1) (
    ap (λ (blocks : List (List Word)). map (row_words blocks) c.self.inside.rows.items) (same_blocks c.self.inside.blocks.items _ c.index_mut-else-number-eq0.result.now c.extend_from_slice.new.self c.index_mut-else-number-eq0.ensures.value c.in_err-extend_from_slice.ensures.items)
    ∙ c.self.view_is)

pub returns-in_ok-push-clause-ok : goal.returns-in_ok-push-clause-ok
returns-in_ok-push-clause-ok c =
    let seven = c.in_ok-block.ensures.items ∙ ap (λ (w : Word). w ∷ w ∷ w ∷ w ∷ w ∷ w ∷ w ∷ []) c.empty-places.ensures in
    let within = within_rows c.self.inside.rows.items (numbered c.self.inside) _ c.args.bucket c.self.view_is c.requires in
    let none = ap (λ (row : Bucket). row.overflow) (same_read c.self.inside.rows.items c.args.bucket c.index.result.now c.index_mut.result.now within c.index.ensures c.index_mut.ensures.value) ∙ c.if-number-eq0.true in
    add_in_block _ c.self.inside.blocks.items c.push.new.self.items _ c.args.bucket c.len.result c.index_mut.result.now c.in_ok-block.block c.self.invariant c.self.view_is c.requires c.index_mut.ensures.value none
    c.in_ok-push.ensures.items (c.len.ensures ∙ c.push.new.self.ok.0) seven

pub returns-in_ok-extend_from_slice-clause-ok : goal.returns-in_ok-extend_from_slice-clause-ok
returns-in_ok-extend_from_slice-clause-ok c =
    let seven = c.in_ok-extend_from_slice.ensures.items ∙ ap (λ (w : Word). c.index_mut-else-number-eq0.result.now.items ++ (w ∷ w ∷ w ∷ w ∷ w ∷ w ∷ w ∷ [])) c.empty-places.ensures in
    extend_in_block _ c.self.inside.blocks.items _ c.args.bucket c.index.result.now c.index_mut-else-number-eq0.result.now c.extend_from_slice.new.self c.self.invariant c.self.view_is c.requires c.index.ensures
    (some_of _ c.if-number-eq0.false) c.index_mut-else-number-eq0.ensures.value seven
