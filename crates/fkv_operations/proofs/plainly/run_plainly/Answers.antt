use Rattle.std.proofs.Common.{sym, ap, ◌∙◌, ◌≡◌, ◌+◌, take, [], ◌∷◌, ◌++◌, None, add-one}
use Rattle.std.proofs.Math.Seq.{take-suc}
use Rattle.std.specs.BTreeMap.{get}
use Rattle.fkv_operations.specs.After.{after, answer, after_all, answers}
use Rattle.fkv_operations.specs.AfterLaws.{same_map, after_all-append, answers-append}
use Rattle.fkv_operations.proofs.plainly.run_plainly.Goals as goal

pub loop-op-preserved : goal.loop-op-preserved
loop-op-preserved g c =
    let cmp = g.F.Key.Ord.cmp in
    let f = g.F.Functions.meaning in
    let done = take c.loop-op.op-index c.args.ops.now in
    let op = c.op-item.result in
    let took : take (c.loop-op.op-index + 1) c.args.ops.now ≡ done ++ op ∷ [] =
    rw add-one (take-suc c.args.ops.now c.loop-op.op-index op c.loop-op-test.true ∙ ap (λ x. done ++ x ∷ []) (sym c.op-item.is)) in
    let map = same_map (get cmp c.loop-op.map) (after_all cmp f (λ key. None) done) c.loop-op.invariant.map in
    rw took (record {
      map = λ q. c.in_ok-tell.ensures.map q ∙ ap (λ m. after cmp f m op q) map ∙ ap (λ m. m q) (sym (after_all-append cmp f (λ key. None) done op));
      told = c.in_ok-tell.ensures.told ∙ ap (λ told. told ++ answer f (get cmp c.loop-op.map) op ∷ []) c.loop-op.invariant.told
          ∙ ap (λ m. answers cmp f (λ key. None) done ++ answer f m op ∷ []) map
          ∙ sym (answers-append cmp f (λ key. None) done op);
    })
