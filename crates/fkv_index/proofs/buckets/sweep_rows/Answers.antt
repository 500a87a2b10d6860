use Rattle.std.proofs.Common.{ℕ, List, arith, ap}
use Rattle.fkv_index.specs.declared.words.Word.{Word}
use Rattle.fkv_index.specs.declared.buckets.Bucket.{Bucket}
use Rattle.fkv_index.specs.Storage.{swept_row}
use Rattle.fkv_index.proofs.Maps.{map_step, map_done}
use Rattle.fkv_index.proofs.buckets.sweep_rows.Goals as goal

abbrev with_words : List Word → ℕ → Bucket
with_words ws n = record { words = ws; overflow = n }

pub loop-at-preserved : goal.loop-at-preserved
loop-at-preserved c =
    let row = c.index_mut-row.result.now in
    map_step (swept_row c.args.begin) c.args.rows.now.items c.loop-at.rows.items c.loop-at.at row _ (omega (arith, c.args.rows.now.ok.0, c.len-at-end.ensures)) c.loop-at.invariant c.index_mut-row.ensures.value (ap (λ (ws : List Word). with_words ws c.index_mut-row.result.now.overflow) c.sweep_words.ensures)

pub returns : goal.returns
returns c = map_done (swept_row c.args.begin) c.args.rows.now.items c.loop-at.rows.items c.loop-at.at (omega (arith, c.args.rows.now.ok.0, c.len-at-end.ensures)) c.loop-at.invariant
