use Rattle.std.proofs.Common.{◌≡◌, ◌<◌, Some, length, get_or, slice_get, arith}
use Rattle.std.proofs.lemmas.Option.{slice_get-get_or}
use Rattle.fkv_local.specs.Storing.{log_bytes, evicted_bytes}
use Rattle.fkv_local.proofs.CountLemmas.{counted-more}
use Rattle.fkv_local.proofs.counting.held_bytes.Goals as goal

pub loop-index-preserved : goal.loop-index-preserved
loop-index-preserved g c =
    let items = c.args.shards.now in
    let i = c.loop-index.index in
    let x = get_or items i c.index-shards-index.result in
    let low : i < length items = (let t = c.loop-index-test.true in let s = c.loop-index.auto.index-end in omega arith) in
    let here : slice_get items i ≡ Some x = slice_get-get_or items i c.index-shards-index.result low in
    let begin = c.begin-begin.ensures in
    let tail = c.tail.ensures in
    let head = c.head.ensures in
    record {
      bytes = counted-more (λ shard. shard.part.partition) log_bytes items i 18446744073709551615 c.loop-index.bytes c.saturating_sub.result c.saturating_add-bytes.result x here c.loop-index.invariant.bytes (let d = c.saturating_sub.ensures in cc) c.saturating_add-bytes.ensures;
      evicted = counted-more (λ shard. shard.part.partition) evicted_bytes items i 18446744073709551615 c.loop-index.evicted c.saturating_sub-in-loop-index.result c.saturating_add-evicted.result x here c.loop-index.invariant.evicted (let d = c.saturating_sub-in-loop-index.ensures in cc) c.saturating_add-evicted.ensures;
    }
