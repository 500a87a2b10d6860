use Rattle.std.proofs.Common.{◌≡◌, ◌≢◌, ◌<◌, length, map, slice_get, Some, get_or, refl, sym, ap, ◌∙◌, ◌+◌, suc, drop, subst, arith}
use Rattle.std.proofs.lemmas.List.{length-set}
use Rattle.std.proofs.lemmas.Option.{slice_get-get_or}
use Rattle.std.specs.BTreeMap.{get}
use Rattle.fkv_partition.specs.Views.{partition_of}
use Rattle.fkv_local.proofs.CauseLemmas.{listed-caused}
use Rattle.fkv_local.proofs.PartLemmas.{view-get, view-set, view-same}
use Rattle.fkv_local.proofs.ListingLemmas.{readers-behind, readers-counted, unlisted-here}
use Rattle.fkv_partition.proofs.UnionLemmas.{live-more, bare_before}
use Rattle.fkv_local.proofs.gathering.gather.Goals as goal

pub loop-index-preserved : goal.loop-index-preserved
loop-index-preserved g c =
    let idle = c.requires.numbered.1 in
    let old = c.loop-index.invariant in
    let i = c.loop-index.index in
    let items = c.loop-index.shards in
    let x = get_or items i c.index-shards-index.result in
    let low : i < length items = (let t = c.loop-index-test.true in let s = c.loop-index.auto.shards in omega arith) in
    let here : slice_get items i ≡ Some x = slice_get-get_or items i c.index-shards-index.result low in
    let views = map (λ shard. shard.part.partition) c.args.shards.now in
    let there : slice_get views i ≡ Some x.part.partition = ap (λ vs. slice_get vs i) (sym old.views) ∙ view-get (λ shard. shard.part.partition) items i x here in
    let read : slice_get (map (λ shard. shard.reader) items) i ≡ Some x.reader = view-get (λ shard. shard.reader) items i x here in
    let readers = map (λ shard. shard.reader) items in
    let were = map (λ shard. shard.reader) c.args.shards.now in
    let one : i + 1 ≡ suc i = omega arith in
    let set = view-set (λ shard. shard.reader) items i (record x { reader = c.put_live.new.reader }) in
    record {
      counts = ap (map g.D.Reader.PageReader.failures) set ∙ readers-counted g.D.Reader.PageReader.failures were readers i x.reader c.put_live.new.reader old.counts old.behind read c.in-Ok.ensures.steady;
      behind = rw one (ap (drop (suc i)) set ∙ readers-behind g.D.Reader.PageReader.failures were readers i x.reader c.put_live.new.reader old.counts old.behind read);
      views = view-same (λ shard. shard.part.partition) items i x (record x { reader = c.put_live.new.reader }) here refl ∙ old.views;
      writers = view-same (λ shard. shard.part.writer) items i x (record x { reader = c.put_live.new.reader }) here refl ∙ old.writers;
      sized = length-set items i _ ∙ old.sized;
      so_far = λ keeps q. (let bare = bare_before g.F.Key.Ord.cmp g.F.Functions.code views i x.part.partition (get g.F.Key.Ord.cmp c.loop-index.tree) (idle.numbered i x.part.partition there) (idle.counted i x.part.partition there) (old.so_far keeps) in
          live-more g.F.Key.Ord.cmp g.F.Functions.code views i x.part.partition (get g.F.Key.Ord.cmp c.loop-index.tree) _ there
          (c.in-Ok.ensures.live keeps bare)
          (subst (λ n. (q : g.row.F-Key.Denot) → partition_of n (g.F.Functions.code q) ≢ i → get g.F.Key.Ord.cmp c.put_live.new.map q ≡ get g.F.Key.Ord.cmp c.loop-index.tree q) (idle.counted i x.part.partition there)
          (subst (λ p. (q : g.row.F-Key.Denot) → partition_of x.part.partition.count (g.F.Functions.code q) ≢ p → get g.F.Key.Ord.cmp c.put_live.new.map q ≡ get g.F.Key.Ord.cmp c.loop-index.tree q) (idle.numbered i x.part.partition there)
          (c.in-Ok.ensures.others keeps bare)))
          (old.so_far keeps) q);
    }

pub returns-in-Err-clause-views : goal.returns-in-Err-clause-views
returns-in-Err-clause-views g c =
    let old = c.loop-index.invariant in
    let i = c.loop-index.index in
    let items = c.loop-index.shards in
    let x = get_or items i c.index-shards-index.result in
    let low : i < length items = (let t = c.loop-index-test.true in let s = c.loop-index.auto.shards in omega arith) in
    let here : slice_get items i ≡ Some x = slice_get-get_or items i c.index-shards-index.result low in
    view-same (λ shard. shard.part.partition) items i x _ here refl ∙ old.views

pub returns-in-Err-clause-writers : goal.returns-in-Err-clause-writers
returns-in-Err-clause-writers g c =
    let old = c.loop-index.invariant in
    let i = c.loop-index.index in
    let items = c.loop-index.shards in
    let x = get_or items i c.index-shards-index.result in
    let low : i < length items = (let t = c.loop-index-test.true in let s = c.loop-index.auto.shards in omega arith) in
    let here : slice_get items i ≡ Some x = slice_get-get_or items i c.index-shards-index.result low in
    view-same (λ shard. shard.part.writer) items i x _ here refl ∙ old.writers

pub returns-in-Err-clause-told : goal.returns-in-Err-clause-told
returns-in-Err-clause-told g c =
    let old = c.loop-index.invariant in
    let i = c.loop-index.index in
    let items = c.loop-index.shards in
    let x = get_or items i c.index-shards-index.result in
    let low : i < length items = (let t = c.loop-index-test.true in let s = c.loop-index.auto.shards in omega arith) in
    let here : slice_get items i ≡ Some x = slice_get-get_or items i c.index-shards-index.result low in
    let read : slice_get (map (λ shard. shard.reader) items) i ≡ Some x.reader = view-get (λ shard. shard.reader) items i x here in
    let readers = map (λ shard. shard.reader) items in
    let were = map (λ shard. shard.reader) c.args.shards.now in
    let there = ap (λ vs. slice_get vs i) (sym old.views) ∙ view-get (λ shard. shard.part.partition) items i x here in (
      i,
      rw (view-set (λ shard. shard.reader) items i (record x { reader = c.put_live.new.reader }))
          (unlisted-here g.D.Reader.PageReader.failures were readers i x.reader c.put_live.new.reader old.counts old.behind read g.D.Receipt.Receipt.keeps (map (λ shard. shard.part.partition) c.args.shards.now) x.part.partition c.in-Err.refused there c.in-Err.ensures.refused),
    )

pub returns-in-Err-clause-caused : goal.returns-in-Err-clause-caused
returns-in-Err-clause-caused g c = λ kept. listed-caused _ kept c.in-Err.ensures.refused (c.in-Err.ensures.caused kept)
