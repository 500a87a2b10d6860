use Rattle.std.proofs.Common.{◌≡◌, ◌≢◌, ◌<◌, ◌∙◌, length, map, get_or, slice_set, slice_get, Some, refl, sym, ap, subst, arith}
use Rattle.std.proofs.lemmas.List.{length-set, length-map, map-set}
use Rattle.std.specs.BTreeMap.{get, is_at}
use Rattle.std.specs.Map.{lookup}
use Rattle.fkv_partition.specs.Views.{partition_of}
use Rattle.fkv_partition.proofs.UnionLemmas.{live-more, bare_before}
use Rattle.fkv_closing.proofs.PlaceLemmas.{here, at_place, written_same}
use Rattle.fkv_closing.proofs.UnionLemmas.{union_none, union_all}
use Rattle.fkv_closing.proofs.gathering.gather.Goals as goal

pub loop-place-init : goal.loop-place-init
loop-place-init g c = record {
  sized = refl;
  steady = refl;
  so_far = λ keeps. union_none g.F.Key.Ord.cmp g.F.Functions.code (map (λ part. part.partition) c.args.parts.now) (get g.F.Key.Ord.cmp c.args.tree.now)
      (λ q. ap (lookup (is_at (g.F.Key.Ord.cmp q))) c.requires.empty);
}

pub loop-place-preserved : goal.loop-place-preserved
loop-place-preserved g c =
    let old = c.loop-place.invariant in
    let i = c.loop-place.place in
    let v = c.index-parts-place.result.partition in
    let views = map (λ part. part.partition) c.args.parts.now in
    let there : slice_get views i ≡ Some v = here (λ part. part.partition) c.args.parts.now i c.index-parts-place.result c.loop-place-test.true c.index-parts-place.is in
    let low : i < length c.loop-place.readers = omega (arith, c.loop-place-test.true, c.requires.read, old.sized) in
    record {
      sized = length-set c.loop-place.readers i c.put_live.new.reader ∙ old.sized;
      steady = written_same g.P.PageReader.failures c.loop-place.readers i c.index-readers-place.result c.put_live.new.reader low c.in-Ok.ensures.steady ∙ old.steady;
      so_far = λ keeps q. (let bare = bare_before g.F.Key.Ord.cmp g.F.Functions.code views i v (get g.F.Key.Ord.cmp c.loop-place.tree) (c.requires.numbered.numbered i v there) (c.requires.numbered.counted i v there) (old.so_far keeps) in
          live-more g.F.Key.Ord.cmp g.F.Functions.code views i v (get g.F.Key.Ord.cmp c.loop-place.tree) (get g.F.Key.Ord.cmp c.put_live.new.map) there
          (c.in-Ok.ensures.live keeps bare)
          (subst (λ n. (q : g.row.F-Key.Denot) → partition_of n (g.F.Functions.code q) ≢ i → get g.F.Key.Ord.cmp c.put_live.new.map q ≡ get g.F.Key.Ord.cmp c.loop-place.tree q) (c.requires.numbered.counted i v there)
          (subst (λ p. (q : g.row.F-Key.Denot) → partition_of v.count (g.F.Functions.code q) ≢ p → get g.F.Key.Ord.cmp c.put_live.new.map q ≡ get g.F.Key.Ord.cmp c.loop-place.tree q) (c.requires.numbered.numbered i v there)
          (c.in-Ok.ensures.others keeps bare)))
          (old.so_far keeps) q);
    }

pub returns-in-Err-clause-unread : goal.returns-in-Err-clause-unread
returns-in-Err-clause-unread g c =
    let old = c.loop-place.invariant in
    let i = c.loop-place.place in
    let low : i < length c.loop-place.readers = omega (arith, c.loop-place-test.true, c.requires.read, old.sized) in
    let was = ap (λ fs. get_or fs i 0) (sym old.steady) ∙ at_place g.P.PageReader.failures c.loop-place.readers i c.index-readers-place.result c.put_live.new.reader low 0 in
    record {
      partition = i;
      view = c.index-parts-place.result.partition;
      here = here (λ part. part.partition) c.args.parts.now i c.index-parts-place.result c.loop-place-test.true c.index-parts-place.is;
      failures = g.P.PageReader.failures c.put_live.new.reader;
      counts = map-set g.P.PageReader.failures c.loop-place.readers i c.put_live.new.reader ∙ ap (λ fs. slice_set fs i (g.P.PageReader.failures c.put_live.new.reader)) old.steady;
      scan = rw was c.in-Err.ensures.refused;
    }

pub returns-in-Err-clause-caused : goal.returns-in-Err-clause-caused
returns-in-Err-clause-caused g c keeps other =
    let may = c.in-Err.ensures.caused keeps other in
    record {
      partition = c.loop-place.place;
      view = c.index-parts-place.result.partition;
      here = here (λ part. part.partition) c.args.parts.now c.loop-place.place c.index-parts-place.result c.loop-place-test.true c.index-parts-place.is;
      page = may.0;
      fails = may.1;
    }

pub returns-clause-ok : goal.returns-clause-ok
returns-clause-ok g c keeps =
    union_all g.F.Key.Ord.cmp g.F.Functions.code (map (λ part. part.partition) c.args.parts.now) (get g.F.Key.Ord.cmp c.loop-place.tree) c.loop-place.place
    (omega (arith, length-map c.args.parts.now (λ part. part.partition), c.loop-place-test.false, c.loop-place.auto.place-end)) (c.loop-place.invariant.so_far keeps)
