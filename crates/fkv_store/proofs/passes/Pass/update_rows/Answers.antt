use Rattle.std.proofs.Common.{rules, ◌≡◌, ◌<◌, ◌∙◌, length, sym, ap}
use Rattle.fkv_partition.specs.Views.{partition_of}
use Rattle.fkv_store.proofs.RowLemmas.{done-made, made-until}
use Rattle.fkv_store.proofs.passes.Pass.update_rows.Goals as goal

pub loop-place-preserved : goal.loop-place-preserved
loop-place-preserved g c =
    let keeps = g.H.Recorder.keeps in
    let code = g.F.Functions.code in
    let rows = c.args.rows.now in
    let store = c.args.store.now in
    let row = c.index-rows-place.result in
    let within : c.loop-place.place < length rows = search rules in
    let was = c.loop-place.invariant.number in
    let home : c.args.partition ≡ partition_of store.count (code row.0) =
    sym was.0 ∙ sym c.in-Some.ensures.home ∙ ap (λ n. partition_of n (code row.0)) was.1 in
    record {
      number = (c.make_one.ensures.number.0 ∙ was.0, c.make_one.ensures.number.1 ∙ was.1);
      own = c.make_one.ensures.own;
      made = λ how first h. made-until keeps code how store first c.loop-place.self c.make_one.new.self rows c.loop-place.place within row row c.index-rows-place.is
          (c.loop-place.invariant.made how first h) (done-made keeps code how store c.loop-place.self c.make_one.new.self row c.args.partition c.in-Some._answer home c.in-Some.ensures.done);
    }
