use Rattle.std.proofs.Common.{◌≡◌, take, refl, subst, arith}
use Rattle.fkv_operations.specs.declared.operations.KeyedOp.TheVariants.{Rmw}
use Rattle.fkv_store.specs.Rows.{AreMade}
use Rattle.fkv_store.proofs.RowLemmas.{made-until, cut-at}
use Rattle.fkv_store.proofs.passes.Pass.update_some.Goals as goal

pub returns-in-Ok-clause-ok : goal.returns-in-Ok-clause-ok
returns-in-Ok-clause-ok g c first h =
    let keeps = g.H.Recorder.keeps in
    let code = g.F.Functions.code in
    let how = c.args.loads in
    let store = c.args.store.now in
    let rows = c.args.rows.now in
    let none : c.update_at_once-then.result ≡ c.args.made = omega (arith, c.if-then-made.false, c.update_at_once-then.ensures.more.0) in
    let so_far = subst (λ i. AreMade keeps code how store first (take i rows) c.update_at_once-then.new.self) none (c.update_at_once-then.ensures.made how first h) in
    let ran = c.in-Ok.ensures.ok in
    made-until keeps code how store first c.update_at_once-then.new.self c.run_by_events.new.self rows c.args.made c.requires.behind c.index-rows-made.result c.index-rows-made.result c.index-rows-made.is so_far
    (record {
      ran = ran.0;
      as_asked = ran.1;
      answer = c.in-Ok._answer;
      runs = ran.2;
      room = c.in-Ok.ensures.worn;
      within = c.in-Ok.ensures.within;
      steady = c.in-Ok.ensures.steady;
    })

pub returns-in-Err-clause-refused : goal.returns-in-Err-clause-refused
returns-in-Err-clause-refused g c first h =
    let keeps = g.H.Recorder.keeps in
    let code = g.F.Functions.code in
    let how = c.args.loads in
    let store = c.args.store.now in
    let rows = c.args.rows.now in
    let none : c.update_at_once-then.result ≡ c.args.made = omega (arith, c.if-then-made.false, c.update_at_once-then.ensures.more.0) in
    let so_far = subst (λ i. AreMade keeps code how store first (take i rows) c.update_at_once-then.new.self) none (c.update_at_once-then.ensures.made how first h) in
    cut-at keeps code how store first c.update_at_once-then.new.self c.run_by_events.new.self rows c.args.made c.requires.behind c.index-rows-made.result c.index-rows-made.result c.index-rows-made.is g.D.Receipt.Receipt.keeps _ c.in-Err.refused so_far
    c.in-Err.ensures.unchanged c.update_at_once-then.ensures.own c.in-Err.ensures.only c.in-Err.ensures.stalled c.in-Err.ensures.counted
