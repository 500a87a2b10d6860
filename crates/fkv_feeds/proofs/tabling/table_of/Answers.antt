use Rattle.std.proofs.Common.{◌≡◌, ◌<◌, ◌∷◌, [], ◌++◌, length, sym, ap, subst, ◌∙◌, arith}
use Rattle.std.specs.BTreeMap.{is_at}
use Rattle.std.specs.Map.{lookup}
use Rattle.std.proofs.lemmas.Result.{IfOk-weaker}
use Rattle.fkv_functions.specs.Names.{name_cmp}
use Rattle.fkv_feeds.proofs.TableLemmas.{AreRunsOf, made-more, made-rise, made-all}
use Rattle.fkv_feeds.proofs.tabling.table_of.Goals as goal

pub lists-preserved : goal.lists-preserved
lists-preserved g c =
    let keeps = g.D.Receipt.Receipt.keeps in
    let code = g.F.Functions.code in
    let found = c.in-Ok.ensures.ok in
    let some : 0 < length c.lists.lists.parts = (let t = c.lists-test.true in let e = c.len.ensures in omega arith) in
    subst (AreRunsOf keeps code c.args.lists c.next_run.new.lists) (sym c.in-Ok-push.ensures.items)
    (subst (λ r. AreRunsOf keeps code c.args.lists c.next_run.new.lists (c.lists.runs.items ++ r ∷ [])) (sym found.1)
    (made-more keeps code c.args.lists c.lists.lists c.next_run.new.lists c.lists.runs.items found.0 some c.in-Ok.ensures.after found.2 found.3 c.lists.invariant))

pub new-requires : goal.new-requires
new-requires g c = record {
  rising = made-rise g.D.Receipt.Receipt.keeps g.F.Functions.code c.args.lists c.lists.lists c.lists.runs.items c.lists.invariant;
}

pub returns-clause-value : goal.returns-clause-value
returns-clause-value g c keeps =
    let some : 0 < c.args.lists.count = (let a = c.count.ensures.some in let b = c.count.ensures.value in omega arith) in
    let none : length c.lists.lists.parts ≡ 0 = (let t = c.lists-test.false in let e = c.len.ensures in omega arith) in
    IfOk-weaker c.new.result _ _
    (λ table is k. ap (lookup (is_at (name_cmp k))) is ∙ made-all g.D.Receipt.Receipt.keeps g.F.Functions.code c.args.lists c.lists.lists c.lists.runs.items some none c.lists.invariant keeps k)
    c.new.ensures.pairs
