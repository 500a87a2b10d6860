use Rattle.std.proofs.Common.{◌≡◌, ◌<◌, ◌∷◌, [], ◌++◌, length, inr, arith}
use Rattle.fkv_functions.specs.Names.{name_cmp}
use Rattle.fkv_runs.specs.Merging.{merged}
use Rattle.fkv_feeds.proofs.TableLemmas.{none-made, made-more, made-rise, made-all}
use Rattle.fkv_feeds.proofs.spilling.spilled_table_of.Goals as goal

pub lists-init : goal.lists-init
lists-init g c = λ keeps. ([], c.new-parts.ensures, none-made g.D.Receipt.Receipt.keeps g.F.Functions.code c.args.lists c.requires.all)

pub lists-preserved : goal.lists-preserved
lists-preserved g c = λ keeps.
    (let code = g.F.Functions.code in
    let old = c.lists.invariant keeps in
    let found = c.in-Ok.ensures.ok keeps in
    let some : 0 < length c.lists.lists.parts = (let t = c.lists-test.true in let e = c.len.ensures in omega arith) in (
      old.0 ++ _ ∷ [],
      c.in-Ok-add.ensures.ok old.0 _ old.1 (found.1, found.2),
      made-more g.D.Receipt.Receipt.keeps code c.args.lists c.lists.lists c.next_part.new.lists old.0 found.0 some c.in-Ok.ensures.after found.3 (λ k. found.4) old.2,
    ))

pub returns-in-Ok-merge-clause-ok : goal.returns-in-Ok-merge-clause-ok
returns-in-Ok-merge-clause-ok g c keeps =
    let old = c.lists.invariant keeps in
    let some : 0 < c.args.lists.count = (let a = c.count.ensures.some in let b = c.count.ensures.value in omega arith) in
    let whole = c.in-Ok-merge.ensures.ok old.0 old.1 in
    let none : length c.lists.lists.parts ≡ 0 = (let t = c.lists-test.false in let e = c.len.ensures in omega arith) in (
      merged name_cmp old.0,
      whole.0,
      whole.1,
      made-rise g.D.Receipt.Receipt.keeps g.F.Functions.code c.args.lists c.lists.lists old.0 old.2,
      made-all g.D.Receipt.Receipt.keeps g.F.Functions.code c.args.lists c.lists.lists old.0 some none old.2 keeps,
    )

pub returns-in-Err-clause-told : goal.returns-in-Err-clause-told
returns-in-Err-clause-told g c = inr (inr c.in-Err.ensures.told)
