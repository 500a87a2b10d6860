use Rattle.std.proofs.lemmas.Result.{IfOk-weaker}
use Rattle.fkv_feeds.proofs.TableLemmas.{next-run}
use Rattle.fkv_feeds.proofs.tabling.next_run.Goals as goal

pub returns-clause-ok : goal.returns-clause-ok
returns-clause-ok g c =
    IfOk-weaker c.of_home.result _ _
    (λ run is. (
      c.in-Ok-Some.map.entries,
      next-run g.F.Functions.code c.args.lists.now c.next.new.self c.len.result c.count.result c.in-Ok-Some.map.entries run c.in-Ok-Some.ensures.after c.len.ensures c.count.ensures.value is,
      c.len-ordered.ensures.ordered,
      (λ keeps. rw c.in-Ok-Some.field-0-is at (c.in-Ok-Some.ensures.list keeps)),
    ))
    c.of_home.ensures.ok
