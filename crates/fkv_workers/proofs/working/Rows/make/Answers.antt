use Rattle.std.proofs.Common.{rules, ◌<◌, length, map, sym, subst}
use Rattle.std.specs.Prelude.{FitsSigned}
use Rattle.std.specs.Int.{w64}
use Rattle.std.specs.List.{All}
use Rattle.std.proofs.lemmas.List.{length-map}
use Rattle.fkv_workers.proofs.SplitLemmas.{split_made}
use Rattle.fkv_workers.proofs.working.Rows.make.Goals as goal

pub returns-clause-ok : goal.returns-clause-ok
returns-clause-ok g c rows s =
    let lists = map (λ rows. rows.items) c.args.self.now.waiting.items in
    let here : c.args.partition < length c.args.self.now.waiting.items = search rules in
    let within : c.args.partition < length lists = rw (length-map c.args.self.now.waiting.items (λ rows. rows.items)) here in
    rw c.clear.ensures
    (split_made g.H.Recorder.keeps g.F.Functions.code c.args.self.now.mode c.args.self.now.pass c.update_all.new.pass lists rows c.args.partition within c.in-Ok.ensures.long
    (λ fit before h. rw (← c.rows_of-rows.ensures) (c.in-Ok.ensures.ok (subst (All (λ r. FitsSigned w64 r.1)) (sym c.rows_of-rows.ensures) fit) before h)) s)
