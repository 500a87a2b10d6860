use Rattle.std.proofs.Common.{map, ap, ◌∙◌, string_bytes}
use Rattle.std.specs.Prelude.{codes}
use Rattle.std.proofs.lemmas.Result.{IfOk-weaker}
use Rattle.clap.specs.Words.{found_of}
use Rattle.clap.proofs.WalkLemmas.{raw_values-rows}
use Rattle.fkv_requests.proofs.SourceLemmas.{some_paths, no_paths}
use Rattle.fkv_requests.proofs.requests.paths_by.Goals as goal

pub returns-in-Some-clause-ok : goal.returns-in-Some-clause-ok
returns-in-Some-clause-ok c =
    let all = c.in-Some.ensures ∙ raw_values-rows (found_of c.args.options.now) (codes "FEED") in
    IfOk-weaker c.copied.result _ _ (λ paths h. h ∙ some_paths _ _ all) c.copied.ensures.ok

pub returns-in-None-clause-ok : goal.returns-in-None-clause-ok
returns-in-None-clause-ok c =
    let all = c.in-None.ensures ∙ raw_values-rows (found_of c.args.options.now) (codes "FEED") in
    ap (map string_bytes) c.new.ensures.items ∙ no_paths _ all
