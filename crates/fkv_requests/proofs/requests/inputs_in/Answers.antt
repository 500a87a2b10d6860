use Rattle.std.proofs.Common.{ap, sym, ◌∙◌, bytes_eq, codes}
use Rattle.clap.specs.Words.{found_of}
use Rattle.clap.proofs.WalkLemmas.{raw_values-rows}
use Rattle.fkv_requests.specs.Requests.{inputs_in}
use Rattle.fkv_requests.proofs.SourceLemmas.{count_by-map, some_paths, no_paths}
use Rattle.fkv_requests.proofs.requests.inputs_in.Goals as goal

pub returns-in-Some : goal.returns-in-Some
returns-in-Some c =
    let all = c.in-Some.ensures ∙ raw_values-rows (found_of c.args.options.now) (codes "FEED") in
    c.dashes.ensures
    ∙ sym (count_by-map (λ path. path.now) (λ path. bytes_eq path (codes "-")) c.in-Some.paths.now)
    ∙ ap inputs_in (some_paths _ _ all)

pub returns-in-None : goal.returns-in-None
returns-in-None c =
    let all = c.in-None.ensures ∙ raw_values-rows (found_of c.args.options.now) (codes "FEED") in
    ap inputs_in (no_paths _ all)
