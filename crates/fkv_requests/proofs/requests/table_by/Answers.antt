use Rattle.std.proofs.Common.{◌∙◌, ap, refl}
use Rattle.std.specs.Prelude.{codes}
use Rattle.clap.specs.Words.{found_of}
use Rattle.clap.proofs.WalkLemmas.{first_value-rows}
use Rattle.fkv_requests.specs.Requests.{is_set, number_of}
use Rattle.fkv_requests.proofs.requests.table_by.Goals as goal

pub returns-in-Ok-paths_by-clause-ok : goal.returns-in-Ok-paths_by-clause-ok
returns-in-Ok-paths_by-clause-ok c =
    let found = found_of c.args.options.now in (
      _,
      refl,
      refl,
      (
        c.config_by-config.ensures,
        c.in-Ok.ensures.ok,
        c.number_by.ensures ∙ ap number_of (first_value-rows found (codes "workers")),
        c.flag_by.ensures ∙ ap is_set (first_value-rows found (codes "merge")),
        c.flag_by-in-Ok-paths_by.ensures ∙ ap is_set (first_value-rows found (codes "spill")),
        c.flag_by-in-Ok-paths_by-2.ensures ∙ ap is_set (first_value-rows found (codes "audit")),
        c.flag_by-in-Ok-paths_by-3.ensures ∙ ap is_set (first_value-rows found (codes "stats")),
        c.flag_by-in-Ok-paths_by-4.ensures ∙ ap is_set (first_value-rows found (codes "progress")),
        c.is_sized.ensures,
        c.in-Ok-paths_by.ensures.ok,
      ),
    )
