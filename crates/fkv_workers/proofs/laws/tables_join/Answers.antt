use Rattle.std.specs.Prelude.{FitsSigned}
use Rattle.std.specs.Int.{w64}
use Rattle.std.proofs.Common.{◌∙◌}
use Rattle.fkv_functions.specs.Names.{name_cmp, same_names, name_ties, name_exact, name_total}
use Rattle.fkv_functions.proofs.KeyOrder.{key_order}
use Rattle.fkv_feeds.specs.Tables.{most_rows}
use Rattle.fkv_workers.proofs.JoinLemmas.{tables_join}
use Rattle.fkv_workers.proofs.laws.tables_join.Goals as goal

pub returns : goal.returns
returns g c =
    let order = key_order same_names name_cmp name_ties name_exact name_total in
    let join = tables_join g.F.Functions.meaning g.F.Functions.code order (λ k. Unit {0}) g.F.Value.Known.is_known (FitsSigned w64)
    g.met.F.OrderFree.accepted g.met.F.OrderFree.either_order (λ k. tt) (λ i fits. fits) in
    record {
      values = join;
      table = λ feeds shares owns histories pairs fed has shuffled made rising.
          let all = join most_rows feeds shares owns histories fed has shuffled in
          record { rows = all.0; read = all.1; value = λ k. made k ∙ all.2 k; rising = rising };
    }
