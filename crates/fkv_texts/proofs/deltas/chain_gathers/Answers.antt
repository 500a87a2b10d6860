use Rattle.std.proofs.Common.{Some, None}
use Rattle.fkv_texts.proofs.ReadLemmas.{read-from}
use Rattle.fkv_texts.proofs.deltas.chain_gathers.Goals as goal

pub returns : goal.returns
returns g c = record {
  met = λ cmp join class same begin low es upper k i d e parts joined o assoc test le r chained here own chain is.
      read-from cmp join o assoc class same test begin low le es r chained k i d here own upper chain parts joined (Some e) is;
  on = λ cmp join class same begin low es upper k i d parts joined o assoc test le r chained here own chain is.
      read-from cmp join o assoc class same test begin low le es r chained k i d here own upper chain parts joined None is;
}
