use Rattle.std.proofs.Common.{None, Some}
use Rattle.fkv_texts.proofs.ValueLemmas.{combined-none}
use Rattle.fkv_texts.proofs.GatherLemmas.{gather-all, gather-to}
use Rattle.fkv_texts.proofs.deltas.gathers.Goals as goal

pub returns : goal.returns
returns g c = record {
  none = combined-none;
  all = λ cmp join es k a parts joined end o assoc r is. gather-all cmp join o assoc es r k a parts joined end is;
  met = λ cmp join es k low a parts joined e o assoc r le is. gather-to cmp join o assoc es r k low a le parts joined (Some e) is;
  on = λ cmp join es k low a parts joined o assoc r le is. gather-to cmp join o assoc es r k low a le parts joined None is;
}
