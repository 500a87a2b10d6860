use Rattle.fkv_partition.proofs.MergeLemmas.{merge-loads}
use Rattle.fkv_hybrid.specs.Spelled.{IsEntryIn}
use Rattle.fkv_partition.proofs.laws.merges_load_nothing.Goals as goal

pub returns : goal.returns
returns g c = λ keeps join code old new slot at came now x k i result sound compacting here is loads.
    merge-loads g.F.Key.Ord.cmp join code old slot at compacting x k i here is g.F.Functions.meaning g.R.Receipt.stands
    (IsEntryIn g.F.Key.Fixed.codec g.F.Value.Fixed.codec)
    new came now result
    (λ y h m. c.merges_take_no_page.ensures keeps join code old new slot at came now y result sound h m)
    loads
