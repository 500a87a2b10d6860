use Rattle.fkv_texts.proofs.PartLemmas.{chain-upper, chain-lower, chain-split}
use Rattle.fkv_texts.proofs.laws.parts.Goals as goal

pub returns : goal.returns
returns g c = record {
  split = λ begin a text from es le r h upper lower u l. chain-split begin a text le from es upper lower r h u l;
  upper = λ begin a text from es le h. chain-upper begin a text le from es h;
  lower = λ begin a text from es upper le r h u. chain-lower begin a text le r from es upper h u;
}
