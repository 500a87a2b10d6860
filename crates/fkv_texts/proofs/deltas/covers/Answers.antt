use Rattle.fkv_texts.proofs.BaseLemmas.{covered_or_not, covered-passed, passed-covered, lowest-value}
use Rattle.fkv_texts.proofs.deltas.covers.Goals as goal

pub returns : goal.returns
returns g c = record {
  decided = λ cmp es e. covered_or_not cmp es e.key e.address;
  passed = λ cmp es e r w. covered-passed cmp es r e w;
  whole = λ cmp es e o r whole here passed. passed-covered cmp es o r e here whole passed;
  lowest = λ cmp join es e o r here clear uncovered. lowest-value cmp es o r e here join clear uncovered;
}
