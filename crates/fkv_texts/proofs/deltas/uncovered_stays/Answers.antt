use Rattle.fkv_texts.proofs.CoverLemmas.{cleared-lower, cut-lives, cut-newest, cut-newest_stays, cut-newest_gone, cut-covered, cut-superseded, cut-cleared}
use Rattle.fkv_texts.proofs.deltas.uncovered_stays.Goals as goal

pub returns : goal.returns
returns g c = record {
  lives = λ cmp join es low limit o r clear le. cut-lives cmp join o es r low (cleared-lower cmp es low limit le clear);
  newest = λ cmp join es low limit k a o r clear le uncovered. cut-newest cmp join o es r low (cleared-lower cmp es low limit le clear) k a uncovered;
  stays = λ cmp es low k a e is le. cut-newest_stays cmp es low k a e is le;
  goes = λ cmp es low k a e r is lt. cut-newest_gone cmp es low r k a e is lt;
  covered = λ cmp es low e le. cut-covered cmp es low e.key e.address le;
  superseded = λ cmp es low e le. cut-superseded cmp es low e le;
  cleared = λ cmp es low limit clear. cut-cleared cmp es low limit clear;
}
