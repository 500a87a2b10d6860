use Rattle.fkv_texts.proofs.ChangeLemmas.{value_at-changed, last_of-elsewhere, newest-elsewhere, entry_at-here, entry_at-elsewhere, laid_out-changed, rising-changed, from-changed, below-changed, last_of-changed, newest-changed, newest-lower, last_of-other, newest-other, live-changed}
use Rattle.fkv_texts.proofs.laws.changed.Goals as goal

pub returns : goal.returns
returns g c = record {
  here = λ text a v e h. entry_at-here a v text e h;
  elsewhere = λ text a v b ne. entry_at-elsewhere a v text b ne;
  value = λ text a v b some. value_at-changed a v text b some;
  laid_out = λ bits size begin tail text a v h. laid_out-changed a v bits size begin tail text h;
  rising = λ text a v h. rising-changed a v text h;
  from = λ begin text a v h. from-changed a v begin text h;
  below = λ tail text a v h. below-changed a v tail text h;
  last = λ cmp text a v k. last_of-changed a v cmp text k;
  newest = λ cmp text a v k b. newest-changed a v cmp text k b;
  last_elsewhere = λ cmp text a v k e is ne. last_of-elsewhere a v cmp text k e is ne;
  newest_elsewhere = λ cmp text a v k b e is ne. newest-elsewhere a v cmp text k b e is ne;
  newest_below = λ cmp text a v k b low. newest-lower a v cmp text k b low;
  last_other = λ cmp text a v e k r here other. last_of-other a v cmp text e k r here other;
  newest_other = λ cmp text a v e k b r here other. newest-other a v cmp text e k b r here other;
  live = λ cmp text a v k e o r h here. live-changed a v cmp o text r k e h here;
}
