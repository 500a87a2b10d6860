use Rattle.fkv_texts.proofs.TextLemmas.{entry_at-new, entry_at-old, value_at-append, last_of-append, live-append, newest-from, newest-below}
use Rattle.fkv_texts.proofs.laws.appended.Goals as goal

pub returns : goal.returns
returns g c = record {
  new = entry_at-new;
  old = entry_at-old;
  value = value_at-append;
  last = last_of-append;
  live = live-append;
  newest_from = newest-from;
  newest_below = newest-below;
}
