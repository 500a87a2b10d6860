use Rattle.fkv_texts.proofs.ValueLemmas.{resolved-append, live-fold, newest-fold}
use Rattle.fkv_texts.proofs.StoodLemmas.{whole-resolved}
use Rattle.fkv_texts.proofs.DeltaChangeLemmas.{changed-resolved}
use Rattle.fkv_texts.proofs.deltas.values.Goals as goal

pub returns : goal.returns
returns g c = record {
  appended = resolved-append;
  live = λ cmp join es k o. live-fold cmp join o es k;
  newest = λ cmp join es k a o r. newest-fold cmp join o es r k a;
  whole = whole-resolved;
  changed = λ cmp join es a v e o r here whole last. changed-resolved cmp join a v o es r e here whole last;
}
