use Rattle.fkv_texts.proofs.CoverLemmas.{covered-new, covered-append, superseded-append, cleared-append, covered-changed, cleared-changed}
use Rattle.fkv_texts.proofs.deltas.superseded_stays.Goals as goal

pub returns : goal.returns
returns g c = record {
  covers = λ cmp es d e key whole above. covered-new cmp es d e key whole above;
  covered = λ cmp es d e w. covered-append cmp es d e.key e.address w;
  superseded = λ cmp es d e s. superseded-append cmp es d e s;
  cleared = λ cmp es d limit le clear. cleared-append cmp es d limit le clear;
  covered_changed = λ cmp es a v e w. covered-changed cmp es a v e.key e.address w;
  cleared_changed = λ cmp es a v limit le clear. cleared-changed cmp es a v limit le clear;
}
