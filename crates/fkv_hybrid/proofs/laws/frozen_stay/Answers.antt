use Rattle.std.proofs.Common.{refl, arith}
use Rattle.fkv_texts.proofs.TextLemmas.{entry_at-old}
use Rattle.fkv_texts.proofs.ChangeLemmas.{entry_at-elsewhere}
use Rattle.fkv_texts.proofs.CutLemmas.{cut-entry}
use Rattle.fkv_hybrid.proofs.laws.frozen_stay.Goals as goal

pub returns : goal.returns
returns g c = record {
  appended = λ size log p k v d le b from low. entry_at-old log.text (record { address = log.tail; previous = p; key = k; value = v; delta = d }) b (λ e. omega arith);
  changed = λ log a v le b from low. entry_at-elsewhere a v log.text b (λ e. omega arith);
  flushed = λ log s b from low. refl;
  moved = λ keeps log regions more b from low. cut-entry _ b log.text from;
  truncated = λ keeps log begin b from low. cut-entry _ b log.text from;
}
