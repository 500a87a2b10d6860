use Rattle.std.proofs.Common.{arith}
use Rattle.fkv_texts.proofs.TextLemmas.{live-append, newest-below, entry_at-old}
use Rattle.fkv_index.specs.Words.{address_of}
use Rattle.fkv_lookups.specs.Payloads.{value_in, is_part}
use Rattle.fkv_lookups.proofs.laws.records_grow.Goals as goal

pub returns : goal.returns
returns g c = record {
  kept = λ cmp v e key payload has k a low.
      newest-below cmp v.text (record { address = v.log.tail; previous = address_of e.word; key = key; value = has; delta = is_part payload }) k a low;
  lives = λ cmp v e key payload has.
      live-append cmp v.text (record { address = v.log.tail; previous = address_of e.word; key = key; value = has; delta = is_part payload });
  frozen = λ keeps code v e key payload has a t low.
      let most = t.regions.read_only in
      let safe = t.regions.agree.in_order.safe in
      entry_at-old v.log.text (record { address = v.log.tail; previous = address_of e.word; key = key; value = value_in payload; delta = is_part payload }) a (λ same. omega arith);
}
