use Rattle.std.proofs.Common.{refl, arith}
use Rattle.fkv_texts.proofs.ChangeLemmas.{live-changed, entry_at-elsewhere}
use Rattle.fkv_lookups.proofs.StillLemmas.{still-stays}
use Rattle.fkv_lookups.proofs.laws.records_change.Goals as goal

pub returns : goal.returns
returns g c = record {
  kept = λ cmp keeps code v a value k b t last high still. still-stays cmp v.text t.rising a v.log.regions.offsets.safe_read_only value last.entry last.here last.some last.whole high k b still;
  lives = λ cmp keeps code v value k e order t last. live-changed e.address value cmp order v.text t.rising k e last refl;
  frozen = λ v a value b high low. entry_at-elsewhere a value v.log.text b (λ same. omega arith);
}
