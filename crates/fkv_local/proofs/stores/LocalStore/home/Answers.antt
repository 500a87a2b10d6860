use Rattle.std.proofs.Common.{◌≡◌, ◌<◌, ◌^◌, ℕ, length, refl, sym, ◌∙◌, subst}
use Rattle.std.proofs.lemmas.Option.{slice_get_read}
use Rattle.fkv_local.proofs.PartLemmas.{view-get, view-length}
use Rattle.fkv_local.proofs.stores.LocalStore.home.Goals as goal

pub partition_at-requires : goal.partition_at-requires
partition_at-requires g c =
    let items = c.self.inside.shards.items in
    let first = c.index.result.now in
    let here = slice_get_read items (length items) 0 first refl (subst (λ (n : ℕ). 0 < n) (view-length (λ shard. shard.part.partition) items) c.self.invariant.0.some) c.index.ensures in
    let sized : length items ≡ 2 ^ first.part.partition.records.partition_bits = sym (view-length (λ shard. shard.part.partition) items) ∙ sym (c.self.invariant.0.counted 0 first.part.partition (view-get (λ shard. shard.part.partition) items 0 first here)) ∙ c.facts.ensures.sound.counted in
    let ok = c.self.inside.shards.ok.0 in
    let count = c.len-count.ensures in
    (first.part.partition.records.partition_bits, cc)
