use Rattle.std.proofs.Common.{◌≡◌, ◌-◌, length, ap, ◌∙◌, arith}
use Rattle.fkv_local.specs.Listing.{behind_next}
use Rattle.fkv_local.proofs.ListingLemmas.{front-view, front-left_of}
use Rattle.fkv_local.proofs.listing.Listing.skip.Goals as goal

pub invariant_of-self : goal.invariant_of-self
invariant_of-self g c =
    front-left_of (λ shard. shard.part.partition) (λ shard. shard.reader) c.self.inside.count c.self.inside.shards.items c.saturating_sub.result c.truncate.new.self.items c.truncate.ensures.items c.self.invariant

pub returns : goal.returns
returns g c =
    let last : c.saturating_sub.result ≡ length c.self.inside.shards.items - 1 = (let a = c.len-count.ensures in let b = c.self.inside.shards.ok.0 in let d = c.saturating_sub.ensures in omega arith) in
    front-view (λ shard. shard.part.partition) (λ shard. shard.reader) c.self.inside.count c.self.inside.shards.items c.saturating_sub.result c.truncate.new.self.items last c.truncate.ensures.items
    ∙ ap behind_next c.self.view_is
