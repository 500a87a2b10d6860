use Rattle.std.proofs.Common.{map, subst}
use Rattle.std.proofs.lemmas.List.{length-map}
use Rattle.fkv_local.specs.Listing.{AreLeft}
use Rattle.fkv_local.proofs.ListingLemmas.{rest-left}
use Rattle.fkv_local.proofs.stores.LocalStore.into_lists.Goals as goal

pub of-requires : goal.of-requires
of-requires g c =
    let items = c.self.inside.shards.items in
    let views = map (λ shard. shard.part.partition) items in
    subst (AreLeft views) (length-map items (λ shard. shard.part.partition)) (rest-left views c.self.inside.clock c.self.invariant.0)
