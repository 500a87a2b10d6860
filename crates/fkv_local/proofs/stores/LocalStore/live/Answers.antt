use Rattle.std.proofs.Common.{◌≡◌, ◌++◌, length, map, take, drop, sym, ap, subst, ◌∙◌, rules}
use Rattle.fkv_partition.specs.Unions.{union_of}
use Rattle.fkv_local.specs.Listing.{IsUnlisted}
use Rattle.fkv_local.specs.Resting.{AreAtRest, AreNumbered}
use Rattle.fkv_local.proofs.CauseLemmas.{lent-whole}
use Rattle.fkv_local.proofs.StoreLemmas.{parts-is, readers-is}
use Rattle.fkv_local.proofs.stores.LocalStore.live.Goals as goal

pub invariant_of-self : goal.invariant_of-self
invariant_of-self g c =
    let items = c.self.inside.shards.items in
    let long : c.self.inside.shards.len ≡ length items = search rules in
    let lent : c.deref_mut.result.now ≡ items = search rules in
    let same : length c.gather.new.shards ≡ length items = c.gather.ensures.sized ∙ ap length lent in
    let whole = lent-whole items c.gather.new.shards c.self.inside.shards.len long same in
    let views : map (λ shard. shard.part.partition) c.gather.new.shards ≡ map (λ shard. shard.part.partition) items = c.gather.ensures.views ∙ ap (map (λ shard. shard.part.partition)) lent in
    let writers : map (λ shard. shard.part.writer) c.gather.new.shards ≡ map (λ shard. shard.part.writer) items = c.gather.ensures.writers ∙ ap (map (λ shard. shard.part.writer)) lent in (
      subst (λ vs. AreAtRest vs c.self.inside.clock) (sym (ap (map (λ shard. shard.part.partition)) whole ∙ views)) c.self.invariant.0,
      subst (λ ws. AreNumbered g.D.Writer.PageWriter.next ws c.self.inside.clock) (sym (ap (map (λ shard. shard.part.writer)) whole ∙ writers)) c.self.invariant.1,
    )

pub invariant_of-self-2 : goal.invariant_of-self-2
invariant_of-self-2 g c =
    let items = c.self.inside.shards.items in
    let long : c.self.inside.shards.len ≡ length items = search rules in
    let lent : c.deref_mut.result.now ≡ items = search rules in
    let same : length c.gather.new.shards ≡ length items = c.gather.ensures.sized ∙ ap length lent in
    let whole = lent-whole items c.gather.new.shards c.self.inside.shards.len long same in
    let views : map (λ shard. shard.part.partition) c.gather.new.shards ≡ map (λ shard. shard.part.partition) items = c.gather.ensures.views ∙ ap (map (λ shard. shard.part.partition)) lent in
    let writers : map (λ shard. shard.part.writer) c.gather.new.shards ≡ map (λ shard. shard.part.writer) items = c.gather.ensures.writers ∙ ap (map (λ shard. shard.part.writer)) lent in (
      subst (λ vs. AreAtRest vs c.self.inside.clock) (sym (ap (map (λ shard. shard.part.partition)) whole ∙ views)) c.self.invariant.0,
      subst (λ ws. AreNumbered g.D.Writer.PageWriter.next ws c.self.inside.clock) (sym (ap (map (λ shard. shard.part.writer)) whole ∙ writers)) c.self.invariant.1,
    )

pub returns-clause-map : goal.returns-clause-map
returns-clause-map g c = λ kept q.
    let lent : c.deref_mut.result.now ≡ c.self.inside.shards.items = search rules in
    c.in-Ok.ensures.ok kept q
    ∙ ap (λ vs. union_of g.F.Key.Ord.cmp g.F.Functions.code vs q) (ap (map (λ shard. shard.part.partition)) lent ∙ parts-is c.self.view_is)

pub returns-in-Err-clause-told : goal.returns-in-Err-clause-told
returns-in-Err-clause-told g c =
    let items = c.self.inside.shards.items in
    let long : c.self.inside.shards.len ≡ length items = search rules in
    let lent : c.deref_mut.result.now ≡ items = search rules in
    let same : length c.gather.new.shards ≡ length items = c.gather.ensures.sized ∙ ap length lent in
    let whole = lent-whole items c.gather.new.shards c.self.inside.shards.len long same in
    let keeps = g.D.Receipt.Receipt.keeps in
    let reads = g.D.Reader.PageReader.failures in
    subst (λ ps. IsUnlisted keeps reads ps c.args.self.now.readers (map (λ shard. shard.reader) (take c.self.inside.shards.len (c.gather.new.shards ++ drop (length c.gather.new.shards) items))) c.in-Err.refused)
    (ap (map (λ shard. shard.part.partition)) lent ∙ parts-is c.self.view_is)
    (subst (λ rs. IsUnlisted keeps reads (map (λ shard. shard.part.partition) c.deref_mut.result.now) rs (map (λ shard. shard.reader) (take c.self.inside.shards.len (c.gather.new.shards ++ drop (length c.gather.new.shards) items))) c.in-Err.refused)
    (ap (map (λ shard. shard.reader)) lent ∙ readers-is c.self.view_is)
    (subst (λ ns. IsUnlisted keeps reads (map (λ shard. shard.part.partition) c.deref_mut.result.now) (map (λ shard. shard.reader) c.deref_mut.result.now) ns c.in-Err.refused)
    (sym (ap (map (λ shard. shard.reader)) whole)) c.in-Err.ensures.told))
