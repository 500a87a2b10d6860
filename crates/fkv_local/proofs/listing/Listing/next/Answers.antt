use Rattle.std.proofs.Common.{◌≡◌, ◌<◌, ◌+◌, ◌-◌, None, length, map, slice_set, refl, ap, subst, ◌∙◌, arith}
use Rattle.std.specs.BTreeMap.{get}
use Rattle.std.proofs.lemmas.List.{take-set}
use Rattle.std.proofs.lemmas.Option.{slice_get_read}
use Rattle.fkv_local.specs.Listing.{IsNextList, IsUnlistedAt, behind_next}
use Rattle.fkv_local.proofs.CauseLemmas.{listed-caused}
use Rattle.fkv_local.proofs.ListingLemmas.{listed, front-view, front-left_of, read-view, read-left, read-rest, read-unlisted, gone-list}
use Rattle.fkv_local.proofs.listing.Listing.next.Goals as goal

pub invariant_of-self : goal.invariant_of-self
invariant_of-self g c =
    let items = c.self.inside.shards.items in
    let n = c.len-count.result - 1 in
    let x = c.index_mut-shard.result.now in
    front-left_of (λ shard. shard.part.partition) (λ shard. shard.reader) c.self.inside.count items n c.truncate.new.self.items
    (c.truncate.ensures.items ∙ take-set items n (record x { reader = c.put_live.new.reader })) c.self.invariant

pub invariant_of-self-in-Err-1 : goal.invariant_of-self-in-Err-1
invariant_of-self-in-Err-1 g c =
    let items = c.self.inside.shards.items in
    let n = c.len-count.result - 1 in
    let x = c.index_mut-shard.result.now in
    let low : n < length items = (let a = c.len-count.ensures in let b = c.self.inside.shards.ok.0 in let z = c.if-count-eq0.false in omega arith) in
    let here = slice_get_read items (length items) n x refl low c.index_mut-shard.ensures.value in
    read-left (λ shard. shard.part.partition) (λ shard. shard.reader) c.self.inside.count items n x (record x { reader = c.put_live.new.reader }) here refl c.self.invariant

pub returns-in-Ok-clause-list : goal.returns-in-Ok-clause-list
returns-in-Ok-clause-list g c keeps =
    let items = c.self.inside.shards.items in
    let n = c.len-count.result - 1 in
    let x = c.index_mut-shard.result.now in
    let long : length items ≡ n + 1 = (let a = c.len-count.ensures in let b = c.self.inside.shards.ok.0 in let z = c.if-count-eq0.false in omega arith) in
    let low : n < length items = omega arith in
    let here = slice_get_read items (length items) n x refl low c.index_mut-shard.ensures.value in
    let empty : (k : g.row.F-Key.Denot) → get g.F.Key.Ord.cmp c.new-map.result k ≡ None = λ k. rw c.new-map.ensures.empty refl in
    subst (λ l. IsNextList g.F.Key.Ord.cmp g.F.Functions.code l (listed (λ shard. shard.part.partition) (λ shard. shard.reader) c.self.inside.count c.truncate.new.self.items) (get g.F.Key.Ord.cmp c.put_live.new.map)) c.self.view_is
    (gone-list (λ shard. shard.part.partition) (λ shard. shard.reader) c.self.inside.count g.F.Key.Ord.cmp g.F.Functions.code items n x c.truncate.new.self.items (get g.F.Key.Ord.cmp c.put_live.new.map)
    c.self.invariant long here (c.truncate.ensures.items ∙ take-set items n (record x { reader = c.put_live.new.reader }))
    (λ k. c.in-Ok.ensures.live keeps (λ q own. empty q) k (empty k))
    (λ k other. c.in-Ok.ensures.others keeps (λ q own. empty q) k other ∙ empty k))

pub returns-in-Ok-clause-after : goal.returns-in-Ok-clause-after
returns-in-Ok-clause-after g c =
    let items = c.self.inside.shards.items in
    let n = c.len-count.result - 1 in
    let x = c.index_mut-shard.result.now in
    let last : n ≡ length items - 1 = (let a = c.len-count.ensures in let b = c.self.inside.shards.ok.0 in omega arith) in
    front-view (λ shard. shard.part.partition) (λ shard. shard.reader) c.self.inside.count items n c.truncate.new.self.items last
    (c.truncate.ensures.items ∙ take-set items n (record x { reader = c.put_live.new.reader }))
    ∙ ap behind_next c.self.view_is

pub returns-in-Err-clause-unchanged : goal.returns-in-Err-clause-unchanged
returns-in-Err-clause-unchanged g c =
    let items = c.self.inside.shards.items in
    let n = c.len-count.result - 1 in
    let x = c.index_mut-shard.result.now in
    let low : n < length items = (let a = c.len-count.ensures in let b = c.self.inside.shards.ok.0 in let z = c.if-count-eq0.false in omega arith) in
    let here = slice_get_read items (length items) n x refl low c.index_mut-shard.ensures.value in
    let y = record x { reader = c.put_live.new.reader } in
    read-view (λ shard. shard.part.partition) (λ shard. shard.reader) c.self.inside.count items n x y here refl c.args.self.now c.self.view_is

pub returns-in-Err-clause-rest : goal.returns-in-Err-clause-rest
returns-in-Err-clause-rest g c =
    let items = c.self.inside.shards.items in
    let n = c.len-count.result - 1 in
    let x = c.index_mut-shard.result.now in
    let last : n ≡ length items - 1 = (let a = c.len-count.ensures in let b = c.self.inside.shards.ok.0 in omega arith) in
    let low : n < length items = (let a = c.len-count.ensures in let b = c.self.inside.shards.ok.0 in let z = c.if-count-eq0.false in omega arith) in
    let here = slice_get_read items (length items) n x refl low c.index_mut-shard.ensures.value in
    read-rest (λ shard. shard.part.partition) (λ shard. shard.reader) c.self.inside.count items n x (record x { reader = c.put_live.new.reader }) here refl last
    ∙ ap behind_next c.self.view_is

pub returns-in-Err-clause-told : goal.returns-in-Err-clause-told
returns-in-Err-clause-told g c =
    let items = c.self.inside.shards.items in
    let n = c.len-count.result - 1 in
    let x = c.index_mut-shard.result.now in
    let last : n ≡ length items - 1 = (let a = c.len-count.ensures in let b = c.self.inside.shards.ok.0 in omega arith) in
    let low : n < length items = (let a = c.len-count.ensures in let b = c.self.inside.shards.ok.0 in let z = c.if-count-eq0.false in omega arith) in
    let here = slice_get_read items (length items) n x refl low c.index_mut-shard.ensures.value in
    let y = record x { reader = c.put_live.new.reader } in
    subst (λ l. IsUnlistedAt g.D.Receipt.Receipt.keeps g.D.Reader.PageReader.failures l.parts l.readers (map (λ shard. shard.reader) (slice_set items n y)) (length l.parts - 1) c.in-Err.refused) c.self.view_is
    (read-unlisted (λ shard. shard.part.partition) (λ shard. shard.reader) c.self.inside.count items n x y here refl g.D.Receipt.Receipt.keeps g.D.Reader.PageReader.failures c.in-Err.refused last c.in-Err.ensures.refused)

pub returns-in-Err-clause-caused : goal.returns-in-Err-clause-caused
returns-in-Err-clause-caused g c = λ kept. listed-caused _ kept c.in-Err.ensures.refused (c.in-Err.ensures.caused kept)
