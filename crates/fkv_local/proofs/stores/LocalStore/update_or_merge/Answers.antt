use Rattle.std.proofs.Common.{IsTrue, length, refl, sym, ◌∙◌, subst}
use Rattle.std.proofs.lemmas.Option.{slice_get_read}
use Rattle.std.proofs.lemmas.Result.{IfErr-weaker}
use Rattle.fkv_functions.proofs.KeyOrder.{key_order}
use Rattle.fkv_operations.specs.declared.operations.KeyedOp.TheVariants.{Rmw}
use Rattle.fkv_local.proofs.MergeLemmas.{updates-number, updates-count, updates-idle}
use Rattle.fkv_local.proofs.PartLemmas.{view-same}
use Rattle.fkv_local.proofs.CauseLemmas.{home-numbered, numbered-set}
use Rattle.fkv_local.proofs.StoreLemmas.{inside-home, home-idle, home-past, home-own, home-rests, home-updates, home-refusal, parts-is, terms-are, readers-is, keeps-is}
use Rattle.fkv_local.proofs.stores.LocalStore.update_or_merge.Goals as goal

pub update_or_merge-requires-clause-idle : goal.update_or_merge-requires-clause-idle
update_or_merge-requires-clause-idle g c =
    let items = c.self.inside.shards.items in
    let home = c.home-place.result in
    let old = c.index_mut-shard.result.now in
    let within = inside-home (λ shard. shard.part.partition) g.F.Functions.code items c.self.inside.clock c.args.self.now.parts (parts-is c.self.view_is) home c.home-place.ensures.within in
    let here = slice_get_read items (length items) home old refl within c.index_mut-shard.ensures.value in
    home-idle (λ shard. shard.part.partition) g.F.Functions.code items c.self.inside.clock c.args.self.now.parts (parts-is c.self.view_is) home old c.self.invariant.0 here

pub update_or_merge-requires-clause-past : goal.update_or_merge-requires-clause-past
update_or_merge-requires-clause-past g c =
    let items = c.self.inside.shards.items in
    let home = c.home-place.result in
    let old = c.index_mut-shard.result.now in
    let within = inside-home (λ shard. shard.part.partition) g.F.Functions.code items c.self.inside.clock c.args.self.now.parts (parts-is c.self.view_is) home c.home-place.ensures.within in
    let here = slice_get_read items (length items) home old refl within c.index_mut-shard.ensures.value in
    home-past (λ shard. shard.part.partition) g.F.Functions.code items c.self.inside.clock c.args.self.now.parts (parts-is c.self.view_is) home old c.self.invariant.0 here

pub update_or_merge-requires-clause-own : goal.update_or_merge-requires-clause-own
update_or_merge-requires-clause-own g c =
    let items = c.self.inside.shards.items in
    let home = c.home-place.result in
    let old = c.index_mut-shard.result.now in
    let within = inside-home (λ shard. shard.part.partition) g.F.Functions.code items c.self.inside.clock c.args.self.now.parts (parts-is c.self.view_is) home c.home-place.ensures.within in
    let here = slice_get_read items (length items) home old refl within c.index_mut-shard.ensures.value in
    home-own (λ shard. shard.part.partition) g.F.Functions.code items c.self.inside.clock c.args.self.now.parts (parts-is c.self.view_is) home old c.self.invariant.0 here c.args.key.now c.home-place.ensures.value

pub invariant_of-self : goal.invariant_of-self
invariant_of-self g c =
    let items = c.self.inside.shards.items in
    let home = c.home-place.result in
    let old = c.index_mut-shard.result.now in
    let within = inside-home (λ shard. shard.part.partition) g.F.Functions.code items c.self.inside.clock c.args.self.now.parts (parts-is c.self.view_is) home c.home-place.ensures.within in
    let here = slice_get_read items (length items) home old refl within c.index_mut-shard.ensures.value in
    let stays = c.update_or_merge.ensures.runs in
    let passed = c.update_or_merge.ensures.passed in (
      home-rests (λ shard. shard.part.partition) g.F.Functions.code items c.self.inside.clock c.args.self.now.parts (parts-is c.self.view_is) home old c.self.invariant.0 here c.update_or_merge.new.shard c.update_or_merge.new.clock (updates-number stays) (updates-count stays) (updates-idle stays) passed.past passed.later,
      numbered-set (λ shard. shard.part.writer) g.D.Writer.PageWriter.next items c.self.inside.clock home old c.self.invariant.1 here c.update_or_merge.new.shard c.update_or_merge.new.clock c.update_or_merge.ensures.numbered passed.later,
    )

pub returns-clause-runs : goal.returns-clause-runs
returns-clause-runs g c =
    let items = c.self.inside.shards.items in
    let home = c.home-place.result in
    let old = c.index_mut-shard.result.now in
    let within = inside-home (λ shard. shard.part.partition) g.F.Functions.code items c.self.inside.clock c.args.self.now.parts (parts-is c.self.view_is) home c.home-place.ensures.within in
    let here = slice_get_read items (length items) home old refl within c.index_mut-shard.ensures.value in
    let ord = g.met.F.Key.Ord in
    let order = key_order g.F.Key.PartialEq.eq g.F.Key.Ord.cmp ord.matches_eq g.met.F.Key.FixedKey.exact ord.total in
    home-updates (λ shard. shard.part.partition) g.F.Functions.code items c.self.inside.clock c.args.self.now.parts (parts-is c.self.view_is) home old c.self.invariant.0 here c.update_or_merge.new.shard c.update_or_merge.new.clock c.args.key.now c.home-place.ensures.value g.D.Receipt.Receipt.keeps g.F.Key.Ord.cmp order g.F.Functions.meaning c.args.input.now c.update_or_merge.result c.update_or_merge.ensures.runs

pub returns-clause-told : goal.returns-clause-told
returns-clause-told g c =
    let items = c.self.inside.shards.items in
    let home = c.home-place.result in
    let old = c.index_mut-shard.result.now in
    let within = inside-home (λ shard. shard.part.partition) g.F.Functions.code items c.self.inside.clock c.args.self.now.parts (parts-is c.self.view_is) home c.home-place.ensures.within in
    let here = slice_get_read items (length items) home old refl within c.index_mut-shard.ensures.value in
    IfErr-weaker c.update_or_merge.result _ _ (home-refusal (λ shard. shard.part.partition) (λ shard. shard.part.writer) (λ shard. shard.reader) items c.self.view_is home old c.update_or_merge.new.shard here c.update_or_merge.new.clock g.D.Writer.PageWriter.failures g.D.Reader.PageReader.failures g.F.Functions.code (Rmw c.args.key.now c.args.input.now) c.args.key.now c.home-place.ensures.value refl) c.update_or_merge.ensures.told

pub returns-clause-same_terms : goal.returns-clause-same_terms
returns-clause-same_terms g c = terms-are c.self.view_is

pub returns-clause-unread : goal.returns-clause-unread
returns-clause-unread g c = λ merges kept.
    let items = c.self.inside.shards.items in
    let home = c.home-place.result in
    let old = c.index_mut-shard.result.now in
    let within = inside-home (λ shard. shard.part.partition) g.F.Functions.code items c.self.inside.clock c.args.self.now.parts (parts-is c.self.view_is) home c.home-place.ensures.within in
    let here = slice_get_read items (length items) home old refl within c.index_mut-shard.ensures.value in
    view-same (λ shard. shard.reader) items home old c.update_or_merge.new.shard here
    (c.update_or_merge.ensures.unread merges (subst IsTrue (sym (keeps-is c.self.view_is)) kept))
    ∙ readers-is c.self.view_is

pub update_or_merge-requires-clause-numbered : goal.update_or_merge-requires-clause-numbered
update_or_merge-requires-clause-numbered g c =
    let items = c.self.inside.shards.items in
    let home = c.home-place.result in
    let old = c.index_mut-shard.result.now in
    let within = inside-home (λ shard. shard.part.partition) g.F.Functions.code items c.self.inside.clock c.args.self.now.parts (parts-is c.self.view_is) home c.home-place.ensures.within in
    let here = slice_get_read items (length items) home old refl within c.index_mut-shard.ensures.value in
    home-numbered (λ shard. shard.part.writer) g.D.Writer.PageWriter.next items c.self.inside.clock home old c.self.invariant.1 here
