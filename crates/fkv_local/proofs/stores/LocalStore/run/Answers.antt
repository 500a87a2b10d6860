use Rattle.std.proofs.Common.{IsTrue, length, refl, sym, ap, subst, ◌∙◌}
use Rattle.std.proofs.lemmas.Option.{slice_get_read}
use Rattle.std.proofs.lemmas.Result.{IfErr-weaker}
use Rattle.fkv_functions.proofs.KeyOrder.{key_order}
use Rattle.fkv_partition.specs.Views.{partition_of}
use Rattle.fkv_local.proofs.CauseLemmas.{home-numbered, numbered-set}
use Rattle.fkv_local.proofs.PartLemmas.{view-same}
use Rattle.fkv_local.proofs.StoreLemmas.{inside-home, home-idle, home-past, home-own, home-rests, home-runs, home-refusal, home-loads, parts-is, terms-are, readers-is, keeps-is}
use Rattle.fkv_local.proofs.stores.LocalStore.run.Goals as goal

pub operate-requires-clause-idle : goal.operate-requires-clause-idle
operate-requires-clause-idle g c =
    let items = c.self.inside.shards.items in
    let home = c.home-home.result in
    let old = c.index_mut-shard.result.now in
    let within = inside-home (λ shard. shard.part.partition) g.F.Functions.code items c.self.inside.clock c.args.self.now.parts (parts-is c.self.view_is) home c.home-home.ensures.within in
    let here = slice_get_read items (length items) home old refl within c.index_mut-shard.ensures.value in
    home-idle (λ shard. shard.part.partition) g.F.Functions.code items c.self.inside.clock c.args.self.now.parts (parts-is c.self.view_is) home old c.self.invariant.0 here

pub operate-requires-clause-past : goal.operate-requires-clause-past
operate-requires-clause-past g c =
    let items = c.self.inside.shards.items in
    let home = c.home-home.result in
    let old = c.index_mut-shard.result.now in
    let within = inside-home (λ shard. shard.part.partition) g.F.Functions.code items c.self.inside.clock c.args.self.now.parts (parts-is c.self.view_is) home c.home-home.ensures.within in
    let here = slice_get_read items (length items) home old refl within c.index_mut-shard.ensures.value in
    home-past (λ shard. shard.part.partition) g.F.Functions.code items c.self.inside.clock c.args.self.now.parts (parts-is c.self.view_is) home old c.self.invariant.0 here

pub operate-requires-clause-own : goal.operate-requires-clause-own
operate-requires-clause-own g c =
    let items = c.self.inside.shards.items in
    let home = c.home-home.result in
    let old = c.index_mut-shard.result.now in
    let within = inside-home (λ shard. shard.part.partition) g.F.Functions.code items c.self.inside.clock c.args.self.now.parts (parts-is c.self.view_is) home c.home-home.ensures.within in
    let here = slice_get_read items (length items) home old refl within c.index_mut-shard.ensures.value in
    ap (λ q. partition_of old.part.partition.count (g.F.Functions.code q)) (sym c.key.ensures) ∙ home-own (λ shard. shard.part.partition) g.F.Functions.code items c.self.inside.clock c.args.self.now.parts (parts-is c.self.view_is) home old c.self.invariant.0 here c.key.result c.home-home.ensures.value

pub invariant_of-self : goal.invariant_of-self
invariant_of-self g c =
    let items = c.self.inside.shards.items in
    let home = c.home-home.result in
    let old = c.index_mut-shard.result.now in
    let within = inside-home (λ shard. shard.part.partition) g.F.Functions.code items c.self.inside.clock c.args.self.now.parts (parts-is c.self.view_is) home c.home-home.ensures.within in
    let here = slice_get_read items (length items) home old refl within c.index_mut-shard.ensures.value in
    let stays = c.operate.ensures.runs in
    let passed = c.operate.ensures.passed in (
      home-rests (λ shard. shard.part.partition) g.F.Functions.code items c.self.inside.clock c.args.self.now.parts (parts-is c.self.view_is) home old c.self.invariant.0 here c.operate.new.shard c.operate.new.clock stays.number stays.count stays.idle passed.past passed.later,
      numbered-set (λ shard. shard.part.writer) g.D.Writer.PageWriter.next items c.self.inside.clock home old c.self.invariant.1 here c.operate.new.shard c.operate.new.clock c.operate.ensures.numbered passed.later,
    )

pub returns-clause-runs : goal.returns-clause-runs
returns-clause-runs g c =
    let items = c.self.inside.shards.items in
    let home = c.home-home.result in
    let old = c.index_mut-shard.result.now in
    let within = inside-home (λ shard. shard.part.partition) g.F.Functions.code items c.self.inside.clock c.args.self.now.parts (parts-is c.self.view_is) home c.home-home.ensures.within in
    let here = slice_get_read items (length items) home old refl within c.index_mut-shard.ensures.value in
    let ord = g.met.F.Key.Ord in
    let order = key_order g.F.Key.PartialEq.eq g.F.Key.Ord.cmp ord.matches_eq g.met.F.Key.FixedKey.exact ord.total in
    home-runs (λ shard. shard.part.partition) g.F.Functions.code items c.self.inside.clock c.args.self.now.parts (parts-is c.self.view_is) home old c.self.invariant.0 here c.operate.new.shard c.operate.new.clock c.key.result c.home-home.ensures.value g.D.Receipt.Receipt.keeps g.F.Key.Ord.cmp order g.F.Functions.meaning c.args.op c.operate.result c.key.ensures c.operate.ensures.runs

pub returns-clause-told : goal.returns-clause-told
returns-clause-told g c =
    let items = c.self.inside.shards.items in
    let home = c.home-home.result in
    let old = c.index_mut-shard.result.now in
    let within = inside-home (λ shard. shard.part.partition) g.F.Functions.code items c.self.inside.clock c.args.self.now.parts (parts-is c.self.view_is) home c.home-home.ensures.within in
    let here = slice_get_read items (length items) home old refl within c.index_mut-shard.ensures.value in
    IfErr-weaker c.operate.result _ _ (home-refusal (λ shard. shard.part.partition) (λ shard. shard.part.writer) (λ shard. shard.reader) items c.self.view_is home old c.operate.new.shard here c.operate.new.clock g.D.Writer.PageWriter.failures g.D.Reader.PageReader.failures g.F.Functions.code c.args.op c.key.result c.home-home.ensures.value c.key.ensures) c.operate.ensures.told

pub returns-clause-same_terms : goal.returns-clause-same_terms
returns-clause-same_terms g c = terms-are c.self.view_is

pub operate-requires-clause-numbered : goal.operate-requires-clause-numbered
operate-requires-clause-numbered g c =
    let items = c.self.inside.shards.items in
    let home = c.home-home.result in
    let old = c.index_mut-shard.result.now in
    let within = inside-home (λ shard. shard.part.partition) g.F.Functions.code items c.self.inside.clock c.args.self.now.parts (parts-is c.self.view_is) home c.home-home.ensures.within in
    let here = slice_get_read items (length items) home old refl within c.index_mut-shard.ensures.value in
    home-numbered (λ shard. shard.part.writer) g.D.Writer.PageWriter.next items c.self.inside.clock home old c.self.invariant.1 here

pub returns-clause-unread : goal.returns-clause-unread
returns-clause-unread g c = λ may kept.
    let items = c.self.inside.shards.items in
    let home = c.home-home.result in
    let old = c.index_mut-shard.result.now in
    let within = inside-home (λ shard. shard.part.partition) g.F.Functions.code items c.self.inside.clock c.args.self.now.parts (parts-is c.self.view_is) home c.home-home.ensures.within in
    let here = slice_get_read items (length items) home old refl within c.index_mut-shard.ensures.value in
    view-same (λ shard. shard.reader) items home old c.operate.new.shard here
    (c.operate.ensures.unread may (subst IsTrue (sym (keeps-is c.self.view_is)) kept))
    ∙ readers-is c.self.view_is

pub returns-clause-loads : goal.returns-clause-loads
returns-clause-loads g c = λ kept log.
    let items = c.self.inside.shards.items in
    let home = c.home-home.result in
    let old = c.index_mut-shard.result.now in
    let within = inside-home (λ shard. shard.part.partition) g.F.Functions.code items c.self.inside.clock c.args.self.now.parts (parts-is c.self.view_is) home c.home-home.ensures.within in
    let here = slice_get_read items (length items) home old refl within c.index_mut-shard.ensures.value in
    home-loads (λ shard. shard.part.partition) (λ shard. shard.part.writer) (λ shard. shard.reader) items c.self.view_is home old c.operate.new.shard here c.operate.new.clock g.D.Writer.PageWriter.failures g.D.Reader.PageReader.reads g.F.Functions.code c.args.op c.key.result c.home-home.ensures.value c.key.ensures
    (c.operate.ensures.loads kept (subst IsTrue (sym (keeps-is c.self.view_is)) log))
