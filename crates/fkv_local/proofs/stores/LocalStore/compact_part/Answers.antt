use Rattle.std.proofs.Common.{length, refl}
use Rattle.std.proofs.lemmas.Option.{slice_get_read}
use Rattle.std.proofs.lemmas.Result.{IfErr-weaker}
use Rattle.fkv_functions.proofs.KeyOrder.{key_order}
use Rattle.fkv_local.proofs.CauseLemmas.{home-numbered, numbered-set}
use Rattle.fkv_local.proofs.StoreLemmas.{inside-home, home-idle, home-past, home-rests, home-sized, home-quiet, home-uncompacted, home-steady, home-all_cut, home-given_back, home-cut, home-uncut, others-stay, cut-told, uncut-told, OnOk-weaker, parts-is, terms-are}
use Rattle.fkv_local.proofs.stores.LocalStore.compact_part.Goals as goal

pub compact-requires-clause-idle : goal.compact-requires-clause-idle
compact-requires-clause-idle g c =
    let items = c.self.inside.shards.items in
    let home = c.args.home in
    let old = c.index_mut-shard.result.now in
    let within = inside-home (λ shard. shard.part.partition) g.F.Functions.code items c.self.inside.clock c.args.self.now.parts (parts-is c.self.view_is) home c.requires.within in
    let here = slice_get_read items (length items) home old refl within c.index_mut-shard.ensures.value in
    home-idle (λ shard. shard.part.partition) g.F.Functions.code items c.self.inside.clock c.args.self.now.parts (parts-is c.self.view_is) home old c.self.invariant.0 here

pub compact-requires-clause-past : goal.compact-requires-clause-past
compact-requires-clause-past g c =
    let items = c.self.inside.shards.items in
    let home = c.args.home in
    let old = c.index_mut-shard.result.now in
    let within = inside-home (λ shard. shard.part.partition) g.F.Functions.code items c.self.inside.clock c.args.self.now.parts (parts-is c.self.view_is) home c.requires.within in
    let here = slice_get_read items (length items) home old refl within c.index_mut-shard.ensures.value in
    home-past (λ shard. shard.part.partition) g.F.Functions.code items c.self.inside.clock c.args.self.now.parts (parts-is c.self.view_is) home old c.self.invariant.0 here

pub invariant_of-self : goal.invariant_of-self
invariant_of-self g c =
    let items = c.self.inside.shards.items in
    let home = c.args.home in
    let old = c.index_mut-shard.result.now in
    let within = inside-home (λ shard. shard.part.partition) g.F.Functions.code items c.self.inside.clock c.args.self.now.parts (parts-is c.self.view_is) home c.requires.within in
    let here = slice_get_read items (length items) home old refl within c.index_mut-shard.ensures.value in
    let stays = c.compact.ensures.stays in
    let passed = c.compact.ensures.passed in (
      home-rests (λ shard. shard.part.partition) g.F.Functions.code items c.self.inside.clock c.args.self.now.parts (parts-is c.self.view_is) home old c.self.invariant.0 here c.compact.new.shard c.compact.new.clock stays.number stays.count stays.idle passed.past passed.later,
      numbered-set (λ shard. shard.part.writer) g.D.Writer.PageWriter.next items c.self.inside.clock home old c.self.invariant.1 here c.compact.new.shard c.compact.new.clock c.compact.ensures.numbered passed.later,
    )

pub returns-clause-stays : goal.returns-clause-stays
returns-clause-stays g c =
    let items = c.self.inside.shards.items in
    let home = c.args.home in
    let old = c.index_mut-shard.result.now in
    let within = inside-home (λ shard. shard.part.partition) g.F.Functions.code items c.self.inside.clock c.args.self.now.parts (parts-is c.self.view_is) home c.requires.within in
    let here = slice_get_read items (length items) home old refl within c.index_mut-shard.ensures.value in
    let ord = g.met.F.Key.Ord in
    let order = key_order g.F.Key.PartialEq.eq g.F.Key.Ord.cmp ord.matches_eq g.met.F.Key.FixedKey.exact ord.total in
    home-quiet (λ shard. shard.part.partition) g.F.Functions.code items c.self.inside.clock c.args.self.now.parts (parts-is c.self.view_is) home old c.self.invariant.0 here c.compact.new.shard c.compact.new.clock g.D.Receipt.Receipt.keeps g.F.Key.Ord.cmp order g.F.Functions.meaning c.compact.ensures.stays

pub returns-clause-sized : goal.returns-clause-sized
returns-clause-sized g c =
    let items = c.self.inside.shards.items in
    let home = c.args.home in
    let old = c.index_mut-shard.result.now in
    let within = inside-home (λ shard. shard.part.partition) g.F.Functions.code items c.self.inside.clock c.args.self.now.parts (parts-is c.self.view_is) home c.requires.within in
    let here = slice_get_read items (length items) home old refl within c.index_mut-shard.ensures.value in
    home-sized (λ shard. shard.part.partition) g.F.Functions.code items c.self.inside.clock c.args.self.now.parts (parts-is c.self.view_is) home old c.self.invariant.0 here c.compact.new.shard c.compact.new.clock

pub returns-clause-same_terms : goal.returns-clause-same_terms
returns-clause-same_terms g c = terms-are c.self.view_is

pub returns-clause-others : goal.returns-clause-others
returns-clause-others g c =
    let items = c.self.inside.shards.items in
    let home = c.args.home in
    let old = c.index_mut-shard.result.now in
    let within = inside-home (λ shard. shard.part.partition) g.F.Functions.code items c.self.inside.clock c.args.self.now.parts (parts-is c.self.view_is) home c.requires.within in
    let here = slice_get_read items (length items) home old refl within c.index_mut-shard.ensures.value in
    others-stay (λ shard. shard.part.partition) (λ shard. shard.part.writer) (λ shard. shard.reader) items c.self.view_is home old c.compact.new.shard here c.compact.new.clock

pub returns-clause-told : goal.returns-clause-told
returns-clause-told g c =
    let items = c.self.inside.shards.items in
    let home = c.args.home in
    let old = c.index_mut-shard.result.now in
    let within = inside-home (λ shard. shard.part.partition) g.F.Functions.code items c.self.inside.clock c.args.self.now.parts (parts-is c.self.view_is) home c.requires.within in
    let here = slice_get_read items (length items) home old refl within c.index_mut-shard.ensures.value in
    IfErr-weaker c.compact.result _ _ (home-uncompacted (λ shard. shard.part.partition) (λ shard. shard.part.writer) (λ shard. shard.reader) items c.self.view_is home old c.compact.new.shard here c.compact.new.clock g.D.Writer.PageWriter.failures g.D.Reader.PageReader.failures) c.compact.ensures.told

pub returns-clause-steady : goal.returns-clause-steady
returns-clause-steady g c =
    let items = c.self.inside.shards.items in
    let home = c.args.home in
    let old = c.index_mut-shard.result.now in
    let within = inside-home (λ shard. shard.part.partition) g.F.Functions.code items c.self.inside.clock c.args.self.now.parts (parts-is c.self.view_is) home c.requires.within in
    let here = slice_get_read items (length items) home old refl within c.index_mut-shard.ensures.value in
    OnOk-weaker c.compact.result (home-steady (λ shard. shard.part.partition) (λ shard. shard.part.writer) (λ shard. shard.reader) items c.self.view_is home old c.compact.new.shard here c.compact.new.clock g.D.Writer.PageWriter.failures g.D.Reader.PageReader.failures) c.compact.ensures.steady

pub returns-clause-whole : goal.returns-clause-whole
returns-clause-whole g c =
    let items = c.self.inside.shards.items in
    let home = c.args.home in
    let old = c.index_mut-shard.result.now in
    let within = inside-home (λ shard. shard.part.partition) g.F.Functions.code items c.self.inside.clock c.args.self.now.parts (parts-is c.self.view_is) home c.requires.within in
    let here = slice_get_read items (length items) home old refl within c.index_mut-shard.ensures.value in
    OnOk-weaker c.compact.result (home-all_cut (λ shard. shard.part.partition) (λ shard. shard.part.writer) (λ shard. shard.reader) items c.self.view_is home old c.compact.new.shard here c.compact.new.clock) c.compact.ensures.whole

pub returns-clause-cut : goal.returns-clause-cut
returns-clause-cut g c =
    let items = c.self.inside.shards.items in
    let home = c.args.home in
    let old = c.index_mut-shard.result.now in
    let within = inside-home (λ shard. shard.part.partition) g.F.Functions.code items c.self.inside.clock c.args.self.now.parts (parts-is c.self.view_is) home c.requires.within in
    let here = slice_get_read items (length items) home old refl within c.index_mut-shard.ensures.value in
    cut-told old.part.partition c.compact.new.shard.part.partition c.compact.result (home-cut (λ shard. shard.part.partition) (λ shard. shard.part.writer) (λ shard. shard.reader) items c.self.view_is home old c.compact.new.shard here c.compact.new.clock) c.compact.ensures.cut

pub returns-clause-uncut : goal.returns-clause-uncut
returns-clause-uncut g c =
    let items = c.self.inside.shards.items in
    let home = c.args.home in
    let old = c.index_mut-shard.result.now in
    let within = inside-home (λ shard. shard.part.partition) g.F.Functions.code items c.self.inside.clock c.args.self.now.parts (parts-is c.self.view_is) home c.requires.within in
    let here = slice_get_read items (length items) home old refl within c.index_mut-shard.ensures.value in
    uncut-told old.part.partition c.compact.new.shard.part.partition c.compact.result (home-uncut (λ shard. shard.part.partition) (λ shard. shard.part.writer) (λ shard. shard.reader) items c.self.view_is home old c.compact.new.shard here c.compact.new.clock) c.compact.ensures.cut

pub returns-clause-given_back : goal.returns-clause-given_back
returns-clause-given_back g c =
    let items = c.self.inside.shards.items in
    let home = c.args.home in
    let old = c.index_mut-shard.result.now in
    let within = inside-home (λ shard. shard.part.partition) g.F.Functions.code items c.self.inside.clock c.args.self.now.parts (parts-is c.self.view_is) home c.requires.within in
    let here = slice_get_read items (length items) home old refl within c.index_mut-shard.ensures.value in
    OnOk-weaker c.compact.result (λ given. home-given_back (λ shard. shard.part.partition) (λ shard. shard.part.writer) (λ shard. shard.reader) items c.self.view_is home old c.compact.new.shard here c.compact.new.clock (given refl)) c.compact.ensures.given_back

pub compact-requires-clause-numbered : goal.compact-requires-clause-numbered
compact-requires-clause-numbered g c =
    let items = c.self.inside.shards.items in
    let home = c.args.home in
    let old = c.index_mut-shard.result.now in
    let within = inside-home (λ shard. shard.part.partition) g.F.Functions.code items c.self.inside.clock c.args.self.now.parts (parts-is c.self.view_is) home c.requires.within in
    let here = slice_get_read items (length items) home old refl within c.index_mut-shard.ensures.value in
    home-numbered (λ shard. shard.part.writer) g.D.Writer.PageWriter.next items c.self.inside.clock home old c.self.invariant.1 here
