use Rattle.std.proofs.Common.{refl, ap, ◌∙◌}
use Rattle.fkv_functions.proofs.KeyOrder.{key_order}
use Rattle.fkv_texts.specs.Text.{text_from}
use Rattle.fkv_texts.specs.Chains.{falling, leads_to, reached}
use Rattle.fkv_texts.proofs.CutLemmas.{cut-rising, cut-from, cut-leads, cut-chained}
use Rattle.fkv_operations.specs.Classes.{class_at, same_class}
use Rattle.fkv_operations.proofs.ClassLemmas.{class_test}
use Rattle.fkv_lookups.proofs.TracedLemmas.{leads_of}
use Rattle.fkv_lookups.proofs.LookupLemmas.{chain_of_all, begun, raw-traced}
use Rattle.fkv_lookups.proofs.records.Records.newest_in_memory.Goals as goal

pub first_on_chain-requires-clause-chain : goal.first_on_chain-requires-clause-chain
first_on_chain-requires-clause-chain g c =
    let i = c.self.inside in
    let t = raw-traced _ _ _ refl c.self.invariant in
    let low = c.args.low in
    let class = λ (k : _). class_at i.partition_bits i.bucket_bits (g.F.Functions.code k) in
    let own = class c.args.key.now in
    let up = begun _ low t (rw (← c.self.view_is) at c.requires.in_frames) (rw (← c.self.view_is) at c.requires.begin) in
    let leads = leads_of t own c.args.entry (rw (← c.self.view_is) at c.requires.entry) in
    let es = falling class same_class (text_from low i.log.text) own in (
      es,
      chain_of_all low i.log.text c.args.entry es ((c.chains.ensures.met class same_class low (text_from low i.log.text) own c.args.entry class_test (cut-rising low i.log.text t.rising) (cut-from low i.log.text)
          (cut-chained class same_class i.log.from low i.log.text t.rising up t.chained) (cut-leads class same_class i.log.from low i.log.text t.rising up own c.args.entry leads) es).1 refl),
    )

pub returns : goal.returns
returns g c =
    let ord = g.met.F.Key.Ord in
    let facts = g.met.F.Key.FixedKey in
    let order = key_order g.F.Key.PartialEq.eq g.F.Key.Ord.cmp ord.matches_eq facts.exact ord.total in
    let i = c.self.inside in
    let t = raw-traced _ _ _ refl c.self.invariant in
    let low = c.args.low in
    let class = λ (k : _). class_at i.partition_bits i.bucket_bits (g.F.Functions.code k) in
    let own = class c.args.key.now in
    let up = begun _ low t (rw (← c.self.view_is) at c.requires.in_frames) (rw (← c.self.view_is) at c.requires.begin) in
    let leads = leads_of t own c.args.entry (rw (← c.self.view_is) at c.requires.entry) in
    let above = text_from low i.log.text in
    let es = falling class same_class above own in
    let rising = cut-rising low i.log.text t.rising in
    let from = cut-from low i.log.text in
    let chained = cut-chained class same_class i.log.from low i.log.text t.rising up t.chained in
    let led = cut-leads class same_class i.log.from low i.log.text t.rising up own c.args.entry leads in
    let chain = (c.chains.ensures.met class same_class low above own c.args.entry class_test rising from chained led es).1 refl in
    rw (← c.self.view_is) (c.first_on_chain.ensures es (chain_of_all low i.log.text c.args.entry es chain)
    ∙ ap (λ o. reached o (leads_to c.args.entry es)) (c.chains.ensures.found g.F.Key.Ord.cmp class same_class low above c.args.key.now c.args.entry order class_test rising from chained led es chain))
