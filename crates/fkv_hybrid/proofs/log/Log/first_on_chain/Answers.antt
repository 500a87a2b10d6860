use Rattle.std.proofs.Common.{◌≡◌, true, false, ap, sym, ◌∙◌, refl}
use Rattle.std.specs.List.{find}
use Rattle.std.specs.BTreeMap.{is_at}
use Rattle.fkv_functions.proofs.KeyOrder.{key_order}
use Rattle.fkv_texts.specs.Text.{entry_at, has_key}
use Rattle.fkv_texts.specs.Chains.{leads_to, reached}
use Rattle.fkv_texts.proofs.ChainLemmas.{one_chain, stands_at}
use Rattle.fkv_hybrid.proofs.PageLemmas.{if_is}
use Rattle.fkv_hybrid.proofs.ReadLemmas.{reached_here, reached_on, reached_rest, not_true}
use Rattle.fkv_hybrid.proofs.log.Log.first_on_chain.Goals as goal

pub loop-address-init : goal.loop-address-init
loop-address-init g c =
    let text = c.args.self.now.text in (
      c.requires.chain.0,
      (
        c.requires.chain.1,
        λ ds h. ap (λ es. reached (find (has_key g.K.Ord.cmp c.args.key.now) es) (leads_to c.args.from es))
            (one_chain c.args.head text c.facts.ensures.log.rising c.args.from ds c.requires.chain.0 h c.requires.chain.1),
      ),
    )

pub look_at-requires-clause-there : goal.look_at-requires-clause-there
look_at-requires-clause-there g c =
    let i = c.loop-address.invariant in
    let s = stands_at c.args.head c.args.self.now.text c.loop-address.address i.0 c.facts.ensures.log.rising i.1.0 c.loop-address-test.true in
    rw s.here refl

pub returns-in-Ok : goal.returns-in-Ok
returns-in-Ok g c = λ es h.
    let i = c.loop-address.invariant in
    let s = stands_at c.args.head c.args.self.now.text c.loop-address.address i.0 c.facts.ensures.log.rising i.1.0 c.loop-address-test.true in
    let ord = g.met.K.Ord in
    let facts = g.met.K.FixedKey in
    let order = key_order g.K.PartialEq.eq g.K.Ord.cmp ord.matches_eq facts.exact ord.total in
    let met = c.in-Ok.ensures.met in
    let own : has_key g.K.Ord.cmp c.args.key.now c.in-Ok.entry ≡ true = ap (λ q. is_at (g.K.Ord.cmp q) c.args.key.now) met.1 ∙ order.self c.args.key.now in
    sym (i.1.1 es h ∙ reached_here g.K.Ord.cmp c.args.key.now c.args.head c.args.self.now.text c.loop-address.address i.0 s c.in-Ok.entry met.0 own)

pub loop-address-preserved : goal.loop-address-preserved
loop-address-preserved g c =
    let text = c.args.self.now.text in
    let at = c.loop-address.address in
    let i = c.loop-address.invariant in
    let s = stands_at c.args.head text at i.0 c.facts.ensures.log.rising i.1.0 c.loop-address-test.true in
    let ord = g.met.K.Ord in
    let facts = g.met.K.FixedKey in
    let order = key_order g.K.PartialEq.eq g.K.Ord.cmp ord.matches_eq facts.exact ord.total in
    let passed = if_is (entry_at text at) (λ e. (e.key ≡ c.args.key.now → ⊥) × (e.previous ≡ c.in-Err.previous)) s.entry c.in-Err.ensures.passed s.here in
    let other : has_key g.K.Ord.cmp c.args.key.now s.entry ≡ false = not_true (has_key g.K.Ord.cmp c.args.key.now s.entry) (λ t. passed.0 (order.same s.entry.key c.args.key.now t)) in (
      s.rest,
      (
        rw (← passed.1) (reached_rest g.K.Ord.cmp c.args.key.now c.args.head text at i.0 s s.entry s.here),
        λ ds h. i.1.1 ds h ∙ rw (← passed.1) (reached_on g.K.Ord.cmp c.args.key.now c.args.head text at i.0 s s.entry s.here other),
      ),
    )
