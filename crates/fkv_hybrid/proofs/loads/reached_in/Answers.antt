use Rattle.std.proofs.Common.{◌≡◌, ◌∙◌, true, false, sym}
use Rattle.fkv_texts.specs.Text.{has_key}
use Rattle.fkv_hybrid.specs.Loads.{below, none, found, on}
use Rattle.fkv_hybrid.proofs.ReadLemmas.{entry_falls}
use Rattle.fkv_hybrid.proofs.loads.reached_in.Goals as goal

pub returns-in-Err : goal.returns-in-Err
returns-in-Err g c =
    let why : c.in-Err.refused ≡ _ = c.in-Err.ensures.damaged in
    rw why (c.loop-address.invariant _ (none c.loop-address-test.true (λ e h. let r = c.entry_in.ensures.found e h in cc (r, c.in-Err.is))))

pub returns-then-eq : goal.returns-then-eq
returns-then-eq g c =
    let ord = g.met.K.Ord in
    let own : has_key g.K.Ord.cmp c.args.key.now c.in-Ok.entry ≡ true = sym (ord.matches_eq c.in-Ok.entry.key c.args.key.now) ∙ sym c.eq.ensures ∙ c.if-eq.true in
    c.loop-address.invariant _ (found c.loop-address-test.true c.in-Ok.ensures.only own)

pub loop-address-smaller : goal.loop-address-smaller
loop-address-smaller g c = entry_falls g.K.Fixed.codec g.V.Fixed.codec c.args.shape.page_bits c.args.shape.record_size c.args.page.now c.loop-address.address c.in-Ok.entry c.args.shape.limits c.requires.size c.in-Ok.ensures.only

pub loop-address-preserved : goal.loop-address-preserved
loop-address-preserved g c =
    let ord = g.met.K.Ord in
    let other : has_key g.K.Ord.cmp c.args.key.now c.in-Ok.entry ≡ false = sym (ord.matches_eq c.in-Ok.entry.key c.args.key.now) ∙ sym c.eq.ensures ∙ c.if-eq.false in
    λ r h. c.loop-address.invariant r (on c.loop-address-test.true c.in-Ok.ensures.only other h)

pub returns : goal.returns
returns g c = c.loop-address.invariant _ (below c.loop-address-test.false)
