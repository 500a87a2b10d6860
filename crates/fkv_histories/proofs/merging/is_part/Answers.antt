use Rattle.std.proofs.Common.{arith, ◌∙◌, refl, sym, ap}
use Rattle.std.specs.List.{filter}
use Rattle.std.proofs.lemmas.Bool.{eq-eqb, ne_eqb}
use Rattle.std.proofs.lemmas.List.{take_all}
use Rattle.fkv_histories.specs.Merges.{told, owned_by, owner_in}
use Rattle.fkv_histories.proofs.MergeLemmas.{part_more, part_over, part_short, part_other, part_whole}
use Rattle.fkv_histories.proofs.merging.is_part.Goals as goal

pub loop-entry-preserved-then-owner_of-owner : goal.loop-entry-preserved-then-owner_of-owner
loop-entry-preserved-then-owner_of-owner g c = (
  part_over (owned_by (owner_in c.args.who.now c.args.nobody) c.args.owner) c.args.history.now c.args.own.now c.loop-entry.entry-index c.loop-entry.next
      c.entry-item.result c.loop-entry-test.true c.entry-item.is (ne_eqb _ _ (λ e. c.if-owner_of-owner.true (c.owner_of.ensures ∙ e))) c.loop-entry.invariant.0,
  c.loop-entry.invariant.1,
)

pub returns-then-next-own : goal.returns-then-next-own
returns-then-next-own g c = (
  λ f. absurd (cc),
  λ all. absurd (part_short (owned_by (owner_in c.args.who.now c.args.nobody) c.args.owner) c.args.history.now c.args.own.now c.loop-entry.entry-index c.loop-entry.next
      c.entry-item.result c.loop-entry-test.true c.if-next-own.true c.entry-item.is (eq-eqb _ _ (sym c.owner_of.ensures ∙ c.if-owner_of-owner.false)) c.loop-entry.invariant.0 all),
)

pub returns-then-not-is_same_told : goal.returns-then-not-is_same_told
returns-then-not-is_same_told g c = (
  λ f. absurd (cc),
  λ all. absurd (part_other (owned_by (owner_in c.args.who.now c.args.nobody) c.args.owner) c.args.history.now c.args.own.now c.loop-entry.entry-index c.loop-entry.next
      c.entry-item.result c.index-own-next.result c.loop-entry-test.true c.if-next-own.false c.entry-item.is c.index-own-next.is
      (eq-eqb _ _ (sym c.owner_of.ensures ∙ c.if-owner_of-owner.false)) (λ same. let bad = c.if-not-is_same_told.ensures.1 same in absurd (cc)) c.loop-entry.invariant.0 all),
)

pub loop-entry-preserved : goal.loop-entry-preserved
loop-entry-preserved g c =
    let next = c.if-next-own.false in (
      part_more (owned_by (owner_in c.args.who.now c.args.nobody) c.args.owner) c.args.history.now c.args.own.now c.loop-entry.entry-index c.loop-entry.next
          c.entry-item.result c.index-own-next.result c.loop-entry-test.true c.if-next-own.false c.entry-item.is c.index-own-next.is
          (eq-eqb _ _ (sym c.owner_of.ensures ∙ c.if-owner_of-owner.false)) (c.if-not-is_same_told.ensures.0 refl) c.loop-entry.invariant.0,
      omega arith,
    )

pub returns : goal.returns
returns g c =
    let whole = take_all c.loop-entry.entry-index c.args.history.now c.loop-entry-test.false in
    part_whole (owned_by (owner_in c.args.who.now c.args.nobody) c.args.owner) c.args.history.now c.args.own.now c.loop-entry.next c.loop-entry.invariant.1
    (ap (λ h. told (filter (owned_by (owner_in c.args.who.now c.args.nobody) c.args.owner) h)) (sym whole) ∙ c.loop-entry.invariant.0)
