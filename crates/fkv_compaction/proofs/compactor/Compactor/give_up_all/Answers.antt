use Rattle.std.proofs.Common.{◌≡◌, ◌+◌, ◌<◌, ◌∙◌, true, false, is_some, sym, ap, arith}
use Rattle.fkv_partition.specs.Views.{relocation_at}
use Rattle.fkv_compaction.specs.Compactor.{GivesUpAll}
use Rattle.fkv_compaction.proofs.CompactorLemmas.{dropped, first-here, none-up_to, none-past, none-all, asked-other, without-more}
use Rattle.fkv_compaction.proofs.compactor.Compactor.give_up_all.Goals.{then-is_some+in-Ok, else-is_some}
use Rattle.fkv_compaction.proofs.compactor.Compactor.give_up_all.Goals as goal

pub loop-context-preserved : goal.loop-context-preserved
loop-context-preserved g c =
    let v = c.loop-context.partition in
    let slot = c.args.self.now in
    let context = c.loop-context.context in
    let kept = c.loop-context.invariant in
    let told = sym (ap is_some (rw c.self.view_is at c.relocation.ensures.value)) ∙ sym c.is_some.ensures in
    elim c.if-is_some.branch [
      | then-is_some+in-Ok w ↦
          (let some : is_some (relocation_at v slot context) ≡ true = told ∙ w.if-is_some.true in
          let drop = w.give_up-given_up in
          let gone = dropped v drop.new.self slot context w.in-Ok.now drop.result some (rw c.self.view_is at drop.ensures.effect) in
          rw (w.partition-is, gone, w.clock-is, w.in-Ok.ensures.given, w.in-Ok.ensures.ok)
          (record {
            none = none-past g.F.Key.Ord.cmp v slot context (c.loop-context.clock + 1) some kept.none;
            goes = λ new end more. kept.goes new end (GivesUpAll.next (first-here v slot context some kept.none) more);
            others = λ s d other. asked-other g.F.Key.Ord.cmp v slot context (c.loop-context.clock + 1) some s d other ∙ kept.others s d other;
            without = without-more g.F.Key.Ord.cmp v slot context (c.loop-context.clock + 1) some kept.without;
            cleared = kept.cleared;
            past = omega arith;
            used = omega (arith, kept.used);
          }))
      | else-is_some w ↦
          (let none : is_some (relocation_at v slot context) ≡ false = told ∙ w.if-is_some.false in
          rw (w.partition-is, w.clock-is)
          (record {
            none = none-up_to v slot context kept.none none;
            goes = kept.goes;
            others = kept.others;
            without = kept.without;
            cleared = kept.cleared;
            past = kept.past;
            used = omega (arith, kept.used);
          }))
    ]

pub returns-clause-effect : goal.returns-clause-effect
returns-clause-effect g c =
    let v = c.loop-context.partition in
    let kept = c.loop-context.invariant in
    kept.goes v c.loop-context.clock
    (GivesUpAll.none (none-all v c.args.self.now (λ d low. kept.none d (omega (arith, low, c.loop-context-test.false)))))
