use Rattle.std.proofs.Common.{◌≡◌, ◌∙◌, inl, inr, true, false, sym, subst, arith}
use Rattle.std.proofs.lemmas.Bool.{cases_lt}
use Rattle.fkv_partition.specs.Beginning.{IsFree}
use Rattle.fkv_partition.proofs.partitions.Partition.first_free.Goals as goal

pub loop-context-init : goal.loop-context-init
loop-context-init g c = λ d low free. absurd (omega arith)

pub returns-then-is_free-clause-value : goal.returns-then-is_free-clause-value
returns-then-is_free-clause-value g c = (c.loop-context-test.true, c.is_free.ensures.0 c.if-is_free.true, c.loop-context.invariant)

pub loop-context-preserved : goal.loop-context-preserved
loop-context-preserved g c = λ d low free. elim (cases_lt d c.loop-context.context) [
  | inl less ↦ c.loop-context.invariant d less free
  | inr more ↦
      (let same : d ≡ c.loop-context.context = omega arith in
      let told = c.is_free.ensures.1 (subst (IsFree c.args.self.now c.args.slot) same free) in
      let bad : false ≡ true = sym c.if-is_free.false ∙ told in
      cc)
]

pub returns-clause-value : goal.returns-clause-value
returns-clause-value g c = λ d low free. c.loop-context.invariant d (omega (arith, low, c.loop-context-test.false)) free
