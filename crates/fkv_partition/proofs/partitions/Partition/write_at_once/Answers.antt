use Rattle.std.proofs.Common.{◌≡◌, sym, ◌∙◌, ap, refl}
use Rattle.std.proofs.lemmas.Bool.{OnTrue_at, false≢true}
use Rattle.fkv_partition.specs.Views.{partition_of}
use Rattle.fkv_partition.proofs.KeyAtOnceLemmas.{not-at-hand}
use Rattle.fkv_partition.proofs.partitions.Partition.write_at_once.Goals as goal

pub returns-then-home-self-clause-left : goal.returns-then-home-self-clause-left
returns-then-home-self-clause-left g c = λ e h. absurd (let number : c.self.inside.number ≡ c.args.self.now.number = ap (λ v. v.number) c.self.view_is in c.if-home-self.true (c.home.ensures ∙ ap (λ k. partition_of c.args.self.now.count (g.F.Functions.code k)) c.key-key.ensures ∙ h.own ∙ sym number))

pub returns-in_default-clause-left : goal.returns-in_default-clause-left
returns-in_default-clause-left g c = λ e. not-at-hand g.F.Key.Ord.cmp g.F.Mergeable.parts.joined g.F.Functions.meaning g.F.Functions.code c.args.self.now c.args.slot c.args.op.now (rw c.key-key.ensures at c.in_default.ensures.none refl)

pub returns-then-lacks_merges-clause-left : goal.returns-then-lacks_merges-clause-left
returns-then-lacks_merges-clause-left g c = λ e h.
    let lacks = OnTrue_at c.if-lacks_merges.true c.lacks_merges.ensures.lacks in
    absurd (false≢true (sym lacks.1 ∙ h.merging lacks.0))
