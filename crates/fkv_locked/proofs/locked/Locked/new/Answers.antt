use Rattle.std.proofs.Common.{◌∙◌, ap, ℕ, length}
use Rattle.std.proofs.lemmas.List.{length-replicate}
use Rattle.fkv_locked.proofs.EmptyLemmas.{kept_empty, early_empty}
use Rattle.fkv_locked.proofs.locked.Locked.new.Goals as goal

pub invariant_of-result : goal.invariant_of-result
invariant_of-result g c = (
  early_empty g.F.Mergeable.MERGES c.args.config.now _ c.args.number c.starting.result c.in-Ok.partition c.in-Ok.ensures.ok,
  ap length c.in-Ok-fresh_marks.ensures.ok ∙ length-replicate {A = ℕ} 128 0,
  ap length c.in-Ok-fresh_marks-2.ensures.ok ∙ length-replicate {A = ℕ} 128 0,
  λ k held. kept_empty g.F.Key.Ord.cmp g.F.Functions.meaning g.F.Mergeable.MERGES c.args.config.now _ c.args.number c.in-Ok.partition (g.H.Recorder.entries c.fresh.result) c.in-Ok-fresh_marks.lows.items c.in-Ok-fresh_marks-2.looks.items
      c.in-Ok.ensures.ok c.fresh.ensures.entries c.in-Ok-fresh_marks.ensures.ok,
)
