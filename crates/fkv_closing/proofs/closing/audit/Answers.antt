use Rattle.std.proofs.Common.{inl, length, map, refl, subst}
use Rattle.std.proofs.lemmas.List.{length-map}
use Rattle.fkv_closing.specs.Closing.{AreMerged, IsUnmerged}
use Rattle.fkv_closing.specs.Lists.{lists_at}
use Rattle.fkv_closing.proofs.MergedLemmas.{merged_by, unmerged_by}
use Rattle.fkv_closing.proofs.closing.audit.Goals as goal

pub returns-in-Ok-true-clause-merged : goal.returns-in-Ok-true-clause-merged
returns-in-Ok-true-clause-merged g c =
    merged_by (map (λ part. part.history.items) c.args.parts.now) (length c.args.parts.now) (map (λ of. map (λ own. own.items) of.items) c.in-Ok.all.items)
    (map (λ own. map g.H.Recorder.entries own.items) c.args.owns.items) c.in-Ok.ensures.ok (length-map c.args.parts.now (λ part. part.history.items))
    (subst (λ all. AreMerged (map (λ part. part.history.items) c.args.parts.now) (lists_at (map (λ of. map (λ own. own.items) of.items) all))) c.as_slice.ensures.value (c.in-Ok-true.ensures.merged c.in-Ok-true.field-0-test))

pub returns-clause-refused : goal.returns-clause-refused
returns-clause-refused g c =
    inl (
      refl,
      unmerged_by (map (λ part. part.history.items) c.args.parts.now) (length c.args.parts.now) (map (λ of. map (λ own. own.items) of.items) c.in-Ok.all.items)
          (map (λ own. map g.H.Recorder.entries own.items) c.args.owns.items) c.in-Ok.ensures.ok (length-map c.args.parts.now (λ part. part.history.items))
          (subst (λ all. IsUnmerged (map (λ part. part.history.items) c.args.parts.now) (lists_at (map (λ of. map (λ own. own.items) of.items) all))) c.as_slice.ensures.value (c.in-Ok-false.ensures.unmerged c.in-Ok-false.field-0-test)),
    )
