use Rattle.std.proofs.Common.{refl, ◌∙◌}
use Rattle.fkv_feeds.proofs.WritingLemmas.{fields-start, fields-more, fields-front}
use Rattle.fkv_feeds.proofs.writing.put_value.Goals as goal

pub loop-place-init : goal.loop-place-init
loop-place-init g c = record { put = fields-start g.V.RowFields.field_at c.args.value.now _ c.args.buffer.now; counted = refl }

pub loop-place-preserved : goal.loop-place-preserved
loop-place-preserved g c = record {
  put = fields-more g.V.RowFields.field_at c.args.value.now _ _ _ c.args.buffer.now c.loop-place.buffer c.put_next.new.buffer c.loop-place.place c.loop-place.invariant.put (rw c.field.ensures at c.in-Ok.ensures.ok);
  counted = c.in-Ok.ensures.counted.steady (λ e. cc) ∙ c.loop-place.invariant.counted;
}

pub returns-in-Err-clause-refused : goal.returns-in-Err-clause-refused
returns-in-Err-clause-refused g c =
    fields-front g.V.RowFields.field_at c.args.value.now _ _ _ c.args.buffer.now c.loop-place.buffer c.loop-place.place g.V.RowFields.FIELDS (rw c.FIELDS-place-end.ensures at c.loop-place-test.true) c.loop-place.invariant.put (rw c.field.ensures at c.in-Err.ensures.refused)
