use Rattle.std.proofs.Common.{rules, ◌≡◌, None, ◌∙◌}
use Rattle.fkv_runs.specs.Merging.{first_pair}
use Rattle.fkv_feeds.specs.Writing.{fields_of}
use Rattle.fkv_feeds.proofs.WritingLemmas.{written-more, written-front, written-whole, written-out}
use Rattle.fkv_feeds.proofs.writing.write_table.Goals as goal

pub loop-pair-preserved : goal.loop-pair-preserved
loop-pair-preserved g c = record {
  put = rw c.next.ensures.after (written-more (fields_of g.V.RowFields.FIELDS g.V.RowFields.field_at) _ _ _ c.loop-pair.buffer c.put_row.new.buffer c.loop-pair.pairs c.args.table.now c.in-Some.pair c.in-Some.ensures.pair c.loop-pair.invariant.put c.in-Ok-put_row.ensures.ok);
  counted = c.in-Ok-put_row.ensures.counted.steady (λ e. cc) ∙ c.loop-pair.invariant.counted;
}

pub returns-in-Err-put_row-clause-unwritable : goal.returns-in-Err-put_row-clause-unwritable
returns-in-Err-put_row-clause-unwritable g c =
    λ e. written-front (fields_of g.V.RowFields.FIELDS g.V.RowFields.field_at) _ _ _ c.loop-pair.buffer c.loop-pair.pairs c.args.table.now c.in-Some.pair c.in-Some.ensures.pair c.loop-pair.invariant.put c.in-Err-put_row.ensures.refused

pub returns-clause-ok : goal.returns-clause-ok
returns-clause-ok g c =
    let none : first_pair c.loop-pair.pairs ≡ None = search rules in
    written-whole (fields_of g.V.RowFields.FIELDS g.V.RowFields.field_at) _ _ _ c.loop-pair.buffer c.loop-pair.pairs c.args.table.now c.finish.result none c.loop-pair.invariant.put c.finish.ensures.ok

pub returns-clause-unwritable : goal.returns-clause-unwritable
returns-clause-unwritable g c =
    let none : first_pair c.loop-pair.pairs ≡ None = search rules in
    λ e. rw e at (written-out (fields_of g.V.RowFields.FIELDS g.V.RowFields.field_at) _ _ _ c.loop-pair.buffer c.loop-pair.pairs c.args.table.now c.finish.result none c.loop-pair.invariant.put c.finish.ensures.refused)
