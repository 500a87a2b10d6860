use Rattle.std.proofs.Common.{◌++◌, [], inl, inr, refl, sym, ◌∙◌, ap}
use Rattle.std.proofs.lemmas.Bool.{false≢true}
use Rattle.std.proofs.KnownBytes.{Appends-nil}
use Rattle.fkv_runs.specs.Merging.{first_pair}
use Rattle.fkv_feeds.specs.Writing.{fields_of}
use Rattle.fkv_feeds.proofs.WritingLemmas.{written-none, written-put, written-prefix, written-whole, written-out, as-written, rows-put, rows-front, unwritten-more, unwritten-last, steady-last}
use Rattle.fkv_feeds.proofs.writing.write_pairs.Goals as goal

pub rows-init : goal.rows-init
rows-init g c = record {
  put = λ xs h. (xs, h, written-none (fields_of g.V.RowFields.FIELDS g.V.RowFields.field_at) _ _ xs c.in-Ok.ensures.ok, λ e. absurd (false≢true (sym e)));
  rows = ([], ([], Appends-nil _, c.in-Ok.ensures.ok));
  counted = refl;
}

pub rows-preserved : goal.rows-preserved
rows-preserved g c = record {
  put = λ xs h.
      (let old = c.rows.invariant.put xs h in
      let new = c.in-Ok-put_more.ensures.ok old.0 old.1 in
      (new.0, new.1, written-put (fields_of g.V.RowFields.FIELDS g.V.RowFields.field_at) _ _ _ c.rows.buffer c.put_more.new.buffer old.0 new.0 xs old.2 new.2, new.3));
  rows = rows-put (fields_of g.V.RowFields.FIELDS g.V.RowFields.field_at) _ _ _ c.rows.buffer c.put_more.new.buffer c.rows.invariant.rows
      (c.in-Ok-put_more.ensures.rows.0, c.in-Ok-put_more.ensures.rows.1);
  counted = c.in-Ok-put_more.ensures.steady ∙ c.rows.invariant.counted;
}

pub returns-in-Err-clause-prefix : goal.returns-in-Err-clause-prefix
returns-in-Err-clause-prefix g c xs h = (0, Appends-nil _)

pub returns-in-Err-clause-told : goal.returns-in-Err-clause-told
returns-in-Err-clause-told g c = inl (c.in-Err.ensures.only, refl, refl)

pub returns-in-Err-put_more-clause-prefix : goal.returns-in-Err-put_more-clause-prefix
returns-in-Err-put_more-clause-prefix g c xs h =
    let old = c.rows.invariant.put xs h in
    written-prefix (fields_of g.V.RowFields.FIELDS g.V.RowFields.field_at) _ _ _ c.rows.buffer old.0 xs old.2 (c.in-Err-put_more.ensures.front old.0 old.1)

pub returns-in-Err-put_more-clause-told : goal.returns-in-Err-put_more-clause-told
returns-in-Err-put_more-clause-told g c =
    unwritten-more g.P.ReadPairs.refuses _ _ _ _ _ c.in-Err-put_more.refused c.rows.invariant.counted c.in-Err-put_more.ensures.told

pub returns-then-more-clause-prefix : goal.returns-then-more-clause-prefix
returns-then-more-clause-prefix g c xs h =
    let old = c.rows.invariant.put xs h in
    written-prefix (fields_of g.V.RowFields.FIELDS g.V.RowFields.field_at) _ _ _ c.rows.buffer old.0 xs old.2 (0, Appends-nil _)

pub returns-then-more-clause-told : goal.returns-then-more-clause-told
returns-then-more-clause-told g c = inr (inr (inl (refl, c.rows.invariant.counted)))

pub returns-clause-ok : goal.returns-clause-ok
returns-clause-ok g c xs h =
    let old = c.rows.invariant.put xs h in
    written-whole (fields_of g.V.RowFields.FIELDS g.V.RowFields.field_at) _ _ _ c.rows.buffer old.0 xs c.finish.result (ap first_pair (old.3 c.if-more.false)) old.2 c.finish.ensures.ok

pub returns-clause-prefix : goal.returns-clause-prefix
returns-clause-prefix g c xs h =
    let old = c.rows.invariant.put xs h in
    written-out (fields_of g.V.RowFields.FIELDS g.V.RowFields.field_at) _ _ _ c.rows.buffer old.0 xs c.finish.result (ap first_pair (old.3 c.if-more.false)) old.2 c.finish.ensures.refused

pub returns-clause-told : goal.returns-clause-told
returns-clause-told g c =
    unwritten-last g.P.ReadPairs.refuses _ _ _ _ _ c.finish.result c.rows.invariant.counted c.finish.ensures.only c.finish.ensures.counted

pub returns-clause-steady : goal.returns-clause-steady
returns-clause-steady g c = steady-last _ _ _ c.finish.result c.rows.invariant.counted c.finish.ensures.counted

pub returns-in-Err-clause-rows : goal.returns-in-Err-clause-rows
returns-in-Err-clause-rows g c = ([], tt, (0, Appends-nil _))

pub returns-in-Err-put_more-clause-rows : goal.returns-in-Err-put_more-clause-rows
returns-in-Err-put_more-clause-rows g c =
    let done = c.rows.invariant.rows in
    let some = c.in-Err-put_more.ensures.rows in
    (done.0 ++ some.0, tt, rows-front (fields_of g.V.RowFields.FIELDS g.V.RowFields.field_at) _ _ _ c.rows.buffer done.0 some.0 done.1 some.2)

pub returns-then-more-clause-rows : goal.returns-then-more-clause-rows
returns-then-more-clause-rows g c =
    let value = fields_of g.V.RowFields.FIELDS g.V.RowFields.field_at in
    let done = c.rows.invariant.rows in
    (done.0, tt, written-prefix value _ _ _ c.rows.buffer [] done.0 (as-written value _ _ c.rows.buffer done.0 done.1) (0, Appends-nil _))

pub returns-clause-rows : goal.returns-clause-rows
returns-clause-rows g c =
    let value = fields_of g.V.RowFields.FIELDS g.V.RowFields.field_at in
    let done = c.rows.invariant.rows in
    let all = as-written value _ _ c.rows.buffer done.0 done.1 in (
      done.0,
      written-whole value _ _ _ c.rows.buffer [] done.0 c.finish.result refl all c.finish.ensures.ok,
      written-out value _ _ _ c.rows.buffer [] done.0 c.finish.result refl all c.finish.ensures.refused,
    )
