use Rattle.std.proofs.Common.{◌∷◌, ◌++◌, [], inl, inr, drop, refl, sym, ◌∙◌, ap, subst}
use Rattle.std.proofs.lemmas.Bool.{false≢true}
use Rattle.std.proofs.KnownBytes.{Appends-nil}
use Rattle.fkv_streams.specs.Streams.{AppendsPrefix, PassesOn}
use Rattle.fkv_streams.proofs.BufferLemmas.{passes-none, prefix-longer}
use Rattle.fkv_feeds.specs.Writing.{fields_of, pair_text, table_text}
use Rattle.fkv_feeds.proofs.WritingLemmas.{first-cons, none-first, one-row}
use Rattle.fkv_feeds.proofs.writing.put_more.Goals as goal

pub returns-in-Ok-None-clause-ok : goal.returns-in-Ok-None-clause-ok
returns-in-Ok-None-clause-ok g c xs h =
    let none = none-first xs (sym c.in-Ok-None.field-0-is ∙ c.in-Ok-None.ensures.pair xs h) in
    let rest = ap (drop 1) none in (
      drop 1 xs,
      c.in-Ok-None.ensures.after xs h,
      ([], passes-none _ _, ap (table_text (fields_of g.V.RowFields.FIELDS g.V.RowFields.field_at)) (rest ∙ sym none)),
      (λ e. rest),
    )

pub returns-in-Ok-clause-ok : goal.returns-in-Ok-clause-ok
returns-in-Ok-clause-ok g c xs h = (
  drop 1 xs,
  c.in-Ok-Some.ensures.after xs h,
  (
    pair_text (fields_of g.V.RowFields.FIELDS g.V.RowFields.field_at) c.in-Ok-Some.pair,
    c.in-Ok.ensures.ok,
    ap (table_text (fields_of g.V.RowFields.FIELDS g.V.RowFields.field_at)) (sym (first-cons xs c.in-Ok-Some.pair (sym c.in-Ok-Some.field-0-is ∙ c.in-Ok-Some.ensures.pair xs h))),
  ),
  (λ e. absurd (false≢true (sym e))),
)

pub returns-in-Err-clause-front : goal.returns-in-Err-clause-front
returns-in-Err-clause-front g c xs h = (0, Appends-nil _)

pub returns-in-Err-put_row-clause-front : goal.returns-in-Err-put_row-clause-front
returns-in-Err-put_row-clause-front g c xs h =
    let value = fields_of g.V.RowFields.FIELDS g.V.RowFields.field_at in
    subst (λ ys. AppendsPrefix (g.W.Sink.contents c.args.sink.now) (g.W.Sink.contents c.put_row.new.sink) (c.args.buffer.now ++ table_text value ys))
    (sym (first-cons xs c.in-Ok-Some.pair (sym c.in-Ok-Some.field-0-is ∙ c.in-Ok-Some.ensures.pair xs h)))
    (prefix-longer _ _ c.args.buffer.now (pair_text value c.in-Ok-Some.pair) (table_text value (drop 1 xs)) c.in-Err-put_row.ensures.refused)

pub returns-in-Err-clause-told : goal.returns-in-Err-clause-told
returns-in-Err-clause-told g c = inr (c.args.pairs.now, c.next.new.self, c.in-Err.ensures.told, refl)

pub returns-in-Err-put_row-clause-told : goal.returns-in-Err-put_row-clause-told
returns-in-Err-put_row-clause-told g c =
    inl (c.in-Err-put_row.ensures.only, c.in-Err-put_row.ensures.counted.counted (let o = c.in-Err-put_row.ensures.only in cc))

pub returns-in-Ok-clause-steady : goal.returns-in-Ok-clause-steady
returns-in-Ok-clause-steady g c = c.in-Ok.ensures.counted.steady (λ e. cc)

pub returns-in-Ok-None-clause-rows : goal.returns-in-Ok-None-clause-rows
returns-in-Ok-None-clause-rows g c = ([], passes-none _ _, tt)

pub returns-in-Ok-clause-rows : goal.returns-in-Ok-clause-rows
returns-in-Ok-clause-rows g c =
    let value = fields_of g.V.RowFields.FIELDS g.V.RowFields.field_at in (
      c.in-Ok-Some.pair ∷ [],
      subst (λ t. PassesOn (g.W.Sink.contents c.args.sink.now) (g.W.Sink.contents c.put_row.new.sink) c.put_row.new.buffer (c.args.buffer.now ++ t))
          (sym (one-row value c.in-Ok-Some.pair)) c.in-Ok.ensures.ok,
      tt,
    )

pub returns-in-Err-clause-rows : goal.returns-in-Err-clause-rows
returns-in-Err-clause-rows g c = ([], tt, (0, Appends-nil _))

pub returns-in-Err-put_row-clause-rows : goal.returns-in-Err-put_row-clause-rows
returns-in-Err-put_row-clause-rows g c =
    let value = fields_of g.V.RowFields.FIELDS g.V.RowFields.field_at in (
      c.in-Ok-Some.pair ∷ [],
      tt,
      subst (λ t. AppendsPrefix (g.W.Sink.contents c.args.sink.now) (g.W.Sink.contents c.put_row.new.sink) (c.args.buffer.now ++ t))
          (sym (one-row value c.in-Ok-Some.pair)) c.in-Err-put_row.ensures.refused,
    )
