use Rattle.std.proofs.Common.{slice_get, refl, sym, ◌∙◌, ap, le_of_lt}
use Rattle.fkv_worlds.proofs.StateLemmas.{at-index, is_context-bounds, row-within, question-is}
use Rattle.fkv_worlds.proofs.tables.question_at.Goals as goal

pub returns-then-not-is_context : goal.returns-then-not-is_context
returns-then-not-is_context g c = let off = sym c.is_context.ensures ∙ c.if-not-is_context.true in rw off refl

pub row_of-requires-clause-slot : goal.row_of-requires-clause-slot
row_of-requires-clause-slot g c = (is_context-bounds c.args.place (sym c.is_context.ensures ∙ c.if-not-is_context.false)).0

pub row_of-requires-clause-context : goal.row_of-requires-clause-context
row_of-requires-clause-context g c = (is_context-bounds c.args.place (sym c.is_context.ensures ∙ c.if-not-is_context.false)).1

pub bounds-questions-row_of : goal.bounds-questions-row_of
bounds-questions-row_of g c = row-within c.args.place (sym c.is_context.ensures ∙ c.if-not-is_context.false) c.row_of.ensures c.requires.rows

pub returns : goal.returns
returns g c =
    let on = sym c.is_context.ensures ∙ c.if-not-is_context.false in
    let row = c.row_of.ensures in
    sym (question-is c.args.questions.now c.args.place c.index-questions-row_of.result on
    (ap (slice_get c.args.questions.now) (sym row) ∙ at-index c.args.questions.now c.row_of.result c.index-questions-row_of.result (row-within c.args.place on row c.requires.rows) c.index-questions-row_of.is))

pub offset_bounds-questions-row_of : goal.offset_bounds-questions-row_of
offset_bounds-questions-row_of g c = le_of_lt (row-within c.args.place (sym c.is_context.ensures ∙ c.if-not-is_context.false) c.row_of.ensures c.requires.rows)
