use Rattle.std.proofs.Common.{◌≡◌, ◌∷◌, [], ◌++◌, ℕ, List, subst, ◌∙◌, ap}
use Rattle.std.specs.Prelude.{OnOk, OnErr}
use Rattle.csv.specs.Writing.{default_writer, field_text, fields_text, row_text}
use Rattle.fkv_functions.specs.Names.{text_of}
use Rattle.fkv_functions.specs.declared.names.Name.{Name}
use Rattle.fkv_feeds.specs.Writing.{fields_of, pair_text}
use Rattle.fkv_streams.specs.Streams.{AppendsPrefix, PassesOn}
use Rattle.fkv_streams.proofs.BufferLemmas.{passes-last, front-last, prefix-longer}
use Rattle.fkv_feeds.proofs.WritingLemmas.{row-parts}
use Rattle.fkv_feeds.proofs.writing.put_row.Goals as goal

-- the key, and the fields of the value with what ends them, are the row
row : {V : Type 0} (count : ℕ) (at : V → ℕ → List ℕ) (pair : Name × V) (name : List ℕ) → name ≡ text_of pair.0
    → row_text default_writer (name ∷ fields_of count at pair.1) ≡ pair_text (fields_of count at) pair
row count at pair name e = ap (λ n. row_text default_writer (n ∷ fields_of count at pair.1)) e

pub returns-in-Ok-clause-ok : goal.returns-in-Ok-clause-ok
returns-in-Ok-clause-ok g c =
    let key : List ℕ = c.bytes.result.now in
    let fields : List ℕ = fields_text default_writer (fields_of g.V.RowFields.FIELDS g.V.RowFields.field_at c.args.pair.now.1) in
    subst (λ t. OnOk c.put_ended.result (PassesOn (g.W.Sink.contents c.args.sink.now) (g.W.Sink.contents c.put_ended.new.sink) c.put_ended.new.buffer (c.args.buffer.now ++ t)))
    (row-parts g.V.RowFields.FIELDS g.V.RowFields.field_at c.args.pair.now.1 key g.met.V.RowFields.some ∙ row g.V.RowFields.FIELDS g.V.RowFields.field_at c.args.pair.now key c.bytes.ensures.value)
    (passes-last _ _ _ c.args.buffer.now c.put_field.new.buffer c.put_ended.new.buffer (field_text default_writer key) (fields ++ 10 ∷ []) c.put_ended.result c.in-Ok.ensures.ok c.put_ended.ensures.ok)

pub returns-in-Ok-clause-refused : goal.returns-in-Ok-clause-refused
returns-in-Ok-clause-refused g c =
    let key : List ℕ = c.bytes.result.now in
    let fields : List ℕ = fields_text default_writer (fields_of g.V.RowFields.FIELDS g.V.RowFields.field_at c.args.pair.now.1) in
    subst (λ t. OnErr c.put_ended.result (AppendsPrefix (g.W.Sink.contents c.args.sink.now) (g.W.Sink.contents c.put_ended.new.sink) (c.args.buffer.now ++ t)))
    (row-parts g.V.RowFields.FIELDS g.V.RowFields.field_at c.args.pair.now.1 key g.met.V.RowFields.some ∙ row g.V.RowFields.FIELDS g.V.RowFields.field_at c.args.pair.now key c.bytes.ensures.value)
    (front-last _ _ _ c.args.buffer.now c.put_field.new.buffer (field_text default_writer key) (fields ++ 10 ∷ []) c.put_ended.result c.in-Ok.ensures.ok c.put_ended.ensures.refused)

pub returns-in-Err-clause-refused : goal.returns-in-Err-clause-refused
returns-in-Err-clause-refused g c =
    let key : List ℕ = c.bytes.result.now in
    let fields : List ℕ = fields_text default_writer (fields_of g.V.RowFields.FIELDS g.V.RowFields.field_at c.args.pair.now.1) in
    subst (λ t. AppendsPrefix (g.W.Sink.contents c.args.sink.now) (g.W.Sink.contents c.put_field.new.sink) (c.args.buffer.now ++ t))
    (row-parts g.V.RowFields.FIELDS g.V.RowFields.field_at c.args.pair.now.1 key g.met.V.RowFields.some ∙ row g.V.RowFields.FIELDS g.V.RowFields.field_at c.args.pair.now key c.bytes.ensures.value)
    (prefix-longer _ _ c.args.buffer.now (field_text default_writer key) (fields ++ 10 ∷ []) c.in-Err.ensures.refused)
