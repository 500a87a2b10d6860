use Rattle.std.proofs.Common.{◌∷◌, [], List, ℕ}
use Rattle.csv.specs.Writing.{default_writer, fields_text}
use Rattle.fkv_streams.proofs.BufferLemmas.{passes-last, front-last, prefix-longer}
use Rattle.fkv_feeds.specs.Writing.{fields_of}
use Rattle.fkv_feeds.proofs.writing.put_ended.Goals as goal

pub returns-in-Ok-clause-ok : goal.returns-in-Ok-clause-ok
returns-in-Ok-clause-ok g c =
    let fields : List ℕ = fields_text default_writer (fields_of g.V.RowFields.FIELDS g.V.RowFields.field_at c.args.value.now) in
    passes-last _ _ _ c.args.buffer.now c.put_value.new.buffer c.put.new.self fields (10 ∷ []) c.put.result c.in-Ok.ensures.ok c.put.ensures.ok

pub returns-in-Ok-clause-refused : goal.returns-in-Ok-clause-refused
returns-in-Ok-clause-refused g c =
    let fields : List ℕ = fields_text default_writer (fields_of g.V.RowFields.FIELDS g.V.RowFields.field_at c.args.value.now) in
    front-last _ _ _ c.args.buffer.now c.put_value.new.buffer fields (10 ∷ []) c.put.result c.in-Ok.ensures.ok c.put.ensures.refused

pub returns-in-Err-clause-refused : goal.returns-in-Err-clause-refused
returns-in-Err-clause-refused g c =
    let fields : List ℕ = fields_text default_writer (fields_of g.V.RowFields.FIELDS g.V.RowFields.field_at c.args.value.now) in
    prefix-longer _ _ c.args.buffer.now fields (10 ∷ []) c.in-Err.ensures.refused
