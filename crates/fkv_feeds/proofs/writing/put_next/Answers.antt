use Rattle.std.proofs.Common.{◌∷◌, []}
use Rattle.csv.specs.Writing.{default_writer, field_text}
use Rattle.fkv_streams.proofs.BufferLemmas.{passes-last, front-last, prefix-longer}
use Rattle.fkv_feeds.proofs.writing.put_next.Goals as goal

pub returns-in-Ok-clause-ok : goal.returns-in-Ok-clause-ok
returns-in-Ok-clause-ok g c =
    passes-last _ _ _ c.args.buffer.now c.put.new.self c.put_field.new.buffer (44 ∷ []) (field_text default_writer c.args.field.now) c.put_field.result c.in-Ok.ensures.ok c.put_field.ensures.ok

pub returns-in-Ok-clause-refused : goal.returns-in-Ok-clause-refused
returns-in-Ok-clause-refused g c =
    front-last _ _ _ c.args.buffer.now c.put.new.self (44 ∷ []) (field_text default_writer c.args.field.now) c.put_field.result c.in-Ok.ensures.ok c.put_field.ensures.refused

pub returns-in-Err-clause-refused : goal.returns-in-Err-clause-refused
returns-in-Err-clause-refused g c = prefix-longer _ _ c.args.buffer.now (44 ∷ []) (field_text default_writer c.args.field.now) c.in-Err.ensures.refused
