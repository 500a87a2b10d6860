use Rattle.std.proofs.Common.{rules, ◌≡◌, ◌∷◌, [], ◌++◌, true, sym, subst}
use Rattle.std.specs.Prelude.{OnOk, OnErr}
use Rattle.csv.specs.Writing.{default_writer, escaped, needs_quotes}
use Rattle.fkv_streams.specs.Streams.{AppendsPrefix, PassesOn}
use Rattle.fkv_streams.proofs.BufferLemmas.{passes-last, front-last, prefix-longer}
use Rattle.fkv_feeds.proofs.WritingLemmas.{field-quoted}
use Rattle.fkv_feeds.proofs.writing.put_field.Goals as goal

pub returns-in-Ok-clause-ok : goal.returns-in-Ok-clause-ok
returns-in-Ok-clause-ok g c =
    let needs : needs_quotes default_writer c.args.field.now ≡ true = search rules in
    subst (λ t. OnOk c.put_escaped.result (PassesOn (g.W.Sink.contents c.args.sink.now) (g.W.Sink.contents c.put_escaped.new.sink) c.put_escaped.new.buffer (c.args.buffer.now ++ t)))
    (sym (field-quoted c.args.field.now needs))
    (passes-last _ _ _ c.args.buffer.now c.put-2.new.self c.put_escaped.new.buffer (34 ∷ []) (escaped default_writer c.args.field.now ++ 34 ∷ []) c.put_escaped.result c.in-Ok.ensures.ok c.put_escaped.ensures.ok)

pub returns-in-Ok-clause-refused : goal.returns-in-Ok-clause-refused
returns-in-Ok-clause-refused g c =
    let needs : needs_quotes default_writer c.args.field.now ≡ true = search rules in
    subst (λ t. OnErr c.put_escaped.result (AppendsPrefix (g.W.Sink.contents c.args.sink.now) (g.W.Sink.contents c.put_escaped.new.sink) (c.args.buffer.now ++ t)))
    (sym (field-quoted c.args.field.now needs))
    (front-last _ _ _ c.args.buffer.now c.put-2.new.self (34 ∷ []) (escaped default_writer c.args.field.now ++ 34 ∷ []) c.put_escaped.result c.in-Ok.ensures.ok c.put_escaped.ensures.refused)

pub returns-in-Err-clause-refused : goal.returns-in-Err-clause-refused
returns-in-Err-clause-refused g c =
    let needs : needs_quotes default_writer c.args.field.now ≡ true = search rules in
    subst (λ t. AppendsPrefix (g.W.Sink.contents c.args.sink.now) (g.W.Sink.contents c.put-2.new.sink) (c.args.buffer.now ++ t))
    (sym (field-quoted c.args.field.now needs))
    (prefix-longer _ _ c.args.buffer.now (34 ∷ []) (escaped default_writer c.args.field.now ++ 34 ∷ []) c.in-Err.ensures.refused)
