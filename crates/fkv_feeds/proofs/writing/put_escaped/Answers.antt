use Rattle.std.proofs.Common.{◌∷◌, [], ◌∙◌, refl}
use Rattle.csv.specs.Writing.{default_writer, escaped}
use Rattle.fkv_streams.proofs.BufferLemmas.{passes-last, front-last}
use Rattle.fkv_feeds.proofs.WritingLemmas.{escaped-start, escaped-more, escaped-front, escaped-whole}
use Rattle.fkv_feeds.proofs.writing.put_escaped.Goals as goal

pub loop-byte-init : goal.loop-byte-init
loop-byte-init g c = record { put = escaped-start _ c.args.buffer.now; counted = refl }

pub loop-byte-preserved : goal.loop-byte-preserved
loop-byte-preserved g c = record {
  put = escaped-more _ _ _ c.args.buffer.now c.loop-byte.buffer c.put_byte.new.buffer c.args.field.now c.loop-byte.byte-index c.loop-byte-test.true c.loop-byte.invariant.put c.in-Ok.ensures.ok;
  counted = c.in-Ok.ensures.counted.steady (λ e. cc) ∙ c.loop-byte.invariant.counted;
}

pub returns-in-Err-clause-refused : goal.returns-in-Err-clause-refused
returns-in-Err-clause-refused g c =
    escaped-front _ _ _ c.args.buffer.now c.loop-byte.buffer c.args.field.now c.loop-byte.byte-index c.loop-byte-test.true c.loop-byte.invariant.put c.in-Err.ensures.refused

pub returns-clause-ok : goal.returns-clause-ok
returns-clause-ok g c =
    passes-last _ _ _ c.args.buffer.now c.loop-byte.buffer c.put.new.self (escaped default_writer c.args.field.now) (34 ∷ []) c.put.result
    (escaped-whole _ _ c.args.buffer.now c.loop-byte.buffer c.args.field.now c.loop-byte.byte-index c.loop-byte-test.false c.loop-byte.invariant.put) c.put.ensures.ok

pub returns-clause-refused : goal.returns-clause-refused
returns-clause-refused g c =
    front-last _ _ _ c.args.buffer.now c.loop-byte.buffer (escaped default_writer c.args.field.now) (34 ∷ []) c.put.result
    (escaped-whole _ _ c.args.buffer.now c.loop-byte.buffer c.args.field.now c.loop-byte.byte-index c.loop-byte-test.false c.loop-byte.invariant.put) c.put.ensures.refused
