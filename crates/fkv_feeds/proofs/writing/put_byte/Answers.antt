use Rattle.std.proofs.Common.{refl}
use Rattle.csv.specs.Writing.{default_writer}
use Rattle.csv.proofs.WriteFacts.{escaped-double, escaped-other}
use Rattle.fkv_feeds.proofs.writing.put_byte.Goals as goal

pub returns-then-byte-eq34-clause-ok : goal.returns-then-byte-eq34-clause-ok
returns-then-byte-eq34-clause-ok g c = rw (escaped-double default_writer c.args.byte c.if-byte-eq34.true refl) c.put.ensures.ok

pub returns-then-byte-eq34-clause-refused : goal.returns-then-byte-eq34-clause-refused
returns-then-byte-eq34-clause-refused g c = rw (escaped-double default_writer c.args.byte c.if-byte-eq34.true refl) c.put.ensures.refused

pub returns-clause-ok : goal.returns-clause-ok
returns-clause-ok g c = rw (escaped-other default_writer c.args.byte c.if-byte-eq34.false) c.put-2.ensures.ok

pub returns-clause-refused : goal.returns-clause-refused
returns-clause-refused g c = rw (escaped-other default_writer c.args.byte c.if-byte-eq34.false) c.put-2.ensures.refused
