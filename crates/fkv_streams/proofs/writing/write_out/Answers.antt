use Rattle.fkv_streams.proofs.BufferLemmas.{whole-written}
use Rattle.fkv_streams.proofs.writing.write_out.Goals as goal

pub returns-in-Ok-clause-refused : goal.returns-in-Ok-clause-refused
returns-in-Ok-clause-refused g c = whole-written _ _ _ c.args.bytes.now c.flush.result c.in-Ok.ensures.ok c.flush.ensures.bytes
