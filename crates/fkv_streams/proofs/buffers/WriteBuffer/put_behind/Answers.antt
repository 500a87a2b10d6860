use Rattle.fkv_streams.proofs.BufferLemmas.{prefix-more, all-behind, front-behind}
use Rattle.fkv_streams.proofs.buffers.WriteBuffer.put_behind.Goals as goal

pub returns-in-Err-clause-refused : goal.returns-in-Err-clause-refused
returns-in-Err-clause-refused g c = prefix-more _ _ c.args.self.now c.args.bytes.now c.in-Err.ensures.refused

pub returns-then-bytes-self-clause-ok : goal.returns-then-bytes-self-clause-ok
returns-then-bytes-self-clause-ok g c =
    all-behind _ _ _ c.args.self.now c.empty.new.self c.args.bytes.now c.write_all.result c.in-Ok.ensures.none c.in-Ok.ensures.ok c.write_all.ensures.ok

pub returns-then-bytes-self-clause-refused : goal.returns-then-bytes-self-clause-refused
returns-then-bytes-self-clause-refused g c = front-behind _ _ _ c.args.self.now c.args.bytes.now c.write_all.result c.in-Ok.ensures.ok c.write_all.ensures.refused
