use Rattle.fkv_records.specs.Records.{size_of}
use Rattle.fkv_steps.proofs.RunningLemmas.{if-ok}
use Rattle.fkv_steps.proofs.scripts.running.printed_by.Goals as goal

pub returns-in-Ok-clause-ok : goal.returns-in-Ok-clause-ok
returns-in-Ok-clause-ok g c = if-ok _ _ c.printed_in.result (λ text printed. printed c.args.config.now (size_of 32 g.F.Value.Fixed.SIZE) c.in-Ok.ensures.ok) c.printed_in.ensures.ok
