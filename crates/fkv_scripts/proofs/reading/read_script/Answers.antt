use Rattle.fkv_scripts.proofs.ReadLemmas.{read_said, read_bad}
use Rattle.fkv_scripts.proofs.reading.read_script.Goals as goal

pub returns-in-Ok-clause-ok : goal.returns-in-Ok-clause-ok
returns-in-Ok-clause-ok g c = read_said c.args.limit (g.R.Source.remaining c.args.reader.now) c.in-Ok.text.items c.script_of.result c.in-Ok.ensures.ok (rw c.as_slice.ensures.value at c.script_of.ensures.ok)

pub returns-in-Ok-clause-bad : goal.returns-in-Ok-clause-bad
returns-in-Ok-clause-bad g c = read_bad c.args.limit (g.R.Source.remaining c.args.reader.now) c.in-Ok.text.items c.script_of.result c.in-Ok.ensures.ok (rw c.as_slice.ensures.value at c.script_of.ensures.bad)
