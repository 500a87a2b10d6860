use Rattle.fkv_steps.proofs.WritingLemmas.{is-output, written-whole, written-part, no-other, not-blamed}
use Rattle.fkv_steps.proofs.scripts.running.run_script.Goals as goal

pub returns-in-Ok-output_of-clause-ok : goal.returns-in-Ok-output_of-clause-ok
returns-in-Ok-output_of-clause-ok g c =
    written-whole (g.R.Source.remaining c.args.reader.now) _ _ c.in-Ok-output_of.text.items c.write_out.result
    (is-output (g.R.Source.remaining c.args.reader.now) c.in-Ok.script.opening c.in-Ok.script.lines.items c.in-Ok-output_of.text.items c.in-Ok.ensures.ok (c.in-Ok-output_of.ensures.good (λ e. cc)) c.in-Ok-output_of.ensures.ok)
    (rw c.as_slice.ensures.value at c.write_out.ensures.ok)

pub returns-in-Ok-output_of-clause-unwritable : goal.returns-in-Ok-output_of-clause-unwritable
returns-in-Ok-output_of-clause-unwritable g c =
    written-part (g.R.Source.remaining c.args.reader.now) _ _ c.in-Ok-output_of.text.items c.write_out.result
    (is-output (g.R.Source.remaining c.args.reader.now) c.in-Ok.script.opening c.in-Ok.script.lines.items c.in-Ok-output_of.text.items c.in-Ok.ensures.ok (c.in-Ok-output_of.ensures.good (λ e. cc)) c.in-Ok-output_of.ensures.ok)
    (rw c.as_slice.ensures.value at c.write_out.ensures.refused)

pub returns-in-Ok-output_of-clause-nothing : goal.returns-in-Ok-output_of-clause-nothing
returns-in-Ok-output_of-clause-nothing g c = no-other _ c.write_out.result c.write_out.ensures.only

pub returns-in-Ok-output_of-clause-out : goal.returns-in-Ok-output_of-clause-out
returns-in-Ok-output_of-clause-out g c = c.write_out.ensures.out

pub returns-in-Ok-output_of-clause-unread : goal.returns-in-Ok-output_of-clause-unread
returns-in-Ok-output_of-clause-unread g c = not-blamed c.write_out.result _ _ c.write_out.ensures.only (c.in-Ok.ensures.counted.steady (λ e. cc))

pub returns-in-Ok-output_of-clause-unwritten : goal.returns-in-Ok-output_of-clause-unwritten
returns-in-Ok-output_of-clause-unwritten g c = c.write_out.ensures.counted
