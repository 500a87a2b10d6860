use Rattle.fkv_steps.specs.Bytes.{standing_of, IsNamedEntry}
use Rattle.fkv_steps.proofs.RunningLemmas.{if-ok, prints}
use Rattle.fkv_steps.proofs.scripts.running.printed_in.Goals as goal

pub returns-in-Ok-live-clause-ok : goal.returns-in-Ok-live-clause-ok
returns-in-Ok-live-clause-ok g c =
    if-ok _ _ c.text_of.result
    (λ text told config size empty.
    prints standing_of (IsNamedEntry g.F.Value.Fixed.codec) g.F.Mergeable.parts.joined g.F.Functions.meaning g.F.Functions.code g.F.Value.FromAmount.written g.F.Value.Printed.text g.F.Output.Printed.text g.F.Mergeable.MERGES config size c.args.lines.now text.items c.args.world.now c.run_lines.new.world c.in-Ok.told.items c.in-Ok-live.pairs.items
    empty c.in-Ok.ensures.ok c.headline.ensures c.in-Ok-live.ensures.map c.in-Ok-live.ensures.rising
    (rw (c.as_slice.ensures.value, c.as_slice-in-Ok-live.ensures.value) at told))
    c.text_of.ensures.ok
