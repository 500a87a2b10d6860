use Rattle.fkv_functions.specs.Names.{name_cmp}
use Rattle.fkv_steps.specs.Bytes.{standing_of, IsNamedEntry}
use Rattle.fkv_steps.proofs.RunningLemmas.{did-issue}
use Rattle.fkv_steps.proofs.scripts.running.do_operation.Goals as goal

pub returns : goal.returns
returns g c =
    did-issue standing_of (IsNamedEntry g.F.Value.Fixed.codec) name_cmp g.F.Mergeable.parts.joined g.F.Functions.meaning g.F.Functions.code g.F.Value.FromAmount.written c.args.partition c.args.slot c.args.op _ _ _ c.in-Some.issued c.finish_issued.result
    (rw (← c.on_values.ensures) c.in-Some.ensures.kept) c.finish_issued.ensures
