use Rattle.fkv_functions.specs.Names.{name_cmp}
use Rattle.fkv_steps.specs.Bytes.{standing_of, IsNamedEntry}
use Rattle.fkv_steps.proofs.RunningLemmas.{did-relocate}
use Rattle.fkv_steps.proofs.scripts.running.compact.Goals as goal

pub returns : goal.returns
returns g c =
    did-relocate standing_of (IsNamedEntry g.F.Value.Fixed.codec) name_cmp g.F.Mergeable.parts.joined g.F.Functions.meaning g.F.Functions.code g.F.Value.FromAmount.written c.args.partition c.args.slot _ _ _ c.in-Some.issued c.finish_issued.result
    c.in-Some.ensures.kept c.finish_issued.ensures
