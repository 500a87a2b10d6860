use Rattle.std.proofs.Common.{ap, Some}
use Rattle.fkv_functions.specs.Names.{name_again}
use Rattle.fkv_functions.proofs.names.NameFixed.take.Goals as goal

pub returns-clause-only : goal.returns-clause-only
returns-clause-only c = λ v k e.
    ap Some (name_again _ v c.split_at.result.0.now c.split_at.result.1.now c.args.bytes.now e c.split_at.ensures.front c.split_at.ensures.back c.padded_name.ensures.len c.padded_name.ensures.bytes)
