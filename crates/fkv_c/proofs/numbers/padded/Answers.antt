use Rattle.std.proofs.Common.{ap, ◌++◌}
use Rattle.std.specs.Prelude.{length}
use Rattle.std.proofs.lemmas.List.{drop-replicate}
use Rattle.fkv_c.proofs.numbers.padded.Goals as goal

pub returns : goal.returns
returns c = rw c.copy_from_slice.ensures.after (ap (λ back. c.args.bytes.now ++ back) (drop-replicate (length c.args.bytes.now) 32 0))
