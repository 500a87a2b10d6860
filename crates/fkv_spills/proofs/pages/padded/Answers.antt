use Rattle.std.proofs.Common.{◌++◌, ◌∙◌, ap}
use Rattle.std.proofs.lemmas.Result.{IfOk-weaker}
use Rattle.fkv_spills.proofs.pages.padded.Goals as goal

pub returns-clause-ok : goal.returns-clause-ok
returns-clause-ok c =
    let zeros = c.deref.result.now in
    let bytes = c.args.bytes.now in
    let first = c.in-Ok-extend_from_slice.ensures.items ∙ ap (λ b. b ++ bytes) c.in-Ok-with_capacity.ensures.items in
    let all = c.in-Ok-extend_from_slice-2.ensures.items ∙ ap (λ b. b ++ zeros) first in
    IfOk-weaker c.new.result _ _ (λ page e. (zeros, e ∙ all)) c.new.ensures.ok
