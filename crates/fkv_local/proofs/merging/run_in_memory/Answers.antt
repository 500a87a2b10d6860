use Rattle.std.proofs.Common.{arith}
use Rattle.fkv_local.proofs.CauseLemmas.{unread-caused}
use Rattle.fkv_local.proofs.MergeLemmas.{unread-stopped}
use Rattle.fkv_local.proofs.merging.run_in_memory.Goals as goal

pub returns-else-asked-gt0-clause-told : goal.returns-else-asked-gt0-clause-told
returns-else-asked-gt0-clause-told g c =
    let asked = c.asked.ensures in
    let none = c.if-asked-gt0.false in
    let zero = c.new-pages.ensures in
    unread-stopped (omega arith) c.in-Err.ensures.told

pub returns-else-asked-gt0-clause-caused : goal.returns-else-asked-gt0-clause-caused
returns-else-asked-gt0-clause-caused g c = λ kept.
    let asked = c.asked.ensures in
    let none = c.if-asked-gt0.false in
    let zero = c.new-pages.ensures in
    unread-caused _ _ _ kept (omega arith) c.in-Err.ensures.told (c.in-Err.ensures.caused kept)
