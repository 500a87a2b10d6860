use Rattle.std.proofs.lemmas.Nat.{one_shl}
use Rattle.fkv_index.proofs.Rows.{filled, made}
use Rattle.fkv_index.proofs.buckets.Buckets.new.Goals as goal

pub returns : goal.returns
returns c =
    let rows = filled _ _ _ _ _ _ c.in_ok-resize.ensures.items c.new-rows.ensures.items c.new-rows.ensures.len (one_shl c.args.bits 64 c.requires) in
    made _ _ _ c.empty.result rows c.empty.ensures
