use Rattle.std.proofs.Common.{◌∙◌}
use Rattle.fkv_functions.specs.Names.{padded_by, room_by, hashed_by}
use Rattle.fkv_functions.proofs.names.Name.new.Goals as goal

pub invariant_of-result-clause-room : goal.invariant_of-result-clause-room
invariant_of-result-clause-room c = rw c.copy_from_slice.ensures.after (room_by c.args.bytes.now c.if-bytes-gt31.false)

pub invariant_of-result-clause-padded : goal.invariant_of-result-clause-padded
invariant_of-result-clause-padded c =
    rw c.copy_from_slice.ensures.after (padded_by c.args.bytes.now c.if-bytes-gt31.false)

pub invariant_of-result-clause-hashed : goal.invariant_of-result-clause-hashed
invariant_of-result-clause-hashed c =
    rw c.copy_from_slice.ensures.after (c.fnv_1a_hash.ensures ∙ hashed_by c.args.bytes.now)
