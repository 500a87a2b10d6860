use Rattle.std.proofs.Common.{◌∙◌, sym}
use Rattle.fkv_partition.proofs.FreeLemmas.{has-told, has-outside}
use Rattle.fkv_partition.proofs.partitions.Partition.has_relocation.Goals as goal

pub returns-then-is_session : goal.returns-then-is_session
returns-then-is_session g c =
    let v = c.args.self.now in
    (has-told v c.args.slot (sym c.is_session.ensures.value ∙ c.if-is_session.true) c.first_relocation.result c.first_relocation.ensures c.is_some.result (sym c.is_some.ensures))

pub first_relocation-requires : goal.first_relocation-requires
first_relocation-requires g c = c.is_session.ensures.within c.if-is_session.true

pub returns-else-is_session : goal.returns-else-is_session
returns-else-is_session g c =
    let v = c.args.self.now in
    (has-outside v c.args.slot (sym c.is_session.ensures.value ∙ c.if-is_session.false) c.is_session.result c.if-is_session.false)
