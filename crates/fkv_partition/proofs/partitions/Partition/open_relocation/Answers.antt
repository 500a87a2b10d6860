use Rattle.std.proofs.Common.{◌∙◌, sym}
use Rattle.fkv_partition.proofs.FreeLemmas.{first-told, none-outside}
use Rattle.fkv_partition.proofs.partitions.Partition.open_relocation.Goals as goal

pub returns : goal.returns
returns g c =
    let v = c.args.self.now in
    (first-told v c.args.slot (sym c.is_session.ensures.value ∙ c.if-not-is_session.false) c.first_relocation.result c.first_relocation.ensures)

pub first_relocation-requires : goal.first_relocation-requires
first_relocation-requires g c = c.is_session.ensures.within c.if-not-is_session.false

pub returns-then-not-is_session : goal.returns-then-not-is_session
returns-then-not-is_session g c =
    let v = c.args.self.now in
    (none-outside v c.args.slot (sym c.is_session.ensures.value ∙ c.if-not-is_session.true))
