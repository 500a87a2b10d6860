use Rattle.std.proofs.Common.{sym, ◌∙◌}
use Rattle.std.proofs.lemmas.Bool.{false≢true}
use Rattle.std.proofs.lemmas.Option.{IfSome_then}
use Rattle.fkv_partition.proofs.ApartLemmas.{some-all}
use Rattle.fkv_partition.proofs.partitions.Partition.try_read_in_memory.Goals as goal

pub returns-clause-done : goal.returns-clause-done
returns-clause-done g c =
    let inside = sym c.is_session.ensures.value ∙ c.if-not-is_session.false in
    (IfSome_then c.read_at_once.result c.read_at_once.ensures.done (λ answer read. record { entered = inside; read = read }))

pub returns-clause-left : goal.returns-clause-left
returns-clause-left g c = (λ none entered own. c.read_at_once.ensures.left none own)

pub returns-clause-within : goal.returns-clause-within
returns-clause-within g c = some-all c.read_at_once.result (c.is_session.ensures.within c.if-not-is_session.false)

pub returns-then-not-is_session-clause-left : goal.returns-then-not-is_session-clause-left
returns-then-not-is_session-clause-left g c =
    let out = (sym c.is_session.ensures.value ∙ c.if-not-is_session.true) in
    λ none entered own. absurd (false≢true (sym out ∙ entered))
