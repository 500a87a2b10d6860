use Rattle.std.proofs.Common.{◌≡◌, IsTrue, ◌↔◌, ◌+◌, ◌*◌, None, length, slice_get, subst, ap, ◌∙◌}
use Rattle.fkv_partition.specs.Contexts.{joined}
use Rattle.fkv_partition.proofs.partitions.Partition.is_free.Goals as goal

pub is_vacant-requires-clause-places : goal.is_vacant-requires-clause-places
is_vacant-requires-clause-places g c = ap length c.deref.ensures.value ∙ c.self.invariant.sound.places

pub returns : goal.returns
returns g c =
    let i = c.args.slot * 8 + c.args.context in
    subst (λ xs. IsTrue c.is_vacant.result ↔ (joined (slice_get xs i) ≡ None)) (c.deref.ensures.value ∙ ap (λ u. u.contexts) c.self.view_is) c.is_vacant.ensures
