use Rattle.fkv_partition.proofs.laws.frozen_stay.Goals as goal

pub returns : goal.returns
returns g c = λ old new was is event. (c.every_event_preserves.ensures old new was is event).grown.stay
