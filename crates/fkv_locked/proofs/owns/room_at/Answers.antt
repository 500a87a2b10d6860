use Rattle.std.proofs.Common.{ap, ◌∙◌}
use Rattle.std.proofs.Math.Seq.{map-set_same}
use Rattle.fkv_locked.proofs.owns.room_at.Goals as goal

pub returns-in-Ok-clause-entries : goal.returns-in-Ok-clause-entries
returns-in-Ok-clause-entries g c =
    map-set_same g.H.Recorder.entries c.args.own.now.items c.args.place c.grow.new.self c.index_mut-list.result.now
    (c.grow.ensures.entries ∙ ap g.H.Recorder.entries c.index_mut-list.ensures.value)

pub returns-in-Err-clause-entries : goal.returns-in-Err-clause-entries
returns-in-Err-clause-entries g c =
    map-set_same g.H.Recorder.entries c.args.own.now.items c.args.place c.grow.new.self c.index_mut-list.result.now
    (c.grow.ensures.entries ∙ ap g.H.Recorder.entries c.index_mut-list.ensures.value)
