use Rattle.std.proofs.Common.{ap, arith}
use Rattle.fkv_local.proofs.CauseLemmas.{stopped-caused}
use Rattle.fkv_local.proofs.ClearLemmas.{stays-same}
use Rattle.fkv_local.proofs.DriveLemmas.{done-runs, err-left, steady-waits, waits-room, wait-log, wait-given_up}
use Rattle.fkv_local.proofs.ReadLemmas.{loads-in, none-claims}
use Rattle.fkv_local.proofs.driving.try_by_events.Goals as goal

pub returns-in-Err-clause-left : goal.returns-in-Err-clause-left
returns-in-Err-clause-left g c = (err-left (stays-same c.requires.idle) c.requires.own c.in-Err.ensures.rest c.requires.begun c.in-Err.ensures.small c.in-Err.ensures.merges (ap g.D.Writer.PageWriter.failures c.in-Err.ensures.same_writer) c.in-Err.ensures.ends).stays

pub returns-in-Err-clause-told : goal.returns-in-Err-clause-told
returns-in-Err-clause-told g c = (err-left {keeps = g.D.Receipt.Receipt.keeps} {cmp = g.F.Key.Ord.cmp} (stays-same c.requires.idle) c.requires.own c.in-Err.ensures.rest c.requires.begun c.in-Err.ensures.small c.in-Err.ensures.merges (ap g.D.Writer.PageWriter.failures c.in-Err.ensures.same_writer) c.in-Err.ensures.ends).why

pub returns-in-Done-clause-runs : goal.returns-in-Done-clause-runs
returns-in-Done-clause-runs g c = done-runs (stays-same c.requires.idle) c.requires.own c.in-Ok.ensures.rest c.requires.begun c.in-Ok.ensures.small (rw c.in-Done.is at c.in-Ok.ensures.ends)

pub returns-in-Waits-clause-stays : goal.returns-in-Waits-clause-stays
returns-in-Waits-clause-stays g c = λ _. wait-given_up (stays-same c.requires.idle) c.requires.own c.in-Ok.ensures.rest c.requires.begun c.in-Ok.ensures.small (rw c.in-Waits.is at c.in-Ok.ensures.ends) c.give_up_untimed-given_up.ensures.effect c.give_up_untimed-given_up.ensures.event c.give_up_untimed-given_up.ensures.rest

pub returns-in-Waits-clause-full : goal.returns-in-Waits-clause-full
returns-in-Waits-clause-full g c = λ _. waits-room {keeps = g.D.Receipt.Receipt.keeps} {cmp = g.F.Key.Ord.cmp} (stays-same c.requires.idle) c.requires.own c.in-Ok.ensures.rest c.requires.begun c.in-Ok.ensures.small (rw c.in-Waits.is at c.in-Ok.ensures.ends)

pub returns-in-Waits-clause-steady : goal.returns-in-Waits-clause-steady
returns-in-Waits-clause-steady g c = steady-waits {keeps = g.D.Receipt.Receipt.keeps} {cmp = g.F.Key.Ord.cmp} (stays-same c.requires.idle) c.requires.own c.in-Ok.ensures.rest c.requires.begun c.in-Ok.ensures.small (rw c.in-Waits.is at c.in-Ok.ensures.ends)

pub returns-in-Err-clause-caused : goal.returns-in-Err-clause-caused
returns-in-Err-clause-caused g c = λ kept.
    let writes = ap g.D.Writer.PageWriter.failures c.in-Err.ensures.same_writer in
    stopped-caused _ _ kept (err-left {keeps = g.D.Receipt.Receipt.keeps} {cmp = g.F.Key.Ord.cmp} (stays-same c.requires.idle) c.requires.own c.in-Err.ensures.rest c.requires.begun c.in-Err.ensures.small c.in-Err.ensures.merges writes c.in-Err.ensures.ends).why
    (λ other. absurd (other writes)) c.in-Err.ensures.caused

pub returns-in-Err-clause-loads : goal.returns-in-Err-clause-loads
returns-in-Err-clause-loads g c = λ kept.
    let most = c.once.ensures.loads kept (none-claims c.args.part.now.partition c.facts.ensures.sound c.requires.idle) in
    let all = loads-in g.F.Functions.code c.args.part.now.partition.records c.args.op in
    omega arith

pub returns-in-Done-clause-loads : goal.returns-in-Done-clause-loads
returns-in-Done-clause-loads g c = λ kept.
    let most = c.once.ensures.loads kept (none-claims c.args.part.now.partition c.facts.ensures.sound c.requires.idle) in
    let all = loads-in g.F.Functions.code c.args.part.now.partition.records c.args.op in
    omega arith

pub returns-in-Waits-clause-loads : goal.returns-in-Waits-clause-loads
returns-in-Waits-clause-loads g c = λ kept.
    let most = c.once.ensures.loads kept (none-claims c.args.part.now.partition c.facts.ensures.sound c.requires.idle) in
    let all = loads-in g.F.Functions.code c.args.part.now.partition.records c.args.op in
    omega arith

pub returns-in-Waits-clause-same_log : goal.returns-in-Waits-clause-same_log
returns-in-Waits-clause-same_log g c = λ _. wait-log {cmp = g.F.Key.Ord.cmp} (stays-same c.requires.idle) c.requires.own c.in-Ok.ensures.rest c.requires.begun c.in-Ok.ensures.small (rw c.in-Waits.is at c.in-Ok.ensures.ends) c.give_up_untimed-given_up.ensures.effect
