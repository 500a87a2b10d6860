use Rattle.std.proofs.Common.{arith}
use Rattle.fkv_local.proofs.OnwardLemmas.{onward-then, shift-onward}
use Rattle.fkv_local.proofs.RoomLemmas.{freeze-settled, freeze-frozen, shift-log, log-then}
use Rattle.fkv_local.proofs.moving.freeze.Goals as goal

pub returns-clause-onward : goal.returns-clause-onward
returns-clause-onward g c = onward-then (shift-onward c.shift_read_only-passed.ensures.effect) c.refresh.ensures.onward

pub returns-clause-settled : goal.returns-clause-settled
returns-clause-settled g c = let sixteen = c.facts.ensures.sound.traced.regions.agree.sixteen in freeze-settled c.refresh.new.partition (omega arith) c.shift_read_only-passed.ensures.effect c.refresh.ensures.refreshed

pub returns-clause-frozen : goal.returns-clause-frozen
returns-clause-frozen g c = λ settled low. freeze-frozen c.refresh.new.partition c.shift_read_only-passed.ensures.effect c.refresh.ensures.refreshed settled low

pub returns-clause-same_log : goal.returns-clause-same_log
returns-clause-same_log g c = log-then (shift-log c.shift_read_only-passed.ensures.effect) c.refresh.ensures.same_log
