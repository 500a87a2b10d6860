use Rattle.std.proofs.Common.{arith}
use Rattle.fkv_local.proofs.OnwardLemmas.{onward-then, evict-onward}
use Rattle.fkv_local.proofs.RoomLemmas.{evict-settled, evict-evicted, evict-log, log-then}
use Rattle.fkv_local.proofs.moving.evict.Goals as goal

pub returns-clause-onward : goal.returns-clause-onward
returns-clause-onward g c = onward-then (evict-onward c.shift_head-passed.ensures.effect) c.refresh.ensures.onward

pub returns-clause-settled : goal.returns-clause-settled
returns-clause-settled g c = let sixteen = c.facts.ensures.sound.traced.regions.agree.sixteen in evict-settled c.refresh.new.partition (omega arith) c.shift_head-passed.ensures.effect c.refresh.ensures.refreshed

pub returns-clause-evicted : goal.returns-clause-evicted
returns-clause-evicted g c = λ settled low. evict-evicted c.refresh.new.partition c.shift_head-passed.ensures.effect c.refresh.ensures.refreshed settled low

pub returns-clause-same_log : goal.returns-clause-same_log
returns-clause-same_log g c = log-then (evict-log c.shift_head-passed.ensures.effect) c.refresh.ensures.same_log
