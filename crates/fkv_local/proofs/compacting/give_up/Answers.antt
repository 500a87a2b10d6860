use Rattle.std.proofs.Common.{sym}
use Rattle.fkv_local.proofs.ClearLemmas.{drop-stays}
use Rattle.fkv_local.proofs.OnwardLemmas.{drop-onward}
use Rattle.fkv_local.proofs.compacting.give_up.Goals as goal

pub returns-clause-stays : goal.returns-clause-stays
returns-clause-stays g c = drop-stays c.args.partition.now c.give_up-given_up.new.self c.args.context _ c.in-Some._relocation c.give_up-given_up.result c.requires.only (sym c.in-Some.ensures.value) c.give_up-given_up.ensures.effect c.give_up-given_up.ensures.event

pub returns-clause-onward : goal.returns-clause-onward
returns-clause-onward g c = drop-onward c.args.partition.now c.give_up-given_up.new.self c.args.context _ c.in-Some._relocation c.give_up-given_up.result (sym c.in-Some.ensures.value) c.give_up-given_up.ensures.effect c.give_up-given_up.ensures.event
