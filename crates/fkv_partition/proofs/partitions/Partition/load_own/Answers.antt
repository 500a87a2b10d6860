use Rattle.std.proofs.Common.{Ok}
use Rattle.fkv_partition.specs.Events.{Loads}
use Rattle.fkv_partition.proofs.ApartLemmas.{none-held}
use Rattle.fkv_partition.proofs.ProceedLemmas.{loads_on-proceeds, loads_on-ends, ended-event, ended-pends}
use Rattle.fkv_partition.proofs.EffectLemmas.{if-err}
use Rattle.fkv_partition.proofs.OperationLemmas.{loads-event, ends-key, relocation-load, relocation-others}
use Rattle.fkv_partition.proofs.DamageLemmas.{answer-not}
use Rattle.fkv_partition.proofs.SeatLemmas.{loads-seats}
use Rattle.fkv_partition.proofs.partitions.Partition.load_own.Goals as goal

pub returns-else-holds_relocation-clause-effect : goal.returns-else-holds_relocation-clause-effect
returns-else-holds_relocation-clause-effect g c = Loads.on_key c.if-holds_relocation.ensures.none c.load_on_key.ensures.effect (loads-seats c.args.self.now c.load_on_key.new.self c.args.slot c.args.context c.args.now _ _ _ _ _ (Ok c.args.loaded) c.load_on_key.result c.load_on_key.ensures.effect).0

pub returns-else-holds_relocation-clause-event : goal.returns-else-holds_relocation-clause-event
returns-else-holds_relocation-clause-event g c = λ yes_keeps.
    loads-event g.F.Key.Ord.cmp g.F.Functions.meaning c.args.self.now c.load_on_key.new.self c.args.slot c.args.context c.args.now c.if-holds_relocation.ensures.none (loads-seats c.args.self.now c.load_on_key.new.self c.args.slot c.args.context c.args.now _ _ _ _ _ (Ok c.args.loaded) c.load_on_key.result c.load_on_key.ensures.effect).0 c.load_on_key.result (c.load_on_key.ensures.event yes_keeps)

pub returns-else-holds_relocation-clause-fails : goal.returns-else-holds_relocation-clause-fails
returns-else-holds_relocation-clause-fails g c =
    if-err c.load_on_key.result (λ why e. ends-key c.args.self.now c.load_on_key.new.self c.args.slot c.args.context c.args.now c.if-holds_relocation.ensures.none (loads-seats c.args.self.now c.load_on_key.new.self c.args.slot c.args.context c.args.now _ _ _ _ _ (Ok c.args.loaded) c.load_on_key.result c.load_on_key.ensures.effect).0
    (c.loads_end.ensures.fails c.args.self.now c.load_on_key.new.self c.args.slot c.args.context (Ok c.args.loaded) c.args.now why (rw e at c.load_on_key.ensures.effect)))

pub returns-else-holds_relocation-clause-others : goal.returns-else-holds_relocation-clause-others
returns-else-holds_relocation-clause-others g c = λ yes_keeps.
    c.loads_end.ensures.loads c.args.self.now c.load_on_key.new.self c.args.slot c.args.context (Ok c.args.loaded) c.args.now c.load_on_key.result c.load_on_key.ensures.effect

pub returns-else-holds_relocation-clause-cleared : goal.returns-else-holds_relocation-clause-cleared
returns-else-holds_relocation-clause-cleared g c = λ told. rw c.if-holds_relocation.ensures.none tt

pub returns-then-holds_relocation-clause-effect : goal.returns-then-holds_relocation-clause-effect
returns-then-holds_relocation-clause-effect g c = Loads.relocation c.if-holds_relocation.ensures.some.0 c.if-holds_relocation.ensures.some.1 c.resume_load_own.ensures.effect

pub returns-then-holds_relocation-clause-event : goal.returns-then-holds_relocation-clause-event
returns-then-holds_relocation-clause-event g c = λ yes_keeps.
    let here = c.if-holds_relocation.ensures.some.1 in
    relocation-load g.F.Key.Ord.cmp g.F.Functions.meaning c.args.self.now c.resume_load_own.new.self c.args.slot c.args.context c.args.now c.if-holds_relocation.ensures.some.0 here yes_keeps c.resume_load_own.result c.resume_load_own.ensures.event
    (λ p e. loads_on-proceeds g.R.Receipt.stands _ g.F.Key.Ord.cmp g.F.Mergeable.parts.joined g.F.Functions.code c.args.self.now c.resume_load_own.new.self c.args.slot c.args.context c.args.now (Ok c.args.loaded) p c.if-holds_relocation.ensures.some.0 here (rw e at c.resume_load_own.ensures.effect))

pub returns-then-holds_relocation-clause-fails : goal.returns-then-holds_relocation-clause-fails
returns-then-holds_relocation-clause-fails g c =
    if-err c.resume_load_own.result (λ why e. ended-event c.args.self.now c.resume_load_own.new.self c.args.slot c.args.context c.args.now
    (loads_on-ends g.R.Receipt.stands _ c.args.self.now c.resume_load_own.new.self c.args.slot c.args.context c.args.now (Ok c.args.loaded) why (rw e at c.resume_load_own.ensures.effect)) g.R.Receipt.keeps g.F.Key.Ord.cmp)

pub returns-then-holds_relocation-clause-others : goal.returns-then-holds_relocation-clause-others
returns-then-holds_relocation-clause-others g c = λ yes_keeps.
    relocation-others g.F.Key.Ord.cmp g.F.Functions.meaning c.args.self.now c.resume_load_own.new.self c.args.slot c.args.context c.args.now yes_keeps c.resume_load_own.result c.resume_load_own.ensures.event
    (λ why e. ended-pends c.args.self.now c.resume_load_own.new.self c.args.slot c.args.context c.args.now
    (loads_on-ends g.R.Receipt.stands _ c.args.self.now c.resume_load_own.new.self c.args.slot c.args.context c.args.now (Ok c.args.loaded) why (rw e at c.resume_load_own.ensures.effect)) g.F.Key.Ord.cmp)

pub returns-else-holds_relocation-clause-relocating : goal.returns-else-holds_relocation-clause-relocating
returns-else-holds_relocation-clause-relocating g c = none-held _ c.if-holds_relocation.ensures.none

pub returns-then-holds_relocation-clause-relocating : goal.returns-then-holds_relocation-clause-relocating
returns-then-holds_relocation-clause-relocating g c = λ some. c.resume_load_own.ensures.event

pub returns-else-holds_relocation-clause-undamaged : goal.returns-else-holds_relocation-clause-undamaged
returns-else-holds_relocation-clause-undamaged g c = λ yes_keeps page is. answer-not (c.load_on_key.ensures.undamaged yes_keeps page is)

pub returns-then-holds_relocation-clause-undamaged : goal.returns-then-holds_relocation-clause-undamaged
returns-then-holds_relocation-clause-undamaged g c = c.resume_load_own.ensures.undamaged
