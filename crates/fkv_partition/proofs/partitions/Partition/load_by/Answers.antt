use Rattle.std.proofs.Common.{inl, refl, sym, ◌∙◌}
use Rattle.fkv_partition.proofs.LoadLemmas.{reads-any}
use Rattle.fkv_partition.specs.Events.WaitsFor.{on_key, relocation}
use Rattle.fkv_partition.proofs.ApartLemmas.{none-held}
use Rattle.fkv_partition.proofs.ProceedLemmas.{loads_on-proceeds, loads_on-ends, ended-event, ended-pends}
use Rattle.fkv_partition.proofs.EffectLemmas.{if-err}
use Rattle.fkv_partition.proofs.OperationLemmas.{loads-event, ends-key, relocation-load, relocation-others, reads-key, reads-relocation}
use Rattle.fkv_partition.proofs.SeatLemmas.{loads-seats}
use Rattle.fkv_partition.proofs.partitions.Partition.load_by.Goals as goal

pub returns-else-holds_relocation-clause-effect : goal.returns-else-holds_relocation-clause-effect
returns-else-holds_relocation-clause-effect g c =
    reads-key g.R.Receipt.stands _ g.F.Key.Ord.cmp g.F.Mergeable.parts.joined g.F.Functions.meaning g.F.Functions.code c.args.self.now c.load_by_on_key.new.self c.args.slot c.args.context c.args.now c.if-holds_relocation.ensures.none (reads-any _ c.load_by_on_key.ensures.effect (λ came does. (loads-seats c.args.self.now c.load_by_on_key.new.self c.args.slot c.args.context c.args.now _ _ _ _ _ came c.load_by_on_key.result does).0) (λ told same is. rw same (record { cleared = refl; relocations = λ p. refl }))) c.load_by_on_key.ensures.effect

pub returns-else-holds_relocation-clause-event : goal.returns-else-holds_relocation-clause-event
returns-else-holds_relocation-clause-event g c = λ yes_keeps.
    loads-event g.F.Key.Ord.cmp g.F.Functions.meaning c.args.self.now c.load_by_on_key.new.self c.args.slot c.args.context c.args.now c.if-holds_relocation.ensures.none (reads-any _ c.load_by_on_key.ensures.effect (λ came does. (loads-seats c.args.self.now c.load_by_on_key.new.self c.args.slot c.args.context c.args.now _ _ _ _ _ came c.load_by_on_key.result does).0) (λ told same is. rw same (record { cleared = refl; relocations = λ p. refl }))) c.load_by_on_key.result (c.load_by_on_key.ensures.event yes_keeps)

pub returns-else-holds_relocation-clause-fails : goal.returns-else-holds_relocation-clause-fails
returns-else-holds_relocation-clause-fails g c =
    if-err c.load_by_on_key.result (λ why e. ends-key c.args.self.now c.load_by_on_key.new.self c.args.slot c.args.context c.args.now c.if-holds_relocation.ensures.none (reads-any _ c.load_by_on_key.ensures.effect (λ came does. (loads-seats c.args.self.now c.load_by_on_key.new.self c.args.slot c.args.context c.args.now _ _ _ _ _ came c.load_by_on_key.result does).0) (λ told same is. rw same (record { cleared = refl; relocations = λ p. refl })))
    (reads-any _ c.load_by_on_key.ensures.effect
    (λ came does. c.loads_end.ensures.fails c.args.self.now c.load_by_on_key.new.self c.args.slot c.args.context came c.args.now why (rw e at does))
    (λ told same is. inl same)))

pub returns-else-holds_relocation-clause-others : goal.returns-else-holds_relocation-clause-others
returns-else-holds_relocation-clause-others g c = λ yes_keeps.
    reads-any _ c.load_by_on_key.ensures.effect
    (λ came does. c.loads_end.ensures.loads c.args.self.now c.load_by_on_key.new.self c.args.slot c.args.context came c.args.now c.load_by_on_key.result does)
    (λ told same is. rw same (λ s d other. refl))

pub returns-else-holds_relocation-clause-cleared : goal.returns-else-holds_relocation-clause-cleared
returns-else-holds_relocation-clause-cleared g c = λ told. rw c.if-holds_relocation.ensures.none tt

pub returns-else-holds_relocation-clause-unread : goal.returns-else-holds_relocation-clause-unread
returns-else-holds_relocation-clause-unread g c = λ none. c.load_by_on_key.ensures.unread (λ page waits. none page (on_key c.if-holds_relocation.ensures.none waits))

pub returns-then-holds_relocation-clause-effect : goal.returns-then-holds_relocation-clause-effect
returns-then-holds_relocation-clause-effect g c =
    reads-relocation g.R.Receipt.stands _ g.F.Key.Ord.cmp g.F.Mergeable.parts.joined g.F.Functions.meaning g.F.Functions.code c.args.self.now c.resume_load_by.new.self c.args.slot c.args.context c.args.now c.if-holds_relocation.ensures.some.0 c.if-holds_relocation.ensures.some.1 c.resume_load_by.ensures.effect

pub returns-then-holds_relocation-clause-event : goal.returns-then-holds_relocation-clause-event
returns-then-holds_relocation-clause-event g c = λ yes_keeps.
    let here = c.if-holds_relocation.ensures.some.1 in
    relocation-load g.F.Key.Ord.cmp g.F.Functions.meaning c.args.self.now c.resume_load_by.new.self c.args.slot c.args.context c.args.now c.if-holds_relocation.ensures.some.0 here yes_keeps c.resume_load_by.result c.resume_load_by.ensures.event
    (λ p e. reads-any _ c.resume_load_by.ensures.effect
    (λ came does. loads_on-proceeds g.R.Receipt.stands _ g.F.Key.Ord.cmp g.F.Mergeable.parts.joined g.F.Functions.code c.args.self.now c.resume_load_by.new.self c.args.slot c.args.context c.args.now came p c.if-holds_relocation.ensures.some.0 here (rw e at does))
    (λ told same is. let bad = sym is ∙ e in absurd (cc)))

pub returns-then-holds_relocation-clause-fails : goal.returns-then-holds_relocation-clause-fails
returns-then-holds_relocation-clause-fails g c =
    if-err c.resume_load_by.result (λ why e. reads-any _ c.resume_load_by.ensures.effect
    (λ came does. ended-event c.args.self.now c.resume_load_by.new.self c.args.slot c.args.context c.args.now
    (loads_on-ends g.R.Receipt.stands _ c.args.self.now c.resume_load_by.new.self c.args.slot c.args.context c.args.now came why (rw e at does)) g.R.Receipt.keeps g.F.Key.Ord.cmp)
    (λ told same is. inl same))

pub returns-then-holds_relocation-clause-others : goal.returns-then-holds_relocation-clause-others
returns-then-holds_relocation-clause-others g c = λ yes_keeps.
    relocation-others g.F.Key.Ord.cmp g.F.Functions.meaning c.args.self.now c.resume_load_by.new.self c.args.slot c.args.context c.args.now yes_keeps c.resume_load_by.result c.resume_load_by.ensures.event
    (λ why e. reads-any _ c.resume_load_by.ensures.effect
    (λ came does. ended-pends c.args.self.now c.resume_load_by.new.self c.args.slot c.args.context c.args.now
    (loads_on-ends g.R.Receipt.stands _ c.args.self.now c.resume_load_by.new.self c.args.slot c.args.context c.args.now came why (rw e at does)) g.F.Key.Ord.cmp)
    (λ told same is. rw same (λ s d. refl)))

pub returns-then-holds_relocation-clause-unread : goal.returns-then-holds_relocation-clause-unread
returns-then-holds_relocation-clause-unread g c = λ none. c.resume_load_by.ensures.unread (λ page waits. none page (relocation waits))

pub returns-else-holds_relocation-clause-relocating : goal.returns-else-holds_relocation-clause-relocating
returns-else-holds_relocation-clause-relocating g c = none-held _ c.if-holds_relocation.ensures.none

pub returns-then-holds_relocation-clause-relocating : goal.returns-then-holds_relocation-clause-relocating
returns-then-holds_relocation-clause-relocating g c = λ some. c.resume_load_by.ensures.event

pub returns-else-holds_relocation-clause-undamaged : goal.returns-else-holds_relocation-clause-undamaged
returns-else-holds_relocation-clause-undamaged g c = c.load_by_on_key.ensures.undamaged

pub returns-then-holds_relocation-clause-undamaged : goal.returns-then-holds_relocation-clause-undamaged
returns-then-holds_relocation-clause-undamaged g c = c.resume_load_by.ensures.undamaged
