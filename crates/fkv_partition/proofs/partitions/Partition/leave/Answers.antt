use Rattle.std.proofs.Common.{◌∙◌, refl, sym}
use Rattle.std.proofs.lemmas.Bool.{false≢true}
use Rattle.fkv_partition.specs.Views.{relocation_at}
use Rattle.fkv_partition.specs.Beginning.{LeavesAll}
use Rattle.fkv_partition.proofs.KeepLemmas.{none-at}
use Rattle.fkv_partition.proofs.EffectLemmas.{on-ok, quiet-event, relocations-stay, left-stay}
use Rattle.fkv_partition.proofs.SeatLemmas.{leaves-seats}
use Rattle.fkv_partition.proofs.StayLemmas.{leaves-all}
use Rattle.fkv_partition.proofs.partitions.Partition.leave.Goals as goal

pub returns-then-has_relocation-clause-effect : goal.returns-then-has_relocation-clause-effect
returns-then-has_relocation-clause-effect g c =
    let h = c.has_relocation.ensures.0 c.if-has_relocation.true in
    LeavesAll.busy h.0 h.1 h.2 refl refl

pub returns-clause-effect : goal.returns-clause-effect
returns-clause-effect g c =
    let v = c.args.self.now in
    (LeavesAll.leaves (λ d. none-at (relocation_at v c.args.slot d) (λ x e. false≢true (sym c.if-has_relocation.false ∙ c.has_relocation.ensures.1 (d, x, e)))) c.leave_slot.ensures.effect)

pub returns-clause-unchanged : goal.returns-clause-unchanged
returns-clause-unchanged g c = c.leave_slot.ensures.unchanged

pub returns-clause-event : goal.returns-clause-event
returns-clause-event g c =
    let v = c.args.self.now in
    let new = c.leave_slot.new.self in
    let does = c.leave_slot.ensures.effect in
    let seats = leaves-seats v new g.R.Receipt.keeps c.args.slot c.args.now c.leave_slot.result does in
    let stay = left-stay v new c.args.slot seats.1 (λ d x e. false≢true (sym c.if-has_relocation.false ∙ c.has_relocation.ensures.1 (d, x, e))) in
    (on-ok c.leave_slot.result (λ q. quiet-event v new c.args.now seats.0.cleared (relocations-stay v new c.facts.ensures.sound seats.0.relocations stay) q) c.leave_slot.ensures.event)

pub returns-clause-pends : goal.returns-clause-pends
returns-clause-pends g c = (λ yes_keeps. leaves-all g.R.Receipt.keeps g.F.Key.Ord.cmp c.args.self.now c.leave_slot.new.self c.args.slot c.args.now c.leave_slot.result yes_keeps c.leave_slot.ensures.effect)
