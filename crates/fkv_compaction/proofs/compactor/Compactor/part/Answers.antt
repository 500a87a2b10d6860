use Rattle.std.proofs.Common.{◌∙◌, ◌+◌, ◌^◌, ◌<◌, ap, subst, arith}
use Rattle.fkv_texts.specs.Text.{live}
use Rattle.fkv_partition.specs.Beginning.{LeavesAll}
use Rattle.fkv_compaction.specs.Compactor.{Parts}
use Rattle.fkv_compaction.proofs.CompactorLemmas.{operation-stays, left-asked, left-cleared, left-live, left-parted}
use Rattle.fkv_compaction.proofs.compactor.Compactor.part.Goals as goal

pub returns-clause-effect : goal.returns-clause-effect
returns-clause-effect g c =
    let between = c.give_up_all.new.partition in
    let last = c.give_up_all.new.clock in
    let spare : c.args.clock.now + 9 < 2 ^ 64 = omega (arith, c.last.ensures, c.if-last.false) in
    let does = subst (λ n. LeavesAll g.R.Receipt.keeps between c.leave.new.self c.args.self n c.leave.result) c.in-Ok.ensures.ok (rw c.self.view_is at c.leave.ensures.effect) in
    Parts.parts between last spare c.give_up_all.ensures.effect does (c.in-Ok.ensures.given ∙ c.in-Ok.ensures.ok)

pub returns-clause-event : goal.returns-clause-event
returns-clause-event g c =
    left-parted g.R.Receipt.keeps g.F.Key.Ord.cmp c.args.partition.now c.give_up_all.new.partition c.leave.new.self c.in-Ok.now _ c.leave.result c.give_up_all.ensures.without c.in-Ok.ensures.given c.leave.ensures.event

pub returns-clause-others : goal.returns-clause-others
returns-clause-others g c = λ s d other.
    left-asked g.R.Receipt.keeps c.give_up_all.new.partition c.leave.new.self c.in-Ok.now c.leave.result c.leave.ensures.event c.leave.ensures.unchanged s d
    ∙ c.give_up_all.ensures.others s d other

pub returns-clause-operations : goal.returns-clause-operations
returns-clause-operations g c = λ s d x o here key.
    left-asked g.R.Receipt.keeps c.give_up_all.new.partition c.leave.new.self c.in-Ok.now c.leave.result c.leave.ensures.event c.leave.ensures.unchanged s d
    ∙ operation-stays g.F.Key.Ord.cmp c.args.partition.now c.give_up_all.new.partition c.give_up_all.ensures.without s d x o here key

pub returns-clause-pends : goal.returns-clause-pends
returns-clause-pends g c = λ yes_keeps s d.
    c.leave.ensures.pends yes_keeps s d
    ∙ c.give_up_all.ensures.without.pend s d

pub returns-clause-live : goal.returns-clause-live
returns-clause-live g c = λ yes_keeps k.
    left-live g.R.Receipt.keeps g.F.Key.Ord.cmp c.give_up_all.new.partition c.leave.new.self c.in-Ok.now c.leave.result c.leave.ensures.event c.leave.ensures.unchanged yes_keeps k
    ∙ ap (λ r. live g.F.Key.Ord.cmp r.text k) c.give_up_all.ensures.without.records

pub returns-clause-cleared : goal.returns-clause-cleared
returns-clause-cleared g c =
    left-cleared g.R.Receipt.keeps c.give_up_all.new.partition c.leave.new.self c.in-Ok.now c.leave.result c.leave.ensures.event c.leave.ensures.unchanged
    ∙ c.give_up_all.ensures.cleared
