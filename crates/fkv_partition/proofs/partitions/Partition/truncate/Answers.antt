use Rattle.std.proofs.Common.{refl}
use Rattle.fkv_partition.specs.Truncating.{Truncates}
use Rattle.fkv_partition.proofs.TruncateLemmas.{page-low, page-high, truncates-told}
use Rattle.fkv_partition.proofs.EffectLemmas.{on-ok, truncated-event}
use Rattle.fkv_partition.proofs.SeatLemmas.{truncates-seats}
use Rattle.fkv_partition.proofs.partitions.Partition.truncate.Goals as goal

pub returns-then-page-page_of-clause-effect : goal.returns-then-page-page_of-clause-effect
returns-then-page-page_of-clause-effect g c =
    let high = rw (c.page_of.ensures, c.records.ensures, c.cleared.ensures) at c.if-page-page_of.true in
    (Truncates.not_due (λ d. page-high c.args.self.now.records.log.bits c.args.page c.args.self.now.cleared high d.cleared) refl refl)

pub cut-requires-clause-low : goal.cut-requires-clause-low
cut-requires-clause-low g c =
    let r = c.args.self.now.records in
    page-low r.log.bits c.args.page c.args.self.now.cleared (rw (c.page_of.ensures, c.records.ensures, c.cleared.ensures) at c.if-page-page_of.false)

pub returns-clause-effect : goal.returns-clause-effect
returns-clause-effect g c =
    let r = c.args.self.now.records in
    let low = page-low r.log.bits c.args.page c.args.self.now.cleared (rw (c.page_of.ensures, c.records.ensures, c.cleared.ensures) at c.if-page-page_of.false) in
    let v = c.args.self.now in
    (truncates-told g.R.Receipt.keeps v c.cut.new.self c.args.page c.args.now c.cut.result low c.cut.ensures.effect)

pub returns-clause-unchanged : goal.returns-clause-unchanged
returns-clause-unchanged g c = c.cut.ensures.unchanged

pub returns-clause-event : goal.returns-clause-event
returns-clause-event g c =
    let v = c.args.self.now in
    let seats = truncates-seats v c.cut.new.self g.R.Receipt.keeps c.args.page c.args.now c.cut.result c.cut.ensures.effect in
    (on-ok c.cut.result (truncated-event v c.cut.new.self c.args.page c.args.now seats.0) c.cut.ensures.event)
