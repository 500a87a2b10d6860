use Rattle.std.proofs.Common.{◌≡◌, slice_get, ap}
use Rattle.fkv_hybrid.proofs.FlushLemmas.{lowest_waits}
use Rattle.fkv_hybrid.proofs.log.Log.flush_take.Goals as goal

pub returns-clause-bytes : goal.returns-clause-bytes
returns-clause-bytes g c =
    let i = c.self.inside in
    let count = rw (← c.self.view_is) at c.unflushed-page.ensures in
    let due = rw (← c.self.view_is) at (c.is_flush_due.ensures.due c.if-not-is_flush_due.false) in
    let waits = lowest_waits g.K.Fixed.codec g.V.Fixed.codec g.R.Receipt.keeps i.shape i.begin i.regions.offsets.closed i.regions.offsets.safe_read_only i.tail _ i.frames i.text.0.0 c.bytes-held.result.now c.self.invariant.pages due (rw count at c.bytes-held.ensures.value) in
    let same : c.in-Ok.bytes ≡ c.bytes-held.result.now = c.in-Ok.ensures.ok in
    rw (← c.self.view_is, same) (ap (λ l. slice_get l 0) waits)
