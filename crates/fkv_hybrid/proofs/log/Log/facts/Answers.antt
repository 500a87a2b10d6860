use Rattle.fkv_hybrid.proofs.FrameLemmas.{pages_from-length}
use Rattle.fkv_hybrid.proofs.FlushLemmas.{waits_spelled}
use Rattle.fkv_hybrid.proofs.WholeLemmas.{whole_log}
use Rattle.fkv_hybrid.proofs.log.Log.facts.Goals as goal

pub returns-clause-log : goal.returns-clause-log
returns-clause-log g c =
    let i = c.self.inside in
    let r = c.facts-2.ensures in
    rw (← c.self.view_is) (whole_log g.K.Fixed.codec g.V.Fixed.codec g.R.Receipt.keeps i.shape i.begin i.regions i.tail _ i.frames i.text.0.0 c.self.invariant r.regions r.epochs c.facts.ensures.some)

pub returns-clause-receipts : goal.returns-clause-receipts
returns-clause-receipts g c =
    let f = c.self.invariant.pages.flushed in
    rw (← c.self.view_is) (λ n s held. (f.own n s held, f.sized n s held))

pub returns-clause-waiting : goal.returns-clause-waiting
returns-clause-waiting g c = rw (← c.self.view_is) (pages_from-length c.self.inside.frames _ _)

pub returns-clause-spelled : goal.returns-clause-spelled
returns-clause-spelled g c =
    let i = c.self.inside in
    let o = i.regions.offsets in
    rw (← c.self.view_is) (waits_spelled g.K.Fixed.codec g.V.Fixed.codec g.R.Receipt.keeps i.shape i.begin o.closed o.safe_read_only i.tail _ i.frames i.text.0.0 c.self.invariant.pages)
