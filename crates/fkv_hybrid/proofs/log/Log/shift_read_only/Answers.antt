use Rattle.std.proofs.Common.{arith}
use Rattle.fkv_records.specs.Places.{start_at}
use Rattle.fkv_regions.specs.RegionsView.{with_read_only}
use Rattle.fkv_hybrid.proofs.PageLemmas.{the_text, log_of, ok_then, err_then}
use Rattle.fkv_hybrid.proofs.MoveLemmas.{followed, moved_seen, unmoved_seen}
use Rattle.fkv_hybrid.proofs.log.Log.shift_read_only.Goals as goal

pub invariant_of-self-inside : goal.invariant_of-self-inside
invariant_of-self-inside g c =
    let i = c.self.inside in
    let l = followed g.K.Fixed.codec g.V.Fixed.codec g.R.Receipt.keeps i.shape i.begin i.regions c.shift_read_only.new.self i.tail i.tail _ i.frames i.text.0.0 c.self.invariant c.shift_read_only.ensures.moved (omega arith) in
    (the_text g.K.Fixed.codec g.V.Fixed.codec _ _ g.row.K.coded g.row.V.coded _ _ _ l.pages.spelled, tt)

pub invariant_of-self : goal.invariant_of-self
invariant_of-self g c =
    let i = c.self.inside in
    let l = followed g.K.Fixed.codec g.V.Fixed.codec g.R.Receipt.keeps i.shape i.begin i.regions c.shift_read_only.new.self i.tail i.tail _ i.frames i.text.0.0 c.self.invariant c.shift_read_only.ensures.moved (omega arith) in
    let now = c.shift_read_only.new.self.offsets in
    record {
      pages = log_of g.K.Fixed.codec g.V.Fixed.codec g.R.Receipt.keeps i.shape i.begin now.closed now.safe_read_only i.tail _ i.frames c.self-1.given.0 _ l.pages;
      agrees = l.agrees;
    }

pub returns-clause-effect : goal.returns-clause-effect
returns-clause-effect g c =
    let i = c.self.inside in
    ok_then c.shift_read_only.result c.shift_read_only.ensures.effect
    (λ e. rw (← c.self.view_is) (moved_seen g.K.Fixed.codec g.V.Fixed.codec g.R.Receipt.keeps i.shape i.begin i.regions c.shift_read_only.new.self (with_read_only i.regions (start_at i.regions.bits c.args.page)) i.tail i.tail _ i.frames i.text.0.0 c.self-1.given.0 c.self.invariant c.shift_read_only.ensures.moved (omega arith) e))

pub returns-clause-raised : goal.returns-clause-raised
returns-clause-raised g c = rw (← c.self.view_is) c.shift_read_only.ensures.moved.raised

pub returns-clause-ok : goal.returns-clause-ok
returns-clause-ok g c = rw (← c.self.view_is) c.shift_read_only.ensures.ok

pub returns-clause-not_due : goal.returns-clause-not_due
returns-clause-not_due g c = rw (← c.self.view_is) c.shift_read_only.ensures.not_due

pub returns-clause-full : goal.returns-clause-full
returns-clause-full g c = rw (← c.self.view_is) c.shift_read_only.ensures.full

pub returns-clause-unchanged : goal.returns-clause-unchanged
returns-clause-unchanged g c =
    let i = c.self.inside in
    err_then c.shift_read_only.result c.shift_read_only.ensures.unchanged (λ e. rw (← c.self.view_is) (unmoved_seen g.K.Fixed.codec g.V.Fixed.codec g.R.Receipt.keeps i.shape i.begin i.regions c.shift_read_only.new.self i.tail _ i.frames i.text.0.0 c.self-1.given.0 c.self.invariant e))
