use Rattle.std.proofs.Common.{refl}
use Rattle.fkv_regions.specs.RegionsView.{entered}
use Rattle.fkv_hybrid.proofs.PageLemmas.{the_text, log_of, err_then}
use Rattle.fkv_hybrid.proofs.ScanLemmas.{if_ok}
use Rattle.fkv_hybrid.proofs.MoveLemmas.{followed, unmoved_seen, entered_seen}
use Rattle.fkv_hybrid.proofs.log.Log.enter.Goals as goal

pub invariant_of-self-inside : goal.invariant_of-self-inside
invariant_of-self-inside g c =
    let i = c.self.inside in
    let l = followed g.K.Fixed.codec g.V.Fixed.codec g.R.Receipt.keeps i.shape i.begin i.regions c.enter.new.self i.regions.offsets.read_only i.tail _ i.frames i.text.0.0 c.self.invariant c.enter.ensures.moved c.self.invariant.agrees.begun in
    (the_text g.K.Fixed.codec g.V.Fixed.codec _ _ g.row.K.coded g.row.V.coded _ _ _ l.pages.spelled, tt)

pub invariant_of-self : goal.invariant_of-self
invariant_of-self g c =
    let i = c.self.inside in
    let l = followed g.K.Fixed.codec g.V.Fixed.codec g.R.Receipt.keeps i.shape i.begin i.regions c.enter.new.self i.regions.offsets.read_only i.tail _ i.frames i.text.0.0 c.self.invariant c.enter.ensures.moved c.self.invariant.agrees.begun in
    let now = c.enter.new.self.offsets in
    record {
      pages = log_of g.K.Fixed.codec g.V.Fixed.codec g.R.Receipt.keeps i.shape i.begin now.closed now.safe_read_only i.tail _ i.frames c.self-1.given.0 _ l.pages;
      agrees = l.agrees;
    }

pub returns-clause-effect : goal.returns-clause-effect
returns-clause-effect g c =
    let i = c.self.inside in
    if_ok c.enter.result c.enter.ensures.effect
    (λ slot e. rw (← c.self.view_is)
    (entered_seen g.K.Fixed.codec g.V.Fixed.codec g.R.Receipt.keeps i.shape i.begin i.regions c.enter.new.self (entered i.regions slot) i.tail _ i.frames i.text.0.0 c.self-1.given.0 c.self.invariant e refl))

pub returns-clause-unchanged : goal.returns-clause-unchanged
returns-clause-unchanged g c =
    let i = c.self.inside in
    err_then c.enter.result c.enter.ensures.unchanged (λ e. rw (← c.self.view_is) (unmoved_seen g.K.Fixed.codec g.V.Fixed.codec g.R.Receipt.keeps i.shape i.begin i.regions c.enter.new.self i.tail _ i.frames i.text.0.0 c.self-1.given.0 c.self.invariant e))
