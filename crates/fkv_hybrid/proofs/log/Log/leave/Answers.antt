use Rattle.std.proofs.Common.{◌≡◌}
use Rattle.fkv_functions.specs.declared.refusals.Refused.TheVariants.{Unknown}
use Rattle.fkv_regions.specs.RegionsView.{left}
use Rattle.fkv_hybrid.proofs.PageLemmas.{the_text, log_of, ok_then, err_also}
use Rattle.fkv_hybrid.proofs.MoveLemmas.{followed, moved_seen, unmoved_seen}
use Rattle.fkv_hybrid.proofs.log.Log.leave.Goals as goal

pub invariant_of-self-inside : goal.invariant_of-self-inside
invariant_of-self-inside g c =
    let i = c.self.inside in
    let l = followed g.K.Fixed.codec g.V.Fixed.codec g.R.Receipt.keeps i.shape i.begin i.regions c.leave.new.self i.regions.offsets.read_only i.tail _ i.frames i.text.0.0 c.self.invariant c.leave.ensures.moved c.self.invariant.agrees.begun in
    (the_text g.K.Fixed.codec g.V.Fixed.codec _ _ g.row.K.coded g.row.V.coded _ _ _ l.pages.spelled, tt)

pub invariant_of-self : goal.invariant_of-self
invariant_of-self g c =
    let i = c.self.inside in
    let l = followed g.K.Fixed.codec g.V.Fixed.codec g.R.Receipt.keeps i.shape i.begin i.regions c.leave.new.self i.regions.offsets.read_only i.tail _ i.frames i.text.0.0 c.self.invariant c.leave.ensures.moved c.self.invariant.agrees.begun in
    let now = c.leave.new.self.offsets in
    record {
      pages = log_of g.K.Fixed.codec g.V.Fixed.codec g.R.Receipt.keeps i.shape i.begin now.closed now.safe_read_only i.tail _ i.frames c.self-1.given.0 _ l.pages;
      agrees = l.agrees;
    }

pub returns-clause-effect : goal.returns-clause-effect
returns-clause-effect g c =
    let i = c.self.inside in
    ok_then c.leave.result c.leave.ensures.effect
    (λ e. rw (← c.self.view_is) (moved_seen g.K.Fixed.codec g.V.Fixed.codec g.R.Receipt.keeps i.shape i.begin i.regions c.leave.new.self (left i.regions c.args.slot) i.regions.offsets.read_only i.tail _ i.frames i.text.0.0 c.self-1.given.0 c.self.invariant c.leave.ensures.moved c.self.invariant.agrees.begun e))

pub returns-clause-raised : goal.returns-clause-raised
returns-clause-raised g c = rw (← c.self.view_is) c.leave.ensures.moved.raised

pub returns-clause-unknown : goal.returns-clause-unknown
returns-clause-unknown g c = rw (← c.self.view_is) c.leave.ensures.unknown

pub returns-clause-refused : goal.returns-clause-refused
returns-clause-refused g c =
    let i = c.self.inside in
    err_also (λ why. why ≡ Unknown) c.leave.result c.leave.ensures.refused (λ e. rw (← c.self.view_is) (unmoved_seen g.K.Fixed.codec g.V.Fixed.codec g.R.Receipt.keeps i.shape i.begin i.regions c.leave.new.self i.tail _ i.frames i.text.0.0 c.self-1.given.0 c.self.invariant e))
