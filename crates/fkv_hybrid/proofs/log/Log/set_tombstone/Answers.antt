use Rattle.std.proofs.Common.{◌<◌, ◌^◌, ◌∙◌, None, refl, false, ◌≡◌}
use Rattle.fkv_hybrid.proofs.PageLemmas.{the_text, log_of, view_of}
use Rattle.fkv_hybrid.proofs.EditLemmas.{mutable, edited_seen}
use Rattle.fkv_hybrid.proofs.log.Log.set_tombstone.Goals as goal

pub put_tombstone-requires-clause-held : goal.put_tombstone-requires-clause-held
put_tombstone-requires-clause-held g c =
    let i = c.self.inside in
    let m = mutable g.K.Fixed.codec g.V.Fixed.codec g.R.Receipt.keeps i.shape i.begin i.regions i.tail _ i.frames i.text.0.0 c.args.address _ c.self.view_is c.self.invariant.pages c.requires.entry c.requires.mutable in
    rw (c.self.invariant.pages.ringed.bits_same, m.here.here) refl

pub put_tombstone-requires-clause-place : goal.put_tombstone-requires-clause-place
put_tombstone-requires-clause-place g c =
    let i = c.self.inside in
    let m = mutable g.K.Fixed.codec g.V.Fixed.codec g.R.Receipt.keeps i.shape i.begin i.regions i.tail _ i.frames i.text.0.0 c.args.address _ c.self.view_is c.self.invariant.pages c.requires.entry c.requires.mutable in
    m.here.place

pub invariant_of-self-inside : goal.invariant_of-self-inside
invariant_of-self-inside g c =
    let i = c.self.inside in
    let m = mutable g.K.Fixed.codec g.V.Fixed.codec g.R.Receipt.keeps i.shape i.begin i.regions i.tail _ i.frames i.text.0.0 c.args.address _ c.self.view_is c.self.invariant.pages c.requires.entry c.requires.mutable in
    let whole = (rw (← c.self.view_is) at c.requires.whole) m.entry m.is in
    let l = edited_seen g.K.Fixed.codec g.V.Fixed.codec g.R.Receipt.keeps i.shape i.begin i.regions i.tail _ i.frames c.put_tombstone.new.frames i.text.0.0 c.args.address (λ r. (r.delta ≡ false) × (r.previous < 2 ^ 48)) None _ c.self.view_is c.self.invariant.pages c.requires.mutable m (whole, m.here.sound.fits) tt (λ d. absurd (cc)) c.put_tombstone.ensures in
    (the_text g.K.Fixed.codec g.V.Fixed.codec _ _ g.row.K.coded g.row.V.coded _ _ _ l.0.spelled, tt)

pub invariant_of-self : goal.invariant_of-self
invariant_of-self g c =
    let i = c.self.inside in
    let m = mutable g.K.Fixed.codec g.V.Fixed.codec g.R.Receipt.keeps i.shape i.begin i.regions i.tail _ i.frames i.text.0.0 c.args.address _ c.self.view_is c.self.invariant.pages c.requires.entry c.requires.mutable in
    let whole = (rw (← c.self.view_is) at c.requires.whole) m.entry m.is in
    let l = edited_seen g.K.Fixed.codec g.V.Fixed.codec g.R.Receipt.keeps i.shape i.begin i.regions i.tail _ i.frames c.put_tombstone.new.frames i.text.0.0 c.args.address (λ r. (r.delta ≡ false) × (r.previous < 2 ^ 48)) None _ c.self.view_is c.self.invariant.pages c.requires.mutable m (whole, m.here.sound.fits) tt (λ d. absurd (cc)) c.put_tombstone.ensures in
    record { pages = log_of g.K.Fixed.codec g.V.Fixed.codec g.R.Receipt.keeps i.shape i.begin i.regions.offsets.closed i.regions.offsets.safe_read_only i.tail _ c.put_tombstone.new.frames c.self-1.given.0 _ l.0; agrees = c.self.invariant.agrees }

pub returns : goal.returns
returns g c =
    let i = c.self.inside in
    let m = mutable g.K.Fixed.codec g.V.Fixed.codec g.R.Receipt.keeps i.shape i.begin i.regions i.tail _ i.frames i.text.0.0 c.args.address _ c.self.view_is c.self.invariant.pages c.requires.entry c.requires.mutable in
    let whole = (rw (← c.self.view_is) at c.requires.whole) m.entry m.is in
    let l = edited_seen g.K.Fixed.codec g.V.Fixed.codec g.R.Receipt.keeps i.shape i.begin i.regions i.tail _ i.frames c.put_tombstone.new.frames i.text.0.0 c.args.address (λ r. (r.delta ≡ false) × (r.previous < 2 ^ 48)) None _ c.self.view_is c.self.invariant.pages c.requires.mutable m (whole, m.here.sound.fits) tt (λ d. absurd (cc)) c.put_tombstone.ensures in
    view_of g.K.Fixed.codec g.V.Fixed.codec g.R.Receipt.keeps i.shape i.begin i.regions i.tail _ c.put_tombstone.new.frames c.self-1.given.0 _ l.0 ∙ l.1
