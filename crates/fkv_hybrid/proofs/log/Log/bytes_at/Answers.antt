use Rattle.std.proofs.Common.{◌≡◌, ◌+◌, ◌≤◌, ◌∙◌, length, refl, ap}
use Rattle.fkv_records.proofs.PlaceLemmas.{place_low}
use Rattle.fkv_texts.specs.Text.{entry_at}
use Rattle.fkv_hybrid.proofs.ByteLemmas.{part-length}
use Rattle.fkv_hybrid.proofs.HeldLemmas.{entry_held, held_page}
use Rattle.fkv_hybrid.proofs.PageLemmas.{some_is, if_some}
use Rattle.fkv_hybrid.proofs.log.Log.bytes_at.Goals as goal

pub bytes-requires : goal.bytes-requires
bytes-requires g c =
    let i = c.self.inside in
    let f = some_is (entry_at i.text.0.0 c.args.address) (rw (← c.self.view_is) at c.requires.there) in
    let h = entry_held g.K.Fixed.codec g.V.Fixed.codec g.R.Receipt.keeps i.shape i.begin i.regions.offsets.closed i.regions.offsets.safe_read_only i.tail _ i.frames i.text.0.0 c.args.address f.0 c.self.invariant.pages (rw (← c.self.view_is) at c.requires.in_frame) f.1 in
    rw (c.page_of-page.ensures, h.here) refl

pub part-requires : goal.part-requires
part-requires g c =
    let i = c.self.inside in
    let f = some_is (entry_at i.text.0.0 c.args.address) (rw (← c.self.view_is) at c.requires.there) in
    let h = entry_held g.K.Fixed.codec g.V.Fixed.codec g.R.Receipt.keeps i.shape i.begin i.regions.offsets.closed i.regions.offsets.safe_read_only i.tail _ i.frames i.text.0.0 c.args.address f.0 c.self.invariant.pages (rw (← c.self.view_is) at c.requires.in_frame) f.1 in
    let page : c.bytes.result.now ≡ h.page = held_page g.K.Fixed.codec g.V.Fixed.codec i.shape i.frames c.args.address f.0 c.bytes.result.now h (rw c.page_of-page.ensures at c.bytes.ensures.value) in
    let room : c.offset_of-offset.result + i.shape.record_size ≤ length c.bytes.result.now = rw (page, c.offset_of-offset.ensures.value) h.room in
    room

pub returns-clause-sized : goal.returns-clause-sized
returns-clause-sized g c =
    let i = c.self.inside in
    let f = some_is (entry_at i.text.0.0 c.args.address) (rw (← c.self.view_is) at c.requires.there) in
    let h = entry_held g.K.Fixed.codec g.V.Fixed.codec g.R.Receipt.keeps i.shape i.begin i.regions.offsets.closed i.regions.offsets.safe_read_only i.tail _ i.frames i.text.0.0 c.args.address f.0 c.self.invariant.pages (rw (← c.self.view_is) at c.requires.in_frame) f.1 in
    let page : c.bytes.result.now ≡ h.page = held_page g.K.Fixed.codec g.V.Fixed.codec i.shape i.frames c.args.address f.0 c.bytes.result.now h (rw c.page_of-page.ensures at c.bytes.ensures.value) in
    let room : c.offset_of-offset.result + i.shape.record_size ≤ length c.bytes.result.now = rw (page, c.offset_of-offset.ensures.value) h.room in
    ap length c.part.ensures ∙ part-length c.bytes.result.now c.offset_of-offset.result i.shape.record_size room ∙ c.self.invariant.pages.size

pub returns-clause-spelled : goal.returns-clause-spelled
returns-clause-spelled g c =
    let i = c.self.inside in
    rw (← c.self.view_is) (if_some (entry_at i.text.0.0 c.args.address) (λ e is.
    let h = entry_held g.K.Fixed.codec g.V.Fixed.codec g.R.Receipt.keeps i.shape i.begin i.regions.offsets.closed i.regions.offsets.safe_read_only i.tail _ i.frames i.text.0.0 c.args.address e c.self.invariant.pages (rw (← c.self.view_is) at c.requires.in_frame) is in
    let page = held_page g.K.Fixed.codec g.V.Fixed.codec i.shape i.frames c.args.address e c.bytes.result.now h (rw c.page_of-page.ensures at c.bytes.ensures.value) in
    record {
      stands = h.stands;
      first = place_low i.shape.page_bits i.shape.record_size i.shape.limits c.args.address h.place;
      sound = h.sound;
      spells = rw (c.part.ensures, page, c.offset_of-offset.ensures.value) h.spells;
    }))
