-- Entries of pages that are not closed.
use Rattle.std.proofs.Common.{◌≡◌, ◌+◌, ◌^◌, ◌≤◌, ℕ, Bool, List, length, Option, Some, refl, sym, ◌∙◌, ap, subst, arith}
use Rattle.fkv_functions.specs.Codecs.{Codec}
use Rattle.fkv_records.specs.Places.{page_at, offset_at, IsRecordStart}
use Rattle.fkv_records.specs.Records.{size_of, IsRecord, Spells}
use Rattle.fkv_records.specs.declared.shapes.Shape.{Shape}
use Rattle.fkv_records.proofs.PlaceLemmas.{place_room}
use Rattle.fkv_device.specs.Standing.{Standing}
use Rattle.fkv_frames.specs.Ring.{Ring}
use Rattle.fkv_frames.specs.Held.{held}
use Rattle.fkv_texts.specs.declared.entries.Entry.{Entry}
use Rattle.fkv_texts.specs.Text.{entry_at}
use Rattle.fkv_texts.proofs.PlaceLemmas.{entry_found, entry_stands}
use Rattle.fkv_hybrid.specs.Views.{text_begin}
use Rattle.fkv_hybrid.specs.Spelled.{record_of, part_of}
use Rattle.fkv_hybrid.specs.Pages.{page_in, IsPages}
use Rattle.fkv_hybrid.proofs.FrameLemmas.{page_low, page_rises, page_in-high}
use Rattle.fkv_hybrid.proofs.PageLemmas.{begin_place}

module _ {K V : Type 0} {ksize vsize : ℕ} (key : Codec K ksize) (value : Codec V vsize) where
  -- ---- an entry of a page that is not closed
  pub record IsHeld (shape : Shape) (ring : Ring) (a : ℕ) (e : Entry K V) : Type 0 where
    pub page : List ℕ
    pub here : held ring (page_at shape.page_bits a) ≡ Some page
    pub sized : length page ≡ 2 ^ shape.page_bits
    pub room : offset_at shape.page_bits a + shape.record_size ≤ length page
    pub stands : e.address ≡ a
    pub place : IsRecordStart shape.page_bits shape.record_size a
    pub below : a + shape.record_size ≤ 2 ^ 48
    pub sound : IsRecord key value a (record_of e)
    pub spells : Spells key value (part_of page (offset_at shape.page_bits a) shape.record_size) (record_of e)

  pub entry_held : (keeps : Bool) (shape : Shape) (begin closed frozen tail : ℕ) (receipts : List (Option Standing)) (ring : Ring) (text : List (Entry K V)) (a : ℕ) (e : Entry K V)
      → IsPages key value keeps shape begin closed frozen tail receipts ring text → closed ≤ a → entry_at text a ≡ Some e → IsHeld shape ring a e
  entry_held keeps shape begin closed frozen tail receipts ring text a e log open_here is =
      let bits = shape.page_bits in
      let o = log.ordered in
      let found = entry_found bits shape.record_size shape.limits text a e is in
      let t = log.spelled.spelled found.0.place e found.0.here in
      let stands = entry_stands bits shape.record_size shape.limits (text_begin keeps begin closed) tail a text (begin_place bits shape.record_size begin closed o.begin_place o.closed_place keeps) o.most
      (rw (← log.size) at log.spelled.laid_out) (rw is refl) in
      let there : page_in (page_at bits closed) receipts ring (page_at bits a) ≡ Some t.page = ap (λ (b : ℕ). page_in (page_at bits closed) receipts ring (page_at bits b)) (sym found.1) ∙ t.here in
      let low = page_rises bits closed a open_here in
      let begun = page_low bits a in
      let high = stands.high in
      let some = shape.limits.some in
      let p = log.ringed.there (page_at bits a) low (omega arith) in
      let same : t.page ≡ p.page = (let both : Some t.page ≡ Some p.page = sym there ∙ page_in-high (page_at bits closed) (page_at bits a) receipts ring low ∙ p.here in cc) in
      let fits = place_room bits shape.record_size shape.limits a stands.place in
      let part : part_of t.page (offset_at bits e.address) (size_of ksize vsize) ≡ part_of p.page (offset_at bits a) shape.record_size =
      ap (λ (b : ℕ). part_of t.page (offset_at bits b) (size_of ksize vsize)) found.1
      ∙ ap (λ (n : ℕ). part_of t.page (offset_at bits a) n) (sym log.size)
      ∙ ap (λ (q : List ℕ). part_of q (offset_at bits a) shape.record_size) same in
      record {
        page = p.page;
        here = p.here;
        sized = p.sized;
        room = rw p.sized fits;
        stands = found.1;
        place = stands.place;
        below = (let m = o.most in omega arith);
        sound = subst (λ (b : ℕ). IsRecord key value b (record_of e)) found.1 t.sound;
        spells = subst (λ (b : List ℕ). Spells key value b (record_of e)) part t.spells;
      }

  -- what is found in a frame is the page of the entry
  pub held_page : (shape : Shape) (ring : Ring) (a : ℕ) (e : Entry K V) (bytes : List ℕ) → (h : IsHeld shape ring a e) → held ring (page_at shape.page_bits a) ≡ Some bytes → bytes ≡ h.page
  held_page shape ring a e bytes h there = let both : Some bytes ≡ Some h.page = sym there ∙ h.here in cc
