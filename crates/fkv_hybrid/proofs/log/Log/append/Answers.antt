use Rattle.std.proofs.Common.{◌≡◌, ◌<◌, ◌≤◌, ◌+◌, ◌^◌, ◌∙◌, ◌++◌, ◌∷◌, [], length, true, false, sym, refl, arith}
use Rattle.fkv_records.specs.Places.{page_at}
use Rattle.fkv_texts.specs.declared.entries.Entry.{Entry}
use Rattle.fkv_hybrid.proofs.ByteLemmas.{sound_record, tail_is}
use Rattle.fkv_hybrid.proofs.PageLemmas.{the_text}
use Rattle.fkv_hybrid.proofs.WholeLemmas.{agrees_at}
use Rattle.fkv_hybrid.proofs.PutLemmas.{append_puts, grown, put_waiting, log_at, view_at, held_tail}
use Rattle.fkv_hybrid.proofs.log.Log.append.Goals as goal

pub put_record-requires-clause-held : goal.put_record-requires-clause-held
put_record-requires-clause-held g c = λ some.
    let i = c.self.inside in
    let l = c.self.invariant.pages in
    held_tail i.shape.page_bits i.regions.offsets.closed i.regions.offsets.safe_read_only i.tail i.frames c.page_of-page.result c.offset_of-is_new.result l.ringed l.ordered.closed_frozen l.ordered.frozen_tail
    c.page_of-page.ensures c.offset_of-is_new.ensures.value some

pub invariant_of-self-inside : goal.invariant_of-self-inside
invariant_of-self-inside g c =
    let i = c.self.inside in
    let below : i.tail < 2 ^ 48 = omega arith in
    let offset = c.offset_of-is_new.ensures.value in
    let page = c.page_of-page.ensures in
    let free : c.offset_of-is_new.result ≡ 0 → page_at i.shape.page_bits i.regions.offsets.closed + length i.frames.slots ≤ c.page_of-page.result → ⊥ =
    (λ z more. let yes = c.is_full.ensures.1 (rw (← c.self.view_is) (record { more = below; begins = sym offset ∙ z; taken = rw page at more })) in
    let bad : true ≡ false = sym yes ∙ c.if-is_full.false in cc) in
    let sound = sound_record g.K.Fixed.codec g.V.Fixed.codec i.tail c.args.previous c.args.key c.args.value c.args.delta below (rw (← c.self.view_is) at c.requires.previous) c.put_record.ensures.key c.put_record.ensures.value c.requires.whole in
    let e : Entry g.row.K.Denot g.row.V.Denot = record { address = i.tail; previous = c.args.previous; key = c.args.key; value = c.args.value; delta = c.args.delta } in
    let p = append_puts g.K.Fixed.codec g.V.Fixed.codec g.R.Receipt.keeps i.shape i.begin i.regions.offsets.closed i.regions.offsets.safe_read_only i.tail _ i.frames c.put_record.new.frames _ i.text.0.0 _ _ c.self.invariant.pages page offset free c.put_record.ensures.written in
    let l = grown g.K.Fixed.codec g.V.Fixed.codec g.R.Receipt.keeps i.shape i.begin i.regions.offsets.closed i.regions.offsets.safe_read_only i.tail _ i.frames c.put_record.new.frames _ i.text.0.0 e c.self.invariant.pages below refl p c.put_record.ensures.sized sound c.put_record.ensures.spells in
    let tail = tail_is i.shape.page_bits i.shape.record_size i.tail _ _ c.unwrap_or-self-inside.ensures c.next_place.ensures.value in
    rw tail (the_text g.K.Fixed.codec g.V.Fixed.codec _ _ g.row.K.coded g.row.V.coded _ _ _ l.spelled, tt)

pub invariant_of-self : goal.invariant_of-self
invariant_of-self g c =
    let i = c.self.inside in
    let below : i.tail < 2 ^ 48 = omega arith in
    let offset = c.offset_of-is_new.ensures.value in
    let page = c.page_of-page.ensures in
    let free : c.offset_of-is_new.result ≡ 0 → page_at i.shape.page_bits i.regions.offsets.closed + length i.frames.slots ≤ c.page_of-page.result → ⊥ =
    (λ z more. let yes = c.is_full.ensures.1 (rw (← c.self.view_is) (record { more = below; begins = sym offset ∙ z; taken = rw page at more })) in
    let bad : true ≡ false = sym yes ∙ c.if-is_full.false in cc) in
    let sound = sound_record g.K.Fixed.codec g.V.Fixed.codec i.tail c.args.previous c.args.key c.args.value c.args.delta below (rw (← c.self.view_is) at c.requires.previous) c.put_record.ensures.key c.put_record.ensures.value c.requires.whole in
    let e : Entry g.row.K.Denot g.row.V.Denot = record { address = i.tail; previous = c.args.previous; key = c.args.key; value = c.args.value; delta = c.args.delta } in
    let p = append_puts g.K.Fixed.codec g.V.Fixed.codec g.R.Receipt.keeps i.shape i.begin i.regions.offsets.closed i.regions.offsets.safe_read_only i.tail _ i.frames c.put_record.new.frames _ i.text.0.0 _ _ c.self.invariant.pages page offset free c.put_record.ensures.written in
    let l = grown g.K.Fixed.codec g.V.Fixed.codec g.R.Receipt.keeps i.shape i.begin i.regions.offsets.closed i.regions.offsets.safe_read_only i.tail _ i.frames c.put_record.new.frames _ i.text.0.0 e c.self.invariant.pages below refl p c.put_record.ensures.sized sound c.put_record.ensures.spells in
    let tail = tail_is i.shape.page_bits i.shape.record_size i.tail _ _ c.unwrap_or-self-inside.ensures c.next_place.ensures.value in
    record {
      pages = log_at g.K.Fixed.codec g.V.Fixed.codec g.R.Receipt.keeps i.shape i.begin i.regions.offsets.closed i.regions.offsets.safe_read_only _ _ _ c.put_record.new.frames c.self-1.given.0 (i.text.0.0 ++ e ∷ []) tail l;
      agrees = agrees_at i.shape.page_bits i.begin i.shape.record_size i.tail _ _ i.regions i.shape.limits (c.self.invariant.pages.ordered.tail_place below) tail c.self.invariant.agrees;
    }

pub returns-clause-appended : goal.returns-clause-appended
returns-clause-appended g c =
    let i = c.self.inside in
    let below : i.tail < 2 ^ 48 = omega arith in
    let offset = c.offset_of-is_new.ensures.value in
    let page = c.page_of-page.ensures in
    let free : c.offset_of-is_new.result ≡ 0 → page_at i.shape.page_bits i.regions.offsets.closed + length i.frames.slots ≤ c.page_of-page.result → ⊥ =
    (λ z more. let yes = c.is_full.ensures.1 (rw (← c.self.view_is) (record { more = below; begins = sym offset ∙ z; taken = rw page at more })) in
    let bad : true ≡ false = sym yes ∙ c.if-is_full.false in cc) in
    let sound = sound_record g.K.Fixed.codec g.V.Fixed.codec i.tail c.args.previous c.args.key c.args.value c.args.delta below (rw (← c.self.view_is) at c.requires.previous) c.put_record.ensures.key c.put_record.ensures.value c.requires.whole in
    let e : Entry g.row.K.Denot g.row.V.Denot = record { address = i.tail; previous = c.args.previous; key = c.args.key; value = c.args.value; delta = c.args.delta } in
    let p = append_puts g.K.Fixed.codec g.V.Fixed.codec g.R.Receipt.keeps i.shape i.begin i.regions.offsets.closed i.regions.offsets.safe_read_only i.tail _ i.frames c.put_record.new.frames _ i.text.0.0 _ _ c.self.invariant.pages page offset free c.put_record.ensures.written in
    let l = grown g.K.Fixed.codec g.V.Fixed.codec g.R.Receipt.keeps i.shape i.begin i.regions.offsets.closed i.regions.offsets.safe_read_only i.tail _ i.frames c.put_record.new.frames _ i.text.0.0 e c.self.invariant.pages below refl p c.put_record.ensures.sized sound c.put_record.ensures.spells in
    let tail = tail_is i.shape.page_bits i.shape.record_size i.tail _ _ c.unwrap_or-self-inside.ensures c.next_place.ensures.value in
    let waits = put_waiting g.K.Fixed.codec g.V.Fixed.codec g.R.Receipt.keeps i.shape i.begin i.regions.offsets.closed i.regions.offsets.safe_read_only i.tail _ i.frames c.put_record.new.frames _ i.text.0.0 i.tail c.self.invariant.pages c.self.invariant.pages.ordered.frozen_tail p in
    rw (← c.self.view_is) (view_at g.K.Fixed.codec g.V.Fixed.codec g.R.Receipt.keeps i.shape i.begin i.regions i.tail _ _ _ i.frames c.put_record.new.frames c.self-1.given.0 i.text.0.0 e refl
    c.self.invariant.pages.size tail p.count_same waits l)
