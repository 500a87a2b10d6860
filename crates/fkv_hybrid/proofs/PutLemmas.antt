-- Bytes put into a page: an entry more, and what stays.
use Rattle.std.proofs.Common.{◌≡◌, ◌≢◌, ◌+◌, ◌-◌, ◌*◌, ◌/◌, ◌^◌, ◌<◌, ◌≤◌, ◌==◌, inl, inr, ℕ, Bool, true, false, List, [], ◌∷◌, ◌++◌, length, Option, Some, IsSome, refl, sym, ◌∙◌, ap, subst, arith}
use Rattle.std.proofs.lemmas.Bool.{cases_eq, cases_lt, eqb-true, eq-eqb}
use Rattle.std.proofs.lemmas.Nat.{div-add-mod', pow_pos}
use Rattle.fkv_functions.specs.Codecs.{Codec}
use Rattle.fkv_records.specs.Places.{page_at, offset_at, start_at, IsRecordStart}
use Rattle.fkv_records.specs.Records.{size_of, IsRecord, Spells}
use Rattle.fkv_records.specs.declared.shapes.Shape.{Shape}
use Rattle.fkv_records.proofs.PlaceLemmas.{place_room, next_start}
use Rattle.fkv_device.specs.Standing.{Standing}
use Rattle.fkv_frames.specs.Ring.{Ring}
use Rattle.fkv_frames.specs.Held.{held}
use Rattle.fkv_texts.specs.declared.entries.Entry.{Entry}
use Rattle.fkv_texts.specs.Places.{tail_after, IsLaidOut}
use Rattle.fkv_functions.proofs.ListLemmas.{get-append_cases}
use Rattle.fkv_texts.proofs.PlaceLemmas.{Stands, after, stands, laid_out-append}
use Rattle.fkv_regions.specs.RegionsView.{RegionsView}
use Rattle.fkv_hybrid.specs.Views.{text_begin, with_entry}
use Rattle.fkv_hybrid.specs.Spelled.{record_of, part_of, TheOne, IsSpelled, IsTextOf}
use Rattle.fkv_hybrid.specs.Pages.{page_in, pages_from, view_as, OpensAndWrites, IsRinged, IsFlushed, IsPages}
use Rattle.fkv_hybrid.proofs.ByteLemmas.{written_at, written-length, written-here, written-below, written-above}
use Rattle.fkv_hybrid.proofs.FrameLemmas.{page_high, page_low, page_rises, start_rises, tail_in, tail_begins, tail_inside, put_at, page_in-high, page_in-same, Puts, pages_from-same}
use Rattle.fkv_hybrid.proofs.PageLemmas.{begin_place, text_is, log_of}
use Rattle.fkv_hybrid.proofs.ReceiptLemmas.{receipt-within}

module _ {K V : Type 0} {ksize vsize : ℕ} (key : Codec K ksize) (value : Codec V vsize) where
  -- ---- bytes are put into the page of an address
  module _ (keeps : Bool) (shape : Shape) (begin closed frozen tail : ℕ) (receipts : List (Option Standing)) (old new : Ring) (bytes : List ℕ) (text : List (Entry K V)) (a : ℕ)
      (log : IsPages key value keeps shape begin closed frozen tail receipts old text) (place : IsRecordStart shape.page_bits shape.record_size a)
      (frozen_below : frozen ≤ a)
      (puts : Puts shape.page_bits (page_at shape.page_bits closed) tail (page_at shape.page_bits a) (offset_at shape.page_bits a) bytes old new)
      (sized : length bytes ≡ shape.record_size) where
    pub put_room : offset_at shape.page_bits a + length bytes ≤ length puts.page
    put_room = let fits = place_room shape.page_bits shape.record_size shape.limits a place in omega (arith, fits, sized, puts.sized)

    pub put_sized : length (written_at puts.page (offset_at shape.page_bits a) bytes) ≡ 2 ^ shape.page_bits
    put_sized = written-length puts.page bytes (offset_at shape.page_bits a) put_room ∙ puts.sized

    -- the receipts are of other pages
    pub put_flushed : IsFlushed keeps shape.page_bits begin closed receipts new
    put_flushed = record {
      gone = log.flushed.gone;
      there = log.flushed.there;
      own = log.flushed.own;
      sized = log.flushed.sized;
      kept = λ h n s low g.
          let bits = shape.page_bits in
          let count = receipt-within receipts n (rw g refl) in
          let high = log.ordered.flushed_high in
          let up = start_rises bits (n + 1) (length receipts) (omega arith) in
          let next = page_high bits (n + 1) a (omega (arith, up, high)) in
          let more = next_start n (2 ^ bits) in
          let pos = pow_pos bits in
          let tailed = log.ordered.frozen_tail in
          let room = log.ringed.room n (omega (arith, up, high, more, pos, tailed)) in
          puts.others n (λ e. (omega (arith, next, e))) low room ∙ log.flushed.kept h n s low g;
    }

    -- the page of another entry, or of another place of the page
    pub put_page : (m : ℕ) → m ≢ page_at shape.page_bits a → m < page_at shape.page_bits closed + length old.slots
        → page_in (page_at shape.page_bits closed) receipts new m ≡ page_in (page_at shape.page_bits closed) receipts old m
    put_page m ne high = page_in-same (page_at shape.page_bits closed) m receipts old new (λ low. puts.others m ne low high)

    pub put_here : page_in (page_at shape.page_bits closed) receipts new (page_at shape.page_bits a) ≡ Some (written_at puts.page (offset_at shape.page_bits a) bytes)
    put_here = page_in-high (page_at shape.page_bits closed) (page_at shape.page_bits a) receipts new puts.low ∙ puts.is

    -- an entry there is spelled where its bytes were put
    pub put_spelled : (e : Entry K V) → e.address ≡ a → IsRecord key value a (record_of e) → Spells key value bytes (record_of e)
        → IsSpelled key value shape.page_bits (page_in (page_at shape.page_bits closed) receipts new) e
    put_spelled e at sound spells =
        let bits = shape.page_bits in
        let page = written_at puts.page (offset_at bits a) bytes in
        let part : part_of page (offset_at bits e.address) (size_of ksize vsize) ≡ bytes =
        ap (λ (x : ℕ). part_of page (offset_at bits x) (size_of ksize vsize)) at
        ∙ ap (λ (n : ℕ). part_of page (offset_at bits a) n) (sym (sized ∙ log.size))
        ∙ written-here puts.page bytes (offset_at bits a) put_room in
        record {
          page = page;
          here = ap (λ (x : ℕ). page_in (page_at bits closed) receipts new (page_at bits x)) at ∙ put_here;
          sound = subst (λ (x : ℕ). IsRecord key value x (record_of e)) (sym at) sound;
          spells = subst (λ (b : List ℕ). Spells key value b (record_of e)) (sym part) spells;
        }

    -- and one that ends below it stays spelled
    pub put_below : (d : Entry K V) → Stands shape.page_bits shape.record_size shape.limits (text_begin keeps begin closed) tail d.address → d.address + shape.record_size ≤ a
        → IsSpelled key value shape.page_bits (page_in (page_at shape.page_bits closed) receipts old) d
        → IsSpelled key value shape.page_bits (page_in (page_at shape.page_bits closed) receipts new) d
    put_below d there low s =
        let bits = shape.page_bits in
        let begun = page_low bits d.address in
        let some = shape.limits.some in
        let before = there.high in
        let window = log.ringed.room (page_at bits d.address) (omega arith) in
        elim (cases_eq (page_at bits d.address) (page_at bits a)) [
          | inl same ↦
              (let was : page_in (page_at bits closed) receipts old (page_at bits d.address) ≡ Some puts.page =
              ap (λ (n : ℕ). page_in (page_at bits closed) receipts old n) same
              ∙ page_in-high (page_at bits closed) (page_at bits a) receipts old puts.low ∙ puts.was (rw (← same) (omega arith)) in
              let page_same : puts.page ≡ s.page = (let both : Some puts.page ≡ Some s.page = sym was ∙ s.here in cc) in
              let bases : d.address / 2 ^ bits * 2 ^ bits ≡ a / 2 ^ bits * 2 ^ bits = ap (λ (n : ℕ). n * 2 ^ bits) same in
              let under : offset_at bits d.address + size_of ksize vsize ≤ offset_at bits a =
              omega (arith, bases, div-add-mod' d.address (2 ^ bits), div-add-mod' a (2 ^ bits), low, log.size) in
              record {
                page = written_at puts.page (offset_at bits a) bytes;
                here = ap (λ (n : ℕ). page_in (page_at bits closed) receipts new n) same ∙ put_here;
                sound = s.sound;
                spells = subst (λ (b : List ℕ). Spells key value b (record_of d))
                    (sym (written-below puts.page bytes (offset_at bits a) put_room (offset_at bits d.address) (size_of ksize vsize) under
                    ∙ ap (λ (q : List ℕ). part_of q (offset_at bits d.address) (size_of ksize vsize)) page_same)) s.spells;
              })
          | inr ne ↦ record { page = s.page; here = put_page (page_at bits d.address) ne window ∙ s.here; sound = s.sound; spells = s.spells }
        ]

  -- and so does one that stands behind it
  pub put_above : (keeps : Bool) (shape : Shape) (begin closed frozen tail : ℕ) (receipts : List (Option Standing)) (old new : Ring) (bytes : List ℕ) (text : List (Entry K V)) (a : ℕ)
      (log : IsPages key value keeps shape begin closed frozen tail receipts old text) (place : IsRecordStart shape.page_bits shape.record_size a)
      (frozen_below : frozen ≤ a)
      (puts : Puts shape.page_bits (page_at shape.page_bits closed) tail (page_at shape.page_bits a) (offset_at shape.page_bits a) bytes old new)
      (sized : length bytes ≡ shape.record_size)
      (d : Entry K V) → Stands shape.page_bits shape.record_size shape.limits (text_begin keeps begin closed) tail d.address → a + shape.record_size ≤ d.address
      → IsSpelled key value shape.page_bits (page_in (page_at shape.page_bits closed) receipts old) d
      → IsSpelled key value shape.page_bits (page_in (page_at shape.page_bits closed) receipts new) d
  put_above keeps shape begin closed frozen tail receipts old new bytes text a log place frozen_below puts sized d there high s =
      let bits = shape.page_bits in
      let begun = page_low bits d.address in
      let some = shape.limits.some in
      let before = there.high in
      let window = log.ringed.room (page_at bits d.address) (omega arith) in
      elim (cases_eq (page_at bits d.address) (page_at bits a)) [
        | inl same ↦
            (let was : page_in (page_at bits closed) receipts old (page_at bits d.address) ≡ Some puts.page =
            ap (λ (n : ℕ). page_in (page_at bits closed) receipts old n) same
            ∙ page_in-high (page_at bits closed) (page_at bits a) receipts old puts.low ∙ puts.was (rw (← same) (omega arith)) in
            let page_same : puts.page ≡ s.page = (let both : Some puts.page ≡ Some s.page = sym was ∙ s.here in cc) in
            let bases : d.address / 2 ^ bits * 2 ^ bits ≡ a / 2 ^ bits * 2 ^ bits = ap (λ (n : ℕ). n * 2 ^ bits) same in
            let over : offset_at bits a + length bytes ≤ offset_at bits d.address =
            omega (arith, bases, div-add-mod' d.address (2 ^ bits), div-add-mod' a (2 ^ bits), high, sized) in
            record {
              page = written_at puts.page (offset_at bits a) bytes;
              here = ap (λ (n : ℕ). page_in (page_at bits closed) receipts new n) same
                  ∙ put_here keeps shape begin closed frozen tail receipts old new bytes text a log place frozen_below puts sized;
              sound = s.sound;
              spells = subst (λ (b : List ℕ). Spells key value b (record_of d))
                  (sym (written-above puts.page bytes (offset_at bits a) (offset_at bits d.address) (size_of ksize vsize)
                  (put_room keeps shape begin closed frozen tail receipts old new bytes text a log place frozen_below puts sized) over
                  ∙ ap (λ (q : List ℕ). part_of q (offset_at bits d.address) (size_of ksize vsize)) page_same)) s.spells;
            })
        | inr ne ↦ record {
          page = s.page;
          here = put_page keeps shape begin closed frozen tail receipts old new bytes text a log place frozen_below puts sized (page_at bits d.address) ne window ∙ s.here;
          sound = s.sound;
          spells = s.spells;
        }
      ]

  -- ---- one more entry
  pub grown : (keeps : Bool) (shape : Shape) (begin closed frozen tail : ℕ) (receipts : List (Option Standing)) (old new : Ring) (bytes : List ℕ) (text : List (Entry K V)) (e : Entry K V)
      → IsPages key value keeps shape begin closed frozen tail receipts old text → tail < 2 ^ 48 → e.address ≡ tail
      → Puts shape.page_bits (page_at shape.page_bits closed) tail (page_at shape.page_bits tail) (offset_at shape.page_bits tail) bytes old new
      → length bytes ≡ shape.record_size → IsRecord key value tail (record_of e) → Spells key value bytes (record_of e)
      → IsPages key value keeps shape begin closed frozen (tail_after shape.page_bits shape.record_size tail) receipts new (text ++ e ∷ [])
  grown keeps shape begin closed frozen tail receipts old new bytes text e log below at puts sized sound spells =
      let bits = shape.page_bits in
      let size = shape.record_size in
      let o = log.ordered in
      let place = o.tail_place below in
      let t = after bits size shape.limits tail place in
      let end = tail_in bits size tail shape.limits place below in
      let laid = rw (← log.size) at log.spelled.laid_out in
      let from_place = begin_place bits size begin closed o.begin_place o.closed_place keeps in
      record {
        size = log.size;
        spelled = record {
          laid_out = subst (λ (n : ℕ). IsLaidOut bits n (text_begin keeps begin closed) (tail_after bits size tail) (text ++ e ∷ [])) log.size
              (laid_out-append bits size shape.limits (text_begin keeps begin closed) tail text e laid at t.above);
          spelled = λ i d g. elim (get-append_cases text e i d g) [
            | inl was ↦
                (let there = stands bits size shape.limits (text_begin keeps begin closed) tail text from_place o.most laid i d was in
                put_below keeps shape begin closed frozen tail receipts old new bytes text tail log place o.frozen_tail puts sized d there there.high (log.spelled.spelled i d was))
            | inr last ↦ subst (λ (x : Entry K V). IsSpelled key value bits (page_in (page_at bits closed) receipts new) x) last.1
                (put_spelled keeps shape begin closed frozen tail receipts old new bytes text tail log place o.frozen_tail puts sized e at sound spells)
          ];
        };
        ordered = record {
          begin_frozen = o.begin_frozen;
          closed_frozen = o.closed_frozen;
          frozen_tail = (let h = o.frozen_tail in let k = t.above in omega arith);
          most = t.most;
          begin_place = o.begin_place;
          closed_place = o.closed_place;
          tail_place = t.place;
          begin_flushed = o.begin_flushed;
          flushed_low = o.flushed_low;
          flushed_high = o.flushed_high;
        };
        ringed = record {
          bits_same = puts.bits_same ∙ log.ringed.bits_same;
          there = λ n low k. elim (cases_eq n (page_at bits tail)) [
            | inl same ↦ record {
              page = written_at puts.page (offset_at bits tail) bytes;
              here = ap (λ (m : ℕ). held new m) same ∙ puts.is;
              sized = put_sized keeps shape begin closed frozen tail receipts old new bytes text tail log place o.frozen_tail puts sized;
            }
            | inr ne ↦
                (let was = begun bits tail n (tail_after bits size tail) end k ne in
                let was_open = log.ringed.there n low was in
                record { page = was_open.page; here = puts.others n ne low (log.ringed.room n was) ∙ was_open.here; sized = was_open.sized })
          ];
          room = λ n k. elim (cases_eq n (page_at bits tail)) [
            | inl same ↦ (let high = puts.high in rw puts.count_same (omega (arith, same, high)))
            | inr ne ↦ rw puts.count_same (log.ringed.room n (begun bits tail n (tail_after bits size tail) end k ne))
          ];
        };
        flushed = put_flushed keeps shape begin closed frozen tail receipts old new bytes text tail log place o.frozen_tail puts sized;
      }
    where
      -- a page that is begun then and is not the tail's was begun before
      begun : (bits tail n b : ℕ) → b ≤ start_at bits (page_at bits tail + 1) → start_at bits n < b → n ≢ page_at bits tail → start_at bits n < tail
      begun bits tail n b end k ne = elim (cases_lt n (page_at bits tail)) [
        | inl less ↦ (let s = start_rises bits (n + 1) (page_at bits tail) (omega arith) in let low = page_low bits tail in let more = next_start n (2 ^ bits) in let pos = pow_pos bits in omega (arith, s, low, more, pos))
        | inr high ↦ (let s = start_rises bits (page_at bits tail + 1) n (omega arith) in absurd (omega (arith, s, end, k)))
      ]

  -- an append puts bytes into the page of the tail: the page is opened where the tail begins it, and there is room then
  pub append_puts : (keeps : Bool) (shape : Shape) (begin closed frozen tail : ℕ) (receipts : List (Option Standing)) (old new : Ring) (bytes : List ℕ) (text : List (Entry K V)) (page offset : ℕ)
      → IsPages key value keeps shape begin closed frozen tail receipts old text
      → page ≡ page_at shape.page_bits tail → offset ≡ offset_at shape.page_bits tail
      → (offset ≡ 0 → page_at shape.page_bits closed + length old.slots ≤ page → ⊥)
      → OpensAndWrites (offset == 0) page (offset_at old.bits tail) bytes old new
      → Puts shape.page_bits (page_at shape.page_bits closed) tail (page_at shape.page_bits tail) (offset_at shape.page_bits tail) bytes old new
  append_puts keeps shape begin closed frozen tail receipts old new bytes text page offset log p q free w =
      let bits = shape.page_bits in
      let o = log.ordered in
      let there : closed ≤ tail = (let a = o.closed_frozen in let b = o.frozen_tail in omega arith) in
      let wrote : OpensAndWrites (offset == 0) (page_at bits tail) (offset_at bits tail) bytes old new =
      subst (λ (b : ℕ). OpensAndWrites (offset == 0) (page_at bits tail) (offset_at b tail) bytes old new) log.ringed.bits_same
      (subst (λ (n : ℕ). OpensAndWrites (offset == 0) n (offset_at old.bits tail) bytes old new) p w) in
      let room : page_at bits tail < page_at bits closed + length old.slots = elim (cases_eq offset 0) [
        | inl new ↦ elim (cases_lt (page_at bits tail) (page_at bits closed + length old.slots)) [
          | inl less ↦ less
          | inr more ↦ absurd (free new (omega (arith, p, more)))
        ]
        | inr old ↦ log.ringed.room (page_at bits tail) (tail_inside bits tail (λ z. old (q ∙ z)))
      ] in
      put_at (offset == 0) bits closed tail (offset_at bits tail) bytes old new log.ringed there
      (λ yes. tail_begins bits tail (sym q ∙ eqb-true offset 0 yes))
      (λ no. tail_inside bits tail (λ z. (let yes : (offset == 0) ≡ true = eq-eqb offset 0 (q ∙ z) in let bad : true ≡ false = sym yes ∙ no in cc)))
      room wrote

  -- what is known where the tail is given by an equation
  pub log_at : (keeps : Bool) (shape : Shape) (begin closed frozen tail at : ℕ) (receipts : List (Option Standing)) (ring : Ring)
      (o : TheOne (λ t. IsTextOf key value shape.page_bits (page_in (page_at shape.page_bits closed) receipts ring) (text_begin keeps begin closed) at t))
      (text : List (Entry K V)) → at ≡ tail → IsPages key value keeps shape begin closed frozen tail receipts ring text
      → IsPages key value keeps shape begin closed frozen at receipts ring (o.0).0
  log_at keeps shape begin closed frozen tail at receipts ring o text e l =
      log_of key value keeps shape begin closed frozen at receipts ring o text
      (subst (λ (n : ℕ). IsPages key value keeps shape begin closed frozen n receipts ring text) (sym e) l)

  -- the pages that wait lie below what bytes are put into
  pub put_waiting : (keeps : Bool) (shape : Shape) (begin closed frozen tail : ℕ) (receipts : List (Option Standing)) (old new : Ring) (bytes : List ℕ) (text : List (Entry K V)) (a : ℕ)
      → IsPages key value keeps shape begin closed frozen tail receipts old text → frozen ≤ a
      → Puts shape.page_bits (page_at shape.page_bits closed) tail (page_at shape.page_bits a) (offset_at shape.page_bits a) bytes old new
      → pages_from new (length receipts) (page_at shape.page_bits frozen - length receipts) ≡ pages_from old (length receipts) (page_at shape.page_bits frozen - length receipts)
  put_waiting keeps shape begin closed frozen tail receipts old new bytes text a log above puts =
      let bits = shape.page_bits in
      let o = log.ordered in
      let from = page_rises bits frozen a above in
      pages_from-same old new (length receipts) (page_at bits frozen - length receipts) (λ m low high.
      let at = o.flushed_low in
      let up = start_rises bits (m + 1) (page_at bits frozen) (omega arith) in
      let down = page_low bits frozen in
      let more = next_start m (2 ^ bits) in
      let pos = pow_pos bits in
      let end = o.frozen_tail in
      puts.others m (λ e. (omega (arith, from, e))) (omega arith) (log.ringed.room m (omega (arith, up, down, more, pos, end))))

  -- what a contract sees once an entry is appended
  pub view_at : (keeps : Bool) (shape : Shape) (begin : ℕ) (regions : RegionsView) (tail at size : ℕ) (receipts : List (Option Standing)) (was ring : Ring)
      (o : TheOne (λ t. IsTextOf key value shape.page_bits (page_in (page_at shape.page_bits regions.offsets.closed) receipts ring) (text_begin keeps begin regions.offsets.closed) at t))
      (old : List (Entry K V)) (e : Entry K V) → e.address ≡ tail → shape.record_size ≡ size → at ≡ tail_after shape.page_bits shape.record_size tail → length ring.slots ≡ length was.slots
      → pages_from ring (length receipts) (page_at shape.page_bits regions.offsets.safe_read_only - length receipts) ≡ pages_from was (length receipts) (page_at shape.page_bits regions.offsets.safe_read_only - length receipts)
      → IsPages key value keeps shape begin regions.offsets.closed regions.offsets.safe_read_only (tail_after shape.page_bits shape.record_size tail) receipts ring (old ++ e ∷ [])
      → view_as keeps shape begin regions at receipts ring (o.0).0 ≡ with_entry size (view_as keeps shape begin regions tail receipts was old) e.previous e.key e.value e.delta
  view_at keeps shape begin regions tail at size receipts was ring o old e here same is count waits l =
      let text = text_is key value shape.page_bits (page_in (page_at shape.page_bits regions.offsets.closed) receipts ring) (text_begin keeps begin regions.offsets.closed) at o (old ++ e ∷ [])
      (subst (λ (n : ℕ). IsTextOf key value shape.page_bits (page_in (page_at shape.page_bits regions.offsets.closed) receipts ring) (text_begin keeps begin regions.offsets.closed) n (old ++ e ∷ [])) (sym is) l.spelled)
      ∙ (λ j. old ++ record { address = here j; previous = e.previous; key = e.key; value = e.value; delta = e.delta } ∷ []) in
      let tail_same : at ≡ tail_after shape.page_bits size tail = is ∙ ap (λ (n : ℕ). tail_after shape.page_bits n tail) same in
      λ j. record {
        bits = shape.page_bits;
        frames = count j;
        begin = begin;
        from = text_begin keeps begin regions.offsets.closed;
        tail = tail_same j;
        regions = regions;
        receipts = receipts;
        waiting = waits j;
        text = text j;
      }

-- the tail's page is in its frame where the tail does not begin it
pub held_tail : (bits closed frozen tail : ℕ) (ring : Ring) (page offset : ℕ) → IsRinged bits closed tail ring → closed ≤ frozen → frozen ≤ tail → page ≡ page_at bits tail → offset ≡ offset_at bits tail
    → (offset == 0) ≡ false → IsSome (held ring page)
held_tail bits closed frozen tail ring page offset r a b p q some =
    let there = r.there (page_at bits tail) (page_rises bits closed tail (omega arith))
    (tail_inside bits tail (λ z. (let yes : (offset == 0) ≡ true = eq-eqb offset 0 (q ∙ z) in let bad : true ≡ false = sym yes ∙ some in cc))) in
    rw (p, there.here) refl
