-- Entries that get another value, or become tombstones, where they stand.
use Rattle.std.proofs.Common.{◌≡◌, ◌^◌, ◌≤◌, inl, inr, ℕ, Bool, List, length, Option, Some, IsSome, refl, sym, ◌∙◌, ap, subst, arith}
use Rattle.std.specs.Prelude.{IfSome, IsTrue}
use Rattle.std.proofs.lemmas.Bool.{cases_eq, cases_lt}
use Rattle.fkv_functions.specs.Codecs.{Codec}
use Rattle.fkv_records.specs.Places.{page_at, offset_at}
use Rattle.fkv_records.specs.Records.{size_of, Spells}
use Rattle.fkv_records.specs.declared.records.Record.{Record}
use Rattle.fkv_records.specs.declared.shapes.Shape.{Shape}
use Rattle.fkv_records.proofs.PlaceLemmas.{page_sized}
use Rattle.fkv_device.specs.Standing.{Standing}
use Rattle.fkv_frames.specs.Ring.{Ring}
use Rattle.fkv_frames.specs.Held.{held, Writes}
use Rattle.fkv_texts.specs.declared.entries.Entry.{Entry}
use Rattle.fkv_texts.specs.Text.{entry_at, changed}
use Rattle.fkv_texts.proofs.TextLemmas.{entry_at-in}
use Rattle.fkv_texts.proofs.PlaceLemmas.{after, after-nearest}
use Rattle.fkv_regions.specs.RegionsView.{RegionsView}
use Rattle.fkv_hybrid.specs.Views.{LogView, text_begin, with_value}
use Rattle.fkv_hybrid.specs.Spelled.{record_of, part_of, IsSpelled}
use Rattle.fkv_hybrid.specs.Pages.{page_in, view_as, IsEdited, IsPages}
use Rattle.fkv_hybrid.proofs.ByteLemmas.{written_at}
use Rattle.fkv_hybrid.proofs.FrameLemmas.{page_low, page_rises, put_there, Puts}
use Rattle.fkv_hybrid.proofs.PageLemmas.{text_rises, text_stands, entry_place, some_is}
use Rattle.fkv_texts.proofs.ChangeLemmas.{was_at, set_at-here, set_at-other, laid_out-changed}
use Rattle.fkv_hybrid.proofs.HeldLemmas.{IsHeld, entry_held}
use Rattle.fkv_hybrid.proofs.PutLemmas.{put_flushed, put_spelled, put_sized, put_below, put_above, put_waiting}

module _ {K V : Type 0} {ksize vsize : ℕ} (key : Codec K ksize) (value : Codec V vsize) where
  -- bytes are put into the page of an edited entry
  edited_puts : (keeps : Bool) (shape : Shape) (begin closed frozen tail : ℕ) (receipts : List (Option Standing)) (old new : Ring) (text : List (Entry K V)) (a : ℕ)
      (may : Record K V → Type 0) (v : Option V) (page : List ℕ) → IsPages key value keeps shape begin closed frozen tail receipts old text
      → frozen ≤ a → IsSome (entry_at text a) → held old (page_at shape.page_bits a) ≡ Some page → length page ≡ 2 ^ shape.page_bits
      → (r : IsEdited key value may v old.bits a old new page)
      → Puts shape.page_bits (page_at shape.page_bits closed) tail (page_at shape.page_bits a) (offset_at shape.page_bits a) r.bytes old new
  edited_puts keeps shape begin closed frozen tail receipts old new text a may v page log open_here some here page_sized r =
      let bits = shape.page_bits in
      let o = log.ordered in
      let st = entry_place key value keeps shape begin closed frozen tail receipts old text a log some in
      let above = st.high in
      let eight = shape.limits.some in
      let behind = o.closed_frozen in
      let into = page_rises bits closed a (omega arith) in
      let begun = page_low bits a in
      let room = log.ringed.room (page_at bits a) (omega arith) in
      let written : Writes (page_at bits a) (offset_at bits a) r.bytes old new =
      subst (λ (b : ℕ). Writes (page_at b a) (offset_at b a) r.bytes old new) log.ringed.bits_same r.written in
      put_there bits (page_at bits closed) tail (page_at bits a) (offset_at bits a) r.bytes old new (record { page = page; here = here; sized = page_sized }) into room written

  -- the entry at an address has another value, or is a tombstone, where its record may be edited so
  pub edited : (keeps : Bool) (shape : Shape) (begin closed frozen tail : ℕ) (receipts : List (Option Standing)) (old new : Ring) (text : List (Entry K V)) (a : ℕ)
      (may : Record K V → Type 0) (v : Option V) (own : Entry K V) (page : List ℕ)
      → IsPages key value keeps shape begin closed frozen tail receipts old text
      → frozen ≤ a → entry_at text a ≡ Some own → may (record_of own) → IfSome v value.is_known → (IsTrue own.delta → IsSome v) → held old (page_at shape.page_bits a) ≡ Some page → length page ≡ 2 ^ shape.page_bits
      → IsEdited key value may v old.bits a old new page
      → IsPages key value keeps shape begin closed frozen tail receipts new (changed text a v)
  edited keeps shape begin closed frozen tail receipts old new text a may v own page log open_here own_is allowed facts whole here page_sized r =
      let bits = shape.page_bits in
      let size = shape.record_size in
      let o = log.ordered in
      let rise = text_rises key value keeps shape begin closed frozen tail receipts old text log in
      let some : IsSome (entry_at text a) = rw own_is refl in
      let st = entry_place key value keeps shape begin closed frozen tail receipts old text a log some in
      let above = st.high in
      let eight = shape.limits.some in
      let behind = o.closed_frozen in
      let low : closed ≤ a = omega arith in
      let sized : length r.bytes ≡ size = r.sized ∙ sym log.size in
      let p = edited_puts keeps shape begin closed frozen tail receipts old new text a may v page log open_here some here page_sized r in
      record {
        size = log.size;
        spelled = record {
          laid_out = laid_out-changed a v bits (size_of ksize vsize) (text_begin keeps begin closed) tail text log.spelled.laid_out;
          spelled = λ i d g.
              let was = was_at a v text i d g in
              let t = log.spelled.spelled i was.entry was.here in
              let there = text_stands key value keeps shape begin closed frozen tail receipts old text log i was.entry was.here in
              subst (λ (x : Entry K V). IsSpelled key value bits (page_in (page_at bits closed) receipts new) x) was.is
              (elim (cases_eq was.entry.address a) [
                | inl same ↦
                    (let is : entry_at text a ≡ Some was.entry = entry_at-in text rise was.entry (record { place = i; here = was.here }) a same in
                    let one : was.entry ≡ own = (let both : Some was.entry ≡ Some own = sym is ∙ own_is in cc) in
                    let ok : may (record_of was.entry) = subst (λ (x : Entry K V). may (record_of x)) (sym one) allowed in
                    let h = entry_held key value keeps shape begin closed frozen tail receipts old text a was.entry log low is in
                    let page_same : h.page ≡ page = (let both : Some h.page ≡ Some page = sym h.here ∙ here in cc) in
                    let spells : Spells key value (part_of page (offset_at bits a) (size_of ksize vsize)) (record_of was.entry) =
                    subst (λ (q : List ℕ). Spells key value (part_of q (offset_at bits a) (size_of ksize vsize)) (record_of was.entry)) page_same
                    (subst (λ (n : ℕ). Spells key value (part_of h.page (offset_at bits a) n) (record_of was.entry)) log.size h.spells) in
                    let bits_part : Spells key value (part_of page (offset_at old.bits a) (size_of ksize vsize)) (record_of was.entry) =
                    subst (λ (b : ℕ). Spells key value (part_of page (offset_at b a) (size_of ksize vsize)) (record_of was.entry)) (sym log.ringed.bits_same) spells in
                    rw (set_at-here a v was.entry same) (put_spelled key value keeps shape begin closed frozen tail receipts old new r.bytes text a log st.place open_here p sized (record was.entry { value = v }) same
                    (record { previous = h.sound.previous; fits = h.sound.fits; key_known = h.sound.key_known; value_known = facts; whole = subst (λ (x : Entry K V). IsTrue x.delta → IsSome v) (sym one) whole }) (r.spells (record_of was.entry) ok bits_part)))
                | inr ne ↦
                    (rw (set_at-other a v was.entry ne) (elim (cases_lt was.entry.address a) [
                      | inl less ↦
                          (let near = after-nearest bits size shape.limits was.entry.address a there.place st.place less in
                          let next = after bits size shape.limits was.entry.address there.place in
                          let next_behind = next.behind in
                          put_below key value keeps shape begin closed frozen tail receipts old new r.bytes text a log st.place open_here p sized was.entry there (omega arith) t)
                      | inr more ↦
                          (let near = after-nearest bits size shape.limits a was.entry.address st.place there.place (omega arith) in
                          let next = after bits size shape.limits a st.place in
                          let next_behind = next.behind in
                          put_above key value keeps shape begin closed frozen tail receipts old new r.bytes text a log st.place open_here p sized was.entry there (omega arith) t)
                    ]))
              ]);
        };
        ordered = o;
        ringed = record {
          bits_same = p.bits_same ∙ log.ringed.bits_same;
          there = λ n first_low k. elim (cases_eq n (page_at bits a)) [
            | inl same ↦ record {
              page = written_at p.page (offset_at bits a) r.bytes;
              here = ap (λ (m : ℕ). held new m) same ∙ p.is;
              sized = put_sized key value keeps shape begin closed frozen tail receipts old new r.bytes text a log st.place open_here p sized;
            }
            | inr ne ↦
                (let was = log.ringed.there n first_low k in
                record { page = was.page; here = p.others n ne first_low (log.ringed.room n k) ∙ was.here; sized = was.sized })
          ];
          room = λ n k. rw p.count_same (log.ringed.room n k);
        };
        flushed = put_flushed key value keeps shape begin closed frozen tail receipts old new r.bytes text a log st.place open_here p sized;
      }

  -- the same by what is found in the frames, and what a contract sees then
  pub edited_by : (keeps : Bool) (shape : Shape) (begin : ℕ) (regions : RegionsView) (tail : ℕ) (receipts : List (Option Standing)) (old new : Ring) (text : List (Entry K V)) (a : ℕ)
      (may : Record K V → Type 0) (v : Option V) (own : Entry K V) (page : List ℕ)
      → IsPages key value keeps shape begin regions.offsets.closed regions.offsets.safe_read_only tail receipts old text
      → regions.offsets.safe_read_only ≤ a → entry_at text a ≡ Some own → may (record_of own) → IfSome v value.is_known → (IsTrue own.delta → IsSome v) → held old (page_at shape.page_bits a) ≡ Some page → length page ≡ 2 ^ shape.page_bits
      → IfSome (held old (page_at old.bits a)) (IsEdited key value may v old.bits a old new)
      → IsPages key value keeps shape begin regions.offsets.closed regions.offsets.safe_read_only tail receipts new (changed text a v)
      × (view_as keeps shape begin regions tail receipts new (changed text a v) ≡ with_value (view_as keeps shape begin regions tail receipts old text) a v)
  edited_by keeps shape begin regions tail receipts old new text a may v own page log open_here own_is allowed facts whole here sized w =
      let there : held old (page_at old.bits a) ≡ Some page = ap (λ (b : ℕ). held old (page_at b a)) log.ringed.bits_same ∙ here in
      let r : IsEdited key value may v old.bits a old new page =
      subst (λ (o : Option (List ℕ)). IfSome o (IsEdited key value may v old.bits a old new)) there w in
      let p = edited_puts keeps shape begin regions.offsets.closed regions.offsets.safe_read_only tail receipts old new text a may v page log open_here (rw own_is refl) here sized r in
      let waits = put_waiting key value keeps shape begin regions.offsets.closed regions.offsets.safe_read_only tail receipts old new r.bytes text a log open_here p in (
        edited keeps shape begin regions.offsets.closed regions.offsets.safe_read_only tail receipts old new text a may v own page log open_here own_is allowed facts whole here sized r,
        λ j. record {
          bits = shape.page_bits;
          frames = p.count_same j;
          begin = begin;
          from = text_begin keeps begin regions.offsets.closed;
          tail = tail;
          regions = regions;
          receipts = receipts;
          waiting = waits j;
          text = changed text a v;
        },
      )

  -- an entry that may be edited, and where its bytes are
  pub record IsMutable (shape : Shape) (ring : Ring) (text : List (Entry K V)) (a : ℕ) : Type 0 where
    pub entry : Entry K V
    pub is : entry_at text a ≡ Some entry
    pub here : IsHeld key value shape ring a entry

  -- the same two by what a contract asks
  pub mutable : (keeps : Bool) (shape : Shape) (begin : ℕ) (regions : RegionsView) (tail : ℕ) (receipts : List (Option Standing)) (ring : Ring) (text : List (Entry K V)) (a : ℕ) (seen : LogView K V)
      → view_as keeps shape begin regions tail receipts ring text ≡ seen → IsPages key value keeps shape begin regions.offsets.closed regions.offsets.safe_read_only tail receipts ring text
      → IsSome (entry_at seen.text a) → seen.regions.offsets.safe_read_only ≤ a → IsMutable shape ring text a
  mutable keeps shape begin regions tail receipts ring text a seen is log there high =
      let f = some_is (entry_at text a) (rw (← is) at there) in
      let low = rw (← is) at high in
      let behind = log.ordered.closed_frozen in
      record { entry = f.0; is = f.1; here = entry_held key value keeps shape begin regions.offsets.closed regions.offsets.safe_read_only tail receipts ring text a f.0 log (omega arith) f.1 }

  pub edited_seen : (keeps : Bool) (shape : Shape) (begin : ℕ) (regions : RegionsView) (tail : ℕ) (receipts : List (Option Standing)) (old new : Ring) (text : List (Entry K V)) (a : ℕ)
      (may : Record K V → Type 0) (v : Option V) (seen : LogView K V) → view_as keeps shape begin regions tail receipts old text ≡ seen
      → IsPages key value keeps shape begin regions.offsets.closed regions.offsets.safe_read_only tail receipts old text → seen.regions.offsets.safe_read_only ≤ a → (m : IsMutable shape old text a) → may (record_of m.entry)
      → IfSome v value.is_known → (IsTrue m.entry.delta → IsSome v) → IfSome (held old (page_at old.bits a)) (IsEdited key value may v old.bits a old new)
      → IsPages key value keeps shape begin regions.offsets.closed regions.offsets.safe_read_only tail receipts new (changed text a v)
      × (view_as keeps shape begin regions tail receipts new (changed text a v) ≡ with_value seen a v)
  edited_seen keeps shape begin regions tail receipts old new text a may v seen is log high m allowed facts whole w =
      let l = edited_by keeps shape begin regions tail receipts old new text a may v m.entry m.here.page log (rw (← is) at high) m.is allowed facts whole m.here.here m.here.sized w in
      (l.0, l.1 ∙ ap (λ (p : LogView K V). with_value p a v) is)
