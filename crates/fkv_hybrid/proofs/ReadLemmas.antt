-- Entries of a loaded page, and chains in it.
use Rattle.std.proofs.Common.{◌≡◌, ◌<◌, ◌≤◌, ◌==◌, inl, inr, ℕ, Bool, true, false, List, Option, Some, None, is_none, refl, sym, ◌∙◌, ap, subst, arith}
use Rattle.std.specs.Prelude.{IsTrue, IsSome, Result, Ok, Err}
use Rattle.std.proofs.lemmas.Bool.{cases_lt, ne_eqb}
use Rattle.fkv_functions.specs.Codecs.{Codec}
use Rattle.fkv_records.specs.Places.{IsShape, page_at, offset_at, start_at, IsRecordStart}
use Rattle.fkv_records.specs.Records.{size_of, IsRecord, Spells}
use Rattle.fkv_records.specs.declared.shapes.Shape.{Shape}
use Rattle.fkv_records.proofs.PlaceLemmas.{place_low}
use Rattle.fkv_device.specs.Standing.{Standing}
use Rattle.fkv_frames.specs.Ring.{Ring}
use Rattle.fkv_texts.specs.declared.entries.Entry.{Entry}
use Rattle.fkv_texts.specs.Text.{has_key, entry_at, IsRising}
use Rattle.fkv_texts.specs.Chains.{IsChainFrom, ends, goes, StandsAt, leads_to, reached}
use Rattle.fkv_texts.proofs.TextLemmas.{entry_at-in}
use Rattle.fkv_texts.proofs.PlaceLemmas.{entry_found, entry_stands}
use Rattle.fkv_hybrid.specs.Views.{text_begin, receipt_at}
use Rattle.fkv_hybrid.specs.Spelled.{record_of, part_of, IsEntryIn}
use Rattle.fkv_hybrid.specs.Pages.{page_in, IsPages}
use Rattle.fkv_hybrid.proofs.FrameLemmas.{page_high, page_rises, page_in-high, page_in-low}
use Rattle.std.specs.List.{find}
use Rattle.std.specs.declared.cmp.Ordering.{Ordering}
use Rattle.fkv_functions.specs.declared.refusals.Refused.{Refused}
use Rattle.fkv_functions.specs.declared.refusals.Refused.TheVariants.{Damaged}
use Rattle.fkv_texts.specs.declared.entries.ChainPosition.{ChainPosition}
use Rattle.fkv_texts.specs.declared.entries.ChainPosition.TheVariants.{Found}
use Rattle.fkv_records.proofs.RecordLemmas.{same_record}
use Rattle.fkv_hybrid.specs.Loads.{IsReached, below, none, found, on, first_place}
use Rattle.fkv_hybrid.proofs.PageLemmas.{begin_place}

module _ {K V : Type 0} {ksize vsize : ℕ} (key : Codec K ksize) (value : Codec V vsize) where
  pub entry_in : (keeps : Bool) (shape : Shape) (begin closed frozen tail : ℕ) (receipts : List (Option Standing)) (ring : Ring) (text : List (Entry K V)) (a : ℕ) (s : Standing) (e : Entry K V)
      → IsPages key value keeps shape begin closed frozen tail receipts ring text → IsTrue keeps → receipt_at receipts (page_at shape.page_bits a) ≡ Some s
      → entry_at text a ≡ Some e → IsEntryIn key value shape.page_bits s.bytes a e
  entry_in keeps shape begin closed frozen tail receipts ring text a s e log h g is =
      let bits = shape.page_bits in
      let o = log.ordered in
      let found = entry_found bits shape.record_size shape.limits text a e is in
      let t = log.spelled.spelled found.0.place e found.0.here in
      let stands = entry_stands bits shape.record_size shape.limits (text_begin keeps begin closed) tail a text (begin_place bits shape.record_size begin closed o.begin_place o.closed_place keeps) o.most
      (rw (← log.size) at log.spelled.laid_out) (rw is refl) in
      let there : page_in (page_at bits closed) receipts ring (page_at bits a) ≡ Some t.page = ap (λ (b : ℕ). page_in (page_at bits closed) receipts ring (page_at bits b)) (sym found.1) ∙ t.here in
      let same : t.page ≡ s.bytes = elim (cases_lt (page_at bits a) (page_at bits closed)) [
        | inl low ↦ (let both : Some t.page ≡ Some s.bytes = sym there ∙ page_in-low (page_at bits closed) (page_at bits a) receipts ring s low g in cc)
        | inr high ↦ (let both : Some t.page ≡ Some s.bytes = sym there ∙ page_in-high (page_at bits closed) (page_at bits a) receipts ring high ∙ log.flushed.kept h (page_at bits a) s high g in cc)
      ] in
      let part : part_of t.page (offset_at bits e.address) (size_of ksize vsize) ≡ part_of s.bytes (offset_at bits a) (size_of ksize vsize) =
      ap (λ (b : ℕ). part_of t.page (offset_at bits b) (size_of ksize vsize)) found.1
      ∙ ap (λ (p : List ℕ). part_of p (offset_at bits a) (size_of ksize vsize)) same in
      record {
        stands = found.1;
        place = subst (λ (n : ℕ). IsRecordStart bits n a) log.size stands.place;
        sound = subst (λ (b : ℕ). IsRecord key value b (record_of e)) found.1 t.sound;
        spells = subst (λ (b : List ℕ). Spells key value b (record_of e)) part t.spells;
      }

  -- what is reached along the entries of one page is what the chain of the text, down to the page's start, comes to
  module _ (entry : ℕ → Entry K V → Type 0) (cmp : K → K → Ordering) (k : K) (bits low top : ℕ) (text : List (Entry K V)) (rise : IsRising text)
      (one : (b : ℕ) (d e : Entry K V) → entry b d → entry b e → d ≡ e) (falls : (b : ℕ) (e : Entry K V) → entry b e → e.previous < b)
      (is : (b : ℕ) (e : Entry K V) → low ≤ b → b ≤ top → entry_at text b ≡ Some e → entry b e) where
    pub reached_is : (a : ℕ) (es : List (Entry K V)) (r : Result (ChainPosition K V) Refused) → a ≤ top → IsChainFrom low text a es → IsReached entry cmp k bits low a r
        → r ≡ Ok (reached (find (has_key cmp k) es) (leads_to a es))
    reached_is a es r high (ends under) (below less) = refl
    reached_is a es r high (ends under) (none above nothing) = absurd (omega arith)
    reached_is a es r high (ends under) (found above here own) = absurd (omega arith)
    reached_is a es r high (ends under) (on above here other rest) = absurd (omega arith)
    reached_is a es r high (goes under m at chain) (below less) = absurd (omega arith)
    reached_is a es r high (goes {e = d} under m at chain) (none above nothing) = absurd (nothing d (is a d under high (entry_at-in text rise d m a at)))
    reached_is a es r high (goes {e = d} {es = ds} under m at chain) (found {e = e} above here own) =
        let same : e ≡ d = one a e d here (is a d under high (entry_at-in text rise d m a at)) in
        let mine : has_key cmp k d ≡ true = ap (has_key cmp k) (sym same) ∙ own in
        ap (λ (x : Entry K V). Ok (Found x)) same ∙ rw mine refl
    reached_is a es r high (goes {e = d} {es = ds} under m at chain) (on {e = e} above here other rest) =
        let there = is a d under high (entry_at-in text rise d m a at) in
        let same : e ≡ d = one a e d here there in
        let mine : has_key cmp k d ≡ false = ap (has_key cmp k) (sym same) ∙ other in
        let on_rest : IsReached entry cmp k bits low d.previous r = subst (λ (x : Entry K V). IsReached entry cmp k bits low x.previous r) same rest in
        let less = falls a d there in
        reached_is d.previous ds r (omega arith) chain on_rest ∙ rw mine refl

  -- the bytes of a page spell one entry at most at an address
  pub one_entry_in : (bits : ℕ) (bytes : List ℕ) (a : ℕ) (d e : Entry K V) → IsEntryIn key value bits bytes a d → IsEntryIn key value bits bytes a e → d ≡ e
  one_entry_in bits bytes a d e h k =
      let r : record_of d ≡ record_of e = same_record key value a (part_of bytes (offset_at bits a) (size_of ksize vsize))
      (record_of d) (record_of e) h.sound k.sound h.spells k.spells in
      let at : d.address ≡ e.address = h.stands ∙ sym k.stands in
      λ i. record { address = at i; previous = (r i).previous; key = (r i).key; value = (r i).value; delta = (r i).delta }

  -- the entries of the text in a flushed page are those that its receipt's bytes spell
  pub entries_in : (keeps : Bool) (shape : Shape) (begin closed frozen tail : ℕ) (receipts : List (Option Standing)) (ring : Ring) (text : List (Entry K V)) (from page : ℕ) (s : Standing)
      → IsPages key value keeps shape begin closed frozen tail receipts ring text → IsTrue keeps → receipt_at receipts page ≡ Some s → page_at shape.page_bits from ≤ page
      → (b : ℕ) (e : Entry K V) → first_place shape.page_bits page ≤ b → b ≤ from → entry_at text b ≡ Some e
      → IsEntryIn key value shape.page_bits s.bytes b e
  entries_in keeps shape begin closed frozen tail receipts ring text from page s log h g within b e low high is =
      let bits = shape.page_bits in
      let up = page_rises bits b from high in
      let down = page_high bits page b (omega arith) in
      let same : page_at bits b ≡ page = omega arith in
      entry_in keeps shape begin closed frozen tail receipts ring text b s e log h (rw same g) is

-- where a chain stands at an address: the entry there is reached, or what is reached from its previous address
module _ {K V : Type 0} (cmp : K → K → Ordering) (k : K) (low : ℕ) (text : List (Entry K V)) (a : ℕ) (es : List (Entry K V)) (s : StandsAt low text a es)
    (e : Entry K V) (here : entry_at text a ≡ Some e) where
  own_entry : s.entry ≡ e
  own_entry = let both : Some s.entry ≡ Some e = sym s.here ∙ here in cc

  pub reached_here : has_key cmp k e ≡ true → reached (find (has_key cmp k) es) (leads_to a es) ≡ Found e
  reached_here h =
      let own : has_key cmp k s.entry ≡ true = ap (has_key cmp k) own_entry ∙ h in
      ap (λ (l : List (Entry K V)). reached (find (has_key cmp k) l) (leads_to a l)) s.is ∙ rw own (ap Found own_entry)

  pub reached_on : has_key cmp k e ≡ false → reached (find (has_key cmp k) es) (leads_to a es) ≡ reached (find (has_key cmp k) s.rest) (leads_to e.previous s.rest)
  reached_on h =
      let own : has_key cmp k s.entry ≡ false = ap (has_key cmp k) own_entry ∙ h in
      ap (λ (l : List (Entry K V)). reached (find (has_key cmp k) l) (leads_to a l)) s.is
      ∙ rw own (ap (λ (x : Entry K V). reached (find (has_key cmp k) s.rest) (leads_to x.previous s.rest)) own_entry)

  pub reached_rest : IsChainFrom low text e.previous s.rest
  reached_rest = subst (λ (x : Entry K V). IsChainFrom low text x.previous s.rest) own_entry s.on

-- from an entry in a page the way falls
pub entry_falls : {K V : Type 0} {ksize vsize : ℕ} (key : Codec K ksize) (value : Codec V vsize) (bits size : ℕ) (bytes : List ℕ) (a : ℕ) (e : Entry K V)
    → IsShape bits size → size ≡ size_of ksize vsize → IsEntryIn key value bits bytes a e → e.previous < a
entry_falls {K} {V} {ksize} {vsize} key value bits size bytes a e s same h =
    let low = place_low bits size s a (rw same h.place) in
    elim h.sound.previous [ inl one ↦ omega (arith, one, low) | inr less ↦ less.1 ]

-- where the first record of a page stands: 64 bytes into page 0, else at its start
pub low_zero : (bits page : ℕ) → page ≡ 0 → 64 ≡ first_place bits page
low_zero bits page e = rw e (omega arith)

pub low_later : (bits page low : ℕ) → (page ≡ 0 → ⊥) → low ≡ start_at bits page → low ≡ first_place bits page
low_later bits page low ne e = let no : (page == 0) ≡ false = ne_eqb page 0 ne in rw no (omega (arith, e))

-- what is refused on the way down a page is damage of that page
pub reached_refused : {K V : Type 0} (entry : ℕ → Entry K V → Type 0) (cmp : K → K → Ordering) (k : K) (bits page low : ℕ) (why : Refused) (falls : (b : ℕ) (e : Entry K V) → entry b e → e.previous < b)
    → first_place bits page ≤ low → (a : ℕ) (r : Result (ChainPosition K V) Refused) → page_at bits a ≤ page → IsReached entry cmp k bits low a r → r ≡ Err why → why ≡ Damaged page
reached_refused entry cmp k bits page low why falls floor a r under (below less) is = absurd (cc)
reached_refused entry cmp k bits page low why falls floor a r under (none above nothing) is =
    let up = page_high bits page a (omega arith) in
    let same : page_at bits a ≡ page = omega arith in
    let both : Damaged (page_at bits a) ≡ why = cc in
    sym both ∙ ap Damaged same
reached_refused entry cmp k bits page low why falls floor a r under (found above here own) is = absurd (cc)
reached_refused entry cmp k bits page low why falls floor a r under (on {e = e} above here other rest) is =
    let less = falls a e here in
    let lower = page_rises bits e.previous a (omega arith) in
    reached_refused entry cmp k bits page low why falls floor e.previous r (omega arith) rest is

-- a value that is not there, and one that is
pub no_value : {V : Type 0} (o : Option V) → is_none o ≡ true → o ≡ None
no_value None h = refl
no_value (Some v) h = absurd (cc)

pub a_value : {V : Type 0} (o : Option V) → is_none o ≡ false → (v : V) × (o ≡ Some v)
a_value None h = absurd (cc)
a_value (Some v) h = (v, refl)

-- a tombstone is no delta
pub tombstone_whole : {V : Type 0} (d : Bool) (o : Option V) → o ≡ None → (IsTrue d → IsSome o) → d ≡ false
tombstone_whole false o is whole = refl
tombstone_whole true o is whole = absurd (let some = rw is at (whole refl) in cc)

-- a test that does not pass fails
pub not_true : (b : Bool) → (b ≡ true → ⊥) → b ≡ false
not_true true h = absurd (h refl)
not_true false h = refl
