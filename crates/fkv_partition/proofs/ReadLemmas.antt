-- What the page that a relocation waited for says of the record of its place.
use Rattle.std.proofs.Common.{◌≡◌, ◌≢◌, ◌+◌, ◌^◌, ◌<◌, ◌≤◌, ℕ, Bool, true, false, cond, nat_le, option_map, IsTrue, IsSome, List, [], ◌∷◌, Option, Some, None, unwrap_or, refl, sym, ap, subst, ◌∙◌, arith}
use Rattle.std.proofs.lemmas.Bool.Decides.{nat_tests}
use Rattle.std.specs.Prelude.{Result, Ok, Err, IfSome}
use Rattle.std.specs.declared.cmp.Ordering.{Ordering}
use Rattle.fkv_functions.specs.declared.refusals.Refused.{Refused}
use Rattle.fkv_functions.specs.declared.refusals.Refused.TheVariants.{Stranger}
use Rattle.fkv_functions.specs.declared.refusals.What.TheVariants as what
use Rattle.fkv_records.specs.Places.{IsRecordStart, page_at, behind}
use Rattle.fkv_device.specs.Standing.{Standing}
use Rattle.fkv_regions.specs.Agree.{IsMark}
use Rattle.fkv_regions.proofs.MoveLemmas.{mark-place}
use Rattle.fkv_texts.specs.declared.entries.Entry.{Entry}
use Rattle.fkv_texts.specs.Places.{IsLaidOut, tail_after}
use Rattle.fkv_texts.specs.Text.{entry_at}
use Rattle.fkv_texts.proofs.PlaceLemmas.{entry_there, entry_stands}
use Rattle.fkv_hybrid.specs.Views.{text_begin, receipt_at}
use Rattle.fkv_hybrid.specs.Loads.{HasReceipt}
use Rattle.fkv_hybrid.proofs.PageLemmas.{begin_place, begins_low}
use Rattle.fkv_lookups.specs.RecordsViews.{RecordsView}
use Rattle.fkv_lookups.specs.Traced.{IsTraced}
use Rattle.fkv_lookups.proofs.TracedLemmas.{raw, traced-raw}
use Rattle.fkv_partition.specs.KeySound.{IsSound}
use Rattle.fkv_partition.specs.declared.contexts.Loading.{Loading}
use Rattle.fkv_partition.proofs.DecidedLemmas.{page_flushed}
use Rattle.fkv_partition.specs.declared.relocations.Relocation.{Relocation}
use Rattle.fkv_partition.specs.declared.relocations.Stage.{Stage}
use Rattle.fkv_partition.specs.declared.relocations.Stage.TheVariants.{Reading, Tracing}
use Rattle.fkv_partition.specs.Going.{Awaited, awaited, awaited_by}
use Rattle.fkv_partition.specs.Reading.{AwaitsPage, HasPage, WaitsOn}
use Rattle.fkv_partition.specs.Sound.{IsCompacting}
use Rattle.fkv_partition.specs.Stages.{IsReading, StageStands}
use Rattle.fkv_partition.specs.Views.{PartitionView, relocation_at}
use Rattle.fkv_partition.proofs.MoveLemmas.{stands-here}

-- ---- a record stands at each place from where the text begins to below the tail
after-most : (bits size a : ℕ) → tail_after bits size a ≤ 2 ^ 48
after-most bits size a = by_next (behind bits size a) (nat_le (behind bits size a + size) (2 ^ 48)) refl
  where
    by_next : (b : ℕ) (t : Bool) → nat_le (b + size) (2 ^ 48) ≡ t → unwrap_or (cond t (Some b) None) (2 ^ 48) ≤ 2 ^ 48
    by_next b true is = grind (arith, nat_tests)
    by_next b false is = omega arith

tail-most : {K V : Type 0} (bits size begin tail : ℕ) (text : List (Entry K V)) → begin ≤ 2 ^ 48 → IsLaidOut bits size begin tail text → tail ≤ 2 ^ 48
tail-most bits size begin tail [] le h = let same : begin ≡ tail = h in omega arith
tail-most bits size begin tail (e ∷ es) le h = tail-most bits size (tail_after bits size begin) tail es (after-most bits size begin) h.2

module _ {K V : Type 0} {keeps : Bool} {code : K → ℕ} (v : RecordsView K V) (t : IsTraced keeps code v) where
  first-low : v.log.from ≤ 2 ^ 48
  first-low =
      let o = t.regions.agree.in_order in
      rw t.begins (begins_low keeps v.log.begin v.log.regions.offsets.closed (2 ^ 48) (omega (arith, t.regions.headed, o.head, o.safe, o.most)) (omega (arith, o.closed, o.head, o.safe, o.most)))

  first-place : v.log.from < 2 ^ 48 → IsRecordStart v.log.bits v.record_size v.log.from
  first-place =
      let o = t.regions.agree.in_order in
      let marked = subst (λ bits. IsMark bits v.log.regions.offsets.closed) t.regions.bits o.closed_mark in
      rw t.begins (begin_place v.log.bits v.record_size v.log.begin v.log.regions.offsets.closed
      (mark-place v.log.bits v.record_size v.log.begin t.shape t.marked t.first)
      (mark-place v.log.bits v.record_size v.log.regions.offsets.closed t.shape marked o.first) keeps)

  place-held : (a : ℕ) → IsRecordStart v.log.bits v.record_size a → v.log.from ≤ a → a < v.log.tail → IsSome (entry_at v.text a)
  place-held a place low high =
      entry_there v.log.bits v.record_size t.shape v.log.from v.log.tail a v.text first-place
      (tail-most v.log.bits v.record_size v.log.from v.log.tail v.text first-low t.laid_out) t.laid_out place low high

  -- and a record that stands there stands at a place
  pub entry-place : (a : ℕ) → IsSome (entry_at v.text a) → IsRecordStart v.log.bits v.record_size a
  entry-place a some =
      (entry_stands v.log.bits v.record_size t.shape v.log.from v.log.tail a v.text first-place
      (tail-most v.log.bits v.record_size v.log.from v.log.tail v.text first-low t.laid_out) t.laid_out some).place

  -- on a device that keeps, the text begins at Begin
  pub kept-from : IsTrue keeps → v.log.from ≡ v.log.begin
  kept-from yes_keeps = t.begins ∙ by_keeps keeps yes_keeps
    where
      by_keeps : (b : Bool) → IsTrue b → text_begin b v.log.begin v.log.regions.offsets.closed ≡ v.log.begin
      by_keeps true h = refl
      by_keeps false h = absurd (let bad : false ≡ true = h in cc)

  pub frozen-held : (a : ℕ) → IsRecordStart v.log.bits v.record_size a → v.log.begin ≤ a → a < v.log.regions.offsets.safe_read_only → IsTrue keeps → IsSome (entry_at v.text a)
  frozen-held a place high frozen yes_keeps =
      let from = kept-from yes_keeps in
      let o = t.regions.agree.in_order in
      place-held a place (omega arith) (omega (arith, o.safe, t.regions.read_only))

-- ---- what a relocation waits for
pub same-awaited : (a b : Awaited) → Some a ≡ Some b → (a.begin ≡ b.begin) × (a.wanted ≡ b.wanted)
same-awaited a b h =
    let same : a ≡ b = cc in
    (ap (λ (w : Awaited). w.begin) same, ap (λ (w : Awaited). w.wanted) same)

abbrev pub pair : ℕ → ℕ → ℕ × ℕ
pair a b = (a, b)

abbrev pub pair_of : Awaited → ℕ × ℕ
pair_of a = (a.begin, a.wanted)

told-none : (o : Option Awaited) → None ≡ option_map pair_of o → o ≡ None
told-none None h = refl
told-none (Some a) h = absurd (cc)

told-some : (o : Option Awaited) (begin wanted : ℕ) → Some (pair begin wanted) ≡ option_map pair_of o → o ≡ Some (record { begin = begin; wanted = wanted })
told-some None begin wanted h = absurd (cc)
told-some (Some a) begin wanted h =
    let same : pair begin wanted ≡ pair_of a = cc in
    let first : begin ≡ a.begin = ap (λ (w : ℕ × ℕ). w.0) same in
    let second : wanted ≡ a.wanted = ap (λ (w : ℕ × ℕ). w.1) same in
    rw (first, second) refl

module _ {K V I : Type 0} (v : PartitionView K V I) (slot c : ℕ) (x : Relocation K V) where
  pub awaits-none : None ≡ option_map pair_of (awaited_by x.target x.stage) → awaited x ≡ None
  awaits-none h = told-none (awaited_by x.target x.stage) h

  pub awaits-some : (begin wanted : ℕ) → Some (pair begin wanted) ≡ option_map pair_of (awaited_by x.target x.stage) → awaited x ≡ Some (record { begin = begin; wanted = wanted })
  awaits-some begin wanted h = told-some (awaited_by x.target x.stage) begin wanted h

  pub awaits-page : (begin wanted : ℕ) → relocation_at v slot c ≡ Some x → Some (pair begin wanted) ≡ option_map pair_of (awaited_by x.target x.stage) → begin ≡ v.records.log.begin → AwaitsPage v slot c x wanted
  awaits-page begin wanted here h same = record {
    here = here;
    awaits = subst (λ (n : ℕ). awaited x ≡ Some (record { begin = n; wanted = wanted })) same (awaits-some begin wanted h);
  }

module _ {K V I : Type 0} {keeps : Bool} (cmp : K → K → Ordering) (join : V → V → V) (code : K → ℕ) (v : PartitionView K V I) (sound : IsSound keeps cmp join code v) (s : IsCompacting keeps cmp join code v) (slot c : ℕ) (x : Relocation K V) (begin : ℕ) (at : x.stage ≡ Reading begin) where
  reading : relocation_at v slot c ≡ Some x → IsReading v.records x.target begin
  reading here = subst (λ (q : Stage K V). StageStands keeps cmp join code v x.target q) at (stands-here v slot c x here s).stage

  module _ (same : begin ≡ v.records.log.begin) (here : relocation_at v slot c ≡ Some x) where
    pub place-begun : v.records.log.begin ≤ x.target
    place-begun = let h = (reading here).begun in omega arith

    -- its page is flushed
    pub place-flushed : HasReceipt v.records.log.receipts (page_at v.records.log.bits x.target)
    place-flushed = page_flushed v.records x.target sound.traced place-begun (reading here).on_disk

    -- what is read there is the record that stands there
    pub place-read : {E : Type 0} (e : Entry K V) (result : Result (Entry K V) E) → result ≡ Ok e
        → (IsTrue keeps → IfSome (entry_at v.records.log.text x.target) (λ y. result ≡ Ok y))
        → IsTrue keeps → entry_at v.records.log.text x.target ≡ Some e
    place-read {E} e result is kept yes_keeps =
        let st = stands-here v slot c x here s in
        by_entry (entry_at v.records.log.text x.target) (frozen-held (raw v.records) (traced-raw sound.traced sound.resolved) x.target st.place place-begun st.frozen yes_keeps) (kept yes_keeps)
      where
        by_entry : (o : Option (Entry K V)) → IsSome o → IfSome o (λ y. result ≡ Ok y) → o ≡ Some e
        by_entry None some h = absurd (cc)
        by_entry (Some y) some h = let both : Ok y ≡ Ok e = sym h ∙ is in let same : y ≡ e = cc in ap Some same

    -- and so one is read there
    pub place-undamaged : {E P : Type 0} {why : E} (result : Result (Entry K V) E) → result ≡ Err why
        → (IsTrue keeps → IfSome (entry_at v.records.log.text x.target) (λ y. result ≡ Ok y))
        → IsTrue keeps → P
    place-undamaged {E} {P} {why} result is kept yes_keeps =
        let st = stands-here v slot c x here s in
        by_entry (entry_at v.records.log.text x.target) (frozen-held (raw v.records) (traced-raw sound.traced sound.resolved) x.target st.place place-begun st.frozen yes_keeps) (kept yes_keeps)
      where
        by_entry : (o : Option (Entry K V)) → IsSome o → IfSome o (λ y. result ≡ Ok y) → P
        by_entry None some h = absurd (cc)
        by_entry (Some y) some h = let bad : Ok y ≡ Err why = sym h ∙ is in absurd (cc)

-- the page of an address is one of those that were flushed
pub page-within : {K V : Type 0} {u w v : RecordsView K V} {page : ℕ} (wanted : ℕ) → page ≡ page_at u.log.bits wanted → u ≡ v → w ≡ v → HasReceipt v.log.receipts (page_at v.log.bits wanted) → HasReceipt w.log.receipts page
page-within {K} {V} {w = w} {v = v} {page = page} wanted is u_is w_is there =
    subst (λ (r : RecordsView K V). HasReceipt r.log.receipts page) (sym w_is) (subst (HasReceipt v.log.receipts) (sym (is ∙ ap (λ (r : RecordsView K V). page_at r.log.bits wanted) u_is)) there)

-- the receipt that is kept of a page that was read by another
pub stranger-held : {K V : Type 0} (u v : RecordsView K V) (page wanted : ℕ) (st : Standing) (why : Refused)
    → u ≡ v
    → page ≡ page_at u.log.bits wanted
    → HasReceipt v.log.receipts (page_at v.log.bits wanted)
    → IfSome (receipt_at u.log.receipts page) (λ s. (s ≢ st) × (why ≡ Stranger what.Receipt s.number st.number))
    → (s : Standing) × (receipt_at v.log.receipts (page_at v.log.bits wanted) ≡ Some s) × (s ≢ st) × (why ≡ Stranger what.Receipt s.number st.number)
stranger-held {K} {V} u v page wanted st why same page_is there told =
    by_get (receipt_at v.log.receipts (page_at v.log.bits wanted)) refl
    (subst (λ (w : RecordsView K V). IfSome (receipt_at w.log.receipts (page_at w.log.bits wanted)) (λ s. (s ≢ st) × (why ≡ Stranger what.Receipt s.number st.number))) same
    (subst (λ (n : ℕ). IfSome (receipt_at u.log.receipts n) (λ s. (s ≢ st) × (why ≡ Stranger what.Receipt s.number st.number))) page_is told))
  where
    by_get : (o : Option Standing) → receipt_at v.log.receipts (page_at v.log.bits wanted) ≡ o → IfSome o (λ s. (s ≢ st) × (why ≡ Stranger what.Receipt s.number st.number))
        → (s : Standing) × (receipt_at v.log.receipts (page_at v.log.bits wanted) ≡ Some s) × (s ≢ st) × (why ≡ Stranger what.Receipt s.number st.number)
    by_get None h t = absurd (let bad = rw h at there in cc)
    by_get (Some s) h t = (s, h, t.0, t.1)

-- the page that is at hand is that of the relocation's target, or the one on the way to it
module _ {K V I : Type 0} {v : PartitionView K V I} {slot c : ℕ} {x : Relocation K V} {wanted : ℕ} {st : Standing} (h : HasPage v slot c x wanted st) where
  same-wanted : {begin at : ℕ} → awaited x ≡ Some (record { begin = begin; wanted = at }) → (begin ≡ v.records.log.begin) × (at ≡ wanted)
  same-wanted {begin} {at} is = same-awaited (record { begin = begin; wanted = at }) (record { begin = v.records.log.begin; wanted = wanted }) (sym is ∙ h.awaits.awaits)

  pub has-place : {begin : ℕ} → x.stage ≡ Reading begin → HasPage v slot c x x.target st
  has-place {begin} at = subst (λ (n : ℕ). HasPage v slot c x n st) (sym (same-wanted {begin = begin} {at = x.target} (ap (awaited_by x.target) at)).1) h

  pub reads-begin : {begin : ℕ} → x.stage ≡ Reading begin → x.stage ≡ Reading v.records.log.begin
  reads-begin {begin} at = subst (λ (n : ℕ). x.stage ≡ Reading n) (same-wanted {begin = begin} {at = x.target} (ap (awaited_by x.target) at)).0 at

  pub has-way : {e : Entry K V} {l : Loading V} → x.stage ≡ Tracing e l → HasPage v slot c x l.wanted st
  has-way {e} {l} at = subst (λ (n : ℕ). HasPage v slot c x n st) (sym (same-wanted {begin = l.begin} {at = l.wanted} (ap (awaited_by x.target) at)).1) h

-- ---- where a relocation waits for no page
module _ {K V I : Type 0} (v : PartitionView K V I) (slot c : ℕ) where
  pub waits-none-on : relocation_at v slot c ≡ None → (page : ℕ) → WaitsOn v slot c page → ⊥
  waits-none-on none page w = let bad : None ≡ Some w.relocation = sym none ∙ w.awaits.here in absurd (cc)

  waits-open-on : (x : Relocation K V) → relocation_at v slot c ≡ Some x → (page : ℕ) (w : WaitsOn v slot c page) → awaited x ≡ Some (record { begin = v.records.log.begin; wanted = w.wanted })
  waits-open-on x here page w =
      let same : Some x ≡ Some w.relocation = sym here ∙ w.awaits.here in
      let is : x ≡ w.relocation = cc in
      ap awaited is ∙ w.awaits.awaits

  pub waits-not-on : (x : Relocation K V) → relocation_at v slot c ≡ Some x → awaited x ≡ None → (page : ℕ) → WaitsOn v slot c page → ⊥
  waits-not-on x here none page w = let bad = sym none ∙ waits-open-on x here page w in absurd (cc)

  pub waits-moved-on : (x : Relocation K V) (begin wanted : ℕ) → relocation_at v slot c ≡ Some x → awaited x ≡ Some (record { begin = begin; wanted = wanted }) → begin ≢ v.records.log.begin → (page : ℕ) → WaitsOn v slot c page → ⊥
  waits-moved-on x begin wanted here is other page w = other (same-awaited (record { begin = begin; wanted = wanted }) (record { begin = v.records.log.begin; wanted = w.wanted }) (sym is ∙ waits-open-on x here page w)).0
