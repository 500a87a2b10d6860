-- What an operation decides, and what its look-up then came to.
use Rattle.std.proofs.Common.{◌≡◌, ◌^◌, ◌<◌, ◌≤◌, inl, inr, ℕ, zero, suc, Bool, true, false, Option, Some, None, length, slice_get, nat_lt, is_some, refl, ◌∙◌, ap, arith}
use Rattle.std.proofs.Common.{IsSome, subst, sym}
use Rattle.std.proofs.lemmas.Bool.Decides.{nat_tests}
use Rattle.std.proofs.lemmas.Bool.{ltb-true}
use Rattle.std.proofs.lemmas.Nat.{div-add-mod'}
use Rattle.std.specs.Option.{option_flatten}
use Rattle.std.specs.declared.cmp.Ordering.{Ordering}
use Rattle.fkv_functions.specs.Meanings.{Meanings}
use Rattle.fkv_functions.specs.Plain.{IsKeyOrder}
use Rattle.fkv_epoch.specs.Moves.{is_entered}
use Rattle.fkv_records.specs.Places.{page_at, offset_at, first_offset}
use Rattle.fkv_regions.specs.Agree.{IsMark, IsInOrder}
use Rattle.fkv_regions.specs.Offsets.{region_of}
use Rattle.fkv_regions.specs.declared.offsets.View.{View}
use Rattle.fkv_regions.specs.declared.offsets.Region.{Region}
use Rattle.fkv_regions.specs.declared.offsets.Region.TheVariants as region
use Rattle.fkv_regions.proofs.OffsetLemmas.{start-below}
use Rattle.fkv_texts.specs.declared.entries.Entry.{Entry}
use Rattle.fkv_texts.specs.declared.entries.ChainPosition.{ChainPosition}
use Rattle.fkv_texts.specs.declared.entries.ChainPosition.TheVariants.{Found, Below}
use Rattle.fkv_texts.specs.Text.{has_key, last_of}
use Rattle.fkv_texts.proofs.LastWhere.{last_where-found}
use Rattle.fkv_hybrid.specs.Loads.{HasReceipt, first_place}
use Rattle.fkv_hybrid.proofs.FrameLemmas.{page_rises}
use Rattle.fkv_hybrid.proofs.ReceiptLemmas.{receipt-within}
use Rattle.fkv_operations.specs.After.{key_of}
use Rattle.fkv_operations.specs.declared.operations.KeyedOp.{KeyedOp}
use Rattle.fkv_operations.specs.declared.operations.Answer.{Answer}
use Rattle.fkv_lookups.specs.declared.decisions.LookupResult.TheVariants.{Mutable}
use Rattle.fkv_lookups.specs.declared.decisions.Decision.TheVariants.{Replace}
use Rattle.fkv_lookups.specs.declared.chain_results.ChainResult.{ChainResult}
use Rattle.fkv_lookups.specs.Decisions.{low_of, met_by, met_last, decision}
use Rattle.fkv_lookups.specs.DecisionLaws.{replace-met, mutable-met, IsMetIn}
use Rattle.fkv_lookups.specs.Lookups.{newest_above, looked_up, StartsAt}
use Rattle.fkv_lookups.specs.Meeting.{met_from, IsMetAt}
use Rattle.fkv_lookups.specs.RecordsViews.{RecordsView, IsReplaceable}
use Rattle.fkv_lookups.specs.Traced.{IsTraced}
use Rattle.fkv_lookups.proofs.LookupLemmas.{begun}
use Rattle.fkv_lookups.proofs.MeetingLemmas.{low_head, low_begin}
use Rattle.fkv_partition.specs.declared.contexts.Context.{Context}
use Rattle.fkv_partition.specs.Contexts.{is_session}
use Rattle.fkv_partition.specs.KeyGoing.{Decides}
use Rattle.fkv_partition.specs.KeySound.{IsSound}
use Rattle.fkv_partition.specs.Views.{PartitionView, slots_of, seen_at, entry_for, met_at, newest_in_memory, reached_from}
use Rattle.fkv_partition.proofs.AskedLemmas.{key_at}

module _ {K V I O : Type 0} (cmp : K → K → Ordering) (join : V → V → V) (f : Meanings K V I O) (code : K → ℕ) (v : PartitionView K V I) (slot : ℕ) where
  -- what is changed in place was met as a mutable value
  pub replaced-at : (op : KeyedOp K V I) (value : Option V) (a : Answer O)
      → ((w : V) → met_at cmp join code v slot (key_of op) ≡ Mutable w → IsMetAt cmp join code v.records (seen_at v slot) (key_of op) w region.Mutable)
      → decision f op (met_at cmp join code v slot (key_of op)) ≡ Replace value a
      → (w : V) × IsMetAt cmp join code v.records (seen_at v slot) (key_of op) w region.Mutable
  replaced-at op value a met d =
      let m = replace-met f op (met_at cmp join code v slot (key_of op)) value a d in
      (m.0, met m.0 m.1)

pub found-same : {K V : Type 0} (x y : Entry K V) → Found x ≡ Found y → x ≡ y
found-same x y h = cc

-- the record that was met with a value may have another one where it stands
pub met-replaceable : {K V : Type 0} (cmp : K → K → Ordering) (join : V → V → V) (code : K → ℕ) (v : RecordsView K V) (view : View) (k : K) (w : V) (r : Region) → IsKeyOrder cmp → (m : IsMetAt cmp join code v view k w r) → IsReplaceable cmp v m.entry.address
met-replaceable cmp join code v view k w r order m =
    let own : m.entry.key ≡ k = order.same m.entry.key k (last_where-found (has_key cmp k) v.text m.entry m.last) in
    record { entry = m.entry; here = m.stands; last = ap (last_of cmp v.text) own ∙ m.last; some = rw m.value refl; whole = m.whole }

-- ---- the last record of a key that is read, and what the look-up then comes to
-- a session is entered at an epoch
at_epoch : (o : Option (Option ℕ)) → is_some (option_flatten o) ≡ true → (e : ℕ) × (o ≡ Some (Some e))
at_epoch None h = absurd (cc)
at_epoch (Some None) h = absurd (cc)
at_epoch (Some (Some e)) h = (e, refl)

-- where a session reads in memory, the text has begun
pub seen-begun : {K V I : Type 0} {keeps : Bool} {code : K → ℕ} (v : PartitionView K V I) (slot : ℕ) → IsTraced keeps code v.records → is_session (slots_of v) slot ≡ true → v.records.log.from ≤ low_of v.records.log.begin (seen_at v slot)
seen-begun v slot t entered =
    let e = at_epoch (slice_get (slots_of v) slot) entered in
    let closed = (t.regions.agree.agree.each slot e.0 e.1).closed in
    let head = low_head v.records.log.begin (seen_at v slot) in
    begun v.records (low_of v.records.log.begin (seen_at v slot)) t (omega arith) (low_begin v.records.log.begin (seen_at v slot))

module _ {K V I : Type 0} (cmp : K → K → Ordering) (join : V → V → V) (code : K → ℕ) (v : PartitionView K V I) (slot : ℕ) (k : K) where
  abbrev low : ℕ
  low = low_of v.records.log.begin (seen_at v slot)

  abbrev first : ChainPosition K V
  first = newest_in_memory cmp code v slot k (entry_for code v k)

  abbrev came : ChainResult K V
  came = reached_from cmp join code v slot k low (entry_for code v k)

  -- what is met, by what the look-up comes to
  met-is : (o : Option ℕ) → met_from cmp join code v.records (seen_at v slot) k o ≡ met_by join o v.records.log.begin (seen_at v slot) (reached_from cmp join code v slot k low o)
  met-is None = refl
  met-is (Some a) = refl

  -- where a record is read, there is an entry
  entry-some : (last : Entry K V) → first ≡ Found last → (a : ℕ) × (entry_for code v k ≡ Some a)
  entry-some last is = by_entry (entry_for code v k) refl
    where
      by_entry : (o : Option ℕ) → entry_for code v k ≡ o → (a : ℕ) × (entry_for code v k ≡ Some a)
      by_entry None h = absurd (let no : Below 1 ≡ Found last = ap (newest_in_memory cmp code v slot k) (sym h) ∙ is in cc)
      by_entry (Some a) h = (a, h)

  module _ (tells : (a : ℕ) → entry_for code v k ≡ Some a → StartsAt (newest_above cmp code v.records low k a) (looked_up cmp join code v.records low k a)) where
    -- the first record says what the look-up comes to, where there is no entry too
    told : StartsAt first came
    told = by_entry (entry_for code v k) refl
      where
        by_entry : (o : Option ℕ) → entry_for code v k ≡ o → StartsAt (newest_in_memory cmp code v slot k o) (reached_from cmp join code v slot k low o)
        by_entry None h = refl
        by_entry (Some a) h = tells a h

    told-by : (p : ChainPosition K V) → first ≡ p → StartsAt p came
    told-by p is = subst (λ q. StartsAt q came) is told

    -- parts are collected, or none are
    none-some : came.parts ≡ None → IsSome came.parts → ⊥
    none-some none some = let no : IsSome {T = V} None = rw none at some in cc

    -- the record that was met as mutable is the one that is read first
    pub first-met : (w : V) (m : IsMetAt cmp join code v.records (seen_at v slot) k w region.Mutable) (last : Entry K V) → first ≡ Found last → last ≡ m.entry
    first-met w m last is = by_delta last.delta refl
      where
        there : came ≡ record { parts = None; position = Found m.entry }
        there = ap (reached_from cmp join code v slot k low) m.leads ∙ m.reached

        by_delta : (b : Bool) → last.delta ≡ b → last ≡ m.entry
        by_delta true d = absurd (none-some (ap (λ (r : ChainResult K V). r.parts) there) ((told-by (Found last) is).1 d))
        by_delta false d =
            let alone = (told-by (Found last) is).0 d in
            found-same last m.entry (ap (λ (r : ChainResult K V). r.position) (sym alone ∙ there))

    -- one that is read first, is no delta and is mutable is met so
    pub mutable-first : (last : Entry K V) (w : V) → first ≡ Found last → last.delta ≡ false → last.value ≡ Some w → region_of (seen_at v slot) last.address ≡ region.Mutable → met_at cmp join code v slot k ≡ Mutable w
    mutable-first last w is whole value mutable =
        let e = entry-some last is in
        let alone = (told-by (Found last) is).0 whole in
        met-is (entry_for code v k)
        ∙ ap (λ (r : ChainResult K V). met_by join (entry_for code v k) v.records.log.begin (seen_at v slot) r) alone
        ∙ (rw (e.1, value, mutable) refl)

    -- one that is read first and is no delta is what is met
    pub whole-first : (last : Entry K V) → first ≡ Found last → last.delta ≡ false → met_at cmp join code v slot k ≡ met_last (seen_at v slot) last.address last.value
    whole-first last is whole =
        let e = entry-some last is in
        let alone = (told-by (Found last) is).0 whole in
        met-is (entry_for code v k)
        ∙ ap (λ (r : ChainResult K V). met_by join (entry_for code v k) v.records.log.begin (seen_at v slot) r) alone
        ∙ ap (λ o. met_by join o v.records.log.begin (seen_at v slot) (record { parts = None; position = Found last })) e.1

    -- and what is met as mutable is such a record
    pub record IsAtFirst (w : V) : Type 0 where
      pub entry : Entry K V
      pub is : first ≡ Found entry
      pub whole : entry.delta ≡ false
      pub value : entry.value ≡ Some w
      pub region : region_of (seen_at v slot) entry.address ≡ region.Mutable

    pub met-first : (w : V) → met_at cmp join code v slot k ≡ Mutable w → IsAtFirst w
    met-first w met = by_first first refl
      where
        m : IsMetIn join v.records.log.begin (seen_at v slot) came w region.Mutable
        m = mutable-met join v.records.log.begin (seen_at v slot) (entry_for code v k) came w (sym (met-is (entry_for code v k)) ∙ met)

        by_first : (p : ChainPosition K V) → first ≡ p → IsAtFirst w
        by_first (Below b) is = absurd (let no : Below b ≡ Found m.entry = ap (λ (r : ChainResult K V). r.position) (sym (told-by (Below b) is)) ∙ m.is in cc)
        by_first (Found e) is = by_delta e.delta refl
          where
            by_delta : (b : Bool) → e.delta ≡ b → IsAtFirst w
            by_delta true d = absurd (none-some m.parts ((told-by (Found e) is).1 d))
            by_delta false d =
                let same = found-same e m.entry (ap (λ (r : ChainResult K V). r.position) (sym ((told-by (Found e) is).0 d)) ∙ m.is) in
                record {
                  entry = e;
                  is = is;
                  whole = d;
                  value = ap (λ (x : Entry K V). x.value) same ∙ m.value;
                  region = ap (λ (x : Entry K V). region_of (seen_at v slot) x.address) same ∙ m.region;
                }

    -- where the one that is read first is a delta, parts are met
    pub record IsMetWithParts : Type 0 where
      pub entry : ℕ
      pub part : V
      pub position : ChainPosition K V
      pub met : met_at cmp join code v slot k ≡ met_by join (Some entry) v.records.log.begin (seen_at v slot) (record { parts = Some part; position = position })

    pub met-delta : (last : Entry K V) → first ≡ Found last → last.delta ≡ true → IsMetWithParts
    met-delta last is delta = by_parts came.parts refl ((told-by (Found last) is).1 delta)
      where
        by_parts : (o : Option V) → came.parts ≡ o → IsSome o → IsMetWithParts
        by_parts None h some = absurd (cc)
        by_parts (Some p) h some =
            let e = entry-some last is in
            record {
              entry = e.0;
              part = p;
              position = came.position;
              met = met-is (entry_for code v k)
                  ∙ ap (λ o. met_by join o v.records.log.begin (seen_at v slot) came) e.1
                  ∙ ap (λ o. met_by join (Some e.0) v.records.log.begin (seen_at v slot) (record { parts = o; position = came.position })) h;
            }

-- ---- pages on disk are flushed
pub page_flushed : {K V : Type 0} {keeps : Bool} {code : K → ℕ} (v : RecordsView K V) (b : ℕ) → IsTraced keeps code v → v.log.begin ≤ b → b < v.log.regions.offsets.head → HasReceipt v.log.receipts (page_at v.log.bits b)
page_flushed v b t begun low = t.held (page_at v.log.bits b) (page_rises v.log.bits v.log.begin b begun) (by_mark o.head_mark)
  where
    o : IsInOrder v.log.regions.bits v.log.regions.flushed v.log.regions.offsets
    o = t.regions.agree.in_order

    by_page : (c : Bool) → nat_lt (page_at v.log.bits b) (page_at v.log.bits v.log.regions.offsets.head) ≡ c → offset_at v.log.bits v.log.regions.offsets.head ≡ 0 → page_at v.log.bits b < page_at v.log.bits v.log.regions.offsets.head
    by_page true h start = ltb-true (page_at v.log.bits b) (page_at v.log.bits v.log.regions.offsets.head) h
    by_page false h start =
        let le : page_at v.log.bits v.log.regions.offsets.head ≤ page_at v.log.bits b = grind (arith, nat_tests) in
        let under = start-below v.log.bits (page_at v.log.bits v.log.regions.offsets.head) b le in
        let whole = div-add-mod' v.log.regions.offsets.head (2 ^ v.log.bits) in
        absurd (omega (arith, under, whole, start))

    by_mark : IsMark v.log.regions.bits v.log.regions.offsets.head → page_at v.log.bits b < length v.log.receipts
    by_mark (inl first) = absurd (let least = t.first in omega arith)
    by_mark (inr start) =
        let below = by_page (nat_lt (page_at v.log.bits b) (page_at v.log.bits v.log.regions.offsets.head)) refl (rw t.regions.bits at start) in
        let high = rw t.regions.bits at o.flushed_low in
        omega (arith, below, high, t.flushed)

-- so is a lower page, from that of Begin on
pub lower_flushed : {K V : Type 0} {keeps : Bool} {code : K → ℕ} (v : RecordsView K V) (b page : ℕ) → IsTraced keeps code v → v.log.begin ≤ b → page_at v.log.bits b < page → HasReceipt v.log.receipts page
    → HasReceipt v.log.receipts (page_at v.log.bits b)
lower_flushed v b page t begun low top = t.held (page_at v.log.bits b) (page_rises v.log.bits v.log.begin b begun) (let high = receipt-within v.log.receipts page top in omega arith)

-- an address below a page's first record, and not below Begin, lies in a lower page
pub lower_page : {K V : Type 0} {keeps : Bool} {code : K → ℕ} (v : RecordsView K V) (b page : ℕ) → IsTraced keeps code v → v.log.begin ≤ b → b < first_place v.log.bits page → page_at v.log.bits b < page
lower_page v b zero t begun low = absurd (let least = t.first in omega arith)
lower_page v b (suc page) t begun low = by_page (nat_lt (page_at v.log.bits b) (suc page)) refl
  where
    by_page : (c : Bool) → nat_lt (page_at v.log.bits b) (suc page) ≡ c → page_at v.log.bits b < suc page
    by_page true h = ltb-true (page_at v.log.bits b) (suc page) h
    by_page false h =
        let le : suc page ≤ page_at v.log.bits b = grind (arith, nat_tests) in
        let under = start-below v.log.bits (suc page) b le in
        let none : first_offset (suc page) ≡ 0 = grind (arith, nat_tests) in
        absurd (omega (arith, under, none))

-- what is changed in place may have another value there, and is not frozen
module _ {K V I O : Type 0} {keeps : Bool} (cmp : K → K → Ordering) (join : V → V → V) (f : Meanings K V I O) (code : K → ℕ) (v : PartitionView K V I) (slot c : ℕ) (x : Context K V I) (value : Option V) (told : Answer O) (e : Entry K V) (order : IsKeyOrder cmp) (s : IsSound keeps cmp join code v)
    (mutable : (k : K) (w : V) → is_entered v.records.log.regions.epochs slot ≡ true → met_at cmp join code v slot k ≡ Mutable w → IsMetAt cmp join code v.records (seen_at v slot) k w region.Mutable)
    (unfrozen : (k : K) (w : V) → is_entered v.records.log.regions.epochs slot ≡ true → (m : IsMetAt cmp join code v.records (seen_at v slot) k w region.Mutable) → v.records.log.regions.offsets.safe_read_only ≤ m.entry.address)
    (d : Decides cmp join f code v slot c x (Replace value told)) (last : last_of cmp v.records.text (key_of x.op) ≡ Some e) where
  entered-here : is_entered v.records.log.regions.epochs slot ≡ true
  entered-here = (key_at (slots_of v) v.contexts slot c x d.here).inside

  met-here : (w : V) × IsMetAt cmp join code v.records (seen_at v slot) (key_of x.op) w region.Mutable
  met-here = replaced-at cmp join f code v slot x.op value told (λ w met. mutable (key_of x.op) w entered-here met) d.decided

  same-entry : met-here.1.entry ≡ e
  same-entry = let both : Some met-here.1.entry ≡ Some e = sym met-here.1.last ∙ last in cc

  pub replaced-high : v.records.log.regions.offsets.safe_read_only ≤ e.address
  replaced-high = subst (λ (y : Entry K V). v.records.log.regions.offsets.safe_read_only ≤ y.address) same-entry (unfrozen (key_of x.op) met-here.0 entered-here met-here.1)

  pub replaced-some : IsReplaceable cmp v.records e.address
  replaced-some = subst (λ (y : Entry K V). IsReplaceable cmp v.records y.address) same-entry (met-replaceable cmp join code v.records (seen_at v slot) (key_of x.op) met-here.0 region.Mutable order met-here.1)
