-- What a page that came tells an operation that waits for it.
use Rattle.std.proofs.Common.{◌≡◌, ◌≢◌, ◌<◌, ◌≤◌, inl, inr, ℕ, Bool, true, false, List, Option, Some, None, nat_lt, refl, sym, ◌∙◌, ap, subst, arith}
use Rattle.std.proofs.lemmas.Bool.Decides.{nat_tests}
use Rattle.std.proofs.lemmas.Bool.{ltb-true, cases_lt}
use Rattle.std.specs.Prelude.{IsTrue, Result, Ok, Err, IfSome, IfOk, IfErr, OnOk, OnErr}
use Rattle.std.specs.declared.cmp.Ordering.{Ordering}
use Rattle.fkv_functions.specs.Plain.{IsKeyOrder}
use Rattle.fkv_functions.specs.Meanings.{Meanings}
use Rattle.fkv_functions.specs.declared.refusals.Refused.{Refused}
use Rattle.fkv_functions.specs.declared.refusals.Refused.TheVariants.{Stranger, NoMemory}
use Rattle.fkv_functions.specs.declared.refusals.What.TheVariants as what
use Rattle.fkv_records.specs.Places.{page_at, IsRecordStart}
use Rattle.fkv_device.specs.Standing.{Standing, Joined}
use Rattle.fkv_device.specs.Failing.{ReadFailsBy}
use Rattle.fkv_texts.specs.declared.entries.Entry.{Entry}
use Rattle.fkv_texts.specs.declared.entries.ChainPosition.{ChainPosition}
use Rattle.fkv_texts.specs.declared.entries.ChainPosition.TheVariants.{Below}
use Rattle.fkv_texts.specs.Text.{newest, value_of}
use Rattle.fkv_texts.specs.Deltas.{combined, AreDeltasBetween}
use Rattle.fkv_lookups.specs.declared.chain_results.ChainResult.{ChainResult}
use Rattle.fkv_hybrid.specs.Views.{text_begin, receipt_at}
use Rattle.fkv_hybrid.specs.Loads.{HasReceipt, IsHeldBy, IsReached, first_place}
use Rattle.fkv_hybrid.proofs.FrameLemmas.{page_rises}
use Rattle.fkv_operations.specs.After.{key_of, shown_of}
use Rattle.fkv_operations.specs.declared.operations.KeyedOp.{KeyedOp}
use Rattle.fkv_operations.specs.declared.operations.KeyedOp.TheVariants.{Read, Upsert, Rmw, Delete, Merge}
use Rattle.fkv_lookups.specs.RecordsViews.{RecordsView}
use Rattle.fkv_lookups.specs.Lookups.{IsOfClass, ComesTo, ComesToInPage, end_of}
use Rattle.fkv_lookups.proofs.TracedLemmas.{from_first}
use Rattle.fkv_lookups.proofs.LookupLemmas.{raw-traced, values_tell, between_tells, page_up}
use Rattle.fkv_partition.specs.declared.contexts.Context.{Context}
use Rattle.fkv_partition.specs.declared.contexts.Loading.{Loading}
use Rattle.fkv_partition.specs.declared.contexts.Phase.{Phase}
use Rattle.fkv_partition.specs.declared.contexts.Phase.TheVariants.{Load, Prepared}
use Rattle.fkv_partition.specs.declared.contexts.Progress.{Progress}
use Rattle.fkv_partition.specs.declared.contexts.Progress.TheVariants.{Done, NeedsBuild, NeedsLoad}
use Rattle.fkv_partition.specs.Contexts.{at_phase, loading_by}
use Rattle.fkv_partition.specs.Views.{PartitionView, with_context, context_at}
use Rattle.fkv_partition.specs.KeySound.{IsKept, IsLoading, StandsFor, IsSound}
use Rattle.fkv_partition.specs.KeyLoading.{Tells, MayLoad, AwaitsPage, ReadsOn, IsTold, Loads, WaitsFor, ReadsBy, found, ended}
use Rattle.fkv_index.specs.Words.{address_of}
use Rattle.fkv_partition.proofs.GrownLemmas.{newest-nowhere, newest-under}
use Rattle.fkv_partition.proofs.EventLemmas.{stands-at}
use Rattle.fkv_partition.proofs.DecidedLemmas.{page_flushed, lower_flushed, lower_page}
use Rattle.fkv_partition.proofs.ReadLemmas.{kept-from}
use Rattle.fkv_partition.proofs.DamageLemmas.{class-place}

-- what waits for a page is a read or an update, and knows where it goes on
loading-by : {K V I : Type 0} (keeps : Bool) (cmp : K → K → Ordering) (join : V → V → V) (code : K → ℕ) (r : RecordsView K V) (op : KeyedOp K V I) (l : Loading V) → StandsFor keeps cmp join code r op (Load l) → MayLoad op × IsLoading keeps cmp join code r (key_of op) l
loading-by keeps cmp join code r (Read k i) l h = ((i, inl refl), h)
loading-by keeps cmp join code r (Upsert k u) l h = absurd h
loading-by keeps cmp join code r (Rmw k i) l h = ((i, inr refl), h)
loading-by keeps cmp join code r (Delete k) l h = absurd h
loading-by keeps cmp join code r (Merge k i) l h = absurd h

-- where the way goes on, a record of the key's class stands
way-class : {K V : Type 0} (cmp : K → K → Ordering) (join : V → V → V) (code : K → ℕ) (v : RecordsView K V) (k : K) (low a : ℕ) (parts : Option V) (r : ChainResult K V) → ComesTo cmp join code v k low a parts r → (b : ℕ) → r.position ≡ Below b → v.log.from ≤ b → IsOfClass code v k b
way-class cmp join code v k low a parts r (ComesTo.found is stands high whole) b at begins = absurd (cc)
way-class cmp join code v k low a parts r (ComesTo.below {b = c} under is class) b at begins = let same : c ≡ b = cc in subst (IsOfClass code v k) same (class (let s = same in omega arith))
way-class cmp join code v k low a parts r (ComesTo.joins {d = d} is high part more) b at begins = way-class cmp join code v k low d.previous (combined join d.value parts) r more b at begins

abbrev out_of : {K V : Type 0} → ℕ → Result (ChainPosition K V) Refused
out_of a = Ok (Below a)

out-same : {K V : Type 0} (a b : ℕ) → out_of {K = K} {V = V} a ≡ out_of b → a ≡ b
out-same a b h = cc

-- a way out of a page ends below it
reached-low : {K V : Type 0} (entry : ℕ → Entry K V → Type 0) (cmp : K → K → Ordering) (k : K) (bits low a b : ℕ) (r : Result (ChainPosition K V) Refused) → IsReached entry cmp k bits low a r → r ≡ Ok (Below b) → b < low
reached-low {K} {V} entry cmp k bits low a b r (IsReached.below {a = c} under) is = subst (λ (n : ℕ). n < low) (out-same {K = K} {V = V} c b is) under
reached-low entry cmp k bits low a b r (IsReached.none high none) is = absurd (cc)
reached-low entry cmp k bits low a b r (IsReached.found high e passes) is = absurd (cc)
reached-low entry cmp k bits low a b r (IsReached.on {e = e} high h no_key more) is = reached-low entry cmp k bits low e.previous b r more is

-- where a look-up in a page leaves it
abbrev pub left_of : {K V : Type 0} → Result (ChainResult K V) Refused → Result (ChainPosition K V) Refused
left_of (Ok g) = Ok g.position
left_of (Err why) = Err why

pub gathered-low : {K V : Type 0} (join : V → V → V) (entry : ℕ → Entry K V → Type 0) (cmp : K → K → Ordering) (k : K) (bits low a b : ℕ) (parts : Option V) (r : Result (ChainResult K V) Refused) → ComesToInPage join entry cmp k bits low a parts r → left_of r ≡ Ok (Below b) → b < low
gathered-low join entry cmp k bits low a b parts r (ComesToInPage.refused way) is = absurd (cc)
gathered-low {K} {V} join entry cmp k bits low a b parts r (ComesToInPage.below {b = c} way) is = reached-low entry cmp k bits low a b (Ok (Below c)) way is
gathered-low join entry cmp k bits low a b parts r (ComesToInPage.found way whole) is = absurd (cc)
gathered-low join entry cmp k bits low a b parts r (ComesToInPage.joins {d = d} way part more) is = gathered-low join entry cmp k bits low d.previous b (combined join d.value parts) r more is

-- what the page that came says
pub record Came {K V I : Type 0} (keeps : Bool) (entry : ℕ → List ℕ → ℕ → Entry K V → Type 0) (cmp : K → K → Ordering) (join : V → V → V) (code : K → ℕ) (v : PartitionView K V I) (key : K) (wanted : ℕ) (parts : Option V) (st : Standing) (bytes : List ℕ)
    (result : Result (ChainResult K V) Refused) : Type 0 where
  pub own : IsHeldBy v.records.log.receipts (page_at v.records.log.bits wanted) st
  pub reads : ComesToInPage join (entry v.records.log.bits bytes) cmp key v.records.log.bits (first_place v.records.log.bits (page_at v.records.log.bits wanted)) wanted parts result
  pub kept : IsTrue keeps
      → v.records.log.begin ≤ wanted
      → IsOfClass code v.records key wanted
      → (r : ChainResult K V) × (result ≡ Ok r) × ComesTo cmp join code v.records key (first_place v.records.log.bits (page_at v.records.log.bits wanted)) wanted parts r

pub came-of : {K V I : Type 0} (keeps : Bool) (entry : ℕ → List ℕ → ℕ → Entry K V → Type 0) (cmp : K → K → Ordering) (join : V → V → V) (code : K → ℕ) (u v : PartitionView K V I) (key k : K) (page low wanted : ℕ) (parts : Option V) (st : Standing) (bytes : List ℕ) (result : Result (ChainResult K V) Refused)
    → u ≡ v
    → key ≡ k
    → page ≡ page_at u.records.log.bits wanted
    → low ≡ first_place u.records.log.bits page
    → IsHeldBy v.records.log.receipts (page_at v.records.log.bits wanted) st
    → ComesToInPage join (entry u.records.log.bits bytes) cmp key u.records.log.bits low wanted parts result
    → (IsTrue keeps
    → u.records.log.begin ≤ wanted
    → IsOfClass code u.records key wanted
    → (r : ChainResult K V) × (result ≡ Ok r) × ComesTo cmp join code u.records key low wanted parts r)
    → Came keeps entry cmp join code v k wanted parts st bytes result
came-of keeps entry cmp join code u v key k page low wanted parts st bytes result same key_is page_is low_is held reads kept =
    let own = subst (λ (w : PartitionView _ _ _). IsHeldBy w.records.log.receipts (page_at w.records.log.bits wanted) st) (sym same) held in
    let floor : low ≡ first_place u.records.log.bits (page_at u.records.log.bits wanted) = low_is ∙ ap (first_place u.records.log.bits) page_is in
    subst (λ (w : PartitionView _ _ _). Came keeps entry cmp join code w k wanted parts st bytes result) same
    (subst (λ q. Came keeps entry cmp join code u q wanted parts st bytes result) key_is
    (record { own = own; reads = rw floor at reads; kept = rw floor at kept }))

module _ {K V I : Type 0} {keeps : Bool} (cmp : K → K → Ordering) (join : V → V → V) (code : K → ℕ) (order : IsKeyOrder cmp) (v : PartitionView K V I) (s : IsSound keeps cmp join code v) (slot c : ℕ) (x : Context K V I) (l : Loading V) (a : AwaitsPage v slot c x l) where
  stands : StandsFor keeps cmp join code v.records x.op (Load l)
  stands = subst (λ (p : Phase V). StandsFor keeps cmp join code v.records x.op p) a.loading (stands-at cmp join code v s slot c x a.here)

  pub may-load : MayLoad x.op
  may-load = (loading-by keeps cmp join code v.records x.op l stands).0

  loading-at : IsLoading keeps cmp join code v.records (key_of x.op) l
  loading-at = (loading-by keeps cmp join code v.records x.op l stands).1

  begun : v.records.log.begin ≤ l.wanted
  begun = let h = loading-at.begun in let same = a.begin in omega arith

  -- its page is flushed
  pub wanted-flushed : HasReceipt v.records.log.receipts (page_at v.records.log.bits l.wanted)
  wanted-flushed = page_flushed v.records l.wanted s.traced begun loading-at.on_disk

  text-begins : IsTrue keeps → v.records.log.from ≤ l.wanted
  text-begins yes_keeps = let at = s.traced.begins ∙ by_keeps keeps yes_keeps in let h = begun in omega arith
    where
      by_keeps : (b : Bool) → IsTrue b → text_begin b v.records.log.begin v.records.log.regions.offsets.closed ≡ v.records.log.begin
      by_keeps true h = refl
      by_keeps false h = absurd (let bad : false ≡ true = h in cc)

  -- the floor of the page, at or above which the text has begun
  abbrev floor : ℕ
  floor = first_place v.records.log.bits (page_at v.records.log.bits l.wanted)

  floor-up : IsTrue keeps → v.records.log.from ≤ floor
  floor-up yes_keeps = page_up v.records floor l.wanted s.traced yes_keeps begun (omega arith)

  module _ (entry : ℕ → List ℕ → ℕ → Entry K V → Type 0) (st : Standing) (bytes : List ℕ) (result : Result (ChainResult K V) Refused) (came : Came keeps entry cmp join code v (key_of x.op) l.wanted l.parts st bytes result) where
    pub reads-on : (r : Result (ChainResult K V) Refused) → result ≡ r → ReadsOn entry cmp join v slot c x l st bytes r
    reads-on r is = record { awaits = a; own = came.own; reads = subst (λ q. ComesToInPage join (entry v.records.log.bits bytes) cmp (key_of x.op) v.records.log.bits floor l.wanted l.parts q) is came.reads }

    class-at : IsTrue keeps → IsOfClass code v.records (key_of x.op) l.wanted
    class-at yes_keeps = (loading-at.leads yes_keeps a.begin).class (text-begins yes_keeps)

    goes : IsTrue keeps → (r : ChainResult K V) → result ≡ Ok r → ComesTo cmp join code v.records (key_of x.op) floor l.wanted l.parts r
    goes yes_keeps r is =
        let k = came.kept yes_keeps begun (class-at yes_keeps) in
        let both : Ok k.0 ≡ Ok r = sym k.1 ∙ is in
        let same : k.0 ≡ r = cc in
        subst (ComesTo cmp join code v.records (key_of x.op) floor l.wanted l.parts) same k.2

    -- on a device that keeps, its bytes spell the records on the way
    pub page-undamaged : {P : Type 0} {why : Refused} → IsTrue keeps → result ≡ Err why → P
    page-undamaged {P} {why} yes_keeps is =
        let k = came.kept yes_keeps begun (class-at yes_keeps) in
        let bad : Ok k.0 ≡ Err why = sym k.1 ∙ is in
        absurd (cc)

    -- and lead to a place, or below Begin
    pub page-place : IsTrue keeps → (b : ℕ) (parts : Option V) → result ≡ Ok (record { parts = parts; position = Below b }) → v.records.log.begin ≤ b → IsRecordStart v.records.log.bits v.records.record_size b
    page-place yes_keeps b parts is high =
        class-place v.records s.traced s.resolved (key_of x.op) b
        (way-class cmp join code v.records (key_of x.op) floor l.wanted l.parts _ (goes yes_keeps _ is) b refl (let from = kept-from v.records s.traced yes_keeps in omega arith))

    -- what the key has from where the entry led, by where the look-up stands
    pub newest-at : IsTrue keeps → (r : ChainResult K V) → result ≡ Ok r → value_of (newest cmp v.records.text (key_of x.op) (address_of l.kept.word)) ≡ combined join (end_of cmp v.records (key_of x.op) r.position) r.parts
    newest-at yes_keeps r is =
        (loading-at.leads yes_keeps a.begin).newest
        ∙ values_tell cmp join code v.records (key_of x.op) order s.traced s.resolved floor l.wanted l.parts r (goes yes_keeps r is)

    -- below Begin the key has nothing
    nothing-below : (b : ℕ) → b < v.records.log.begin → value_of (newest cmp v.records.text (key_of x.op) b) ≡ None
    nothing-below b under =
        let from = from_first s.traced in
        ap value_of (newest-under cmp v.records (key_of x.op) b s.traced (omega arith))

    told-at : (r : ChainResult K V) (value : Option V) → Tells join v.records.log.begin r value → combined join (end_of cmp v.records (key_of x.op) r.position) r.parts ≡ value
    told-at r value (found e parts) = refl
    told-at r value (ended b parts under) = ap (λ o. combined join o parts) (nothing-below b under)

    -- the value that is told is what the key has from where the entry led
    pub newest-told : IsTrue keeps → (r : ChainResult K V) (value : Option V) → result ≡ Ok r → Tells join v.records.log.begin r value → value_of (newest cmp v.records.text (key_of x.op) (address_of l.kept.word)) ≡ value
    newest-told yes_keeps r value is tells = newest-at yes_keeps r is ∙ told-at r value tells

    pub kept-told : (r : ChainResult K V) (value : Option V) → result ≡ Ok r → Tells join v.records.log.begin r value → IsKept keeps cmp code v.records (key_of x.op) l.kept value
    kept-told r value is tells =
        let h = loading-at in
        record {
          entry = h.entry;
          low = h.low;
          value = λ yes_keeps here. newest-told yes_keeps r value is tells;
          nowhere = λ yes_keeps none. sym (newest-told yes_keeps r value is tells) ∙ ap value_of (newest-nowhere cmp v.records (key_of x.op) (address_of l.kept.word) s.traced none);
          still = λ yes_keeps here. (h.leads yes_keeps a.begin).still;
        }

    -- the way goes on in a lower page
    module _ (b : ℕ) (parts : Option V) (is : result ≡ Ok (record { parts = parts; position = Below b })) (high : v.records.log.begin ≤ b) where
      lower : page_at v.records.log.bits b < page_at v.records.log.bits l.wanted
      lower = lower_page v.records b (page_at v.records.log.bits l.wanted) s.traced high (gathered-low join (entry v.records.log.bits bytes) cmp (key_of x.op) v.records.log.bits floor l.wanted b l.parts result came.reads (ap left_of is))

      below-wanted : (t : Bool) → nat_lt b l.wanted ≡ t → b < l.wanted
      below-wanted true h = ltb-true b l.wanted h
      below-wanted false h =
          let le : l.wanted ≤ b = grind (arith, nat_tests) in
          let up = page_rises v.records.log.bits l.wanted b le in
          let low = lower in
          absurd (omega arith)

      pub further-flushed : HasReceipt v.records.log.receipts (page_at v.records.log.bits b)
      further-flushed = lower_flushed v.records b (page_at v.records.log.bits l.wanted) s.traced high lower wanted-flushed

      further-between : IsTrue keeps → AreDeltasBetween cmp v.records.log.text (key_of x.op) b (address_of l.kept.word)
      further-between yes_keeps e m own above under = elim (cases_lt l.wanted e.address) [
        | inl past ↦ (loading-at.leads yes_keeps a.begin).between e m own past under
        | inr within ↦ between_tells cmp code v.records (key_of x.op) order (raw-traced cmp join v.records s.resolved.is s.traced) join floor l.wanted l.parts (record { parts = parts; position = Below b }) (goes yes_keeps _ is) e m own within above
      ]

      pub further-stands : IsLoading keeps cmp join code v.records (key_of x.op) (record l { wanted = b; parts = parts })
      further-stands =
          let h = loading-at in
          let under = below-wanted (nat_lt b l.wanted) refl in
          let on_disk = h.on_disk in
          record {
            entry = h.entry;
            low = h.low;
            begun = (let same = a.begin in omega arith);
            past = h.past;
            on_disk = omega arith;
            leads = λ yes_keeps same. record {
              class = λ begins. way-class cmp join code v.records (key_of x.op) floor l.wanted l.parts _ (goes yes_keeps _ is) b refl begins;
              still = (h.leads yes_keeps same).still;
              newest = newest-at yes_keeps (record { parts = parts; position = Below b }) is;
              between = further-between yes_keeps;
            };
          }

-- the receipt that is kept of a page that was read by another
pub stranger-kept : {K V I : Type 0} (u v : PartitionView K V I) (page wanted : ℕ) (st : Standing) (why : Refused)
    → u ≡ v
    → page ≡ page_at u.records.log.bits wanted
    → HasReceipt v.records.log.receipts (page_at v.records.log.bits wanted)
    → IfSome (receipt_at u.records.log.receipts page) (λ s. (s ≢ st) × (why ≡ Stranger what.Receipt s.number st.number))
    → (s : Standing) × (receipt_at v.records.log.receipts (page_at v.records.log.bits wanted) ≡ Some s) × (s ≢ st) × (why ≡ Stranger what.Receipt s.number st.number)
stranger-kept {K} {V} {I} u v page wanted st why same page_is there told =
    by_get (receipt_at v.records.log.receipts (page_at v.records.log.bits wanted)) refl
    (subst (λ (w : PartitionView K V I). IfSome (receipt_at w.records.log.receipts (page_at w.records.log.bits wanted)) (λ s. (s ≢ st) × (why ≡ Stranger what.Receipt s.number st.number))) same
    (subst (λ (n : ℕ). IfSome (receipt_at u.records.log.receipts n) (λ s. (s ≢ st) × (why ≡ Stranger what.Receipt s.number st.number))) page_is told))
  where
    by_get : (o : Option Standing) → receipt_at v.records.log.receipts (page_at v.records.log.bits wanted) ≡ o → IfSome o (λ s. (s ≢ st) × (why ≡ Stranger what.Receipt s.number st.number))
        → (s : Standing) × (receipt_at v.records.log.receipts (page_at v.records.log.bits wanted) ≡ Some s) × (s ≢ st) × (why ≡ Stranger what.Receipt s.number st.number)
    by_get None h t = absurd (let bad = rw h at there in cc)
    by_get (Some s) h t = (s, h, t.0, t.1)

-- what is told, by the operation
pub told-done : {K V I O R : Type 0} (stands : R → Standing) (entry : ℕ → List ℕ → ℕ → Entry K V → Type 0) (cmp : K → K → Ordering) (join : V → V → V) (f : Meanings K V I O) (old new : PartitionView K V I) (slot c now : ℕ) (x : Context K V I) (l : Loading V) (p : Joined R) (value : Option V) (q : Progress K V I O R)
    → MayLoad x.op
    → IsTold stands entry cmp join old slot c x l p value
    → ((k : K) (i : I) → x.op ≡ Read k i → (new ≡ with_context old slot c None now) × (q ≡ Done (shown_of f k i value) l.looked))
    → ((k : K) (i : I) → x.op ≡ Rmw k i → (new ≡ with_context old slot c (Some (at_phase x (Prepared l.kept value))) now) × (q ≡ NeedsBuild (record { number = x.number; key = k; source = value; input = i })))
    → Loads stands entry cmp join f old new slot c (Ok p) now (Ok q)
told-done stands entry cmp join f old new slot c now x l p value q may told read update = elim may.1 [
  | inl is ↦ (let h = read (key_of x.op) may.0 is in Loads.done x l p (key_of x.op) may.0 value told refl is h.0 (ap Ok h.1))
  | inr is ↦ (let h = update (key_of x.op) may.0 is in Loads.prepares x l p (key_of x.op) may.0 value told refl is h.0 (ap Ok h.1))
]

-- another page is asked for, or the memory to share its receipt is refused
pub further-done : {K V I O R : Type 0} (stands : R → Standing) (entry : ℕ → List ℕ → ℕ → Entry K V → Type 0) (cmp : K → K → Ordering) (join : V → V → V) (f : Meanings K V I O) (old new : PartitionView K V I) (slot c now : ℕ) (x : Context K V I) (l : Loading V) (p : Joined R) (b : ℕ) (parts : Option V)
    → ReadsOn entry cmp join old slot c x l (stands p.receipt) p.bytes (Ok (record { parts = parts; position = Below b }))
    → old.records.log.begin ≤ b
    → IsRecordStart old.records.log.bits old.records.record_size b
    → (result : Result (Progress K V I O R) Refused)
    → IfOk result (λ progress. (r : R) × (progress ≡ NeedsLoad r b) × IsHeldBy old.records.log.receipts (page_at old.records.log.bits b) (stands r))
    → OnOk result (new ≡ with_context old slot c (Some (at_phase x (Load (record l { wanted = b; parts = parts })))) now)
    → IfErr result (λ refused. refused ≡ NoMemory)
    → OnErr result (new ≡ old)
    → Loads stands entry cmp join f old new slot c (Ok p) now result
further-done stands entry cmp join f old new slot c now x l p b parts reads high place (Ok q) asked effect only err = Loads.goes_on x l p b parts asked.0 reads refl high place asked.2 effect (ap Ok asked.1)
further-done stands entry cmp join f old new slot c now x l p b parts reads high place (Err why) asked effect only err = Loads.unshared x l p b parts reads refl high place err (ap Err only)

-- ---- what an operation waits for
module _ {K V I : Type 0} (v : PartitionView K V I) (slot c : ℕ) where
  pub waits-none : context_at v slot c ≡ None → (page : ℕ) → WaitsFor v slot c page → ⊥
  waits-none none page w = let bad : None ≡ Some w.operation = sym none ∙ w.awaits.here in absurd (cc)

  waits-open : (x : Context K V I) → context_at v slot c ≡ Some x → (page : ℕ) (w : WaitsFor v slot c page) → x.phase ≡ Load w.loading
  waits-open x here page w = let same : Some x ≡ Some w.operation = sym here ∙ w.awaits.here in let is : x ≡ w.operation = cc in ap (λ (y : Context K V I). y.phase) is ∙ w.awaits.loading

  pub waits-not : (x : Context K V I) → context_at v slot c ≡ Some x → loading_by x.phase ≡ None → (page : ℕ) → WaitsFor v slot c page → ⊥
  waits-not x here none page w = let bad : None ≡ Some w.loading = sym none ∙ ap loading_by (waits-open x here page w) in absurd (cc)

  pub waits-moved : (x : Context K V I) (l : Loading V) → context_at v slot c ≡ Some x → x.phase ≡ Load l → l.begin ≢ v.records.log.begin → (page : ℕ) → WaitsFor v slot c page → ⊥
  waits-moved x l here phase other page w =
      let same : Load l ≡ Load w.loading = sym phase ∙ waits-open x here page w in
      let is : l ≡ w.loading = cc in
      other (ap (λ (q : Loading V). q.begin) is ∙ w.awaits.begin)

-- ---- what a load that reads for itself comes to
module _ {R S A : Type 0} {stands : R → Standing} {receipts : List (Option Standing)} {awaits : ℕ → Type 0} {loads : Result (Joined R) Refused → Type 0} {old new : S} {before after_ : ℕ} {result : Result A Refused} where
  -- what any load does, or nothing
  pub reads-any : (P : Type 0) → ReadsBy stands receipts awaits loads old new before after_ result → ((came : Result (Joined R) Refused) → loads came → P)
      → ((why : Refused) → new ≡ old → result ≡ Err why → P) → P
  reads-any P (ReadsBy.idle _ all same) come stay = come (Err NoMemory) (all (Err NoMemory))
  reads-any P (ReadsBy.came page p at own does same) come stay = come (Ok p) does
  reads-any P (ReadsBy.failed page why at fails is r) come stay = stay why is r

-- a read that failed was counted, or memory was wanted
pub counted-why : {page before after_ : ℕ} (why : Refused) → ReadFailsBy page before after_ why → after_ ≢ before → why ≢ NoMemory
counted-why why (inl (inl m)) other = absurd (other m.1)
counted-why why (inl (inr d)) other = λ e. let is = d.0 in absurd (cc)
counted-why why (inr d) other = λ e. let is = d.0 in absurd (cc)
