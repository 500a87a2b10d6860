-- What a page on the way from the entry of a record's class down to its place tells of the record.
use Rattle.std.proofs.Common.{◌≡◌, ◌+◌, ◌<◌, ◌≤◌, inl, inr, nat_le, ℕ, Bool, true, false, cond, nat_lt, IsTrue, List, Option, Some, None, refl, sym, ap, subst, ◌∙◌, arith}
use Rattle.std.proofs.lemmas.Bool.Decides.{nat_tests}
use Rattle.std.proofs.lemmas.Bool.{cases_lt, ltb-true}
use Rattle.std.specs.Prelude.{Result, Ok, Err}
use Rattle.std.specs.declared.cmp.Ordering.{Ordering}
use Rattle.fkv_functions.specs.Plain.{IsKeyOrder}
use Rattle.fkv_functions.specs.declared.refusals.Refused.{Refused}
use Rattle.fkv_records.specs.Places.{page_at, IsRecordStart}
use Rattle.fkv_device.specs.Standing.{Standing}
use Rattle.fkv_texts.specs.declared.entries.Entry.{Entry}
use Rattle.fkv_texts.specs.declared.entries.ChainPosition.TheVariants.{Below}
use Rattle.fkv_texts.specs.Text.{entry_at, has_key, newest, last_of, value_of}
use Rattle.fkv_texts.specs.Chains.{IsIn}
use Rattle.fkv_texts.specs.Deltas.{combined, IsSuperseded}
use Rattle.fkv_texts.proofs.CoverLemmas.{cleared-lower}
use Rattle.fkv_hybrid.specs.Loads.{HasReceipt, IsHeldBy, first_place}
use Rattle.fkv_hybrid.proofs.FrameLemmas.{page_rises}
use Rattle.fkv_index.specs.Words.{address_of}
use Rattle.fkv_index.specs.Places.{word_at}
use Rattle.fkv_lookups.specs.declared.chain_results.ChainResult.{ChainResult}
use Rattle.fkv_lookups.specs.Lookups.{IsOfClass, ComesTo, ComesToInPage, end_of, at_of}
use Rattle.fkv_lookups.specs.RecordsViews.{RecordsView, class_in}
use Rattle.fkv_lookups.proofs.TracedLemmas.{raw, traced-raw, traced-held, entry-stands}
use Rattle.fkv_lookups.proofs.LookupLemmas.{raw-traced, values_tell, between_tells}
use Rattle.fkv_partition.specs.declared.contexts.Loading.{Loading}
use Rattle.fkv_partition.specs.KeySound.{IsLoading, IsSound}
use Rattle.fkv_partition.specs.Views.{partition_of, PartitionView}
use Rattle.fkv_partition.proofs.DecidedLemmas.{page_flushed, lower_flushed, lower_page}
use Rattle.fkv_partition.proofs.LoadLemmas.{left_of, gathered-low}
use Rattle.fkv_partition.proofs.StoodLemmas.{rises}
use Rattle.fkv_partition.specs.declared.relocations.Relocation.{Relocation}
use Rattle.fkv_partition.specs.declared.relocations.Liveness.TheVariants.{Superseded, Last, Further}
use Rattle.fkv_partition.specs.declared.relocations.Stage.{Stage}
use Rattle.fkv_partition.specs.declared.relocations.Stage.TheVariants.{Fresh, Reading, Tracing, Ready}
use Rattle.fkv_partition.specs.Going.{Awaited, awaited_by}
use Rattle.fkv_partition.specs.Reading.{AwaitsPage, HasPage, TracesTo}
use Rattle.fkv_partition.specs.Sound.{IsCompacting}
use Rattle.fkv_partition.specs.Stages.{IsTracing, RelocationStands, StageStands}
use Rattle.fkv_partition.specs.Checking.{liveness, higher_of, renewed}
use Rattle.fkv_partition.proofs.MoveLemmas.{stands-here}
use Rattle.fkv_partition.proofs.ReadLemmas.{kept-from, same-awaited, place-flushed}
use Rattle.fkv_partition.proofs.DamageLemmas.{class-place}
use Rattle.fkv_partition.proofs.CheckingLemmas.{higher-left, higher-right, stands-in, found-in, way-class, met-dead, lands, place-value, ready-by, at-last, at-further}

-- ---- what the page that came says
pub record CameOf {K V : Type 0} (keeps : Bool) (entry : ℕ → List ℕ → ℕ → Entry K V → Type 0) (cmp : K → K → Ordering) (join : V → V → V) (code : K → ℕ) (r : RecordsView K V) (place : ℕ) (key : K) (l : Loading V) (st : Standing) (bytes : List ℕ)
    (result : Result (ChainResult K V) Refused) : Type 0 where
  pub own : IsHeldBy r.log.receipts (page_at r.log.bits l.wanted) st
  pub reads : ComesToInPage join (entry r.log.bits bytes) cmp key r.log.bits (higher_of (place + 1) (first_place r.log.bits (page_at r.log.bits l.wanted))) l.wanted l.parts result
  pub kept : IsTrue keeps
      → r.log.begin ≤ l.wanted
      → IsOfClass code r key l.wanted
      → (q : ChainResult K V) × (result ≡ Ok q) × ComesTo cmp join code r key (higher_of (place + 1) (first_place r.log.bits (page_at r.log.bits l.wanted))) l.wanted l.parts q

pub page-came : {K V : Type 0} (keeps : Bool) (entry : ℕ → List ℕ → ℕ → Entry K V → Type 0) (cmp : K → K → Ordering) (join : V → V → V) (code : K → ℕ) (a d u v : RecordsView K V) (place : ℕ) (key : K) (page low : ℕ) (l : Loading V) (st : Standing) (bytes : List ℕ) (result : Result (ChainResult K V) Refused)
    → a ≡ v
    → d ≡ v
    → u ≡ v
    → page ≡ page_at a.log.bits l.wanted
    → low ≡ higher_of (place + 1) (first_place d.log.bits page)
    → IsHeldBy v.log.receipts (page_at v.log.bits l.wanted) st
    → ComesToInPage join (entry u.log.bits bytes) cmp key u.log.bits low l.wanted l.parts result
    → (IsTrue keeps
    → u.log.begin ≤ l.wanted
    → IsOfClass code u key l.wanted
    → (r : ChainResult K V) × (result ≡ Ok r) × ComesTo cmp join code u key low l.wanted l.parts r)
    → CameOf keeps entry cmp join code v place key l st bytes result
page-came {K} {V} keeps entry cmp join code a d u v place key page low l st bytes result a_is d_is u_is page_is low_is held reads kept =
    let at : page ≡ page_at v.log.bits l.wanted = page_is ∙ ap (λ (w : RecordsView K V). page_at w.log.bits l.wanted) a_is in
    let floor : low ≡ higher_of (place + 1) (first_place v.log.bits (page_at v.log.bits l.wanted)) =
    low_is ∙ ap (λ (w : RecordsView K V). higher_of (place + 1) (first_place w.log.bits page)) d_is ∙ ap (λ n. higher_of (place + 1) (first_place v.log.bits n)) at in
    record {
      own = held;
      reads = rw floor at (subst (λ (w : RecordsView K V). ComesToInPage join (entry w.log.bits bytes) cmp key w.log.bits low l.wanted l.parts result) u_is reads);
      kept = rw floor at (subst (λ (w : RecordsView K V). IsTrue keeps → w.log.begin ≤ l.wanted → IsOfClass code w key l.wanted → (r : ChainResult K V) × (result ≡ Ok r) × ComesTo cmp join code w key low l.wanted l.parts r) u_is kept);
    }

module _ {K V I : Type 0} {keeps : Bool} (cmp : K → K → Ordering) (join : V → V → V) (code : K → ℕ) (order : IsKeyOrder cmp) (v : PartitionView K V I) (sound : IsSound keeps cmp join code v) (s : IsCompacting keeps cmp join code v) (slot c : ℕ) (x : Relocation K V) (e : Entry K V) (l : Loading V)
    (a : AwaitsPage v slot c x l.wanted) (at : x.stage ≡ Tracing e l) where
  stands : RelocationStands keeps cmp join code v v.cleared x
  stands = stands-here v slot c x a.here s

  staged : (partition_of v.count (code e.key) ≡ v.number) × IsTracing keeps cmp join code v.records x.target e l
  staged = subst (λ (q : Stage K V). StageStands keeps cmp join code v x.target q) at stands.stage

  tracing : IsTracing keeps cmp join code v.records x.target e l
  tracing = staged.1

  begin-same : l.begin ≡ v.records.log.begin
  begin-same = (same-awaited (record { begin = l.begin; wanted = l.wanted }) (record { begin = v.records.log.begin; wanted = l.wanted }) (sym (ap (λ (q : Stage K V). awaited_by x.target q) at) ∙ a.awaits)).0

  begun : v.records.log.begin ≤ l.wanted
  begun = let h = tracing.loading.begun in let same = begin-same in omega arith

  -- its page is flushed
  pub way-flushed : HasReceipt v.records.log.receipts (page_at v.records.log.bits l.wanted)
  way-flushed = page_flushed v.records l.wanted sound.traced begun tracing.loading.on_disk

  text-begins : IsTrue keeps → v.records.log.from ≤ l.wanted
  text-begins yes_keeps = let from = kept-from v.records sound.traced yes_keeps in let h = begun in omega arith

  -- on a device that keeps, while Begin stands, the record read is that of the place
  pub is-own : IsTrue keeps → entry_at v.records.log.text x.target ≡ Some e
  is-own yes_keeps = tracing.is yes_keeps begin-same

  -- the lowest address that is followed in the page
  abbrev floor : ℕ
  floor = higher_of (x.target + 1) (first_place v.records.log.bits (page_at v.records.log.bits l.wanted))

  floor-above : x.target < floor
  floor-above = let up = higher-left (x.target + 1) (first_place v.records.log.bits (page_at v.records.log.bits l.wanted)) in omega arith

  floor-page : first_place v.records.log.bits (page_at v.records.log.bits l.wanted) ≤ floor
  floor-page = higher-right (x.target + 1) (first_place v.records.log.bits (page_at v.records.log.bits l.wanted))

  -- a way out that lies above the place leaves the page
  floor-under : (b : ℕ) → b < floor → x.target < b → b < first_place v.records.log.bits (page_at v.records.log.bits l.wanted)
  floor-under b under high = by_test (nat_le (x.target + 1) (first_place v.records.log.bits (page_at v.records.log.bits l.wanted))) refl under
    where
      by_test : (q : Bool) → nat_le (x.target + 1) (first_place v.records.log.bits (page_at v.records.log.bits l.wanted)) ≡ q → b < cond q (first_place v.records.log.bits (page_at v.records.log.bits l.wanted)) (x.target + 1) → b < first_place v.records.log.bits (page_at v.records.log.bits l.wanted)
      by_test true h less = less
      by_test false h less = absurd (omega (arith, less, high))

  module _ (entry : ℕ → List ℕ → ℕ → Entry K V → Type 0) (st : Standing) (bytes : List ℕ) (result : Result (ChainResult K V) Refused) (came : CameOf keeps entry cmp join code v.records x.target e.key l st bytes result) where
    pub has-page : HasPage v slot c x l.wanted st
    has-page = record { awaits = a; own = came.own }

    pub traces-to : (r : Result (ChainResult K V) Refused) → result ≡ r → TracesTo entry cmp join v x.target e.key l bytes r
    traces-to r is = subst (λ q. TracesTo entry cmp join v x.target e.key l bytes q) is came.reads

    goes : IsTrue keeps → (r : ChainResult K V) → result ≡ Ok r → ComesTo cmp join code v.records e.key floor l.wanted l.parts r
    goes yes_keeps r is =
        let k = came.kept yes_keeps begun ((tracing.loading.leads yes_keeps begin-same).class (text-begins yes_keeps)) in
        let both : Ok k.0 ≡ Ok r = sym k.1 ∙ is in
        let same : k.0 ≡ r = cc in
        subst (ComesTo cmp join code v.records e.key floor l.wanted l.parts) same k.2

    -- on a device that keeps, its bytes spell the records on the way
    pub way-undamaged : {P : Type 0} {why : Refused} → IsTrue keeps → result ≡ Err why → P
    way-undamaged {P} {why} yes_keeps is =
        let k = came.kept yes_keeps begun ((tracing.loading.leads yes_keeps begin-same).class (text-begins yes_keeps)) in
        let bad : Ok k.0 ≡ Err why = sym k.1 ∙ is in
        absurd (cc)

    -- a newer record of the key that is no delta was met: the record of the place is superseded
    pub way-dead : (r : ChainResult K V) → result ≡ Ok r → liveness x.target r ≡ Superseded → IsTrue keeps → (y : Entry K V) → entry_at v.records.log.text x.target ≡ Some y → IsSuperseded cmp v.records.log.text y
    way-dead r is j yes_keeps y here =
        let own = is-own yes_keeps in
        let both : Some e ≡ Some y = sym own ∙ here in
        let same : e ≡ y = cc in
        subst (λ (d : Entry K V). IsSuperseded cmp v.records.log.text d) same
        (met-dead cmp join code order v.records sound.traced sound.resolved x.target e own floor l.wanted l.parts r (goes yes_keeps r is) j)

    -- what its key has from where the entry led, by where the way stands
    led-value : IsTrue keeps → (r : ChainResult K V) → result ≡ Ok r → value_of (newest cmp v.records.text e.key (address_of l.kept.word)) ≡ combined join (end_of cmp v.records e.key r.position) r.parts
    led-value yes_keeps r is =
        (tracing.loading.leads yes_keeps begin-same).newest
        ∙ values_tell cmp join code v.records e.key order sound.traced sound.resolved floor l.wanted l.parts r (goes yes_keeps r is)

    -- the records of the key down to there are deltas
    led-deltas : IsTrue keeps → (r : ChainResult K V) → result ≡ Ok r → (d : Entry K V) → IsIn v.records.log.text d → has_key cmp e.key d ≡ true → at_of r.position < d.address → d.address ≤ address_of l.kept.word → d.delta ≡ true
    led-deltas yes_keeps r is d m own past low = elim (cases_lt l.wanted d.address) [
      | inl high ↦ (tracing.loading.leads yes_keeps begin-same).between d m own high low
      | inr within ↦ between_tells cmp code v.records e.key order (raw-traced cmp join v.records sound.resolved.is sound.traced) join floor l.wanted l.parts r (goes yes_keeps r is) d m own within past
    ]

    -- none was met above the place: its record is appended, joined with the parts of the deltas
    module _ (r : ChainResult K V) (parts : Option V) (is : result ≡ Ok r) (j : liveness x.target r ≡ Last parts) where
      ends-here : IsTrue keeps → (r.parts ≡ parts) × (r.position ≡ Below x.target)
      ends-here yes_keeps =
          let g = goes yes_keeps r is in
          let l2 = at-last x.target r.parts parts r.position j in (
            l2.0,
            elim l2.1 [
              | inl found ↦ absurd (let f = found-in cmp join code v.records e.key floor l.wanted l.parts r g found.0 found.1 in let up = floor-above in let high = f.3 in let low = found.2 in omega (arith, up, high, low))
              | inr below ↦
                  (let above = tracing.above in
                  let up = lands cmp join code order v.records sound.traced sound.resolved x.target e (is-own yes_keeps) floor l.wanted l.parts r floor-above (omega (arith, above)) g below.0 below.1 in
                  let down = below.2 in
                  below.1 ∙ ap Below (omega (arith, up, down)))
            ],
          )

      led-last : IsTrue keeps → word_at v.records.words l.kept.place ≡ l.kept.word → newest cmp v.records.log.text e.key (address_of l.kept.word) ≡ last_of cmp v.records.log.text e.key
      led-last yes_keeps holds =
          let w = tracing.loading.entry in
          let class = class_in code v.records e.key in
          let raw_traced = traced-raw sound.traced sound.resolved in
          traced-held cmp code (raw v.records) e.key order raw_traced (address_of l.kept.word)
          (entry-stands v.records.words class.bucket class.tag l.kept.place l.kept.word sound.traced.map (record { bucket = w.bucket; place = w.place; word = holds; final = w.final; tag = w.tag }))

      last-value : IsTrue keeps → word_at v.records.words l.kept.place ≡ l.kept.word → value_of (newest cmp v.records.text e.key (address_of l.kept.word)) ≡ combined join e.value parts
      last-value yes_keeps holds =
          let ends = ends-here yes_keeps in
          let issued = stands.issued in
          place-value cmp join code order v.records sound.traced sound.resolved x.target e (is-own yes_keeps) (address_of l.kept.word) parts (led-last yes_keeps holds)
          (λ d m own above low. led-deltas yes_keeps r is d m own (subst (λ n. n < d.address) (sym (ap at_of ends.1)) above) low)
          (cleared-lower cmp v.records.log.text x.target v.cleared issued (s.cleared yes_keeps))
          (led-value yes_keeps r is
          ∙ ap (λ p. combined join (end_of cmp v.records e.key p) r.parts) ends.1
          ∙ ap (combined join (value_of (newest cmp v.records.text e.key x.target))) ends.0)

      pub way-last : StageStands keeps cmp join code v x.target (Ready (renewed join e parts) l.kept)
      way-last = (
        staged.0,
        ready-by cmp join code order v.records sound.traced x.target e parts l.kept tracing.here tracing.some tracing.loading.entry tracing.loading.low is-own last-value
            (λ yes_keeps holds. (tracing.loading.leads yes_keeps begin-same).still)
            (λ yes_keeps none.
            let st = stands-in cmp order v.records.log.text (rises cmp join v.records sound.resolved sound.traced) x.target e (is-own yes_keeps) in
            let from = kept-from v.records sound.traced yes_keeps in
            let least = sound.traced.first in
            let low : v.records.log.from ≤ e.address = (traced-raw sound.traced sound.resolved).from st.0.place e st.0.here in
            let up = tracing.led yes_keeps in
            omega (arith, st.1, from, least, low, up, none))
            (λ yes_keeps d m own above low. led-deltas yes_keeps r is d m own (subst (λ n. n < d.address) (sym (ap at_of (ends-here yes_keeps).1)) above) low),
      )

    -- the way goes on above the place, in a lower page
    module _ (r : ChainResult K V) (b : ℕ) (parts : Option V) (is : result ≡ Ok r) (j : liveness x.target r ≡ Further b parts) where
      further : (r.position ≡ Below b) × (x.target < b) × (r.parts ≡ parts)
      further = at-further x.target r.parts parts r.position b j

      came-at : r ≡ record { parts = parts; position = Below b }
      came-at = λ i. record { parts = further.2 i; position = further.0 i }

      is-below : result ≡ Ok (record { parts = parts; position = Below b })
      is-below = is ∙ ap Ok came-at

      pub above-place : x.target < b
      above-place = further.1

      pub way-below : TracesTo entry cmp join v x.target e.key l bytes (Ok (record { parts = parts; position = Below b }))
      way-below = traces-to (Ok (record { parts = parts; position = Below b })) is-below

      begins : v.records.log.begin ≤ b
      begins = let up = above-place in let h = tracing.begun in let same = begin-same in omega arith

      -- on a device that keeps, a record of the class stands there
      way-stands : IsTrue keeps → IsOfClass code v.records e.key b
      way-stands yes_keeps = way-class cmp join code v.records e.key floor l.wanted l.parts r (goes yes_keeps r is) b further.0 (let from = kept-from v.records sound.traced yes_keeps in let low = begins in omega arith)

      pub way-place : IsTrue keeps → IsRecordStart v.records.log.bits v.records.record_size b
      way-place yes_keeps = class-place v.records sound.traced sound.resolved e.key b (way-stands yes_keeps)

      out-low : b < floor
      out-low = gathered-low join (entry v.records.log.bits bytes) cmp e.key v.records.log.bits floor l.wanted b l.parts result came.reads (ap left_of is-below)

      lower : page_at v.records.log.bits b < page_at v.records.log.bits l.wanted
      lower = lower_page v.records b (page_at v.records.log.bits l.wanted) sound.traced begins (floor-under b out-low above-place)

      below-wanted : (t : Bool) → nat_lt b l.wanted ≡ t → b < l.wanted
      below-wanted true h = ltb-true b l.wanted h
      below-wanted false h =
          let le : l.wanted ≤ b = grind (arith, nat_tests) in
          let up = page_rises v.records.log.bits l.wanted b le in
          let low = lower in
          absurd (omega arith)

      pub lower-flushed : HasReceipt v.records.log.receipts (page_at v.records.log.bits b)
      lower-flushed = lower_flushed v.records b (page_at v.records.log.bits l.wanted) sound.traced begins lower way-flushed

      loading-lower : IsLoading keeps cmp join code v.records e.key (record l { wanted = b; parts = parts })
      loading-lower =
          let h = tracing.loading in
          let under = below-wanted (nat_lt b l.wanted) refl in
          let on_disk = h.on_disk in
          let up = above-place in
          let low = tracing.begun in
          record {
            entry = h.entry;
            low = h.low;
            begun = omega arith;
            past = h.past;
            on_disk = omega arith;
            leads = λ yes_keeps same. record {
              class = λ begins. way-class cmp join code v.records e.key floor l.wanted l.parts r (goes yes_keeps r is) b further.0 begins;
              still = (h.leads yes_keeps same).still;
              newest =
                  led-value yes_keeps r is
                  ∙ ap (λ p. combined join (end_of cmp v.records e.key p) r.parts) further.0
                  ∙ ap (combined join (value_of (newest cmp v.records.text e.key b))) further.2;
              between = λ d m own past low. led-deltas yes_keeps r is d m own (subst (λ n. n < d.address) (sym (ap at_of further.0)) past) low;
            };
          }

      pub way-further : StageStands keeps cmp join code v x.target (Tracing e (record l { wanted = b; parts = parts }))
      way-further = (
        staged.0,
        record {
          here = tracing.here;
          some = tracing.some;
          begun = tracing.begun;
          above = above-place;
          led = tracing.led;
          loading = loading-lower;
          is = tracing.is;
        },
      )

-- the page that a relocation waits for is flushed
module _ {K V I : Type 0} {keeps : Bool} (cmp : K → K → Ordering) (join : V → V → V) (code : K → ℕ) (order : IsKeyOrder cmp) (v : PartitionView K V I) (sound : IsSound keeps cmp join code v) (s : IsCompacting keeps cmp join code v) (slot c : ℕ) (x : Relocation K V) (wanted : ℕ)
    (a : AwaitsPage v slot c x wanted) where
  abbrev asked_by : Stage K V → Option Awaited
  asked_by q = awaited_by x.target q

  waits-none : (q : Stage K V) → x.stage ≡ q → asked_by q ≡ None → ⊥
  waits-none q at none = let bad = sym none ∙ sym (ap asked_by at) ∙ a.awaits in absurd (cc)

  same-begin : (q : Stage K V) (begin at : ℕ) → x.stage ≡ q → asked_by q ≡ Some (record { begin = begin; wanted = at }) → (begin ≡ v.records.log.begin) × (at ≡ wanted)
  same-begin q begin at is told = same-awaited (record { begin = begin; wanted = at }) (record { begin = v.records.log.begin; wanted = wanted }) (sym told ∙ sym (ap asked_by is) ∙ a.awaits)

  pub awaited-flushed : HasReceipt v.records.log.receipts (page_at v.records.log.bits wanted)
  awaited-flushed = by_stage x.stage refl
    where
      by_stage : (q : Stage K V) → x.stage ≡ q → HasReceipt v.records.log.receipts (page_at v.records.log.bits wanted)
      by_stage Fresh at = absurd (waits-none Fresh at refl)
      by_stage (Ready e kept) at = absurd (waits-none (Ready e kept) at refl)
      by_stage (Reading begin) at =
          let same = same-begin (Reading begin) begin x.target at refl in
          subst (λ (n : ℕ). HasReceipt v.records.log.receipts (page_at v.records.log.bits n)) same.1 (place-flushed cmp join code v sound s slot c x begin at same.0 a.here)
      by_stage (Tracing e l) at =
          let same = same-begin (Tracing e l) l.begin l.wanted at refl in
          let here = subst (λ (n : ℕ). AwaitsPage v slot c x n) (sym same.1) a in
          subst (λ (n : ℕ). HasReceipt v.records.log.receipts (page_at v.records.log.bits n)) same.1 (way-flushed cmp join code order v sound s slot c x e l here at)
