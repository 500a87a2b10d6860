-- A look-up on its way: along a chain in memory, and along what the bytes of a loaded page spell.
use Rattle.std.proofs.Common.{◌≡◌, ◌<◌, ◌≤◌, ℕ, Bool, true, false, List, [], ◌∷◌, Option, Some, None, refl, sym, ◌∙◌, ap, subst, arith}
use Rattle.std.specs.Prelude.{Result, Ok, Err, IsTrue}
use Rattle.std.specs.declared.cmp.Ordering.{Ordering}
use Rattle.fkv_functions.specs.Codecs.{Codec}
use Rattle.fkv_functions.specs.Plain.{IsKeyOrder}
use Rattle.fkv_functions.specs.declared.refusals.Refused.{Refused}
use Rattle.fkv_texts.specs.declared.entries.Entry.{Entry}
use Rattle.fkv_texts.specs.declared.entries.ChainPosition.{ChainPosition}
use Rattle.fkv_texts.specs.declared.entries.ChainPosition.TheVariants.{Found, Below}
use Rattle.fkv_texts.specs.Text.{entry_at, has_key, newest}
use Rattle.fkv_texts.specs.Chains.{IsIn, IsChainFrom}
use Rattle.fkv_texts.specs.Chains.IsChainFrom.{ends, goes}
use Rattle.fkv_texts.specs.Deltas.{combined, resolved}
use Rattle.fkv_records.specs.Places.{page_at, IsShape}
use Rattle.fkv_records.specs.Records.{size_of}
use Rattle.fkv_hybrid.specs.Spelled.{IsEntryIn}
use Rattle.fkv_hybrid.specs.Loads.{IsReached, first_place}
use Rattle.fkv_hybrid.proofs.ReadLemmas.{entry_falls}
use Rattle.fkv_hybrid.specs.Loads.IsReached.{below as reached_below, none as reached_none, found as reached_found, on as reached_on}
use Rattle.fkv_lookups.specs.declared.chain_results.ChainResult.{ChainResult}
use Rattle.fkv_lookups.specs.RecordsViews.{RecordsView, class_in, entry_of}
use Rattle.fkv_lookups.specs.Traced.{IsTraced}
use Rattle.fkv_lookups.specs.Lookups.{falling_from, newest_above, looked_up, at_of, IsOfClass, ComesTo, ComesToInPage}
use Rattle.fkv_lookups.specs.Lookups.ComesTo.{found as goes_found, below as goes_below, joins as goes_joins}
use Rattle.fkv_lookups.specs.Lookups.ComesToInPage.{refused as gathered_refused, below as gathered_below, found as gathered_found, joins as gathered_joins}
use Rattle.fkv_lookups.proofs.LookupLemmas.{raw, raw-traced, page_up, over, first_on, passes, stops, collects, up_chain, first_is, record_falls, newest_next, step_tells, FirstComesTo}
use Rattle.fkv_lookups.proofs.LookupLemmas.FirstComesTo.{first_found, first_below}

-- ---- in memory
-- from the address of a class's entry: it stands at a chain, whose first record of the key it knows, and what it gathers
-- from there is what it comes to
pub record IsOnWay {K V : Type 0} (cmp : K → K → Ordering) (join : V → V → V) (code : K → ℕ) (v : RecordsView K V) (k : K) (low entry : ℕ) (parts : Option V) (position : ChainPosition K V) : Type 0 where
  pub at : ℕ
  pub rest : List (Entry K V)
  pub chain : IsChainFrom low v.log.text at rest
  pub first : position ≡ first_on cmp k at rest
  pub same : looked_up cmp join code v low k entry ≡ over cmp join k parts at rest

-- what follows the first record of the key
record IsMetOn {K V : Type 0} (cmp : K → K → Ordering) (join : V → V → V) (text : List (Entry K V)) (k : K) (low a : ℕ) (es : List (Entry K V)) (d : Entry K V) : Type 0 where
  pub rest : List (Entry K V)
  pub chain : IsChainFrom low text d.previous rest
  pub stands : IsIn text d
  pub collects : d.delta ≡ true → (parts : Option V) → over cmp join k parts a es ≡ over cmp join k (combined join d.value parts) d.previous rest
  pub stops : d.delta ≡ false → (parts : Option V) → over cmp join k parts a es ≡ record { parts = parts; position = Found d }

module _ {K V : Type 0} (cmp : K → K → Ordering) (join : V → V → V) (text : List (Entry K V)) (k : K) (low : ℕ) where
  met_on : (a : ℕ) (es : List (Entry K V)) → IsChainFrom low text a es → (d : Entry K V) → first_on cmp k a es ≡ Found d → IsMetOn cmp join text k low a es d
  met_on a es (ends less) d is = absurd (cc)
  met_on a es (goes {e = e} {es = ds} high here at on) d is = by_key (has_key cmp k e) refl (met_on e.previous ds on d)
    where
      by_key : (b : Bool) → has_key cmp k e ≡ b → (first_on cmp k e.previous ds ≡ Found d → IsMetOn cmp join text k low e.previous ds d) → IsMetOn cmp join text k low a (e ∷ ds) d
      by_key true own rest =
          let there : Found e ≡ Found d = (rw own at is) in
          let same : e ≡ d = cc in
          subst (IsMetOn cmp join text k low a (e ∷ ds)) same (record {
            rest = ds;
            chain = on;
            stands = here;
            collects = λ delta parts. collects cmp join k parts a e ds own delta;
            stops = λ whole parts. stops cmp join k parts a e ds own whole;
          })
      by_key false own rest =
          let more = rest (rw own at is) in
          record {
            rest = more.rest;
            chain = more.chain;
            stands = more.stands;
            collects = λ delta parts. passes cmp join k parts a e ds own ∙ more.collects delta parts;
            stops = λ whole parts. passes cmp join k parts a e ds own ∙ more.stops whole parts;
          }

  below_on : (a : ℕ) (es : List (Entry K V)) (b : ℕ) → first_on cmp k a es ≡ Below b → (parts : Option V) → over cmp join k parts a es ≡ record { parts = parts; position = Below b }
  below_on a [] b is parts = ap (λ (p : ChainPosition K V). record { parts = parts; position = p }) is
  below_on a (e ∷ es) b is parts = by_key (has_key cmp k e) refl (below_on e.previous es b)
    where
      by_key : (c : Bool) → has_key cmp k e ≡ c → (first_on cmp k e.previous es ≡ Below b → (p : Option V) → over cmp join k p e.previous es ≡ record { parts = p; position = Below b })
          → over cmp join k parts a (e ∷ es) ≡ record { parts = parts; position = Below b }
      by_key true own rest = absurd (let there : Found e ≡ Below b = (rw own at is) in cc)
      by_key false own rest = passes cmp join k parts a e es own ∙ rest (rw own at is) parts

module _ {K V : Type 0} (cmp : K → K → Ordering) (join : V → V → V) (code : K → ℕ) (v : RecordsView K V) (k : K) (low entry : ℕ) (parts : Option V) (position : ChainPosition K V) (w : IsOnWay cmp join code v k low entry parts position) where
  way-met : (d : Entry K V) → position ≡ Found d → IsMetOn cmp join v.log.text k low w.at w.rest d
  way-met d is = met_on cmp join v.log.text k low w.at w.rest w.chain d (sym w.first ∙ is)

  -- past a delta
  pub way-chain : (d : Entry K V) → position ≡ Found d → (es : List (Entry K V)) × IsChainFrom low v.log.text d.previous es
  way-chain d is = let m = way-met d is in (m.rest, m.chain)

  pub way-on : (d : Entry K V) → position ≡ Found d → d.delta ≡ true → (next : ChainPosition K V) → ((es : List (Entry K V)) → IsChainFrom low v.log.text d.previous es → next ≡ first_on cmp k d.previous es)
      → IsOnWay cmp join code v k low entry (combined join d.value parts) next
  way-on d is delta next reads =
      let m = way-met d is in
      record { at = d.previous; rest = m.rest; chain = m.chain; first = reads m.rest m.chain; same = w.same ∙ m.collects delta parts }

  -- and at the end
  pub way-end : ((d : Entry K V) → position ≡ Found d → d.delta ≡ false) → record { parts = parts; position = position } ≡ looked_up cmp join code v low k entry
  way-end none = by_position position refl
    where
      by_position : (p : ChainPosition K V) → position ≡ p → record { parts = parts; position = position } ≡ looked_up cmp join code v low k entry
      by_position (Found d) is =
          ap (λ (p : ChainPosition K V). record { parts = parts; position = p }) is
          ∙ sym (w.same ∙ (way-met d is).stops (none d is) parts)
      by_position (Below b) is =
          ap (λ (p : ChainPosition K V). record { parts = parts; position = p }) is
          ∙ sym (w.same ∙ below_on cmp join v.log.text k low w.at w.rest b (sym w.first ∙ is) parts)

-- the way falls
module _ {K V : Type 0} {keeps : Bool} (cmp : K → K → Ordering) (join : V → V → V) (code : K → ℕ) (v : RecordsView K V) (k : K) (order : IsKeyOrder cmp) (t : IsTraced keeps code (raw v)) (low entry : ℕ) where
  first_low : (a : ℕ) (es : List (Entry K V)) → IsChainFrom low v.log.text a es → at_of (first_on cmp k a es) ≤ a
  first_low a es (ends less) = omega arith
  first_low a es (goes {e = e} {es = ds} high here is on) = by_key (has_key cmp k e) refl (first_low e.previous ds on)
    where
      by_key : (b : Bool) → has_key cmp k e ≡ b → at_of (first_on cmp k e.previous ds) ≤ e.previous → at_of (first_on cmp k a (e ∷ ds)) ≤ a
      by_key true own rest = rw own (omega (arith, is))
      by_key false own rest = rw own (let falls = record_falls cmp code v order t e here in omega (arith, is, rest, falls))

  pub way-falls : (parts : Option V) (position : ChainPosition K V) → IsOnWay cmp join code v k low entry parts position
      → (d : Entry K V) → position ≡ Found d → (next : ChainPosition K V) → ((es : List (Entry K V)) → IsChainFrom low v.log.text d.previous es → next ≡ first_on cmp k d.previous es)
      → at_of next < at_of position
  way-falls parts position w d is next reads =
      let m = way-met cmp join code v k low entry parts position w d is in
      let falls = record_falls cmp code v order t d m.stands in
      let down = first_low d.previous m.rest m.chain in
      let there = ap at_of (reads m.rest m.chain) in
      let here = ap at_of is in
      omega (arith, falls, down, there, here)

  -- where it begins
  pub way-begins : (first : ChainPosition K V) → v.log.from ≤ low → entry_of v (class_in code v k) ≡ Some entry → first ≡ newest_above cmp code v low k entry → IsOnWay cmp join code v k low entry None first
  way-begins first up leads is = record {
    at = entry;
    rest = falling_from code v low k;
    chain = up_chain cmp code v k order t low up entry leads;
    first = is ∙ first_is cmp code v k order t low entry;
    same = refl;
  }

-- ---- in one loaded page, as a device that keeps gave it
-- each step tells
pub kept-told : {K V : Type 0} {keeps : Bool} (cmp : K → K → Ordering) (join : V → V → V) (code : K → ℕ) (v : RecordsView K V) (k : K) → IsKeyOrder cmp → IsTraced keeps code v → v.text ≡ resolved cmp join v.log.text → (low from : ℕ)
    → IsTrue keeps
    → v.log.begin ≤ from
    → first_place v.log.bits (page_at v.log.bits from) ≤ low
    → (a : ℕ)
    → (v.log.from ≤ a → IsOfClass code v k a)
    → {E : Type 0} (result : Result (ChainPosition K V) E)
    → ((es : List (Entry K V)) → IsChainFrom low v.log.text a es → result ≡ Ok (first_on cmp k a es))
    → (r : ChainPosition K V) × (result ≡ Ok r) × FirstComesTo cmp code v k low a r
kept-told cmp join code v k order t is low from kept begun floor a class result reads =
    step_tells cmp code v k order (raw-traced cmp join v is t) low (page_up v low from t kept begun floor) a class result reads

-- what is told from here is told from the first address
pub record IsKeptOn {K V : Type 0} (cmp : K → K → Ordering) (join : V → V → V) (code : K → ℕ) (v : RecordsView K V) (k : K) (low from : ℕ) (before parts : Option V) (position : ChainPosition K V) : Type 0 where
  pub at : ℕ
  pub goes : FirstComesTo cmp code v k low at position
  pub same : (r : ChainResult K V) → ComesTo cmp join code v k low at parts r → ComesTo cmp join code v k low from before r

module _ {K V : Type 0} (cmp : K → K → Ordering) (join : V → V → V) (code : K → ℕ) (v : RecordsView K V) (k : K) (low from : ℕ) (before : Option V) where
  first-met : (a : ℕ) (p : ChainPosition K V) → FirstComesTo cmp code v k low a p → (d : Entry K V) → p ≡ Found d
      → (newest cmp v.log.text k a ≡ Some d) × (entry_at v.log.text d.address ≡ Some d) × (low ≤ d.address)
  first-met a p (first_found {e = e} is stands high) d same =
      let one : e ≡ d = cc in
      subst (λ (x : Entry K V). (newest cmp v.log.text k a ≡ Some x) × (entry_at v.log.text x.address ≡ Some x) × (low ≤ x.address)) one (is, stands, high)
  first-met a p (first_below less is class) d same = absurd (cc)

  pub kept-begins : (position : ChainPosition K V) → FirstComesTo cmp code v k low from position → IsKeptOn cmp join code v k low from before before position
  kept-begins position told = record { at = from; goes = told; same = λ r g. g }

  module _ (parts : Option V) (position : ChainPosition K V) (w : IsKeptOn cmp join code v k low from before parts position) where
    pub kept-class : {keeps : Bool} → IsKeyOrder cmp → IsTraced keeps code (raw v) → (d : Entry K V) → position ≡ Found d → v.log.from ≤ d.previous → IsOfClass code v k d.previous
    kept-class order t d is = newest_next cmp code v k order t w.at d (first-met w.at position w.goes d is).0

    pub kept-on : (d : Entry K V) → position ≡ Found d → d.delta ≡ true → (next : ChainPosition K V) → FirstComesTo cmp code v k low d.previous next
        → IsKeptOn cmp join code v k low from before (combined join d.value parts) next
    kept-on d is delta next told =
        let m = first-met w.at position w.goes d is in
        record { at = d.previous; goes = told; same = λ r g. w.same r (goes_joins m.0 m.2 delta g) }

    pub kept-end : ((d : Entry K V) → position ≡ Found d → d.delta ≡ false) → ComesTo cmp join code v k low from before (record { parts = parts; position = position })
    kept-end none = w.same (record { parts = parts; position = position }) (by_first w.at position w.goes none)
      where
        by_first : (a : ℕ) (p : ChainPosition K V) → FirstComesTo cmp code v k low a p → ((d : Entry K V) → p ≡ Found d → d.delta ≡ false) → ComesTo cmp join code v k low a parts (record { parts = parts; position = p })
        by_first a p (first_found {e = e} is stands high) none = goes_found is stands high (none e refl)
        by_first a p (first_below less is class) none = goes_below less is class

-- ---- and as its bytes spell
pub record IsReadOn {K V : Type 0} (join : V → V → V) (entry : ℕ → Entry K V → Type 0) (cmp : K → K → Ordering) (k : K) (bits low from : ℕ) (before parts : Option V) (position : ChainPosition K V) : Type 0 where
  pub at : ℕ
  pub under : at ≤ from
  pub reached : IsReached entry cmp k bits low at (Ok position)
  pub same : (r : Result (ChainResult K V) Refused) → ComesToInPage join entry cmp k bits low at parts r → ComesToInPage join entry cmp k bits low from before r

module _ {K V : Type 0} {ksize vsize : ℕ} (join : V → V → V) (key : Codec K ksize) (value : Codec V vsize) (bits : ℕ) (shape : IsShape bits (size_of ksize vsize)) (bytes : List ℕ)
    (cmp : K → K → Ordering) (k : K) (low from : ℕ) (before : Option V) where
  abbrev entry : ℕ → Entry K V → Type 0
  entry = IsEntryIn key value bits bytes

  falls : (a : ℕ) (e : Entry K V) → entry a e → e.previous < a
  falls a e here = entry_falls key value bits (size_of ksize vsize) bytes a e shape refl here

  reached-low : (a : ℕ) (r : Result (ChainPosition K V) Refused) → IsReached entry cmp k bits low a r → (p : ChainPosition K V) → r ≡ Ok p → at_of p ≤ a
  reached-low a r (reached_below less) p is = let one : Below a ≡ p = cc in subst (λ (x : ChainPosition K V). at_of x ≤ a) one (omega arith)
  reached-low a r (reached_none high nothing) p is = absurd (cc)
  reached-low a r (reached_found {e = e} high here own) p is =
      let one : Found e ≡ p = cc in
      let at = here.stands in
      subst (λ (x : ChainPosition K V). at_of x ≤ a) one (omega (arith, at))
  reached-low a r (reached_on {e = e} high here other rest) p is =
      let low = falls a e here in
      let more = reached-low e.previous r rest p is in
      omega arith

  reached-falls : (a : ℕ) (r : Result (ChainPosition K V) Refused) → IsReached entry cmp k bits low a r → (d : Entry K V) → r ≡ Ok (Found d) → d.previous < d.address
  reached-falls a r (reached_below less) d is = absurd (cc)
  reached-falls a r (reached_none high nothing) d is = absurd (cc)
  reached-falls a r (reached_found {e = e} high here own) d is =
      let one : e ≡ d = cc in
      let at = here.stands in
      let less = falls a e here in
      subst (λ (x : Entry K V). x.previous < x.address) one (omega (arith, at, less))
  reached-falls a r (reached_on {e = e} high here other rest) d is = reached-falls e.previous r rest d is

  pub read-begins : (position : ChainPosition K V) → IsReached entry cmp k bits low from (Ok position) → IsReadOn join entry cmp k bits low from before before position
  read-begins position reached = record { at = from; under = omega arith; reached = reached; same = λ r g. g }

  module _ (parts : Option V) (position : ChainPosition K V) (w : IsReadOn join entry cmp k bits low from before parts position) (d : Entry K V) (is : position ≡ Found d) where
    met : IsReached entry cmp k bits low w.at (Ok (Found d))
    met = subst (λ (p : ChainPosition K V). IsReached entry cmp k bits low w.at (Ok p)) is w.reached

    -- the way falls
    pub read-falls : d.previous < d.address
    read-falls = reached-falls w.at (Ok (Found d)) met d refl

    pub read-low : d.address ≤ from
    read-low = let low = reached-low w.at (Ok (Found d)) met (Found d) refl in let up = w.under in omega arith

    pub read-smaller : (next : ChainPosition K V) → IsReached entry cmp k bits low d.previous (Ok next) → at_of next < at_of position
    read-smaller next reached =
        let less = read-falls in
        let low = reached-low d.previous (Ok next) reached next refl in
        let here = ap at_of is in
        omega (arith, less, low, here)

    pub read-on : d.delta ≡ true → (next : ChainPosition K V) → IsReached entry cmp k bits low d.previous (Ok next) → IsReadOn join entry cmp k bits low from before (combined join d.value parts) next
    read-on delta next reached =
        let less = read-falls in
        let low = read-low in
        record { at = d.previous; under = omega arith; reached = reached; same = λ r g. w.same r (gathered_joins met delta g) }

    pub read-refused : d.delta ≡ true → (why : Refused) → IsReached entry cmp k bits low d.previous (Err why) → ComesToInPage join entry cmp k bits low from before (Err why)
    read-refused delta why reached = w.same (Err why) (gathered_joins met delta (gathered_refused reached))

  pub read-end : (parts : Option V) (position : ChainPosition K V) → IsReadOn join entry cmp k bits low from before parts position → ((d : Entry K V) → position ≡ Found d → d.delta ≡ false)
      → ComesToInPage join entry cmp k bits low from before (Ok (record { parts = parts; position = position }))
  read-end parts position w none = w.same (Ok (record { parts = parts; position = position })) (by_position position w.reached none)
    where
      by_position : (p : ChainPosition K V) → IsReached entry cmp k bits low w.at (Ok p) → ((d : Entry K V) → p ≡ Found d → d.delta ≡ false) → ComesToInPage join entry cmp k bits low w.at parts (Ok (record { parts = parts; position = p }))
      by_position (Found d) reached none = gathered_found reached (none d refl)
      by_position (Below b) reached none = gathered_below reached
