-- What a look-up comes to.
use Rattle.std.proofs.Common.{◌≡◌, ◌==◌, ◌<◌, ◌≤◌, ◌&&◌, nat_lt, zero, suc, ℕ, Bool, true, false, cond, List, [], ◌∷◌, filter, Option, Some, None, IsSome, nat_le, refl, sym, ◌∙◌, ap, subst, arith}
use Rattle.std.proofs.lemmas.Bool.Decides.{nat_tests}
use Rattle.std.proofs.Common.{◌^◌, inl, inr}
use Rattle.std.specs.Prelude.{Result, Ok, IsTrue}
use Rattle.std.proofs.lemmas.Nat.{div-add-mod'}
use Rattle.std.proofs.Math.Pow.{pow_mono}
use Rattle.fkv_records.specs.Places.{page_at, IsShape}
use Rattle.fkv_regions.specs.Agree.{IsMark}
use Rattle.fkv_regions.proofs.OffsetLemmas.{starts-rise}
use Rattle.fkv_hybrid.specs.Loads.{first_place}
use Rattle.fkv_hybrid.proofs.FrameLemmas.{page_rises}
use Rattle.fkv_texts.specs.declared.entries.Entry.{Entry}
use Rattle.std.specs.declared.cmp.Ordering.{Ordering}
use Rattle.fkv_functions.specs.Plain.{IsKeyOrder}
use Rattle.std.proofs.lemmas.Bool.{ltb-true, lt-ltb, leb-true, le-leb, and_parts, eqb-true}
use Rattle.std.specs.List.{find, fold}
use Rattle.fkv_texts.specs.Text.{entry_at, last_where, has_key, newest, value_of, text_from}
use Rattle.fkv_texts.specs.Deltas.{combined, value_after, resolved, gathered, AreValued}
use Rattle.fkv_texts.specs.Chains.{IsIn, IsChainFrom, has_class, last_of_class, last_below, Leads, falling, leads_to, reached}
use Rattle.fkv_texts.specs.Chains.IsChainFrom.{ends, goes}
use Rattle.fkv_texts.proofs.CutLemmas.{filter-in, filter-one, highest, cut-rising, cut-from, cut-leads, cut-chained}
use Rattle.fkv_hybrid.specs.Views.{text_begin}
use Rattle.fkv_texts.proofs.LastWhere.{last_where-in, last_where-found, last_where-none, none-passes}
use Rattle.fkv_texts.proofs.ChainLemmas.{ended, met_from, meets, finds}
use Rattle.fkv_texts.proofs.GatherLemmas.{joined_end, filter-same}
use Rattle.fkv_texts.proofs.ReadLemmas.{read-chain}
use Rattle.fkv_texts.proofs.StoodLemmas.{AreAlike, alike_back, alike-laid_out, alike-rising, alike-from, alike-below, alike-chained, alike-leads, whole-last}
use Rattle.fkv_texts.proofs.ValueLemmas.{newest-fold}
use Rattle.fkv_texts.specs.declared.entries.ChainPosition.{ChainPosition}
use Rattle.fkv_texts.specs.declared.entries.ChainPosition.TheVariants.{Found, Below}
use Rattle.fkv_lookups.specs.declared.chain_results.ChainResult.{ChainResult}
use Rattle.fkv_lookups.specs.Lookups.ComesTo.{found, below, joins}
use Rattle.fkv_texts.proofs.TextLemmas.{entry_at-in, one_address}
use Rattle.fkv_operations.specs.Classes.{same_class}
use Rattle.fkv_operations.proofs.ClassLemmas.{class_test}
use Rattle.fkv_lookups.specs.RecordsViews.{RecordsView, class_in, entry_of}
use Rattle.fkv_lookups.specs.Lookups.{falling_from, newest_above, IsOfClass, ComesTo, end_of, at_of, StartsAt}
use Rattle.fkv_lookups.proofs.TracedLemmas.{leads_of}
use Rattle.fkv_lookups.specs.Traced.{IsTraced, IsResolved}

-- ---- the records as pages spell them
-- in place of what they stand for
abbrev pub raw : {K V : Type 0} → RecordsView K V → RecordsView K V
raw v = record v { text = v.log.text }

-- they are traced too
pub raw-traced : {K V : Type 0} {keeps : Bool} {code : K → ℕ} (cmp : K → K → Ordering) (join : V → V → V) (v : RecordsView K V) → v.text ≡ resolved cmp join v.log.text → IsTraced keeps code v → IsTraced keeps code (raw v)
raw-traced {code = code} cmp join v is t =
    let back = subst (λ (es : List (Entry _ _)). AreAlike es v.log.text) (sym is) (alike_back cmp join v.log.text) in
    record {
      partition_bits = t.partition_bits;
      bucket_bits = t.bucket_bits;
      shape = t.shape;
      first = t.first;
      marked = t.marked;
      begins = t.begins;
      laid_out = alike-laid_out v.log.bits v.record_size v.log.from v.log.tail v.text v.log.text back t.laid_out;
      rising = alike-rising v.text v.log.text back t.rising;
      from = alike-from v.log.from v.text v.log.text back t.from;
      below = alike-below v.log.tail v.text v.log.text back t.below;
      regions = t.regions;
      flushed = t.flushed;
      gone = t.gone;
      held = t.held;
      chained = alike-chained (class_in code v) same_class v.log.from v.text v.log.text back t.chained;
      buckets = t.buckets;
      map = t.map;
      leads = λ c. alike-leads (class_in code v) same_class v.log.from v.text v.log.text back c _ (t.leads c);
      placed = t.placed;
    }

-- ---- what is gathered over records
-- where the key's parts and its first record that is no delta are these, and the records lead here
abbrev pub at_end : {K V : Type 0} → ℕ → Option V × Option (Entry K V) → ChainResult K V
at_end b g = record { parts = g.0; position = reached g.1 b }

-- from an address through records, with the parts of the key's records above
abbrev pub over : {K V : Type 0} → (K → K → Ordering) → (V → V → V) → K → Option V → ℕ → List (Entry K V) → ChainResult K V
over cmp join k parts a es = at_end (leads_to a es) (gathered join (filter (has_key cmp k) es) parts)

-- and the first record of the key alone
abbrev pub first_on : {K V : Type 0} → (K → K → Ordering) → K → ℕ → List (Entry K V) → ChainPosition K V
first_on cmp k a es = reached (find (has_key cmp k) es) (leads_to a es)

module _ {K V : Type 0} (cmp : K → K → Ordering) (join : V → V → V) (k : K) (parts : Option V) (a : ℕ) (e : Entry K V) (es : List (Entry K V)) where
  -- a record of another key is passed
  pub passes : has_key cmp k e ≡ false → over cmp join k parts a (e ∷ es) ≡ over cmp join k parts e.previous es
  passes h = ap (λ l. at_end (leads_to e.previous es) (gathered join l parts)) (filter-one (has_key cmp k) e es false h)

  -- one that is no delta ends it
  pub stops : has_key cmp k e ≡ true → e.delta ≡ false → over cmp join k parts a (e ∷ es) ≡ record { parts = parts; position = Found e }
  stops h whole = ap (λ l. at_end (leads_to e.previous es) (gathered join l parts)) (filter-one (has_key cmp k) e es true h) ∙ rw whole refl

  -- the part of a delta is joined before the others
  pub collects : has_key cmp k e ≡ true → e.delta ≡ true → over cmp join k parts a (e ∷ es) ≡ over cmp join k (combined join e.value parts) e.previous es
  collects h delta = ap (λ l. at_end (leads_to e.previous es) (gathered join l parts)) (filter-one (has_key cmp k) e es true h) ∙ rw delta refl

-- ---- the first record of the key, and what is gathered
module _ {K V : Type 0} (cmp : K → K → Ordering) (join : V → V → V) (k : K) where
  pub some-combined : (u w : Option V) → IsSome w → IsSome (combined join u w)
  some-combined None w h = h
  some-combined (Some u) None h = absurd (cc)
  some-combined (Some u) (Some w) h = refl

  some-gathered : (es : List (Entry K V)) (parts : Option V) → IsSome parts → IsSome (gathered join es parts).0
  some-gathered [] parts h = h
  some-gathered (e ∷ es) parts h = by_delta e.delta (some-gathered es (combined join e.value parts) (some-combined e.value parts h))
    where
      by_delta : (b : Bool) → IsSome (gathered join es (combined join e.value parts)).0 → IsSome (cond b (gathered join es (combined join e.value parts)) (parts, Some e)).0
      by_delta true rest = rest
      by_delta false rest = h

  pub chain_first : (low : ℕ) (text : List (Entry K V)) → AreValued text → (a : ℕ) (es : List (Entry K V)) → IsChainFrom low text a es → StartsAt (first_on cmp k a es) (over cmp join k None a es)
  chain_first low text valued a es (ends less) = refl
  chain_first low text valued a es (goes {e = e} {es = ds} high here is on) = by_key (has_key cmp k e) refl (chain_first low text valued e.previous ds on)
    where
      by_key : (b : Bool) → has_key cmp k e ≡ b → StartsAt (first_on cmp k e.previous ds) (over cmp join k None e.previous ds) → StartsAt (first_on cmp k a (e ∷ ds)) (over cmp join k None a (e ∷ ds))
      by_key false own rest = subst (StartsAt (first_on cmp k a (e ∷ ds))) (sym (passes cmp join k None a e ds own)) (rw own rest)
      by_key true own rest =
          let first : first_on cmp k a (e ∷ ds) ≡ Found e = rw own refl in
          subst (λ p. StartsAt p (over cmp join k None a (e ∷ ds))) (sym first) (
            λ whole. stops cmp join k None a e ds own whole,
            λ delta. subst (λ (r : ChainResult K V). IsSome r.parts) (sym (collects cmp join k None a e ds own delta))
                (some-gathered (filter (has_key cmp k) ds) (combined join e.value None) (some-part e.value (valued here.place e here.here delta))),
          )
        where
          some-part : (o : Option V) → IsSome o → IsSome (combined join o None)
          some-part None h = absurd (cc)
          some-part (Some u) h = refl

-- a chain of the entries from an address on is one of all
pub chain_of_all : {K V : Type 0} (low : ℕ) (text : List (Entry K V)) (a : ℕ) (es : List (Entry K V)) → IsChainFrom low (text_from low text) a es → IsChainFrom low text a es
chain_of_all low text a es (ends under) = ends under
chain_of_all low text a es (goes {e = e} high here is on) =
    let was = filter-in (λ (d : Entry _ _). nat_le low d.address) text here.place e here.here in
    goes high was.0 is (chain_of_all low text _ _ on)

-- where a session reads in memory, the text has begun
pub begun : {K V : Type 0} {keeps : Bool} {code : K → ℕ} (v : RecordsView K V) (low : ℕ) → IsTraced keeps code v → v.log.regions.offsets.closed ≤ low → v.log.begin ≤ low → v.log.from ≤ low
begun {keeps = keeps} v low t closed begin = subst (λ n. n ≤ low) (sym t.begins) (by_keeps keeps)
  where
    by_closed : (b : Bool) → cond b v.log.regions.offsets.closed v.log.begin ≤ low
    by_closed true = closed
    by_closed false = begin

    by_keeps : (k : Bool) → text_begin k v.log.begin v.log.regions.offsets.closed ≤ low
    by_keeps true = begin
    by_keeps false = by_closed (nat_le v.log.begin v.log.regions.offsets.closed)

-- below where the text begins a key has nothing
pub newest_below : {K V : Type 0} {keeps : Bool} (cmp : K → K → Ordering) (code : K → ℕ) (v : RecordsView K V) (k : K) → IsKeyOrder cmp → IsTraced keeps code v → (a : ℕ) → a < v.log.from → newest cmp v.text k a ≡ None
newest_below cmp code v k order t a low = last_where-none (λ e. nat_le e.address a && has_key cmp k e) v.text (λ i e h.
    let high : v.log.from ≤ e.address = t.from i e h in
    let no : nat_le e.address a ≡ false = grind (arith, nat_tests) in
    rw no refl)

-- what is newest, step by step: what `ComesTo` says of the first record of the key alone
pub data FirstComesTo {K V : Type 0} (cmp : K → K → Ordering) (code : K → ℕ) (v : RecordsView K V) (k : K) (low : ℕ) : ℕ → ChainPosition K V → Type 0 where
  first_found : {a : ℕ} {e : Entry K V}
      → newest cmp v.log.text k a ≡ Some e
      → entry_at v.log.text e.address ≡ Some e
      → low ≤ e.address
      → FirstComesTo cmp code v k low a (Found e)
  first_below : {a b : ℕ}
      → b < low
      → newest cmp v.log.text k a ≡ newest cmp v.log.text k b
      → (v.log.from ≤ b → IsOfClass code v k b)
      → FirstComesTo cmp code v k low a (Below b)

module _ {K V : Type 0} {keeps : Bool} (cmp : K → K → Ordering) (code : K → ℕ) (v : RecordsView K V) (k : K) (order : IsKeyOrder cmp) (t : IsTraced keeps code (raw v)) where
  -- ---- along the records of a class
  in_text : (a : ℕ) (e : Entry K V) → entry_at v.log.text a ≡ Some e → IsIn v.log.text e × (e.address ≡ a)
  in_text a e h = (last_where-in (λ x. x.address == a) v.log.text e h, eqb-true e.address a (last_where-found (λ x. x.address == a) v.log.text e h))

  of_class : (p : Entry K V → Bool) (e : Entry K V) → last_where p v.log.text ≡ Some e → class_in code v e.key ≡ class_in code v k → IsOfClass code v k e.address
  of_class p e h class = record { entry = e; here = entry_at-in v.log.text t.rising e (last_where-in p v.log.text e h) e.address refl; class = class }

  -- what leads to the last of a class that passes a test leads below where the text begins, or there
  led : (p : Entry K V → Bool) (l : Option (Entry K V)) (a : ℕ) → last_where p v.log.text ≡ l → ((e : Entry K V) → last_where p v.log.text ≡ Some e → class_in code v e.key ≡ class_in code v k)
      → Leads v.log.from l a → v.log.from ≤ a → IsOfClass code v k a
  led p None a h class leads high = absurd (let low : a < v.log.from = leads in omega arith)
  led p (Some e) a h class leads high = let at : a ≡ e.address = leads in subst (IsOfClass code v k) (sym at) (of_class p e h (class e h))

  pub leads_class : (a : ℕ) → entry_of v (class_in code v k) ≡ Some a → v.log.from ≤ a → IsOfClass code v k a
  leads_class a entry = led (has_class (class_in code v) same_class (class_in code v k)) (last_of_class (class_in code v) same_class v.log.text (class_in code v k)) a refl
      (λ e h. class_test.only (class_in code v e.key) (class_in code v k) (last_where-found (has_class (class_in code v) same_class (class_in code v k)) v.log.text e h)) (leads_of t (class_in code v k) a entry)

  next_class : (a : ℕ) (o : IsOfClass code v k a) → v.log.from ≤ o.entry.previous → IsOfClass code v k o.entry.previous
  next_class a o =
      let e = o.entry in
      let m = (in_text a e o.here).0 in
      let p = λ (x : Entry K V). nat_lt x.address e.address && has_class (class_in code v) same_class (class_in code v e.key) x in
      led p (last_below (class_in code v) same_class v.log.text (class_in code v e.key) e.address) e.previous refl
      (λ d h. class_test.only (class_in code v d.key) (class_in code v e.key) (and_parts (nat_lt d.address e.address) (has_class (class_in code v) same_class (class_in code v e.key) d) (last_where-found p v.log.text d h)).1 ∙ o.class)
      (t.chained m.place e m.here)

  next_low : (a : ℕ) (o : IsOfClass code v k a) → v.log.from ≤ o.entry.previous → o.entry.previous < a
  next_low a o high = by_last (last_below (class_in code v) same_class v.log.text (class_in code v e.key) e.address) refl (t.chained m.place e m.here)
    where
      e : Entry K V
      e = o.entry

      m : IsIn v.log.text e
      m = (in_text a e o.here).0

      by_last : (l : Option (Entry K V)) → last_below (class_in code v) same_class v.log.text (class_in code v e.key) e.address ≡ l → Leads v.log.from l e.previous → e.previous < a
      by_last None h leads = absurd (let low : e.previous < v.log.from = leads in omega arith)
      by_last (Some d) h leads =
          let parts = and_parts (nat_lt d.address e.address) (has_class (class_in code v) same_class (class_in code v e.key) d) (last_where-found (λ x. nat_lt x.address e.address && has_class (class_in code v) same_class (class_in code v e.key) x) v.log.text d h) in
          let low : d.address < e.address = ltb-true d.address e.address parts.0 in
          let at : e.previous ≡ d.address = leads in
          let here : e.address ≡ a = (in_text a e o.here).1 in
          omega arith

  -- ---- the chain from any of them, down to an address
  abbrev ChainDown : ℕ → ℕ → Type 0
  ChainDown low a = (es : List (Entry K V)) × IsChainFrom low v.log.text a es

  chain_here : (low : ℕ) → v.log.from ≤ low → (a : ℕ) → low ≤ a → (o : IsOfClass code v k a) → ((p : ℕ) → p < a → (v.log.from ≤ p → IsOfClass code v k p) → ChainDown low p) → ChainDown low a
  chain_here low up a high o more = by_next (nat_lt o.entry.previous v.log.from) refl
    where
      by_next : (b : Bool) → nat_lt o.entry.previous v.log.from ≡ b → ChainDown low a
      by_next true h =
          let m = in_text a o.entry o.here in
          let under : o.entry.previous < v.log.from = ltb-true o.entry.previous v.log.from h in
          (o.entry ∷ [], goes high m.0 m.1 (ends (omega (arith, under, up))))
      by_next false h =
          let m = in_text a o.entry o.here in
          let above : v.log.from ≤ o.entry.previous = grind (arith, nat_tests) in
          let rest = more o.entry.previous (next_low a o above) (next_class a o) in
          (o.entry ∷ rest.0, goes high m.0 m.1 rest.1)

  chain_step : (low : ℕ) → v.log.from ≤ low → (a : ℕ) → (v.log.from ≤ a → IsOfClass code v k a) → ((p : ℕ) → p < a → (v.log.from ≤ p → IsOfClass code v k p) → ChainDown low p) → ChainDown low a
  chain_step low up a class more = by_low (nat_lt a low) refl
    where
      by_low : (b : Bool) → nat_lt a low ≡ b → ChainDown low a
      by_low true h = ([], ends (ltb-true a low h))
      by_low false h =
          let high : low ≤ a = grind (arith, nat_tests) in
          chain_here low up a high (class (omega (arith, up))) more

  chain_within : (low : ℕ) → v.log.from ≤ low → (n a : ℕ) → a ≤ n → (v.log.from ≤ a → IsOfClass code v k a) → ChainDown low a
  chain_within low up zero a le class = chain_step low up a class (λ p under own. absurd (omega arith))
  chain_within low up (suc n) a le class = chain_step low up a class (λ p under own. chain_within low up n p (omega arith) own)

  pub chain_down : (low : ℕ) → v.log.from ≤ low → (a : ℕ) → (v.log.from ≤ a → IsOfClass code v k a) → ChainDown low a
  chain_down low up a class = chain_within low up a a (omega arith) class

  -- ---- what the chain says of the key
  -- the first of the key on the whole chain is its newest
  newest_chain : (a : ℕ) → (v.log.from ≤ a → IsOfClass code v k a) → (es : List (Entry K V)) → IsChainFrom v.log.from v.log.text a es → find (has_key cmp k) es ≡ newest cmp v.log.text k a
  newest_chain a class es chain = by_low (nat_lt a v.log.from) refl
    where
      by_low : (b : Bool) → nat_lt a v.log.from ≡ b → find (has_key cmp k) es ≡ newest cmp v.log.text k a
      by_low true h =
          let low : a < v.log.from = ltb-true a v.log.from h in
          ap (find (has_key cmp k)) (ended v.log.from v.log.text a es chain low) ∙ sym (newest_below cmp code (raw v) k order t a low)
      by_low false h =
          let high : v.log.from ≤ a = grind (arith, nat_tests) in
          let o = class high in
          let m = in_text a o.entry o.here in
          subst (λ (n : ℕ). find (has_key cmp k) es ≡ newest cmp v.log.text k n) m.1
          (met_from (class_in code v) same_class v.log.from cmp order class_test k v.log.text t.rising t.from t.chained m.0.place o.entry m.0.here o.class es
          (subst (λ (n : ℕ). IsChainFrom v.log.from v.log.text n es) (sym m.1) chain))

  -- an entry of the key is its newest where it stands; past another entry, the newest is that from where it leads
  newest_here : (a : ℕ) (o : IsOfClass code v k a) → v.log.from ≤ a → (b : Bool) → has_key cmp k o.entry ≡ b → newest cmp v.log.text k a ≡ cond b (Some o.entry) (newest cmp v.log.text k o.entry.previous)
  newest_here a o high b h =
      let m = in_text a o.entry o.here in
      let rest = chain_down v.log.from (omega arith) o.entry.previous (next_class a o) in
      let whole : IsChainFrom v.log.from v.log.text a (o.entry ∷ rest.0) = goes high m.0 m.1 rest.1 in
      sym (newest_chain a (λ up. o) (o.entry ∷ rest.0) whole) ∙ by b h rest.0 (newest_chain o.entry.previous (next_class a o) rest.0 rest.1)
    where
      by : (b : Bool) → has_key cmp k o.entry ≡ b → (es : List (Entry K V)) → find (has_key cmp k) es ≡ newest cmp v.log.text k o.entry.previous
          → find (has_key cmp k) (o.entry ∷ es) ≡ cond b (Some o.entry) (newest cmp v.log.text k o.entry.previous)
      by true h es is = rw h refl
      by false h es is = rw h is

  -- ---- the first record of the key
  first_further : (low a b : ℕ) (r : ChainPosition K V) → newest cmp v.log.text k a ≡ newest cmp v.log.text k b → FirstComesTo cmp code v k low b r → FirstComesTo cmp code v k low a r
  first_further low a b r same (first_found is stands high) = first_found (same ∙ is) stands high
  first_further low a b r same (first_below low_b is class) = first_below low_b (same ∙ is) class

  further : (join : V → V → V) (low a b : ℕ) (parts : Option V) (r : ChainResult K V) → newest cmp v.log.text k a ≡ newest cmp v.log.text k b → ComesTo cmp join code v k low b parts r
      → ComesTo cmp join code v k low a parts r
  further join low a b parts r same (found is stands high whole) = found (same ∙ is) stands high whole
  further join low a b parts r same (below low_b is class) = below low_b (same ∙ is) class
  further join low a b parts r same (joins is high delta rest) = joins (same ∙ is) high delta rest

  -- where a chain stands at a record
  record IsHere (a : ℕ) (e : Entry K V) : Type 0 where
    pub begun : v.log.from ≤ a
    pub class : IsOfClass code v k a
    pub own : class.entry ≡ e

  here_at : (low a : ℕ) (e : Entry K V) → v.log.from ≤ low → low ≤ a → IsIn v.log.text e → e.address ≡ a → (v.log.from ≤ a → IsOfClass code v k a) → IsHere a e
  here_at low a e up high here is class =
      let begun : v.log.from ≤ a = omega (arith, up, high) in
      let o = class begun in
      let both : Some o.entry ≡ Some e = sym o.here ∙ entry_at-in v.log.text t.rising e here a is in
      record { begun = begun; class = o; own = cc }

  here_next : (a : ℕ) (e : Entry K V) → IsHere a e → v.log.from ≤ e.previous → IsOfClass code v k e.previous
  here_next a e h = subst (λ (x : Entry K V). v.log.from ≤ x.previous → IsOfClass code v k x.previous) h.own (next_class a h.class)

  here_newest : (a : ℕ) (e : Entry K V) → IsHere a e → (b : Bool) → has_key cmp k e ≡ b → newest cmp v.log.text k a ≡ cond b (Some e) (newest cmp v.log.text k e.previous)
  here_newest a e h b own =
      newest_here a h.class h.begun b (ap (has_key cmp k) h.own ∙ own)
      ∙ ap (λ (x : Entry K V). cond b (Some x) (newest cmp v.log.text k x.previous)) h.own

  pub first_goes_on : (low : ℕ) → v.log.from ≤ low → (a : ℕ) (es : List (Entry K V)) → IsChainFrom low v.log.text a es → (v.log.from ≤ a → IsOfClass code v k a) → FirstComesTo cmp code v k low a (first_on cmp k a es)
  first_goes_on low up a es (ends less) class = first_below less refl class
  first_goes_on low up a es (goes {e = e} {es = ds} high here is on) class =
      let h = here_at low a e up high here is class in
      by_key h (has_key cmp k e) refl (first_goes_on low up e.previous ds on (here_next a e h))
    where
      by_key : IsHere a e → (b : Bool) → has_key cmp k e ≡ b → FirstComesTo cmp code v k low e.previous (first_on cmp k e.previous ds) → FirstComesTo cmp code v k low a (first_on cmp k a (e ∷ ds))
      by_key h true own rest =
          rw own (first_found (here_newest a e h true own) (entry_at-in v.log.text t.rising e here e.address refl) (subst (λ (n : ℕ). low ≤ n) (sym is) high))
      by_key h false own rest = rw own (first_further low a e.previous (first_on cmp k e.previous ds) (here_newest a e h false own) rest)

  -- ---- and what is gathered from there
  pub gathers_on : (join : V → V → V) (low : ℕ) → v.log.from ≤ low → (a : ℕ) (es : List (Entry K V)) → IsChainFrom low v.log.text a es → (v.log.from ≤ a → IsOfClass code v k a) → (parts : Option V)
      → ComesTo cmp join code v k low a parts (over cmp join k parts a es)
  gathers_on join low up a es (ends less) class parts = below less refl class
  gathers_on join low up a es (goes {e = e} {es = ds} high here is on) class parts =
      let h = here_at low a e up high here is class in
      by_key h (has_key cmp k e) e.delta refl refl (gathers_on join low up e.previous ds on (here_next a e h))
    where
      level : low ≤ e.address
      level = subst (λ (n : ℕ). low ≤ n) (sym is) high

      by_key : IsHere a e → (b d : Bool) → has_key cmp k e ≡ b → e.delta ≡ d → ((c : Option V) → ComesTo cmp join code v k low e.previous c (over cmp join k c e.previous ds))
          → ComesTo cmp join code v k low a parts (over cmp join k parts a (e ∷ ds))
      by_key h false d own delta rest =
          subst (ComesTo cmp join code v k low a parts) (sym (passes cmp join k parts a e ds own)) (further join low a e.previous parts (over cmp join k parts e.previous ds) (here_newest a e h false own) (rest parts))
      by_key h true false own delta rest =
          subst (ComesTo cmp join code v k low a parts) (sym (stops cmp join k parts a e ds own delta)) (found (here_newest a e h true own) (entry_at-in v.log.text t.rising e here e.address refl) level delta)
      by_key h true true own delta rest =
          subst (ComesTo cmp join code v k low a parts) (sym (collects cmp join k parts a e ds own delta)) (joins (here_newest a e h true own) level delta (rest (combined join e.value parts)))

  -- one page, or memory, tells how the way goes on
  pub step_tells : (low : ℕ) → v.log.from ≤ low → (a : ℕ) → (v.log.from ≤ a → IsOfClass code v k a) → {E : Type 0} (result : Result (ChainPosition K V) E)
      → ((es : List (Entry K V)) → IsChainFrom low v.log.text a es → result ≡ Ok (first_on cmp k a es))
      → (r : ChainPosition K V) × (result ≡ Ok r) × FirstComesTo cmp code v k low a r
  step_tells low up a class result reads =
      let chain = chain_down low up a class in
      (first_on cmp k a chain.0, reads chain.0 chain.1, first_goes_on low up a chain.0 chain.1 class)

  -- ---- the chain of the class down to an address
  pub up_chain : (low : ℕ) → v.log.from ≤ low → (a : ℕ) → entry_of v (class_in code v k) ≡ Some a → IsChainFrom low v.log.text a (falling_from code v low k)
  up_chain low up a entry =
      let class = class_in code v in
      let leads = leads_of t (class k) a entry in
      let above = text_from low v.log.text in
      chain_of_all low v.log.text a (falling class same_class above (class k))
      (meets class same_class low class_test above (cut-rising low v.log.text t.rising) (cut-from low v.log.text) (cut-chained class same_class v.log.from low v.log.text t.rising up t.chained) (class k) a
      (cut-leads class same_class v.log.from low v.log.text t.rising up (class k) a leads))

  pub first_is : (low a : ℕ) → newest_above cmp code v low k a ≡ first_on cmp k a (falling_from code v low k)
  first_is low a = ap (λ o. reached o (leads_to a (falling_from code v low k))) (sym (finds (class_in code v) same_class low cmp order class_test k (text_from low v.log.text)))

  -- ---- from a delta of the key
  pub delta_class : (a : ℕ) (d : Entry K V) → newest cmp v.log.text k a ≡ Some d → IsIn v.log.text d × (has_key cmp k d ≡ true) × (d.address ≤ a)
  delta_class a d is =
      let p = λ (e : Entry K V). nat_le e.address a && has_key cmp k e in
      let parts = and_parts (nat_le d.address a) (has_key cmp k d) (last_where-found p v.log.text d is) in
      (last_where-in p v.log.text d is, parts.1, leb-true d.address a parts.0)

  key_here : (e : Entry K V) → IsIn v.log.text e → has_key cmp k e ≡ true → IsHere e.address e
  key_here e m own = record {
    begun = t.from m.place e m.here;
    class = record { entry = e; here = entry_at-in v.log.text t.rising e m e.address refl; class = ap (class_in code v) (order.same e.key k own) };
    own = refl;
  }

  -- where it leads, a record of its class stands
  pub newest_next : (a : ℕ) (d : Entry K V) → newest cmp v.log.text k a ≡ Some d → v.log.from ≤ d.previous → IsOfClass code v k d.previous
  newest_next a d is = let w = delta_class a d is in here_next d.address d (key_here d w.0 w.1)

  -- none of the key stands between
  near : (d : Entry K V) → IsIn v.log.text d → has_key cmp k d ≡ true → (e : Entry K V) → IsIn v.log.text e → has_key cmp k e ≡ true → e.address < d.address → e.address ≤ d.previous
  near d m own e n mine less = by_last (last_below (class_in code v) same_class v.log.text (class_in code v d.key) d.address) refl (t.chained m.place d m.here)
    where
      lower : Entry K V → Bool
      lower x = nat_lt x.address d.address && has_class (class_in code v) same_class (class_in code v d.key) x

      passes_it : lower e ≡ true
      passes_it =
          let is : class_in code v e.key ≡ class_in code v d.key = ap (class_in code v) (order.same e.key k mine ∙ sym (order.same d.key k own)) in
          rw (lt-ltb e.address d.address less) (ap (λ c. same_class c (class_in code v d.key)) is ∙ class_test.self (class_in code v d.key))

      by_last : (l : Option (Entry K V)) → last_below (class_in code v) same_class v.log.text (class_in code v d.key) d.address ≡ l → Leads v.log.from l d.previous → e.address ≤ d.previous
      by_last None h leads = absurd (let no = none-passes lower v.log.text h n.place e n.here in let bad : true ≡ false = sym passes_it ∙ no in cc)
      by_last (Some x) h leads =
          let there : d.previous ≡ x.address = leads in
          let up = highest lower v.log.text x t.rising h n.place e n.here passes_it in
          omega arith

  -- what stands at or below an address stands no higher than the newest there
  newest_high : (a : ℕ) (d : Entry K V) → newest cmp v.log.text k a ≡ Some d → (e : Entry K V) → IsIn v.log.text e → has_key cmp k e ≡ true → e.address ≤ a → e.address ≤ d.address
  newest_high a d is e m own low =
      let yes : nat_le e.address a ≡ true = le-leb e.address a low in
      let passes_it : (nat_le e.address a && has_key cmp k e) ≡ true = rw yes own in
      highest (λ (x : Entry K V). nat_le x.address a && has_key cmp k x) v.log.text d t.rising is m.place e m.here passes_it

  -- and where the newest is the same, no higher than the lower address
  newest_low : (a b : ℕ) → newest cmp v.log.text k a ≡ newest cmp v.log.text k b → (e : Entry K V) → IsIn v.log.text e → has_key cmp k e ≡ true → e.address ≤ a → e.address ≤ b
  newest_low a b same e m own low = by_newest (newest cmp v.log.text k a) refl
    where
      p : Entry K V → Bool
      p x = nat_le x.address a && has_key cmp k x

      by_newest : (o : Option (Entry K V)) → newest cmp v.log.text k a ≡ o → e.address ≤ b
      by_newest None is = absurd (
          let yes : p e ≡ true = rw (le-leb e.address a low) own in
          let no : p e ≡ false = none-passes p v.log.text is m.place e m.here in
          let bad : true ≡ false = sym yes ∙ no in cc)
      by_newest (Some d) is =
          let high = newest_high a d is e m own low in
          let there : d.address ≤ b = (delta_class b d (sym same ∙ is)).2 in
          omega arith

  -- ---- the records on the way are deltas, but the one at the end
  pub between_tells : (join : V → V → V) (low a : ℕ) (parts : Option V) (r : ChainResult K V) → ComesTo cmp join code v k low a parts r
      → (e : Entry K V) → IsIn v.log.text e → has_key cmp k e ≡ true → e.address ≤ a → at_of r.position < e.address → e.delta ≡ true
  between_tells join low a parts r (found {e = d} is stands high whole) e m own up above = absurd (let most = newest_high a d is e m own up in omega arith)
  between_tells join low a parts r (below {b = b} less is class) e m own up above = absurd (let most = newest_low a b is e m own up in omega arith)
  between_tells join low a parts r (joins {d = d} is high delta rest) e m own up above =
      by_level (nat_lt e.address d.address) refl (λ lower. between_tells join low d.previous (combined join d.value parts) r rest e m own lower above)
    where
      w : IsIn v.log.text d × (has_key cmp k d ≡ true) × (d.address ≤ a)
      w = delta_class a d is

      by_level : (b : Bool) → nat_lt e.address d.address ≡ b → (e.address ≤ d.previous → e.delta ≡ true) → e.delta ≡ true
      by_level true h lower = lower (near d w.0 w.1 e m own (ltb-true e.address d.address h))
      by_level false h lower =
          let most = newest_high a d is e m own up in
          let level : e.address ≡ d.address = grind (arith, nat_tests) in
          ap (λ (x : Entry K V). x.delta) (one_address v.log.text t.rising m.place w.0.place e d m.here w.0.here level) ∙ delta

-- ---- each record leads below itself
pub record_falls : {K V : Type 0} {keeps : Bool} (cmp : K → K → Ordering) (code : K → ℕ) (v : RecordsView K V) → IsKeyOrder cmp → IsTraced keeps code (raw v) → (e : Entry K V) → IsIn v.log.text e → e.previous < e.address
record_falls cmp code v order t e m = by_from (nat_lt e.previous v.log.from) refl
  where
    by_from : (b : Bool) → nat_lt e.previous v.log.from ≡ b → e.previous < e.address
    by_from true h =
        let under : e.previous < v.log.from = ltb-true e.previous v.log.from h in
        let high : v.log.from ≤ e.address = t.from m.place e m.here in
        omega arith
    by_from false h =
        let above : v.log.from ≤ e.previous = grind (arith, nat_tests) in
        next_low cmp code v e.key order t e.address (record { entry = e; here = entry_at-in v.log.text t.rising e m e.address refl; class = refl }) above

-- ---- what a look-up tells of what the key has
module _ {K V : Type 0} {keeps : Bool} (cmp : K → K → Ordering) (join : V → V → V) (code : K → ℕ) (v : RecordsView K V) (k : K) (order : IsKeyOrder cmp) (t : IsTraced keeps code v) (s : IsResolved cmp join v) where
  traced : IsTraced keeps code (raw v)
  traced = raw-traced cmp join v s.is t

  -- what the key has at an address
  abbrev value : ℕ → Option V
  value a = value_of (newest cmp v.text k a)

  value_resolved : (a : ℕ) → value a ≡ value_of (newest cmp (resolved cmp join v.log.text) k a)
  value_resolved a = ap (λ (es : List (Entry K V)). value_of (newest cmp es k a)) s.is

  -- it is the same where the same records of the key stand at or below
  same_value : (a b : ℕ)
      → ((e : Entry K V) → IsIn v.log.text e → has_key cmp k e ≡ true → e.address ≤ a → e.address ≤ b)
      → ((e : Entry K V) → IsIn v.log.text e → has_key cmp k e ≡ true → e.address ≤ b → e.address ≤ a)
      → value a ≡ value b
  same_value a b down up =
      value_resolved a
      ∙ newest-fold cmp join order v.log.text traced.rising k a
      ∙ ap (fold (value_after join) None) (filter-same (λ e. nat_le e.address a && has_key cmp k e) (λ e. nat_le e.address b && has_key cmp k e) v.log.text
      (λ i e h. alike (nat_le e.address a) (nat_le e.address b) (has_key cmp k e)
      (λ own low. le-leb e.address b (down e (record { place = i; here = h }) own (leb-true e.address a low)))
      (λ own low. le-leb e.address a (up e (record { place = i; here = h }) own (leb-true e.address b low)))))
      ∙ sym (value_resolved b ∙ newest-fold cmp join order v.log.text traced.rising k b)
    where
      alike : (x y z : Bool) → (z ≡ true → x ≡ true → y ≡ true) → (z ≡ true → y ≡ true → x ≡ true) → (x && z) ≡ (y && z)
      alike true true z f g = refl
      alike false false z f g = refl
      alike true false true f g = absurd (let no : false ≡ true = f refl refl in cc)
      alike true false false f g = refl
      alike false true true f g = absurd (let no : false ≡ true = g refl refl in cc)
      alike false true false f g = refl

  newest_value : (a b : ℕ) → newest cmp v.log.text k a ≡ newest cmp v.log.text k b → value a ≡ value b
  newest_value a b same = same_value a b (newest_low cmp code v k order traced a b same) (newest_low cmp code v k order traced b a (sym same))

  -- a delta joins its part to what the key had
  delta_value : (a : ℕ) (d : Entry K V) → newest cmp v.log.text k a ≡ Some d → d.delta ≡ true → (parts : Option V) → combined join (value a) parts ≡ combined join (value d.previous) (combined join d.value parts)
  delta_value a d is delta parts =
      let w = delta_class cmp code v k order traced a d is in
      let begun : v.log.from ≤ d.address = traced.from w.0.place d w.0.here in
      let level : value a ≡ value d.address = same_value a d.address (newest_high cmp code v k order traced a d is) (λ e m own low. (let high = w.2 in omega arith)) in
      let chain : IsChainFrom d.address v.log.text d.address (d ∷ []) = goes (omega arith) w.0 refl (ends (record_falls cmp code v order traced d w.0)) in
      let own : (x : Entry K V) → IsIn v.log.text x → x.address ≡ d.address → d.address ≤ d.address → class_in code v x.key ≡ class_in code v k =
      λ x m at up. ap (λ (y : Entry K V). class_in code v y.key) (one_address v.log.text traced.rising m.place w.0.place x d m.here w.0.here at) ∙ ap (class_in code v) (order.same d.key k w.1) in
      ap (λ u. combined join u parts) (level ∙ value_resolved d.address)
      ∙ read-chain cmp join order s.joins (class_in code v) same_class class_test v.log.from d.address begun v.log.text traced.rising traced.chained k d.address (d ∷ []) chain own parts
      ∙ ap (joined_end join s.joins (value_of (newest cmp (resolved cmp join v.log.text) k d.previous))) (ap (λ l. gathered join l parts) (filter-one (has_key cmp k) d [] true w.1) ∙ one_part)
      ∙ ap (λ u. combined join u (combined join d.value parts)) (sym (value_resolved d.previous))
    where
      one_part : gathered join (d ∷ []) parts ≡ (combined join d.value parts, None)
      one_part = rw delta refl

  pub values_tell : (low a : ℕ) (parts : Option V) (r : ChainResult K V) → ComesTo cmp join code v k low a parts r → combined join (value a) parts ≡ combined join (end_of cmp v k r.position) r.parts
  values_tell low a parts r (found {e = e} is stands high whole) =
      ap (λ u. combined join u parts) (value_resolved a ∙ whole-last join cmp v.log.text (λ x. nat_le x.address a && has_key cmp k x) (λ x u. refl) e is whole)
  values_tell low a parts r (below {b = b} less is class) = ap (λ u. combined join u parts) (newest_value a b is)
  values_tell low a parts r (joins {d = d} is high delta rest) = delta_value a d is delta parts ∙ values_tell low d.previous (combined join d.value parts) r rest

-- ---- the page of what is wanted begins no lower than Begin
pub page_begun : (bits size begin a : ℕ) → IsShape bits size → IsMark bits begin → begin ≤ a → begin ≤ first_place bits (page_at bits a)
page_begun bits size begin a shape (inl first) le = by_page (page_at bits a) refl
  where
    by_page : (p : ℕ) → page_at bits a ≡ p → begin ≤ first_place bits (page_at bits a)
    by_page zero h = rw h (omega arith)
    by_page (suc p) h =
        let up = starts-rise bits 1 (suc p) (omega arith) in
        let least : 2 ^ 8 ≤ 2 ^ bits = pow_mono {i = 8} {j = bits} shape.low in
        rw h (omega (arith, up, least))
page_begun bits size begin a shape (inr start) le =
    let up = starts-rise bits (page_at bits begin) (page_at bits a) (page_rises bits begin a le) in
    let whole = div-add-mod' begin (2 ^ bits) in
    omega (arith, up, whole, start)

-- so on a device that keeps, the text has begun there
pub page_up : {K V : Type 0} {keeps : Bool} {code : K → ℕ} (v : RecordsView K V) (low a : ℕ) → IsTraced keeps code v → IsTrue keeps → v.log.begin ≤ a → first_place v.log.bits (page_at v.log.bits a) ≤ low → v.log.from ≤ low
page_up {keeps = keeps} v low a t kept le floor =
    let begun : v.log.begin ≤ first_place v.log.bits (page_at v.log.bits a) = page_begun v.log.bits v.record_size v.log.begin a t.shape t.marked le in
    subst (λ (n : ℕ). n ≤ low) (sym (t.begins ∙ by_keeps keeps kept)) (omega arith)
  where
    by_keeps : (b : Bool) → IsTrue b → text_begin b v.log.begin v.log.regions.offsets.closed ≡ v.log.begin
    by_keeps true h = refl
    by_keeps false h = absurd (let bad : false ≡ true = h in cc)
