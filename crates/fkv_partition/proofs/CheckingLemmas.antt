-- What a look-up tells of the record of a place: whether it is the last of its key that is no delta.
use Rattle.std.proofs.Common.{◌≡◌, ◌≢◌, ◌&&◌, ◌==◌, ◌+◌, ◌<◌, ◌≤◌, ◌⊎◌, inl, inr, ℕ, Bool, true, false, cond, nat_le, nat_lt, is_some, IsTrue, IsSome, List, Option, Some, None, slice_get, refl, sym, ap, subst, ◌∙◌, arith}
use Rattle.std.proofs.lemmas.Bool.Decides.{nat_tests}
use Rattle.std.proofs.lemmas.Bool.{and_parts, eqb-true, leb-true, ltb-true}
use Rattle.std.specs.Option.{option_flatten}
use Rattle.std.specs.declared.cmp.Ordering.{Ordering}
use Rattle.fkv_functions.specs.Plain.{IsKeyOrder}
use Rattle.fkv_regions.specs.Agree.{ViewAgrees}
use Rattle.fkv_texts.specs.declared.entries.Entry.{Entry}
use Rattle.fkv_texts.specs.declared.entries.ChainPosition.{ChainPosition}
use Rattle.fkv_texts.specs.declared.entries.ChainPosition.TheVariants.{Found, Below}
use Rattle.fkv_texts.specs.Text.{last_where, entry_at, has_key, last_of, newest, value_of, IsRising}
use Rattle.fkv_texts.specs.Chains.{IsIn, has_class, last_below, Leads}
use Rattle.fkv_texts.specs.Deltas.{combined, resolved, IsCovered, IsSuperseded, IsCleared}
use Rattle.fkv_texts.proofs.LastWhere.{last_where-in, last_where-found, none-passes}
use Rattle.fkv_texts.proofs.BaseLemmas.{lowest-value}
use Rattle.fkv_index.specs.Words.{address_of}
use Rattle.fkv_index.specs.Places.{word_at}
use Rattle.fkv_operations.specs.Still.{IsStill}
use Rattle.fkv_operations.specs.Classes.{same_class}
use Rattle.fkv_operations.specs.declared.entries.IndexEntry.{IndexEntry}
use Rattle.fkv_operations.proofs.ClassLemmas.{class_test}
use Rattle.fkv_lookups.specs.declared.chain_results.ChainResult.{ChainResult}
use Rattle.fkv_lookups.specs.Decisions.{low_of}
use Rattle.fkv_lookups.specs.Lookups.{IsOfClass, ComesTo, end_of, at_of}
use Rattle.fkv_lookups.specs.RecordsViews.{RecordsView, class_in, IsEntryOf, WasEntryOf}
use Rattle.fkv_lookups.specs.Traced.{IsTraced, IsResolved}
use Rattle.fkv_lookups.proofs.TracedLemmas.{highest, raw, traced-raw, traced-held, traced-none, traced-low}
use Rattle.fkv_lookups.proofs.LookupLemmas.{begun, raw-traced, values_tell, between_tells}
use Rattle.fkv_lookups.proofs.MeetingLemmas.{low_head, low_begin, low_under, tells}
use Rattle.fkv_partition.specs.KeyBeginning.{IsEntered}
use Rattle.fkv_partition.proofs.GrownLemmas.{still-below}
use Rattle.fkv_partition.proofs.StoodLemmas.{rises}
use Rattle.fkv_partition.proofs.CuttingLemmas.{still-resolved}
use Rattle.fkv_partition.specs.KeySound.{IsSound}
use Rattle.fkv_partition.specs.Views.{PartitionView, partition_of, slots_of, seen_at, entry_for, reached_from}
use Rattle.fkv_partition.specs.declared.relocations.Liveness.TheVariants.{Superseded, Last, Further}
use Rattle.fkv_partition.specs.Stages.{IsTracing, IsReady}
use Rattle.fkv_partition.specs.Checking.{higher_of, liveness_at, liveness, above, told_above, renewed}
use Rattle.fkv_partition.specs.declared.relocations.Liveness.{Liveness}

-- the higher of two addresses is no lower than either
pub higher-left : (a b : ℕ) → a ≤ higher_of a b
higher-left a b = by_test (nat_le a b) refl
  where
    by_test : (c : Bool) → nat_le a b ≡ c → a ≤ cond c b a
    by_test true h = grind (arith, nat_tests)
    by_test false h = omega arith

pub higher-right : (a b : ℕ) → b ≤ higher_of a b
higher-right a b = by_test (nat_le a b) refl
  where
    by_test : (c : Bool) → nat_le a b ≡ c → b ≤ cond c b a
    by_test true h = omega arith
    by_test false h = grind (arith, nat_tests)

pub some-of : {A : Type 0} (o : Option A) → o ≢ None → IsSome o
some-of None h = absurd (h refl)
some-of (Some x) h = refl

-- ---- the record of a place among those of its key
module _ {K V : Type 0} (cmp : K → K → Ordering) (order : IsKeyOrder cmp) (text : List (Entry K V)) (rising : IsRising text) (place : ℕ) (e : Entry K V) (here : entry_at text place ≡ Some e) where
  pub stands-in : IsIn text e × (e.address ≡ place)
  stands-in = (last_where-in (λ x. x.address == place) text e here, eqb-true e.address place (last_where-found (λ x. x.address == place) text e here))

  -- the last of its key is no lower
  last-high : (x : Entry K V) → last_of cmp text e.key ≡ Some x → place ≤ x.address
  last-high x last =
      let up = highest (has_key cmp e.key) text rising x last stands-in.0.place e stands-in.0.here (order.self e.key) in
      let at = stands-in.1 in
      omega arith

  -- the newest at or below an address is no higher
  newest-low : (a : ℕ) (x : Entry K V) → newest cmp text e.key a ≡ Some x → x.address ≤ a
  newest-low a x found =
      leb-true x.address a (and_parts (nat_le x.address a) (has_key cmp e.key x) (last_where-found (λ d. nat_le d.address a && has_key cmp e.key d) text x found)).0

  -- where a newer one of its key stands, which is no delta, that covers it
  pub covered-by : (x : Entry K V) → IsIn text x → has_key cmp e.key x ≡ true → x.delta ≡ false → place < x.address → IsCovered cmp text e
  covered-by x m mine whole above = let at = stands-in.1 in record { by = x; stands = m; key = mine; whole = whole; above = omega arith }

  -- an address that the last of its key is at or below is no lower than the place
  pub place-under : (a : ℕ) → newest cmp text e.key a ≡ last_of cmp text e.key → place ≤ a
  place-under a same = by_last (last_of cmp text e.key) refl
    where
      by_last : (o : Option (Entry K V)) → last_of cmp text e.key ≡ o → place ≤ a
      by_last None h = absurd (
          let no = none-passes (has_key cmp e.key) text h stands-in.0.place e stands-in.0.here in
          let passed : has_key cmp e.key e ≡ true = order.self e.key in cc)
      by_last (Some x) h = let up = last-high x h in let low = newest-low a x (same ∙ h) in omega arith

  -- where all of its key between it and where the last of them is at or below are deltas, none covers it
  pub uncovered-by : (a : ℕ) → newest cmp text e.key a ≡ last_of cmp text e.key → ((d : Entry K V) → IsIn text d → has_key cmp e.key d ≡ true → place < d.address → d.address ≤ a → d.delta ≡ true) → IsCovered cmp text e → ⊥
  uncovered-by a same deltas w = by_last (last_of cmp text e.key) refl
    where
      by_last : (o : Option (Entry K V)) → last_of cmp text e.key ≡ o → ⊥
      by_last None h =
          let no = none-passes (has_key cmp e.key) text h w.stands.place w.by w.stands.here in
          let yes = w.key in
          cc
      by_last (Some x) h =
          let up = highest (has_key cmp e.key) text rising x h w.stands.place w.by w.stands.here w.key in
          let low = newest-low a x (same ∙ h) in
          let at = stands-in.1 in
          let above = w.above in
          let part = deltas w.by w.stands w.key (omega (arith, at, above)) (omega (arith, up, low)) in
          let whole = w.whole in
          cc

-- what is said of the record of a place is said of any that stands there
pub superseded-one : {K V : Type 0} {keeps : Bool} (cmp : K → K → Ordering) (text : List (Entry K V)) (place : ℕ) (e : Entry K V) → (IsTrue keeps → entry_at text place ≡ Some e) → (IsTrue keeps → IsSuperseded cmp text e)
    → IsTrue keeps → (d : Entry K V) → entry_at text place ≡ Some d → IsSuperseded cmp text d
superseded-one cmp text place e is superseded yes_keeps d there =
    let both : Some e ≡ Some d = sym (is yes_keeps) ∙ there in
    let same : e ≡ d = cc in
    subst (IsSuperseded cmp text) same (superseded yes_keeps)

-- what a look-up in memory came to, down to the lowest address that is followed, tells this of the record of a place
pub told-so : {K V I : Type 0} (cmp : K → K → Ordering) (join : V → V → V) (code : K → ℕ) {u v : PartitionView K V I} (same : u ≡ v) (slot place : ℕ) (key : K) {lowest low : ℕ} {came : ChainResult K V} {told outcome : Liveness V}
    → lowest ≡ low_of u.records.log.begin (seen_at u slot)
    → low ≡ higher_of (place + 1) lowest
    → came ≡ reached_from cmp join code u slot key low (entry_for code u key)
    → told ≡ liveness place came
    → told ≡ outcome
    → told_above cmp join code v slot place key ≡ outcome
told-so {K} {V} {I} cmp join code {u = u} same slot place key {outcome = outcome} lowest_is low_is came_is told_is is =
    let floor = low_is ∙ ap (higher_of (place + 1)) lowest_is in
    subst (λ (w : PartitionView K V I). told_above cmp join code w slot place key ≡ outcome) same
    (sym (ap (λ n. liveness place (reached_from cmp join code u slot key n (entry_for code u key))) floor)
    ∙ sym (ap (liveness place) came_is)
    ∙ sym told_is
    ∙ is)

-- ---- what the way tells
module _ {K V : Type 0} (place : ℕ) where
  abbrev pub out : ℕ → ChainPosition K V
  out b = Below b

  at-dead : (parts : Option V) (r : ChainPosition K V) → liveness_at place parts r ≡ Superseded → (x : Entry K V) × (r ≡ Found x) × (place < x.address)
  at-dead parts (Found x) h = by_test (nat_lt place x.address) refl h
    where
      by_test : (b : Bool) → nat_lt place x.address ≡ b → cond b Superseded (Last parts) ≡ Superseded → (y : Entry K V) × (Found x ≡ Found y) × (place < y.address)
      by_test true t j = (x, refl, ltb-true place x.address t)
      by_test false t j = absurd (cc)
  at-dead parts (Below b) h = by_test (nat_lt place b) h
    where
      by_test : (t : Bool) → cond t (Further b parts) (Last parts) ≡ Superseded → (y : Entry K V) × (Below b ≡ Found y) × (place < y.address)
      by_test true j = absurd (cc)
      by_test false j = absurd (cc)

  pub at-further : (parts q : Option V) (r : ChainPosition K V) (a : ℕ) → liveness_at place parts r ≡ Further a q → (r ≡ Below a) × (place < a) × (parts ≡ q)
  at-further parts q (Found x) a h = by_test (nat_lt place x.address) h
    where
      by_test : (b : Bool) → cond b Superseded (Last parts) ≡ Further a q → (Found x ≡ Below a) × (place < a) × (parts ≡ q)
      by_test true j = absurd (cc)
      by_test false j = absurd (cc)
  at-further parts q (Below b) a h = by_test (nat_lt place b) refl h
    where
      by_test : (t : Bool) → nat_lt place b ≡ t → cond t (Further b parts) (Last parts) ≡ Further a q → (out b ≡ Below a) × (place < a) × (parts ≡ q)
      by_test true t j = let same : b ≡ a = cc in (ap Below same, subst (λ n. place < n) same (ltb-true place b t), (cc))
      by_test false t j = absurd (cc)

  -- it comes down to the place, or to below it
  pub at-last : (parts q : Option V) (r : ChainPosition K V) → liveness_at place parts r ≡ Last q → (parts ≡ q) × (((x : Entry K V) × (r ≡ Found x) × (x.address ≤ place)) ⊎ ((b : ℕ) × (r ≡ Below b) × (b ≤ place)))
  at-last parts q (Found x) h = by_test (nat_lt place x.address) refl h
    where
      by_test : (b : Bool) → nat_lt place x.address ≡ b → cond b Superseded (Last parts) ≡ Last q → (parts ≡ q) × (((y : Entry K V) × (Found x ≡ Found y) × (y.address ≤ place)) ⊎ ((b : ℕ) × (Found x ≡ Below b) × (b ≤ place)))
      by_test true t j = absurd (cc)
      by_test false t j = ((cc), inl (x, refl, grind (arith, nat_tests)))
  at-last parts q (Below b) h = by_test (nat_lt place b) refl h
    where
      by_test : (t : Bool) → nat_lt place b ≡ t → cond t (Further b parts) (Last parts) ≡ Last q → (parts ≡ q) × (((y : Entry K V) × (Below b ≡ Found y) × (y.address ≤ place)) ⊎ ((a : ℕ) × (out b ≡ Below a) × (a ≤ place)))
      by_test true t j = absurd (cc)
      by_test false t j = ((cc), inr (b, refl, grind (arith, nat_tests)))

module _ {K V : Type 0} (cmp : K → K → Ordering) (join : V → V → V) (code : K → ℕ) (v : RecordsView K V) (k : K) (low : ℕ) where
  -- a record to which the way comes is one of the key, and no delta
  pub found-in : (a : ℕ) (parts : Option V) (r : ChainResult K V) → ComesTo cmp join code v k low a parts r → (x : Entry K V) → r.position ≡ Found x → IsIn v.log.text x × (has_key cmp k x ≡ true) × (x.delta ≡ false) × (low ≤ x.address)
  found-in a parts r (ComesTo.found {e = e} is stands high whole) x at =
      let same : e ≡ x = cc in
      let passes = λ (d : Entry K V). nat_le d.address a && has_key cmp k d in
      subst (λ (y : Entry K V). IsIn v.log.text y × (has_key cmp k y ≡ true) × (y.delta ≡ false) × (low ≤ y.address)) same
      (last_where-in passes v.log.text e is, (and_parts (nat_le e.address a) (has_key cmp k e) (last_where-found passes v.log.text e is)).1, whole, high)
  found-in a parts r (ComesTo.below under is class) x at = absurd (cc)
  found-in a parts r (ComesTo.joins {d = d} is high part more) x at = found-in d.previous (combined join d.value parts) r more x at

  -- where it leads out, a record of the key's class stands
  pub way-class : (a : ℕ) (parts : Option V) (r : ChainResult K V) → ComesTo cmp join code v k low a parts r → (b : ℕ) → r.position ≡ Below b → v.log.from ≤ b → IsOfClass code v k b
  way-class a parts r (ComesTo.found is stands high whole) b at begins = absurd (cc)
  way-class a parts r (ComesTo.below {b = c} under is class) b at begins = let same : c ≡ b = cc in subst (IsOfClass code v k) same (class (omega (arith, same, begins)))
  way-class a parts r (ComesTo.joins {d = d} is high part more) b at begins = way-class d.previous (combined join d.value parts) r more b at begins

  pub way-low : (a : ℕ) (parts : Option V) (r : ChainResult K V) → ComesTo cmp join code v k low a parts r → (b : ℕ) → r.position ≡ Below b → b < low
  way-low a parts r (ComesTo.found is stands high whole) b at = absurd (cc)
  way-low a parts r (ComesTo.below {b = c} under is class) b at = let same : c ≡ b = cc in subst (λ n. n < low) same under
  way-low a parts r (ComesTo.joins {d = d} is high part more) b at = way-low d.previous (combined join d.value parts) r more b at

  -- nobody changes the key's newest record where it leads below what is frozen
  pub way-still : (safe a : ℕ) (parts : Option V) (r : ChainResult K V) → ComesTo cmp join code v k low a parts r → (b : ℕ) → r.position ≡ Below b → b < safe → IsStill safe (newest cmp v.log.text k a)
  way-still safe a parts r (ComesTo.found is stands high whole) b at frozen = absurd (cc)
  way-still safe a parts r (ComesTo.below {b = c} under is class) b at frozen = let same : c ≡ b = cc in rw is (still-below cmp v.log.text k c safe (omega (arith, same, frozen)))
  way-still safe a parts r (ComesTo.joins is high part more) b at frozen = rw is (inr (inl part))

-- ---- down to a place
module _ {K V : Type 0} {keeps : Bool} (cmp : K → K → Ordering) (join : V → V → V) (code : K → ℕ) (order : IsKeyOrder cmp) (v : RecordsView K V) (t : IsTraced keeps code v) (s : IsResolved cmp join v) (place : ℕ) (e : Entry K V) (here : entry_at v.log.text place ≡ Some e) where
  rising : IsRising v.log.text
  rising = rises cmp join v s t

  -- where a newer record that is no delta is met
  pub met-dead : (low a : ℕ) (parts : Option V) (r : ChainResult K V) → ComesTo cmp join code v e.key low a parts r → liveness place r ≡ Superseded → IsSuperseded cmp v.log.text e
  met-dead low a parts r goes j =
      let d = at-dead place r.parts r.position j in
      let f = found-in cmp join code v e.key low a parts r goes d.0 d.1 in
      inr (covered-by cmp order v.log.text rising place e here d.0 f.0 f.1 f.2 d.2)

  -- the way leads from a delta to no lower than the place
  delta-leads : (a : ℕ) (d : Entry K V) → newest cmp v.log.text e.key a ≡ Some d → place < d.address → place ≤ d.previous
  delta-leads a d is above =
      let passes = λ (x : Entry K V). nat_le x.address a && has_key cmp e.key x in
      let m = last_where-in passes v.log.text d is in
      let own : d.key ≡ e.key = order.same d.key e.key (and_parts (nat_le d.address a) (has_key cmp e.key d) (last_where-found passes v.log.text d is)).1 in
      let st = stands-in cmp order v.log.text rising place e here in
      by_last (last_below (class_in code v) same_class v.log.text (class_in code v d.key) d.address) refl ((traced-raw t s).chained m.place d m.here)
    where
      at : e.address ≡ place
      at = (stands-in cmp order v.log.text rising place e here).1

      before : Entry K V → Bool
      before x = nat_lt x.address d.address && has_class (class_in code v) same_class (class_in code v d.key) x

      own-key : d.key ≡ e.key
      own-key = order.same d.key e.key (and_parts (nat_le d.address a) (has_key cmp e.key d) (last_where-found (λ (x : Entry K V). nat_le x.address a && has_key cmp e.key x) v.log.text d is)).1

      is-before : before e ≡ true
      is-before =
          let less : nat_lt e.address d.address ≡ true = grind (arith, nat_tests, at, above) in
          let class : has_class (class_in code v) same_class (class_in code v d.key) e ≡ true = ap (λ q. same_class (class_in code v e.key) (class_in code v q)) own-key ∙ class_test.self (class_in code v e.key) in
          rw (less, class) refl

      by_last : (o : Option (Entry K V)) → last_where before v.log.text ≡ o → Leads v.log.from o d.previous → place ≤ d.previous
      by_last None h leads = absurd (
          let m = (stands-in cmp order v.log.text rising place e here).0 in
          let no = none-passes before v.log.text h m.place e m.here in
          let yes = is-before in cc)
      by_last (Some y) h leads =
          let m = (stands-in cmp order v.log.text rising place e here).0 in
          let up = highest before v.log.text rising y h m.place e m.here is-before in
          let same : d.previous ≡ y.address = leads in
          omega (arith, up, same, at)

  -- so where it ends at or below the place, it ends there
  pub lands : (low a : ℕ) (parts : Option V) (r : ChainResult K V) → place < low → place ≤ a → ComesTo cmp join code v e.key low a parts r → (b : ℕ) → r.position ≡ Below b → place ≤ b
  lands low a parts r under le (ComesTo.found is stands high whole) b at = absurd (cc)
  lands low a parts r under le (ComesTo.below {b = c} out is class) b at =
      let same : c ≡ b = cc in
      by_newest (newest cmp v.log.text e.key a) refl same
    where
      passes : (nat_le e.address a && has_key cmp e.key e) ≡ true
      passes =
          let at = (stands-in cmp order v.log.text rising place e here).1 in
          let low : nat_le e.address a ≡ true = grind (arith, nat_tests) in
          let mine : has_key cmp e.key e ≡ true = order.self e.key in
          rw (low, mine) refl

      by_newest : (o : Option (Entry K V)) → newest cmp v.log.text e.key a ≡ o → c ≡ b → place ≤ b
      by_newest None h same = absurd (
          let m = (stands-in cmp order v.log.text rising place e here).0 in
          let no = none-passes (λ (d : Entry K V). nat_le d.address a && has_key cmp e.key d) v.log.text h m.place e m.here in
          let yes = passes in cc)
      by_newest (Some x) h same =
          let st = stands-in cmp order v.log.text rising place e here in
          let up = highest (λ (d : Entry K V). nat_le d.address a && has_key cmp e.key d) v.log.text rising x h st.0.place e st.0.here passes in
          let down = newest-low cmp order v.log.text rising place e here c x (sym is ∙ h) in
          let at = st.1 in
          omega (arith, up, down, at, same)
  lands low a parts r under le (ComesTo.joins {d = d} is high part more) b at =
      lands low d.previous (combined join d.value parts) r under (delta-leads a d is (omega (arith, under, high))) more b at

  -- and what its key has from where an entry leads is its own value, joined with the parts above
  pub place-value : (a : ℕ) (parts : Option V)
      → newest cmp v.log.text e.key a ≡ last_of cmp v.log.text e.key
      → ((d : Entry K V) → IsIn v.log.text d → has_key cmp e.key d ≡ true → place < d.address → d.address ≤ a → d.delta ≡ true)
      → IsCleared cmp v.log.text place
      → value_of (newest cmp v.text e.key a) ≡ combined join (value_of (newest cmp v.text e.key place)) parts
      → value_of (newest cmp v.text e.key a) ≡ combined join e.value parts
  place-value a parts held deltas clear is =
      let at = (stands-in cmp order v.log.text rising place e here).1 in
      let own : entry_at v.log.text e.address ≡ Some e = ap (entry_at v.log.text) at ∙ here in
      let lowest = lowest-value cmp v.log.text order rising e own join (subst (IsCleared cmp v.log.text) (sym at) clear) (uncovered-by cmp order v.log.text rising place e here a held deltas) in
      let there : value_of (newest cmp v.text e.key place) ≡ e.value = ap (λ u. value_of (newest cmp u e.key place)) s.is ∙ ap (λ n. value_of (newest cmp (resolved cmp join v.log.text) e.key n)) (sym at) ∙ lowest in
      is ∙ ap (λ o. combined join o parts) there

-- a value joined with parts is a value
pub combined-some : {V : Type 0} (join : V → V → V) (v parts : Option V) → IsSome v → IsSome (combined join v parts)
combined-some join None parts some = absurd (cc)
combined-some join (Some x) None some = refl
combined-some join (Some x) (Some y) some = refl

-- a record of a place may be appended again, joined with the parts of later deltas
pub ready-by : {K V : Type 0} {keeps : Bool} (cmp : K → K → Ordering) (join : V → V → V) (code : K → ℕ) → IsKeyOrder cmp → (v : RecordsView K V) → IsTraced keeps code v → (place : ℕ) (e : Entry K V) (parts : Option V) (kept : IndexEntry)
    → e.address ≡ place
    → IsSome e.value
    → WasEntryOf v (class_in code v e.key) kept
    → address_of kept.word < v.log.tail
    → (IsTrue keeps → entry_at v.log.text place ≡ Some e)
    → (IsTrue keeps → word_at v.words kept.place ≡ kept.word → value_of (newest cmp v.text e.key (address_of kept.word)) ≡ combined join e.value parts)
    → (IsTrue keeps → word_at v.words kept.place ≡ kept.word → IsStill v.log.regions.offsets.safe_read_only (newest cmp v.text e.key (address_of kept.word)))
    → (IsTrue keeps → address_of kept.word < 64 → ⊥)
    → (IsTrue keeps → (d : Entry K V) → IsIn v.log.text d → has_key cmp e.key d ≡ true → place < d.address → d.address ≤ address_of kept.word → d.delta ≡ true)
    → IsReady keeps cmp join code v place (renewed join e parts) kept
ready-by cmp join code order v t place e parts kept here some entry low is value still nowhere between = record {
  here = here;
  some = combined-some join e.value parts some;
  is_kept = record { entry = entry; low = low; value = value; still = still; nowhere = λ yes_keeps none. absurd (nowhere yes_keeps none) };
  own = λ yes_keeps d there. (let both : Some e ≡ Some d = sym (is yes_keeps) ∙ there in let same : e ≡ d = cc in ap (λ (x : Entry _ _). x.key) (sym same));
  between = between;
}

-- ---- in memory, from the entry of the record's class
at-epoch : (o : Option (Option ℕ)) → is_some (option_flatten o) ≡ true → (n : ℕ) × (o ≡ Some (Some n))
at-epoch None h = absurd (cc)
at-epoch (Some None) h = absurd (cc)
at-epoch (Some (Some n)) h = (n, refl)

module _ {K V I : Type 0} {keeps : Bool} (cmp : K → K → Ordering) (join : V → V → V) (code : K → ℕ) (v : PartitionView K V I) (s : IsSound keeps cmp join code v) (slot : ℕ) (entered : IsEntered v slot) where
  pub view-agrees : ViewAgrees v.records.log.regions.offsets (seen_at v slot)
  view-agrees = let e = at-epoch (slice_get (slots_of v) slot) entered in s.traced.regions.agree.agree.each slot e.0 e.1

  -- where a session reads in memory, frames are open, and the text has begun
  pub low-open : v.records.log.regions.offsets.closed ≤ low_of v.records.log.begin (seen_at v slot)
  low-open =
      let head = low_head v.records.log.begin (seen_at v slot) in
      let closed = view-agrees.closed in
      omega arith

  pub low-begun : v.records.log.from ≤ low_of v.records.log.begin (seen_at v slot)
  low-begun = begun v.records (low_of v.records.log.begin (seen_at v slot)) s.traced low-open (low_begin v.records.log.begin (seen_at v slot))

  -- what lies below is on disk
  pub low-disk : (b : ℕ) → b < low_of v.records.log.begin (seen_at v slot) → v.records.log.begin ≤ b → b < v.records.log.regions.offsets.head
  low-disk b under high =
      let low = low_under v.records.log.begin (seen_at v slot) b under high in
      let head = view-agrees.head in
      omega arith

  -- down to above a place
  pub above-open : (place : ℕ) → v.records.log.regions.offsets.closed ≤ above v slot place
  above-open place = let up = higher-right (place + 1) (low_of v.records.log.begin (seen_at v slot)) in let opens = low-open in omega arith

  pub above-begin : (place : ℕ) → v.records.log.begin ≤ above v slot place
  above-begin place = let up = higher-right (place + 1) (low_of v.records.log.begin (seen_at v slot)) in let begin = low_begin v.records.log.begin (seen_at v slot) in omega arith

  pub above-place : (place : ℕ) → place < above v slot place
  above-place place = let up = higher-left (place + 1) (low_of v.records.log.begin (seen_at v slot)) in omega arith

  above-begun : (place : ℕ) → v.records.log.from ≤ above v slot place
  above-begun place = let up = higher-right (place + 1) (low_of v.records.log.begin (seen_at v slot)) in let begun = low-begun in omega arith

  -- where the way leads out above the place, it leads to the disk
  above-under : (place b : ℕ) → b < above v slot place → place < b → b < low_of v.records.log.begin (seen_at v slot)
  above-under place b under high = by_test (nat_le (place + 1) (low_of v.records.log.begin (seen_at v slot))) refl under
    where
      by_test : (c : Bool) → nat_le (place + 1) (low_of v.records.log.begin (seen_at v slot)) ≡ c → b < cond c (low_of v.records.log.begin (seen_at v slot)) (place + 1) → b < low_of v.records.log.begin (seen_at v slot)
      by_test true h less = less
      by_test false h less = absurd (omega (arith, less, high))

  module _ (order : IsKeyOrder cmp) (place : ℕ) (k : K) (a : ℕ) (leads : entry_for code v k ≡ Some a) where
    pub going : ComesTo cmp join code v.records k (above v slot place) a None (reached_from cmp join code v slot k (above v slot place) (entry_for code v k))
    going = subst (λ o. ComesTo cmp join code v.records k (above v slot place) a None (reached_from cmp join code v slot k (above v slot place) o)) (sym leads)
        (tells cmp join code v.records k order s.traced s.resolved (above v slot place) (above-begun place) a leads)

    -- the entry leads to the last record of the key
    pub held : newest cmp v.records.log.text k a ≡ last_of cmp v.records.log.text k
    held = traced-held cmp code (raw v.records) k order (traced-raw s.traced s.resolved) a leads

was-entry : {K V : Type 0} (code : K → ℕ) (r : RecordsView K V) (k : K) (kept : IndexEntry) → IsEntryOf r (class_in code r k) kept → WasEntryOf r (class_in code r k) kept
was-entry code r k kept h = record { place = h.place; bucket = h.bucket; final = h.final; tag = h.tag }

module _ {K V I : Type 0} {keeps : Bool} (cmp : K → K → Ordering) (join : V → V → V) (code : K → ℕ) (order : IsKeyOrder cmp) (v : PartitionView K V I) (s : IsSound keeps cmp join code v) (slot : ℕ) (entered : IsEntered v slot) (place : ℕ) (e : Entry K V)
    (here : e.address ≡ place) (is : IsTrue keeps → entry_at v.records.log.text place ≡ Some e) where
  rises-here : IsRising v.records.log.text
  rises-here = rises cmp join v.records s.resolved s.traced

  -- a record of a key that belongs elsewhere stands here on no device that keeps
  pub superseded-foreign : partition_of v.count (code e.key) ≢ v.number → IsTrue keeps → IsSuperseded cmp v.records.log.text e
  superseded-foreign other yes_keeps = let m = (stands-in cmp order v.records.log.text rises-here place e (is yes_keeps)).0 in absurd (other (s.routed m.place e m.here))

  -- nor does one of a key whose class has no entry
  pub superseded-nowhere : entry_for code v e.key ≡ None → IsTrue keeps → IsSuperseded cmp v.records.log.text e
  superseded-nowhere none yes_keeps =
      let m = (stands-in cmp order v.records.log.text rises-here place e (is yes_keeps)).0 in
      let no = none-passes (has_key cmp e.key) v.records.log.text (traced-none cmp code (raw v.records) e.key order (traced-raw s.traced s.resolved) none) m.place e m.here in
      absurd (let yes : has_key cmp e.key e ≡ true = order.self e.key in cc)

  module _ (kept : IndexEntry) (stands : IsEntryOf v.records (class_in code v.records e.key) kept) (leads : entry_for code v e.key ≡ Some (address_of kept.word)) where
    abbrev came : ChainResult K V
    came = reached_from cmp join code v slot e.key (above v slot place) (entry_for code v e.key)

    way : ComesTo cmp join code v.records e.key (above v slot place) (address_of kept.word) None came
    way = going cmp join code v s slot entered order place e.key (address_of kept.word) leads

    pub superseded-newer : liveness place came ≡ Superseded → IsTrue keeps → IsSuperseded cmp v.records.log.text e
    superseded-newer j yes_keeps = met-dead cmp join code order v.records s.traced s.resolved place e (is yes_keeps) (above v slot place) (address_of kept.word) None came way j

    led : newest cmp v.records.log.text e.key (address_of kept.word) ≡ last_of cmp v.records.log.text e.key
    led = held cmp join code v s slot entered order place e.key (address_of kept.word) leads

    under : IsTrue keeps → place ≤ address_of kept.word
    under yes_keeps = place-under cmp order v.records.log.text rises-here place e (is yes_keeps) (address_of kept.word) led

    values : combined join (value_of (newest cmp v.records.text e.key (address_of kept.word))) None ≡ combined join (end_of cmp v.records e.key came.position) came.parts
    values = values_tell cmp join code v.records e.key order s.traced s.resolved (above v slot place) (address_of kept.word) None came way

    combined-none : (o : Option V) → combined join o None ≡ o
    combined-none None = refl
    combined-none (Some x) = refl

    deltas : (d : Entry K V) → IsIn v.records.log.text d → has_key cmp e.key d ≡ true → d.address ≤ address_of kept.word → at_of came.position < d.address → d.delta ≡ true
    deltas = between_tells cmp code v.records e.key order (raw-traced cmp join v.records s.resolved.is s.traced) join (above v slot place) (address_of kept.word) None came way

    still-text : (safe : ℕ) → IsStill safe (newest cmp v.records.log.text e.key (address_of kept.word)) → IsStill safe (newest cmp v.records.text e.key (address_of kept.word))
    still-text safe h = subst (λ u. IsStill safe (newest cmp u e.key (address_of kept.word))) (sym s.resolved.is) (still-resolved cmp join v.records.log.text s.resolved.valued (λ x. nat_le x.address (address_of kept.word) && has_key cmp e.key x) (λ x y. refl) safe h)

    -- the way comes down to the place: no later record of the key is whole
    module _ (parts : Option V) (j : liveness place came ≡ Last parts) where
      ends : (came.parts ≡ parts) × ((b : ℕ) × (came.position ≡ Below b) × (b ≤ place))
      ends = let l = at-last place came.parts parts came.position j in (
        l.0,
        elim l.1 [
          | inl found ↦ absurd (let f = found-in cmp join code v.records e.key (above v slot place) (address_of kept.word) None came way found.0 found.1 in let up = above-place cmp join code v s slot entered place in let high = f.3 in let low = found.2 in omega (arith, up, high, low))
          | inr below ↦ below
        ],
      )

      lands-here : IsTrue keeps → ends.1.0 ≡ place
      lands-here yes_keeps =
          let up = lands cmp join code order v.records s.traced s.resolved place e (is yes_keeps) (above v slot place) (address_of kept.word) None came (above-place cmp join code v s slot entered place) (under yes_keeps) way ends.1.0 ends.1.1 in
          let down = ends.1.2 in
          omega (arith, up, down)

      ready-value : IsTrue keeps → IsCleared cmp v.records.log.text place → value_of (newest cmp v.records.text e.key (address_of kept.word)) ≡ combined join e.value parts
      ready-value yes_keeps clear =
          let lands = lands-here yes_keeps in
          place-value cmp join code order v.records s.traced s.resolved place e (is yes_keeps) (address_of kept.word) parts led
          (λ d m own above low. deltas d m own low (subst (λ n. n < d.address) (sym (ap at_of ends.1.1 ∙ lands)) above))
          clear
          (sym (combined-none (value_of (newest cmp v.records.text e.key (address_of kept.word)))) ∙ values
          ∙ ap (λ p. combined join (end_of cmp v.records e.key p) came.parts) ends.1.1
          ∙ ap (λ n. combined join (value_of (newest cmp v.records.text e.key n)) came.parts) lands
          ∙ ap (combined join (value_of (newest cmp v.records.text e.key place))) ends.0)

      pub ready : v.records.log.begin ≤ place → place < v.records.log.regions.offsets.safe_read_only → e.value ≢ None
          → (IsTrue keeps → IsCleared cmp v.records.log.text place)
          → IsReady keeps cmp join code v.records place (renewed join e parts) kept
      ready high frozen some clear =
          ready-by cmp join code order v.records s.traced place e parts kept here (some-of e.value some) (was-entry code v.records e.key kept stands)
          (traced-low v.records (class_in code v.records e.key) (address_of kept.word) s.traced leads) is
          (λ yes_keeps holds. ready-value yes_keeps (clear yes_keeps))
          (λ yes_keeps holds. still-text v.records.log.regions.offsets.safe_read_only (way-still cmp join code v.records e.key (above v slot place) v.records.log.regions.offsets.safe_read_only (address_of kept.word) None came way ends.1.0 ends.1.1 (let down = ends.1.2 in omega (arith, down, frozen))))
          (λ yes_keeps none. let least = s.traced.first in let low = under yes_keeps in omega (arith, least, low, high, none))
          (λ yes_keeps d m own above low. deltas d m own low (subst (λ n. n < d.address) (sym (ap at_of ends.1.1 ∙ lands-here yes_keeps)) above))

    -- the way goes on, in a page on disk above the place
    module _ (b : ℕ) (parts : Option V) (high : v.records.log.begin ≤ place) (j : liveness place came ≡ Further b parts) where
      goes : (came.position ≡ Below b) × (place < b) × (came.parts ≡ parts)
      goes = at-further place came.parts parts came.position b j

      pub further-disk : (v.records.log.begin ≤ b) × (b < v.records.log.regions.offsets.head)
      further-disk =
          let up = goes.1 in
          let begins : v.records.log.begin ≤ b = omega arith in
          (begins, low-disk cmp join code v s slot entered b (above-under cmp join code v s slot entered place b (way-low cmp join code v.records e.key (above v slot place) (address_of kept.word) None came way b goes.0) up) begins)

      pub tracing : (now : ℕ) → e.value ≢ None → IsTracing keeps cmp join code v.records place e (record { begin = v.records.log.begin; kept = kept; wanted = b; parts = parts; looked = now })
      tracing now some = record {
        here = here;
        some = some-of e.value some;
        begun = high;
        above = goes.1;
        led = under;
        loading = record {
          entry = was-entry code v.records e.key kept stands;
          low = traced-low v.records (class_in code v.records e.key) (address_of kept.word) s.traced leads;
          begun = further-disk.0;
          past = omega arith;
          on_disk = further-disk.1;
          leads = λ yes_keeps same. record {
            class = λ begins. way-class cmp join code v.records e.key (above v slot place) (address_of kept.word) None came way b goes.0 begins;
            still = still-text v.records.log.regions.offsets.safe_read_only (way-still cmp join code v.records e.key (above v slot place) v.records.log.regions.offsets.safe_read_only (address_of kept.word) None came way b goes.0 on-disk);
            newest =
                sym (combined-none (value_of (newest cmp v.records.text e.key (address_of kept.word)))) ∙ values
                ∙ ap (λ p. combined join (end_of cmp v.records e.key p) came.parts) goes.0
                ∙ ap (combined join (value_of (newest cmp v.records.text e.key b))) goes.2;
            between = λ d m own past low. deltas d m own low (subst (λ n. n < d.address) (sym (ap at_of goes.0)) past);
          };
        };
        is = λ yes_keeps same. is yes_keeps;
      }
        where
          on-disk : b < v.records.log.regions.offsets.safe_read_only
          on-disk = let low = further-disk.1 in let head = s.traced.regions.agree.in_order.head in omega arith
