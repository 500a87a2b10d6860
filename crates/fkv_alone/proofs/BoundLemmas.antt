-- How many events an operation takes that is driven alone.
use Rattle.std.proofs.Common.{◌≡◌, ◌<◌, ◌≤◌, ◌+◌, ◌*◌, ◌^◌, ◌&&◌, ◌==◌, inl, inr, ℕ, List, Bool, true, false, cond, nat_le, nat_lt, IsTrue, length, slice_get, slice_set, Option, Some, None, option_map, Result, Ok, Err, IfOk, refl, sym, ◌∙◌, ap, subst, arith}
use Rattle.std.specs.Prelude.{filter}
use Rattle.std.proofs.Math.Nat.{div-mul-le_self}
use Rattle.std.proofs.lemmas.Bool.{and_parts, and_from, eq-eqb, eqb-true}
use Rattle.std.proofs.lemmas.Bool.Decides.{nat_tests}
use Rattle.std.specs.declared.cmp.Ordering.{Ordering}
use Rattle.fkv_functions.proofs.ListLemmas.{get-set_cases}
use Rattle.fkv_functions.specs.Meanings.{Meanings}
use Rattle.fkv_functions.specs.declared.asks.Ask.{Ask}
use Rattle.fkv_functions.specs.declared.refusals.Refused.{Refused}
use Rattle.fkv_functions.specs.declared.refusals.Refused.TheVariants.{NoMemory}
use Rattle.fkv_records.specs.Places.{page_at, start_at}
use Rattle.fkv_device.specs.Standing.{Standing, Joined}
use Rattle.fkv_index.specs.declared.words.Word.{Word}
use Rattle.fkv_index.specs.declared.words.Place.{Place}
use Rattle.fkv_index.specs.Words.{tag_of, address_of, is_tentative}
use Rattle.fkv_index.specs.Places.{word_at}
use Rattle.fkv_index.specs.Entries.{entry_at, place_of, IsAlone}
use Rattle.fkv_texts.specs.declared.entries.Entry.{Entry}
use Rattle.fkv_texts.specs.declared.entries.ChainPosition.{ChainPosition}
use Rattle.fkv_texts.specs.declared.entries.ChainPosition.TheVariants.{Found, Below}
use Rattle.fkv_regions.specs.declared.offsets.View.{View}
use Rattle.fkv_hybrid.specs.Loads.{IsReached, first_place}
use Rattle.fkv_hybrid.specs.Views.{text_begin}
use Rattle.fkv_operations.specs.After.{key_of, shown_of}
use Rattle.fkv_operations.specs.Classes.{same_class}
use Rattle.fkv_operations.specs.declared.classes.Class.{Class}
use Rattle.fkv_operations.specs.declared.entries.IndexEntry.{IndexEntry}
use Rattle.fkv_operations.specs.declared.operations.Answer.TheVariants as answered
use Rattle.fkv_operations.specs.declared.operations.KeyedOp.{KeyedOp}
use Rattle.fkv_operations.specs.declared.operations.KeyedOp.TheVariants.{Read, Upsert, Rmw, Delete, Merge}
use Rattle.fkv_lookups.specs.RecordsViews.{RecordsView, class_in, entry_of, found_in, confirmed}
use Rattle.fkv_lookups.specs.declared.chain_results.ChainResult.{ChainResult}
use Rattle.fkv_lookups.specs.Lookups.{looked_up, ComesToInPage}
use Rattle.fkv_lookups.specs.Meeting.{met_from}
use Rattle.fkv_lookups.specs.Decisions.{low_of}
use Rattle.fkv_lookups.specs.DecisionLaws.{load-op, claim-met, none-met, prepare-op}
use Rattle.fkv_lookups.specs.declared.decisions.LookupResult.TheVariants.{NoEntry}
use Rattle.fkv_lookups.specs.declared.decisions.Decision.TheVariants.{Claim}
use Rattle.fkv_partition.specs.declared.contexts.Context.{Context}
use Rattle.fkv_partition.specs.declared.contexts.OpenWork.{OpenWork}
use Rattle.fkv_partition.specs.declared.contexts.OpenWork.TheVariants.{OnKey}
use Rattle.fkv_partition.specs.declared.contexts.Loading.{Loading}
use Rattle.fkv_partition.specs.declared.contexts.Phase.{Phase}
use Rattle.fkv_partition.specs.declared.contexts.Phase.TheVariants.{Fresh, Confirm, Prepared, Load}
use Rattle.fkv_partition.specs.declared.contexts.Progress.{Progress}
use Rattle.fkv_partition.specs.declared.contexts.Progress.TheVariants.{Done, Next, NeedsBuild, NeedsLoad, Waits}
use Rattle.fkv_partition.specs.declared.contexts.Wait.TheVariants as wait
use Rattle.fkv_partition.specs.Claiming.{IsClaimed}
use Rattle.fkv_partition.specs.Contexts.{joined, question_in, question_by, at_phase, claim_at, claim_by, claim_of}
use Rattle.fkv_partition.specs.KeyGoing.{Goes, Decides}
use Rattle.fkv_partition.specs.KeyInstalling.{Installs}
use Rattle.fkv_partition.specs.KeyLoading.{AwaitsPage, Loads, LoadsBy, ReadsBy}
use Rattle.fkv_partition.specs.KeySound.{IsSound, StandsFor, IsLoading}
use Rattle.fkv_partition.specs.Views.{PartitionView, slots_of, seen_at, context_at, with_context}
use Rattle.fkv_alone.specs.Stages.{IsReady}
use Rattle.fkv_alone.specs.Ending.{IsOn}
use Rattle.fkv_alone.specs.Bound.{is_evicted, evicted, evicted_to, rest_of, NoneClaims, IsMade, IsNear, IsNearer}
use Rattle.fkv_alone.proofs.OpenLemmas.{set-here}
use Rattle.fkv_partition.proofs.AskedLemmas.{key_at}
use Rattle.fkv_alone.proofs.StageLemmas.{some-same, question-rmw}
use Rattle.fkv_alone.proofs.IndexLemmas.{tentative-tag, tentative-is, tentative-place, confirmed-final, confirmed-tag, alone-made}
use Rattle.fkv_alone.proofs.CountLemmas.{count-fewer, count-less, last-passes}

-- ---- where no entry is met there is none
met-entry : {K V : Type 0} (cmp : K → K → Ordering) (join : V → V → V) (code : K → ℕ) (r : RecordsView K V) (view : View) (k : K) (o : Option ℕ) → met_from cmp join code r view k o ≡ NoEntry → o ≡ None
met-entry cmp join code r view k None h = refl
met-entry cmp join code r view k (Some a) h = none-met join r.log.begin view (Some a) (looked_up cmp join code r (low_of r.log.begin view) k a) h

-- an entry that was found stands
found-word : {K V : Type 0} (r : RecordsView K V) (c : Class) (e : IndexEntry) → found_in r c ≡ Some e → word_at r.words e.place ≡ e.word
found-word r c e h = by (place_of r.words c.bucket c.tag) h
  where
    by : (o : Option Place) → option_map (λ p. record { place = p; word = word_at r.words p }) o ≡ Some e → word_at r.words e.place ≡ e.word
    by None k = absurd (cc)
    by (Some p) k =
        let made : IndexEntry = record { place = p; word = word_at r.words p } in
        let same : made ≡ e = cc in
        subst (λ (z : IndexEntry). word_at r.words z.place ≡ z.word) same refl

-- a loaded page leads below its first record
reached-low : {K V : Type 0} (entry : ℕ → Entry K V → Type 0) (cmp : K → K → Ordering) (k : K) (bits low a b : ℕ) (r : Result (ChainPosition K V) Refused) → IsReached entry cmp k bits low a r → r ≡ Ok (Below b) → b < low
reached-low entry cmp k bits low a b r (IsReached.below {a = d} h) e = let same : d ≡ b = cc in omega arith
reached-low entry cmp k bits low a b r (IsReached.none h n) e = absurd (cc)
reached-low entry cmp k bits low a b r (IsReached.found h n t) e = absurd (cc)
reached-low entry cmp k bits low a b r (IsReached.on {e = x} h n t rest) e = reached-low entry cmp k bits low x.previous b r rest e

-- and so it does where parts of deltas were gathered
abbrev position_in : {K V : Type 0} → Result (ChainResult K V) Refused → ChainPosition K V
position_in (Ok g) = g.position
position_in (Err e) = Below 0

gathered-low : {K V : Type 0} (join : V → V → V) (entry : ℕ → Entry K V → Type 0) (cmp : K → K → Ordering) (k : K) (bits low a b : ℕ) (parts ps : Option V) (r : Result (ChainResult K V) Refused)
    → ComesToInPage join entry cmp k bits low a parts r → r ≡ Ok (record { parts = ps; position = Below b }) → b < low
gathered-low join entry cmp k bits low a b parts ps r (ComesToInPage.refused h) e = absurd (cc)
gathered-low {K} {V} join entry cmp k bits low a b parts ps r (ComesToInPage.below {b = d} h) e =
    let place : Below d ≡ Below b = ap position_in e in
    let same : d ≡ b = cc in
    let below : d < low = reached-low entry cmp k bits low a d (Ok (Below d)) h refl in
    omega arith
gathered-low {K} {V} join entry cmp k bits low a b parts ps r (ComesToInPage.found {e = x} h whole) e =
    let place : Found x ≡ Below b = ap position_in e in
    absurd (cc)
gathered-low join entry cmp k bits low a b parts ps r (ComesToInPage.joins {d = d} h delta rest) e = gathered-low join entry cmp k bits low d.previous b _ ps r rest e

-- which is no higher than the address that was wanted
page-low : (bits a : ℕ) → 64 ≤ a → first_place bits (page_at bits a) ≤ a
page-low bits a h = by (page_at bits a == 0) refl
  where
    by : (t : Bool) → (page_at bits a == 0) ≡ t → start_at bits (page_at bits a) + cond t 64 0 ≤ a
    by true e =
        let none : page_at bits a ≡ 0 = eqb-true (page_at bits a) 0 e in
        let start : start_at bits (page_at bits a) ≡ start_at bits 0 = ap (start_at bits) none in
        omega arith
    by false e = let low = div-mul-le_self a (2 ^ bits) in omega arith

class-self : (c : Class) → same_class c c ≡ true
class-self c = and_from (c.bucket == c.bucket) (c.tag == c.tag) (eq-eqb c.bucket c.bucket refl) (eq-eqb c.tag c.tag refl)

-- what an operation that asks may take, which is no merge
rest-read : {K V I : Type 0} (code : K → ℕ) (r : RecordsView K V) (op : KeyedOp K V I) (k : K) (i : I) → op ≡ Read k i → rest_of code r op ≡ 1 + evicted code r (key_of op)
rest-read code r op k i is = rw is refl

rest-update : {K V I : Type 0} (code : K → ℕ) (r : RecordsView K V) (op : KeyedOp K V I) (k : K) (i : I) → op ≡ Rmw k i → rest_of code r op ≡ 1 + evicted code r (key_of op)
rest-update code r op k i is = rw is refl

class-small : {K V : Type 0} (code : K → ℕ) (r : RecordsView K V) (k : K) → code k < 2 ^ 64 → (class_in code r k).tag < 2 ^ 15
class-small code r k h = omega arith

module _ {K V I : Type 0} (keeps : Bool) (cmp : K → K → Ordering) (join : V → V → V) (code : K → ℕ) (v : PartitionView K V I) (slot c n : ℕ) (s : IsSound keeps cmp join code v) where
  stands-at : (x : Context K V I) (phase : Phase V) → context_at v slot c ≡ Some x → x.phase ≡ phase → StandsFor keeps cmp join code v.records x.op phase
  stands-at x phase h e = subst (λ (p : Phase V). StandsFor keeps cmp join code v.records x.op p) e (s.stands (slot * 8 + c) x (key_at (slots_of v) v.contexts slot c x h).here)

  loading-stands : (op : KeyedOp K V I) (l : Loading V) → StandsFor keeps cmp join code v.records op (Load l) → IsLoading keeps cmp join code v.records (key_of op) l
  loading-stands (Read k i) l h = h
  loading-stands (Upsert k u) l h = absurd h
  loading-stands (Rmw k i) l h = h
  loading-stands (Delete k) l h = absurd h
  loading-stands (Merge k i) l h = absurd h

  -- fewer records than up to a wanted address are those that pass a narrower test, which fails there
  fewer-below : IsTrue keeps → (x : Context K V I) (l : Loading V) → AwaitsPage v slot c x l → (q : Entry K V → Bool)
      → ((e : Entry K V) → q e ≡ true → (nat_le e.address l.wanted && is_evicted code v.records (key_of x.op) e) ≡ true)
      → ((e : Entry K V) → e.address ≡ l.wanted → q e ≡ false)
      → length (filter q v.records.log.text) < evicted_to code v.records (key_of x.op) l.wanted
  fewer-below kept x l a q within fails =
      let ld = loading-stands x.op l (stands-at x (Load l) a.here a.loading) in
      let from : v.records.log.from ≡ v.records.log.begin = s.traced.begins ∙ ap (λ b. text_begin b v.records.log.begin v.records.log.regions.offsets.closed) kept in
      let low = ld.begun in
      let begin = a.begin in
      let o = (ld.leads kept a.begin).class (omega arith) in
      let at : o.entry.address ≡ l.wanted = eqb-true o.entry.address l.wanted (last-passes (λ e. e.address == l.wanted) v.records.log.text o.entry o.here) in
      let disk = ld.on_disk in
      let reaches : nat_le o.entry.address l.wanted ≡ true = grind (arith, nat_tests) in
      let below : nat_lt o.entry.address v.records.log.regions.offsets.head ≡ true = grind (arith, nat_tests) in
      let classed : same_class (class_in code v.records o.entry.key) (class_in code v.records (key_of x.op)) ≡ true = ap (λ (d : Class). same_class d (class_in code v.records (key_of x.op))) o.class ∙ class-self (class_in code v.records (key_of x.op)) in
      count-less (λ e. nat_le e.address l.wanted && is_evicted code v.records (key_of x.op) e) q within (λ e. e.address == l.wanted) v.records.log.text o.entry o.here
      (and_from _ _ reaches (and_from _ _ below classed)) (fails o.entry at)

  -- there is one at the wanted address
  pub wanted-some : IsTrue keeps → (x : Context K V I) (l : Loading V) → AwaitsPage v slot c x l → 1 ≤ evicted_to code v.records (key_of x.op) l.wanted
  wanted-some kept x l a =
      let some = fewer-below kept x l a (λ e. false) (λ e h. absurd (cc)) (λ e h. refl) in
      omega arith

  -- the way goes on lower
  wanted-low : (x : Context K V I) (l : Loading V) → AwaitsPage v slot c x l → 64 ≤ l.wanted
  wanted-low x l a =
      let ld = loading-stands x.op l (stands-at x (Load l) a.here a.loading) in
      let low = ld.begun in let begin = a.begin in let first = s.traced.first in omega arith

  module _ {O R : Type 0} (stands : R → Standing) (f : Meanings K V I O) (w : PartitionView K V I) (now : ℕ) where
    near-as : (p q : Progress K V I O R) → p ≡ q → IsNearer code w slot c q n → IsNearer code w slot c p n
    near-as p q e h = subst (λ (z : Progress K V I O R). IsNearer code w slot c z n) (sym e) h

    off : (p q : Progress K V I O R) → p ≡ q → IsOn p → (IsOn q → ⊥) → IsNearer code w slot c p n
    off p q e on stop = absurd (stop (subst IsOn e on))

    -- ---- a look-up
    fresh-near : (x : Context K V I) → context_at v slot c ≡ Some x → x.phase ≡ Fresh → 1 + rest_of code v.records x.op ≤ n
        → ((y : Context K V I) → x ≡ y → Decides cmp join f code v slot c y Claim → IsClaimed code v w slot c y now → IsNearer {O = O} {R = R} code w slot c Next n)
        → (p : Progress K V I O R) → Goes stands cmp join f code v w slot c now (Ok p) → IsOn p → IsNearer code w slot c p n
    fresh-near x h fresh le claims p (Goes.unknown here is r) on = absurd (cc)
    fresh-near x h fresh le claims p (Goes.asks y e ask here q is r) on =
        let same : y ≡ x = some-same y x (context_at v slot c) here h in
        let bad : Some (e, ask) ≡ None = sym q ∙ ap question_in same ∙ ap (question_by x.number x.op) fresh in
        absurd (cc)
    fresh-near x h fresh le claims p (Goes.not_ready y l here phase is r) on = absurd (cc)
    fresh-near x h fresh le claims p (Goes.confirms y place here phase alone is r) on =
        let same : y ≡ x = some-same y x (context_at v slot c) here h in
        let bad : Confirm place ≡ Fresh = sym phase ∙ ap (λ (z : Context K V I). z.phase) same ∙ fresh in
        absurd (cc)
    fresh-near x h fresh le claims p (Goes.backs_off y place here phase alone is r) on =
        let same : y ≡ x = some-same y x (context_at v slot c) here h in
        let bad : Confirm place ≡ Fresh = sym phase ∙ ap (λ (z : Context K V I). z.phase) same ∙ fresh in
        absurd (cc)
    fresh-near x h fresh le claims p (Goes.done y a d is r) on = let t : p ≡ Done a now = cc in off p (Done a now) t on (λ z. z)
    fresh-near x h fresh le claims p (Goes.claims y d k r) on =
        let t : p ≡ Next = cc in
        near-as p Next t (claims y (some-same x y (context_at v slot c) h d.here) d k)
    fresh-near x h fresh le claims p (Goes.unclaimed y d full is r) on = absurd (cc)
    fresh-near x h fresh le claims p (Goes.appends y value a e d found more room is r) on = let t : p ≡ Done a now = cc in off p (Done a now) t on (λ z. z)
    fresh-near x h fresh le claims p (Goes.worn y value a d tail is r) on = absurd (cc)
    fresh-near x h fresh le claims p (Goes.full y value a d full is r) on = let t : p ≡ Waits wait.Full = cc in off p (Waits wait.Full) t on (λ z. z)
    fresh-near x h fresh le claims p (Goes.replaces y value a e d last is r) on = let t : p ≡ Done a now = cc in off p (Done a now) t on (λ z. z)
    fresh-near x h fresh le claims p (Goes.waits y d is r) on = let t : p ≡ Waits wait.Fuzzy = cc in off p (Waits wait.Fuzzy) t on (λ z. z)
    fresh-near x h fresh le claims p (Goes.prepares y source i e d found is r) on =
        let ask : Ask K V I = record { number = y.number; key = key_of y.op; source = source; input = i } in
        let t : p ≡ NeedsBuild ask = cc in
        let z = at_phase y (Prepared e source) in
        let same : x ≡ y = some-same x y (context_at v slot c) h d.here in
        let update = rest-update code v.records y.op (key_of y.op) i (prepare-op f y.op _ source i d.decided) in
        let rest : rest_of code v.records x.op ≡ 1 + evicted code v.records (key_of y.op) = ap (λ (u : Context K V I). rest_of code v.records u.op) same ∙ update in
        near-as p (NeedsBuild ask) t (rw is (record {
          left = 1;
          fewer = omega arith;
          near = IsNear.builds z e ask (set-here v slot c now y d.here (Some z) v.records refl) (question-rmw y.number y.op e source (key_of y.op) i (prepare-op f y.op _ source i d.decided)) (found-word v.records (class_in code v.records (key_of y.op)) e found) refl (omega arith);
        }))
    fresh-near x h fresh le claims p (Goes.asks_page y b parts e receipt d found held is r) on =
        let t : p ≡ NeedsLoad receipt b = cc in
        let same : x ≡ y = some-same x y (context_at v slot c) h d.here in
        let asked = load-op f y.op _ b parts d.decided in
        let update : rest_of code v.records y.op ≡ 1 + evicted code v.records (key_of y.op) = elim asked.1 [
          | inl is ↦ rest-read code v.records y.op (key_of y.op) asked.0 is
          | inr is ↦ rest-update code v.records y.op (key_of y.op) asked.0 is
        ] in
        let rest : rest_of code v.records x.op ≡ 1 + evicted code v.records (key_of y.op) = ap (λ (u : Context K V I). rest_of code v.records u.op) same ∙ update in
        let l : Loading V = record { begin = v.records.log.begin; kept = e; wanted = b; parts = parts; looked = now } in
        let z = at_phase y (Load l) in
        let less : evicted_to code v.records (key_of y.op) b ≤ evicted code v.records (key_of y.op) = count-fewer (is_evicted code v.records (key_of y.op)) (λ u. nat_le u.address b && is_evicted code v.records (key_of y.op) u) (λ u k. (and_parts _ _ k).1) v.records.log.text in
        near-as p (NeedsLoad receipt b) t (rw is (record {
          left = 1 + evicted_to code v.records (key_of y.op) b;
          fewer = omega arith;
          near = IsNear.fetches z l receipt b (record { here = set-here v slot c now y d.here (Some z) v.records refl; loading = refl; begin = refl }) (found-word v.records (class_in code v.records (key_of y.op)) e found) refl (omega arith);
        }))
    fresh-near x h fresh le claims p (Goes.unshared y b parts d is r) on = absurd (cc)

    -- no word is tentative where no operation holds a tentative entry
    unclaimed : NoneClaims v → (q : Place) → is_tentative (word_at v.records.words q) ≡ true → ⊥
    unclaimed clear q t =
        let o = s.owned.owner q t in
        let bad : Some q ≡ None = sym o.1 ∙ clear o.0 in
        absurd (cc)

    -- a claim is made for a class that has no entry
    claim-none : (y : Context K V I) → Decides cmp join f code v slot c y Claim → entry_of v.records (class_in code v.records (key_of y.op)) ≡ None
    claim-none y d = met-entry cmp join code v.records (seen_at v slot) (key_of y.op) (entry_of v.records (class_in code v.records (key_of y.op))) (claim-met f y.op _ d.decided)

    made-met : (y : Context K V I) (p : Place) → IsMade v.records (class_in code v.records (key_of y.op)) p → Decides cmp join f code v slot c y Claim → ⊥
    made-met y p made d =
        let k = class_in code v.records (key_of y.op) in
        let found : entry_at v.records.words p.bucket (tag_of (word_at v.records.words p)) ≡ Some (address_of (word_at v.records.words p)) = s.traced.map.entry p made.final in
        let here : entry_at v.records.words k.bucket k.tag ≡ Some (address_of (word_at v.records.words p)) = ap (λ b. entry_at v.records.words b k.tag) (sym made.bucket) ∙ ap (λ t. entry_at v.records.words p.bucket t) (sym made.tag) ∙ found in
        let bad : Some (address_of (word_at v.records.words p)) ≡ None = sym here ∙ claim-none y d in
        absurd (cc)

    claimed-near : (y : Context K V I) → ((q : Place) → is_tentative (word_at v.records.words q) ≡ true → ⊥) → code (key_of y.op) < 2 ^ 64 → 3 + rest_of code v.records y.op ≤ n
        → Decides cmp join f code v slot c y Claim → IsClaimed code v w slot c y now → IsNearer {O = O} {R = R} code w slot c Next n
    claimed-near y clear range le d k =
        let kind = class_in code v.records (key_of y.op) in
        let z = at_phase y (Confirm k.place) in
        let alone = alone-made v.records.words k.claims.probed kind.bucket kind.tag k.place k.claims.probes (class-small code v.records (key_of y.op) range) s.traced.map (claim-none y d) clear in
        let count : rest_of code k.records y.op ≡ rest_of code v.records y.op = ap (λ (r : RecordsView K V). rest_of code r y.op) k.claims.is in
        rw k.is (record {
          left = 2 + rest_of code v.records y.op;
          fewer = omega arith;
          near = IsNear.confirms z k.place (set-here v slot c now y d.here (Some z) k.records (ap (λ (r : RecordsView K V). r.log.regions) k.claims.is)) refl
              (subst (λ (words : List (List Word)). IsAlone words k.place) (sym (ap (λ (r : RecordsView K V). r.words) k.claims.is)) alone) range refl (omega arith);
        })

    -- ---- a tentative entry is confirmed
    confirm-near : (x : Context K V I) (place : Place) → context_at v slot c ≡ Some x → x.phase ≡ Confirm place → IsAlone v.records.words place → code (key_of x.op) < 2 ^ 64 → 2 + rest_of code v.records x.op ≤ n
        → (p : Progress K V I O R) → Goes stands cmp join f code v w slot c now (Ok p) → IsOn p → IsNearer code w slot c p n
    confirm-near x place h phase alone range le p goes on = by p goes on
      where
        not-fresh : (y : Context K V I) → context_at v slot c ≡ Some y → y.phase ≡ Fresh → ⊥
        not-fresh y here fresh =
            let same : y ≡ x = some-same y x (context_at v slot c) here h in
            let bad : Fresh ≡ Confirm place = sym fresh ∙ ap (λ (z : Context K V I). z.phase) same ∙ phase in
            absurd (cc)

        made : (y : Context K V I) (q : Place) → context_at v slot c ≡ Some y → y.phase ≡ Confirm q → IsMade (confirmed v.records q) (class_in code v.records (key_of x.op)) q
        made y q here confirms =
            let same : x ≡ y = some-same x y (context_at v slot c) h here in
            let mine : x.phase ≡ Confirm q = ap (λ (z : Context K V I). z.phase) same ∙ confirms in
            let claim = stands-at x (Confirm q) h mine in
            let tentative : is_tentative (word_at v.records.words q) ≡ true = ap is_tentative claim.word ∙ tentative-is (class_in code v.records (key_of x.op)).tag in
            let there = tentative-place v.records.words q tentative in
            record {
              bucket = claim.bucket;
              final = confirmed-final v.records.words q there;
              tag = confirmed-tag v.records.words q there ∙ ap tag_of claim.word ∙ tentative-tag (class_in code v.records (key_of x.op)).tag (class-small code v.records (key_of x.op) range);
            }

        by : (p : Progress K V I O R) → Goes stands cmp join f code v w slot c now (Ok p) → IsOn p → IsNearer code w slot c p n
        by p (Goes.unknown here is r) on = absurd (cc)
        by p (Goes.asks y e ask here q is r) on =
            let same : y ≡ x = some-same y x (context_at v slot c) here h in
            let bad : Some (e, ask) ≡ None = sym q ∙ ap question_in same ∙ ap (question_by x.number x.op) phase in
            absurd (cc)
        by p (Goes.not_ready y l here loads is r) on = absurd (cc)
        by p (Goes.confirms y q here confirms solo is r) on =
            let t : p ≡ Next = cc in
            let z = at_phase y Fresh in
            let same : x ≡ y = some-same x y (context_at v slot c) h here in
            let key : key_of x.op ≡ key_of y.op = ap (λ (u : Context K V I). key_of u.op) same in
            near-as p Next t (rw is (record {
              left = 1 + rest_of code v.records y.op;
              fewer = (let count : rest_of code v.records x.op ≡ rest_of code v.records y.op = ap (λ (u : Context K V I). rest_of code v.records u.op) same in omega arith);
              near = IsNear.looks z q (set-here v slot c now y here (Some z) (confirmed v.records q) refl) refl (subst (λ (k : K). IsMade (confirmed v.records q) (class_in code v.records k) q) key (made y q here confirms)) refl (omega arith);
            }))
        by p (Goes.backs_off y q here confirms other is r) on =
            let same : y ≡ x = some-same y x (context_at v slot c) here h in
            let places : Confirm q ≡ Confirm place = sym confirms ∙ ap (λ (z : Context K V I). z.phase) same ∙ phase in
            let one : place ≡ q = cc in
            absurd (other (subst (IsAlone v.records.words) one alone))
        by p (Goes.done y a d is r) on = absurd (not-fresh y d.here d.fresh)
        by p (Goes.claims y d k r) on = absurd (not-fresh y d.here d.fresh)
        by p (Goes.unclaimed y d full is r) on = absurd (not-fresh y d.here d.fresh)
        by p (Goes.appends y value a e d found more room is r) on = absurd (not-fresh y d.here d.fresh)
        by p (Goes.worn y value a d tail is r) on = absurd (not-fresh y d.here d.fresh)
        by p (Goes.full y value a d full is r) on = absurd (not-fresh y d.here d.fresh)
        by p (Goes.replaces y value a e d last is r) on = absurd (not-fresh y d.here d.fresh)
        by p (Goes.waits y d is r) on = absurd (not-fresh y d.here d.fresh)
        by p (Goes.prepares y source i e d found is r) on = absurd (not-fresh y d.here d.fresh)
        by p (Goes.asks_page y b parts e receipt d found held is r) on = absurd (not-fresh y d.here d.fresh)
        by p (Goes.unshared y b parts d is r) on = absurd (not-fresh y d.here d.fresh)

    goes-near : (p : Progress K V I O R) → IsNear {O = O} {R = R} code v slot c Next n → Goes stands cmp join f code v w slot c now (Ok p) → IsOn p → IsNearer code w slot c p n
    goes-near p (IsNear.begins x h fresh clear range told le) goes on =
        fresh-near x h fresh (omega arith) (λ y same d k. claimed-near y (unclaimed clear) (subst (λ (z : Context K V I). code (key_of z.op) < 2 ^ 64) same range) (subst (λ (z : Context K V I). 3 + rest_of code v.records z.op ≤ n) same le) d k) p goes on
    goes-near p (IsNear.confirms x place h phase alone range told le) goes on = confirm-near x place h phase alone range le p goes on
    goes-near p (IsNear.looks x place h fresh made told le) goes on =
        fresh-near x h fresh le (λ y same d k. absurd (made-met y place (subst (λ (z : Context K V I). IsMade v.records (class_in code v.records (key_of z.op)) place) same made) d)) p goes on
    goes-near p (IsNear.fetches x l r a await word told le) goes on = absurd (cc)
    goes-near p (IsNear.builds x e ask h q word told le) goes on = absurd (cc)

    -- ---- what was built is installed
    installs-near : (ask : Ask K V I) (p : Progress K V I O R) → IsNear {O = O} {R = R} code v slot c (NeedsBuild ask) n → Installs cmp f code v w slot c ask now (Ok p) → IsOn p → IsNearer code w slot c p n
    installs-near ask p (IsNear.begins x h fresh clear range told le) installs on = absurd (cc)
    installs-near ask p (IsNear.confirms x place h phase alone range told le) installs on = absurd (cc)
    installs-near ask p (IsNear.looks x place h fresh made told le) installs on = absurd (cc)
    installs-near ask p (IsNear.fetches x l r a await word told le) installs on = absurd (cc)
    installs-near ask p (IsNear.builds x e mine h q word told le) installs on = by p installs on
      where
        by : (p : Progress K V I O R) → Installs cmp f code v w slot c ask now (Ok p) → IsOn p → IsNearer code w slot c p n
        by p (Installs.unknown here is r) on = absurd (cc)
        by p (Installs.not_ready y here none is r) on = absurd (cc)
        by p (Installs.stranger y d other here asks differs is r) on = absurd (cc)
        by p (Installs.moved y d here asks gone is r) on =
            let same : x ≡ y = some-same x y (context_at v slot c) h here in
            let pair : (e, mine) ≡ (d, ask) = some-same (e, mine) (d, ask) (question_in x) q (ap question_in same ∙ asks) in
            let entry : e ≡ d = ap (λ (z : IndexEntry × Ask K V I). z.0) pair in
            absurd (gone (subst (λ (z : IndexEntry). word_at v.records.words z.place ≡ z.word) entry word))
        by p (Installs.declined y d here asks stays u is r) on = let t : p ≡ Done answered.Declined now = cc in off p (Done answered.Declined now) t on (λ z. z)
        by p (Installs.worn y d value here asks stays u tail is r) on = absurd (cc)
        by p (Installs.full y d value here asks stays u full is r) on = let t : p ≡ Waits wait.Full = cc in off p (Waits wait.Full) t on (λ z. z)
        by p (Installs.done y d value here asks stays u more room is r) on = let a = answered.Value (f.shown ask.key ask.input value) in let t : p ≡ Done a now = cc in off p (Done a now) t on (λ z. z)

    -- ---- a page came
    loads-near : IsTrue keeps → (entry : ℕ → List ℕ → ℕ → Entry K V → Type 0) (receipt : R) (a : ℕ) (came : Result (Joined R) Refused) (p : Progress K V I O R) → IsNear {O = O} {R = R} code v slot c (NeedsLoad receipt a) n
        → Loads stands entry cmp join f v w slot c came now (Ok p) → IsOn p → IsNearer code w slot c p n
    loads-near kept entry receipt a came p (IsNear.begins x h fresh clear range told le) loads on = absurd (cc)
    loads-near kept entry receipt a came p (IsNear.confirms x place h phase alone range told le) loads on = absurd (cc)
    loads-near kept entry receipt a came p (IsNear.looks x place h fresh made told le) loads on = absurd (cc)
    loads-near kept entry receipt a came p (IsNear.builds x e ask h q word told le) loads on = absurd (cc)
    loads-near kept entry receipt a came p (IsNear.fetches x l rr aa await word told le) loads on = by p loads on
      where
        same-loading : (y : Context K V I) (m : Loading V) → context_at v slot c ≡ Some y → y.phase ≡ Load m → l ≡ m
        same-loading y m here phase =
            let same : x ≡ y = some-same x y (context_at v slot c) await.here here in
            let e : Load l ≡ Load m = sym await.loading ∙ ap (λ (z : Context K V I). z.phase) same ∙ phase in
            cc

        stays : (y : Context K V I) (m : Loading V) → AwaitsPage v slot c y m → word_at v.records.words m.kept.place ≡ m.kept.word
        stays y m aw = subst (λ (z : Loading V). word_at v.records.words z.kept.place ≡ z.kept.word) (same-loading y m aw.here aw.loading) word

        bound : (y : Context K V I) (m : Loading V) → AwaitsPage v slot c y m → 1 + evicted_to code v.records (key_of y.op) m.wanted ≤ n
        bound y m aw =
            let one = same-loading y m aw.here aw.loading in
            let same : x ≡ y = some-same x y (context_at v slot c) await.here aw.here in
            subst (λ (z : Loading V). 1 + evicted_to code v.records (key_of y.op) z.wanted ≤ n) one (subst (λ (z : Context K V I). 1 + evicted_to code v.records (key_of z.op) l.wanted ≤ n) same le)

        further : (y : Context K V I) (m : Loading V) (b : ℕ) (parts : Option V) (r : R) → AwaitsPage v slot c y m → b < m.wanted → w ≡ with_context v slot c (Some (at_phase y (Load (record m { wanted = b; parts = parts })))) now → IsNearer {O = O} code w slot c (NeedsLoad r b) n
        further y m b parts r aw low is =
            let next : Loading V = record m { wanted = b; parts = parts } in
            let z = at_phase y (Load next) in
            let less : evicted_to code v.records (key_of y.op) b < evicted_to code v.records (key_of y.op) m.wanted =
            fewer-below kept y m aw (λ e. nat_le e.address b && is_evicted code v.records (key_of y.op) e)
            (λ e t. let parts = and_parts (nat_le e.address b) (is_evicted code v.records (key_of y.op) e) t in let under = parts.0 in let up : nat_le e.address m.wanted ≡ true = grind (arith, nat_tests) in and_from _ _ up parts.1)
            (λ e at. let high : nat_le e.address b ≡ false = grind (arith, nat_tests) in ap (λ t. t && is_evicted code v.records (key_of y.op) e) high) in
            let le = bound y m aw in
            rw is (record {
              left = 1 + evicted_to code v.records (key_of y.op) b;
              fewer = omega arith;
              near = IsNear.fetches z next r b (record { here = set-here v slot c now y aw.here (Some z) v.records refl; loading = refl; begin = aw.begin }) (stays y m aw) refl (omega arith);
            })

        by : (p : Progress K V I O R) → Loads stands entry cmp join f v w slot c came now (Ok p) → IsOn p → IsNearer code w slot c p n
        by p (Loads.unknown here is r) on = absurd (cc)
        by p (Loads.not_ready y here q is r) on = absurd (cc)
        by p (Loads.moved y m here phase begin is r) on = absurd (begin (ap (λ (z : Loading V). z.begin) (sym (same-loading y m here phase)) ∙ await.begin))
        by p (Loads.failed y m why aw e other is r) on = absurd (cc)
        by p (Loads.unread y m aw e is r) on = absurd (cc)
        by p (Loads.stranger y m j t aw e held other is r) on = absurd (cc)
        by p (Loads.damaged y m j why reads e is r) on = absurd (cc)
        by p (Loads.bad_link y m j b parts reads e low place is r) on = absurd (cc)
        by p (Loads.done y m j k i value told e read is r) on = let a = shown_of f k i value in let t : p ≡ Done a m.looked = cc in off p (Done a m.looked) t on (λ z. z)
        by p (Loads.prepares y m j k i value told e rmw is r) on =
            let ask : Ask K V I = record { number = y.number; key = k; source = value; input = i } in
            let t : p ≡ NeedsBuild ask = cc in
            let z = at_phase y (Prepared m.kept value) in
            let aw = told.reads.awaits in
            let some : length (filter (λ (e : Entry K V). false) v.records.log.text) < evicted_to code v.records (key_of y.op) m.wanted = fewer-below kept y m aw (λ e. false) (λ e no_e. let bad : false ≡ true = no_e in absurd (cc)) (λ e at. refl) in
            let le = bound y m aw in
            near-as p (NeedsBuild ask) t (rw is (record {
              left = 1;
              fewer = omega arith;
              near = IsNear.builds z m.kept ask (set-here v slot c now y aw.here (Some z) v.records refl) (question-rmw y.number y.op m.kept value k i rmw) (stays y m aw) refl (omega arith);
            }))
        by p (Loads.goes_on y m j b parts r reads e low place held is res) on =
            let t : p ≡ NeedsLoad r b = cc in
            let aw = reads.awaits in
            let under = gathered-low join _ cmp (key_of y.op) v.records.log.bits (first_place v.records.log.bits (page_at v.records.log.bits m.wanted)) m.wanted b m.parts parts _ reads.reads refl in
            let first = page-low v.records.log.bits m.wanted (wanted-low y m aw) in
            near-as p (NeedsLoad r b) t (further y m b parts r aw (omega arith) is)
        by p (Loads.unshared y m j b parts reads e low place is r) on = absurd (cc)

    -- ---- of each result
    pub goes-nearer : IsNear {O = O} {R = R} code v slot c Next n → (r : Result (Progress K V I O R) Refused) → Goes stands cmp join f code v w slot c now r → IfOk r (λ p. IsOn p → IsNearer code w slot c p n)
    goes-nearer near (Ok p) goes = goes-near p near goes
    goes-nearer near (Err why) goes = tt

    pub installs-nearer : (ask : Ask K V I) → IsNear {O = O} {R = R} code v slot c (NeedsBuild ask) n → (r : Result (Progress K V I O R) Refused) → Installs cmp f code v w slot c ask now r → IfOk r (λ p. IsOn p → IsNearer code w slot c p n)
    installs-nearer ask near (Ok p) installs = installs-near ask p near installs
    installs-nearer ask near (Err why) installs = tt

    pub loads-nearer : IsTrue keeps → (entry : ℕ → List ℕ → ℕ → Entry K V → Type 0) (receipt : R) (a : ℕ) (came : Result (Joined R) Refused) → IsNear {O = O} {R = R} code v slot c (NeedsLoad receipt a) n
        → (r : Result (Progress K V I O R) Refused) → Loads stands entry cmp join f v w slot c came now r → IfOk r (λ p. IsOn p → IsNearer code w slot c p n)
    loads-nearer kept entry receipt a came near (Ok p) loads = loads-near kept entry receipt a came p near loads
    loads-nearer kept entry receipt a came near (Err why) loads = tt

    pub reads-nearer : IsTrue keeps → (entry : ℕ → List ℕ → ℕ → Entry K V → Type 0) (receipt : R) (a before after_ : ℕ) → IsNear {O = O} {R = R} code v slot c (NeedsLoad receipt a) n
        → (r : Result (Progress K V I O R) Refused) → LoadsBy stands entry cmp join f v w slot c now before after_ r → IfOk r (λ p. IsOn p → IsNearer code w slot c p n)
    reads-nearer kept entry receipt a before after_ near r (ReadsBy.idle unasked all same) = loads-nearer kept entry receipt a (Err NoMemory) near r (all (Err NoMemory))
    reads-nearer kept entry receipt a before after_ near r (ReadsBy.came page p at own does same) = loads-nearer kept entry receipt a (Ok p) near r does
    reads-nearer kept entry receipt a before after_ near r (ReadsBy.failed page why at fails is told) =
        subst (λ (q : Result (Progress K V I O R) Refused). IfOk q (λ p. IsOn p → IsNearer code w slot c p n)) (sym told) tt

-- an operation that is to go on takes one more event at least
pub near-some : {K V I O R : Type 0} (code : K → ℕ) (v : PartitionView K V I) (slot c : ℕ) (told : Progress K V I O R) (n : ℕ) → IsNear code v slot c told n → 1 ≤ n
near-some code v slot c told n (IsNear.begins x h fresh clear range t le) = omega arith
near-some code v slot c told n (IsNear.confirms x p h phase alone range t le) = omega arith
near-some code v slot c told n (IsNear.looks x p h fresh made t le) = omega arith
near-some code v slot c told n (IsNear.fetches x l r a await word t le) = omega arith
near-some code v slot c told n (IsNear.builds x e ask h q word t le) = le

-- a fresh operation claims nothing
fresh-slot : {K V I : Type 0} (cs : List (Option (OpenWork K V I))) (x : Context K V I) (i p : ℕ) → x.phase ≡ Fresh → ((q : ℕ) → claim_at cs q ≡ None) → claim_at (slice_set cs i (Some (OnKey x))) p ≡ None
fresh-slot {K} {V} {I} cs x i p fresh none = at (slice_get (slice_set cs i (Some (OnKey x))) p) refl
  where
    at : (o : Option (Option (OpenWork K V I))) → slice_get (slice_set cs i (Some (OnKey x))) p ≡ o → claim_of (joined o) ≡ None
    at None e = refl
    at (Some y) e = elim (get-set_cases cs i p (Some (OnKey x)) y e) [
      | inl set ↦ ap claim_of (sym set.1) ∙ ap claim_by fresh
      | inr was ↦ ap (λ (o : Option (Option (OpenWork K V I))). claim_of (joined o)) (sym was) ∙ none p
    ]

-- an operation that was issued, where no other holds a tentative entry
pub issue-near : {K V I O R : Type 0} (code : K → ℕ) (old new : PartitionView K V I) (slot c now : ℕ) (op : KeyedOp K V I) → new ≡ with_context old slot c (Some (record { number = now; op = op; phase = Fresh })) now → (ready : IsReady op old new slot c now) → ready.operation.phase ≡ Fresh → NoneClaims old → code (key_of op) < 2 ^ 64
    → IsNear {O = O} {R = R} code new slot c Next (3 + rest_of code old.records op)
issue-near {K} {V} {I} {O} {R} code old new slot c now op is ready fresh clear range =
    let clear_now : NoneClaims new = rw is (λ p. fresh-slot old.contexts (record { number = now; op = op; phase = Fresh }) (slot * 8 + c) p refl clear) in
    let x = ready.operation in
    let key : key_of x.op ≡ key_of op = ap key_of ready.open_is.op_is in
    let count : rest_of code new.records x.op ≡ rest_of code old.records op = ap (rest_of code new.records) ready.open_is.op_is ∙ ap (λ (u : PartitionView K V I). rest_of code u.records op) is in
    IsNear.begins x ready.open_is.here fresh clear_now (subst (λ k. code k < 2 ^ 64) (sym key) range) refl (omega arith)
