-- What a look-up comes to, in memory and in one page that was loaded.
use Rattle.std.specs.Prelude.{◌≡◌, ◌<◌, ◌≤◌, ℕ, List, Option, Some, None, IsSome, true, false, filter, Result, Ok, Err}
use Rattle.std.specs.declared.cmp.Ordering.{Ordering}
use Rattle.fkv_functions.specs.declared.refusals.Refused.{Refused}
use Rattle.fkv_texts.specs.declared.entries.Entry.{Entry}
use Rattle.fkv_texts.specs.declared.entries.ChainPosition.{ChainPosition}
use Rattle.fkv_texts.specs.declared.entries.ChainPosition.TheVariants.{Found, Below}
use Rattle.fkv_texts.specs.Text.{entry_at, has_key, last_of, newest, value_of, text_from}
use Rattle.fkv_texts.specs.Chains.{falling, leads_to, reached}
use Rattle.fkv_texts.specs.Deltas.{combined, gathered}
use Rattle.fkv_hybrid.specs.Loads.{IsReached}
use Rattle.fkv_operations.specs.Classes.{same_class}
use Rattle.fkv_lookups.specs.declared.chain_results.ChainResult.{ChainResult}
use Rattle.fkv_lookups.specs.RecordsViews.{RecordsView, class_in}

-- the records of a key's class at or above an address, the last one first
abbrev pub falling_from : {K V : Type 0} → (K → ℕ) → RecordsView K V → ℕ → K → List (Entry K V)
falling_from code v low k = falling (class_in code v) same_class (text_from low v.log.text) (class_in code v k)

-- from the address of a class's entry: the last record of the key among those at or above an address, or where the
-- class's records there lead
abbrev pub newest_above : {K V : Type 0} → (K → K → Ordering) → (K → ℕ) → RecordsView K V → ℕ → K → ℕ → ChainPosition K V
newest_above cmp code v low k a = reached (last_of cmp (text_from low v.log.text) k) (leads_to a (falling_from code v low k))

-- from an address through the records of a class, the last one first: the parts of the key's deltas, and the first record
-- of the key that is no delta, or where the records lead
abbrev pub gathered_on : {K V : Type 0} → (K → K → Ordering) → (V → V → V) → K → ℕ → List (Entry K V) → ChainResult K V
gathered_on cmp join k a es = record {
  parts = (gathered join (filter (has_key cmp k) es) None).0;
  position = reached (gathered join (filter (has_key cmp k) es) None).1 (leads_to a es);
}

-- from the address of a class's entry, among the records at or above an address
abbrev pub looked_up : {K V : Type 0} → (K → K → Ordering) → (V → V → V) → (K → ℕ) → RecordsView K V → ℕ → K → ℕ
    → ChainResult K V
looked_up cmp join code v low k a = gathered_on cmp join k a (falling_from code v low k)

-- a record of the class of a key stands at an address
pub record IsOfClass {K V : Type 0} (code : K → ℕ) (v : RecordsView K V) (k : K) (a : ℕ) : Type 0 where
  pub entry : Entry K V
  pub here : entry_at v.log.text a ≡ Some entry
  pub class : class_in code v entry.key ≡ class_in code v k

-- from an address on, with the parts of the key's records above: the newest record of the key at or below it, where that is
-- no delta; or an address below a bound such that the key's newest there is the same, and a record of the class stands
-- there where the text has not ended; or the newest is a delta, whose part is joined before the others, and it goes on from
-- where that leads
pub data ComesTo {K V : Type 0} (cmp : K → K → Ordering) (join : V → V → V) (code : K → ℕ) (v : RecordsView K V) (k : K)
    (low : ℕ) : ℕ → Option V → ChainResult K V → Type 0 where
  found : {a : ℕ} {parts : Option V} {e : Entry K V}
      → newest cmp v.log.text k a ≡ Some e
      → entry_at v.log.text e.address ≡ Some e
      → low ≤ e.address
      → e.delta ≡ false
      → ComesTo cmp join code v k low a parts (record { parts = parts; position = Found e })
  below : {a : ℕ} {parts : Option V} {b : ℕ}
      → b < low
      → newest cmp v.log.text k a ≡ newest cmp v.log.text k b
      → (v.log.from ≤ b → IsOfClass code v k b)
      → ComesTo cmp join code v k low a parts (record { parts = parts; position = Below b })
  joins : {a : ℕ} {parts : Option V} {d : Entry K V} {r : ChainResult K V}
      → newest cmp v.log.text k a ≡ Some d
      → low ≤ d.address
      → d.delta ≡ true
      → ComesTo cmp join code v k low d.previous (combined join d.value parts) r
      → ComesTo cmp join code v k low a parts r

-- what the key has at an address, by what a look-up comes to from there
abbrev pub end_of : {K V : Type 0} → (K → K → Ordering) → RecordsView K V → K → ChainPosition K V → Option V
end_of cmp v k (Found e) = e.value
end_of cmp v k (Below b) = value_of (newest cmp v.text k b)

-- and where that stands
abbrev pub at_of : {K V : Type 0} → ChainPosition K V → ℕ
at_of (Found e) = e.address
at_of (Below b) = b

-- what the last record of the key that is read says of the look-up: it is what the look-up comes to, unless it is a delta;
-- then parts are collected
abbrev pub StartsAt : {K V : Type 0} → ChainPosition K V → ChainResult K V → Type 0
StartsAt (Found e) r =
    (e.delta ≡ false → r ≡ record { parts = None; position = Found e }) × (e.delta ≡ true → IsSome r.parts)
StartsAt (Below b) r = r ≡ record { parts = None; position = Below b }

-- along the previous addresses that a page's bytes spell, down to an address, with the parts of the key's records above: to
-- the first record of the key that is no delta, to below, or to where the bytes spell none
pub data ComesToInPage {K V : Type 0} (join : V → V → V) (entry : ℕ → Entry K V → Type 0) (cmp : K → K → Ordering) (k : K)
    (bits low : ℕ) : ℕ → Option V → Result (ChainResult K V) Refused → Type 0 where
  refused : {a : ℕ} {parts : Option V} {why : Refused}
      → IsReached entry cmp k bits low a (Err why)
      → ComesToInPage join entry cmp k bits low a parts (Err why)
  below : {a b : ℕ} {parts : Option V}
      → IsReached entry cmp k bits low a (Ok (Below b))
      → ComesToInPage join entry cmp k bits low a parts (Ok (record { parts = parts; position = Below b }))
  found : {a : ℕ} {parts : Option V} {e : Entry K V}
      → IsReached entry cmp k bits low a (Ok (Found e))
      → e.delta ≡ false
      → ComesToInPage join entry cmp k bits low a parts (Ok (record { parts = parts; position = Found e }))
  joins : {a : ℕ} {parts : Option V} {d : Entry K V} {r : Result (ChainResult K V) Refused}
      → IsReached entry cmp k bits low a (Ok (Found d))
      → d.delta ≡ true
      → ComesToInPage join entry cmp k bits low d.previous (combined join d.value parts) r
      → ComesToInPage join entry cmp k bits low a parts r
