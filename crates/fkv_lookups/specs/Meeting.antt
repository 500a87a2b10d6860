-- What a session meets when it looks a key up.
use Rattle.std.specs.Prelude.{◌≡◌, ◌<◌, ◌≤◌, ℕ, Option, Some, None, IsSome, true, false}
use Rattle.std.specs.declared.cmp.Ordering.{Ordering}
use Rattle.fkv_regions.specs.declared.offsets.View.{View}
use Rattle.fkv_regions.specs.declared.offsets.Region.{Region}
use Rattle.fkv_regions.specs.Offsets.{region_of}
use Rattle.fkv_texts.specs.declared.entries.Entry.{Entry}
use Rattle.fkv_texts.specs.declared.entries.ChainPosition.TheVariants.{Found}
use Rattle.fkv_texts.specs.Text.{entry_at, has_key, last_of, newest, value_of}
use Rattle.fkv_texts.specs.Chains.{IsIn}
use Rattle.fkv_texts.specs.Deltas.{combined}
use Rattle.fkv_operations.specs.Still.{IsStill}
use Rattle.fkv_lookups.specs.declared.decisions.LookupResult.{LookupResult}
use Rattle.fkv_lookups.specs.declared.decisions.LookupResult.TheVariants.{NoEntry}
use Rattle.fkv_lookups.specs.Decisions.{low_of, met_by}
use Rattle.fkv_lookups.specs.Lookups.{looked_up, IsOfClass}
use Rattle.fkv_lookups.specs.RecordsViews.{RecordsView, class_in, entry_of}

-- with the address to which the entry of the key's class leads, by a session's view: it looks in memory alone
abbrev pub met_from : {K V : Type 0} → (K → K → Ordering) → (V → V → V) → (K → ℕ) → RecordsView K V → View → K → Option ℕ
    → LookupResult V
met_from cmp join code v view k None = NoEntry
met_from cmp join code v view k (Some a) =
    met_by join (Some a) v.log.begin view (looked_up cmp join code v (low_of v.log.begin view) k a)

abbrev pub met_at : {K V : Type 0} → (K → K → Ordering) → (V → V → V) → (K → ℕ) → RecordsView K V → View → K → LookupResult V
met_at cmp join code v view k = met_from cmp join code v view k (entry_of v (class_in code v k))

-- a value was met: it is that of the key's last record, which is no delta and to which the look-up came, in this region of
-- the view
pub record IsMetAt {K V : Type 0} (cmp : K → K → Ordering) (join : V → V → V) (code : K → ℕ) (v : RecordsView K V)
    (view : View) (k : K) (w : V) (r : Region) : Type 0 where
  pub entry : Entry K V
  pub address : ℕ
  pub leads : entry_of v (class_in code v k) ≡ Some address
  pub reached : looked_up cmp join code v (low_of v.log.begin view) k address ≡ record { parts = None; position = Found entry }
  pub last : last_of cmp v.text k ≡ Some entry
  pub stands : entry_at v.text entry.address ≡ Some entry
  pub whole : entry.delta ≡ false
  pub value : entry.value ≡ Some w
  pub region : region_of view entry.address ≡ r

-- the records of the key's class lead to an address on disk: below Head, at or above Begin; the key's records above are
-- deltas, and what it has is what it has there, joined with their parts; nobody changes its last record; and where the text
-- has not ended, a record of the class stands there
pub record IsWanted {K V : Type 0} (cmp : K → K → Ordering) (join : V → V → V) (code : K → ℕ) (v : RecordsView K V) (k : K)
    (b : ℕ) (parts : Option V) : Type 0 where
  pub begun : v.log.begin ≤ b
  pub low : b < v.log.regions.offsets.head
  pub newest : value_of (last_of cmp v.text k) ≡ combined join (value_of (newest cmp v.text k b)) parts
  pub between : (e : Entry K V) → IsIn v.log.text e → has_key cmp k e ≡ true → b < e.address → e.delta ≡ true
  pub still : IsStill v.log.regions.offsets.safe_read_only (last_of cmp v.text k)
  pub class : v.log.from ≤ b → IsOfClass code v k b
  pub entry : IsSome (entry_of v (class_in code v k))
