-- What a read is done with, by what it meets.
use Rattle.std.proofs.Common.{◌≡◌, ℕ, Option, Some, None, refl, sym, ap, subst, ◌∙◌}
use Rattle.std.specs.declared.cmp.Ordering.{Ordering}
use Rattle.fkv_functions.specs.Meanings.{Meanings}
use Rattle.fkv_regions.specs.Offsets.{region_of}
use Rattle.fkv_regions.specs.declared.offsets.View.{View}
use Rattle.fkv_regions.specs.declared.offsets.Region.{Region}
use Rattle.fkv_regions.specs.declared.offsets.Region.TheVariants as region
use Rattle.fkv_operations.specs.After.{shown_of}
use Rattle.fkv_operations.specs.declared.operations.KeyedOp.TheVariants.{Read}
use Rattle.fkv_lookups.specs.Decisions.{met_in, met_last, held_of, IsHeld, decision}
use Rattle.fkv_lookups.specs.declared.decisions.LookupResult.{LookupResult}
use Rattle.fkv_lookups.specs.declared.decisions.LookupResult.TheVariants.{NoEntry, NoValue, ReadOnly, Fuzzy, Mutable, OnDisk}
use Rattle.fkv_lookups.specs.declared.decisions.Decision.TheVariants.{Done}
use Rattle.fkv_operations.specs.declared.operations.Answer.{Answer}
use Rattle.fkv_partition.specs.KeyAtOnce.{IsReadAtOnce}
use Rattle.fkv_partition.specs.Views.{PartitionView, live_of, met_at, partition_of}

-- what was met stands in memory
abbrev pub IsHere : {V : Type 0} → LookupResult V → Type 0
IsHere {V} met = (b : ℕ) (parts : Option V) → met ≡ OnDisk b parts → ⊥

-- a read of it is done
pub read-done : {K V I O : Type 0} (f : Meanings K V I O) (k : K) (i : I) (met : LookupResult V) → IsHere met
    → decision f (Read k i) met ≡ Done (shown_of f k i (held_of met))
read-done f k i NoEntry here = refl
read-done f k i NoValue here = refl
read-done f k i (ReadOnly v) here = refl
read-done f k i (Fuzzy v) here = refl
read-done f k i (Mutable v) here = refl
read-done f k i (OnDisk b parts) here = absurd (here b parts refl)

-- and what it held is what the key has
pub held-is : {V : Type 0} (met : LookupResult V) (o : Option V) → IsHere met → IsHeld met o → held_of met ≡ o
held-is NoEntry o here is = sym is
held-is NoValue o here is = sym is
held-is (ReadOnly v) o here is = sym is
held-is (Fuzzy v) o here is = sym is
held-is (Mutable v) o here is = sym is
held-is (OnDisk b parts) o here is = absurd (here b parts refl)

-- the last record of a key, where it is no delta, stands in memory, and holds its value
pub last-here : {V : Type 0} (view : View) (a : ℕ) (o : Option V) → IsHere (met_last view a o)
last-here view a None = λ b parts no. absurd (cc)
last-here {V} view a (Some v) = by_region (region_of view a)
  where
    by_region : (r : Region) → IsHere (met_in r v)
    by_region region.OnDisk = λ b parts no. absurd (cc)
    by_region region.ReadOnly = λ b parts no. absurd (cc)
    by_region region.Fuzzy = λ b parts no. absurd (cc)
    by_region region.Mutable = λ b parts no. absurd (cc)

pub last-held : {V : Type 0} (view : View) (a : ℕ) (o : Option V) → held_of (met_last view a o) ≡ o
last-held view a None = refl
last-held {V} view a (Some v) = by_region (region_of view a)
  where
    by_region : (r : Region) → held_of (met_in r v) ≡ Some v
    by_region region.OnDisk = refl
    by_region region.ReadOnly = refl
    by_region region.Fuzzy = refl
    by_region region.Mutable = refl

-- so a read of a key that belongs here is done, and shows what the key has
module _ {K V I O : Type 0} (cmp : K → K → Ordering) (join : V → V → V) (f : Meanings K V I O) (code : K → ℕ) (v : PartitionView K V I) (slot : ℕ) (key : K) (input : I)
    (own : partition_of v.count (code key) ≡ v.number) (holds : IsHeld (met_at cmp join code v slot key) (live_of cmp v key)) where
  -- by what is met
  pub met-read : (met : LookupResult V) (told : Answer O) → met ≡ met_at cmp join code v slot key → IsHere met → told ≡ shown_of f key input (held_of met) → IsReadAtOnce cmp join f code v slot key input told
  met-read met told is here shows = record {
    own = own;
    done = ap (decision f (Read key input)) (sym is) ∙ read-done f key input met here ∙ ap Done (sym shows);
    shows = shows ∙ ap (shown_of f key input) (held-is met (live_of cmp v key) here (subst (λ m. IsHeld m (live_of cmp v key)) (sym is) holds));
  }

  -- or by the last record of the key, where that is no delta
  pub whole-read : (view : View) (a : ℕ) (o : Option V) (told : Answer O) → met_at cmp join code v slot key ≡ met_last view a o → told ≡ shown_of f key input o → IsReadAtOnce cmp join f code v slot key input told
  whole-read view a o told is shows =
      met-read (met_last view a o) told (sym is) (last-here view a o) (shows ∙ ap (shown_of f key input) (sym (last-held view a o)))
