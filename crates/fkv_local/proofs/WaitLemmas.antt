-- A session that has seen all waits for room alone.
use Rattle.std.proofs.Common.{◌≡◌, Bool, true, false, cond, ℕ, Option, Some, None, nat_lt, refl, subst}
use Rattle.std.specs.declared.cmp.Ordering.{Ordering}
use Rattle.fkv_functions.specs.Meanings.{Meanings}
use Rattle.fkv_texts.specs.declared.entries.ChainPosition.{ChainPosition}
use Rattle.fkv_texts.specs.declared.entries.ChainPosition.TheVariants.{Found, Below}
use Rattle.fkv_regions.specs.declared.offsets.View.{View}
use Rattle.fkv_regions.specs.Offsets.{region_of}
use Rattle.fkv_operations.specs.declared.operations.KeyedOp.{KeyedOp}
use Rattle.fkv_operations.specs.declared.operations.KeyedOp.TheVariants.{Read, Upsert, Rmw, Delete, Merge}
use Rattle.fkv_hybrid.specs.Views.{IsFull}
use Rattle.fkv_lookups.specs.Decisions.{met_in, met_last, met_on, replaced, appended_delta, merged, decision}
use Rattle.fkv_lookups.specs.Meeting.{met_from}
use Rattle.fkv_lookups.specs.declared.decisions.LookupResult.{LookupResult}
use Rattle.fkv_lookups.specs.declared.decisions.LookupResult.TheVariants.{NoEntry, NoValue, ReadOnly, Fuzzy, Mutable, OnDisk}
use Rattle.fkv_lookups.specs.declared.decisions.Decision.{Decision}
use Rattle.fkv_lookups.specs.declared.decisions.Decision.TheVariants as decided
use Rattle.fkv_partition.specs.Views.{PartitionView, seen_at}
use Rattle.fkv_partition.specs.declared.contexts.Context.{Context}
use Rattle.fkv_partition.specs.declared.contexts.Wait.{Wait}
use Rattle.fkv_alone.specs.Stages.{IsHeldUp}

abbrev IsSafe : {V : Type 0} → LookupResult V → Type 0
IsSafe NoEntry = Unit {0}
IsSafe NoValue = Unit {0}
IsSafe (ReadOnly v) = Unit {0}
IsSafe (Fuzzy v) = ⊥
IsSafe (Mutable v) = Unit {0}
IsSafe (OnDisk b c) = Unit {0}

module _ {V : Type 0} (view : View) (same : view.safe_read_only ≡ view.read_only) where
  in-region : (a : ℕ) (v : V) → IsSafe (met_in (region_of view a) v)
  in-region a v = by (nat_lt a view.head) (nat_lt a view.safe_read_only) refl refl
    where
      by : (x y : Bool) → nat_lt a view.head ≡ x → nat_lt a view.safe_read_only ≡ y → IsSafe (met_in (region_of view a) v)
      by true y p q = rw p tt
      by false true p q = rw (p, q) tt
      by false false p q = let r : nat_lt a view.read_only ≡ false = subst (λ n. nat_lt a n ≡ false) same q in rw (p, q, r) tt

  at-last : (a : ℕ) (o : Option V) → IsSafe (met_last view a o)
  at-last a None = tt
  at-last a (Some v) = in-region a v

module _ {V : Type 0} (begin : ℕ) where
  below : (b : ℕ) (here : LookupResult V) (there : LookupResult V) → IsSafe here → IsSafe there → (x : Bool) → nat_lt b begin ≡ x → IsSafe (cond (nat_lt b begin) here there)
  below b here there h t true p = rw p h
  below b here there h t false p = rw p t

module _ {K V : Type 0} (join : V → V → V) (begin : ℕ) (view : View) (same : view.safe_read_only ≡ view.read_only) where
  on-chain : (parts : Option V) (at : ChainPosition K V) → IsSafe (met_on join begin view parts at)
  on-chain None (Found e) = at-last view same e.address e.value
  on-chain (Some p) (Found e) = tt
  on-chain None (Below b) = below begin b NoValue (OnDisk b None) tt tt (nat_lt b begin) refl
  on-chain (Some p) (Below b) = below begin b (ReadOnly p) (OnDisk b (Some p)) tt tt (nat_lt b begin) refl

module _ {K V I O : Type 0} (f : Meanings K V I O) where
  not-replaced : (k : K) (i : I) (o : Option V) → replaced f k i o ≡ decided.Wait → ⊥
  not-replaced k i None h = absurd (cc)
  not-replaced k i (Some v) h = absurd (cc)

  not-appended : (o : Option V) → ◌≡◌ {A = Decision V I O} (appended_delta o) decided.Wait → ⊥
  not-appended None h = absurd (cc)
  not-appended (Some v) h = absurd (cc)

  not-merged : (o : Option V) → ◌≡◌ {A = Decision V I O} (merged o) decided.Wait → ⊥
  not-merged None h = absurd (cc)
  not-merged (Some v) h = absurd (cc)

  never-waits : (op : KeyedOp K V I) (r : LookupResult V) → IsSafe r → decision f op r ≡ decided.Wait → ⊥
  never-waits (Read k i) NoEntry n h = absurd (cc)
  never-waits (Read k i) NoValue n h = absurd (cc)
  never-waits (Read k i) (ReadOnly w) n h = absurd (cc)
  never-waits (Read k i) (Fuzzy w) n h = absurd n
  never-waits (Read k i) (Mutable w) n h = absurd (cc)
  never-waits (Read k i) (OnDisk b c) n h = absurd (cc)
  never-waits (Upsert k v) NoEntry n h = absurd (cc)
  never-waits (Upsert k v) NoValue n h = absurd (cc)
  never-waits (Upsert k v) (ReadOnly w) n h = absurd (cc)
  never-waits (Upsert k v) (Fuzzy w) n h = absurd n
  never-waits (Upsert k v) (Mutable w) n h = absurd (cc)
  never-waits (Upsert k v) (OnDisk b c) n h = absurd (cc)
  never-waits (Rmw k i) NoEntry n h = absurd (cc)
  never-waits (Rmw k i) NoValue n h = absurd (cc)
  never-waits (Rmw k i) (ReadOnly w) n h = absurd (cc)
  never-waits (Rmw k i) (Fuzzy w) n h = absurd n
  never-waits (Rmw k i) (Mutable w) n h = not-replaced k i (f.next k w i) h
  never-waits (Rmw k i) (OnDisk b c) n h = absurd (cc)
  never-waits (Delete k) NoEntry n h = absurd (cc)
  never-waits (Delete k) NoValue n h = absurd (cc)
  never-waits (Delete k) (ReadOnly w) n h = absurd (cc)
  never-waits (Delete k) (Fuzzy w) n h = absurd n
  never-waits (Delete k) (Mutable w) n h = absurd (cc)
  never-waits (Delete k) (OnDisk b c) n h = absurd (cc)
  never-waits (Merge k i) NoEntry n h = absurd (cc)
  never-waits (Merge k i) NoValue n h = not-appended (f.first k i) h
  never-waits (Merge k i) (ReadOnly w) n h = not-appended (f.first k i) h
  never-waits (Merge k i) (Fuzzy w) n h = absurd n
  never-waits (Merge k i) (Mutable w) n h = not-merged (f.next k w i) h
  never-waits (Merge k i) (OnDisk b c) n h = not-appended (f.first k i) h

module _ {K V I O : Type 0} (cmp : K → K → Ordering) (join : V → V → V) (f : Meanings K V I O) (code : K → ℕ) (v : PartitionView K V I) (slot : ℕ) (same : (seen_at v slot).safe_read_only ≡ (seen_at v slot).read_only) where
  met-safe : (k : K) (o : Option ℕ) → IsSafe (met_from cmp join code v.records (seen_at v slot) k o)
  met-safe k None = tt
  met-safe k (Some a) = on-chain join v.records.log.begin (seen_at v slot) same _ _

  -- it waits since there is no room
  pub waits-full : (c : ℕ) (x : Context K V I) (why : Wait) → IsHeldUp cmp join f code v slot c x why → IsFull v.records.log
  waits-full c x why (IsHeldUp.fuzzy d) = absurd (never-waits f x.op _ (met-safe _ _) d.decided)
  waits-full c x why (IsHeldUp.full payload a d full) = full
  waits-full c x why (IsHeldUp.built kept ask value q w u full) = full
