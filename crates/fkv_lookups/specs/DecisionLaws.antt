-- What a decision comes to, on the plain map that says of the key what was met.
use Rattle.std.specs.Prelude.{◌≡◌, ◌<◌, ◌≤◌, Bool, true, false, cond, ℕ, ◌⊎◌, Option, Some, None, IsSome, nat_lt}
use Rattle.std.proofs.lemmas.Bool.Decides.{nat_tests}
use Rattle.std.specs.declared.cmp.Ordering.{Ordering}
use Rattle.std.specs.BTreeMap.{is_at}
use Rattle.std.proofs.Common.{refl, sym, ap, ◌∙◌, inl, inr, subst, arith}
use Rattle.fkv_functions.specs.Meanings.{Meanings, Parts, Merges, updated}
use Rattle.fkv_functions.specs.Plain.{PlainMap, Same, IsKeyOrder, with_at}
use Rattle.fkv_texts.specs.declared.entries.Entry.{Entry}
use Rattle.fkv_texts.specs.declared.entries.ChainPosition.{ChainPosition}
use Rattle.fkv_texts.specs.declared.entries.ChainPosition.TheVariants.{Found, Below}
use Rattle.fkv_regions.specs.declared.offsets.View.{View}
use Rattle.fkv_regions.specs.declared.offsets.Region.{Region}
use Rattle.fkv_regions.specs.declared.offsets.Region.TheVariants as region
use Rattle.fkv_regions.specs.Offsets.{region_of}
use Rattle.fkv_operations.specs.After.{key_of, is_merge, after, after_update, answer, shown_of, told_of}
use Rattle.fkv_texts.specs.Deltas.{combined}
use Rattle.fkv_lookups.specs.declared.chain_results.ChainResult.{ChainResult}
use Rattle.fkv_lookups.specs.declared.payloads.Payload.{Payload}
use Rattle.fkv_lookups.specs.Payloads.{standing}
use Rattle.fkv_lookups.specs.Decisions.{met_in, met_last, met_on, met_by, joined_to, held_of, IsHeld, replaced, appended_delta, merged, decision}
use Rattle.fkv_operations.specs.declared.operations.KeyedOp.{KeyedOp}
use Rattle.fkv_operations.specs.declared.operations.KeyedOp.TheVariants.{Read, Upsert, Rmw, Delete, Merge}
use Rattle.fkv_operations.specs.declared.operations.Answer.{Answer}
use Rattle.fkv_lookups.specs.declared.decisions.LookupResult.{LookupResult}
use Rattle.fkv_lookups.specs.declared.decisions.LookupResult.TheVariants.{NoEntry, NoValue, ReadOnly, Fuzzy, Mutable, OnDisk}
use Rattle.fkv_lookups.specs.declared.decisions.Decision.{Decision}
use Rattle.fkv_lookups.specs.declared.decisions.Decision.TheVariants.{Done, Claim, Append, Replace, Prepare, Wait, Load}

-- a key that has no value is removed without a change
removed : {V : Type 0} (b : Bool) (l : Option V) → (b ≡ true → l ≡ None) → l ≡ cond b None l
removed true l h = h refl
removed false l h = refl

-- where functions merge, an update of a key is what it had with the input's part joined
pub joined-update : {K V I O : Type 0} (f : Meanings K V I O) (p : Parts K V I) → Merges f p
    → (k : K) (i : I) (part : V)
    → f.first k i ≡ Some part
    → (held : Option V)
    → updated f k i held ≡ combined p.joined held (Some part)
joined-update f p merges k i part first None = first
joined-update f p merges k i part first (Some v) =
    let same : p.delta k i ≡ part = (let both : Some (p.delta k i) ≡ Some part = sym (merges.first k i) ∙ first in cc) in
    merges.next k v i ∙ ap (λ d. Some (p.joined v d)) same

joined-some : {K V : Type 0} (cmp : K → K → Ordering) (join : V → V → V) (m : PlainMap K V) (k : K) (held : Option V) (part : V)
    → after_update cmp m k (combined join held (Some part)) ≡ with_at cmp m k (combined join held (Some part))
joined-some cmp join m k None part = refl
joined-some cmp join m k (Some v) part = refl

module _ {K V I O : Type 0} (cmp : K → K → Ordering) (f : Meanings K V I O) (p : Parts K V I) (m : PlainMap K V) where
  -- what a decision comes to on the map: one that writes nothing leaves it, one that appends or replaces does to it what its
  -- record does, and each answers as the map does
  abbrev Does : KeyedOp K V I → LookupResult V → Decision V I O → Type 0
  Does op met (Done a) = IsKeyOrder cmp → IsHeld met (m (key_of op)) → Same (after cmp f m op) m × (a ≡ answer f m op)
  Does op met Claim = Unit {0}
  Does op met (Append w a) = (after cmp f m op ≡ with_at cmp m (key_of op) (standing p.joined (m (key_of op)) w)) × (a ≡ answer f m op)
  Does op met (Replace v a) = IsHeld met (m (key_of op)) → (after cmp f m op ≡ with_at cmp m (key_of op) v) × (a ≡ answer f m op)
  Does op met (Prepare s i) = Unit {0}
  Does op met Wait = Unit {0}
  Does op met (Load b c) = Unit {0}

  -- a merge appends the part of its input, or replaces a value by the next one
  does-part : Merges f p → (k : K) (i : I) (met : LookupResult V) (o : Option V) → f.first k i ≡ o → Does (Merge k i) met (appended_delta o)
  does-part merges k i met None e = absurd (let no : Some (p.delta k i) ≡ None = sym (merges.first k i) ∙ e in cc)
  does-part merges k i met (Some part) e =
      (ap (after_update cmp m k) (joined-update f p merges k i part e (m k)) ∙ joined-some cmp p.joined m k (m k) part, refl)

  does-next : Merges f p → (k : K) (i : I) (w : V) (o : Option V) → f.next k w i ≡ o → Does (Merge k i) (Mutable w) (merged o)
  does-next merges k i w None e = absurd (let no : Some (p.joined w (p.delta k i)) ≡ None = sym (merges.next k w i) ∙ e in cc)
  does-next merges k i w (Some v) e = λ h. (ap (after_update cmp m k) (ap (updated f k i) h ∙ e), refl)

  -- the table, row by row
  does : (op : KeyedOp K V I) (met : LookupResult V) → (is_merge op ≡ true → Merges f p) → Does op met (decision f op met)
  does (Read k i) NoEntry merges = λ order h. ((λ q. refl), ap (shown_of f k i) (sym h))
  does (Read k i) NoValue merges = λ order h. ((λ q. refl), ap (shown_of f k i) (sym h))
  does (Read k i) (ReadOnly w) merges = λ order h. ((λ q. refl), ap (shown_of f k i) (sym h))
  does (Read k i) (Fuzzy w) merges = λ order h. ((λ q. refl), ap (shown_of f k i) (sym h))
  does (Read k i) (Mutable w) merges = λ order h. ((λ q. refl), ap (shown_of f k i) (sym h))
  does (Read k i) (OnDisk b c) merges = tt
  does (Upsert k u) NoEntry merges = tt
  does (Upsert k u) NoValue merges = (refl, refl)
  does (Upsert k u) (ReadOnly w) merges = (refl, refl)
  does (Upsert k u) (Fuzzy w) merges = (refl, refl)
  does (Upsert k u) (Mutable w) merges = λ h. (refl, refl)
  does (Upsert k u) (OnDisk b c) merges = (refl, refl)
  does (Rmw k i) NoEntry merges = tt
  does (Rmw k i) NoValue merges = tt
  does (Rmw k i) (ReadOnly w) merges = tt
  does (Rmw k i) (Fuzzy w) merges = tt
  does (Rmw k i) (Mutable w) merges = by_next (f.next k w i) refl
    where
      came : (o : Option V) → f.next k w i ≡ o → m k ≡ Some w → updated f k i (m k) ≡ o
      came o e h = ap (updated f k i) h ∙ e

      by_next : (o : Option V) → f.next k w i ≡ o → Does (Rmw k i) (Mutable w) (replaced f k i o)
      by_next None e = λ order h. ((λ q. ap (λ (o : Option V). after_update cmp m k o q) (came None e h)), sym (ap (told_of f k i) (came None e h)))
      by_next (Some v) e = λ h. (ap (after_update cmp m k) (came (Some v) e h), sym (ap (told_of f k i) (came (Some v) e h)))
  does (Rmw k i) (OnDisk b c) merges = tt
  does (Delete k) NoEntry merges = λ order h. ((λ q. sym (removed (is_at (cmp k) q) (m q) (λ t. ap m (sym (order.same k q t)) ∙ h))), refl)
  does (Delete k) NoValue merges = λ order h. ((λ q. sym (removed (is_at (cmp k) q) (m q) (λ t. ap m (sym (order.same k q t)) ∙ h))), refl)
  does (Delete k) (ReadOnly w) merges = (refl, refl)
  does (Delete k) (Fuzzy w) merges = (refl, refl)
  does (Delete k) (Mutable w) merges = λ h. (refl, refl)
  does (Delete k) (OnDisk b c) merges = (refl, refl)
  does (Merge k i) NoEntry merges = tt
  does (Merge k i) NoValue merges = does-part (merges refl) k i NoValue (f.first k i) refl
  does (Merge k i) (ReadOnly w) merges = does-part (merges refl) k i (ReadOnly w) (f.first k i) refl
  does (Merge k i) (Fuzzy w) merges = does-part (merges refl) k i (Fuzzy w) (f.first k i) refl
  does (Merge k i) (Mutable w) merges = does-next (merges refl) k i w (f.next k w i) refl
  does (Merge k i) (OnDisk b c) merges = does-part (merges refl) k i (OnDisk b c) (f.first k i) refl

  -- an operation that is done without a write leaves the map as it is, and answers as the map does
  pub quiet-does : IsKeyOrder cmp
      → (op : KeyedOp K V I) (met : LookupResult V) (a : Answer O)
      → (is_merge op ≡ true → Merges f p)
      → IsHeld met (m (key_of op))
      → decision f op met ≡ Done a
      → Same (after cmp f m op) m × (a ≡ answer f m op)
  quiet-does order op met a merges held d = subst (Does op met) d (does op met merges) order held

  -- one that appends does to the map what its record does, and answers as the map does
  pub append-does : (op : KeyedOp K V I) (met : LookupResult V) (w : Payload V) (a : Answer O)
      → (is_merge op ≡ true → Merges f p)
      → decision f op met ≡ Append w a
      → (after cmp f m op ≡ with_at cmp m (key_of op) (standing p.joined (m (key_of op)) w)) × (a ≡ answer f m op)
  append-does op met w a merges d = subst (Does op met) d (does op met merges)

  -- and so does one that changes the last record of its key in place
  pub replace-does : (op : KeyedOp K V I) (met : LookupResult V) (v : Option V) (a : Answer O)
      → (is_merge op ≡ true → Merges f p)
      → IsHeld met (m (key_of op))
      → decision f op met ≡ Replace v a
      → (after cmp f m op ≡ with_at cmp m (key_of op) v) × (a ≡ answer f m op)
  replace-does op met v a merges held d = subst (Does op met) d (does op met merges) held

module _ {K V I O : Type 0} (f : Meanings K V I O) where
  -- what a decision says of its operation and of what was met
  abbrev IsDecided : KeyedOp K V I → LookupResult V → Decision V I O → Type 0
  IsDecided op met (Done a) = Unit {0}
  IsDecided op met Claim = met ≡ NoEntry
  IsDecided op met (Append v a) = met ≡ NoEntry → ⊥
  IsDecided op met (Replace v a) = (w : V) × (met ≡ Mutable w)
  IsDecided op met (Prepare s i) = (op ≡ Rmw (key_of op) i) × (s ≡ held_of met) × ((met ≡ NoValue) ⊎ ((w : V) × (met ≡ ReadOnly w)))
  IsDecided op met Wait = ((i : I) × (op ≡ Rmw (key_of op) i)) × ((w : V) × (met ≡ Fuzzy w))
  IsDecided op met (Load b c) = (met ≡ OnDisk b c) × ((i : I) × ((op ≡ Read (key_of op) i) ⊎ (op ≡ Rmw (key_of op) i)))

  -- the table, row by row
  is-decided : (op : KeyedOp K V I) (met : LookupResult V) → IsDecided op met (decision f op met)
  is-decided (Read k i) NoEntry = tt
  is-decided (Read k i) NoValue = tt
  is-decided (Read k i) (ReadOnly w) = tt
  is-decided (Read k i) (Fuzzy w) = tt
  is-decided (Read k i) (Mutable w) = tt
  is-decided (Read k i) (OnDisk b c) = (refl, (i, inl refl))
  is-decided (Upsert k u) NoEntry = refl
  is-decided (Upsert k u) NoValue = λ e. cc
  is-decided (Upsert k u) (ReadOnly w) = λ e. cc
  is-decided (Upsert k u) (Fuzzy w) = λ e. cc
  is-decided (Upsert k u) (Mutable w) = (w, refl)
  is-decided (Upsert k u) (OnDisk b c) = λ e. cc
  is-decided (Rmw k i) NoEntry = refl
  is-decided (Rmw k i) NoValue = (refl, refl, inl refl)
  is-decided (Rmw k i) (ReadOnly w) = (refl, refl, inr (w, refl))
  is-decided (Rmw k i) (Fuzzy w) = ((i, refl), (w, refl))
  is-decided (Rmw k i) (Mutable w) = by_next (f.next k w i)
    where
      by_next : (o : Option V) → IsDecided (Rmw k i) (Mutable w) (replaced f k i o)
      by_next None = tt
      by_next (Some v) = (w, refl)
  is-decided (Rmw k i) (OnDisk b c) = (refl, (i, inr refl))
  is-decided (Delete k) NoEntry = tt
  is-decided (Delete k) NoValue = tt
  is-decided (Delete k) (ReadOnly w) = λ e. cc
  is-decided (Delete k) (Fuzzy w) = λ e. cc
  is-decided (Delete k) (Mutable w) = (w, refl)
  is-decided (Delete k) (OnDisk b c) = λ e. cc
  is-decided (Merge k i) NoEntry = refl
  is-decided (Merge k i) NoValue = by_first (f.first k i)
    where
      by_first : (o : Option V) → IsDecided (Merge k i) NoValue (appended_delta o)
      by_first None = tt
      by_first (Some part) = λ e. cc
  is-decided (Merge k i) (ReadOnly w) = by_first (f.first k i)
    where
      by_first : (o : Option V) → IsDecided (Merge k i) (ReadOnly w) (appended_delta o)
      by_first None = tt
      by_first (Some part) = λ e. cc
  is-decided (Merge k i) (Fuzzy w) = by_first (f.first k i)
    where
      by_first : (o : Option V) → IsDecided (Merge k i) (Fuzzy w) (appended_delta o)
      by_first None = tt
      by_first (Some part) = λ e. cc
  is-decided (Merge k i) (Mutable w) = by_next (f.next k w i)
    where
      by_next : (o : Option V) → IsDecided (Merge k i) (Mutable w) (merged o)
      by_next None = tt
      by_next (Some v) = (w, refl)
  is-decided (Merge k i) (OnDisk b c) = by_first (f.first k i)
    where
      by_first : (o : Option V) → IsDecided (Merge k i) (OnDisk b c) (appended_delta o)
      by_first None = tt
      by_first (Some part) = λ e. cc

  -- one that asks for a value is an update by an input, and its source is what was met: none, or a value that changes no
  -- more
  pub prepare-op : (op : KeyedOp K V I) (met : LookupResult V) (s : Option V) (i : I)
      → decision f op met ≡ Prepare s i
      → op ≡ Rmw (key_of op) i
  prepare-op op met s i d = (subst (IsDecided op met) d (is-decided op met)).0

  pub prepare-source : (op : KeyedOp K V I) (met : LookupResult V) (s : Option V) (i : I)
      → decision f op met ≡ Prepare s i
      → s ≡ held_of met
  prepare-source op met s i d = (subst (IsDecided op met) d (is-decided op met)).1

  pub prepare-met : (op : KeyedOp K V I) (met : LookupResult V) (s : Option V) (i : I)
      → decision f op met ≡ Prepare s i
      → (met ≡ NoValue) ⊎ ((w : V) × (met ≡ ReadOnly w))
  prepare-met op met s i d = (subst (IsDecided op met) d (is-decided op met)).2

  -- one that changes a record in place met a value that may be changed so
  pub replace-met : (op : KeyedOp K V I) (met : LookupResult V) (v : Option V) (a : Answer O)
      → decision f op met ≡ Replace v a
      → (w : V) × (met ≡ Mutable w)
  replace-met op met v a d = subst (IsDecided op met) d (is-decided op met)

  -- only an update waits, and it met a value that others may still change
  pub wait-op : (op : KeyedOp K V I) (met : LookupResult V)
      → decision f op met ≡ Wait
      → (i : I) × (op ≡ Rmw (key_of op) i)
  wait-op op met d = (subst (IsDecided op met) d (is-decided op met)).0

  pub wait-met : (op : KeyedOp K V I) (met : LookupResult V)
      → decision f op met ≡ Wait
      → (w : V) × (met ≡ Fuzzy w)
  wait-met op met d = (subst (IsDecided op met) d (is-decided op met)).1

  -- without an entry nothing is written but an entry
  pub append-entry : (op : KeyedOp K V I) (join : V → V → V) (entry : Option ℕ) (begin : ℕ) (view : View) (came : ChainResult K V) (v : Payload V) (a : Answer O)
      → decision f op (met_by join entry begin view came) ≡ Append v a
      → IsSome entry
  append-entry op join None begin view came v a d = absurd (subst (IsDecided op NoEntry) d (is-decided op NoEntry) refl)
  append-entry op join (Some e) begin view came v a d = refl

  pub prepare-entry : (op : KeyedOp K V I) (join : V → V → V) (entry : Option ℕ) (begin : ℕ) (view : View) (came : ChainResult K V) (s : Option V) (i : I)
      → decision f op (met_by join entry begin view came) ≡ Prepare s i
      → IsSome entry
  prepare-entry op join None begin view came s i d = elim (prepare-met op NoEntry s i d) [
    | inl e ↦ absurd (cc)
    | inr e ↦ absurd (let no = e.1 in cc)
  ]
  prepare-entry op join (Some e) begin view came s i d = refl

  pub claim-met : (op : KeyedOp K V I) (met : LookupResult V)
      → decision f op met ≡ Claim
      → met ≡ NoEntry
  claim-met op met d = subst (IsDecided op met) d (is-decided op met)

  -- only a read or an update asks for a page, and what it met lies there
  pub load-met : (op : KeyedOp K V I) (met : LookupResult V) (b : ℕ) (c : Option V)
      → decision f op met ≡ Load b c
      → met ≡ OnDisk b c
  load-met op met b c d = (subst (IsDecided op met) d (is-decided op met)).0

  pub load-op : (op : KeyedOp K V I) (met : LookupResult V) (b : ℕ) (c : Option V)
      → decision f op met ≡ Load b c
      → (i : I) × ((op ≡ Read (key_of op) i) ⊎ (op ≡ Rmw (key_of op) i))
  load-op op met b c d = (subst (IsDecided op met) d (is-decided op met)).1

-- ---- what was met
held-in : {V : Type 0} (r : Region) (v : V) (o : Option V) → o ≡ Some v → IsHeld (met_in r v) o
held-in region.OnDisk v o h = h
held-in region.ReadOnly v o h = h
held-in region.Fuzzy v o h = h
held-in region.Mutable v o h = h

pub held-last : {V : Type 0} (view : View) (a : ℕ) (value o : Option V) → o ≡ value → IsHeld (met_last view a value) o
held-last view a None o h = h
held-last view a (Some v) o h = held-in (region_of view a) v o h

mutable-only : {V : Type 0} (r : Region) (v w : V) → met_in r v ≡ Mutable w → (v ≡ w) × (r ≡ region.Mutable)
mutable-only region.OnDisk v w h = absurd (cc)
mutable-only region.ReadOnly v w h = absurd (cc)
mutable-only region.Fuzzy v w h = absurd (cc)
mutable-only region.Mutable v w h = ((cc), refl)

fuzzy-only : {V : Type 0} (r : Region) (v w : V) → met_in r v ≡ Fuzzy w → (v ≡ w) × (r ≡ region.Fuzzy)
fuzzy-only region.OnDisk v w h = absurd (cc)
fuzzy-only region.ReadOnly v w h = absurd (cc)
fuzzy-only region.Fuzzy v w h = ((cc), refl)
fuzzy-only region.Mutable v w h = absurd (cc)

frozen-only : {V : Type 0} (r : Region) (v w : V) → met_in r v ≡ ReadOnly w → (v ≡ w) × ((r ≡ region.ReadOnly) ⊎ (r ≡ region.OnDisk))
frozen-only region.OnDisk v w h = ((cc), inr refl)
frozen-only region.ReadOnly v w h = ((cc), inl refl)
frozen-only region.Fuzzy v w h = absurd (cc)
frozen-only region.Mutable v w h = absurd (cc)

disk-none : {V : Type 0} (r : Region) (v : V) (b : ℕ) (c : Option V) → met_in r v ≡ OnDisk b c → ⊥
disk-none region.OnDisk v b c h = cc
disk-none region.ReadOnly v b c h = cc
disk-none region.Fuzzy v b c h = cc
disk-none region.Mutable v b c h = cc

none-none : {V : Type 0} (r : Region) (v : V) → met_in r v ≡ NoEntry → ⊥
none-none region.OnDisk v h = cc
none-none region.ReadOnly v h = cc
none-none region.Fuzzy v h = cc
none-none region.Mutable v h = cc

absent-none : {V : Type 0} (r : Region) (v : V) → met_in r v ≡ NoValue → ⊥
absent-none region.OnDisk v h = cc
absent-none region.ReadOnly v h = cc
absent-none region.Fuzzy v h = cc
absent-none region.Mutable v h = cc

-- a part is joined to what came before it, and where there is none, that stays
joined-combined : {V : Type 0} (join : V → V → V) (v : Option V) (p : V) → combined join v (Some p) ≡ Some (joined_to join v p)
joined-combined join None p = refl
joined-combined join (Some v) p = refl

combined-none : {V : Type 0} (join : V → V → V) (v : Option V) → combined join v None ≡ v
combined-none join None = refl
combined-none join (Some v) = refl

module _ {K V : Type 0} (join : V → V → V) (begin : ℕ) (view : View) where
  -- what is met says what the key holds, where the look-up tells: it comes to the last record of the key that is no delta,
  -- and below Begin there is none
  pub held-met : (entry : Option ℕ) (came : ChainResult K V) (o : Option V)
      → (entry ≡ None → o ≡ None)
      → ((e : Entry K V) → came.position ≡ Found e → o ≡ combined join e.value came.parts)
      → ((b : ℕ) → came.position ≡ Below b → b < begin → o ≡ came.parts)
      → IsHeld (met_by join entry begin view came) o
  held-met None came o none found below = none refl
  held-met (Some a) came o none found below = on came.parts came.position found below
    where
      on : (c : Option V) (r : ChainPosition K V)
          → ((e : Entry K V) → r ≡ Found e → o ≡ combined join e.value c)
          → ((b : ℕ) → r ≡ Below b → b < begin → o ≡ c)
          → IsHeld (met_on join begin view c r) o
      on None (Found e) found below = held-last view e.address e.value o (found e refl ∙ combined-none join e.value)
      on (Some p) (Found e) found below = found e refl ∙ joined-combined join e.value p
      on None (Below b) found below = by_begin (nat_lt b begin) refl
        where
          by_begin : (t : Bool) → nat_lt b begin ≡ t → IsHeld (cond t NoValue (OnDisk b None)) o
          by_begin true h = below b refl (grind (arith, nat_tests))
          by_begin false h = tt
      on (Some p) (Below b) found below = by_begin (nat_lt b begin) refl
        where
          by_begin : (t : Bool) → nat_lt b begin ≡ t → IsHeld (cond t (ReadOnly p) (OnDisk b (Some p))) o
          by_begin true h = below b refl (grind (arith, nat_tests))
          by_begin false h = tt

  -- where there is no entry, and only there, none is met
  pub none-met : (entry : Option ℕ) (came : ChainResult K V) → met_by join entry begin view came ≡ NoEntry → entry ≡ None
  none-met None came h = refl
  none-met (Some a) came h = absurd (on came.parts came.position h)
    where
      on : (c : Option V) (r : ChainPosition K V) → met_on join begin view c r ≡ NoEntry → ⊥
      on None (Found e) h = by_value e.value h
        where
          by_value : (o : Option V) → met_last view e.address o ≡ NoEntry → ⊥
          by_value None h = cc
          by_value (Some v) h = none-none (region_of view e.address) v h
      on (Some p) (Found e) h = cc
      on None (Below b) h = by_begin (nat_lt b begin) h
        where
          by_begin : (t : Bool) → cond {A = LookupResult V} t NoValue (OnDisk b None) ≡ NoEntry → ⊥
          by_begin true h = cc
          by_begin false h = cc
      on (Some p) (Below b) h = by_begin (nat_lt b begin) h
        where
          by_begin : (t : Bool) → cond {A = LookupResult V} t (ReadOnly p) (OnDisk b (Some p)) ≡ NoEntry → ⊥
          by_begin true h = cc
          by_begin false h = cc

  -- what lies on disk is where the look-up led, at or above Begin, with the parts that it collected
  pub record IsMetOnDisk (entry : Option ℕ) (came : ChainResult K V) (b : ℕ) (c : Option V) : Type 0 where
    pub is : came.position ≡ Below b
    pub parts : came.parts ≡ c
    pub high : begin ≤ b
    pub some : IsSome entry

  pub disk-met : (entry : Option ℕ) (came : ChainResult K V) (b : ℕ) (parts : Option V)
      → met_by join entry begin view came ≡ OnDisk b parts
      → IsMetOnDisk entry came b parts
  disk-met None came b parts h = absurd (cc)
  disk-met (Some a) came b parts h =
      let d = on came.parts came.position h in
      record { is = d.0; parts = d.1; high = d.2; some = refl }
    where
      led : (c : Option V) (d : ℕ) (m : LookupResult V)
          → ((n : ℕ) (o : Option V) → m ≡ OnDisk n o → ⊥)
          → (t : Bool)
          → nat_lt d begin ≡ t
          → cond t m (OnDisk d c) ≡ OnDisk b parts
          → (d ≡ b) × (c ≡ parts) × (begin ≤ b)
      led c d m none true is h = absurd (none b parts h)
      led c d m none false is h =
          let same : d ≡ b = cc in
          let high : begin ≤ d = grind (arith, nat_tests) in
          (same, (cc), subst (λ (n : ℕ). begin ≤ n) same high)

      on : (c : Option V) (r : ChainPosition K V) → met_on join begin view c r ≡ OnDisk b parts → (r ≡ Below b) × (c ≡ parts) × (begin ≤ b)
      on None (Found e) h = absurd (by_value e.value h)
        where
          by_value : (o : Option V) → met_last view e.address o ≡ OnDisk b parts → ⊥
          by_value None h = cc
          by_value (Some v) h = disk-none (region_of view e.address) v b parts h
      on (Some p) (Found e) h = absurd (cc)
      on None (Below d) h =
          let l = led None d NoValue (λ n o e. cc) (nat_lt d begin) refl h in
          (ap Below l.0, l.1, l.2)
      on (Some p) (Below d) h =
          let l = led (Some p) d (ReadOnly p) (λ n o e. cc) (nat_lt d begin) refl h in
          (ap Below l.0, l.1, l.2)

  -- a value is met in the region of the record that the look-up comes to, which is no delta, with no parts above
  pub record IsMetIn (came : ChainResult K V) (w : V) (g : Region) : Type 0 where
    pub entry : Entry K V
    pub parts : came.parts ≡ None
    pub is : came.position ≡ Found entry
    pub value : entry.value ≡ Some w
    pub region : region_of view entry.address ≡ g

  -- or it was joined from the parts above, and from what the key had where the look-up ends
  pub record IsMetJoined (came : ChainResult K V) (w : V) : Type 0 where
    pub part : V
    pub parts : came.parts ≡ Some part
    pub on : ((e : Entry K V) × (came.position ≡ Found e) × (w ≡ joined_to join e.value part))
        ⊎ ((b : ℕ) × (came.position ≡ Below b) × (b < begin) × (w ≡ part))

  in-region : {P : Region → Type 0} (met : V → LookupResult V)
      → ((r : Region) (v w : V) → met_in r v ≡ met w → (v ≡ w) × P r)
      → ((w : V) → NoEntry ≡ met w → ⊥)
      → ((w : V) → NoValue ≡ met w → ⊥)
      → ((b : ℕ) (c : Option V) (w : V) → OnDisk b c ≡ met w → ⊥)
      → (entry : Option ℕ) (came : ChainResult K V) (w : V)
      → met_by join entry begin view came ≡ met w
      → ((g : Region) × P g × IsMetIn came w g) ⊎ ((p : V) × (came.parts ≡ Some p) × (met_on join begin view (Some p) came.position ≡ met w))
  in-region met is no_entry no_value no_disk None came w h = absurd (no_entry w h)
  in-region {P} met is no_entry no_value no_disk (Some a) came w h = by_parts came.parts refl h
    where
      on : came.parts ≡ None → (r : ChainPosition K V) → came.position ≡ r → met_on join begin view None r ≡ met w → (g : Region) × P g × IsMetIn came w g
      on none (Below b) at h = absurd (by_begin (nat_lt b begin) h)
        where
          by_begin : (t : Bool) → cond t NoValue (OnDisk b None) ≡ met w → ⊥
          by_begin true h = no_value w h
          by_begin false h = no_disk b None w h
      on none (Found e) at h = by_value e.value refl h
        where
          by_value : (o : Option V) → e.value ≡ o → met_last view e.address o ≡ met w → (g : Region) × P g × IsMetIn came w g
          by_value None q h = absurd (no_value w h)
          by_value (Some v) q h =
              let i = is (region_of view e.address) v w h in
              (region_of view e.address, i.1, record { entry = e; parts = none; is = at; value = q ∙ ap Some i.0; region = refl })

      by_parts : (c : Option V) → came.parts ≡ c → met_on join begin view c came.position ≡ met w
          → ((g : Region) × P g × IsMetIn came w g) ⊎ ((p : V) × (came.parts ≡ Some p) × (met_on join begin view (Some p) came.position ≡ met w))
      by_parts None is h = inl (on is came.position refl h)
      by_parts (Some p) is h = inr (p, is, h)

  -- with parts, a value that is met changes no more
  no-region : (p : V) (r : ChainPosition K V) (m : LookupResult V)
      → ((w : V) → ReadOnly w ≡ m → ⊥)
      → ((b : ℕ) (c : Option V) → OnDisk b c ≡ m → ⊥)
      → met_on join begin view (Some p) r ≡ m
      → ⊥
  no-region p (Found e) m no_value no_disk h = no_value (joined_to join e.value p) h
  no-region p (Below b) m no_value no_disk h = by_begin (nat_lt b begin) h
    where
      by_begin : (t : Bool) → cond t (ReadOnly p) (OnDisk b (Some p)) ≡ m → ⊥
      by_begin true h = no_value p h
      by_begin false h = no_disk b (Some p) h

  pub mutable-met : (entry : Option ℕ) (came : ChainResult K V) (w : V)
      → met_by join entry begin view came ≡ Mutable w
      → IsMetIn came w region.Mutable
  mutable-met entry came w h =
      elim (in-region {P = λ g. g ≡ region.Mutable} Mutable mutable-only (λ w e. cc) (λ w e. cc) (λ b c w e. cc) entry came w h) [
        | inl m ↦ let i = m.2 in record { entry = i.entry; parts = i.parts; is = i.is; value = i.value; region = i.region ∙ m.1 }
        | inr p ↦ absurd (no-region p.0 came.position (Mutable w) (λ w e. cc) (λ b c e. cc) p.2)
      ]

  pub fuzzy-met : (entry : Option ℕ) (came : ChainResult K V) (w : V)
      → met_by join entry begin view came ≡ Fuzzy w
      → IsMetIn came w region.Fuzzy
  fuzzy-met entry came w h =
      elim (in-region {P = λ g. g ≡ region.Fuzzy} Fuzzy fuzzy-only (λ w e. cc) (λ w e. cc) (λ b c w e. cc) entry came w h) [
        | inl m ↦ let i = m.2 in record { entry = i.entry; parts = i.parts; is = i.is; value = i.value; region = i.region ∙ m.1 }
        | inr p ↦ absurd (no-region p.0 came.position (Fuzzy w) (λ w e. cc) (λ b c e. cc) p.2)
      ]

  pub frozen-met : (entry : Option ℕ) (came : ChainResult K V) (w : V)
      → met_by join entry begin view came ≡ ReadOnly w
      → ((g : Region) × ((g ≡ region.ReadOnly) ⊎ (g ≡ region.OnDisk)) × IsMetIn came w g) ⊎ IsMetJoined came w
  frozen-met entry came w h =
      elim (in-region {P = λ g. (g ≡ region.ReadOnly) ⊎ (g ≡ region.OnDisk)} ReadOnly frozen-only (λ w e. cc) (λ w e. cc) (λ b c w e. cc) entry came w h) [
        | inl m ↦ inl m
        | inr p ↦ inr (record { part = p.0; parts = p.1; on = on p.0 came.position p.2 })
      ]
    where
      on : (p : V) (r : ChainPosition K V) → met_on join begin view (Some p) r ≡ ReadOnly w
          → ((e : Entry K V) × (r ≡ Found e) × (w ≡ joined_to join e.value p)) ⊎ ((b : ℕ) × (r ≡ Below b) × (b < begin) × (w ≡ p))
      on p (Found e) h = inl (e, refl, (cc))
      on p (Below b) h = let both = by_begin (nat_lt b begin) refl h in inr (b, refl, both.0, both.1)
        where
          by_begin : (t : Bool) → nat_lt b begin ≡ t → cond t (ReadOnly p) (OnDisk b (Some p)) ≡ ReadOnly w → (b < begin) × (w ≡ p)
          by_begin true is h = (grind (arith, nat_tests), (cc))
          by_begin false is h = absurd (cc)

  -- where there is no value, the look-up came to a tombstone, or below Begin, with no parts above
  pub absent-met : (entry : Option ℕ) (came : ChainResult K V)
      → met_by join entry begin view came ≡ NoValue
      → (came.parts ≡ None) × (((e : Entry K V) × (came.position ≡ Found e) × (e.value ≡ None)) ⊎ ((b : ℕ) × (came.position ≡ Below b) × (b < begin)))
  absent-met None came h = absurd (cc)
  absent-met (Some a) came h = by_parts came.parts h
    where
      on : (r : ChainPosition K V) → met_on join begin view None r ≡ NoValue
          → ((e : Entry K V) × (r ≡ Found e) × (e.value ≡ None)) ⊎ ((b : ℕ) × (r ≡ Below b) × (b < begin))
      on (Found e) h = inl (e, refl, by_value e.value refl h)
        where
          by_value : (o : Option V) → e.value ≡ o → met_last view e.address o ≡ NoValue → e.value ≡ None
          by_value None q h = q
          by_value (Some v) q h = absurd (absent-none (region_of view e.address) v h)
      on (Below b) h = inr (b, refl, by_begin (nat_lt b begin) refl h)
        where
          by_begin : (t : Bool) → nat_lt b begin ≡ t → cond {A = LookupResult V} t NoValue (OnDisk b None) ≡ NoValue → b < begin
          by_begin true is h = grind (arith, nat_tests)
          by_begin false is h = absurd (cc)

      by_parts : (c : Option V) → met_on join begin view c came.position ≡ NoValue
          → (c ≡ None) × (((e : Entry K V) × (came.position ≡ Found e) × (e.value ≡ None)) ⊎ ((b : ℕ) × (came.position ≡ Below b) × (b < begin)))
      by_parts None h = (refl, on came.position h)
      by_parts (Some p) h = absurd (no-region p came.position NoValue (λ w e. cc) (λ b c e. cc) h)
