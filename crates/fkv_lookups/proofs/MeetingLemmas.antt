-- What a session meets, and what it says of the last record of a key, however old the session's view.
use Rattle.std.proofs.Common.{◌≡◌, ◌<◌, ◌≤◌, ◌&&◌, ◌⊎◌, inl, inr, ℕ, Bool, true, false, cond, nat_le, List, Option, Some, None, IsSome, option_map, slice_get, is_some, refl, sym, ◌∙◌, ap, subst, arith}
use Rattle.std.proofs.lemmas.Bool.Decides.{nat_tests}
use Rattle.std.specs.Option.{option_flatten}
use Rattle.std.specs.declared.cmp.Ordering.{Ordering}
use Rattle.fkv_functions.specs.Plain.{IsKeyOrder}
use Rattle.fkv_epoch.specs.Moves.{is_entered}
use Rattle.fkv_regions.specs.declared.offsets.View.{View}
use Rattle.fkv_regions.specs.declared.offsets.Region.{Region}
use Rattle.fkv_regions.specs.declared.offsets.Region.TheVariants as region
use Rattle.fkv_regions.specs.Offsets.{region_of, view_at}
use Rattle.fkv_regions.specs.Agree.{IsByRegion, ViewAgrees}
use Rattle.fkv_texts.specs.declared.entries.Entry.{Entry}
use Rattle.fkv_texts.specs.declared.entries.ChainPosition.{ChainPosition}
use Rattle.fkv_texts.specs.declared.entries.ChainPosition.TheVariants.{Found, Below}
use Rattle.fkv_texts.specs.Text.{entry_at, has_key, value_of, last_of, newest}
use Rattle.fkv_texts.specs.Chains.{IsIn}
use Rattle.fkv_texts.specs.Deltas.{combined, with_other_value}
use Rattle.fkv_texts.proofs.LastWhere.{last_where-in, none-passes}
use Rattle.fkv_texts.proofs.TextLemmas.{entry_at-in}
use Rattle.fkv_texts.proofs.CutLemmas.{highest}
use Rattle.fkv_texts.proofs.StoodLemmas.{resolved-last, whole-last}
use Rattle.fkv_texts.proofs.ValueLemmas.{combined-none}
use Rattle.fkv_operations.specs.Still.{IsStill}
use Rattle.fkv_lookups.specs.declared.decisions.LookupResult.{LookupResult}
use Rattle.fkv_lookups.specs.declared.decisions.LookupResult.TheVariants.{NoEntry, NoValue, ReadOnly, Fuzzy, Mutable, OnDisk}
use Rattle.fkv_lookups.specs.Decisions.{low_of, met_by, IsHeld}
use Rattle.fkv_lookups.specs.DecisionLaws.{held-met, mutable-met, fuzzy-met, frozen-met, absent-met, disk-met, IsMetIn}
use Rattle.fkv_lookups.specs.declared.chain_results.ChainResult.{ChainResult}
use Rattle.fkv_lookups.specs.Lookups.{falling_from, newest_above, looked_up, IsOfClass, ComesTo, end_of, at_of, StartsAt}
use Rattle.fkv_lookups.specs.Lookups.ComesTo.{found, below, joins}
use Rattle.fkv_lookups.specs.Meeting.{met_from, met_at, IsMetAt, IsWanted}
use Rattle.fkv_lookups.specs.RecordsViews.{RecordsView, class_in, entry_of}
use Rattle.fkv_lookups.specs.Traced.{IsTraced, IsResolved}
use Rattle.fkv_lookups.proofs.TracedLemmas.{traced-held, traced-none, from_first}
use Rattle.fkv_lookups.proofs.LookupLemmas.{raw, raw-traced, some-combined, chain_first, begun, newest_below, leads_class, gathers_on, up_chain, first_is, delta_class, between_tells, values_tell}

-- a session is entered at an epoch
at_epoch : (o : Option (Option ℕ)) → is_some (option_flatten o) ≡ true → (e : ℕ) × (o ≡ Some (Some e))
at_epoch None h = absurd (cc)
at_epoch (Some None) h = absurd (cc)
at_epoch (Some (Some e)) h = (e, refl)

-- where a session reads in memory
pub low_head : (begin : ℕ) (view : View) → view.head ≤ low_of begin view
low_head begin view = by_begin (nat_le begin view.head) refl
  where
    by_begin : (b : Bool) → nat_le begin view.head ≡ b → view.head ≤ cond b view.head begin
    by_begin true h = omega arith
    by_begin false h = grind (arith, nat_tests)

pub low_begin : (begin : ℕ) (view : View) → begin ≤ low_of begin view
low_begin begin view = by_begin (nat_le begin view.head) refl
  where
    by_begin : (b : Bool) → nat_le begin view.head ≡ b → begin ≤ cond b view.head begin
    by_begin true h = grind (arith, nat_tests)
    by_begin false h = omega arith

-- below it, and not below Begin, is below Head by the view
pub low_under : (begin : ℕ) (view : View) (b : ℕ) → b < low_of begin view → begin ≤ b → b < view.head
low_under begin view b = by_begin (nat_le begin view.head) refl
  where
    by_begin : (c : Bool) → nat_le begin view.head ≡ c → b < cond c view.head begin → begin ≤ b → b < view.head
    by_begin true h under high = under
    by_begin false h under high = absurd (omega arith)

module _ {K V : Type 0} {keeps : Bool} (cmp : K → K → Ordering) (join : V → V → V) (code : K → ℕ) (v : RecordsView K V) (k : K) (order : IsKeyOrder cmp) (t : IsTraced keeps code v) (s : IsResolved cmp join v) where
  traced : IsTraced keeps code (raw v)
  traced = raw-traced cmp join v s.is t

  -- what a look-up comes to
  pub tells : (low : ℕ) → v.log.from ≤ low → (a : ℕ) → entry_of v (class_in code v k) ≡ Some a → ComesTo cmp join code v k low a None (looked_up cmp join code v low k a)
  tells low up a entry =
      gathers_on cmp code v k order traced join low up a (falling_from code v low k) (up_chain cmp code v k order traced low up a entry) (leads_class cmp code v k order traced a entry) None

  -- and what its first record says of that
  pub first_tells : (low : ℕ) → v.log.from ≤ low → (a : ℕ) → entry_of v (class_in code v k) ≡ Some a → StartsAt (newest_above cmp code v low k a) (looked_up cmp join code v low k a)
  first_tells low up a entry =
      subst (λ p. StartsAt p (looked_up cmp join code v low k a)) (sym (first_is cmp code v k order traced low a))
      (chain_first cmp join k low v.log.text s.valued a (falling_from code v low k) (up_chain cmp code v k order traced low up a entry))

  -- ---- how it goes on
  -- where parts were met, it has some in the end
  goes-some : (low a : ℕ) (parts : Option V) (r : ChainResult K V) → ComesTo cmp join code v k low a parts r → IsSome parts → IsSome r.parts
  goes-some low a parts r (found is stands high whole) some = some
  goes-some low a parts r (below less is class) some = some
  goes-some low a parts r (joins {d = d} is high delta rest) some = goes-some low d.previous (combined join d.value parts) r rest (some-combined cmp join k d.value parts some)

  -- with no parts in the end, it is the newest record of the key that it came to, or none above
  abbrev IsAlone : ℕ → ℕ → ChainPosition K V → Type 0
  IsAlone low a (Found e) = (newest cmp v.log.text k a ≡ Some e) × (e.delta ≡ false)
  IsAlone low a (Below b) = newest cmp v.log.text k a ≡ newest cmp v.log.text k b

  alone : (low a : ℕ) (r : ChainResult K V) → ComesTo cmp join code v k low a None r → r.parts ≡ None → (p : ChainPosition K V) → r.position ≡ p → IsAlone low a p
  alone low a r (found {e = e} is stands high whole) none p at = subst (IsAlone low a) at (is, whole)
  alone low a r (below {b = b} less is class) none p at = subst (IsAlone low a) at is
  alone low a r (joins {d = d} is high delta rest) none p at = absurd (
      let m = (delta_class cmp code v k order traced a d is).0 in
      let part = some-combined-none d.value (s.valued m.place d m.here delta) in
      let some = goes-some low d.previous (combined join d.value None) r rest part in
      let no : IsSome {T = V} None = rw none at some in
      cc)
    where
      some-combined-none : (o : Option V) → IsSome o → IsSome (combined join o None)
      some-combined-none o h = subst IsSome (sym (combined-none join o)) h

  -- with parts, the newest is a delta
  joined : (low a : ℕ) (r : ChainResult K V) → ComesTo cmp join code v k low a None r → (p : V) → r.parts ≡ Some p → (d : Entry K V) × (newest cmp v.log.text k a ≡ Some d) × (d.delta ≡ true)
  joined low a r (found is stands high whole) p some = absurd (cc)
  joined low a r (below less is class) p some = absurd (cc)
  joined low a r (joins {d = d} is high delta rest) p some = (d, is, delta)

  -- where it leads below, a record of the class stands
  pub record IsBelowAt (low b : ℕ) : Type 0 where
    pub under : b < low
    pub class : v.log.from ≤ b → IsOfClass code v k b

  below_at : (low a : ℕ) (parts : Option V) (r : ChainResult K V) → ComesTo cmp join code v k low a parts r → (b : ℕ) → r.position ≡ Below b → IsBelowAt low b
  below_at low a parts r (found is stands high whole) b same = absurd (cc)
  below_at low a parts r (below {b = d} under is class) b same =
      let one : d ≡ b = cc in
      subst (IsBelowAt low) one (record { under = under; class = class })
  below_at low a parts r (joins {d = d} is high delta rest) b same = below_at low d.previous (combined join d.value parts) r rest b same

  -- ---- the last record of the key
  -- what the key has
  pub value_tells : (low : ℕ) → v.log.from ≤ low → (a : ℕ) → entry_of v (class_in code v k) ≡ Some a
      → value_of (last_of cmp v.text k) ≡ combined join (end_of cmp v k (looked_up cmp join code v low k a).position) (looked_up cmp join code v low k a).parts
  value_tells low up a entry =
      ap value_of (sym (traced-held cmp code v k order t a entry))
      ∙ sym (combined-none join (value_of (newest cmp v.text k a)))
      ∙ values_tell cmp join code v k order t s low a None (looked_up cmp join code v low k a) (tells low up a entry)

  -- it is the newest below the entry, with what the key has then
  last_stands : (a : ℕ) → entry_of v (class_in code v k) ≡ Some a → (o : Option (Entry K V)) → newest cmp v.log.text k a ≡ o → last_of cmp v.text k ≡ option_map (with_other_value (value_of (last_of cmp v.text k))) o
  last_stands a entry o is =
      let p = λ (e : Entry K V). nat_le e.address a && has_key cmp k e in
      let held = traced-held cmp code v k order t a entry in
      let there : newest cmp v.text k a ≡ option_map (with_other_value (value_of (newest cmp v.text k a))) (newest cmp v.log.text k a) =
      subst (λ (es : List (Entry K V)). newest cmp es k a ≡ option_map (with_other_value (value_of (newest cmp es k a))) (newest cmp v.log.text k a)) (sym s.is) (resolved-last cmp join v.log.text p (λ e w. refl)) in
      subst (λ (l : Option (Entry K V)). l ≡ option_map (with_other_value (value_of l)) o) held (there ∙ ap (option_map (with_other_value (value_of (newest cmp v.text k a)))) is)

  pub record IsFoundAt (e : Entry K V) : Type 0 where
    pub last : last_of cmp v.text k ≡ Some e
    pub stands : entry_at v.text e.address ≡ Some e
    pub whole : e.delta ≡ false

  -- where it is no delta it stands so in the text
  found_at : (low a : ℕ) (r : ChainResult K V) → ComesTo cmp join code v k low a None r → entry_of v (class_in code v k) ≡ Some a → r.parts ≡ None → (e : Entry K V) → r.position ≡ Found e → IsFoundAt e
  found_at low a r g entry none e at =
      let p = λ (x : Entry K V). nat_le x.address a && has_key cmp k x in
      let one = alone low a r g none (Found e) at in
      let held = traced-held cmp code v k order t a entry in
      let value : value_of (newest cmp v.text k a) ≡ e.value =
      ap (λ (es : List (Entry K V)). value_of (newest cmp es k a)) s.is ∙ whole-last join cmp v.log.text p (λ x w. refl) e one.0 one.1 in
      let last : last_of cmp v.text k ≡ Some e = last_stands a entry (Some e) one.0 ∙ ap (λ u. Some (with_other_value u e)) (ap value_of (sym held) ∙ value) in
      record { last = last; stands = entry_at-in v.text t.rising e (last_where-in (has_key cmp k) v.text e last) e.address refl; whole = one.1 }

  -- none stands where the look-up came below Begin
  none_at : (low a : ℕ) (r : ChainResult K V) → ComesTo cmp join code v k low a None r → entry_of v (class_in code v k) ≡ Some a → r.parts ≡ None → (b : ℕ) → r.position ≡ Below b → b < v.log.begin → last_of cmp v.text k ≡ None
  none_at low a r g entry none b at under =
      let one = alone low a r g none (Below b) at in
      let from = from_first t in
      last_stands a entry None (one ∙ newest_below cmp code (raw v) k order traced b (omega arith))

  -- a delta is still
  still_delta : (low a : ℕ) (r : ChainResult K V) → ComesTo cmp join code v k low a None r → entry_of v (class_in code v k) ≡ Some a → (p : V) → r.parts ≡ Some p → (safe : ℕ) → IsStill safe (last_of cmp v.text k)
  still_delta low a r g entry p some safe =
      let d = joined low a r g p some in
      subst (IsStill safe) (sym (last_stands a entry (Some d.0) d.1)) (inr (inl d.2))

  -- and so is what stands below an address that is frozen
  still_below : (low a : ℕ) (r : ChainResult K V) → ComesTo cmp join code v k low a None r → entry_of v (class_in code v k) ≡ Some a → r.parts ≡ None → (b : ℕ) → r.position ≡ Below b → (safe : ℕ) → b < safe
      → IsStill safe (last_of cmp v.text k)
  still_below low a r g entry none b at safe under = by_newest (newest cmp v.log.text k a) refl
    where
      by_newest : (o : Option (Entry K V)) → newest cmp v.log.text k a ≡ o → IsStill safe (last_of cmp v.text k)
      by_newest None is = subst (IsStill safe) (sym (last_stands a entry None is)) tt
      by_newest (Some d) is =
          let one = alone low a r g none (Below b) at in
          let there : d.address ≤ b = (delta_class cmp code v k order traced b d (sym one ∙ is)).2 in
          subst (IsStill safe) (sym (last_stands a entry (Some d) is)) (inr (inr (omega arith)))

  -- all records of the key stand at or below the entry's address
  held_low : (a : ℕ) → entry_of v (class_in code v k) ≡ Some a → (e : Entry K V) → IsIn v.log.text e → has_key cmp k e ≡ true → e.address ≤ a
  held_low a entry e m own = by_newest (newest cmp v.log.text k a) refl
    where
      last : newest cmp v.log.text k a ≡ last_of cmp v.log.text k
      last = traced-held cmp code (raw v) k order traced a entry

      by_newest : (o : Option (Entry K V)) → newest cmp v.log.text k a ≡ o → e.address ≤ a
      by_newest None is = absurd (let no = none-passes (has_key cmp k) v.log.text (sym last ∙ is) m.place e m.here in let bad : true ≡ false = sym own ∙ no in cc)
      by_newest (Some d) is =
          let high = highest (has_key cmp k) v.log.text d traced.rising (sym last ∙ is) m.place e m.here own in
          let low = (delta_class cmp code v k order traced a d is).2 in
          omega arith

  module _ (slot : ℕ) (entered : is_entered v.log.regions.epochs slot ≡ true) where
    pub view : View
    view = view_at v.log.regions.views slot

    agrees : ViewAgrees v.log.regions.offsets (view_at v.log.regions.views slot)
    agrees = let e = at_epoch (slice_get v.log.regions.epochs.slots slot) entered in t.regions.agree.agree.each slot e.0 e.1

    up : v.log.from ≤ low_of v.log.begin (view_at v.log.regions.views slot)
    up =
        let head = low_head v.log.begin (view_at v.log.regions.views slot) in
        let closed = agrees.closed in
        begun v (low_of v.log.begin (view_at v.log.regions.views slot)) t (omega arith) (low_begin v.log.begin (view_at v.log.regions.views slot))

    -- what is met says what the key holds
    pub held-at : IsHeld (met_at cmp join code v (view_at v.log.regions.views slot) k) (value_of (last_of cmp v.text k))
    held-at = by_entry (entry_of v (class_in code v k)) refl
      where
        by_entry : (o : Option ℕ) → entry_of v (class_in code v k) ≡ o → IsHeld (met_from cmp join code v (view_at v.log.regions.views slot) k o) (value_of (last_of cmp v.text k))
        by_entry None entry = ap value_of (traced-none cmp code v k order t entry)
        by_entry (Some a) entry =
            let low = low_of v.log.begin (view_at v.log.regions.views slot) in
            let r = looked_up cmp join code v low k a in
            let has = value_tells low up a entry in
            held-met join v.log.begin (view_at v.log.regions.views slot) (Some a) r (value_of (last_of cmp v.text k)) (λ none. absurd (cc))
            (λ e is. has ∙ ap (λ (p : ChainPosition K V). combined join (end_of cmp v k p) r.parts) is)
            (λ b is under.
            let from = from_first t in
            has ∙ ap (λ (p : ChainPosition K V). combined join (end_of cmp v k p) r.parts) is ∙ ap (λ (o : Option (Entry K V)). combined join (value_of o) r.parts) (newest_below cmp code v k order t b (omega arith)))

    -- a value is met in the region of the key's last record
    met-in : (o : Option ℕ) → entry_of v (class_in code v k) ≡ o → (m : LookupResult V) → met_from cmp join code v (view_at v.log.regions.views slot) k o ≡ m → (w : V) (g : Region)
        → ((a : ℕ) (r : ChainResult K V) → met_by join (Some a) v.log.begin (view_at v.log.regions.views slot) r ≡ m → IsMetIn join v.log.begin (view_at v.log.regions.views slot) r w g)
        → (NoEntry ≡ m → ⊥)
        → IsMetAt cmp join code v (view_at v.log.regions.views slot) k w g
    met-in None entry m is w g there none = absurd (none is)
    met-in (Some a) entry m is w g there none =
        let low = low_of v.log.begin (view_at v.log.regions.views slot) in
        let r = looked_up cmp join code v low k a in
        let i = there a r is in
        let f = found_at low a r (tells low up a entry) entry i.parts i.entry i.is in
        let whole : r ≡ record { parts = None; position = Found i.entry } = λ j. record { parts = i.parts j; position = i.is j } in
        record { entry = i.entry; address = a; leads = entry; reached = whole; last = f.last; stands = f.stands; whole = f.whole; value = i.value; region = i.region }

    pub mutable-at : (w : V) → met_at cmp join code v (view_at v.log.regions.views slot) k ≡ Mutable w → IsMetAt cmp join code v (view_at v.log.regions.views slot) k w region.Mutable
    mutable-at w is = met-in (entry_of v (class_in code v k)) refl (Mutable w) is w region.Mutable (λ a r h. mutable-met join v.log.begin (view_at v.log.regions.views slot) (Some a) r w h) (λ h. cc)

    pub fuzzy-at : (w : V) → met_at cmp join code v (view_at v.log.regions.views slot) k ≡ Fuzzy w → IsMetAt cmp join code v (view_at v.log.regions.views slot) k w region.Fuzzy
    fuzzy-at w is = met-in (entry_of v (class_in code v k)) refl (Fuzzy w) is w region.Fuzzy (λ a r h. fuzzy-met join v.log.begin (view_at v.log.regions.views slot) (Some a) r w h) (λ h. cc)

    -- what lies on disk
    pub disk-at : (b : ℕ) (parts : Option V) → met_at cmp join code v (view_at v.log.regions.views slot) k ≡ OnDisk b parts → IsWanted cmp join code v k b parts
    disk-at b parts is = by_entry (entry_of v (class_in code v k)) refl is
      where
        by_entry : (o : Option ℕ) → entry_of v (class_in code v k) ≡ o → met_from cmp join code v (view_at v.log.regions.views slot) k o ≡ OnDisk b parts → IsWanted cmp join code v k b parts
        by_entry None entry is = absurd (cc)
        by_entry (Some a) entry is =
            let low = low_of v.log.begin (view_at v.log.regions.views slot) in
            let r = looked_up cmp join code v low k a in
            let g = tells low up a entry in
            let d = disk-met join v.log.begin (view_at v.log.regions.views slot) (Some a) r b parts is in
            let w = below_at low a None r g b d.is in
            let under = low_under v.log.begin (view_at v.log.regions.views slot) b w.under d.high in
            let head = agrees.head in
            let safe = t.regions.agree.in_order.head in
            record {
              begun = d.high;
              low = omega arith;
              newest = value_tells low up a entry ∙ ap (λ (p : ChainPosition K V). combined join (end_of cmp v k p) r.parts) d.is ∙ ap (combined join (value_of (newest cmp v.text k b))) d.parts;
              between = λ e m own above. between_tells cmp code v k order traced join low a None r g e m own (held_low a entry e m own) (subst (λ (p : ChainPosition K V). at_of p < e.address) (sym d.is) above);
              still = by_parts r g entry d.is r.parts refl v.log.regions.offsets.safe_read_only (omega arith);
              class = w.class;
              entry = rw entry refl;
            }
          where
            by_parts : (r : ChainResult K V) → ComesTo cmp join code v k (low_of v.log.begin (view_at v.log.regions.views slot)) a None r → entry_of v (class_in code v k) ≡ Some a → r.position ≡ Below b
                → (o : Option V) → r.parts ≡ o → (safe : ℕ) → b < safe → IsStill safe (last_of cmp v.text k)
            by_parts r g entry at None none safe under = still_below (low_of v.log.begin (view_at v.log.regions.views slot)) a r g entry none b at safe under
            by_parts r g entry at (Some p) some safe under = still_delta (low_of v.log.begin (view_at v.log.regions.views slot)) a r g entry p some safe

    -- the source of an update that asks for its new value is still
    pub still-at : (by_region : IsByRegion) → (met_at cmp join code v (view_at v.log.regions.views slot) k ≡ NoValue) ⊎ ((w : V) × (met_at cmp join code v (view_at v.log.regions.views slot) k ≡ ReadOnly w))
        → IsStill v.log.regions.offsets.safe_read_only (last_of cmp v.text k)
    still-at by_region is = by_entry (entry_of v (class_in code v k)) refl is
      where
        still-found : (e : Entry K V) → last_of cmp v.text k ≡ Some e → (e.value ≡ None) ⊎ (e.delta ≡ true) ⊎ (e.address < v.log.regions.offsets.safe_read_only) → IsStill v.log.regions.offsets.safe_read_only (last_of cmp v.text k)
        still-found e last h = rw last h

        by_entry : (o : Option ℕ) → entry_of v (class_in code v k) ≡ o
            → (met_from cmp join code v (view_at v.log.regions.views slot) k o ≡ NoValue) ⊎ ((w : V) × (met_from cmp join code v (view_at v.log.regions.views slot) k o ≡ ReadOnly w))
            → IsStill v.log.regions.offsets.safe_read_only (last_of cmp v.text k)
        by_entry None entry is = rw (traced-none cmp code v k order t entry) tt
        by_entry (Some a) entry (inl none) =
            let low = low_of v.log.begin (view_at v.log.regions.views slot) in
            let r = looked_up cmp join code v low k a in
            let g = tells low up a entry in
            let absent = absent-met join v.log.begin (view_at v.log.regions.views slot) (Some a) r none in
            elim absent.1 [
              | inl dead ↦ (let f = found_at low a r g entry absent.0 dead.0 dead.1 in still-found dead.0 f.last (inl dead.2))
              | inr ended ↦ rw (none_at low a r g entry absent.0 ended.0 ended.1 ended.2) tt
            ]
        by_entry (Some a) entry (inr value) =
            let low = low_of v.log.begin (view_at v.log.regions.views slot) in
            let r = looked_up cmp join code v low k a in
            let g = tells low up a entry in
            elim (frozen-met join v.log.begin (view_at v.log.regions.views slot) (Some a) r value.0 value.1) [
              | inl m ↦
                  (let i = m.2 in
                  let f = found_at low a r g entry i.parts i.entry i.is in
                  let e = at_epoch (slice_get v.log.regions.epochs.slots slot) entered in
                  let frozen = by_region.frozen v.log.regions slot e.0 i.entry.address t.regions.agree e.1 (elim m.1 [ inl g ↦ inl (i.region ∙ g) | inr g ↦ inr (i.region ∙ g) ]) in
                  still-found i.entry f.last (inr (inr frozen)))
              | inr j ↦ still_delta low a r g entry j.part j.parts v.log.regions.offsets.safe_read_only
            ]

-- what is mutable by a session's view is not frozen
pub unfrozen-at : {K V : Type 0} {keeps : Bool} {code : K → ℕ} (by_region : IsByRegion) (v : RecordsView K V) (slot : ℕ) → IsTraced keeps code v → is_entered v.log.regions.epochs slot ≡ true
    → (a : ℕ) → region_of (view_at v.log.regions.views slot) a ≡ region.Mutable → v.log.regions.offsets.safe_read_only ≤ a
unfrozen-at by_region v slot t entered a is = let e = at_epoch (slice_get v.log.regions.epochs.slots slot) entered in by_region.mutable v.log.regions slot e.0 a t.regions.agree e.1 is
