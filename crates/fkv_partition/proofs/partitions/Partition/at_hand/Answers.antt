use Rattle.std.proofs.Common.{◌≡◌, ◌≤◌, ◌↔◌, ℕ, Bool, IsTrue, true, false, Some, None, sym, ap, ◌∙◌}
use Rattle.std.specs.declared.cmp.Ordering.{Ordering}
use Rattle.fkv_functions.specs.Plain.{IsKeyOrder}
use Rattle.fkv_functions.proofs.KeyOrder.{key_order}
use Rattle.fkv_regions.specs.Offsets.{region_of}
use Rattle.fkv_regions.specs.declared.offsets.View.{View}
use Rattle.fkv_regions.specs.declared.offsets.Region.TheVariants as region
use Rattle.fkv_texts.specs.declared.entries.Entry.{Entry}
use Rattle.fkv_texts.specs.declared.entries.ChainPosition.{ChainPosition}
use Rattle.fkv_texts.specs.declared.entries.ChainPosition.TheVariants.{Found, Below}
use Rattle.fkv_lookups.specs.Decisions.{low_of}
use Rattle.fkv_lookups.specs.Lookups.{newest_above, looked_up, StartsAt}
use Rattle.fkv_lookups.specs.RecordsViews.{RecordsView, class_in, entry_of}
use Rattle.fkv_lookups.specs.Traced.{IsTraced, IsResolved}
use Rattle.fkv_lookups.specs.declared.decisions.LookupResult.TheVariants.{Mutable}
use Rattle.fkv_partition.specs.Contexts.{is_session}
use Rattle.fkv_partition.specs.KeySound.{IsSound}
use Rattle.fkv_partition.specs.Views.{PartitionView, entry_for, newest_in_memory, met_at, seen_at, slots_of}
use Rattle.fkv_partition.proofs.DecidedLemmas.{seen-begun, found-same, mutable-first, met-first, IsAtFirst}
use Rattle.fkv_partition.proofs.partitions.Partition.at_hand.Goals as goal

some-none : {A : Type 0} (x : A) → Some x ≡ None → ⊥
some-none x h = cc

-- what is met as mutable is the record that is read first
module _ {K V I : Type 0} {keeps : Bool} (cmp : K → K → Ordering) (join : V → V → V) (code : K → ℕ) (v : PartitionView K V I) (slot : ℕ) (k : K) (first : ChainPosition K V) (order : IsKeyOrder cmp) (s : IsSound keeps cmp join code v) (entered : is_session (slots_of v) slot ≡ true) (read : first ≡ newest_in_memory cmp code v slot k (entry_for code v k))
    (firsts : (keeps : Bool) (cmp : K → K → Ordering) (join : V → V → V) (code : K → ℕ) (v : RecordsView K V) (k : K) (low a : ℕ) → IsKeyOrder cmp → IsTraced keeps code v → IsResolved cmp join v → entry_of v (class_in code v k) ≡ Some a → v.log.from ≤ low → StartsAt (newest_above cmp code v low k a) (looked_up cmp join code v low k a)) where
  tells-here : (a : ℕ) → entry_for code v k ≡ Some a → StartsAt (newest_above cmp code v.records (low_of v.records.log.begin (seen_at v slot)) k a) (looked_up cmp join code v.records (low_of v.records.log.begin (seen_at v slot)) k a)
  tells-here a entry = firsts keeps cmp join code v.records k (low_of v.records.log.begin (seen_at v slot)) a order s.traced s.resolved entry (seen-begun v slot s.traced entered)

  none-below : (b : ℕ) → first ≡ Below b → (held : V) → met_at cmp join code v slot k ≡ Mutable held → ⊥
  none-below b is held met =
      let m = met-first cmp join code v slot k tells-here held met in
      let no : Below b ≡ Found m.entry = sym is ∙ read ∙ m.is in
      cc

  module _ (last : Entry K V) (found : first ≡ Found last) where
    same-first : (held : V) (m : IsAtFirst cmp join code v slot k tells-here held) → last ≡ m.entry
    same-first held m = found-same last m.entry (sym found ∙ read ∙ m.is)

    none-delta : last.delta ≡ true → (held : V) → met_at cmp join code v slot k ≡ Mutable held → ⊥
    none-delta delta held met =
        let m = met-first cmp join code v slot k tells-here held met in
        let no : true ≡ false = sym delta ∙ ap (λ (e : Entry K V). e.delta) (same-first held m) ∙ m.whole in
        cc

    none-value : last.value ≡ None → (held : V) → met_at cmp join code v slot k ≡ Mutable held → ⊥
    none-value value held met =
        let m = met-first cmp join code v slot k tells-here held met in
        some-none held (sym m.value ∙ ap (λ (e : Entry K V). e.value) (sym (same-first held m)) ∙ value)

    module _ (view : View) (seen : view ≡ seen_at v slot) (b : Bool) (mutable : IsTrue b ↔ (region_of view last.address ≡ region.Mutable)) where
      none-mutable : b ≡ false → (held : V) → met_at cmp join code v slot k ≡ Mutable held → ⊥
      none-mutable not held met =
          let m = met-first cmp join code v slot k tells-here held met in
          let there = mutable.1 (ap (λ w. region_of w last.address) seen ∙ ap (λ (e : Entry K V). region_of (seen_at v slot) e.address) (same-first held m) ∙ m.region) in
          let no : false ≡ true = sym not ∙ there in
          cc

      is-mutable : b ≡ true → last.delta ≡ false → (held : V) → last.value ≡ Some held → met_at cmp join code v slot k ≡ Mutable held
      is-mutable here whole held value = mutable-first cmp join code v slot k tells-here last held (sym read ∙ found) whole value (ap (λ w. region_of w last.address) (sym seen) ∙ mutable.0 here)

pub newest_in_memory-requires-clause-entry : goal.newest_in_memory-requires-clause-entry
newest_in_memory-requires-clause-entry g c = c.entry_address-entry.ensures

pub returns-in_default-clause-none : goal.returns-in_default-clause-none
returns-in_default-clause-none g c = λ none.
    let ord = g.met.F.Key.Ord in
    let facts = g.met.F.Key.FixedKey in
    let order = key_order g.F.Key.PartialEq.eq g.F.Key.Ord.cmp ord.matches_eq facts.exact ord.total in
    none-below g.F.Key.Ord.cmp g.F.Mergeable.parts.joined g.F.Functions.code c.args.self.now c.args.slot c.args.key.now c.newest_in_memory.result order c.facts.ensures.sound c.requires c.newest_in_memory.ensures c.lookups_tell.ensures.first _ c.in_default.is

pub returns-then-last-clause-none : goal.returns-then-last-clause-none
returns-then-last-clause-none g c = λ none.
    let ord = g.met.F.Key.Ord in
    let facts = g.met.F.Key.FixedKey in
    let order = key_order g.F.Key.PartialEq.eq g.F.Key.Ord.cmp ord.matches_eq facts.exact ord.total in
    none-delta g.F.Key.Ord.cmp g.F.Mergeable.parts.joined g.F.Functions.code c.args.self.now c.args.slot c.args.key.now c.newest_in_memory.result order c.facts.ensures.sound c.requires c.newest_in_memory.ensures c.lookups_tell.ensures.first c.in-Found.last c.in-Found.is c.if-last.true

pub returns-in_default-value-clause-none : goal.returns-in_default-value-clause-none
returns-in_default-value-clause-none g c = λ none.
    let ord = g.met.F.Key.Ord in
    let facts = g.met.F.Key.FixedKey in
    let order = key_order g.F.Key.PartialEq.eq g.F.Key.Ord.cmp ord.matches_eq facts.exact ord.total in
    none-value g.F.Key.Ord.cmp g.F.Mergeable.parts.joined g.F.Functions.code c.args.self.now c.args.slot c.args.key.now c.newest_in_memory.result order c.facts.ensures.sound c.requires c.newest_in_memory.ensures c.lookups_tell.ensures.first c.in-Found.last c.in-Found.is c.in_default-value.is

pub returns-then-not-is_mutable-clause-none : goal.returns-then-not-is_mutable-clause-none
returns-then-not-is_mutable-clause-none g c = λ none.
    let ord = g.met.F.Key.Ord in
    let facts = g.met.F.Key.FixedKey in
    let order = key_order g.F.Key.PartialEq.eq g.F.Key.Ord.cmp ord.matches_eq facts.exact ord.total in
    none-mutable g.F.Key.Ord.cmp g.F.Mergeable.parts.joined g.F.Functions.code c.args.self.now c.args.slot c.args.key.now c.newest_in_memory.result order c.facts.ensures.sound c.requires c.newest_in_memory.ensures c.lookups_tell.ensures.first c.in-Found.last c.in-Found.is
    c.view.result (c.view.ensures.value ∙ ap (λ u. seen_at u c.args.slot) c.self.view_is) c.is_mutable.result c.is_mutable.ensures c.if-not-is_mutable.true

pub returns-clause-first : goal.returns-clause-first
returns-clause-first g c = sym c.newest_in_memory.ensures ∙ c.in-Found.is

pub returns-clause-whole : goal.returns-clause-whole
returns-clause-whole g c = c.if-last.false

pub returns-clause-met : goal.returns-clause-met
returns-clause-met g c =
    let ord = g.met.F.Key.Ord in
    let facts = g.met.F.Key.FixedKey in
    let order = key_order g.F.Key.PartialEq.eq g.F.Key.Ord.cmp ord.matches_eq facts.exact ord.total in
    is-mutable g.F.Key.Ord.cmp g.F.Mergeable.parts.joined g.F.Functions.code c.args.self.now c.args.slot c.args.key.now c.newest_in_memory.result order c.facts.ensures.sound c.requires c.newest_in_memory.ensures c.lookups_tell.ensures.first c.in-Found.last c.in-Found.is
    c.view.result (c.view.ensures.value ∙ ap (λ u. seen_at u c.args.slot) c.self.view_is) c.is_mutable.result c.is_mutable.ensures c.if-not-is_mutable.false c.if-last.false c.in-Some.held c.in-Some.is

pub returns-clause-none : goal.returns-clause-none
returns-clause-none g c = λ some held met. some-none _ some
