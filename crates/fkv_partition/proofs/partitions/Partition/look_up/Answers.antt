use Rattle.std.proofs.Common.{◌≡◌, ◌≤◌, ℕ, Bool, IsTrue, IsSome, true, false, Option, Some, None, option_map, refl, sym, ap, subst, ◌∙◌}
use Rattle.std.specs.Prelude.{IfSome}
use Rattle.std.specs.declared.cmp.Ordering.{Ordering}
use Rattle.std.proofs.Math.Nat.{le_of_lt, le_refl}
use Rattle.fkv_functions.specs.Meanings.{Meanings}
use Rattle.fkv_functions.specs.Plain.{IsKeyOrder}
use Rattle.fkv_functions.proofs.KeyOrder.{key_order}
use Rattle.fkv_epoch.specs.Moves.{is_entered}
use Rattle.fkv_index.specs.Words.{address_of}
use Rattle.fkv_regions.specs.Offsets.{view_at}
use Rattle.fkv_regions.specs.declared.offsets.Region.TheVariants as region
use Rattle.fkv_texts.specs.declared.entries.Entry.{Entry}
use Rattle.fkv_texts.specs.declared.entries.ChainPosition.{ChainPosition}
use Rattle.fkv_texts.specs.declared.entries.ChainPosition.TheVariants.{Found, Below}
use Rattle.fkv_texts.specs.Text.{last_of, entry_at}
use Rattle.fkv_operations.specs.After.{key_of}
use Rattle.fkv_operations.specs.declared.entries.IndexEntry.{IndexEntry}
use Rattle.fkv_operations.specs.declared.operations.KeyedOp.{KeyedOp}
use Rattle.fkv_operations.specs.declared.operations.Answer.{Answer}
use Rattle.fkv_lookups.specs.RecordsViews.{RecordsView, class_in, entry_of, IsEntryOf}
use Rattle.fkv_lookups.specs.Decisions.{low_of, decision}
use Rattle.fkv_lookups.specs.DecisionLaws.{append-entry, prepare-entry, load-met, replace-met}
use Rattle.fkv_lookups.specs.Lookups.{newest_above, looked_up, StartsAt}
use Rattle.fkv_lookups.specs.Meeting as meeting
use Rattle.fkv_lookups.specs.Meeting.{met_from, IsMetAt}
use Rattle.fkv_lookups.specs.Traced.{IsTraced, IsResolved}
use Rattle.fkv_lookups.specs.declared.decisions.Decision.{Decision}
use Rattle.fkv_lookups.specs.declared.decisions.Decision.TheVariants.{Append, Replace, Prepare, Load}
use Rattle.fkv_lookups.specs.declared.decisions.LookupResult.TheVariants.{NoEntry, Mutable}
use Rattle.fkv_lookups.specs.declared.payloads.Payload.{Payload}
use Rattle.fkv_partition.specs.declared.contexts.Context.{Context}
use Rattle.fkv_partition.specs.declared.contexts.Wait.TheVariants.{Fuzzy}
use Rattle.fkv_partition.specs.Contexts.{is_session}
use Rattle.fkv_partition.specs.KeyGoing.{done, claims, unclaimed, waits}
use Rattle.fkv_partition.specs.KeySound.{IsSound}
use Rattle.fkv_partition.specs.Views.{PartitionView, context_at, slots_of, seen_at, entry_for, found_for, newest_in_memory, met_at, partition_of}
use Rattle.fkv_partition.proofs.AskedLemmas.{key_at}
use Rattle.fkv_partition.proofs.DecidedLemmas.{replaced-at, seen-begun, first-met, met-first}
use Rattle.fkv_partition.proofs.EventLemmas.{decides-at, event-quiet, event-claims, event-waits, claims-none, merging-at, own-at}
use Rattle.fkv_partition.proofs.partitions.Partition.look_up.Goals as goal

-- where the class has no entry, nothing is appended, prepared or loaded
module _ {K V I O : Type 0} (cmp : K → K → Ordering) (join : V → V → V) (f : Meanings K V I O) (code : K → ℕ) (v : PartitionView K V I) (slot : ℕ) (op : KeyedOp K V I) (key : K) (o : Option IndexEntry) (own : key ≡ key_of op) (leads : option_map (λ e. address_of e.word) o ≡ entry_for code v key) (none : o ≡ None) (d : Decision V I O) (met : d ≡ decision f op (met_at cmp join code v slot (key_of op))) where
  nothing-met : met_at cmp join code v slot (key_of op) ≡ NoEntry
  nothing-met = ap (met_from cmp join code v.records (seen_at v slot) (key_of op)) (ap (entry_for code v) (sym own) ∙ sym leads ∙ ap (option_map (λ e. address_of e.word)) none)

  decided-none : (e : Decision V I O) → d ≡ e → decision f op NoEntry ≡ e
  decided-none e is = ap (decision f op) (sym nothing-met) ∙ sym met ∙ is

  append-none : (w : Payload V) (a : Answer O) → d ≡ Append w a → ⊥
  append-none w a is =
      let no : IsSome {T = ℕ} None = append-entry f op join None v.records.log.begin (seen_at v slot) (record { parts = None; position = Below 1 }) w a (decided-none (Append w a) is) in
      cc

  prepare-none : (s : Option V) (i : I) → d ≡ Prepare s i → ⊥
  prepare-none s i is =
      let no : IsSome {T = ℕ} None = prepare-entry f op join None v.records.log.begin (seen_at v slot) (record { parts = None; position = Below 1 }) s i (decided-none (Prepare s i) is) in
      cc

  load-none : (b : ℕ) (parts : Option V) → d ≡ Load b parts → ⊥
  load-none b parts is = let no = load-met f op NoEntry b parts (decided-none (Load b parts) is) in cc

-- the entry that was found
found-stands : {K V I : Type 0} (code : K → ℕ) (v : PartitionView K V I) (key : K) (o : Option IndexEntry) (e : IndexEntry) → o ≡ Some e → IfSome o (λ e. IsEntryOf v.records (class_in code v.records key) e) → IsEntryOf v.records (class_in code v.records key) e
found-stands code v key (Some d) e is stands = let same : d ≡ e = cc in subst (IsEntryOf v.records (class_in code v.records key)) same stands
found-stands code v key None e is stands = absurd (cc)

-- what is changed in place is the record that was read first
module _ {K V I O : Type 0} {keeps : Bool} (cmp : K → K → Ordering) (join : V → V → V) (f : Meanings K V I O) (code : K → ℕ) (v : PartitionView K V I) (slot c : ℕ) (x : Context K V I) (key : K) (first : ChainPosition K V) (order : IsKeyOrder cmp) (s : IsSound keeps cmp join code v) (here : context_at v slot c ≡ Some x) (own : key ≡ key_of x.op) (read : first ≡ newest_in_memory cmp code v slot key (entry_for code v key))
    (firsts : (keeps : Bool) (cmp : K → K → Ordering) (join : V → V → V) (code : K → ℕ) (v : RecordsView K V) (k : K) (low a : ℕ) → IsKeyOrder cmp → IsTraced keeps code v → IsResolved cmp join v → entry_of v (class_in code v k) ≡ Some a → v.log.from ≤ low → StartsAt (newest_above cmp code v low k a) (looked_up cmp join code v low k a))
    (value : Option V) (told : Answer O) (d : Decision V I O) (met : d ≡ decision f x.op (met_at cmp join code v slot (key_of x.op))) (is : d ≡ Replace value told) where
  inside-here : is_session (slots_of v) slot ≡ true
  inside-here = (key_at (slots_of v) v.contexts slot c x here).inside

  first-here : first ≡ newest_in_memory cmp code v slot (key_of x.op) (entry_for code v (key_of x.op))
  first-here = read ∙ ap (λ k. newest_in_memory cmp code v slot k (entry_for code v k)) own

  tells-here : (a : ℕ) → entry_for code v (key_of x.op) ≡ Some a → StartsAt (newest_above cmp code v.records (low_of v.records.log.begin (seen_at v slot)) (key_of x.op) a) (looked_up cmp join code v.records (low_of v.records.log.begin (seen_at v slot)) (key_of x.op) a)
  tells-here a entry = firsts keeps cmp join code v.records (key_of x.op) (low_of v.records.log.begin (seen_at v slot)) a order s.traced s.resolved entry (seen-begun v slot s.traced inside-here)

  replace-found : (b : ℕ) → first ≡ Below b → ⊥
  replace-found b below =
      let w = replace-met f x.op (met_at cmp join code v slot (key_of x.op)) value told (sym met ∙ is) in
      let m = met-first cmp join code v slot (key_of x.op) tells-here w.0 w.1 in
      let no : Below b ≡ Found m.entry = sym below ∙ first-here ∙ m.is in
      cc

  module _ (mutables : (keeps : Bool) (cmp : K → K → Ordering) (join : V → V → V) (code : K → ℕ) (v : RecordsView K V) (k : K) (slot : ℕ) (w : V) → IsKeyOrder cmp → IsTraced keeps code v → IsResolved cmp join v → IsTrue (is_entered v.log.regions.epochs slot) → meeting.met_at cmp join code v (view_at v.log.regions.views slot) k ≡ Mutable w → IsMetAt cmp join code v (view_at v.log.regions.views slot) k w region.Mutable)
      (last : Entry K V) (found : first ≡ Found last) where
    mutable-here : (w : V) × IsMetAt cmp join code v.records (seen_at v slot) (key_of x.op) w region.Mutable
    mutable-here = replaced-at cmp join f code v slot x.op value told (λ w. mutables keeps cmp join code v.records (key_of x.op) slot w order s.traced s.resolved inside-here) (sym met ∙ is)

    last-here : last ≡ mutable-here.1.entry
    last-here = first-met cmp join code v slot (key_of x.op) tells-here mutable-here.0 mutable-here.1 last (sym first-here ∙ found)

    record IsReplaced : Type 0 where
      last_is : last_of cmp v.records.text (key_of x.op) ≡ Some last
      stands : entry_at v.records.text last.address ≡ Some last
      whole : last.delta ≡ false

    replace-last : IsReplaced
    replace-last = record { last_is = rw last-here mutable-here.1.last; stands = rw last-here mutable-here.1.stands; whole = rw last-here mutable-here.1.whole }

pub newest_in_memory-first-requires-clause-entered : goal.newest_in_memory-first-requires-clause-entered
newest_in_memory-first-requires-clause-entered g c =
    let v = c.args.self.now in
    (key_at (slots_of v) v.contexts c.args.slot c.args.context c.args.operation.now c.requires.here).inside

pub newest_in_memory-first-requires-clause-entry : goal.newest_in_memory-first-requires-clause-entry
newest_in_memory-first-requires-clause-entry g c = c.address_of-address.ensures ∙ c.find-entry.ensures.address

pub decided-requires-clause-entered : goal.decided-requires-clause-entered
decided-requires-clause-entered g c =
    let v = c.args.self.now in
    (key_at (slots_of v) v.contexts c.args.slot c.args.context c.args.operation.now c.requires.here).inside

pub decided-requires-clause-merging : goal.decided-requires-clause-merging
decided-requires-clause-merging g c =
    let v = c.args.self.now in
    let x = c.args.operation.now in
    c.facts.ensures.sound.merging _ x (key_at (slots_of v) v.contexts c.args.slot c.args.context x c.requires.here).here

pub decided-requires-clause-entry : goal.decided-requires-clause-entry
decided-requires-clause-entry g c =
    c.address_of-address.ensures ∙ c.find-entry.ensures.address ∙ ap (entry_for g.F.Functions.code c.args.self.now) c.key-key.ensures

pub decided-requires-clause-first : goal.decided-requires-clause-first
decided-requires-clause-first g c =
    let v = c.args.self.now in
    c.newest_in_memory-first.ensures ∙ ap (λ k. newest_in_memory g.F.Key.Ord.cmp g.F.Functions.code v c.args.slot k (entry_for g.F.Functions.code v k)) c.key-key.ensures

pub free-requires-clause-unclaimed : goal.free-requires-clause-unclaimed
free-requires-clause-unclaimed g c = claims-none c.args.self.now c.args.slot c.args.context c.args.operation.now c.requires.here c.requires.unclaimed

pub returns-in-Done-clause-effect : goal.returns-in-Done-clause-effect
returns-in-Done-clause-effect g c =
    let x = c.args.operation.now in
    let d = decides-at g.F.Key.Ord.cmp g.F.Mergeable.parts.joined g.F.Functions.meaning g.F.Functions.code _ c.args.slot c.args.context c.args.now x c.requires.here c.facts.ensures.sound c.requires.asks_nothing c.requires.unclaimed c.requires.unloading _ _ c.decided.ensures c.in-Done.is in
    rw c.free.ensures (done x c.in-Done.answer d refl refl)

pub returns-in-Done-clause-event : goal.returns-in-Done-clause-event
returns-in-Done-clause-event g c =
    let ord = g.met.F.Key.Ord in
    let facts = g.met.F.Key.FixedKey in
    let order = key_order g.F.Key.PartialEq.eq g.F.Key.Ord.cmp ord.matches_eq facts.exact ord.total in
    let v = c.args.self.now in
    let x = c.args.operation.now in
    rw c.free.ensures
    (event-quiet g.F.Key.Ord.cmp g.F.Mergeable.parts.joined g.F.Functions.meaning g.F.Functions.code v c.args.slot c.args.context c.args.now x c.requires.here g.F.Mergeable.parts
    (λ m. g.met.F.Mergeable.merges (merging-at v g.F.Mergeable.MERGES c.args.slot c.args.context x c.facts.ensures.sound (sym c.merges-merges.ensures.functions ∙ c.merges-merges.ensures.value) c.requires.here m)) order
    (c.meetings_tell.ensures.held g.R.Receipt.keeps g.F.Key.Ord.cmp g.F.Mergeable.parts.joined g.F.Functions.code v.records (key_of x.op) c.args.slot order c.facts.ensures.sound.traced c.facts.ensures.sound.resolved (key_at (slots_of v) v.contexts c.args.slot c.args.context x c.requires.here).inside) c.in-Done.answer (sym c.decided.ensures ∙ c.in-Done.is))

pub claim-requires-clause-range : goal.claim-requires-clause-range
claim-requires-clause-range g c = c.find-entry.ensures.range

pub claim-requires-clause-class : goal.claim-requires-clause-class
claim-requires-clause-class g c = c.find-entry.ensures.class ∙ ap (class_in g.F.Functions.code c.args.self.now.records) c.key-key.ensures

pub returns-in_default-clause-effect : goal.returns-in_default-clause-effect
returns-in_default-clause-effect g c =
    let x = c.args.operation.now in
    let d = decides-at g.F.Key.Ord.cmp g.F.Mergeable.parts.joined g.F.Functions.meaning g.F.Functions.code _ c.args.slot c.args.context c.args.now x c.requires.here c.facts.ensures.sound c.requires.asks_nothing c.requires.unclaimed c.requires.unloading _ _ c.decided.ensures c.in-Claim.is in
    rw c.in_default.ensures.unchanged (unclaimed x d (rw (c.find-entry.ensures.class, c.key-key.ensures) at c.in_default.ensures.full) refl refl)

pub returns-in_default-clause-unchanged : goal.returns-in_default-clause-unchanged
returns-in_default-clause-unchanged g c = c.in_default.ensures.unchanged

pub returns-in_default-clause-moment : goal.returns-in_default-clause-moment
returns-in_default-clause-moment g c = rw c.in_default.ensures.unchanged (le_of_lt c.requires.later)

pub returns-in-Ok-clause-effect : goal.returns-in-Ok-clause-effect
returns-in-Ok-clause-effect g c =
    let x = c.args.operation.now in
    let d = decides-at g.F.Key.Ord.cmp g.F.Mergeable.parts.joined g.F.Functions.meaning g.F.Functions.code _ c.args.slot c.args.context c.args.now x c.requires.here c.facts.ensures.sound c.requires.asks_nothing c.requires.unclaimed c.requires.unloading _ _ c.decided.ensures c.in-Claim.is in
    claims x d c.in-Ok.ensures.ok refl

pub returns-in-Ok-clause-event : goal.returns-in-Ok-clause-event
returns-in-Ok-clause-event g c =
    event-claims g.F.Key.Ord.cmp g.F.Mergeable.parts.joined g.F.Functions.meaning g.F.Functions.code c.args.self.now c.args.slot c.args.context c.args.now c.args.operation.now c.requires.here _ c.in-Ok.ensures.ok

pub unreachable-requires : goal.unreachable-requires
unreachable-requires g c =
    append-none g.F.Key.Ord.cmp g.F.Mergeable.parts.joined g.F.Functions.meaning g.F.Functions.code c.args.self.now c.args.slot c.args.operation.now.op c.key-key.result c.find-entry.result.1 c.key-key.ensures c.find-entry.ensures.address c.in_default-entry.is c.decided.result c.decided.ensures c.in-Append.payload c.in-Append.answer c.in-Append.is

pub write-requires-clause-write : goal.write-requires-clause-write
write-requires-clause-write g c =
    let v = c.args.self.now in
    record {
      own = ap (λ k. partition_of v.count (g.F.Functions.code k)) c.key-key.ensures ∙ own-at g.F.Key.Ord.cmp g.F.Mergeable.parts.joined g.F.Functions.code v c.facts.ensures.sound c.args.slot c.args.context c.args.operation.now c.requires.here;
      entry = found-stands g.F.Functions.code v c.key-key.result c.find-entry.result.1 c.in-Some.entry c.in-Some.is c.find-entry.ensures.stands;
    }

pub write-requires-clause-entry : goal.write-requires-clause-entry
write-requires-clause-entry g c = sym c.find-entry.ensures.entry ∙ c.in-Some.is

pub write-requires-clause-decided : goal.write-requires-clause-decided
write-requires-clause-decided g c =
    let x = c.args.operation.now in
    record {
      operation = x;
      key_is = sym c.key-key.ensures;
      decides = decides-at g.F.Key.Ord.cmp g.F.Mergeable.parts.joined g.F.Functions.meaning g.F.Functions.code _ c.args.slot c.args.context c.args.now x c.requires.here c.facts.ensures.sound c.requires.asks_nothing c.requires.unclaimed c.requires.unloading _ _ c.decided.ensures c.in-Append.is;
    }

pub returns-in-Some-clause-effect : goal.returns-in-Some-clause-effect
returns-in-Some-clause-effect g c = c.write.ensures.effect

pub returns-in-Some-clause-event : goal.returns-in-Some-clause-event
returns-in-Some-clause-event g c = c.write.ensures.event

pub returns-in-Some-clause-unchanged : goal.returns-in-Some-clause-unchanged
returns-in-Some-clause-unchanged g c = c.write.ensures.unchanged

pub returns-in-Some-clause-moment : goal.returns-in-Some-clause-moment
returns-in-Some-clause-moment g c = c.write.ensures.moment

pub unreachable-requires-in_default-first : goal.unreachable-requires-in_default-first
unreachable-requires-in_default-first g c =
    let ord = g.met.F.Key.Ord in
    let facts = g.met.F.Key.FixedKey in
    let order = key_order g.F.Key.PartialEq.eq g.F.Key.Ord.cmp ord.matches_eq facts.exact ord.total in
    replace-found g.F.Key.Ord.cmp g.F.Mergeable.parts.joined g.F.Functions.meaning g.F.Functions.code c.args.self.now c.args.slot c.args.context c.args.operation.now c.key-key.result c.newest_in_memory-first.result order c.facts.ensures.sound c.requires.here c.key-key.ensures c.newest_in_memory-first.ensures c.lookups_tell.ensures.first c.in-Replace.value c.in-Replace.answer c.decided.result c.decided.ensures c.in-Replace.is c.in_default-first.field-0 c.in_default-first.is

pub rewrite-requires-clause-decided : goal.rewrite-requires-clause-decided
rewrite-requires-clause-decided g c =
    let x = c.args.operation.now in
    decides-at g.F.Key.Ord.cmp g.F.Mergeable.parts.joined g.F.Functions.meaning g.F.Functions.code _ c.args.slot c.args.context c.args.now x c.requires.here c.facts.ensures.sound c.requires.asks_nothing c.requires.unclaimed c.requires.unloading _ _ c.decided.ensures c.in-Replace.is

pub rewrite-requires-clause-last : goal.rewrite-requires-clause-last
rewrite-requires-clause-last g c =
    let ord = g.met.F.Key.Ord in
    let facts = g.met.F.Key.FixedKey in
    let order = key_order g.F.Key.PartialEq.eq g.F.Key.Ord.cmp ord.matches_eq facts.exact ord.total in
    (replace-last g.F.Key.Ord.cmp g.F.Mergeable.parts.joined g.F.Functions.meaning g.F.Functions.code c.args.self.now c.args.slot c.args.context c.args.operation.now c.key-key.result c.newest_in_memory-first.result order c.facts.ensures.sound c.requires.here c.key-key.ensures c.newest_in_memory-first.ensures c.lookups_tell.ensures.first c.in-Replace.value c.in-Replace.answer c.decided.result c.decided.ensures c.in-Replace.is c.meetings_tell.ensures.mutable c.in-Found.last c.in-Found.is).last_is

pub rewrite-requires-clause-stands : goal.rewrite-requires-clause-stands
rewrite-requires-clause-stands g c =
    let ord = g.met.F.Key.Ord in
    let facts = g.met.F.Key.FixedKey in
    let order = key_order g.F.Key.PartialEq.eq g.F.Key.Ord.cmp ord.matches_eq facts.exact ord.total in
    (replace-last g.F.Key.Ord.cmp g.F.Mergeable.parts.joined g.F.Functions.meaning g.F.Functions.code c.args.self.now c.args.slot c.args.context c.args.operation.now c.key-key.result c.newest_in_memory-first.result order c.facts.ensures.sound c.requires.here c.key-key.ensures c.newest_in_memory-first.ensures c.lookups_tell.ensures.first c.in-Replace.value c.in-Replace.answer c.decided.result c.decided.ensures c.in-Replace.is c.meetings_tell.ensures.mutable c.in-Found.last c.in-Found.is).stands

pub rewrite-requires-clause-whole : goal.rewrite-requires-clause-whole
rewrite-requires-clause-whole g c =
    let ord = g.met.F.Key.Ord in
    let facts = g.met.F.Key.FixedKey in
    let order = key_order g.F.Key.PartialEq.eq g.F.Key.Ord.cmp ord.matches_eq facts.exact ord.total in
    (replace-last g.F.Key.Ord.cmp g.F.Mergeable.parts.joined g.F.Functions.meaning g.F.Functions.code c.args.self.now c.args.slot c.args.context c.args.operation.now c.key-key.result c.newest_in_memory-first.result order c.facts.ensures.sound c.requires.here c.key-key.ensures c.newest_in_memory-first.ensures c.lookups_tell.ensures.first c.in-Replace.value c.in-Replace.answer c.decided.result c.decided.ensures c.in-Replace.is c.meetings_tell.ensures.mutable c.in-Found.last c.in-Found.is).whole

pub returns-in-Found-clause-effect : goal.returns-in-Found-clause-effect
returns-in-Found-clause-effect g c = c.rewrite.ensures.effect

pub returns-in-Found-clause-event : goal.returns-in-Found-clause-event
returns-in-Found-clause-event g c = c.rewrite.ensures.event

pub returns-in-Found-clause-moment : goal.returns-in-Found-clause-moment
returns-in-Found-clause-moment g c = c.rewrite.ensures.moment

pub returns-in-Wait-clause-effect : goal.returns-in-Wait-clause-effect
returns-in-Wait-clause-effect g c =
    let x = c.args.operation.now in
    let d = decides-at g.F.Key.Ord.cmp g.F.Mergeable.parts.joined g.F.Functions.meaning g.F.Functions.code _ c.args.slot c.args.context c.args.now x c.requires.here c.facts.ensures.sound c.requires.asks_nothing c.requires.unclaimed c.requires.unloading _ _ c.decided.ensures c.in-Wait.is in
    rw c.pass.ensures (waits x d refl refl)

pub returns-in-Wait-clause-event : goal.returns-in-Wait-clause-event
returns-in-Wait-clause-event g c =
    rw c.pass.ensures (event-waits g.F.Key.Ord.cmp g.F.Mergeable.parts.joined g.F.Functions.meaning g.F.Functions.code c.args.self.now c.args.slot c.args.context c.args.now c.args.operation.now c.requires.here Fuzzy)

pub unreachable-requires-in_default-entry-2 : goal.unreachable-requires-in_default-entry-2
unreachable-requires-in_default-entry-2 g c =
    prepare-none g.F.Key.Ord.cmp g.F.Mergeable.parts.joined g.F.Functions.meaning g.F.Functions.code c.args.self.now c.args.slot c.args.operation.now.op c.key-key.result c.find-entry.result.1 c.key-key.ensures c.find-entry.ensures.address c.in_default-entry-2.is c.decided.result c.decided.ensures c.in-Prepare.source c.in-Prepare.input c.in-Prepare.is

pub prepare-requires-clause-kept : goal.prepare-requires-clause-kept
prepare-requires-clause-kept g c = ap (found_for g.F.Functions.code c.args.self.now) (sym c.key-key.ensures) ∙ sym c.find-entry.ensures.entry ∙ c.in-Some-entry.is

pub prepare-requires-clause-stands : goal.prepare-requires-clause-stands
prepare-requires-clause-stands g c =
    let v = c.args.self.now in
    subst (λ k. IsEntryOf v.records (class_in g.F.Functions.code v.records k) c.in-Some-entry.kept) c.key-key.ensures (found-stands g.F.Functions.code v c.key-key.result c.find-entry.result.1 c.in-Some-entry.kept c.in-Some-entry.is c.find-entry.ensures.stands)

pub prepare-requires-clause-key : goal.prepare-requires-clause-key
prepare-requires-clause-key g c = c.key-key.ensures

pub prepare-requires-clause-decided : goal.prepare-requires-clause-decided
prepare-requires-clause-decided g c =
    let x = c.args.operation.now in
    decides-at g.F.Key.Ord.cmp g.F.Mergeable.parts.joined g.F.Functions.meaning g.F.Functions.code _ c.args.slot c.args.context c.args.now x c.requires.here c.facts.ensures.sound c.requires.asks_nothing c.requires.unclaimed c.requires.unloading _ _ c.decided.ensures c.in-Prepare.is

pub returns-in-Some-entry-clause-effect : goal.returns-in-Some-entry-clause-effect
returns-in-Some-entry-clause-effect g c = c.prepare.ensures.effect

pub returns-in-Some-entry-clause-event : goal.returns-in-Some-entry-clause-event
returns-in-Some-entry-clause-event g c = c.prepare.ensures.event

pub returns-in-Some-entry-clause-moment : goal.returns-in-Some-entry-clause-moment
returns-in-Some-entry-clause-moment g c = c.prepare.ensures.moment

pub unreachable-requires-in_default-entry-3 : goal.unreachable-requires-in_default-entry-3
unreachable-requires-in_default-entry-3 g c =
    load-none g.F.Key.Ord.cmp g.F.Mergeable.parts.joined g.F.Functions.meaning g.F.Functions.code c.args.self.now c.args.slot c.args.operation.now.op c.key-key.result c.find-entry.result.1 c.key-key.ensures c.find-entry.ensures.address c.in_default-entry-3.is c.decided.result c.decided.ensures c.in-Load.wanted c.in-Load.parts c.in-Load.is

pub ask_page-requires-clause-kept : goal.ask_page-requires-clause-kept
ask_page-requires-clause-kept g c = ap (found_for g.F.Functions.code c.args.self.now) (sym c.key-key.ensures) ∙ sym c.find-entry.ensures.entry ∙ c.in-Some-entry-2.is

pub ask_page-requires-clause-stands : goal.ask_page-requires-clause-stands
ask_page-requires-clause-stands g c =
    let v = c.args.self.now in
    subst (λ k. IsEntryOf v.records (class_in g.F.Functions.code v.records k) c.in-Some-entry-2.kept) c.key-key.ensures (found-stands g.F.Functions.code v c.key-key.result c.find-entry.result.1 c.in-Some-entry-2.kept c.in-Some-entry-2.is c.find-entry.ensures.stands)

pub ask_page-requires-clause-decided : goal.ask_page-requires-clause-decided
ask_page-requires-clause-decided g c =
    let x = c.args.operation.now in
    decides-at g.F.Key.Ord.cmp g.F.Mergeable.parts.joined g.F.Functions.meaning g.F.Functions.code _ c.args.slot c.args.context c.args.now x c.requires.here c.facts.ensures.sound c.requires.asks_nothing c.requires.unclaimed c.requires.unloading _ _ c.decided.ensures c.in-Load.is

pub returns-in-Some-entry-2-clause-effect : goal.returns-in-Some-entry-2-clause-effect
returns-in-Some-entry-2-clause-effect g c = c.ask_page.ensures.effect

pub returns-in-Some-entry-2-clause-event : goal.returns-in-Some-entry-2-clause-event
returns-in-Some-entry-2-clause-event g c = c.ask_page.ensures.event

pub returns-in-Some-entry-2-clause-unchanged : goal.returns-in-Some-entry-2-clause-unchanged
returns-in-Some-entry-2-clause-unchanged g c = c.ask_page.ensures.unchanged

pub returns-in-Some-entry-2-clause-moment : goal.returns-in-Some-entry-2-clause-moment
returns-in-Some-entry-2-clause-moment g c = c.ask_page.ensures.moment

pub free-requires-clause-session : goal.free-requires-clause-session
free-requires-clause-session g c = c.requires.session

pub free-requires-clause-context : goal.free-requires-clause-context
free-requires-clause-context g c = c.requires.context

pub claim-requires-clause-session : goal.claim-requires-clause-session
claim-requires-clause-session g c = c.requires.session

pub claim-requires-clause-context : goal.claim-requires-clause-context
claim-requires-clause-context g c = c.requires.context

pub write-requires-clause-session : goal.write-requires-clause-session
write-requires-clause-session g c = c.requires.session

pub write-requires-clause-context : goal.write-requires-clause-context
write-requires-clause-context g c = c.requires.context

pub rewrite-requires-clause-session : goal.rewrite-requires-clause-session
rewrite-requires-clause-session g c = c.requires.session

pub rewrite-requires-clause-context : goal.rewrite-requires-clause-context
rewrite-requires-clause-context g c = c.requires.context

pub prepare-requires-clause-session : goal.prepare-requires-clause-session
prepare-requires-clause-session g c = c.requires.session

pub prepare-requires-clause-context : goal.prepare-requires-clause-context
prepare-requires-clause-context g c = c.requires.context

pub ask_page-requires-clause-session : goal.ask_page-requires-clause-session
ask_page-requires-clause-session g c = c.requires.session

pub ask_page-requires-clause-context : goal.ask_page-requires-clause-context
ask_page-requires-clause-context g c = c.requires.context

pub write-requires-clause-later : goal.write-requires-clause-later
write-requires-clause-later g c = c.requires.later

pub ask_page-requires-clause-later : goal.ask_page-requires-clause-later
ask_page-requires-clause-later g c = c.requires.later

pub claim-requires-clause-here : goal.claim-requires-clause-here
claim-requires-clause-here g c = c.requires.here

pub claim-requires-clause-unclaimed : goal.claim-requires-clause-unclaimed
claim-requires-clause-unclaimed g c = c.requires.unclaimed

pub prepare-requires-clause-number : goal.prepare-requires-clause-number
prepare-requires-clause-number g c = refl

pub returns-in-Done-clause-moment : goal.returns-in-Done-clause-moment
returns-in-Done-clause-moment g c = rw c.free.ensures (le_refl c.args.now)

pub returns-in-Wait-clause-moment : goal.returns-in-Wait-clause-moment
returns-in-Wait-clause-moment g c = rw c.pass.ensures (le_refl c.args.now)

pub returns-in-Ok-clause-moment : goal.returns-in-Ok-clause-moment
returns-in-Ok-clause-moment g c = rw c.in-Ok.ensures.ok.is (le_refl c.args.now)
