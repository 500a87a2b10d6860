-- An operation that is issued and done in one call.
use Rattle.std.proofs.Common.{◌≡◌, ◌≢◌, ◌+◌, ◌*◌, ◌<◌, ◌≤◌, true, ℕ, slice_get, Option, Some, None, refl, sym, ◌∙◌, ap, subst}
use Rattle.std.specs.declared.cmp.Ordering.{Ordering}
use Rattle.fkv_functions.specs.Meanings.{Meanings, Parts, Merges}
use Rattle.fkv_functions.specs.Plain.{Same, IsKeyOrder, with_at}
use Rattle.fkv_device.specs.Standing.{Standing}
use Rattle.fkv_regions.specs.declared.offsets.Region.TheVariants as region
use Rattle.fkv_texts.specs.declared.entries.Entry.{Entry}
use Rattle.fkv_texts.specs.Text.{last_of, live}
use Rattle.fkv_operations.specs.After.{key_of, is_merge}
use Rattle.fkv_operations.specs.declared.operations.KeyedOp.{KeyedOp}
use Rattle.fkv_operations.specs.declared.operations.Answer.{Answer}
use Rattle.fkv_lookups.specs.RecordsViews.{with_value, IsReplaceable}
use Rattle.fkv_lookups.specs.declared.decisions.LookupResult.TheVariants.{Mutable}
use Rattle.fkv_lookups.specs.declared.decisions.Decision.TheVariants.{Replace}
use Rattle.fkv_lookups.specs.Decisions.{IsHeld, decision}
use Rattle.fkv_lookups.specs.Meeting.{IsMetAt}
use Rattle.fkv_partition.specs.declared.contexts.Context.{Context}
use Rattle.fkv_partition.specs.declared.contexts.OpenWork.TheVariants.{OnKey}
use Rattle.fkv_partition.specs.declared.contexts.Phase.TheVariants.{Fresh}
use Rattle.fkv_partition.specs.declared.contexts.Progress.TheVariants.{Done}
use Rattle.fkv_partition.specs.Contexts.{joined, is_session, on_key}
use Rattle.fkv_partition.specs.Views.{PartitionView, slots_of, seen_at, met_at, context_at, partition_of, live_of, with_context, with_replaced, held_at}
use Rattle.fkv_partition.specs.KeyGoing.{replaces}
use Rattle.fkv_partition.specs.KeyEffect.{IsEvent}
use Rattle.fkv_partition.specs.KeyAtOnce.{IsAtHand, IsDoneAtOnce}
use Rattle.fkv_functions.proofs.ListLemmas.{get-set_same}
use Rattle.fkv_partition.proofs.AskedLemmas.{context-inside, set-back}
use Rattle.fkv_partition.proofs.DecidedLemmas.{met-replaceable}
use Rattle.fkv_partition.proofs.EventLemmas.{event-issue, event-replaces}

module _ {K V I O : Type 0} (cmp : K → K → Ordering) (join : V → V → V) (f : Meanings K V I O) (code : K → ℕ) (v : PartitionView K V I) (slot : ℕ) (key : K) (held : V) (last : Entry K V)
    (m : IsMetAt cmp join code v.records (seen_at v slot) key held region.Mutable) (same : last ≡ m.entry) where
  -- the record that is read first is the one that was met
  pub at_once-some : IsKeyOrder cmp → IsReplaceable cmp v.records last.address
  at_once-some order = subst (λ (y : Entry K V). IsReplaceable cmp v.records y.address) (sym same) (met-replaceable cmp join code v.records (seen_at v slot) key held region.Mutable order m)

  pub at_once-high : v.records.log.regions.offsets.safe_read_only ≤ m.entry.address → v.records.log.regions.offsets.safe_read_only ≤ last.address
  at_once-high h = subst (λ (y : Entry K V). v.records.log.regions.offsets.safe_read_only ≤ y.address) (sym same) h

  pub at_once-last : last_of cmp v.records.text key ≡ Some last
  at_once-last = m.last ∙ ap Some (sym same)

module _ {K V I O : Type 0} (cmp : K → K → Ordering) (join : V → V → V) (f : Meanings K V I O) (code : K → ℕ) (v : PartitionView K V I) (slot : ℕ) (op : KeyedOp K V I) (held : V) (last : Entry K V)
    (m : IsMetAt cmp join code v.records (seen_at v slot) (key_of op) held region.Mutable) (same : last ≡ m.entry)
    (c issued now : ℕ) (inside : is_session (slots_of v) slot ≡ true) (own : partition_of v.count (code (key_of op)) ≡ v.number) (closed : held_at v slot c ≡ None) (free : slice_get v.contexts (slot * 8 + c) ≡ Some None) (low : c < 8)
    (met : met_at cmp join code v slot (key_of op) ≡ Mutable held) (holds : IsHeld (met_at cmp join code v slot (key_of op)) (live_of cmp v (key_of op)))
    (merging : is_merge op ≡ true → v.merges ≡ true) (parts : Parts K V I) (merges : is_merge op ≡ true → Merges f parts)
    (value : Option V) (answer : Answer O) (writes : decision f op (Mutable held) ≡ Replace value answer)
    (lives : Same (live cmp (with_value v.records last.address value).text) (with_at cmp (live_of cmp v) (key_of op) value)) where
  abbrev operation : Context K V I
  operation = record { number = issued; op = op; phase = Fresh }

  abbrev between : PartitionView K V I
  between = with_context v slot c (Some operation) issued

  here : context_at between slot c ≡ Some operation
  here = ap on_key (context-inside (slots_of v) between.contexts slot c inside low ∙ ap joined (get-set_same v.contexts (slot * 8 + c) None (Some (OnKey operation)) free))

  decided : decision f op (met_at cmp join code between slot (key_of op)) ≡ Replace value answer
  decided = ap (decision f op) met ∙ writes

  abbrev after : PartitionView K V I
  after = record v { records = with_value v.records last.address value; moment = now }

  is-after : with_replaced between slot c last.address value now ≡ after
  is-after = ap (λ cs. record v { contexts = cs; records = with_value v.records last.address value; moment = now })
      (set-back v.contexts (slot * 8 + c) (Some (OnKey operation)) None free)

  pub done-at_once : {R : Type 0} (stands : R → Standing) → IsDoneAtOnce stands cmp join f code v after slot c op issued now answer
  done-at_once {R} stands = record {
    between = between;
    issues = record { entered = inside; low = low; free = closed; own = own; merging = merging; is = refl };
    issue = event-issue code v slot c issued op inside free low own;
    goes = replaces operation value answer last
        (record { here = here; fresh = refl; decided = decided }) (at_once-last cmp join f code v slot (key_of op) held last m same) (sym is-after) refl;
    event = subst (λ w. IsEvent {R = R} cmp f between w slot c now (Done answer now)) is-after
        (event-replaces cmp join f code between slot c now operation here parts merges last.address value answer holds lives decided);
  }

-- where what is met is no value that may be changed in place, nothing is at hand
pub not-at-hand : {K V I O : Type 0} (cmp : K → K → Ordering) (join : V → V → V) (f : Meanings K V I O) (code : K → ℕ) (v : PartitionView K V I) (slot : ℕ) (op : KeyedOp K V I)
    → ((held : V) → ¬ (met_at cmp join code v slot (key_of op) ≡ Mutable held)) → ¬ (IsAtHand cmp join f code v slot op)
not-at-hand cmp join f code v slot op none h = none h.held h.met

-- where an operation writes nothing over the value that is met, neither
pub unwritten : {K V I O : Type 0} (cmp : K → K → Ordering) (join : V → V → V) (f : Meanings K V I O) (code : K → ℕ) (v : PartitionView K V I) (slot : ℕ) (op : KeyedOp K V I) (held : V)
    → met_at cmp join code v slot (key_of op) ≡ Mutable held
    → ((value : Option V) (answer : Answer O) → decision f op (Mutable held) ≢ Replace value answer)
    → ¬ (IsAtHand cmp join f code v slot op)
unwritten cmp join f code v slot op held met none h =
    let both : Mutable held ≡ Mutable h.held = sym met ∙ h.met in
    let one : held ≡ h.held = cc in
    none h.value h.answer (ap (λ w. decision f op (Mutable w)) one ∙ h.writes)
