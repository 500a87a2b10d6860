-- What an event of an operation leaves it to find.
use Rattle.std.proofs.Common.{◌≡◌, ℕ, Bool, true, false, cond, List, length, Option, Some, None, option_map, nat_lt, Ok, refl, sym, ◌∙◌, ap}
use Rattle.std.proofs.lemmas.Bool.{eq-eqb, ltb-true}
use Rattle.std.proofs.lemmas.Option.{slice_get-get_or}
use Rattle.std.proofs.lemmas.List.Folds.{find_at}
use Rattle.std.specs.List.{find, position_or_len}
use Rattle.std.specs.declared.cmp.Ordering.{Ordering}
use Rattle.fkv_functions.specs.Meanings.{Meanings}
use Rattle.fkv_functions.specs.Plain.{IsKeyOrder}
use Rattle.fkv_functions.specs.declared.asks.Ask.{Ask}
use Rattle.fkv_device.specs.Standing.{Standing}
use Rattle.fkv_texts.specs.Text.{value_of}
use Rattle.fkv_operations.specs.After.{key_of}
use Rattle.fkv_operations.specs.declared.entries.IndexEntry.{IndexEntry}
use Rattle.fkv_operations.specs.declared.operations.Answer.TheVariants.{Value, Declined}
use Rattle.fkv_operations.specs.declared.operations.KeyedOp.{KeyedOp}
use Rattle.fkv_index.specs.declared.words.Word.{Word}
use Rattle.fkv_index.specs.declared.words.Place.{Place}
use Rattle.fkv_index.specs.Words.{empty, address_of, is_final_of}
use Rattle.fkv_index.specs.Places.{words_of, word_at}
use Rattle.fkv_index.specs.Entries.{entry_at, place_of}
use Rattle.fkv_lookups.specs.RecordsViews.{RecordsView, class_in}
use Rattle.fkv_lookups.proofs.TracedLemmas.{traced-held}
use Rattle.fkv_partition.specs.declared.contexts.Context.{Context}
use Rattle.fkv_partition.specs.declared.contexts.Phase.{Phase}
use Rattle.fkv_partition.specs.declared.contexts.Phase.TheVariants.{Fresh, Confirm, Prepared, Load}
use Rattle.fkv_partition.specs.declared.contexts.Progress.{Progress}
use Rattle.fkv_partition.specs.declared.contexts.Progress.TheVariants.{Done, Next, NeedsBuild, NeedsLoad, Waits}
use Rattle.fkv_partition.specs.declared.contexts.Wait.TheVariants.{Fuzzy, Full}
use Rattle.fkv_partition.specs.Contexts.{question_by, at_phase, context_in, on_key}
use Rattle.fkv_partition.specs.Views.{PartitionView, context_at, with_context}
use Rattle.fkv_partition.specs.KeyGoing.{Goes}
use Rattle.fkv_partition.specs.KeyInstalling.{Installs}
use Rattle.fkv_partition.specs.KeyEffect.{asked_by, Finds}
use Rattle.fkv_partition.specs.Effects.{to_find}
use Rattle.fkv_partition.specs.Pending.{pending_by, pending_of, pending}
use Rattle.fkv_partition.specs.KeySound.{IsSound}
use Rattle.fkv_partition.proofs.AskedLemmas.{keyed-op, context-same}

-- an entry that was found leads where its word says
abbrev entry_in : List (List Word) → Place → IndexEntry
entry_in words p = record { place = p; word = word_at words p }

abbrev place_in : ℕ → ℕ → Place
place_in b at = record { bucket = b; at = at }

abbrev first_of : ℕ → List Word → ℕ
first_of t ws = position_or_len (is_final_of t) ws

found-leads : (words : List (List Word)) (b t : ℕ) (e : IndexEntry) → option_map (entry_in words) (place_of words b t) ≡ Some e → entry_at words b t ≡ Some (address_of e.word)
unfolding entry_at place_of
found-leads words b t e h = by_test (nat_lt (first_of t (words_of words b)) (length (words_of words b))) refl h
  where
    by_test : (is : Bool) → nat_lt (first_of t (words_of words b)) (length (words_of words b)) ≡ is → option_map (entry_in words) (option_map (place_in b) (cond is (Some (first_of t (words_of words b))) None)) ≡ Some e
        → option_map address_of (find (is_final_of t) (words_of words b)) ≡ Some (address_of e.word)
    by_test true low k =
        let same : entry_in words (place_in b (first_of t (words_of words b))) ≡ e = cc in
        ap (option_map address_of) (find_at (is_final_of t) (words_of words b) ∙ slice_get-get_or (words_of words b) (first_of t (words_of words b)) empty (ltb-true (first_of t (words_of words b)) (length (words_of words b)) low))
        ∙ ap (λ (z : IndexEntry). Some (address_of z.word)) same
    by_test false low k = absurd (cc)

-- a prepared update waits for no page
asks-none : {K V I : Type 0} (cmp : K → K → Ordering) (r : RecordsView K V) (n : ℕ) (op : KeyedOp K V I) (p : Phase V) (q : IndexEntry × Ask K V I) → question_by n op p ≡ Some q → pending_by cmp r op p ≡ None
asks-none cmp r n op Fresh q h = absurd (cc)
asks-none cmp r n op (Confirm place) q h = absurd (cc)
asks-none cmp r n op (Load l) q h = absurd (cc)
asks-none cmp r n op (Prepared e s) q h = refl

module _ {K V I : Type 0} (cmp : K → K → Ordering) (old new : PartitionView K V I) (slot c now : ℕ) where
  -- a context was set to what waits for no page
  set-none : (x : Context K V I) → context_at old slot c ≡ Some x → (y : Option (Context K V I)) (r : RecordsView K V) → r.log.regions ≡ old.records.log.regions → pending_of cmp r y ≡ None
      → new ≡ record (with_context old slot c y now) { records = r } → pending cmp new slot c ≡ None
  set-none x h y r regions none is =
      ap (λ (v : PartitionView K V I). pending cmp v slot c) is
      ∙ ap (λ g. pending_of cmp r (on_key (context_in g.epochs.slots (with_context old slot c y now).contexts slot c))) regions
      ∙ ap (pending_of cmp r) (context-same old slot c now x h y) ∙ none

  -- it stays as it is
  stays-none : (x : Context K V I) → context_at old slot c ≡ Some x → pending_by cmp old.records x.op x.phase ≡ None → new ≡ record old { moment = now } → pending cmp new slot c ≡ None
  stays-none x h none is = ap (λ (v : PartitionView K V I). pending cmp v slot c) is ∙ ap (pending_of cmp old.records) h ∙ none

  fresh-none : (x : Context K V I) → x.phase ≡ Fresh → pending_by cmp old.records x.op x.phase ≡ None
  fresh-none x h = ap (pending_by cmp old.records x.op) h

module _ {K V I O R : Type 0} (cmp : K → K → Ordering) (join : V → V → V) (f : Meanings K V I O) (code : K → ℕ) (old new : PartitionView K V I) (slot c now : ℕ) where
  pub goes-find : {keeps : Bool} (stands : R → Standing) → IsKeyOrder cmp → IsSound keeps cmp join code old
      → (progress : Progress K V I O R) → Goes stands cmp join f code old new slot c now (Ok progress) → Finds cmp old new slot c now progress
  goes-find stands order s progress (Goes.unknown h is e) = absurd (cc)
  goes-find stands order s progress (Goes.asks x k ask h q is e) = let p : progress ≡ NeedsBuild ask = cc in rw p (stays-none cmp old new slot c now x h (asks-none cmp old.records x.number x.op x.phase (k, ask) q) is)
  goes-find stands order s progress (Goes.not_ready x l h phase is e) = absurd (cc)
  goes-find stands order s progress (Goes.confirms x q h phase alone is e) = let p : progress ≡ Next = cc in rw p (set-none cmp old new slot c now x h (Some (at_phase x Fresh)) _ refl refl is)
  goes-find stands order s progress (Goes.backs_off x q h phase alone is e) = let p : progress ≡ Next = cc in rw p (set-none cmp old new slot c now x h (Some (at_phase x Fresh)) _ refl refl is)
  goes-find stands order s progress (Goes.done x a d is e) = let p : progress ≡ Done a now = cc in rw p (set-none cmp old new slot c now x d.here None old.records refl refl is)
  goes-find stands order s progress (Goes.claims x d is e) = let p : progress ≡ Next = cc in rw p (set-none cmp old new slot c now x d.here (Some (at_phase x (Confirm is.place))) is.records (ap (λ (w : RecordsView K V). w.log.regions) is.claims.is) refl is.is)
  goes-find stands order s progress (Goes.unclaimed x d full is e) = absurd (cc)
  goes-find stands order s progress (Goes.appends x value a k d entry room free is e) = let p : progress ≡ Done a now = cc in rw p (set-none cmp old new slot c now x d.here None _ refl refl is)
  goes-find stands order s progress (Goes.worn x value a d room is e) = absurd (cc)
  goes-find stands order s progress (Goes.full x value a d room is e) = let p : progress ≡ Waits Full = cc in rw p (stays-none cmp old new slot c now x d.here (fresh-none cmp old new slot c now x d.fresh) is)
  goes-find stands order s progress (Goes.replaces x value a k d last is e) = let p : progress ≡ Done a now = cc in rw p (set-none cmp old new slot c now x d.here None _ refl refl is)
  goes-find stands order s progress (Goes.waits x d is e) = let p : progress ≡ Waits Fuzzy = cc in rw p (stays-none cmp old new slot c now x d.here (fresh-none cmp old new slot c now x d.fresh) is)
  goes-find stands order s progress (Goes.prepares x source i k d entry is e) = let p : progress ≡ NeedsBuild (record { number = x.number; key = key_of x.op; source = source; input = i }) = cc in rw p (set-none cmp old new slot c now x d.here (Some (at_phase x (Prepared k source))) old.records refl refl is)
  goes-find stands order s progress (Goes.asks_page x b parts k p d entry held is e) =
      let led = traced-held cmp code old.records (key_of x.op) order s.traced (address_of k.word) (found-leads old.records.words (class_in code old.records (key_of x.op)).bucket (class_in code old.records (key_of x.op)).tag k entry) in
      let q : progress ≡ NeedsLoad p b = cc in
      rw q (record {
        question = asked_by x;
        was = ap (option_map asked_by) d.here;
        asks = ap (λ (u : PartitionView _ _ _). pending cmp u slot c) is
            ∙ ap (pending_of cmp old.records) (context-same old slot c now x d.here (Some (at_phase x (Load (record { begin = old.records.log.begin; kept = k; wanted = b; parts = parts; looked = now })))))
            ∙ (rw (eq-eqb old.records.log.begin old.records.log.begin refl) (ap (λ o. Some (record { moment = now; value = value_of o })) led))
            ∙ ap (to_find cmp old now) (sym (keyed-op x.op));
      })
  goes-find stands order s progress (Goes.unshared x b parts d is e) = absurd (cc)

  pub installs-find : (ask : Ask K V I) (progress : Progress K V I O R) → Installs cmp f code old new slot c ask now (Ok progress) → Finds cmp old new slot c now progress
  installs-find ask progress (Installs.unknown h is e) = absurd (cc)
  installs-find ask progress (Installs.not_ready x h q is e) = absurd (cc)
  installs-find ask progress (Installs.stranger x k mine h q n is e) = absurd (cc)
  installs-find ask progress (Installs.moved x k h q n is e) = let p : progress ≡ Next = cc in rw p (set-none cmp old new slot c now x h (Some (at_phase x Fresh)) old.records refl refl is)
  installs-find ask progress (Installs.declined x k h q n u is e) = let p : progress ≡ Done Declined now = cc in rw p (set-none cmp old new slot c now x h None old.records refl refl is)
  installs-find ask progress (Installs.worn x k value h q n u room is e) = absurd (cc)
  installs-find ask progress (Installs.full x k value h q n u room is e) = let p : progress ≡ Waits Full = cc in rw p (stays-none cmp old new slot c now x h (asks-none cmp old.records x.number x.op x.phase (k, ask) q) is)
  installs-find ask progress (Installs.done x k value h q n u room free is e) = let p : progress ≡ Done (Value (f.shown ask.key ask.input value)) now = cc in rw p (set-none cmp old new slot c now x h None _ refl refl is)
