-- What look-ups that wait for a page are to find, over each change of one context.
use Rattle.std.proofs.Common.{◌≡◌, ◌≢◌, ◌==◌, inl, inr, ℕ, Bool, true, false, Option, Some, None, option_map, refl, sym, ◌∙◌, ap, arith}
use Rattle.std.proofs.lemmas.Bool.{eq-eqb, eqb-true}
use Rattle.std.specs.Prelude.{Result, Ok, Err, IfOk, OnOk}
use Rattle.std.specs.declared.cmp.Ordering.{Ordering}
use Rattle.fkv_functions.specs.declared.refusals.Refused.{Refused}
use Rattle.fkv_records.specs.Places.{page_at}
use Rattle.fkv_device.specs.Standing.{Standing}
use Rattle.fkv_hybrid.specs.Loads.{IsHeldBy}
use Rattle.fkv_functions.specs.Meanings.{Meanings}
use Rattle.fkv_texts.specs.Text.{newest, value_of}
use Rattle.fkv_index.specs.Words.{address_of}
use Rattle.fkv_operations.specs.After.{key_of, shown_of}
use Rattle.fkv_operations.specs.Operations.{op_of}
use Rattle.fkv_operations.specs.declared.operations.KeyedOp.TheVariants.{Read, Rmw}
use Rattle.fkv_partition.specs.declared.contexts.Context.{Context}
use Rattle.fkv_partition.specs.declared.contexts.Loading.{Loading}
use Rattle.fkv_partition.specs.declared.contexts.Phase.{Phase}
use Rattle.fkv_partition.specs.declared.contexts.Phase.TheVariants.{Fresh, Prepared, Load}
use Rattle.fkv_partition.specs.declared.contexts.Progress.{Progress}
use Rattle.fkv_partition.specs.declared.contexts.Progress.TheVariants.{Done, Next, NeedsBuild, NeedsLoad}
use Rattle.fkv_partition.specs.Contexts.{at_phase}
use Rattle.fkv_partition.specs.Views.{PartitionView, context_at, with_context}
use Rattle.fkv_partition.specs.KeyEffect.{asked_by, LeavesOthers, IsLoaded}
use Rattle.fkv_partition.specs.Pending.{pending_of, pending, OthersPend}
use Rattle.fkv_partition.specs.KeyLoading.{AwaitsPage, MayLoad}
use Rattle.fkv_partition.proofs.AskedLemmas.{asked-same, asked-other, context-same, context-apart}

module _ {K V I : Type 0} (cmp : K → K → Ordering) (v : PartitionView K V I) (slot c now : ℕ) (x : Context K V I) (h : context_at v slot c ≡ Some x) where
  -- one context is set
  pub others-pend : (y : Option (Context K V I)) → OthersPend cmp v (with_context v slot c y now) slot c
  others-pend y s d o = ap (pending_of cmp v.records) (context-apart v slot c now x h y s d o)

  pub same-pend : (y : Option (Context K V I)) → pending cmp (with_context v slot c y now) slot c ≡ pending_of cmp v.records y
  same-pend y = ap (pending_of cmp v.records) (context-same v slot c now x h y)

  pub frame-of : (y : Option (Context K V I)) → LeavesOthers v (with_context v slot c y now) slot c now
  frame-of y = record { others = λ t d o. asked-other v slot c now x h y t d o; number = refl; count = refl; begin = refl; regions = refl; rises = omega arith; moment = refl }

  -- what was to be found
  pub was-pending : (l : Loading V) → AwaitsPage v slot c x l → pending cmp v slot c ≡ Some (record { moment = l.looked; value = value_of (newest cmp v.records.text (key_of x.op) (address_of l.kept.word)) })
  was-pending l a =
      ap (pending_of cmp v.records) h
      ∙ ap (λ (p : Phase V). pending_of cmp v.records (Some (at_phase x p))) a.loading
      ∙ rw (eq-eqb l.begin v.records.log.begin a.begin) refl

  module _ {O R : Type 0} (f : Meanings K V I O) where
    -- Begin has moved: it is to look again
    pub load-moved : (l : Loading V) → x.phase ≡ Load l → l.begin ≢ v.records.log.begin → IsLoaded {O = O} {R = R} cmp f v (with_context v slot c (Some (at_phase x Fresh)) now) slot c now Next
    load-moved l phase moved = record {
      question = asked_by x;
      was = ap (option_map asked_by) h;
      effect = (asked-same v slot c now x h (Some (at_phase x Fresh)), ap (pending_of cmp v.records) h ∙ ap (λ (p : Phase V). pending_of cmp v.records (Some (at_phase x p))) phase ∙ gone (l.begin == v.records.log.begin) refl, same-pend (Some (at_phase x Fresh)));
      live = λ q. refl;
      cleared = refl;
      frame = frame-of (Some (at_phase x Fresh));
    }
      where
        gone : (b : Bool) → (l.begin == v.records.log.begin) ≡ b → pending_of cmp v.records (Some (at_phase x (Load l))) ≡ None
        gone true e = absurd (moved (eqb-true l.begin v.records.log.begin e))
        gone false e = rw e refl

    module _ (l : Loading V) (a : AwaitsPage v slot c x l) where
      pub load-told : (value : Option V) → value_of (newest cmp v.records.text (key_of x.op) (address_of l.kept.word)) ≡ value → MayLoad x.op → (new : PartitionView K V I) (q : Progress K V I O R)
          → ((k : K) (i : I) → x.op ≡ Read k i → (new ≡ with_context v slot c None now) × (q ≡ Done (shown_of f k i value) l.looked))
          → ((k : K) (i : I) → x.op ≡ Rmw k i → (new ≡ with_context v slot c (Some (at_phase x (Prepared l.kept value))) now) × (q ≡ NeedsBuild (record { number = x.number; key = k; source = value; input = i })))
          → IsLoaded cmp f v new slot c now q
      load-told value is may new q read update = elim may.1 [
        | inl op ↦ (let r = read (key_of x.op) may.0 op in rw (r.0, r.1) (record {
          question = asked_by x;
          was = ap (option_map asked_by) h;
          effect = (asked-same v slot c now x h None, (_, was-pending l a, refl, (key_of x.op, may.0, ap op_of op, ap (shown_of f (key_of x.op) may.0) (sym is))));
          live = λ q. refl;
          cleared = refl;
          frame = frame-of None;
        }))
        | inr op ↦ (let u = update (key_of x.op) may.0 op in let y : Option (Context K V I) = Some (at_phase x (Prepared l.kept value)) in rw (u.0, u.1) (record {
          question = asked_by x;
          was = ap (option_map asked_by) h;
          effect = (asked-same v slot c now x h y, same-pend y, refl, ap op_of op, (_, was-pending l a, sym is));
          live = λ q. refl;
          cleared = refl;
          frame = frame-of y;
        }))
      ]

      load-further : (b : ℕ) (parts : Option V) (r : R) → IsLoaded {O = O} cmp f v (with_context v slot c (Some (at_phase x (Load (record l { wanted = b; parts = parts })))) now) slot c now (NeedsLoad r b)
      load-further b parts r =
          let y : Option (Context K V I) = Some (at_phase x (Load (record l { wanted = b; parts = parts }))) in
          let there : pending_of cmp v.records y ≡ Some (record { moment = l.looked; value = value_of (newest cmp v.records.text (key_of x.op) (address_of l.kept.word)) }) = rw (eq-eqb l.begin v.records.log.begin a.begin) refl in
          record {
            question = asked_by x;
            was = ap (option_map asked_by) h;
            effect = (asked-same v slot c now x h y, same-pend y ∙ there ∙ sym (was-pending l a));
            live = λ q. refl;
            cleared = refl;
            frame = frame-of y;
          }

      pub further-load : (b : ℕ) (parts : Option V) (new : PartitionView K V I) (result : Result (Progress K V I O R) Refused)
          → (stands : R → Standing)
          → IfOk result (λ progress. (r : R) × (progress ≡ NeedsLoad r b) × IsHeldBy v.records.log.receipts (page_at v.records.log.bits b) (stands r))
          → OnOk result (new ≡ with_context v slot c (Some (at_phase x (Load (record l { wanted = b; parts = parts })))) now)
          → IfOk result (λ progress. IsLoaded cmp f v new slot c now progress)
      further-load b parts new (Ok q) stands asked effect = rw (asked.1, effect) (load-further b parts asked.0)
      further-load b parts new (Err why) stands asked effect = tt
