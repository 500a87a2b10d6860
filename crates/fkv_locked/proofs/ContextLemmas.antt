-- What is pending in a context that is open, and once it was changed.
use Rattle.std.proofs.Common.{◌≡◌, Bool, true, false, cond, ◌&&◌, ℕ, ◌+◌, ◌*◌, List, Option, Some, None, option_map, slice_get, slice_set, nat_lt, refl, ◌∙◌, ap}
use Rattle.std.proofs.lemmas.Bool.{eq-eqb}
use Rattle.std.specs.declared.cmp.Ordering.{Ordering}
use Rattle.fkv_functions.proofs.ListLemmas.{get-set_same}
use Rattle.fkv_texts.specs.Text.{newest, value_of}
use Rattle.fkv_index.specs.Words.{address_of}
use Rattle.fkv_operations.specs.After.{key_of}
use Rattle.fkv_partition.specs.declared.contexts.Context.{Context}
use Rattle.fkv_partition.specs.declared.contexts.OpenWork.{OpenWork}
use Rattle.fkv_partition.specs.declared.contexts.OpenWork.TheVariants.{OnKey, Relocating}
use Rattle.fkv_partition.specs.declared.contexts.Loading.{Loading}
use Rattle.fkv_partition.specs.declared.contexts.Phase.{Phase}
use Rattle.fkv_partition.specs.Contexts.{joined, is_session, context_in, at_phase, on_key}
use Rattle.fkv_partition.specs.KeyLoading.{AwaitsPage}
use Rattle.fkv_partition.specs.Views.{PartitionView, slots_of, held_at, context_at, with_context}
use Rattle.fkv_partition.specs.Pending.{pending, pending_of}

joined-some : {A : Type 0} (o : Option (Option A)) (x : A) → joined o ≡ Some x → o ≡ Some (Some x)
joined-some None x h = absurd (cc)
joined-some (Some y) x h = ap Some h

-- a context that is open has what was put there last
set-context : {A : Type 0} (slots : List (Option ℕ)) (contexts : List (Option A)) (slot c : ℕ) (x : A) (y : Option A)
    → context_in slots contexts slot c ≡ Some x → context_in slots (slice_set contexts (slot * 8 + c) y) slot c ≡ y
set-context slots contexts slot c x y h = by_cases (is_session slots slot) (nat_lt c 8) refl refl h
  where
    by_cases : (a b : Bool) → is_session slots slot ≡ a → nat_lt c 8 ≡ b → cond (a && b) (joined (slice_get contexts (slot * 8 + c))) None ≡ Some x
        → context_in slots (slice_set contexts (slot * 8 + c) y) slot c ≡ y
    by_cases true true p q e = rw (p, q) (ap joined (get-set_same contexts (slot * 8 + c) (Some x) y (joined-some (slice_get contexts (slot * 8 + c)) x e)))
    by_cases true false p q e = absurd (cc)
    by_cases false b p q e = absurd (cc)

module _ {K V I : Type 0} (cmp : K → K → Ordering) (v : PartitionView K V I) (slot c now : ℕ) (x : Context K V I) (h : context_at v slot c ≡ Some x) where
  -- what is pending once another operation, or none, stands there
  pub same-pend : (y : Option (Context K V I)) → pending cmp (with_context v slot c y now) slot c ≡ pending_of cmp v.records y
  same-pend y =
      ap (λ o. pending_of cmp v.records (on_key o)) (set-context (slots_of v) v.contexts slot c (OnKey x) (option_map OnKey y) (held-key (held_at v slot c) h))
      ∙ ap (pending_of cmp v.records) (key-of y)
    where
      held-key : (o : Option (OpenWork K V I)) → on_key o ≡ Some x → o ≡ Some (OnKey x)
      held-key None e = absurd (cc)
      held-key (Some (OnKey z)) e = ap (option_map OnKey) e
      held-key (Some (Relocating z)) e = absurd (cc)

      key-of : (o : Option (Context K V I)) → on_key (option_map OnKey o) ≡ o
      key-of None = refl
      key-of (Some z) = refl

  -- what a look-up that waits for a page is to find
  pub was-pending : (l : Loading V) → AwaitsPage v slot c x l → pending cmp v slot c ≡ Some (record { moment = l.looked; value = value_of (newest cmp v.records.text (key_of x.op) (address_of l.kept.word)) })
  was-pending l a =
      ap (pending_of cmp v.records) h
      ∙ ap (λ (p : Phase V). pending_of cmp v.records (Some (at_phase x p))) a.loading
      ∙ rw (eq-eqb l.begin v.records.log.begin a.begin) refl
