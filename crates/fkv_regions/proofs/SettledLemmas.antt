-- One session settles: once it is refreshed, no move of an offset waits.
use Rattle.std.proofs.Common.{◌≡◌, ◌<◌, ◌+◌, inl, inr, Bool, true, false, ℕ, zero, suc, replicate, List, [], ◌∷◌, ◌++◌, Option, Some, None, length, slice_get, slice_set, refl, sym, ◌∙◌, ap, subst, arith}
use Rattle.std.proofs.lemmas.List.{get_or-set_same}
use Rattle.std.proofs.lemmas.Option.{same_Some}
use Rattle.fkv_epoch.specs.declared.actions.Action.{Action}
use Rattle.fkv_epoch.specs.declared.actions.Action.TheVariants.{Safe, Closed}
use Rattle.fkv_epoch.specs.declared.actions.Waiting.{Waiting}
use Rattle.fkv_epoch.specs.EpochState.{EpochState}
use Rattle.fkv_epoch.specs.SafeEpoch.{is_safe_epoch}
use Rattle.fkv_epoch.specs.Moves.{bumped}
use Rattle.fkv_functions.proofs.ListLemmas.{get-set_cases}
use Rattle.fkv_epoch.proofs.SafeLemmas.{safe-test}
use Rattle.fkv_regions.specs.declared.offsets.Offsets.{Offsets}
use Rattle.fkv_regions.specs.declared.offsets.View.{View}
use Rattle.fkv_regions.specs.Offsets.{view_of, view_at, ran}
use Rattle.fkv_regions.specs.RegionsView.{RegionsView, fresh_regions, drained, entered, refreshed, with_read_only, with_head, with_flushed}
use Rattle.fkv_regions.specs.Settled.{IsSettled}

-- the regions with these parts
abbrev regions_of : (bits flushed epoch : ℕ) → Offsets → List (Option ℕ) → List Waiting → List View → RegionsView
regions_of bits flushed epoch offsets slots waiting views = record {
  bits = bits;
  flushed = flushed;
  offsets = offsets;
  epochs = record { epoch = epoch; slots = slots; waiting = waiting };
  views = views;
}

module _ (bits flushed : ℕ) (slots : List (Option ℕ)) (views : List View) (alone : (slot e : ℕ) → slice_get slots slot ≡ Some (Some e) → slot ≡ 0) (long : 0 < length views) where
  sees-now : (o : Offsets) → view_at (slice_set views 0 (view_of o)) 0 ≡ view_of o
  sees-now o = get_or-set_same views 0 (view_of o) _ long

  still-alone : (now slot e : ℕ) → slice_get (slice_set slots 0 (Some now)) slot ≡ Some (Some e) → slot ≡ 0
  still-alone now slot e h = elim (get-set_cases slots 0 slot (Some now) (Some e) h) [
    | inl c ↦ c.0
    | inr c ↦ alone slot e c
  ]

  -- the epoch before the current one is safe, once the one session has that
  safe-now : (epoch : ℕ) → is_safe_epoch (slice_set slots 0 (Some (epoch + 1))) epoch ≡ true
  safe-now epoch = safe-test (slice_set slots 0 (Some (epoch + 1))) epoch (λ slot e h. elim (get-set_cases slots 0 slot (Some (epoch + 1)) (Some e) h) [
    | inl c ↦ (let is : Some (epoch + 1) ≡ Some e = c.1 in let same : epoch + 1 ≡ e = same_Some (epoch + 1) e is in omega arith)
    | inr c ↦ (let zero_is : slot ≡ 0 = alone slot e c in
        let here : slice_get (slice_set slots 0 (Some (epoch + 1))) 0 ≡ Some (Some e) = ap (slice_get (slice_set slots 0 (Some (epoch + 1)))) (sym zero_is) ∙ h in
        zero-set slots epoch e here)
  ])
    where
      zero-set : (xs : List (Option ℕ)) (epoch e : ℕ) → slice_get (slice_set xs 0 (Some (epoch + 1))) 0 ≡ Some (Some e) → epoch < e
      zero-set [] epoch e h = absurd (cc)
      zero-set (x ∷ xs) epoch e h = let is : Some (epoch + 1) ≡ Some e = same_Some (Some (epoch + 1)) (Some e) h in let same : epoch + 1 ≡ e = same_Some (epoch + 1) e is in omega arith

  -- what has been put in runs at once, or as the session is refreshed
  pub settles : (epoch : ℕ) (o : Offsets) (a : Action) → (ran o a).safe_read_only ≡ (ran o a).read_only → (ran o a).closed ≡ (ran o a).head
      → IsSettled (refreshed (drained (regions_of bits flushed (epoch + 1) o slots (record { epoch = epoch; action = a } ∷ []) views)) 0)
  settles epoch o a safe closed = by (is_safe_epoch slots epoch) refl
    where
      by : (b : Bool) → is_safe_epoch slots epoch ≡ b → IsSettled (refreshed (drained (regions_of bits flushed (epoch + 1) o slots (record { epoch = epoch; action = a } ∷ []) views)) 0)
      by true t = rw t (record { alone = still-alone (epoch + 1); none_waits = refl; safe = safe; closed = closed; sees = sees-now (ran o a) })
      by false f = rw (f, safe-now epoch) (record { alone = still-alone (epoch + 1); none_waits = refl; safe = safe; closed = closed; sees = sees-now (ran o a) })

abbrev nothing : Option ℕ
nothing = None

pub enter-settles : (bits : ℕ) → IsSettled (entered (fresh_regions bits) 0)
enter-settles bits = record {
  alone = only;
  none_waits = refl;
  safe = refl;
  closed = refl;
  sees = refl;
}
  where
    nowhere : (n slot e : ℕ) → slice_get (replicate n nothing) slot ≡ Some (Some e) → ⊥
    nowhere zero slot e h = absurd (cc)
    nowhere (suc n) zero e h = absurd (cc)
    nowhere (suc n) (suc slot) e h = nowhere n slot e h

    only : (slot e : ℕ) → slice_get (entered (fresh_regions bits) 0).epochs.slots slot ≡ Some (Some e) → slot ≡ 0
    only zero e h = refl
    only (suc slot) e h = absurd (nowhere 15 slot e h)

module _ (s : RegionsView) (h : IsSettled s) (long : 0 < length s.views) where
  pub refresh-settles : IsSettled (refreshed s 0)
  refresh-settles = rw h.none_waits (record {
    alone = still-alone s.bits s.flushed s.epochs.slots s.views h.alone long s.epochs.epoch;
    none_waits = refl;
    safe = h.safe;
    closed = h.closed;
    sees = sees-now s.bits s.flushed s.epochs.slots s.views h.alone long s.offsets;
  })

  -- ReadOnly moves, and the session is refreshed
  pub freeze-settles : (a : ℕ) → IsSettled (refreshed (with_read_only s a) 0)
  freeze-settles a = rw h.none_waits (settles s.bits s.flushed s.epochs.slots s.views h.alone long s.epochs.epoch (record s.offsets { read_only = a }) (Safe a) refl h.closed)

  -- Head moves, and the session is refreshed
  pub evict-settles : (a : ℕ) → IsSettled (refreshed (with_head s a) 0)
  evict-settles a = rw h.none_waits (settles s.bits s.flushed s.epochs.slots s.views h.alone long s.epochs.epoch (record s.offsets { head = a }) (Closed a) h.safe refl)

pub flush-settles : (s : RegionsView) (page : ℕ) → IsSettled s → IsSettled (with_flushed s page)
flush-settles s page h = record { alone = h.alone; none_waits = h.none_waits; safe = h.safe; closed = h.closed; sees = h.sees }
