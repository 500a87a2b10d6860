-- What holds at any time stays so.
use Rattle.std.proofs.Common.{◌≡◌, ◌+◌, ◌<◌, ◌≤◌, ℕ, zero, suc, Bool, true, false, not, List, [], ◌∷◌, Option, Some, None, inl, inr, refl, sym, ◌∙◌, ap, arith, subst, length, get_or, nat_lt, set, length-set, length-append, replicate}
use Rattle.std.specs.Prelude.{slice_get, is_none}
use Rattle.std.proofs.lemmas.Bool.{and_from, and_parts}
use Rattle.std.proofs.lemmas.Option.{slice_get-get_or}
use Rattle.std.proofs.lemmas.List.Elements.{All-filter, All-push, All-weaker, All-nil, filter_passes}
use Rattle.std.proofs.lemmas.List.Filters.{length-filter_both}
use Rattle.std.proofs.lemmas.List.Kept.{AllPairs-filter}
use Rattle.std.proofs.lemmas.List.Quantifiers.{all_pairs_push, position-Some}
use Rattle.std.specs.List.{filter}
use Rattle.std.specs.Option.{option_map_or}
use Rattle.fkv_epoch.specs.declared.actions.Action.{Action}
use Rattle.fkv_epoch.specs.declared.actions.Waiting.{Waiting}
use Rattle.fkv_epoch.specs.EpochState.{EpochState}
use Rattle.fkv_epoch.specs.SafeEpoch.{is_safe_epoch}
use Rattle.fkv_epoch.specs.Due.{settled}
use Rattle.fkv_epoch.specs.Moves.{fresh, free_slot, renewed, vacated, bumped}
use Rattle.fkv_epoch.specs.Timely.{IsOrdered, IsTimely}
use Rattle.fkv_functions.proofs.ListLemmas.{not-true, get-set_cases}

-- a slot may take any epoch up to the current one, or none
pub ordered-set : (s : EpochState) (slot : ℕ) (o : Option ℕ) → IsOrdered s → ((e : ℕ) → o ≡ Some e → e ≤ s.epoch) → IsOrdered (record s { slots = set s.slots slot o })
ordered-set s slot o h small = record {
  slots = rw length-set h.slots;
  room = h.room;
  entered = λ k e g. elim (get-set_cases s.slots slot k o (Some e) g) [ inl p ↦ small e p.1 | inr q ↦ h.entered k e q ];
  past = h.past;
  rising = h.rising;
}

pub ordered-renewed : (s : EpochState) (slot : ℕ) → IsOrdered s → IsOrdered (renewed s slot)
ordered-renewed s slot h = ordered-set s slot (Some s.epoch) h (λ e p. let q : s.epoch ≡ e = cc in omega arith)

pub ordered-vacated : (s : EpochState) (slot : ℕ) → IsOrdered s → IsOrdered (vacated s slot)
ordered-vacated s slot h = ordered-set s slot None h (λ e p. cc)

pub ordered-bumped : (s : EpochState) (a : Action) → IsOrdered s → length s.waiting < 16 → IsOrdered (bumped s a)
ordered-bumped s a h free = record {
  slots = h.slots;
  room = omega (arith, length-append s.waiting (record { epoch = s.epoch; action = a } ∷ []));
  entered = λ k e g. let below = h.entered k e g in omega arith;
  past = All-push (λ w. w.epoch < s.epoch + 1) s.waiting (record { epoch = s.epoch; action = a })
      (All-weaker (λ w. w.epoch < s.epoch) (λ w. w.epoch < s.epoch + 1) (λ w below. omega arith) s.waiting h.past) (omega arith);
  rising = all_pairs_push (λ v w. v.epoch < w.epoch) s.waiting (record { epoch = s.epoch; action = a }) h.rising h.past;
}

-- once what is due is taken out, nothing that waits is safe
pub timely-settled : (m : EpochState) → IsOrdered m → IsTimely (settled m)
timely-settled m h =
    let unsafe : Waiting → Bool = λ w. not (is_safe_epoch m.slots w.epoch) in
    record {
      ordered = record {
        slots = h.slots;
        room = omega (arith, length-filter_both (λ (w : Waiting). is_safe_epoch m.slots w.epoch) (λ (w : Waiting). not (is_safe_epoch m.slots w.epoch)) (λ w. refl) m.waiting, h.room);
        entered = h.entered;
        past = All-filter (λ w. not (is_safe_epoch m.slots w.epoch)) (λ w. w.epoch < m.epoch) m.waiting h.past;
        rising = AllPairs-filter (λ v w. v.epoch < w.epoch) (λ w. not (is_safe_epoch m.slots w.epoch)) m.waiting h.rising;
      };
      held = All-weaker (λ w. not (is_safe_epoch m.slots w.epoch) ≡ true) (λ w. is_safe_epoch m.slots w.epoch ≡ false)
          (λ w passes. not-true (is_safe_epoch m.slots w.epoch) (λ q. let bad : not true ≡ true = rw q at passes in (cc)))
          (filter (λ w. not (is_safe_epoch m.slots w.epoch)) m.waiting) (filter_passes (λ w. not (is_safe_epoch m.slots w.epoch)) m.waiting);
    }

-- the same, of a state made in parts
pub timely-by : (m s : EpochState) (slots : List (Option ℕ)) → IsOrdered m → s.epoch ≡ m.epoch → s.slots ≡ m.slots → slots ≡ m.slots
    → s.waiting ≡ filter (λ w. not (is_safe_epoch slots w.epoch)) m.waiting → IsTimely s
timely-by m s slots h e f f' g =
    let left : s.waiting ≡ (settled m).waiting = g ∙ ap (λ (xs : List (Option ℕ)). filter (λ (w : Waiting). not (is_safe_epoch xs w.epoch)) m.waiting) f' in
    let same : s ≡ settled m = λ i. record { epoch = e i; slots = f i; waiting = left i } in
    subst IsTimely (sym same) (timely-settled m h)

-- a session that enters makes no epoch safe
safe-with : (slots : List (Option ℕ)) (slot c : ℕ) (x : Option ℕ) → slice_get slots slot ≡ Some None → is_safe_epoch (set slots slot x) c ≡ true → is_safe_epoch slots c ≡ true
safe-with [] slot c x free h = refl
safe-with (o ∷ os) zero c x free h =
    let none : o ≡ None = cc in
    rw none (and_parts (option_map_or (nat_lt c) x true) (is_safe_epoch os c) h).1
safe-with (o ∷ os) (suc i) c x free h =
    let parts = and_parts (option_map_or (nat_lt c) o true) (is_safe_epoch (set os i x) c) h in
    and_from (option_map_or (nat_lt c) o true) (is_safe_epoch os c) parts.0 (safe-with os i c x free parts.1)

none-by : (o : Option ℕ) → is_none o ≡ true → o ≡ None
none-by None h = refl
none-by (Some e) h = cc

-- the lowest free slot is free
pub free-is-none : (s : EpochState) (slot : ℕ) → free_slot s ≡ Some slot → (slot < length s.slots) × (slice_get s.slots slot ≡ Some None)
free-is-none s slot h =
    let found = position-Some is_none s.slots slot None h in
    (found.0, slice_get-get_or s.slots slot None found.0 ∙ ap Some (none-by (get_or s.slots slot None) found.1))

pub timely-entered : (s : EpochState) (slot : ℕ) → IsTimely s → free_slot s ≡ Some slot → IsTimely (renewed s slot)
timely-entered s slot h free = record {
  ordered = ordered-renewed s slot h.ordered;
  held = All-weaker (λ w. is_safe_epoch s.slots w.epoch ≡ false) (λ w. is_safe_epoch (set s.slots slot (Some s.epoch)) w.epoch ≡ false)
      (λ w unsafe. not-true (is_safe_epoch (set s.slots slot (Some s.epoch)) w.epoch)
      (λ q. let p = safe-with s.slots slot w.epoch (Some s.epoch) (free-is-none s slot free).1 q in cc))
      s.waiting h.held;
}

-- no session is entered at a free slot
pub none-entered : (n k e : ℕ) → slice_get (replicate n None) k ≡ Some (Some e) → ⊥
none-entered zero k e h = cc
none-entered (suc n) zero e h = cc
none-entered (suc n) (suc k) e h = none-entered n k e h

pub timely-fresh : IsTimely fresh
timely-fresh = record {
  ordered = record {
    slots = refl;
    room = omega arith;
    entered = λ k e h. absurd (none-entered 16 k e h);
    past = All-nil (λ (w : Waiting). w.epoch < 1);
    rising = λ i j d l m. absurd (omega arith);
  };
  held = All-nil (λ (w : Waiting). is_safe_epoch fresh.slots w.epoch ≡ false);
}
