-- What every call does.
use Rattle.std.proofs.Common.{◌≡◌, ◌<◌, ◌≤◌, ℕ, Bool, true, false, List, [], ◌∷◌, ◌++◌, Option, Some, None, ◌⊎◌, inl, inr, refl, sym, ◌∙◌, arith, length, nat_lt}
use Rattle.std.proofs.lemmas.Bool.{ltb-true}
use Rattle.std.proofs.lemmas.List.{append-nil}
use Rattle.std.proofs.lemmas.List.Elements.{All-nil, filter_passes}
use Rattle.std.specs.List.{All}
use Rattle.fkv_epoch.specs.declared.actions.Action.{Action}
use Rattle.fkv_epoch.specs.declared.actions.Waiting.{Waiting}
use Rattle.fkv_epoch.specs.declared.calls.Call.{Call}
use Rattle.fkv_epoch.specs.declared.calls.Call.TheVariants.{Enter, Refresh, Leave, Bump}
use Rattle.fkv_epoch.specs.EpochState.{EpochState}
use Rattle.fkv_epoch.specs.SafeEpoch.{is_safe_epoch}
use Rattle.fkv_epoch.specs.Due.{due, settled}
use Rattle.fkv_epoch.specs.Moves.{free_slot, is_entered, renewed, vacated, bumped}
use Rattle.fkv_epoch.specs.Timely.{IsOrdered, IsTimely}
use Rattle.fkv_epoch.specs.Calls.{lets_out, after, let_out, put_in}
use Rattle.fkv_functions.proofs.ListLemmas.{filter-split}
use Rattle.fkv_epoch.proofs.SafeLemmas.{safe-first}
use Rattle.fkv_epoch.proofs.TimelyLemmas.{ordered-renewed, ordered-vacated, ordered-bumped, timely-settled, timely-entered}

-- a step from s to t: what it lets out and puts in
pub record IsStep (lets : Bool) (s t : EpochState) (out put : List Waiting) : Type 0 where
  pub timely : IsTimely t
  pub order : out ++ t.waiting ≡ s.waiting ++ put
  pub safe : All (λ w. is_safe_epoch t.slots w.epoch ≡ true) out
  pub closed : lets ≡ false → out ≡ []
  pub alone : (put ≡ []) ⊎ ((w : Waiting) × (put ≡ w ∷ []) × (w.epoch ≡ s.epoch) × (s.epoch < t.epoch))
  pub later : s.epoch ≤ t.epoch

-- nothing happens
stays : (lets : Bool) (s : EpochState) → IsTimely s → IsStep lets s s [] []
stays lets s h = record {
  timely = h;
  order = sym (append-nil s.waiting);
  safe = All-nil (λ (w : Waiting). is_safe_epoch s.slots w.epoch ≡ true);
  closed = λ e. refl;
  alone = inl refl;
  later = omega arith;
}

-- what is due comes out
settles : (s m : EpochState) (put : List Waiting) → IsOrdered m → m.waiting ≡ s.waiting ++ put
    → (put ≡ []) ⊎ ((w : Waiting) × (put ≡ w ∷ []) × (w.epoch ≡ s.epoch) × (s.epoch < m.epoch)) → s.epoch ≤ m.epoch → IsStep true s (settled m) (due m) put
settles s m put h e new later = record {
  timely = timely-settled m h;
  order = filter-split (λ w. is_safe_epoch m.slots w.epoch) m.waiting (safe-first m.slots m.waiting h.rising) ∙ e;
  safe = filter_passes (λ w. is_safe_epoch m.slots w.epoch) m.waiting;
  closed = λ q. cc;
  alone = new;
  later = later;
}

enters : (s : EpochState) (o : Option ℕ) → free_slot s ≡ o → IsTimely s → IsStep false s (after s Enter) (let_out s Enter) []
enters s None e h = rw e (stays false s h)
enters s (Some slot) e h = rw e (record {
  timely = timely-entered s slot h e;
  order = sym (append-nil s.waiting);
  safe = All-nil (λ (w : Waiting). is_safe_epoch (renewed s slot).slots w.epoch ≡ true);
  closed = λ q. refl;
  alone = inl refl;
  later = omega arith;
})

refreshes : (s : EpochState) (slot : ℕ) (b : Bool) → is_entered s slot ≡ b → IsTimely s → IsStep true s (after s (Refresh slot)) (let_out s (Refresh slot)) []
refreshes s slot false e h = rw e (stays true s h)
refreshes s slot true e h = rw e (settles s (renewed s slot) [] (ordered-renewed s slot h.ordered) (sym (append-nil s.waiting)) (inl refl) (omega arith))

leaves : (s : EpochState) (slot : ℕ) (b : Bool) → is_entered s slot ≡ b → IsTimely s → IsStep true s (after s (Leave slot)) (let_out s (Leave slot)) []
leaves s slot false e h = rw e (stays true s h)
leaves s slot true e h = rw e (settles s (vacated s slot) [] (ordered-vacated s slot h.ordered) (sym (append-nil s.waiting)) (inl refl) (omega arith))

bumps : (s : EpochState) (a : Action) (b : Bool) → nat_lt (length s.waiting) 16 ≡ b → IsTimely s → IsStep true s (after s (Bump a)) (let_out s (Bump a)) (put_in s (Bump a))
bumps s a false e h = rw e (stays true s h)
bumps s a true e h =
    let w : Waiting = record { epoch = s.epoch; action = a } in
    rw e (settles s (bumped s a) (record { epoch = s.epoch; action = a } ∷ []) (ordered-bumped s a h.ordered (ltb-true (length s.waiting) 16 e)) refl
    (inr (w, refl, refl, omega arith)) (omega arith))

pub step : (s : EpochState) (call : Call) → IsTimely s → IsStep (lets_out call) s (after s call) (let_out s call) (put_in s call)
step s Enter h = enters s (free_slot s) refl h
step s (Refresh slot) h = refreshes s slot (is_entered s slot) refl h
step s (Leave slot) h = leaves s slot (is_entered s slot) refl h
step s (Bump a) h = bumps s a (nat_lt (length s.waiting) 16) refl h
