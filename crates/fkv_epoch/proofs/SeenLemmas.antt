-- What waits agrees with what the sessions have seen.
use Rattle.std.proofs.Common.{◌≡◌, ◌≢◌, ◌<◌, ℕ, Bool, not, List, Option, Some, None, ◌⊎◌, inl, inr, sym, ◌∙◌, arith, length, get_or, set}
use Rattle.std.specs.Prelude.{slice_get, IsTrue}
use Rattle.std.proofs.lemmas.List.Elements.{All-nil, All-push, All-filter, filter_passes}
use Rattle.std.specs.List.{All}
use Rattle.fkv_epoch.specs.declared.actions.Action.{Action}
use Rattle.fkv_epoch.specs.declared.actions.Waiting.{Waiting}
use Rattle.fkv_epoch.specs.EpochState.{EpochState}
use Rattle.fkv_epoch.specs.SafeEpoch.{is_safe_epoch}
use Rattle.fkv_epoch.specs.Due.{due, settled}
use Rattle.fkv_epoch.specs.Moves.{fresh, renewed, vacated, bumped}
use Rattle.fkv_epoch.specs.Timely.{IsOrdered}
use Rattle.fkv_epoch.specs.Seen.{SeenByAll, WaitsAgree, IsSeenFirst}
use Rattle.fkv_epoch.proofs.SafeLemmas.{safe-fact}
use Rattle.std.proofs.lemmas.Bool.{cases_eq}
use Rattle.fkv_functions.proofs.ListLemmas.{get-set_cases, get-set_other}

-- a session whose epoch is greater than c has seen the action
abbrev SeenFrom : (ℕ → Action → Type 0) → List (Option ℕ) → ℕ → Action → Type 0
SeenFrom Seen slots c a = (slot e : ℕ) → slice_get slots slot ≡ Some (Some e) → c < e → Seen slot a

pub agree-fresh : (Seen : ℕ → Action → Type 0) → WaitsAgree Seen fresh
agree-fresh Seen = record { agree = All-nil (λ (w : Waiting). SeenFrom Seen fresh.slots w.epoch w.action) }

-- a session that enters or refreshes, and sees all that waits
pub agree-renewed : (Seen Now : ℕ → Action → Type 0) (s : EpochState) (slot : ℕ) → WaitsAgree Seen s → ((i : ℕ) (a : Action) → i ≢ slot → Seen i a → Now i a)
    → All (λ w. Now slot w.action) s.waiting → WaitsAgree Now (renewed s slot)
agree-renewed Seen Now s slot h others sees = record {
  agree = λ k d l i e g m. by k d l i e g m (cases_eq i slot);
}
  where
    by : (k : ℕ) (d : Waiting) → k < length s.waiting → (i e : ℕ) → slice_get (set s.slots slot (Some s.epoch)) i ≡ Some (Some e) → (get_or s.waiting k d).epoch < e
        → (i ≡ slot) ⊎ (i ≢ slot) → Now i (get_or s.waiting k d).action
    by k d l i e g m (inl same) = rw same (sees k d l)
    by k d l i e g m (inr other) = others i (get_or s.waiting k d).action other (h.agree k d l i e (sym (get-set_other s.slots slot i (Some s.epoch) other) ∙ g) m)

-- a session that leaves
pub agree-vacated : (Seen : ℕ → Action → Type 0) (s : EpochState) (slot : ℕ) → WaitsAgree Seen s → WaitsAgree Seen (vacated s slot)
agree-vacated Seen s slot h = record {
  agree = λ k d l i e g m. h.agree k d l i e (elim (get-set_cases s.slots slot i None (Some e) g) [ inl bad ↦ absurd (cc) | inr old ↦ old ]) m;
}

-- a new action: no session has a greater epoch yet
pub agree-bumped : (Seen : ℕ → Action → Type 0) (s : EpochState) (a : Action) → IsOrdered s → WaitsAgree Seen s → WaitsAgree Seen (bumped s a)
agree-bumped Seen s a o h = record {
  agree = All-push (λ (w : Waiting). SeenFrom Seen s.slots w.epoch w.action) s.waiting (record { epoch = s.epoch; action = a }) h.agree
      (λ slot e g m. let most = o.entered slot e g in absurd (omega arith));
}

-- what waits on
pub agree-settled : (Seen : ℕ → Action → Type 0) (s : EpochState) → WaitsAgree Seen s → WaitsAgree Seen (settled s)
agree-settled Seen s h = record {
  agree = All-filter (λ w. not (is_safe_epoch s.slots w.epoch)) (λ (w : Waiting). SeenFrom Seen s.slots w.epoch w.action) s.waiting h.agree;
}

-- what comes out was seen by each session
pub seen-due : (Seen : ℕ → Action → Type 0) (s : EpochState) → WaitsAgree Seen s → All (λ w. SeenByAll Seen s.slots w.action) (due s)
seen-due Seen s h = λ k d l slot e g.
    let safe = filter_passes (λ (w : Waiting). is_safe_epoch s.slots w.epoch) s.waiting k d l in
    let after = All-filter (λ w. is_safe_epoch s.slots w.epoch) (λ (w : Waiting). SeenFrom Seen s.slots w.epoch w.action) s.waiting h.agree k d l in
    after slot e g (safe-fact s.slots (get_or (due s) k d).epoch safe slot e g)

pub seen-first : (seen now : ℕ → Action → Bool) → IsSeenFirst seen now
seen-first seen now = record {
  start = agree-fresh (λ slot a. IsTrue (seen slot a));
  renewal = λ s slot h others sees. agree-renewed (λ i a. IsTrue (seen i a)) (λ i a. IsTrue (now i a)) s slot h others sees;
  vacation = λ s slot h. agree-vacated (λ i a. IsTrue (seen i a)) s slot h;
  bump = λ s a o h. agree-bumped (λ i a. IsTrue (seen i a)) s a o h;
  left = λ s h. agree-settled (λ i a. IsTrue (seen i a)) s h;
  out = λ s h. seen-due (λ i a. IsTrue (seen i a)) s h;
}
