-- Safe epochs, and lists along which epochs rise.
use Rattle.std.proofs.Common.{◌≡◌, ◌↔◌, ◌<◌, ◌≤◌, ℕ, zero, suc, true, not, List, [], ◌∷◌, Option, Some, None, refl, arith, take, drop, get_or, nat_lt}
use Rattle.std.specs.Prelude.{slice_get}
use Rattle.std.proofs.lemmas.Bool.{and_from, and_parts, ltb-true, lt-ltb}
use Rattle.std.specs.List.{All, filter, prefix_len}
use Rattle.fkv_epoch.specs.declared.actions.Waiting.{Waiting}
use Rattle.std.proofs.lemmas.List.Elements.{filter_passes}
use Rattle.fkv_epoch.specs.EpochState.{EpochState}
use Rattle.fkv_epoch.specs.Due.{due}
use Rattle.fkv_epoch.specs.SafeEpoch.{IsSafeEpoch, is_safe_epoch}
use Rattle.fkv_epoch.specs.Timely.{IsRising}
use Rattle.fkv_functions.proofs.ListLemmas.{PassesFirst, filter-front, filter-behind}

-- an epoch below a safe one is safe
pub safe-below : (slots : List (Option ℕ)) (c d : ℕ) → c ≤ d → is_safe_epoch slots d ≡ true → is_safe_epoch slots c ≡ true
safe-below [] c d l h = refl
safe-below (None ∷ slots) c d l h = safe-below slots c d l h
safe-below (Some e ∷ slots) c d l h =
    let parts = and_parts (nat_lt d e) (is_safe_epoch slots d) h in
    let above = ltb-true d e parts.0 in
    and_from (nat_lt c e) (is_safe_epoch slots c) (lt-ltb c e (omega arith)) (safe-below slots c d l parts.1)

-- what waits for a safe epoch stands first
pub safe-first : (slots : List (Option ℕ)) (ws : List Waiting) → IsRising ws → PassesFirst (λ w. is_safe_epoch slots w.epoch) ws
safe-first slots ws h = λ i j d l m s. let below = h i j d l m in safe-below slots (get_or ws i d).epoch (get_or ws j d).epoch (omega arith) s

pub due_front : (slots : List (Option ℕ)) (ws : List Waiting) → IsRising ws
    → filter (λ w. is_safe_epoch slots w.epoch) ws ≡ take (prefix_len (λ w. is_safe_epoch slots w.epoch) ws) ws
due_front slots ws h = filter-front (λ w. is_safe_epoch slots w.epoch) ws (safe-first slots ws h)

pub left_behind : (slots : List (Option ℕ)) (ws : List Waiting) → IsRising ws
    → filter (λ w. not (is_safe_epoch slots w.epoch)) ws ≡ drop (prefix_len (λ w. is_safe_epoch slots w.epoch) ws) ws
left_behind slots ws h = filter-behind (λ w. is_safe_epoch slots w.epoch) ws (safe-first slots ws h)

-- what the test means
pub safe-fact : (slots : List (Option ℕ)) (c : ℕ) → is_safe_epoch slots c ≡ true → (k e : ℕ) → slice_get slots k ≡ Some (Some e) → c < e
safe-fact [] c h k e g = cc
safe-fact (None ∷ slots) c h zero e g = cc
safe-fact (None ∷ slots) c h (suc k) e g = safe-fact slots c h k e g
safe-fact (Some d ∷ slots) c h zero e g =
    let same : d ≡ e = cc in
    rw (← same) (ltb-true c d (and_parts (nat_lt c d) (is_safe_epoch slots c) h).0)
safe-fact (Some d ∷ slots) c h (suc k) e g = safe-fact slots c (and_parts (nat_lt c d) (is_safe_epoch slots c) h).1 k e g

pub safe-test : (slots : List (Option ℕ)) (c : ℕ) → IsSafeEpoch slots c → is_safe_epoch slots c ≡ true
safe-test [] c h = refl
safe-test (None ∷ slots) c h = safe-test slots c (λ k e g. h (suc k) e g)
safe-test (Some d ∷ slots) c h = and_from (nat_lt c d) (is_safe_epoch slots c) (lt-ltb c d (h 0 d refl)) (safe-test slots c (λ k e g. h (suc k) e g))

pub safe-by-test : (slots : List (Option ℕ)) (c : ℕ) → (is_safe_epoch slots c ≡ true) ↔ IsSafeEpoch slots c
safe-by-test slots c = (safe-fact slots c, safe-test slots c)

-- what is due waits for a safe epoch
pub due-safe : (s : EpochState) → All (λ w. IsSafeEpoch s.slots w.epoch) (due s)
due-safe s = λ k d l. safe-fact s.slots (get_or (due s) k d).epoch (filter_passes (λ (w : Waiting). is_safe_epoch s.slots w.epoch) s.waiting k d l)
