-- What is run, and what waits to be run: offsets only rise, and views come to agree.
use Rattle.std.proofs.Common.{◌≡◌, ◌^◌, ◌<◌, ◌≤◌, inr, ℕ, zero, suc, List, [], ◌∷◌, ◌++◌, refl, sym, ◌∙◌, subst, arith, length, get_or}
use Rattle.std.specs.Prelude.{IsTrue}
use Rattle.std.specs.List.{All}
use Rattle.std.proofs.lemmas.Bool.{leb-true, le-leb}
use Rattle.std.proofs.lemmas.Nat.{pow_pos, mul-le}
use Rattle.std.proofs.Math.Nat.{mul-mod_left, le-div_iff_mul-le}
use Rattle.fkv_records.specs.Places.{page_at, start_at}
use Rattle.fkv_epoch.specs.declared.actions.Action.{Action}
use Rattle.fkv_epoch.specs.declared.actions.Action.TheVariants.{Safe, Closed}
use Rattle.fkv_epoch.specs.declared.actions.Waiting.{Waiting}
use Rattle.fkv_epoch.specs.Due.{actions_of}
use Rattle.fkv_regions.specs.declared.offsets.Offsets.{Offsets}
use Rattle.fkv_regions.specs.declared.offsets.View.{View}
use Rattle.fkv_regions.specs.Offsets.{ran, ran_all, has_seen}
use Rattle.fkv_regions.specs.Agree.{IsMark, IsInOrder, ViewAgrees, IsAhead, AreAhead, IsRaised}

-- what is run moves neither Head nor ReadOnly
pub head-ran : (o : Offsets) (ws : List Waiting) → (ran_all o (actions_of ws)).head ≡ o.head
head-ran o [] = refl
head-ran o (w ∷ ws) = head-ran (ran o w.action) ws ∙ by w.action
  where
    by : (a : Action) → (ran o a).head ≡ o.head
    by (Safe a) = refl
    by (Closed a) = refl

pub read_only-ran : (o : Offsets) (ws : List Waiting) → (ran_all o (actions_of ws)).read_only ≡ o.read_only
read_only-ran o [] = refl
read_only-ran o (w ∷ ws) = read_only-ran (ran o w.action) ws ∙ by w.action
  where
    by : (a : Action) → (ran o a).read_only ≡ o.read_only
    by (Safe a) = refl
    by (Closed a) = refl

-- running what is ahead keeps the order, and lets no offset fall
order-step : (bits flushed : ℕ) (o : Offsets) (a : Action) → IsInOrder bits flushed o → IsAhead bits o a → IsInOrder bits flushed (ran o a) × IsRaised o (ran o a)
order-step bits flushed o (Safe a) h w =
    let low : o.safe_read_only ≤ a = w.0 in
    let high : a ≤ o.read_only = w.1 in
    let at_flushed : start_at bits flushed ≤ o.safe_read_only = h.flushed_high in (
      record {
        first = h.first;
        closed = h.closed;
        head = omega arith;
        safe = high;
        most = h.most;
        flushed_low = h.flushed_low;
        flushed_high = omega arith;
        closed_mark = h.closed_mark;
        head_mark = h.head_mark;
        safe_mark = w.2;
        read_only_mark = h.read_only_mark;
      },
      record { closed = omega arith; head = omega arith; safe = low; read_only = omega arith },
    )
order-step bits flushed o (Closed a) h w =
    let low : o.closed ≤ a = w.0 in
    let high : a ≤ o.head = w.1 in (
      record {
        first = omega arith;
        closed = high;
        head = h.head;
        safe = h.safe;
        most = h.most;
        flushed_low = h.flushed_low;
        flushed_high = h.flushed_high;
        closed_mark = w.2;
        head_mark = h.head_mark;
        safe_mark = h.safe_mark;
        read_only_mark = h.read_only_mark;
      },
      record { closed = low; head = omega arith; safe = omega arith; read_only = omega arith },
    )

pub raised-then : (a b c : Offsets) → IsRaised a b → IsRaised b c → IsRaised a c
raised-then a b c g h =
    let g1 : a.closed ≤ b.closed = g.closed in
    let h1 : b.closed ≤ c.closed = h.closed in
    record { closed = omega arith; head = omega arith; safe = omega arith; read_only = omega arith }

pub order-ran : (bits flushed : ℕ) (o : Offsets) (ws : List Waiting) → IsInOrder bits flushed o → AreAhead bits o ws
    → IsInOrder bits flushed (ran_all o (actions_of ws)) × IsRaised o (ran_all o (actions_of ws))
order-ran bits flushed o [] h w = (h, record { closed = omega arith; head = omega arith; safe = omega arith; read_only = omega arith })
order-ran bits flushed o (x ∷ ws) h w =
    let step = order-step bits flushed o x.action h w.0 in
    let rest = order-ran bits flushed (ran o x.action) ws step.0 w.1 in
    (rest.0, raised-then o (ran o x.action) (ran_all (ran o x.action) (actions_of ws)) step.1 rest.1)

-- of two lists one after the other
pub ahead-split : (bits : ℕ) (o : Offsets) (vs ws : List Waiting) → AreAhead bits o (vs ++ ws) → AreAhead bits o vs × AreAhead bits (ran_all o (actions_of vs)) ws
ahead-split bits o [] ws h = (tt, h)
ahead-split bits o (v ∷ vs) ws h =
    let rest = ahead-split bits (ran o v.action) vs ws h.1 in
    ((h.0, rest.0), rest.1)

pub ahead-join : (bits : ℕ) (o : Offsets) (vs ws : List Waiting) → AreAhead bits o vs → AreAhead bits (ran_all o (actions_of vs)) ws → AreAhead bits o (vs ++ ws)
ahead-join bits o [] ws g h = h
ahead-join bits o (v ∷ vs) ws g h = (g.0, ahead-join bits (ran o v.action) vs ws g.1 h)

-- where Head or ReadOnly is higher
abbrev pub higher : Offsets → ℕ → ℕ → Offsets
higher o h r = record o { head = h; read_only = r }

ahead-step-higher : (bits : ℕ) (o : Offsets) (h r : ℕ) (a : Action) → o.head ≤ h → o.read_only ≤ r → IsAhead bits o a → IsAhead bits (higher o h r) a
ahead-step-higher bits o h r (Safe a) p q w = let m : a ≤ o.read_only = w.1 in (w.0, omega arith, w.2)
ahead-step-higher bits o h r (Closed a) p q w = let m : a ≤ o.head = w.1 in (w.0, omega arith, w.2)

ran-higher : (o : Offsets) (h r : ℕ) (a : Action) → ran (higher o h r) a ≡ higher (ran o a) h r
ran-higher o h r (Safe a) = refl
ran-higher o h r (Closed a) = refl

ran-heads : (o : Offsets) (a : Action) → ((ran o a).head ≡ o.head) × ((ran o a).read_only ≡ o.read_only)
ran-heads o (Safe a) = (refl, refl)
ran-heads o (Closed a) = (refl, refl)

pub ahead-higher : (bits : ℕ) (o : Offsets) (h r : ℕ) (ws : List Waiting) → o.head ≤ h → o.read_only ≤ r → AreAhead bits o ws → AreAhead bits (higher o h r) ws
ahead-higher bits o h r [] p q w = tt
ahead-higher bits o h r (x ∷ ws) p q w =
    let e = ran-heads o x.action in (
      ahead-step-higher bits o h r x.action p q w.0,
      subst (λ (n : Offsets). AreAhead bits n ws) (sym (ran-higher o h r x.action)) (ahead-higher bits (ran o x.action) h r ws (rw e.0 p) (rw e.1 q) w.1),
    )

-- the view of now has all that waits
now-step : (bits : ℕ) (o : Offsets) (v : View) (a : Action) → v.head ≡ o.head → v.read_only ≡ o.read_only → IsAhead bits o a → IsTrue (has_seen v a)
now-step bits o v (Safe a) e f w = le-leb a v.read_only (let m : a ≤ o.read_only = w.1 in omega arith)
now-step bits o v (Closed a) e f w = le-leb a v.head (let m : a ≤ o.head = w.1 in omega arith)

all-cons : (P : Waiting → Type 0) (w : Waiting) (ws : List Waiting) → P w → All P ws → All P (w ∷ ws)
all-cons P w ws p h = λ k d l. by k d l
  where
    by : (k : ℕ) (d : Waiting) → k < length (w ∷ ws) → P (get_or (w ∷ ws) k d)
    by zero d l = p
    by (suc k) d l = h k d (omega arith)

pub now-sees : (bits : ℕ) (o : Offsets) (v : View) (ws : List Waiting) → v.head ≡ o.head → v.read_only ≡ o.read_only → AreAhead bits o ws → All (λ w. IsTrue (has_seen v w.action)) ws
now-sees bits o v [] e f h = λ k d l. absurd (omega arith)
now-sees bits o v (w ∷ ws) e f h =
    let g = ran-heads o w.action in
    all-cons (λ x. IsTrue (has_seen v x.action)) w ws (now-step bits o v w.action e f h.0) (now-sees bits (ran o w.action) v ws (e ∙ sym g.0) (f ∙ sym g.1) h.1)

-- a view that has all that is run agrees then too
view-step : (bits : ℕ) (o : Offsets) (v : View) (a : Action) → IsAhead bits o a → IsTrue (has_seen v a) → ViewAgrees o v → ViewAgrees (ran o a) v
view-step bits o v (Safe a) w s h =
    let low : o.safe_read_only ≤ a = w.0 in
    let m : a ≤ v.read_only = leb-true a v.read_only s in
    record { mutable = m; safe = omega arith; closed = h.closed; head = h.head }
view-step bits o v (Closed a) w s h =
    record { mutable = h.mutable; safe = h.safe; closed = leb-true a v.head s; head = h.head }

pub view-ran : (bits : ℕ) (o : Offsets) (v : View) (ws : List Waiting) → AreAhead bits o ws → All (λ w. IsTrue (has_seen v w.action)) ws → ViewAgrees o v
    → ViewAgrees (ran_all o (actions_of ws)) v
view-ran bits o v [] w s h = h
view-ran bits o v (x ∷ ws) w s h =
    view-ran bits (ran o x.action) v ws w.1 (λ k d l. s (suc k) d (omega arith)) (view-step bits o v x.action w.0 (s 0 x (omega arith)) h)

-- a page starts at a mark, and no higher than an address of it or of a page above
pub start-below : (bits page a : ℕ) → page ≤ page_at bits a → start_at bits page ≤ a
start-below bits page a h = (le-div_iff_mul-le {k = 2 ^ bits} {x = page} {y = a} (pow_pos bits)).0 h

pub start-mark : (bits page : ℕ) → IsMark bits (start_at bits page)
start-mark bits page = inr (mul-mod_left page (2 ^ bits))

pub starts-rise : (bits m n : ℕ) → m ≤ n → start_at bits m ≤ start_at bits n
starts-rise bits m n h = grind (arith, mul-le)
