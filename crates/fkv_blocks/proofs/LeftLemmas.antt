-- What a feed in blocks has left.
use Rattle.std.proofs.Common.{◌≡◌, ◌+◌, ◌-◌, ◌^◌, ◌≤◌, ◌⊎◌, inl, inr, Result, Err, ℕ, List, [], ◌∷◌, ◌++◌, Option, Some, None, refl, sym, ap, subst, ◌∙◌, arith, length, take, drop, take_all, length-drop, length-append, append-nil, drop-drop, zero, suc, Bool, true, false, cond, get_or, IsTrue}
use Rattle.std.specs.Prelude.{option_map, IfSome, IfNone}
use Rattle.std.specs.Io.KnownBytes.{IsAtEnd, Keeps, prepend_known}
use Rattle.std.proofs.lemmas.List.{take-append-le}
use Rattle.fkv_blocks.specs.Cutting.{IsBetween, IsCut, block_of, state_after}
use Rattle.csv.specs.Reading.{is_bom, strip_bom}
use Rattle.csv.specs.declared.parser.State.TheVariants as st
use Rattle.fkv_blocks.proofs.CutLemmas.{cut_more}
use Rattle.fkv_functions.specs.declared.refusals.Refused.{Refused}
use Rattle.fkv_functions.specs.declared.refusals.Refused.TheVariants.{NoMemory, Unreadable}
use Rattle.fkv_streams.specs.Counting.{CountsOnly, one_more}
use Rattle.fkv_blocks.specs.Left.{BlocksView, EndsAt, HasFailed, HasLeft, IsBlockOf, IsNext, IsUntaken, IsWide, Stands, number_of}

pub left_kept : (text : Option (List ℕ)) (at : ℕ) (a b : Option (List ℕ)) → HasLeft text at a → Keeps a b → HasLeft text at b
left_kept None at a b h k = tt
left_kept (Some t) at None b h k = absurd h
left_kept (Some t) at (Some x) None h k = absurd k
left_kept (Some t) at (Some x) (Some y) h k = (k ∙ h.0, h.1)

drop-front : (n : ℕ) (xs ys : List ℕ) → n ≤ length xs → drop n (xs ++ ys) ≡ drop n xs ++ ys
drop-front zero xs ys le = refl
drop-front (suc n) [] ys le = absurd (omega (arith, le))
drop-front (suc n) (x ∷ xs) ys le = drop-front n xs ys (omega (arith, le))

module _ (t : List ℕ) (at : ℕ) (held rest : List ℕ) (left : held ++ rest ≡ drop at t) (cut : IsCut t at) (n : ℕ) (here : IsCut held n) where
  front : take n (drop at t) ≡ take n held
  front = ap (take n) (sym left) ∙ take-append-le n held rest here.0

  block : take n held ≡ block_of t at (at + n)
  block = (let same : at + n - at ≡ n = omega arith in sym (ap (λ m. take m (drop at t)) same ∙ front))

  within : at + n ≤ length t
  within = omega (arith, length-drop at t, ap length left, length-append held rest, here.0, cut.0)

  next : IsCut t (at + n)
  next = cut_more t at n cut within (subst (λ xs. IsBetween (state_after st.StartRecord xs)) (sym front) here.1)

  rest_is : drop n held ++ rest ≡ drop (at + n) t
  rest_is = sym (drop-front n held rest here.0) ∙ (ap (drop n) left ∙ drop-drop n at t)

pub left_block : (text : Option (List ℕ)) (at : ℕ) (held : List ℕ) (rem : Option (List ℕ)) (n : ℕ) → HasLeft text at (prepend_known held rem) → IsCut held n
    → IsBlockOf text (take n held) at (at + n)
left_block None at held rem n h c = tt
left_block (Some t) at held None n h c = absurd h
left_block (Some t) at held (Some rest) n h c = (block t at held rest h.0 h.1 n c, omega arith, h.1, inl c.1)

pub left_next : (text : Option (List ℕ)) (at : ℕ) (held : List ℕ) (rem : Option (List ℕ)) (n : ℕ) → HasLeft text at (prepend_known held rem) → IsCut held n
    → HasLeft text (at + n) (prepend_known (drop n held) rem)
left_next None at held rem n h c = tt
left_next (Some t) at held None n h c = absurd h
left_next (Some t) at held (Some rest) n h c = (rest_is t at held rest h.0 h.1 n c, next t at held rest h.0 h.1 n c)

pub left_last : (text : Option (List ℕ)) (at : ℕ) (held : List ℕ) (rem : Option (List ℕ)) → HasLeft text at (prepend_known held rem) → IsAtEnd rem
    → IsBlockOf text held at (at + length held) × EndsAt text (at + length held)
left_last None at held rem h e = (tt, tt)
left_last (Some t) at held None h e = absurd h
left_last (Some t) at held (Some rest) h e =
    let all : held ≡ drop at t = sym (rw e (append-nil held)) ∙ h.0 in
    let long = length-drop at t in
    let size : length held ≡ length (drop at t) = ap length all in
    let same : at + length held - at ≡ length held = omega arith in (
      (
        all ∙ sym (ap (λ m. take m (drop at t)) same ∙ take_all (length held) (drop at t) (omega (arith, size))),
        omega arith,
        h.1,
        inr (omega (arith, long, size, h.1.0)),
      ),
      omega (arith, long, size, h.1.0),
    )

-- ---- a feed in blocks, from one call to the next
module _ (text : Option (List ℕ)) (at : ℕ) (held : List ℕ) (left : Option (List ℕ)) where
  pub on_going : (over : Bool) (stopped : Option Refused) → Stands text over stopped at held left → over ≡ false → stopped ≡ None → HasLeft text at (prepend_known held left)
  on_going true stopped s o n = absurd (cc)
  on_going false None s o n = s
  on_going false (Some why) s o n = absurd (cc)

  pub has_front : (over : Bool) (stopped : Option Refused) → Stands text over stopped at held left → over ≡ false → (rest : Option (List ℕ)) × HasLeft text at (prepend_known held rest)
  has_front true stopped s o = absurd (cc)
  has_front false None s o = (left, s)
  has_front false (Some why) s o = s

  -- more of it is read
  pub reads_on : (over : Bool) (stopped : Option Refused) (more : List ℕ) (then : Option (List ℕ)) → Stands text over stopped at held left → over ≡ false → stopped ≡ None → Keeps (prepend_known held left) (prepend_known more then) → Stands text over stopped at more then
  reads_on true stopped more then s o n k = absurd (cc)
  reads_on false None more then s o n k = left_kept text at (prepend_known held left) (prepend_known more then) s k
  reads_on false (Some why) more then s o n k = absurd (cc)

  -- or its stream fails
  pub stops : (over : Bool) (stopped : Option Refused) (why : Refused) (more : List ℕ) (then : Option (List ℕ)) → Stands text over stopped at held left → over ≡ false → stopped ≡ None → (rest : Option (List ℕ)) → Keeps (prepend_known held left) (prepend_known more rest) → Stands text over (Some why) at more then
  stops true stopped why more then s o n rest k = absurd (cc)
  stops false None why more then s o n rest k = (rest, left_kept text at (prepend_known held left) (prepend_known more rest) s k)
  stops false (Some w) why more then s o n rest k = absurd (cc)

  module _ (size : ℕ) where
    last_is : HasLeft text at (prepend_known held left) → size ≡ length held → IsAtEnd left → IsBlockOf text held at (at + size) × EndsAt text (at + size)
    last_is h long end = rw long (left_last text at held left h end)

    -- a block of it is handed out
    pub block_by : (over : Bool) (stopped : Option Refused) (b : BlocksView) (last : Bool) (high : ℕ) (block : List ℕ) → Stands text over stopped at held left → over ≡ false → IsNext b size last → b.held ≡ held → b.stopped ≡ stopped → b.left ≡ left → high ≡ at + size → block ≡ take size held → IsBlockOf text block at high
    block_by over stopped b true high block s o n h t l is taken =
        let long : size ≡ length held = n.0 ∙ ap length h in
        let all : block ≡ held = taken ∙ take_all size held (omega (arith, long)) in
        rw (is, all) (last_is (on_going over stopped s o (sym t ∙ n.1)) long (subst IsAtEnd l n.2)).0
    block_by over stopped b false high block s o n h t l is taken =
        let front = has_front over stopped s o in
        rw (is, taken) (left_block text at held front.0 size front.1 (subst (λ xs. IsCut xs size) h n.1))

    pub stands_by : (over : Bool) (stopped : Option Refused) (b : BlocksView) (last : Bool) (high : ℕ) (kept : List ℕ) → Stands text over stopped at held left → over ≡ false → IsNext b size last → b.held ≡ held → b.stopped ≡ stopped → b.left ≡ left → high ≡ at + size → kept ≡ drop size held → Stands text last stopped high kept left
    stands_by over stopped b true high kept s o n h t l is rest = rw is (last_is (on_going over stopped s o (sym t ∙ n.1)) (n.0 ∙ ap length h) (subst IsAtEnd l n.2)).1
    stands_by over stopped b false high kept s o n h t l is rest = by over stopped s o
      where
        cut : IsCut held size
        cut = subst (λ xs. IsCut xs size) h n.1

        by : (over : Bool) (stopped : Option Refused) → Stands text over stopped at held left → over ≡ false → Stands text false stopped high kept left
        by true stopped s o = absurd (cc)
        by false None s o = rw (is, rest) (left_next text at held left size s cut)
        by false (Some why) s o = (s.0, rw (is, rest) (left_next text at held s.0 size s.1 cut))

    pub next_within : (b : BlocksView) (last : Bool) → IsNext b size last → b.held ≡ held → size ≤ length held
    next_within b true n h = omega (arith, n.0, ap length h)
    next_within b false n h = (subst (λ xs. IsCut xs size) h n.1).0

    pub next_last : (b : BlocksView) (last : Bool) → IsNext b size last → size ≡ 0 → last ≡ true
    next_last b true n e = refl
    next_last b false n e = absurd (omega (arith, n.0, e))

    wide_known : (rest : Option (List ℕ)) → HasLeft text at (prepend_known held rest) → size ≤ length held → 2 ^ 64 ≤ at + size → IsWide text
    wide_known rest h low more = by text rest h
      where
        by : (o : Option (List ℕ)) (rest : Option (List ℕ)) → HasLeft o at (prepend_known held rest) → IsWide o
        by None rest h = tt
        by (Some t) None h = absurd h
        by (Some t) (Some r) h =
            let behind : length (held ++ r) ≡ length (drop at t) = ap length h.0 in
            omega (arith, behind, length-append held r, length-drop at t, h.1.0, low)

    -- it is too wide
    pub wide_by : (over : Bool) (stopped : Option Refused) → Stands text over stopped at held left → over ≡ false → size ≤ length held → 2 ^ 64 ≤ at + size → IsWide text
    wide_by over stopped s o low more = let front = has_front over stopped s o in wide_known front.0 front.1 low more

-- ---- how often its stream failed
pub stop_counted : {T : Type 0} (place before now then : ℕ) (stopped : Option Refused) (refused told : Refused) (r : Result T Refused) → HasFailed place before now stopped → stopped ≡ None → r ≡ Err refused → CountsOnly (Unreadable 1) r now then
    → (refused ≡ NoMemory) ⊎ (refused ≡ Unreadable 1)
    → (refused ≡ NoMemory → told ≡ NoMemory)
    → (refused ≡ Unreadable 1 → told ≡ Unreadable (number_of place))
    → HasFailed place before then (Some told)
stop_counted place before now then (Some why) refused told r h n is counts only memory failed = absurd (cc)
stop_counted {T} place before now then None refused told r h n is counts (inl e) memory failed =
    let other : r ≡ Err (Unreadable 1) → ⊥ = λ q. cc in
    subst (λ w. HasFailed place before then (Some w)) (sym (memory e)) (counts.steady other ∙ h)
stop_counted place before now then None refused told r h n is counts (inr e) memory failed =
    subst (λ w. HasFailed place before then (Some w)) (sym (failed e)) (refl, counts.counted (is ∙ ap Err e) ∙ ap one_more h)

pub untaken_by : (feeds : List (Option (List ℕ))) (place low before now : ℕ) (why : Refused) (has_failed : Bool) → HasFailed place before now (Some why)
    → ((n : ℕ) → why ≡ Unreadable n → has_failed ≡ true)
    → IsUntaken feeds (record { feed = place; low = low; refused = why; has_failed = has_failed })
untaken_by feeds place low before now NoMemory has_failed h is = IsUntaken.memory refl
untaken_by feeds place low before now (Unreadable n) has_failed h is = IsUntaken.failed (ap Unreadable h.0) (is n refl)
untaken_by feeds place low before now other has_failed h is = absurd h

-- before its first block
pub begins : (known left : Option (List ℕ)) → Keeps (option_map strip_bom known) left → HasLeft (option_map strip_bom known) 0 left
begins None left k = tt
begins (Some t) None k = absurd k
begins (Some t) (Some l) k = (k, (omega arith, refl))

pub begins_nowhere : (text : Option (List ℕ)) → HasLeft text 0 (prepend_known [] text)
begins_nowhere None = tt
begins_nowhere (Some t) = (refl, (omega arith, refl))

-- ---- a byte order mark
pub strip_at : (l : List ℕ) → 3 ≤ length l → strip_bom l ≡ cond (is_bom (get_or l 0 0) (get_or l 1 0) (get_or l 2 0)) (drop 3 l) l
unfolding strip_bom
strip_at [] h = absurd (omega (arith, h))
strip_at (a ∷ []) h = absurd (omega (arith, h))
strip_at (a ∷ b ∷ []) h = absurd (omega (arith, h))
strip_at (a ∷ b ∷ c ∷ rest) h = refl

strip_front : (xs ys : List ℕ) → 3 ≤ length xs → strip_bom xs ++ ys ≡ strip_bom (xs ++ ys)
unfolding strip_bom
strip_front [] ys h = absurd (omega (arith, h))
strip_front (a ∷ []) ys h = absurd (omega (arith, h))
strip_front (a ∷ b ∷ []) ys h = absurd (omega (arith, h))
strip_front (a ∷ b ∷ c ∷ rest) ys h = both (is_bom a b c)
  where
    both : (t : Bool) → cond t rest (a ∷ b ∷ c ∷ rest) ++ ys ≡ cond t (rest ++ ys) (a ∷ b ∷ c ∷ (rest ++ ys))
    both true = refl
    both false = refl

long_or_end : (over : Bool) (n : ℕ) (End : Type 0) → (over ≡ false → 3 ≤ n) → (IsTrue over → End) → (3 ≤ n) ⊎ End
long_or_end true n End long end = inr (end refl)
long_or_end false n End long end = inl (long refl)

pub mark_kept : (old new : Option (List ℕ)) (first : List ℕ) (over : Bool) → Keeps (prepend_known [] old) (prepend_known first new)
    → (over ≡ false → 3 ≤ length first)
    → (IsTrue over → IsAtEnd new)
    → Keeps (option_map strip_bom old) (prepend_known (strip_bom first) new)
mark_kept None new first over k long end = tt
mark_kept (Some x) None first over k long end = absurd k
mark_kept (Some x) (Some y) first over k long end =
    elim (long_or_end over (length first) (y ≡ []) long end) [
      | inl h ↦ strip_front first y h ∙ ap strip_bom k
      | inr e ↦ (
          let all : first ≡ x = sym (append-nil first) ∙ (ap (λ ys. first ++ ys) (sym e) ∙ k) in
          ap (λ ys. strip_bom first ++ ys) e ∙ (append-nil (strip_bom first) ∙ ap strip_bom all)
          )
    ]

-- ---- its first bytes
module _ (text : Option (List ℕ)) (over : Bool) (stopped : Option Refused) (at : ℕ) (held : List ℕ) (left : Option (List ℕ)) (on : over ≡ false) (front : at ≡ 0) where
  pub starts : stopped ≡ None → HasLeft text 0 (prepend_known held left) → Stands text over stopped at held left
  starts none h = rw (on, none, front) h

  pub starts_nowhere : (why : Refused) → held ≡ [] → Stands text over (Some why) at held left
  starts_nowhere why none = rw (on, front, none) (text, begins_nowhere text)

-- ---- where a block lies, if it has a byte
pub some_is : {X : Type 0} (P : X → Type 0) (r : X) (found : Option X) → IfSome found (λ p. p ≡ r) → P r → IfSome found P
some_is P r None is h = tt
some_is P r (Some x) is h = subst P (sym is) h

pub none_is : {X : Type 0} (A B : Type 0) (found : Option X) → IfNone found A → (A → B) → IfNone found B
none_is A B None a f = f a
none_is A B (Some x) a f = tt
