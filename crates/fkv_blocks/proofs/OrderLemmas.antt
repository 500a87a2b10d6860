-- Blocks that several workers read, in the order of their text.
use Rattle.std.proofs.Common.{◌≡◌, ◌+◌, ◌<◌, ◌≤◌, ◌==◌, inl, inr, ℕ, zero, suc, List, [], ◌∷◌, ◌++◌, length, map, take, get_or, slice_set, refl, sym, ap, subst, ◌∙◌, arith}
use Rattle.std.specs.List.{filter}
use Rattle.std.proofs.lemmas.Bool.{cases_eq, cond-false, cond-true, eq-eqb, ne_eqb}
use Rattle.std.proofs.lemmas.List.{append-nil, get_or-map, get_or-set_same, get_or-set_other, map-append, map-set, map_push, take_more, get_or_append_left, get_or_push}
use Rattle.std.proofs.lemmas.List.Elements.{All-nil, All-cons, All-head, All-tail, filter_more}
use Rattle.fkv_blocks.specs.Spans.{Chains}
use Rattle.fkv_blocks.specs.declared.orders.Taken.{Taken}
use Rattle.fkv_blocks.specs.declared.spans.Span.{Span}
use Rattle.fkv_blocks.specs.declared.spans.Ticket.{Ticket}
use Rattle.fkv_blocks.specs.Orders.{BeginsAt, IsNext, IsOrder, spans_by, spans_in}

abbrev pub Lists : Type 0
Lists = List (List Span)

abbrev pub spans_of : List Taken → List Span
spans_of order = map (λ t. t.span) order

head_is : {X : Type 0} (x y : X) (xs ys : List X) → x ∷ xs ≡ y ∷ ys → x ≡ y
head_is x y xs ys is = cc

tail_is : {X : Type 0} (x y : X) (xs ys : List X) → x ∷ xs ≡ y ∷ ys → xs ≡ ys
tail_is x y xs ys is = cc

chain_rises : (low high : ℕ) (spans : List Span) → Chains low spans high → low ≤ high
chain_rises low high [] chain = (let same : low ≡ high = chain in omega (arith, same))
chain_rises low high (s ∷ spans) chain = (let rest = chain_rises s.high high spans chain.2 in omega (arith, chain.1, rest))

pub by_here : (w : ℕ) (t : Taken) (order : List Taken) → t.worker ≡ w → spans_by w (t ∷ order) ≡ t.span ∷ spans_by w order
by_here w t order e = rw (eq-eqb t.worker w e) refl

pub by_other : (w : ℕ) (t : Taken) (order : List Taken) → (t.worker ≡ w → ⊥) → spans_by w (t ∷ order) ≡ spans_by w order
by_other w t order ne = rw (ne_eqb t.worker w ne) refl

-- what a worker has first lies behind the start
first_low : (w low high : ℕ) (order : List Taken) (s : Span) (rest : List Span) → Chains low (spans_of order) high → spans_by w order ≡ s ∷ rest → low ≤ s.low
first_low w low high [] s rest chain is = absurd (cc)
first_low w low high (t ∷ order) s rest chain is = elim (cases_eq t.worker w) [
  | inl e ↦ (
      let same = head_is t.span s (spans_by w order) rest (sym (by_here w t order e) ∙ is) in
      let low_is = ap (λ (x : Span). x.low) same in
      omega (arith, low_is, chain.0)
      )
  | inr ne ↦ (
      let later = first_low w t.span.high high order s rest chain.2 (sym (by_other w t order ne) ∙ is) in
      omega (arith, chain.1, later)
      )
]

pub begins_inside : (at : ℕ) (lists : Lists) (w : ℕ) → BeginsAt at (get_or lists w []) → w < length lists
begins_inside at [] w b = absurd b
begins_inside at (l ∷ lists) zero b = omega arith
begins_inside at (l ∷ lists) (suc w) b = (let lt = begins_inside at lists w b in omega (arith, lt))

pub begins_some : (at : ℕ) (spans : List Span) → BeginsAt at spans → 0 < length spans
begins_some at [] b = absurd b
begins_some at (s ∷ spans) b = omega arith

-- ---- what goes on at a place is taken off its list: an order of all begins with it
module _ (low high : ℕ) (lists : Lists) (t : Taken) (left : Lists) (next : IsNext low lists t left) where
  inside : t.worker < length lists
  inside = begins_inside low lists t.worker (subst (BeginsAt low) (sym next.here) (next.low, next.high))

  left_here : get_or left t.worker [] ≡ next.rest
  left_here = ap (λ ls. get_or ls t.worker []) next.left_is ∙ get_or-set_same lists t.worker next.rest [] inside

  left_other : (w : ℕ) → (w ≡ t.worker → ⊥) → get_or left w [] ≡ get_or lists w []
  left_other w ne = ap (λ ls. get_or ls w []) next.left_is ∙ get_or-set_other lists t.worker w next.rest [] ne

  pub order_more : (order : List Taken) → IsOrder t.span.high high left order → IsOrder low high lists (t ∷ order)
  order_more order o = record {
    chain = (next.low, omega (arith, next.high), o.chain);
    wide = All-cons (λ (u : Taken). u.span.low < u.span.high) t order (omega (arith, next.low, next.high)) o.wide;
    held = held;
  }
    where
      held : (w : ℕ) → spans_by w (t ∷ order) ≡ get_or lists w []
      held w = elim (cases_eq t.worker w) [
        | inl e ↦ subst (λ v. spans_by v (t ∷ order) ≡ get_or lists v []) e
            (by_here t.worker t order refl ∙ (ap (λ l. t.span ∷ l) (o.held t.worker ∙ left_here) ∙ sym next.here))
        | inr ne ↦ by_other w t order ne ∙ (o.held w ∙ left_other w (λ e. ne (sym e)))
      ]

  pub order_less : (order : List Taken) → IsOrder low high lists order → (rest : List Taken) × IsOrder t.span.high high left rest
  order_less [] o = (let is : [] ≡ t.span ∷ next.rest = o.held t.worker ∙ next.here in absurd (cc))
  order_less (u ∷ order) o = elim (cases_eq u.worker t.worker) [ inl e ↦ (order, mine e) | inr ne ↦ absurd (others ne) ]
    where
      wide : u.span.low < u.span.high
      wide = All-head (λ (v : Taken). v.span.low < v.span.high) u order o.wide

      -- it is the first of the order
      mine : u.worker ≡ t.worker → IsOrder t.span.high high left order
      mine e =
          let here : u.span ∷ spans_by t.worker order ≡ t.span ∷ next.rest = sym (by_here t.worker u order e) ∙ (o.held t.worker ∙ next.here) in
          let same = head_is u.span t.span (spans_by t.worker order) next.rest here in
          let rest = tail_is u.span t.span (spans_by t.worker order) next.rest here in
          record {
            chain = subst (λ (s : Span). Chains s.high (spans_of order) high) same o.chain.2;
            wide = All-tail (λ (v : Taken). v.span.low < v.span.high) u order o.wide;
            held = λ w. elim (cases_eq t.worker w) [
              | inl is ↦ subst (λ v. spans_by v order ≡ get_or left v []) is (rest ∙ sym left_here)
              | inr ne ↦ sym (by_other w u order (λ is. ne (sym e ∙ is))) ∙ (o.held w ∙ sym (left_other w (λ is. ne (sym is))))
            ];
          }

      -- of another worker there can be none before it
      others : (u.worker ≡ t.worker → ⊥) → ⊥
      others ne =
          let later : spans_by t.worker order ≡ t.span ∷ next.rest = sym (by_other t.worker u order ne) ∙ (o.held t.worker ∙ next.here) in
          let behind = first_low t.worker u.span.high high order t.span next.rest o.chain.2 later in
          omega (arith, behind, wide, o.chain.0, next.low)

-- ---- where nothing goes on
pub order_over : (at : ℕ) (lists : Lists) → ((w : ℕ) → get_or lists w [] ≡ []) → IsOrder at at lists []
order_over at lists none = record { chain = refl; wide = All-nil (λ (u : Taken). u.span.low < u.span.high); held = λ w. sym (none w) }

pub order_none : (at high : ℕ) (lists : Lists) → at < high → ((w : ℕ) → BeginsAt at (get_or lists w []) → ⊥) → (order : List Taken) → IsOrder at high lists order → ⊥
order_none at high lists lt none [] o = (let same : at ≡ high = o.chain in omega (arith, lt, same))
order_none at high lists lt none (u ∷ order) o =
    let here : u.span ∷ spans_by u.worker order ≡ get_or lists u.worker [] = sym (by_here u.worker u order refl) ∙ o.held u.worker in
    let wide = All-head (λ (v : Taken). v.span.low < v.span.high) u order o.wide in
    none u.worker (subst (BeginsAt at) here (o.chain.0, omega (arith, wide, o.chain.0)))

pub order_end : (at high : ℕ) (lists : Lists) → high ≤ at → (order : List Taken) → IsOrder at high lists order → (at ≡ high) × ((w : ℕ) → get_or lists w [] ≡ [])
order_end at high lists le [] o = (o.chain, λ w. sym (o.held w))
order_end at high lists le (u ∷ order) o =
    let wide = All-head (λ (v : Taken). v.span.low < v.span.high) u order o.wide in
    let rises = chain_rises u.span.high high (spans_of order) o.chain.2 in
    absurd (omega (arith, le, wide, rises, o.chain.0))

-- ---- of queues
pub begun_is : (at : ℕ) (spans : List Span) (s : Span) → 0 < length spans → s ≡ get_or spans 0 s → s.low ≡ at → at < s.high → BeginsAt at spans
begun_is at [] s some is low high = absurd (omega (arith, some))
begun_is at (t ∷ spans) s some is low high = (ap (λ (x : Span). x.low) (sym is) ∙ low, (let high_is = ap (λ (x : Span). x.high) is in omega (arith, high, high_is)))

-- what stands in a place, as a list
pub list_is : {Q X : Type 0} (f : Q → List X) (queues : List Q) (i : ℕ) (q : Q) → i < length queues → q ≡ get_or queues i q → get_or (map f queues) i [] ≡ f q
list_is f queues i q lt is = get_or-map f queues i q [] lt ∙ ap f (sym is)

pub taken_off : {Q : Type 0} (f : Q → List Span) (queues : List Q) (at worker : ℕ) (span : Span) (old new : Q) → worker < length queues → old ≡ get_or queues worker old
    → f old ≡ span ∷ f new
    → BeginsAt at (get_or (map f queues) worker [])
    → IsNext at (map f queues) (record { worker = worker; span = span }) (map f (slice_set queues worker new))
taken_off f queues at worker span old new lt is popped begins =
    let here : get_or (map f queues) worker [] ≡ span ∷ f new = list_is f queues worker old lt is ∙ popped in
    let begun : BeginsAt at (span ∷ f new) = subst (BeginsAt at) here begins in
    record { rest = f new; here = here; left_is = map-set f queues worker new; low = begun.0; high = begun.1 }

-- ---- one more
pub spans_in_more : (feed : ℕ) (hand : List Ticket) (i : ℕ) (d : Ticket) → i < length hand → (get_or hand i d).feed ≡ feed
    → spans_in feed (take (i + 1) hand) ≡ spans_in feed (take i hand) ++ (get_or hand i d).span ∷ []
spans_in_more feed hand i d lt is =
    let here = cond-true ((get_or hand i d).feed == feed) (get_or hand i d ∷ []) [] (eq-eqb (get_or hand i d).feed feed is) in
    let before = filter (λ (t : Ticket). t.feed == feed) (take i hand) in
    ap (map (λ (t : Ticket). t.span)) (filter_more (λ (t : Ticket). t.feed == feed) hand i d lt ∙ ap (λ l. before ++ l) here)
    ∙ map-append (λ (t : Ticket). t.span) before (get_or hand i d ∷ [])

pub spans_in_same : (feed : ℕ) (hand : List Ticket) (i : ℕ) (d : Ticket) → i < length hand → ((get_or hand i d).feed ≡ feed → ⊥)
    → spans_in feed (take (i + 1) hand) ≡ spans_in feed (take i hand)
spans_in_same feed hand i d lt ne =
    let other = cond-false ((get_or hand i d).feed == feed) (get_or hand i d ∷ []) [] (ne_eqb (get_or hand i d).feed feed ne) in
    let before = filter (λ (t : Ticket). t.feed == feed) (take i hand) in
    ap (map (λ (t : Ticket). t.span)) (filter_more (λ (t : Ticket). t.feed == feed) hand i d lt ∙ (ap (λ l. before ++ l) other ∙ append-nil before))

pub maps_more : {A B C : Type 0} (f : A → B) (g : B → C) (xs : List A) (i : ℕ) (x : A) (ys : List C) → i < length xs → x ≡ get_or xs i x
    → ys ≡ map g (map f (take i xs))
    → ys ++ g (f x) ∷ [] ≡ map g (map f (take (i + 1) xs))
maps_more f g xs i x ys lt is was =
    let grown : take (i + 1) xs ≡ take i xs ++ x ∷ [] = take_more xs i x lt ∙ ap (λ y. take i xs ++ y ∷ []) (sym is) in
    ap (λ l. l ++ g (f x) ∷ []) was ∙ sym (ap (λ l. map g (map f l)) grown ∙ (ap (map g) (map_push f (take i xs) x) ∙ map_push g (map f (take i xs)) (f x)))

pub each_more : {X : Type 0} (P : ℕ → X → Type 0) (d : X) (xs : List X) (x : X) (n : ℕ) → length xs ≡ n
    → ((f : ℕ) → f < n → P f (get_or xs f d))
    → P n x
    → (f : ℕ) → f < n + 1
    → P f (get_or (xs ++ x ∷ []) f d)
each_more P d xs x n is each one f lt = elim (cases_eq f n) [
  | inl e ↦ subst (λ m. P m (get_or (xs ++ x ∷ []) m d)) (sym e) (subst (P n) (sym (get_or_push xs x d n is)) one)
  | inr ne ↦ (let below : f < n = omega (arith, lt, ne) in subst (P f) (sym (get_or_append_left xs (x ∷ []) d f (omega (arith, below, is)))) (each f below))
]
