-- A scan of entries, one by one, that puts into a map what the key of each then has.
use Rattle.std.proofs.Common.{◌≡◌, Bool, true, false, cond, Option, ℕ, ◌<◌, ◌≤◌, List, [], ◌∷◌, ◌++◌, length, Some, None, IsSome, slice_get, refl, sym, ◌∙◌, ap, subst, arith, append_assoc, append-nil}
use Rattle.std.specs.declared.cmp.Ordering.{Ordering}
use Rattle.std.specs.BTreeMap.{is_at}
use Rattle.fkv_functions.specs.Plain.{PlainMap, Same, IsKeyOrder, with_at}
use Rattle.fkv_texts.specs.declared.entries.Entry.{Entry}
use Rattle.fkv_texts.specs.Places.{IsLaidOut, tail_after}
use Rattle.fkv_texts.specs.Text.{entry_at, has_key, last_of, live, value_of, IsRising}
use Rattle.fkv_texts.specs.Deltas.{combined, value_after, with_other_value, resolved_from, resolved}
use Rattle.fkv_texts.proofs.LastWhere.{none-passes}
use Rattle.fkv_texts.proofs.TextLemmas.{entry_at-in, last_of-append}
use Rattle.fkv_texts.proofs.StoodLemmas.{alike-get, alike_back}
use Rattle.fkv_texts.proofs.ValueLemmas.{resolved-append}
use Rattle.fkv_lookups.specs.Overlays.{said_over, with_text, IsApart, HasFront}

-- no part joins nothing
pub combined-none : {V : Type 0} (join : V → V → V) (held part : Option V) → ((v : V) → part ≡ Some v → ⊥) → combined join held part ≡ held
combined-none join held (Some v) none = absurd (none v refl)
combined-none join None None none = refl
combined-none join (Some w) None none = refl

-- the entries below an address are done: the map is the first one with what their keys have
pub record IsScanned {K V : Type 0} (cmp : K → K → Ordering) (join : V → V → V) (first : PlainMap K V) (bits size tail : ℕ) (text : List (Entry K V)) (address : ℕ) (map : PlainMap K V) : Type 0 where
  pub done : List (Entry K V)
  pub rest : List (Entry K V)
  pub whole : text ≡ done ++ rest
  pub laid_out : IsLaidOut bits size address tail rest
  pub said : Same map (with_text cmp first (resolved cmp join done))

-- one entry more
said-append : {V K : Type 0} (e : Entry K V) (l : Option (Entry K V)) (v : Option V) (b : Bool) → said_over (cond b (Some e) l) v ≡ cond b e.value (said_over l v)
said-append e l v true = refl
said-append e l v false = refl

with_text-append : {K V : Type 0} (cmp : K → K → Ordering) (m : PlainMap K V) (text : List (Entry K V)) (e : Entry K V) → Same (with_text cmp m (text ++ e ∷ [])) (with_at cmp (with_text cmp m text) e.key e.value)
with_text-append cmp m text e q = ap (λ l. said_over l (m q)) (last_of-append cmp text e q) ∙ said-append e (last_of cmp text q) (m q) (has_key cmp q e)

in_middle : {A : Type 0} (xs ys : List A) (y : A) → slice_get (xs ++ y ∷ ys) (length xs) ≡ Some y
in_middle [] ys y = refl
in_middle (x ∷ xs) ys y = in_middle xs ys y

-- entries that go on stand as before, and others behind them
resolved-front : {K V : Type 0} (cmp : K → K → Ordering) (join : V → V → V) (m : PlainMap K V) (xs ys : List (Entry K V)) → (rest : List (Entry K V)) × (resolved_from cmp join m (xs ++ ys) ≡ resolved_from cmp join m xs ++ rest)
resolved-front cmp join m [] ys = (resolved_from cmp join m ys, refl)
resolved-front cmp join m (x ∷ xs) ys =
    let front = resolved-front cmp join (with_at cmp m x.key (value_after join (m x.key) x)) xs ys in
    (front.0, ap (λ l. with_other_value (value_after join (m x.key) x) x ∷ l) front.1)

-- the key of an entry has a last one
key-stands : {K V : Type 0} (cmp : K → K → Ordering) (join : V → V → V) → IsKeyOrder cmp → (text : List (Entry K V)) (i : ℕ) (e : Entry K V) → slice_get text i ≡ Some e → IsSome (last_of cmp (resolved cmp join text) e.key)
key-stands {K} {V} cmp join order text i e here = by_last (last_of cmp (resolved cmp join text) e.key) refl
  where
    by_last : (o : Option (Entry K V)) → last_of cmp (resolved cmp join text) e.key ≡ o → IsSome o
    by_last (Some d) h = refl
    by_last None h =
        let d = alike-get (resolved cmp join text) text (alike_back cmp join text) i e here in
        let key : d.0.key ≡ e.key = ap (λ (x : Entry K V). x.key) d.2 in
        let no : is_at (cmp d.0.key) e.key ≡ false = none-passes (has_key cmp e.key) (resolved cmp join text) h i d.0 d.1 in
        let yes : is_at (cmp d.0.key) e.key ≡ true = ap (λ k. is_at (cmp k) e.key) key ∙ order.self e.key in
        absurd (cc)

-- where the map had nothing of a key, it has what the key has
said-none : {K V : Type 0} (l : Option (Entry K V)) (v : Option V) → v ≡ None → said_over l v ≡ value_of l
said-none None v h = h
said-none (Some e) v h = refl

module _ {K V : Type 0} (cmp : K → K → Ordering) (join : V → V → V) (first : PlainMap K V) (bits size tail : ℕ) (text : List (Entry K V)) (address : ℕ) (map : PlainMap K V) (s : IsScanned cmp join first bits size tail text address map) where
  -- at the tail all is done
  ended-by : (done rest : List (Entry K V)) → text ≡ done ++ rest → IsLaidOut bits size address tail rest → Same map (with_text cmp first (resolved cmp join done)) → tail ≤ address → Same map (with_text cmp first (resolved cmp join text))
  ended-by done [] whole l h high = λ q. h q ∙ ap (λ t. with_text cmp first (resolved cmp join t) q) (sym (whole ∙ append-nil done))
  ended-by done (e ∷ es) whole l h high = let low : address < tail = l.1 in absurd (omega arith)

  pub ended : tail ≤ address → Same map (with_text cmp first (resolved cmp join text))
  ended high = ended-by s.done s.rest s.whole s.laid_out s.said high

  -- wherever it stops, the map has the entries below
  pub has_front : HasFront cmp first map (resolved cmp join text)
  has_front =
      let front = resolved-front cmp join (λ k. None) s.done s.rest in
      record { done = resolved cmp join s.done; rest = front.0; whole = ap (resolved cmp join) s.whole ∙ front.1; said = s.said }

  pub front_stays : (after : PlainMap K V) → Same after map → HasFront cmp first after (resolved cmp join text)
  front_stays after same =
      let front = has_front in
      record { done = front.done; rest = front.rest; whole = front.whole; said = λ q. same q ∙ front.said q }

  -- below it the next entry stands at the address
  record IsNext (e : Entry K V) : Type 0 where
    pub rest : List (Entry K V)
    pub here : entry_at text address ≡ Some e
    pub is : s.rest ≡ e ∷ rest

  next-by : IsRising text → (rest : List (Entry K V)) → s.rest ≡ rest → IsLaidOut bits size address tail rest → address < tail → (e : Entry K V) × IsNext e
  next-by rising [] is l low = absurd (omega arith)
  next-by rising (e ∷ es) is l low =
      let place : slice_get text (length s.done) ≡ Some e = ap (λ t. slice_get t (length s.done)) (s.whole ∙ ap (λ r. s.done ++ r) is) ∙ in_middle s.done es e in
      (e, record { rest = es; here = entry_at-in text rising e (record { place = length s.done; here = place }) address l.0; is = is })

  next : IsRising text → address < tail → (e : Entry K V) × IsNext e
  next rising low = next-by rising s.rest refl s.laid_out low

  pub stands : IsRising text → address < tail → IsSome (entry_at text address)
  stands rising low = rw (next rising low).1.here refl

  -- of the entry's key the map has what the entries below say
  held : IsKeyOrder cmp → IsApart cmp first (resolved cmp join text) → (e : Entry K V) (rest : List (Entry K V)) → s.rest ≡ e ∷ rest → map e.key ≡ live cmp (resolved cmp join s.done) e.key
  held order apart e rest is =
      let place : slice_get text (length s.done) ≡ Some e = ap (λ t. slice_get t (length s.done)) (s.whole ∙ ap (λ r. s.done ++ r) is) ∙ in_middle s.done rest e in
      let none : first e.key ≡ None = apart e.key (key-stands cmp join order text (length s.done) e place) in
      s.said e.key ∙ said-none (last_of cmp (resolved cmp join s.done) e.key) (first e.key) none

  -- and the scan goes on behind it, with the map that it makes
  pub goes_on : IsKeyOrder cmp → IsApart cmp first (resolved cmp join text) → IsRising text → address < tail
      → (e : Entry K V) → entry_at text address ≡ Some e
      → (value : Option V) → value ≡ value_after join (map e.key) e
      → (after : PlainMap K V) → Same after (with_at cmp map e.key value)
      → IsScanned cmp join first bits size tail text (tail_after bits size address) after
  goes_on order apart rising low e here value has after is =
      let n = next rising low in
      let both : Some n.0 ≡ Some e = sym n.1.here ∙ here in
      let same : n.0 ≡ e = cc in
      let split : s.rest ≡ e ∷ n.1.rest = n.1.is ∙ ap (λ x. x ∷ n.1.rest) same in
      let laid = subst (IsLaidOut bits size address tail) split s.laid_out in
      let below = resolved cmp join s.done in
      let now = with_other_value (value_after join (live cmp below e.key) e) e in
      let value_now : value ≡ value_after join (live cmp below e.key) e = has ∙ ap (λ v. value_after join v e) (held order apart e n.1.rest split) in
      record {
        done = s.done ++ e ∷ [];
        rest = n.1.rest;
        whole = s.whole ∙ ap (λ r. s.done ++ r) split ∙ sym (append_assoc s.done (e ∷ []) n.1.rest);
        laid_out = laid.2;
        said = λ q. is q
            ∙ ap (λ v. with_at cmp map e.key v q) value_now
            ∙ ap (λ (m : PlainMap K V). with_at cmp m e.key now.value q) (λ i k. s.said k i)
            ∙ sym (with_text-append cmp first below now q)
            ∙ ap (λ t. with_text cmp first t q) (sym (resolved-append cmp join s.done e));
      }
