-- What an appended entry changes of a text, and which entry is the last of those that pass a test.
use Rattle.std.proofs.Common.{◌≡◌, ◌≢◌, Bool, true, false, cond, ◌&&◌, ℕ, zero, suc, ◌<◌, ◌≤◌, ◌==◌, List, [], ◌∷◌, ◌++◌, Option, Some, None, slice_get, refl, sym, ◌∙◌, ap, subst, arith, nat_le}
use Rattle.std.proofs.lemmas.Bool.Decides.{nat_tests}
use Rattle.std.proofs.lemmas.Bool.{ne_eqb, eq-eqb, eqb-true}
use Rattle.std.specs.declared.cmp.Ordering.{Ordering}
use Rattle.std.specs.BTreeMap.{is_at}
use Rattle.fkv_functions.specs.Plain.{Same, with_at}
use Rattle.fkv_texts.specs.declared.entries.Entry.{Entry}
use Rattle.fkv_texts.specs.Text.{entry_at, has_key, last_of, value_of, value_at, live, newest, AllAbove, IsRising}
use Rattle.fkv_texts.specs.Chains.{IsIn}
use Rattle.fkv_texts.proofs.LastWhere.{last_where-append, last_where-found, last_where-in, none-passes}

-- ---- addresses
pub above-in : {K V : Type 0} (a : ℕ) (xs : List (Entry K V)) → AllAbove a xs → (i : ℕ) (x : Entry K V) → slice_get xs i ≡ Some x → a < x.address
above-in a [] h i x e = absurd (cc)
above-in a (y ∷ ys) h zero x e = let same : y ≡ x = cc in let lt : a < y.address = h.0 in subst (λ (z : Entry _ _). a < z.address) same lt
above-in a (y ∷ ys) h (suc i) x e = above-in a ys h.1 i x e

-- one address, one entry
pub one_address : {K V : Type 0} (xs : List (Entry K V)) → IsRising xs → (i j : ℕ) (x y : Entry K V) → slice_get xs i ≡ Some x → slice_get xs j ≡ Some y → x.address ≡ y.address → x ≡ y
one_address [] r i j x y hi hj e = absurd (cc)
one_address (z ∷ zs) r zero zero x y hi hj e = cc
one_address (z ∷ zs) r zero (suc j) x y hi hj e =
    let same : z ≡ x = cc in
    let k : z.address ≡ x.address = ap (λ (w : Entry _ _). w.address) same in
    let lt : z.address < y.address = above-in z.address zs r.0 j y hj in
    absurd (omega arith)
one_address (z ∷ zs) r (suc i) zero x y hi hj e =
    let same : z ≡ y = cc in
    let k : z.address ≡ y.address = ap (λ (w : Entry _ _). w.address) same in
    let lt : z.address < x.address = above-in z.address zs r.0 i x hi in
    absurd (omega arith)
one_address (z ∷ zs) r (suc i) (suc j) x y hi hj e = one_address zs r.1 i j x y hi hj e

-- an entry of a text is the one at its address
pub entry_at-in : {K V : Type 0} (text : List (Entry K V)) → IsRising text → (e : Entry K V) → IsIn text e → (a : ℕ) → e.address ≡ a → entry_at text a ≡ Some e
entry_at-in {K} {V} text r e m a at = by_found (entry_at text a) refl
  where
    by_found : (o : Option (Entry K V)) → entry_at text a ≡ o → entry_at text a ≡ Some e
    by_found None h = absurd (
        let no : (e.address == a) ≡ false = none-passes (λ x. x.address == a) text h m.place e m.here in
        let yes : (e.address == a) ≡ true = eq-eqb e.address a at in cc)
    by_found (Some d) h =
        let i = last_where-in (λ x. x.address == a) text d h in
        let there : d.address ≡ a = eqb-true d.address a (last_where-found (λ x. x.address == a) text d h) in
        h ∙ ap Some (one_address text r i.place m.place d e i.here m.here (there ∙ sym at))

-- ---- an entry is appended
value-cond : {K V : Type 0} (e : Entry K V) (b : Bool) (l : Option (Entry K V)) → value_of (cond b (Some e) l) ≡ cond b e.value (value_of l)
value-cond e true l = refl
value-cond e false l = refl

module _ {K V : Type 0} (cmp : K → K → Ordering) (text : List (Entry K V)) (e : Entry K V) where
  pub last_of-append : (q : K) → last_of cmp (text ++ e ∷ []) q ≡ cond (has_key cmp q e) (Some e) (last_of cmp text q)
  last_of-append q = last_where-append (has_key cmp q) text e

  -- the live map gains its value, or loses its key
  pub live-append : Same (live cmp (text ++ e ∷ [])) (with_at cmp (live cmp text) e.key e.value)
  live-append q = ap value_of (last_of-append q) ∙ value-cond e (is_at (cmp e.key) q) (last_of cmp text q)

  -- what is newest at a lower address stays
  pub newest-below : (q : K) (a : ℕ) → a < e.address → newest cmp (text ++ e ∷ []) q a ≡ newest cmp text q a
  newest-below q a h =
      let no : nat_le e.address a ≡ false = grind (arith, nat_tests) in
      last_where-append (λ x. nat_le x.address a && has_key cmp q x) text e ∙ rw no refl

  -- from its address on it is the newest of its key
  pub newest-from : (q : K) (a : ℕ) → e.address ≤ a → newest cmp (text ++ e ∷ []) q a ≡ cond (has_key cmp q e) (Some e) (newest cmp text q a)
  newest-from q a h =
      let yes : nat_le e.address a ≡ true = grind (arith, nat_tests) in
      last_where-append (λ x. nat_le x.address a && has_key cmp q x) text e ∙ rw yes refl

module _ {K V : Type 0} (text : List (Entry K V)) (e : Entry K V) where
  -- it stands at its address, and what stood stays
  pub entry_at-new : entry_at (text ++ e ∷ []) e.address ≡ Some e
  entry_at-new = last_where-append (λ x. x.address == e.address) text e ∙ rw (eq-eqb e.address e.address refl) refl

  pub entry_at-old : (a : ℕ) → a ≢ e.address → entry_at (text ++ e ∷ []) a ≡ entry_at text a
  entry_at-old a ne =
      let no : (e.address == a) ≡ false = ne_eqb e.address a (λ q. ne (sym q)) in
      last_where-append (λ x. x.address == a) text e ∙ rw no refl

  pub value_at-append : (a : ℕ) → value_at (text ++ e ∷ []) a ≡ cond (e.address == a) e.value (value_at text a)
  value_at-append a = ap value_of (last_where-append (λ x. x.address == a) text e) ∙ value-cond e (e.address == a) (entry_at text a)
