-- Entries stand where they stood: what deltas stand for differs in values alone.
use Rattle.std.proofs.Common.{◌≡◌, Bool, true, false, cond, ◌&&◌, ℕ, zero, suc, ◌<◌, ◌≤◌, List, [], ◌∷◌, map, Option, Some, None, IsSome, option_map, slice_get, refl, sym, ◌∙◌, ap, subst, nat_lt}
use Rattle.std.specs.Option.{option_or}
use Rattle.std.specs.declared.cmp.Ordering.{Ordering}
use Rattle.fkv_functions.specs.Plain.{PlainMap, with_at}
use Rattle.fkv_texts.specs.declared.entries.Entry.{Entry}
use Rattle.fkv_texts.specs.Text.{last_where, value_of, AllAbove, IsRising, IsFrom, IsBelow}
use Rattle.fkv_texts.specs.Places.{tail_after, IsLaidOut}
use Rattle.fkv_texts.specs.Chains.{has_class, last_of_class, last_below, Leads, IsChained}
use Rattle.fkv_texts.specs.Deltas.{combined, value_after, resolved_from, resolved, with_other_value, AreWhole, IgnoresValues}

-- ---- lists whose entries differ in their values alone
abbrev pub AreAlike : {K V : Type 0} → List (Entry K V) → List (Entry K V) → Type 0
AreAlike [] [] = Unit {0}
AreAlike [] (e ∷ es) = ⊥
AreAlike (d ∷ ds) [] = ⊥
AreAlike (d ∷ ds) (e ∷ es) = (record d { value = e.value } ≡ e) × AreAlike ds es

module _ {K V : Type 0} where
  pub alike-back : (ds es : List (Entry K V)) → AreAlike ds es → AreAlike es ds
  alike-back [] [] h = tt
  alike-back [] (e ∷ es) h = absurd h
  alike-back (d ∷ ds) [] h = absurd h
  alike-back (d ∷ ds) (e ∷ es) h = (sym (ap (λ (x : Entry K V). record x { value = d.value }) h.0), alike-back ds es h.1)

  pub resolved-alike : (cmp : K → K → Ordering) (join : V → V → V) (m : PlainMap K V) (es : List (Entry K V)) → AreAlike es (resolved_from cmp join m es)
  resolved-alike cmp join m [] = tt
  resolved-alike cmp join m (e ∷ es) = (refl, resolved-alike cmp join (with_at cmp m e.key (value_after join (m e.key) e)) es)

  pub alike-unvalued : (ds es : List (Entry K V)) → AreAlike ds es → map (with_other_value None) es ≡ map (with_other_value None) ds
  alike-unvalued [] [] h = refl
  alike-unvalued [] (e ∷ es) h = absurd h
  alike-unvalued (d ∷ ds) [] h = absurd h
  alike-unvalued (d ∷ ds) (e ∷ es) h = let first = ap (with_other_value None) (sym h.0) in let rest = alike-unvalued ds es h.1 in λ i. first i ∷ rest i

  -- an entry, and the one at its place
  pub alike-get : (ds es : List (Entry K V)) → AreAlike ds es → (i : ℕ) (e : Entry K V) → slice_get es i ≡ Some e → (d : Entry K V) × (slice_get ds i ≡ Some d) × (record d { value = e.value } ≡ e)
  alike-get [] [] h i e g = absurd (cc)
  alike-get [] (x ∷ es) h i e g = absurd h
  alike-get (d ∷ ds) [] h i e g = absurd h
  alike-get (d ∷ ds) (x ∷ es) h zero e g = let same : x ≡ e = cc in (d, refl, subst (λ (y : Entry K V). record d { value = y.value } ≡ y) same h.0)
  alike-get (d ∷ ds) (x ∷ es) h (suc i) e g = alike-get ds es h.1 i e g

  -- ---- where they stand
  alike-address : (d e : Entry K V) → record d { value = e.value } ≡ e → d.address ≡ e.address
  alike-address d e h = ap (λ (x : Entry K V). x.address) h

  pub alike-laid_out : (bits size begin tail : ℕ) (ds es : List (Entry K V)) → AreAlike ds es → IsLaidOut bits size begin tail ds → IsLaidOut bits size begin tail es
  alike-laid_out bits size begin tail [] [] h l = l
  alike-laid_out bits size begin tail [] (e ∷ es) h l = absurd h
  alike-laid_out bits size begin tail (d ∷ ds) [] h l = absurd h
  alike-laid_out bits size begin tail (d ∷ ds) (e ∷ es) h l = (sym (alike-address d e h.0) ∙ l.0, l.1, alike-laid_out bits size (tail_after bits size begin) tail ds es h.1 l.2)

  pub alike-above : (a : ℕ) (ds es : List (Entry K V)) → AreAlike ds es → AllAbove a ds → AllAbove a es
  alike-above a [] [] h l = tt
  alike-above a [] (e ∷ es) h l = absurd h
  alike-above a (d ∷ ds) [] h l = absurd h
  alike-above a (d ∷ ds) (e ∷ es) h l = (subst (λ (n : ℕ). a < n) (alike-address d e h.0) l.0, alike-above a ds es h.1 l.1)

  pub alike-rising : (ds es : List (Entry K V)) → AreAlike ds es → IsRising ds → IsRising es
  alike-rising [] [] h l = tt
  alike-rising [] (e ∷ es) h l = absurd h
  alike-rising (d ∷ ds) [] h l = absurd h
  alike-rising (d ∷ ds) (e ∷ es) h l = (subst (λ (n : ℕ). AllAbove n es) (alike-address d e h.0) (alike-above d.address ds es h.1 l.0), alike-rising ds es h.1 l.1)

  pub alike-from : (begin : ℕ) (ds es : List (Entry K V)) → AreAlike ds es → IsFrom begin ds → IsFrom begin es
  alike-from begin ds es h l i e g = let w = alike-get ds es h i e g in subst (λ (n : ℕ). begin ≤ n) (alike-address w.0 e w.2) (l i w.0 w.1)

  pub alike-below : (tail : ℕ) (ds es : List (Entry K V)) → AreAlike ds es → IsBelow tail ds → IsBelow tail es
  alike-below tail ds es h l i e g = let w = alike-get ds es h i e g in subst (λ (n : ℕ). n < tail) (alike-address w.0 e w.2) (l i w.0 w.1)

  -- ---- the last that passes a test that does not look at values
  abbrev pub BothAlike : Option (Entry K V) → Option (Entry K V) → Type 0
  BothAlike None None = Unit {0}
  BothAlike None (Some e) = ⊥
  BothAlike (Some d) None = ⊥
  BothAlike (Some d) (Some e) = record d { value = e.value } ≡ e

  alike-or : (d e : Entry K V) (b c : Bool) (l m : Option (Entry K V)) → b ≡ c → record d { value = e.value } ≡ e → BothAlike l m → BothAlike (option_or l (cond b (Some d) None)) (option_or m (cond c (Some e) None))
  alike-or d e b c (Some x) (Some y) t h k = k
  alike-or d e b c (Some x) None t h k = absurd k
  alike-or d e b c None (Some y) t h k = absurd k
  alike-or d e true true None None t h k = h
  alike-or d e false false None None t h k = tt
  alike-or d e true false None None t h k = absurd (cc)
  alike-or d e false true None None t h k = absurd (cc)

  pub alike-last : (p : Entry K V → Bool) → IgnoresValues p → (ds es : List (Entry K V)) → AreAlike ds es → BothAlike (last_where p ds) (last_where p es)
  alike-last p blind [] [] h = tt
  alike-last p blind [] (e ∷ es) h = absurd h
  alike-last p blind (d ∷ ds) [] h = absurd h
  alike-last p blind (d ∷ ds) (e ∷ es) h = alike-or d e (p d) (p e) (last_where p ds) (last_where p es) (sym (blind d e.value) ∙ ap p h.0) h.0 (alike-last p blind ds es h.1)

  pub both-map : (l m : Option (Entry K V)) → BothAlike l m → m ≡ option_map (with_other_value (value_of m)) l
  both-map None None h = refl
  both-map None (Some e) h = absurd h
  both-map (Some d) None h = absurd h
  both-map (Some d) (Some e) h = ap Some (sym h)

  both-leads : (begin a : ℕ) (l m : Option (Entry K V)) → BothAlike l m → Leads begin l a → Leads begin m a
  both-leads begin a None None h k = k
  both-leads begin a None (Some e) h k = absurd h
  both-leads begin a (Some d) None h k = absurd h
  both-leads begin a (Some d) (Some e) h k = k ∙ alike-address d e h

  module _ {C : Type 0} (class : K → C) (same : C → C → Bool) (begin : ℕ) (ds es : List (Entry K V)) (alike : AreAlike ds es) where
    pub alike-leads : (c : C) (a : ℕ) → Leads begin (last_of_class class same ds c) a → Leads begin (last_of_class class same es c) a
    alike-leads c a h =
        both-leads begin a (last_of_class class same ds c) (last_of_class class same es c) (alike-last (has_class class same c) (λ e v. refl) ds es alike) h

    pub alike-chained : IsChained class same begin ds → IsChained class same begin es
    alike-chained h i e g =
        let w = alike-get ds es alike i e g in
        subst (λ (x : Entry K V). Leads begin (last_below class same es (class x.key) x.address) x.previous) w.2
        (both-leads begin w.0.previous (last_below class same ds (class w.0.key) w.0.address) (last_below class same es (class w.0.key) w.0.address)
        (alike-last (λ x. nat_lt x.address w.0.address && has_class class same (class w.0.key) x) (λ x v. refl) ds es alike)
        (h i w.0 w.1))

  module _ (cmp : K → K → Ordering) (join : V → V → V) (es : List (Entry K V)) where
    pub alike : AreAlike es (resolved cmp join es)
    alike = resolved-alike cmp join (λ k. None) es

    pub alike_back : AreAlike (resolved cmp join es) es
    alike_back = alike-back es (resolved cmp join es) alike

    pub resolved-last : (p : Entry K V → Bool) → IgnoresValues p → last_where p (resolved cmp join es) ≡ option_map (with_other_value (value_of (last_where p (resolved cmp join es)))) (last_where p es)
    resolved-last p blind = both-map (last_where p es) (last_where p (resolved cmp join es)) (alike-last p blind es (resolved cmp join es) alike)

-- ---- what an entry has once it stands
-- each entry, and what its key has once it stands
abbrev AreRisen : {K V : Type 0} → (V → V → V) → List (Entry K V) → List (Entry K V) → Type 0
AreRisen join [] [] = Unit {0}
AreRisen join [] (e ∷ es) = ⊥
AreRisen join (d ∷ ds) [] = ⊥
AreRisen {K} {V} join (d ∷ ds) (e ∷ es) = ((held : Option V) × (e ≡ record d { value = value_after join held d })) × AreRisen join ds es

module _ {K V : Type 0} (join : V → V → V) where
  resolved-value_after : (cmp : K → K → Ordering) (m : PlainMap K V) (es : List (Entry K V)) → AreRisen join es (resolved_from cmp join m es)
  resolved-value_after cmp m [] = tt
  resolved-value_after cmp m (e ∷ es) = ((m e.key, refl), resolved-value_after cmp (with_at cmp m e.key (value_after join (m e.key) e)) es)

  abbrev IsRisen : Option (Entry K V) → Option (Entry K V) → Type 0
  IsRisen None None = Unit {0}
  IsRisen None (Some e) = ⊥
  IsRisen (Some d) None = ⊥
  IsRisen (Some d) (Some e) = (held : Option V) × (e ≡ record d { value = value_after join held d })

  value_after-or : (d e : Entry K V) (b c : Bool) (l m : Option (Entry K V)) → b ≡ c → ((held : Option V) × (e ≡ record d { value = value_after join held d })) → IsRisen l m → IsRisen (option_or l (cond b (Some d) None)) (option_or m (cond c (Some e) None))
  value_after-or d e b c (Some x) (Some y) t h k = k
  value_after-or d e b c (Some x) None t h k = absurd k
  value_after-or d e b c None (Some y) t h k = absurd k
  value_after-or d e true true None None t h k = h
  value_after-or d e false false None None t h k = tt
  value_after-or d e true false None None t h k = absurd (cc)
  value_after-or d e false true None None t h k = absurd (cc)

  value_after-last : (p : Entry K V → Bool) → IgnoresValues p → (ds es : List (Entry K V)) → AreRisen join ds es → IsRisen (last_where p ds) (last_where p es)
  value_after-last p blind [] [] h = tt
  value_after-last p blind [] (e ∷ es) h = absurd h
  value_after-last p blind (d ∷ ds) [] h = absurd h
  value_after-last p blind (d ∷ ds) (e ∷ es) h =
      value_after-or d e (p d) (p e) (last_where p ds) (last_where p es) (sym (ap p h.0.1 ∙ blind d (value_after join h.0.0 d))) h.0 (value_after-last p blind ds es h.1)

  some-value_after : (held : Option V) (e : Entry K V) (b : Bool) → e.delta ≡ b → IsSome e.value → IsSome (value_after join held e)
  some-value_after held e false h some = rw h some
  some-value_after held e true h some = rw h (some-combined held e.value some)
    where
      some-combined : (v w : Option V) → IsSome w → IsSome (combined join v w)
      some-combined None w s = s
      some-combined (Some v) None s = absurd (cc)
      some-combined (Some v) (Some w) s = s

  module _ (cmp : K → K → Ordering) (es : List (Entry K V)) (p : Entry K V → Bool) (blind : IgnoresValues p) where
    by_last : (Q : Option V → Type 0) (e : Entry K V) → ((held : Option V) → Q (value_after join held e)) → (l m : Option (Entry K V)) → l ≡ Some e → IsRisen l m → Q (value_of m)
    by_last Q e h None m is k = absurd (cc)
    by_last Q e h (Some d) None is k = absurd k
    by_last Q e h (Some d) (Some x) is k =
        let same : d ≡ e = cc in
        subst Q (sym (ap (λ (y : Entry K V). y.value) k.1 ∙ ap (value_after join k.0) same)) (h k.0)

    pub whole-last : (e : Entry K V) → last_where p es ≡ Some e → e.delta ≡ false → value_of (last_where p (resolved cmp join es)) ≡ e.value
    whole-last e is whole =
        by_last (λ v. v ≡ e.value) e (λ held. rw whole refl) (last_where p es) (last_where p (resolved cmp join es)) is (value_after-last p blind es (resolved cmp join es) (resolved-value_after cmp (λ k. None) es))

    pub valued-last : (e : Entry K V) → last_where p es ≡ Some e → IsSome e.value → IsSome (value_of (last_where p (resolved cmp join es)))
    valued-last e is some =
        by_last IsSome e (λ held. some-value_after held e e.delta refl some) (last_where p es) (last_where p (resolved cmp join es)) is (value_after-last p blind es (resolved cmp join es) (resolved-value_after cmp (λ k. None) es))

-- ---- where no entry is a delta, each has its own value
pub whole-resolved : {K V : Type 0} (cmp : K → K → Ordering) (join : V → V → V) (m : PlainMap K V) (es : List (Entry K V)) → AreWhole es → resolved_from cmp join m es ≡ es
whole-resolved cmp join m [] h = refl
whole-resolved {K} {V} cmp join m (e ∷ es) h =
    let own : value_after join (m e.key) e ≡ e.value = rw (h zero e refl) refl in
    let first : record e { value = value_after join (m e.key) e } ≡ e = ap (λ (v : Option V). record e { value = v }) own in
    let rest = whole-resolved cmp join (with_at cmp m e.key (value_after join (m e.key) e)) es (λ i. h (suc i)) in
    λ i. first i ∷ rest i
