-- What deltas stand for once a whole entry has another value.
use Rattle.std.proofs.Common.{◌≡◌, ◌≢◌, ◌==◌, true, false, cond, ℕ, zero, suc, ◌<◌, inl, inr, List, [], ◌∷◌, Option, Some, None, refl, sym, ◌∙◌, ap, subst, arith}
use Rattle.std.proofs.lemmas.Bool.{cases_eq, eqb-true}
use Rattle.std.specs.declared.cmp.Ordering.{Ordering}
use Rattle.std.specs.BTreeMap.{is_at}
use Rattle.fkv_functions.specs.Plain.{PlainMap, IsKeyOrder, with_at}
use Rattle.fkv_functions.proofs.ListLemmas.{not-true}
use Rattle.fkv_texts.specs.declared.entries.Entry.{Entry}
use Rattle.fkv_texts.specs.Text.{entry_at, has_key, last_of, AllAbove, IsRising, set_at, changed}
use Rattle.fkv_texts.specs.Chains.{IsIn}
use Rattle.fkv_texts.specs.Deltas.{value_after, resolved_from, resolved}
use Rattle.fkv_texts.proofs.LastWhere.{last_where-found, last_where-in}
use Rattle.fkv_texts.proofs.TextLemmas.{one_address, above-in}
use Rattle.fkv_texts.proofs.CutLemmas.{highest}
use Rattle.fkv_texts.proofs.ChangeLemmas.{set_at-here, set_at-other}
use Rattle.fkv_texts.proofs.StoodLemmas.{resolved-alike, alike-above}

module _ {K V : Type 0} (cmp : K → K → Ordering) (join : V → V → V) where
  -- what other keys had before does not matter
  resolved-same : (m n : PlainMap K V) (es : List (Entry K V)) → ((e : Entry K V) → IsIn es e → m e.key ≡ n e.key) → resolved_from cmp join m es ≡ resolved_from cmp join n es
  resolved-same m n [] h = refl
  resolved-same m n (e ∷ es) h =
      let own = h e (record { place = zero; here = refl }) in
      let value : value_after join (m e.key) e ≡ value_after join (n e.key) e = ap (λ v. value_after join v e) own in
      let first : record e { value = value_after join (m e.key) e } ≡ record e { value = value_after join (n e.key) e } = ap (λ (v : Option V). record e { value = v }) value in
      let rest = resolved-same (with_at cmp m e.key (value_after join (m e.key) e)) (with_at cmp n e.key (value_after join (n e.key) e)) es
      (λ d i. (let at = h d (record { place = suc i.place; here = i.here }) in λ j. cond (is_at (cmp e.key) d.key) (value j) (at j))) in
      λ i. first i ∷ rest i

  module _ (a : ℕ) (v : Option V) where
    changed-above : (es : List (Entry K V)) → AllAbove a es → changed es a v ≡ es
    changed-above [] h = refl
    changed-above (e ∷ es) h =
        let lt : a < e.address = h.0 in
        let first = set_at-other a v e (λ q. omega arith) in
        let rest = changed-above es h.1 in
        λ i. first i ∷ rest i

    -- the entry at the address is no delta, and no later one is of its key
    record IsLastWhole (es : List (Entry K V)) : Type 0 where
      whole : (e : Entry K V) → IsIn es e → e.address ≡ a → e.delta ≡ false
      last : (e d : Entry K V) → IsIn es e → IsIn es d → e.address ≡ a → a < d.address → is_at (cmp e.key) d.key ≡ false

    last-tail : (e : Entry K V) (es : List (Entry K V)) → IsLastWhole (e ∷ es) → IsLastWhole es
    last-tail e es l =
        let more : (d : Entry K V) → IsIn es d → IsIn (e ∷ es) d = λ d i. record { place = suc i.place; here = i.here } in
        record { whole = λ d i. l.whole d (more d i); last = λ d x i j. l.last d x (more d i) (more x j) }

    change-step : (m : PlainMap K V) (e : Entry K V) (es : List (Entry K V)) → IsRising (e ∷ es) → IsLastWhole (e ∷ es)
        → ((n : PlainMap K V) → resolved_from cmp join n (changed es a v) ≡ changed (resolved_from cmp join n es) a v)
        → resolved_from cmp join m (changed (e ∷ es) a v) ≡ changed (resolved_from cmp join m (e ∷ es)) a v
    change-step m e es r l rest = elim (cases_eq e.address a) [ inl here ↦ ap heads (set_at-here a v e here) ∙ at-last here | inr ne ↦ ap heads (set_at-other a v e ne) ∙ elsewhere ne ]
      where
        heads : Entry K V → List (Entry K V)
        heads x = record x { value = value_after join (m x.key) x } ∷ resolved_from cmp join (with_at cmp m x.key (value_after join (m x.key) x)) (changed es a v)

        was : PlainMap K V
        was = with_at cmp m e.key (value_after join (m e.key) e)

        elsewhere : e.address ≢ a → heads e ≡ changed (resolved_from cmp join m (e ∷ es)) a v
        elsewhere ne =
            let first : record e { value = value_after join (m e.key) e } ≡ set_at a v (record e { value = value_after join (m e.key) e }) = sym (set_at-other a v (record e { value = value_after join (m e.key) e }) ne) in
            let after = rest was in
            λ i. first i ∷ after i

        at-last : e.address ≡ a → heads (record e { value = v }) ≡ changed (resolved_from cmp join m (e ∷ es)) a v
        at-last here =
            let is_first : IsIn (e ∷ es) e = record { place = zero; here = refl } in
            let whole = l.whole e is_first here in
            let own : value_after join (m e.key) (record e { value = v }) ≡ v = rw whole refl in
            let above = subst (λ (n : ℕ). AllAbove n es) here r.0 in
            let others = resolved-same (with_at cmp m e.key v) was es (λ d i.
            (let gone : is_at (cmp e.key) d.key ≡ false = l.last e d is_first (record { place = suc i.place; here = i.here }) here (above-in a es above i.place d i.here) in rw gone refl)) in
            let first : record e { value = v } ≡ set_at a v (record e { value = value_after join (m e.key) e }) = sym (set_at-here a v (record e { value = value_after join (m e.key) e }) here) in
            let after = sym (changed-above (resolved_from cmp join was es) (alike-above a es (resolved_from cmp join was es) (resolved-alike cmp join was es) above)) in
            ap (λ w. record e { value = w } ∷ resolved_from cmp join (with_at cmp m e.key w) (changed es a v)) own
            ∙ ap (λ l. record e { value = v } ∷ l) (ap (resolved_from cmp join (with_at cmp m e.key v)) (changed-above es above) ∙ others)
            ∙ (λ i. first i ∷ after i)

    change-resolved_from : (m : PlainMap K V) (es : List (Entry K V)) → IsRising es → IsLastWhole es → resolved_from cmp join m (changed es a v) ≡ changed (resolved_from cmp join m es) a v
    change-resolved_from m [] r l = refl
    change-resolved_from m (e ∷ es) r l = change-step m e es r l (λ n. change-resolved_from n es r.1 (last-tail e es l))

    pub changed-resolved : IsKeyOrder cmp → (es : List (Entry K V)) → IsRising es → (e : Entry K V) → entry_at es a ≡ Some e → e.delta ≡ false → last_of cmp es e.key ≡ Some e
        → resolved cmp join (changed es a v) ≡ changed (resolved cmp join es) a v
    changed-resolved o es r e here whole last = change-resolved_from (λ k. None) es r (record { whole = own_whole; last = own_last })
      where
        stands : e.address ≡ a
        stands = eqb-true e.address a (last_where-found (λ x. x.address == a) es e here)

        is_own : (x : Entry K V) → IsIn es x → x.address ≡ a → x ≡ e
        is_own x m at = let n = last_where-in (λ x. x.address == a) es e here in one_address es r m.place n.place x e m.here n.here (at ∙ sym stands)

        own_whole : (x : Entry K V) → IsIn es x → x.address ≡ a → x.delta ≡ false
        own_whole x m at = ap (λ (y : Entry K V). y.delta) (is_own x m at) ∙ whole

        own_last : (x d : Entry K V) → IsIn es x → IsIn es d → x.address ≡ a → a < d.address → is_at (cmp x.key) d.key ≡ false
        own_last x d m n at above = not-true (is_at (cmp x.key) d.key) (λ t.
            (let key : e.key ≡ d.key = ap (λ (y : Entry K V). y.key) (sym (is_own x m at)) ∙ o.same x.key d.key t in
            let passes : has_key cmp e.key d ≡ true = subst (λ (q : K). is_at (cmp d.key) q ≡ true) (sym key) (o.self d.key) in
            let there : e.address ≡ a = stands in
            let low = highest (has_key cmp e.key) es e r last n.place d n.here passes in
            omega arith))
