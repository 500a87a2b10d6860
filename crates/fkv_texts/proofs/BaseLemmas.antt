-- Which entries are covered, and what one stands for below which nothing is left.
use Rattle.std.proofs.Common.{◌≡◌, ◌≢◌, ◌==◌, Bool, true, false, cond, ◌&&◌, ℕ, ◌⊎◌, inl, inr, not, List, Option, Some, None, slice_get, refl, sym, ◌∙◌, ap, subst, arith, nat_le, nat_lt}
use Rattle.std.proofs.lemmas.Bool.{not-true, not_from_false, cases_eq, and_parts, eq-eqb, ne_eqb, lt-ltb, ltb-true, leb-true, le-leb}
use Rattle.std.specs.List.{fold}
use Rattle.std.specs.declared.cmp.Ordering.{Ordering}
use Rattle.fkv_functions.specs.Plain.{IsKeyOrder}
use Rattle.fkv_texts.specs.declared.entries.Entry.{Entry}
use Rattle.fkv_functions.proofs.ListLemmas.{not-true as never}
use Rattle.fkv_texts.specs.Text.{last_where, entry_at, has_key, last_of, newest, value_of, IsRising, text_from}
use Rattle.fkv_texts.specs.Chains.{IsIn}
use Rattle.fkv_texts.specs.Deltas.{value_after, resolved, AreWhole, HasWholeAbove, IsCovered, IsCleared}
use Rattle.fkv_texts.proofs.LastWhere.{last_where-found, last_where-in, none-passes}
use Rattle.fkv_texts.proofs.TextLemmas.{one_address}
use Rattle.fkv_texts.proofs.CutLemmas.{highest, cut-rising}
use Rattle.fkv_texts.proofs.ValueLemmas.{filter-filter, newest-fold}
use Rattle.fkv_texts.proofs.CoverLemmas.{cut-newest}
use Rattle.fkv_texts.proofs.ReadLemmas.{filter-only}

all : (u v w : Bool) → u ≡ true → v ≡ true → w ≡ true → (u && (v && w)) ≡ true
all u v w f g h = rw (f, g, h) refl

module _ {K V : Type 0} (cmp : K → K → Ordering) (es : List (Entry K V)) where
  -- ---- an entry is covered, or it is not
  abbrev covering : K → ℕ → Entry K V → Bool
  covering k a x = nat_lt a x.address && (not x.delta && has_key cmp k x)

  pub covered_or_not : (k : K) (a : ℕ) → HasWholeAbove cmp es k a ⊎ (HasWholeAbove cmp es k a → ⊥)
  covered_or_not k a = by_last (last_where (covering k a) es) refl
    where
      by_last : (l : Option (Entry K V)) → last_where (covering k a) es ≡ l → HasWholeAbove cmp es k a ⊎ (HasWholeAbove cmp es k a → ⊥)
      by_last None h = inr (λ w.
          (let yes = all (nat_lt a w.by.address) (not w.by.delta) (has_key cmp k w.by) (lt-ltb a w.by.address w.above) (not_from_false w.by.delta w.whole) w.key in
          let bad : true ≡ false = sym yes ∙ none-passes (covering k a) es h w.stands.place w.by w.stands.here in cc))
      by_last (Some d) h =
          let first = and_parts (nat_lt a d.address) (not d.delta && has_key cmp k d) (last_where-found (covering k a) es d h) in
          let second = and_parts (not d.delta) (has_key cmp k d) first.1 in
          inl (record { by = d; stands = last_where-in (covering k a) es d h; key = second.1; whole = not-true d.delta second.0; above = ltb-true a d.address first.0 })

  -- one that is covered is not the last of its key
  pub covered-passed : IsRising es → (e : Entry K V) → IsCovered cmp es e → last_of cmp es e.key ≢ Some e
  covered-passed r e w last =
      let most = highest (has_key cmp e.key) es e r last w.stands.place w.by w.stands.here w.key in
      let above = w.above in
      omega arith

  module _ (o : IsKeyOrder cmp) (r : IsRising es) (e : Entry K V) (here : entry_at es e.address ≡ Some e) where
    m : IsIn es e
    m = last_where-in (λ x. x.address == e.address) es e here

    is_own : (i : ℕ) (x : Entry K V) → slice_get es i ≡ Some x → x.address ≡ e.address → x ≡ e
    is_own i x g at = one_address es r i m.place x e g m.here at

    -- and where no entry is a delta, one that is not the last is covered
    pub passed-covered : AreWhole es → last_of cmp es e.key ≢ Some e → IsCovered cmp es e
    passed-covered whole passed = by_last (last_of cmp es e.key) refl
      where
        by_last : (l : Option (Entry K V)) → last_of cmp es e.key ≡ l → IsCovered cmp es e
        by_last None h = absurd (let bad : true ≡ false = sym (o.self e.key) ∙ none-passes (has_key cmp e.key) es h m.place e m.here in cc)
        by_last (Some d) h =
            let n = last_where-in (has_key cmp e.key) es d h in
            let most = highest (has_key cmp e.key) es d r h m.place e m.here (o.self e.key) in
            elim (cases_eq d.address e.address) [
              | inl at ↦ absurd (passed (h ∙ ap Some (is_own n.place d n.here at)))
              | inr ne ↦ record { by = d; stands = n; key = last_where-found (has_key cmp e.key) es d h; whole = whole n.place d n.here; above = omega arith }
            ]

    -- ---- what stands for itself: an entry that is not covered, where all below it is superseded
    pub lowest-value : (join : V → V → V) → IsCleared cmp es e.address → (IsCovered cmp es e → ⊥) → value_of (newest cmp (resolved cmp join es) e.key e.address) ≡ e.value
    lowest-value join clear uncovered =
        sym (cut-newest cmp join o es r e.address clear e.key e.address (λ x h c. uncovered (subst (IsCovered cmp es) (is_newest x h) c)))
        ∙ newest-fold cmp join o (text_from e.address es) (cut-rising e.address es r) e.key e.address
        ∙ ap (fold (value_after join) None) (filter-filter (λ x. nat_le x.address e.address && has_key cmp e.key x) (λ x. nat_le e.address x.address) es ∙ filter-only only es r e m (λ i x g. only-here i x g (cases_eq x.address e.address)))
        ∙ alone e.delta e.value
      where
        alone : (b : Bool) (v : Option V) → cond b v v ≡ v
        alone true v = refl
        alone false v = refl

        only : Entry K V → Bool
        only x = nat_le e.address x.address && (nat_le x.address e.address && has_key cmp e.key x)

        only-here : (i : ℕ) (x : Entry K V) → slice_get es i ≡ Some x → (x.address ≡ e.address) ⊎ (x.address ≢ e.address) → only x ≡ (x.address == e.address)
        only-here i x g (inl at) =
            all (nat_le e.address x.address) (nat_le x.address e.address) (has_key cmp e.key x)
            (le-leb e.address x.address (omega arith)) (le-leb x.address e.address (omega arith)) (ap (has_key cmp e.key) (is_own i x g at) ∙ o.self e.key)
            ∙ sym (eq-eqb x.address e.address at)
        only-here i x g (inr ne) = never (only x) (λ t.
            (let first = and_parts (nat_le e.address x.address) (nat_le x.address e.address && has_key cmp e.key x) t in
            let second = and_parts (nat_le x.address e.address) (has_key cmp e.key x) first.1 in
            let least = leb-true e.address x.address first.0 in
            let most = leb-true x.address e.address second.0 in
            ne (omega arith)))
            ∙ sym (ne_eqb x.address e.address ne)

        both : (u v : Bool) → u ≡ true → v ≡ true → (u && v) ≡ true
        both u v f h = rw f h

        is_newest : (x : Entry K V) → newest cmp es e.key e.address ≡ Some x → x ≡ e
        is_newest x h =
            let n = last_where-in (λ y. nat_le y.address e.address && has_key cmp e.key y) es x h in
            let low = leb-true x.address e.address (and_parts (nat_le x.address e.address) (has_key cmp e.key x) (last_where-found (λ y. nat_le y.address e.address && has_key cmp e.key y) es x h)).0 in
            let most = highest (λ y. nat_le y.address e.address && has_key cmp e.key y) es x r h m.place e m.here (both (nat_le e.address e.address) (has_key cmp e.key e) (le-leb e.address e.address (omega arith)) (o.self e.key)) in
            is_own n.place x n.here (omega arith)
