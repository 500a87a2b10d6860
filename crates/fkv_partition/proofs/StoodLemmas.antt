-- What records stand for, and the records themselves.
use Rattle.std.proofs.Common.{◌≡◌, ◌==◌, ℕ, Bool, false, Option, Some, None, IsSome, option_map, refl, sym, ◌∙◌, ap, subst}
use Rattle.std.proofs.lemmas.Bool.{eqb-true}
use Rattle.std.specs.declared.cmp.Ordering.{Ordering}
use Rattle.fkv_texts.specs.declared.entries.Entry.{Entry}
use Rattle.fkv_texts.specs.Text.{last_where, entry_at, has_key, last_of, value_of, IsRising}
use Rattle.fkv_texts.specs.Deltas.{with_other_value, resolved, IgnoresValues}
use Rattle.fkv_texts.proofs.LastWhere.{last_where-found}
use Rattle.fkv_texts.proofs.StoodLemmas.{alike_back, alike-rising, resolved-last, whole-last}
use Rattle.fkv_lookups.specs.RecordsViews.{RecordsView, IsReplaceable}
use Rattle.fkv_lookups.specs.Traced.{IsTraced, IsResolved}

module _ {K V : Type 0} {keeps : Bool} {code : K → ℕ} (cmp : K → K → Ordering) (join : V → V → V) (v : RecordsView K V) (s : IsResolved cmp join v) (t : IsTraced keeps code v) where
  pub rises : IsRising v.log.text
  rises = alike-rising (resolved cmp join v.log.text) v.log.text (alike_back cmp join v.log.text) (subst IsRising s.is t.rising)

  -- the last that passes a test, as it stands
  pub last-resolved : (p : Entry K V → Bool) → IgnoresValues p → last_where p v.text ≡ option_map (with_other_value (value_of (last_where p v.text))) (last_where p v.log.text)
  last-resolved p blind = subst (λ u. last_where p u ≡ option_map (with_other_value (value_of (last_where p u))) (last_where p v.log.text)) (sym s.is) (resolved-last cmp join v.log.text p blind)

  -- one that is no delta has its own value
  pub whole-resolved : (p : Entry K V → Bool) → IgnoresValues p → (e : Entry K V) → last_where p v.text ≡ Some e → e.delta ≡ false → last_where p v.log.text ≡ Some e
  whole-resolved p blind e is whole = by_last (last_where p v.log.text) refl (sym (last-resolved p blind) ∙ is)
    where
      by_last : (o : Option (Entry K V)) → last_where p v.log.text ≡ o → option_map (with_other_value (value_of (last_where p v.text))) o ≡ Some e → last_where p v.log.text ≡ Some e
      by_last None h same = absurd (cc)
      by_last (Some d) h same =
          let one : with_other_value (value_of (last_where p v.text)) d ≡ e = cc in
          let flag : d.delta ≡ false = ap (λ (x : Entry K V). x.delta) one ∙ whole in
          let value : value_of (last_where p v.text) ≡ d.value = ap (λ u. value_of (last_where p u)) s.is ∙ whole-last join cmp v.log.text p blind d h flag in
          h ∙ ap Some (sym (ap (λ x. with_other_value x d) value) ∙ one)

  -- the record that may be changed where it stands
  pub record IsRawReplaceable (a : ℕ) : Type 0 where
    pub entry : Entry K V
    pub here : entry_at v.log.text a ≡ Some entry
    pub at : entry.address ≡ a
    pub last : last_of cmp v.log.text entry.key ≡ Some entry
    pub some : IsSome entry.value
    pub rises : IsRising v.log.text

  pub raw-replaceable : (a : ℕ) → IsReplaceable cmp v a → IsRawReplaceable a
  raw-replaceable a m = record {
    entry = m.entry;
    here = whole-resolved (λ e. e.address == a) (λ e x. refl) m.entry m.here m.whole;
    at = eqb-true m.entry.address a (last_where-found (λ e. e.address == a) v.text m.entry m.here);
    last = whole-resolved (has_key cmp m.entry.key) (λ e x. refl) m.entry m.last m.whole;
    some = m.some;
    rises = rises;
  }
