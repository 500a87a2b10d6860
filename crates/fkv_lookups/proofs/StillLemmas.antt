-- What is still is not changed in place.
use Rattle.std.proofs.Common.{◌≡◌, ◌≢◌, ◌&&◌, nat_le, List, ℕ, ◌≤◌, inl, inr, true, false, IsSome, Option, Some, None, option_map, refl, sym, ◌∙◌, ap, arith}
use Rattle.std.specs.declared.cmp.Ordering.{Ordering}
use Rattle.fkv_texts.specs.declared.entries.Entry.{Entry}
use Rattle.fkv_texts.specs.Text.{entry_at, value_of, has_key, newest, IsRising, set_at, changed}
use Rattle.fkv_texts.proofs.LastWhere.{last_where-in}
use Rattle.fkv_texts.proofs.TextLemmas.{entry_at-in}
use Rattle.fkv_texts.proofs.ChangeLemmas.{newest-changed, newest-elsewhere}
use Rattle.fkv_operations.specs.Still.{IsStill}

module _ {K V : Type 0} (cmp : K → K → Ordering) (text : List (Entry K V)) (r : IsRising text) (a safe : ℕ) (value : Option V) (d : Entry K V) (at : entry_at text a ≡ Some d) (some : IsSome d.value) (whole : d.delta ≡ false) (high : safe ≤ a) where
  elsewhere : (k : K) (b : ℕ) (e : Entry K V) → newest cmp text k b ≡ Some e → IsStill safe (Some e) → e.address ≢ a
  elsewhere k b e is still here = by_still still
    where
      there : Some d ≡ Some e
      there = sym at ∙ entry_at-in text r e (last_where-in (λ x. nat_le x.address b && has_key cmp k x) text e is) a here

      by_still : IsStill safe (Some e) → ⊥
      by_still (inl none) =
          let dead : d.value ≡ None = ap value_of there ∙ none in
          let no : IsSome {T = V} None = rw dead at some in
          absurd (cc)
      by_still (inr (inl part)) =
          let both = there in
          let same : d ≡ e = cc in
          let no : false ≡ true = sym whole ∙ ap (λ (x : Entry K V). x.delta) same ∙ part in
          absurd (cc)
      by_still (inr (inr low)) = omega arith

  pub still-stays : (k : K) (b : ℕ) → IsStill safe (newest cmp text k b) → newest cmp (changed text a value) k b ≡ newest cmp text k b
  still-stays k b still = by_newest (newest cmp text k b) refl still
    where
      by_newest : (o : Option (Entry K V)) → newest cmp text k b ≡ o → IsStill safe o → newest cmp (changed text a value) k b ≡ newest cmp text k b
      by_newest None is s = newest-changed a value cmp text k b ∙ ap (option_map (set_at a value)) is ∙ sym is
      by_newest (Some e) is s = newest-elsewhere a value cmp text k b e is (elsewhere k b e is s) ∙ sym is
