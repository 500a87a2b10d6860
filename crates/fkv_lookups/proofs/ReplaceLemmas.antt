-- Records that may have another value where they stand: pages spell them as they are, since they are no deltas.
use Rattle.std.proofs.Common.{◌≡◌, Bool, false, ◌==◌, ℕ, List, Option, Some, None, IsSome, option_map, refl, sym, ◌∙◌, ap}
use Rattle.std.specs.declared.cmp.Ordering.{Ordering}
use Rattle.fkv_functions.specs.Plain.{IsKeyOrder}
use Rattle.fkv_texts.specs.declared.entries.Entry.{Entry}
use Rattle.fkv_texts.specs.Text.{last_where, entry_at, value_at, value_of, has_key}
use Rattle.fkv_texts.specs.Deltas.{resolved, with_other_value, IgnoresValues}
use Rattle.fkv_texts.proofs.StoodLemmas.{resolved-last, whole-last}
use Rattle.fkv_texts.proofs.DeltaChangeLemmas.{changed-resolved}
use Rattle.fkv_index.specs.declared.words.Word.{Word}
use Rattle.fkv_hybrid.specs.Views.{LogView}
use Rattle.fkv_hybrid.specs.Views as log
use Rattle.fkv_lookups.specs.RecordsViews.{RecordsView, IsReplaceable, with_value}
use Rattle.fkv_lookups.specs.Inside.{view_of}
use Rattle.fkv_lookups.specs.Traced.{IsTraced}
use Rattle.fkv_lookups.proofs.TracedLemmas.{raw, log-raw}

module _ {K V : Type 0} (cmp : K → K → Ordering) (join : V → V → V) where
  -- an entry that is no delta is the one that stands for it
  pub whole-entry : (es : List (Entry K V)) (p : Entry K V → Bool) → IgnoresValues p → (e : Entry K V) → last_where p (resolved cmp join es) ≡ Some e → e.delta ≡ false → last_where p es ≡ Some e
  whole-entry es p blind e found whole = by_last (last_where p es) refl
    where
      value : Option V
      value = value_of (last_where p (resolved cmp join es))

      by_last : (l : Option (Entry K V)) → last_where p es ≡ l → last_where p es ≡ Some e
      by_last None h =
          let no : option_map (with_other_value value) None ≡ Some e = ap (option_map (with_other_value value)) (sym h) ∙ sym (resolved-last cmp join es p blind) ∙ found in
          absurd (cc)
      by_last (Some d) h =
          let both : Some (with_other_value value d) ≡ Some e = ap (option_map (with_other_value value)) (sym h) ∙ sym (resolved-last cmp join es p blind) ∙ found in
          let same : with_other_value value d ≡ e = cc in
          let own : value ≡ d.value = whole-last join cmp es p blind d h (ap (λ (x : Entry K V). x.delta) same ∙ whole) in
          h ∙ ap Some (ap (λ v. with_other_value v d) (sym own) ∙ same)

  pub replaceable-raw : (v : RecordsView K V) (a : ℕ) → v.text ≡ resolved cmp join v.log.text → IsReplaceable cmp v a → IsReplaceable cmp (raw v) a
  replaceable-raw v a is r = record {
    entry = r.entry;
    here = whole-entry v.log.text (λ x. x.address == a) (λ e w. refl) r.entry (rw is at r.here) r.whole;
    last = whole-entry v.log.text (has_key cmp r.entry.key) (λ e w. refl) r.entry (rw is at r.last) r.whole;
    some = r.some;
    whole = r.whole;
  }

  -- what the log asks of it
  pub some-there : (v : RecordsView K V) (a : ℕ) → IsReplaceable cmp v a → IsSome (entry_at v.text a)
  some-there v a r = rw r.here refl

  pub value-there : (v : RecordsView K V) (a : ℕ) → IsReplaceable cmp v a → IsSome (value_at v.text a)
  value-there v a r = rw r.here r.some

  pub whole-there : (v : RecordsView K V) (a : ℕ) → IsReplaceable cmp v a → (e : Entry K V) → entry_at v.text a ≡ Some e → e.delta ≡ false
  whole-there v a r e here =
      let both : Some r.entry ≡ Some e = sym r.here ∙ here in
      let same : r.entry ≡ e = cc in
      ap (λ (x : Entry K V). x.delta) (sym same) ∙ r.whole

  -- and what it leaves
  pub records-changed : {keeps : Bool} {code : K → ℕ} (p k size : ℕ) (words : List (List Word)) (old new : LogView K V) (a : ℕ) (value : Option V)
      → IsKeyOrder cmp
      → IsTraced keeps code (view_of cmp join p k size old words)
      → IsReplaceable cmp (raw (view_of cmp join p k size old words)) a
      → new ≡ log.with_value old a value
      → view_of cmp join p k size new words ≡ with_value (view_of cmp join p k size old words) a value
  records-changed p k size words old new a value order t r is =
      ap (λ (l : LogView K V). view_of cmp join p k size l words) is
      ∙ ap (λ (text : List (Entry K V)). record (with_value (view_of cmp join p k size old words) a value) { text = text })
      (changed-resolved cmp join a value order old.text (log-raw cmp join p k size words old t).rising r.entry r.here r.whole r.last)
