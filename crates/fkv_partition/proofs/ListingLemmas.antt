-- The keys of the live map are those of records.
use Rattle.std.proofs.Common.{◌≡◌, Bool, true, false, cond, ℕ, zero, suc, List, [], ◌∷◌, Option, Some, None, All, IsSome, slice_get, refl, sym, ap, subst}
use Rattle.std.specs.declared.cmp.Ordering.{Ordering}
use Rattle.std.specs.BTreeMap.{is_at}
use Rattle.std.specs.Option.{option_or}
use Rattle.std.specs.Map.{lookup, keys_of}
use Rattle.std.specs.Cmp.{IsTotalOrder, eq_by_cmp_equiv}
use Rattle.std.proofs.lemmas.Map.Views.{All-keys_from_lookup}
use Rattle.fkv_texts.specs.declared.entries.Entry.{Entry}
use Rattle.fkv_texts.specs.Text.{last_of, value_of, live}
use Rattle.fkv_texts.specs.Deltas.{resolved}
use Rattle.fkv_texts.proofs.StoodLemmas.{AreAlike, alike, alike-get}
use Rattle.fkv_lookups.specs.Overlays.{said_over, with_text, IsApart}
use Rattle.fkv_functions.specs.Plain.{IsKeyOrder, PlainMap}
use Rattle.fkv_partition.specs.Views.{PartitionView, partition_of, live_of, IsBare}
use Rattle.fkv_partition.specs.KeySound.{IsSound}

-- what holds of the key of each record holds of it once the records stand
resolved-keys : {K V : Type 0} (cmp : K → K → Ordering) (join : V → V → V) (P : K → Type 0) (es text : List (Entry K V)) → text ≡ resolved cmp join es → ((i : ℕ) (e : Entry K V) → slice_get es i ≡ Some e → P e.key) → (i : ℕ) (e : Entry K V) → slice_get text i ≡ Some e → P e.key
resolved-keys {K} {V} cmp join P es text is h i e g =
    let d = alike-get es text (subst (AreAlike es) (sym is) (alike cmp join es)) i e g in
    subst P (ap (λ (x : Entry K V). x.key) d.2) (h i d.0 d.1)

module _ {K V : Type 0} (cmp : K → K → Ordering) (order : IsKeyOrder cmp) (P : K → Type 0) where
  by_case : (x : Entry K V) (q : K) (l : Option (Entry K V)) (b : Bool) → is_at (cmp x.key) q ≡ b → (IsSome l → P q) → P x.key → IsSome (option_or l (cond b (Some x) None)) → P q
  by_case x q (Some y) b t more own s = more refl
  by_case x q None true t more own s = subst P (order.same x.key q t) own
  by_case x q None false t more own s = absurd (cc)

  last-key : (text : List (Entry K V)) → ((i : ℕ) (e : Entry K V) → slice_get text i ≡ Some e → P e.key) → (q : K) → IsSome (last_of cmp text q) → P q
  last-key [] h q s = absurd (cc)
  last-key (x ∷ xs) h q s = by_case x q (last_of cmp xs q) (is_at (cmp x.key) q) refl (last-key xs (λ i e k. h (suc i) e k) q) (h zero x refl) s

  -- a map that has no value at such keys has none at the keys of records
  bare-apart : (m : PlainMap K V) (text : List (Entry K V)) → ((i : ℕ) (e : Entry K V) → slice_get text i ≡ Some e → P e.key) → ((q : K) → P q → m q ≡ None) → IsApart cmp m text
  bare-apart m text h none q s = none q (last-key text h q s)

  held-some : (l : Option (Entry K V)) → IsSome (value_of l) → IsSome l
  held-some None s = s
  held-some (Some e) s = refl

  -- what holds of the key of each record holds of each key that is listed with its value in the live map
  listed-keys : (o : IsTotalOrder cmp) (text : List (Entry K V)) (pairs : List (K × V)) → ((i : ℕ) (e : Entry K V) → slice_get text i ≡ Some e → P e.key) → ((q : K) → lookup (is_at (cmp q)) pairs ≡ live cmp text q) → All P (keys_of pairs)
  listed-keys o text pairs h l = All-keys_from_lookup (eq_by_cmp_equiv o) P pairs (λ q s. last-key text h q (held-some (last_of cmp text q) (subst IsSome (l q) s)))

module _ {K V : Type 0} (cmp : K → K → Ordering) (m : PlainMap K V) (text : List (Entry K V)) (q : K) where
  -- a key of no value gets what the text says
  pub said-live : m q ≡ None → with_text cmp m text q ≡ live cmp text q
  said-live none = by_last (last_of cmp text q)
    where
      by_last : (l : Option (Entry K V)) → said_over l (m q) ≡ value_of l
      by_last None = none
      by_last (Some e) = refl

  -- and one of which no record can be stays
  said-elsewhere : (order : IsKeyOrder cmp) (P : K → Type 0) → ((i : ℕ) (e : Entry K V) → slice_get text i ≡ Some e → P e.key) → (P q → ⊥) → with_text cmp m text q ≡ m q
  said-elsewhere order P own off = by_last (last_of cmp text q) refl
    where
      by_last : (l : Option (Entry K V)) → last_of cmp text q ≡ l → said_over l (m q) ≡ m q
      by_last None e = refl
      by_last (Some x) e = absurd (off (last-key cmp order P text own q (rw e refl)))

-- the keys of the text of a partition belong there
module _ {K V I : Type 0} {keeps : Bool} {v : PartitionView K V I} (cmp : K → K → Ordering) (join : V → V → V) (code : K → ℕ) (order : IsKeyOrder cmp) (s : IsSound keeps cmp join code v) where
  own-keys : (i : ℕ) (e : Entry K V) → slice_get v.records.text i ≡ Some e → partition_of v.count (code e.key) ≡ v.number
  own-keys = resolved-keys cmp join (λ k. partition_of v.count (code k) ≡ v.number) v.records.log.text v.records.text s.resolved.is s.routed

  pub own-apart : (m : PlainMap K V) → IsBare code v m → IsApart cmp m v.records.text
  own-apart m bare = bare-apart cmp order (λ k. partition_of v.count (code k) ≡ v.number) m v.records.text own-keys bare

  -- and what a map has of other keys stays
  pub others-stay : (m : PlainMap K V) (q : K) → (partition_of v.count (code q) ≡ v.number → ⊥) → with_text cmp m v.records.text q ≡ m q
  others-stay m q off = said-elsewhere cmp m v.records.text q order (λ k. partition_of v.count (code k) ≡ v.number) own-keys off

  pub listed-own : IsTotalOrder cmp → (pairs : List (K × V)) → ((q : K) → lookup (is_at (cmp q)) pairs ≡ live_of cmp v q) → All (λ k. partition_of v.count (code k) ≡ v.number) (keys_of pairs)
  listed-own o pairs is = listed-keys cmp order (λ k. partition_of v.count (code k) ≡ v.number) o v.records.text pairs own-keys is
