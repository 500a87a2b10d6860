-- A bucket has an overflow bucket more, or an index is new.
use Rattle.std.proofs.Common.{◌≡◌, ◌+◌, ◌<◌, ◌++◌, ◌∷◌, ℕ, zero, suc, List, [], Bool, false, Option, None, Some, length, get_or, replicate, refl, sym, ap, ◌∙◌, arith, ◌⊎◌, inl, inr, ⊎_elim, option_map, cond, length-append}
use Rattle.std.specs.List.{find, list_any}
use Rattle.std.proofs.lemmas.List.{get_or-set_same, get_or-set_other, get_or_past, get_or_default, get_or-replicate, length-set, length-replicate}
use Rattle.std.proofs.lemmas.List.Folds.{list_any_none}
use Rattle.std.proofs.lemmas.Bool.{cases_eq, cases_lt, false≢true}
use Rattle.fkv_index.specs.declared.words.Word.{Word}
use Rattle.fkv_index.specs.declared.words.Place.{Place}
use Rattle.fkv_index.specs.Words.{empty, address_of, is_empty, is_tentative, is_final_of}
use Rattle.fkv_index.specs.Places.{words_of, word_at, IsPlace, NonePasses, with_overflow}
use Rattle.fkv_index.specs.Entries.{entry_at, IsSingle}
use Rattle.fkv_index.specs.Changes.{Probes, SameEntries, SameTentative}
use Rattle.fkv_index.proofs.WordFacts.{empty_not_final, empty_not_tentative, empty_is_empty}

-- what a list of empty words has at each place
empty_at : (n k : ℕ) → get_or (replicate n empty) k empty ≡ empty
empty_at zero k = refl
empty_at (suc n) zero = refl
empty_at (suc n) (suc k) = empty_at n k

-- further empty words, read as the places past the end are
padded_at : (ws : List Word) (n k : ℕ) → get_or (ws ++ replicate n empty) k empty ≡ get_or ws k empty
padded_at [] n k = empty_at n k
padded_at (w ∷ ws) n zero = refl
padded_at (w ∷ ws) n (suc k) = padded_at ws n k

none_found : (p : Word → Bool) (n : ℕ) → p empty ≡ false → find p (replicate n empty) ≡ None
none_found p zero none = refl
none_found p (suc n) none = rw none (none_found p n none)

padded_find : (p : Word → Bool) (ws : List Word) (n : ℕ) → p empty ≡ false → find p (ws ++ replicate n empty) ≡ find p ws
padded_find p [] n none = none_found p n none
padded_find p (w ∷ ws) n none = ap (λ (o : Option Word). cond (p w) (Some w) o) (padded_find p ws n none)

words_of-grown : (index : List (List Word)) (b : ℕ) → b < length index → words_of (with_overflow index b) b ≡ words_of index b ++ replicate 7 empty
words_of-grown index b within = get_or-set_same index b (words_of index b ++ replicate 7 empty) [] within

words_of-other : (index : List (List Word)) (b c : ℕ) → (c ≡ b → ⊥) → words_of (with_overflow index b) c ≡ words_of index c
words_of-other index b c ne = get_or-set_other index b c (words_of index b ++ replicate 7 empty) [] ne

-- every word stays
pub word_at-grown : (index : List (List Word)) (b : ℕ) (q : Place) → b < length index → word_at (with_overflow index b) q ≡ word_at index q
word_at-grown index b q within =
    ⊎_elim (λ e. ap (λ (n : ℕ). get_or (words_of (with_overflow index b) n) q.at empty) e ∙ ap (λ (ws : List Word). get_or ws q.at empty) (words_of-grown index b within)
    ∙ padded_at (words_of index b) 7 q.at ∙ ap (λ (n : ℕ). get_or (words_of index n) q.at empty) (sym e))
    (λ ne. ap (λ (ws : List Word). get_or ws q.at empty) (words_of-other index b q.bucket ne)) (cases_eq q.bucket b)

pub same_tentative_grown : (index : List (List Word)) (b : ℕ) → b < length index → SameTentative index (with_overflow index b)
same_tentative_grown index b within q = ap is_tentative (word_at-grown index b q within)

pub single_grown : (index : List (List Word)) (b : ℕ) → b < length index → IsSingle index → IsSingle (with_overflow index b)
single_grown index b within one = record {
  single = λ c t j k f g. one.single c t j k (sym (ap (is_final_of t) (word_at-grown index b (record { bucket = c; at = j }) within)) ∙ f)
      (sym (ap (is_final_of t) (word_at-grown index b (record { bucket = c; at = k }) within)) ∙ g);
}

pub same_entries_grown : (index : List (List Word)) (b : ℕ) → b < length index → SameEntries index (with_overflow index b)
unfolding entry_at
same_entries_grown index b within c t =
    ⊎_elim (λ e. ap (λ (n : ℕ). option_map address_of (find (is_final_of t) (words_of (with_overflow index b) n))) e
    ∙ ap (λ (ws : List Word). option_map address_of (find (is_final_of t) ws)) (words_of-grown index b within)
    ∙ ap (option_map address_of) (padded_find (is_final_of t) (words_of index b) 7 (empty_not_final t))
    ∙ ap (λ (n : ℕ). option_map address_of (find (is_final_of t) (words_of index n))) (sym e))
    (λ ne. ap (λ (ws : List Word). option_map address_of (find (is_final_of t) ws)) (words_of-other index b c ne)) (cases_eq c b)

-- no empty place
pub all_full : (ws : List Word) → NonePasses is_empty ws → list_any is_empty ws ≡ false
all_full ws none = list_any_none is_empty ws (λ k d within. ap is_empty (get_or_default ws k d empty within) ∙ none k within)

-- a place of the index is one of it grown
place_grown : (index : List (List Word)) (b : ℕ) (q : Place) → b < length index → IsPlace index q → IsPlace (with_overflow index b) q
place_grown index b q within place =
    ⊎_elim (λ e. let grown : length (words_of (with_overflow index b) q.bucket) ≡ length (words_of index q.bucket) + 7 =
    ap (λ (n : ℕ). length (words_of (with_overflow index b) n)) e ∙ ap length (words_of-grown index b within) ∙ length-append (words_of index b) (replicate 7 empty)
    ∙ ap (λ (n : ℕ). length (words_of index n) + 7) (sym e) in omega arith)
    (λ ne. rw (words_of-other index b q.bucket ne) place) (cases_eq q.bucket b)

-- a probe of a full bucket
pub probes_grown : (index : List (List Word)) (b at : ℕ) → b < length index → NonePasses is_empty (words_of index b) → at ≡ length (words_of index b)
    → Probes b (record { bucket = b; at = at }) index (with_overflow index b)
probes_grown index b at within full last =
    let first : length (words_of (with_overflow index b) b) ≡ length (words_of index b) + 7 = ap length (words_of-grown index b within) ∙ length-append (words_of index b) (replicate 7 empty) in
    let reads : (k : ℕ) → get_or (words_of (with_overflow index b) b) k empty ≡ get_or (words_of index b) k empty = λ k. word_at-grown index b (record { bucket = b; at = k }) within in
    record {
      exact = rw (all_full (words_of index b) full) refl;
      there = refl;
      place = omega arith;
      empty = ap is_empty (reads at ∙ get_or_past (words_of index b) at empty (omega arith)) ∙ empty_is_empty;
      first = λ q same low.
          ap (λ (n : ℕ). is_empty (word_at (with_overflow index b) (record { bucket = n; at = q.at }))) same
          ∙ ap is_empty (reads q.at) ∙ full q.at (omega arith);
      words = λ q. word_at-grown index b q within;
      places = λ q place. place_grown index b q within place;
      buckets = length-set index b (words_of index b ++ replicate 7 empty);
    }

-- a new index
module _ (n m : ℕ) where
  words_of-new : (b : ℕ) → (words_of (replicate n (replicate m empty)) b ≡ replicate m empty) ⊎ (words_of (replicate n (replicate m empty)) b ≡ [])
  words_of-new b =
      ⊎_elim (λ low. inl (get_or-replicate n b (replicate m empty) [] low))
      (λ high. inr (get_or_past (replicate n (replicate m empty)) b [] (omega (arith, length-replicate n (replicate m empty))))) (cases_lt b n)

  word_at-new : (q : Place) → word_at (replicate n (replicate m empty)) q ≡ empty
  word_at-new q = ⊎_elim (λ e. ap (λ (ws : List Word). get_or ws q.at empty) e ∙ empty_at m q.at) (λ e. ap (λ (ws : List Word). get_or ws q.at empty) e) (words_of-new q.bucket)

  pub none_tentative : (q : Place) → is_tentative (word_at (replicate n (replicate m empty)) q) ≡ false
  none_tentative q = ap is_tentative (word_at-new q) ∙ empty_not_tentative

  pub single_new : IsSingle (replicate n (replicate m empty))
  single_new = record {
    single = λ b t j k f g. absurd (false≢true (sym (ap (is_final_of t) (word_at-new (record { bucket = b; at = j })) ∙ empty_not_final t) ∙ f));
  }

  pub entry_at-new : (b t : ℕ) → entry_at (replicate n (replicate m empty)) b t ≡ None
  unfolding entry_at
  entry_at-new b t =
      ⊎_elim (λ e. ap (λ (ws : List Word). option_map address_of (find (is_final_of t) ws)) e ∙ ap (option_map address_of) (none_found (is_final_of t) m (empty_not_final t)))
      (λ e. ap (λ (ws : List Word). option_map address_of (find (is_final_of t) ws)) e) (words_of-new b)
