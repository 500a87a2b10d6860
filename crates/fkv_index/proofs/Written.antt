-- One word of an index is written: what the index map becomes.
use Rattle.std.proofs.Common.{◌≡◌, ◌<◌, ℕ, List, [], Bool, true, false, Option, None, Some, length, get_or, set, refl, sym, ap, ◌∙◌, arith, ⊎_elim, option_map}
use Rattle.std.specs.List.{find}
use Rattle.std.proofs.lemmas.List.{get_or-set_same, get_or-set_other, get_or_past, length-set, set-set}
use Rattle.std.proofs.lemmas.List.Folds.{find_past}
use Rattle.std.proofs.lemmas.List.Recursion.{found_at}
use Rattle.std.proofs.lemmas.Bool.{cases_eq, cases_lt, false_from_ne_true, false≢true}
use Rattle.fkv_index.specs.declared.words.Word.{Word}
use Rattle.fkv_index.specs.declared.words.Place.{Place}
use Rattle.fkv_index.specs.Words.{empty, address_of, tag_of, is_tentative, is_final, is_final_of}
use Rattle.fkv_index.specs.Places.{words_of, word_at, IsPlace, with_word}
use Rattle.fkv_index.specs.Entries.{entry_at, IsSingle}
use Rattle.fkv_index.specs.Changes.{Writes, SameEntries, SameTentative, SetsEntry}
use Rattle.fkv_index.proofs.WordFacts.{tag_of-final, final_of_its_tag, other_tag_not_final}

-- a bucket that has a place is one of the index
pub bucket_within : (index : List (List Word)) (p : Place) → IsPlace index p → p.bucket < length index
bucket_within index p place = ⊎_elim (λ low. low) (λ high. absurd (omega (arith, ap length (get_or_past index p.bucket [] high)))) (cases_lt p.bucket (length index))

-- a word that is not the empty one stands at a place
pub place_of-word : (test : Word → Bool) (index : List (List Word)) (p : Place) → test empty ≡ false → test (word_at index p) ≡ true → IsPlace index p
place_of-word test index p none some =
    ⊎_elim (λ low. low) (λ high. absurd (false≢true (sym none ∙ sym (ap test (get_or_past (words_of index p.bucket) p.at empty high)) ∙ some))) (cases_lt p.at (length (words_of index p.bucket)))

-- the words of a bucket after a write
pub words_of-written : (index : List (List Word)) (p : Place) (w : Word) → IsPlace index p → words_of (with_word index p w) p.bucket ≡ set (words_of index p.bucket) p.at w
words_of-written index p w place = get_or-set_same index p.bucket (set (words_of index p.bucket) p.at w) [] (bucket_within index p place)

pub words_of-other : (index : List (List Word)) (p : Place) (w : Word) (b : ℕ) → (b ≡ p.bucket → ⊥) → words_of (with_word index p w) b ≡ words_of index b
words_of-other index p w b ne = get_or-set_other index p.bucket b (set (words_of index p.bucket) p.at w) [] ne

-- the words at places after a write
pub written_there : (index : List (List Word)) (p : Place) (w : Word) → IsPlace index p → word_at (with_word index p w) p ≡ w
written_there index p w place = ap (λ (ws : List Word). get_or ws p.at empty) (words_of-written index p w place) ∙ get_or-set_same (words_of index p.bucket) p.at w empty place

pub written_beside : (index : List (List Word)) (p : Place) (w : Word) (k : ℕ) → IsPlace index p → (k ≡ p.at → ⊥)
    → word_at (with_word index p w) (record { bucket = p.bucket; at = k }) ≡ word_at index (record { bucket = p.bucket; at = k })
written_beside index p w k place ne = ap (λ (ws : List Word). get_or ws k empty) (words_of-written index p w place) ∙ get_or-set_other (words_of index p.bucket) p.at k w empty ne

-- the address that a bucket's words give for a tag
abbrev address_in : List Word → ℕ → Option ℕ
address_in ws tag = option_map address_of (find (is_final_of tag) ws)

-- a write of a word that is no final entry over another that is none
same_address : (ws : List Word) (k tag : ℕ) (w : Word) → is_final_of tag (get_or ws k empty) ≡ false → is_final_of tag w ≡ false → address_in (set ws k w) tag ≡ address_in ws tag
same_address ws k tag w old new = ap (option_map address_of) (find_past (is_final_of tag) ws k w empty old new)

-- the one final entry of a tag
pub only_address : (ws : List Word) (k tag : ℕ) → k < length ws → is_final_of tag (get_or ws k empty) ≡ true → ((j : ℕ) → (j ≡ k → ⊥) → is_final_of tag (get_or ws j empty) ≡ false)
    → address_in ws tag ≡ Some (address_of (get_or ws k empty))
only_address ws k tag within final others =
    ap (option_map address_of) (found_at (find (is_final_of tag)) (is_final_of tag) Some None refl (λ _ _. refl) ws k empty within (λ j below. others j (λ e. absurd (omega arith))) final)

-- the entries of a bucket after a write
entry_there : (index : List (List Word)) (p : Place) (w : Word) (tag : ℕ) → IsPlace index p → entry_at (with_word index p w) p.bucket tag ≡ address_in (set (words_of index p.bucket) p.at w) tag
unfolding entry_at
entry_there index p w tag place = ap (λ (ws : List Word). address_in ws tag) (words_of-written index p w place)

entry_other : (index : List (List Word)) (p : Place) (w : Word) (b tag : ℕ) → (b ≡ p.bucket → ⊥) → entry_at (with_word index p w) b tag ≡ entry_at index b tag
unfolding entry_at
entry_other index p w b tag ne = ap (λ (ws : List Word). address_in ws tag) (words_of-other index p w b ne)

entry_is : (index : List (List Word)) (b tag : ℕ) → address_in (words_of index b) tag ≡ entry_at index b tag
unfolding entry_at
entry_is index b tag = refl

-- where neither the old word nor the new is a final entry of a tag, its entry stays
entry_stays : (index : List (List Word)) (p : Place) (w : Word) (b tag : ℕ) → IsPlace index p → is_final_of tag (word_at index p) ≡ false → is_final_of tag w ≡ false
    → entry_at (with_word index p w) b tag ≡ entry_at index b tag
entry_stays index p w b tag place old new =
    ⊎_elim (λ e. ap (λ (n : ℕ). entry_at (with_word index p w) n tag) e ∙ entry_there index p w tag place ∙ same_address (words_of index p.bucket) p.at tag w old new
    ∙ entry_is index p.bucket tag ∙ ap (λ (n : ℕ). entry_at index n tag) (sym e))
    (λ ne. entry_other index p w b tag ne) (cases_eq b p.bucket)

-- a write that is no final entry over a word that is none leaves the index map
pub same_entries : (index : List (List Word)) (p : Place) (w : Word) → IsPlace index p → ((t : ℕ) → is_final_of t (word_at index p) ≡ false) → ((t : ℕ) → is_final_of t w ≡ false)
    → SameEntries index (with_word index p w)
same_entries index p w place old new b tag = entry_stays index p w b tag place (old tag) (new tag)

-- a write of a final entry, where no other of its tag stands, over a word of its tag or of none
pub sets_entry : (index : List (List Word)) (p : Place) (w : Word) → IsPlace index p → is_final w ≡ true
    → ((t : ℕ) → (t ≡ tag_of w → ⊥) → is_final_of t (word_at index p) ≡ false)
    → ((k : ℕ) → (k ≡ p.at → ⊥) → is_final_of (tag_of w) (word_at index (record { bucket = p.bucket; at = k })) ≡ false)
    → SetsEntry p.bucket (tag_of w) (address_of w) index (with_word index p w)
sets_entry index p w place final old others =
    let ws : List Word = set (words_of index p.bucket) p.at w in
    let here : get_or ws p.at empty ≡ w = get_or-set_same (words_of index p.bucket) p.at w empty place in
    let within : p.at < length ws = omega (arith, length-set (words_of index p.bucket) p.at w) in
    record {
      there = entry_there index p w (tag_of w) place
          ∙ only_address ws p.at (tag_of w) within (ap (is_final_of (tag_of w)) here ∙ final_of_its_tag w final)
          (λ k ne. ap (is_final_of (tag_of w)) (get_or-set_other (words_of index p.bucket) p.at k w empty ne) ∙ others k ne)
          ∙ ap (λ (x : Word). Some (address_of x)) here;
      elsewhere = λ b t ne.
          ⊎_elim (λ e. ⊎_elim (λ f. absurd (ne (e, f)))
          (λ other. entry_stays index p w b t place (old t other) (other_tag_not_final t w other)) (cases_eq t (tag_of w)))
          (λ other. entry_other index p w b t other) (cases_eq b p.bucket);
    }

-- at most one final entry for each tag, after a write
module _ (index : List (List Word)) (p : Place) (w : Word) (place : IsPlace index p) (one : IsSingle index)
    (others : (t k : ℕ) → is_final_of t w ≡ true → (k ≡ p.at → ⊥) → is_final_of t (word_at index (record { bucket = p.bucket; at = k })) ≡ false) where
  -- an entry beside the written place was there before
  beside : (t k : ℕ) → (k ≡ p.at → ⊥) → is_final_of t (word_at (with_word index p w) (record { bucket = p.bucket; at = k })) ≡ true
      → is_final_of t (word_at index (record { bucket = p.bucket; at = k })) ≡ true
  beside t k ne f = sym (ap (is_final_of t) (written_beside index p w k place ne)) ∙ f

  -- the written entry and one beside it have different tags
  apart : (t j k : ℕ) → j ≡ p.at → (k ≡ p.at → ⊥) → is_final_of t (word_at (with_word index p w) (record { bucket = p.bucket; at = j })) ≡ true
      → is_final_of t (word_at (with_word index p w) (record { bucket = p.bucket; at = k })) ≡ true → ⊥
  apart t j k e ne f g =
      let written : is_final_of t w ≡ true = sym (ap (is_final_of t) (ap (λ (n : ℕ). word_at (with_word index p w) (record { bucket = p.bucket; at = n })) e ∙ written_there index p w place)) ∙ f in
      false≢true (sym (others t k written ne) ∙ beside t k ne g)

  in_bucket : (t j k : ℕ) → is_final_of t (word_at (with_word index p w) (record { bucket = p.bucket; at = j })) ≡ true
      → is_final_of t (word_at (with_word index p w) (record { bucket = p.bucket; at = k })) ≡ true → j ≡ k
  in_bucket t j k f g =
      ⊎_elim (λ e. ⊎_elim (λ e'. e ∙ sym e') (λ ne. absurd (apart t j k e ne f g)) (cases_eq k p.at))
      (λ ne. ⊎_elim (λ e'. absurd (apart t k j e' ne g f)) (λ ne'. one.single p.bucket t j k (beside t j ne f) (beside t k ne' g)) (cases_eq k p.at)) (cases_eq j p.at)

  pub single_written : IsSingle (with_word index p w)
  single_written = record {
    single = λ b t j k f g.
        ⊎_elim (λ e. in_bucket t j k (ap (λ (n : ℕ). is_final_of t (word_at (with_word index p w) (record { bucket = n; at = j }))) (sym e) ∙ f)
        (ap (λ (n : ℕ). is_final_of t (word_at (with_word index p w) (record { bucket = n; at = k }))) (sym e) ∙ g))
        (λ ne. one.single b t j k (sym (ap (λ (ws : List Word). is_final_of t (get_or ws j empty)) (words_of-other index p w b ne)) ∙ f)
        (sym (ap (λ (ws : List Word). is_final_of t (get_or ws k empty)) (words_of-other index p w b ne)) ∙ g)) (cases_eq b p.bucket);
  }

-- a write of a word that is no final entry
pub single_kept : (index : List (List Word)) (p : Place) (w : Word) → IsPlace index p → IsSingle index → ((t : ℕ) → is_final_of t w ≡ false) → IsSingle (with_word index p w)
single_kept index p w place one new = single_written index p w place one (λ t k f ne. absurd (false≢true (sym (new t) ∙ f)))

-- beside the final entry of a tag there is no other
pub only_one : (index : List (List Word)) (p : Place) (t k : ℕ) → IsSingle index → is_final_of t (word_at index p) ≡ true → (k ≡ p.at → ⊥)
    → is_final_of t (word_at index (record { bucket = p.bucket; at = k })) ≡ false
only_one index p t k one here ne =
    false_from_ne_true (is_final_of t (word_at index (record { bucket = p.bucket; at = k }))) (λ f. ne (one.single p.bucket t k p.at f here))

-- a final entry in the place of another of its tag
pub single_exchanged : (index : List (List Word)) (p : Place) (w : Word) → IsPlace index p → IsSingle index → is_final (word_at index p) ≡ true → tag_of w ≡ tag_of (word_at index p)
    → IsSingle (with_word index p w)
single_exchanged index p w place one old tag =
    single_written index p w place one (λ t k f ne. only_one index p t k one
    (ap (λ (n : ℕ). is_final_of n (word_at index p)) (sym (tag_of-final t w f) ∙ tag) ∙ final_of_its_tag (word_at index p) old) ne)

pub sets_exchanged : (index : List (List Word)) (p : Place) (w : Word) → IsPlace index p → IsSingle index → is_final (word_at index p) ≡ true → is_final w ≡ true → tag_of w ≡ tag_of (word_at index p)
    → SetsEntry p.bucket (tag_of w) (address_of w) index (with_word index p w)
sets_exchanged index p w place one old new tag =
    sets_entry index p w place new (λ t ne. other_tag_not_final t (word_at index p) (λ e. ne (e ∙ sym tag)))
    (λ k ne. only_one index p (tag_of w) k one (ap (λ (n : ℕ). is_final_of n (word_at index p)) tag ∙ final_of_its_tag (word_at index p) old) ne)

-- two writes at one place
pub written_twice : (index : List (List Word)) (p : Place) (v w : Word) → IsPlace index p → with_word (with_word index p v) p w ≡ with_word index p w
written_twice index p v w place =
    ap (λ (ws : List Word). set (with_word index p v) p.bucket (set ws p.at w)) (words_of-written index p v place)
    ∙ set-set index p.bucket (set (words_of index p.bucket) p.at v) (set (set (words_of index p.bucket) p.at v) p.at w)
    ∙ ap (λ (ws : List Word). set index p.bucket ws) (set-set (words_of index p.bucket) p.at v w)

-- a place stays one
pub place_written : (index : List (List Word)) (p : Place) (w : Word) → IsPlace index p → IsPlace (with_word index p w) p
place_written index p w place = rw (words_of-written index p w place) (rw (length-set (words_of index p.bucket) p.at w) place)

pub buckets_written : (index : List (List Word)) (p : Place) (w : Word) → length (with_word index p w) ≡ length index
buckets_written index p w = length-set index p.bucket (set (words_of index p.bucket) p.at w)

other_place : (p q : Place) → (q ≡ p → ⊥) → q.bucket ≡ p.bucket → q.at ≡ p.at → ⊥
other_place p q ne e f = ne (λ i. record { bucket = e i; at = f i })

places_written : (index : List (List Word)) (p : Place) (w : Word) (q : Place) → IsPlace index p → length (words_of (with_word index p w) q.bucket) ≡ length (words_of index q.bucket)
places_written index p w q place =
    ⊎_elim (λ e. ap (λ (n : ℕ). length (words_of (with_word index p w) n)) e ∙ ap length (words_of-written index p w place)
    ∙ length-set (words_of index p.bucket) p.at w ∙ ap (λ (n : ℕ). length (words_of index n)) (sym e))
    (λ ne. ap length (words_of-other index p w q.bucket ne)) (cases_eq q.bucket p.bucket)

pub writes : (index : List (List Word)) (p : Place) (w : Word) → IsPlace index p → Writes p w index (with_word index p w)
writes index p w place = record {
  exact = refl;
  there = written_there index p w place;
  elsewhere = λ q ne.
      ⊎_elim (λ e. ap (λ (n : ℕ). word_at (with_word index p w) (record { bucket = n; at = q.at })) e
      ∙ written_beside index p w q.at place (other_place p q ne e)
      ∙ ap (λ (n : ℕ). word_at index (record { bucket = n; at = q.at })) (sym e))
      (λ other. ap (λ (ws : List Word). get_or ws q.at empty) (words_of-other index p w q.bucket other)) (cases_eq q.bucket p.bucket);
  places = λ q. (λ h. omega (arith, places_written index p w q place), λ h. omega (arith, places_written index p w q place));
  buckets = buckets_written index p w;
}

-- a write that is no tentative entry over a word that is none
pub same_tentative : (index : List (List Word)) (p : Place) (w : Word) → IsPlace index p → is_tentative (word_at index p) ≡ false → is_tentative w ≡ false → SameTentative index (with_word index p w)
same_tentative index p w place old new q =
    ⊎_elim (λ e. ⊎_elim (λ f. let same : q ≡ p = (λ i. record { bucket = e i; at = f i }) in
    ap (λ (x : Place). is_tentative (word_at (with_word index p w) x)) same ∙ ap is_tentative (written_there index p w place) ∙ new
    ∙ sym old ∙ ap (λ (x : Place). is_tentative (word_at index x)) (sym same))
    (λ ne. ap (λ (n : ℕ). is_tentative (word_at (with_word index p w) (record { bucket = n; at = q.at }))) e
    ∙ ap is_tentative (written_beside index p w q.at place ne)
    ∙ ap (λ (n : ℕ). is_tentative (word_at index (record { bucket = n; at = q.at }))) (sym e)) (cases_eq q.at p.at))
    (λ other. ap (λ (ws : List Word). is_tentative (get_or ws q.at empty)) (words_of-other index p w q.bucket other)) (cases_eq q.bucket p.bucket)
