-- Words of an index where one is written, and tentative ones that stand alone.
use Rattle.std.proofs.Common.{◌≡◌, ◌≢◌, ◌<◌, ◌+◌, ◌*◌, ◌^◌, ⊎_elim, ℕ, true, false, List, [], Some, None, length, get_or, set, refl, sym, ◌∙◌, ap, arith}
use Rattle.std.proofs.lemmas.List.{get_or-set_same, get_or-set_other, get_or_past}
use Rattle.std.proofs.lemmas.Bool.{cases_lt, cases_Bool, le-leb}
use Rattle.std.proofs.lemmas.Bool.Decides.{nat_tests}
use Rattle.fkv_index.specs.declared.words.Word.{Word}
use Rattle.fkv_index.specs.declared.words.Place.{Place}
use Rattle.fkv_index.specs.Words.{empty, final_word, tentative_word, address_of, tag_of, is_tentative, is_final}
use Rattle.fkv_index.specs.Places.{words_of, word_at, IsPlace, with_word}
use Rattle.fkv_index.specs.Entries.{entry_at, IsIndexMap, IsAlone}
use Rattle.fkv_index.specs.Changes.{Probes}

-- the words at places after a write
bucket_within : (index : List (List Word)) (p : Place) → IsPlace index p → p.bucket < length index
bucket_within index p place = ⊎_elim (λ low. low) (λ high. absurd (omega (arith, ap length (get_or_past index p.bucket [] high)))) (cases_lt p.bucket (length index))

words_of-written : (index : List (List Word)) (p : Place) (w : Word) → IsPlace index p → words_of (with_word index p w) p.bucket ≡ set (words_of index p.bucket) p.at w
words_of-written index p w place = get_or-set_same index p.bucket (set (words_of index p.bucket) p.at w) [] (bucket_within index p place)

pub written_there : (index : List (List Word)) (p : Place) (w : Word) → IsPlace index p → word_at (with_word index p w) p ≡ w
written_there index p w place = ap (λ (ws : List Word). get_or ws p.at empty) (words_of-written index p w place) ∙ get_or-set_same (words_of index p.bucket) p.at w empty place

pub written_beside : (index : List (List Word)) (p q : Place) (w : Word) → IsPlace index p → q.bucket ≡ p.bucket → (q ≡ p → ⊥) → word_at (with_word index p w) q ≡ word_at index q
written_beside index p q w place same ne =
    let apart : q.at ≢ p.at = λ e. ne (λ i. record { bucket = same i; at = e i }) in
    ap (λ n. get_or (words_of (with_word index p w) n) q.at empty) same
    ∙ ap (λ (ws : List Word). get_or ws q.at empty) (words_of-written index p w place)
    ∙ get_or-set_other (words_of index p.bucket) p.at q.at w empty apart
    ∙ ap (λ n. get_or (words_of index n) q.at empty) (sym same)

-- the words that are written
pub tentative-tag : (t : ℕ) → t < 2 ^ 15 → tag_of (tentative_word t) ≡ t
unfolding tag_of tentative_word
tentative-tag t small = omega arith

tag-small : (w : Word) → tag_of w < 2 ^ 15
unfolding tag_of
tag-small w = omega arith

final-tag : (t : ℕ) → t < 2 ^ 15 → tag_of (final_word t 1) ≡ t
unfolding tag_of final_word
final-tag t small = omega arith

final-is : (t : ℕ) → t < 2 ^ 15 → is_final (final_word t 1) ≡ true
unfolding is_final final_word
final-is t small = grind (arith, nat_tests)

empty-not : is_tentative empty ≡ false
unfolding is_tentative
empty-not = refl

-- a place that holds a tentative word is one
pub tentative-place : (index : List (List Word)) (p : Place) → is_tentative (word_at index p) ≡ true → IsPlace index p
tentative-place index p h =
    ⊎_elim (λ low. low) (λ high. (let e : is_tentative (word_at index p) ≡ false = ap is_tentative (get_or_past (words_of index p.bucket) p.at empty high) ∙ empty-not in let bad : true ≡ false = sym h ∙ e in absurd (cc))) (cases_lt p.at (length (words_of index p.bucket)))

-- what is confirmed is a final entry of its tag
pub confirmed-final : (index : List (List Word)) (p : Place) → IsPlace index p → is_final (word_at (with_word index p (final_word (tag_of (word_at index p)) 1)) p) ≡ true
confirmed-final index p place = ap is_final (written_there index p (final_word (tag_of (word_at index p)) 1) place) ∙ final-is (tag_of (word_at index p)) (tag-small (word_at index p))

pub confirmed-tag : (index : List (List Word)) (p : Place) → IsPlace index p → tag_of (word_at (with_word index p (final_word (tag_of (word_at index p)) 1)) p) ≡ tag_of (word_at index p)
confirmed-tag index p place = ap tag_of (written_there index p (final_word (tag_of (word_at index p)) 1) place) ∙ final-tag (tag_of (word_at index p)) (tag-small (word_at index p))

-- a tentative entry that was just made stands alone, where no word was tentative, and no entry of its tag stood
pub alone-made : (old probed : List (List Word)) (bucket tag : ℕ) (p : Place) → Probes bucket p old probed → tag < 2 ^ 15 → IsIndexMap old → entry_at old bucket tag ≡ None → ((q : Place) → is_tentative (word_at old q) ≡ true → ⊥)
    → IsAlone (with_word probed p (tentative_word tag)) p
alone-made old probed bucket tag p probes small map none clear q same ne tags =
    let there : word_at (with_word probed p (tentative_word tag)) p ≡ tentative_word tag = written_there probed p (tentative_word tag) probes.place in
    let was : word_at (with_word probed p (tentative_word tag)) q ≡ word_at old q = written_beside probed p q (tentative_word tag) probes.place same ne ∙ probes.words q in
    let tagged : tag_of (word_at old q) ≡ tag = ap tag_of (sym was) ∙ tags ∙ ap tag_of there ∙ tentative-tag tag small in
    let bucketed : q.bucket ≡ bucket = same ∙ probes.there in
    (ap is_final was ∙ no-final bucketed tagged, ap is_tentative was ∙ no-tentative)
  where
    no-tentative : is_tentative (word_at old q) ≡ false
    no-tentative = ⊎_elim (λ e. absurd (clear q e)) (λ e. e) (cases_Bool (is_tentative (word_at old q)))

    no-final : q.bucket ≡ bucket → tag_of (word_at old q) ≡ tag → is_final (word_at old q) ≡ false
    no-final b t = ⊎_elim (λ e. (
        let found : entry_at old q.bucket (tag_of (word_at old q)) ≡ Some (address_of (word_at old q)) = map.entry q e in
        let here : entry_at old bucket tag ≡ Some (address_of (word_at old q)) = ap (λ n. entry_at old n tag) (sym b) ∙ ap (λ n. entry_at old q.bucket n) (sym t) ∙ found in
        let bad : Some (address_of (word_at old q)) ≡ None = sym here ∙ none in
        absurd (cc))) (λ e. e) (cases_Bool (is_final (word_at old q)))

pub tentative-is : (t : ℕ) → is_tentative (tentative_word t) ≡ true
unfolding is_tentative tentative_word
tentative-is t = le-leb (2 ^ 63) (2 ^ 63 + (t * 2 ^ 48 + 1)) (omega arith)
