-- A tentative entry becomes final, where no other entry of its tag stands.
use Rattle.std.proofs.Common.{◌≡◌, refl, ◌∷◌, ℕ, zero, suc, List, [], Bool, true, false, get_or, sym, ap, ◌∙◌, ⊎_elim, None}
use Rattle.std.specs.List.{list_any}
use Rattle.std.proofs.lemmas.List.Folds.{list_any_none}
use Rattle.std.proofs.lemmas.List.{get_or_default}
use Rattle.std.proofs.lemmas.Bool.{or_parts, cases_eq}
use Rattle.fkv_index.specs.declared.words.Word.{Word}
use Rattle.fkv_index.specs.declared.words.Place.{Place}
use Rattle.fkv_index.specs.Words.{empty, address_of, tag_of, is_final, is_final_of, is_tentative, is_entry_of}
use Rattle.fkv_index.specs.Places.{words_of, word_at, IsPlace, with_word}
use Rattle.fkv_index.specs.Entries.{entry_at, IsSingle, IsAlone}
use Rattle.fkv_index.specs.Changes.{SetsEntry}
use Rattle.fkv_index.proofs.WordFacts.{empty_not_entry, not_entry_of_its_tag, no_entry_of, not_entry_not_final, tentative_not_final, tag_of-final}
use Rattle.fkv_index.proofs.Found.{entry_at-none}
use Rattle.fkv_index.proofs.Written.{written_there, written_beside, single_written, sets_entry}

-- no other entry of its tag stands in its bucket, place by place
abbrev pub NoOther : List (List Word) → Place → Type 0
NoOther index p =
    (k : ℕ) → (k ≡ p.at → ⊥) → is_entry_of (tag_of (word_at index p)) (word_at index (record { bucket = p.bucket; at = k })) ≡ false

same_place : (p q : Place) → q.bucket ≡ p.bucket → q.at ≡ p.at → q ≡ p
same_place p q e f = λ i. record { bucket = e i; at = f i }

pub alone_by_places : (index : List (List Word)) (p : Place) → NoOther index p → IsAlone index p
alone_by_places index p none q same other tag =
    let here : word_at index (record { bucket = p.bucket; at = q.at }) ≡ word_at index q = ap (λ (b : ℕ). word_at index (record { bucket = b; at = q.at })) (sym same) in
    not_entry_of_its_tag (tag_of (word_at index p)) (word_at index q) (sym (ap (is_entry_of (tag_of (word_at index p))) here) ∙ none q.at (λ e. other (same_place p q same e))) tag

pub places_alone : (index : List (List Word)) (p : Place) → IsAlone index p → NoOther index p
places_alone index p alone k ne =
    let q : Place = record { bucket = p.bucket; at = k } in
    no_entry_of (tag_of (word_at index p)) (word_at index q) (λ tag. alone q refl (λ e. ne (ap (λ (x : Place). x.at) e)) tag)

none_any : (p : Word → Bool) (ws : List Word) (k : ℕ) → p empty ≡ false → list_any p ws ≡ false → p (get_or ws k empty) ≡ false
none_any p [] k none e = none
none_any p (w ∷ ws) zero none e = (or_parts (p w) (list_any p ws) e).0
none_any p (w ∷ ws) (suc k) none e = none_any p ws k none ((or_parts (p w) (list_any p ws) e).1)

-- the scan finds no entry, once the own place is empty
pub alone_from : (index : List (List Word)) (p : Place) → IsPlace index p → list_any (is_entry_of (tag_of (word_at index p))) (words_of (with_word index p empty) p.bucket) ≡ false → NoOther index p
alone_from index p place none k ne =
    let tag : ℕ = tag_of (word_at index p) in
    sym (ap (is_entry_of tag) (written_beside index p empty k place ne)) ∙ none_any (is_entry_of tag) (words_of (with_word index p empty) p.bucket) k (empty_not_entry tag) none

-- and it finds none where the entry is alone
pub none_from_alone : (index : List (List Word)) (p : Place) → IsPlace index p → NoOther index p → list_any (is_entry_of (tag_of (word_at index p))) (words_of (with_word index p empty) p.bucket) ≡ false
none_from_alone index p place alone =
    let tag : ℕ = tag_of (word_at index p) in
    let ws : List Word = words_of (with_word index p empty) p.bucket in
    list_any_none (is_entry_of tag) ws (λ k d within.
    ap (is_entry_of tag) (get_or_default ws k d empty within)
    ∙ ⊎_elim (λ e. ap (λ (n : ℕ). is_entry_of tag (get_or ws n empty)) e ∙ ap (is_entry_of tag) (written_there index p empty place) ∙ empty_not_entry tag)
    (λ ne. ap (is_entry_of tag) (written_beside index p empty k place ne) ∙ alone k ne) (cases_eq k p.at))

module _ (index : List (List Word)) (p : Place) (w : Word) (place : IsPlace index p) (alone : NoOther index p) (tag : tag_of w ≡ tag_of (word_at index p)) where
  others : (k : ℕ) → (k ≡ p.at → ⊥) → is_final_of (tag_of w) (word_at index (record { bucket = p.bucket; at = k })) ≡ false
  others k ne = not_entry_not_final (tag_of w) _ (ap (λ (n : ℕ). is_entry_of n (word_at index (record { bucket = p.bucket; at = k }))) tag ∙ alone k ne)

  pub single_confirmed : IsSingle index → IsSingle (with_word index p w)
  single_confirmed one = single_written index p w place one (λ t k f ne.
      ap (λ (n : ℕ). is_final_of n (word_at index (record { bucket = p.bucket; at = k }))) (sym (tag_of-final t w f)) ∙ others k ne)

  pub sets_confirmed : is_tentative (word_at index p) ≡ true → is_final w ≡ true → SetsEntry p.bucket (tag_of w) (address_of w) index (with_word index p w)
  sets_confirmed old new = sets_entry index p w place new (λ t ne. tentative_not_final t (word_at index p) old) others

-- so no final entry of its tag stands there
pub none_alone : (index : List (List Word)) (p : Place) → NoOther index p → is_tentative (word_at index p) ≡ true
    → entry_at index p.bucket (tag_of (word_at index p)) ≡ None
none_alone index p alone old =
    let tag : ℕ = tag_of (word_at index p) in
    entry_at-none index p.bucket tag (λ k within.
    ⊎_elim (λ e. ap (λ (n : ℕ). is_final_of tag (word_at index (record { bucket = p.bucket; at = n }))) e ∙ tentative_not_final tag (word_at index p) old)
    (λ ne. not_entry_not_final tag _ (alone k ne)) (cases_eq k p.at))

-- what the scan was asked
pub scan_is : (index after : List (List Word)) (p : Place) (w e : Word) (tag b : ℕ) (r : Bool) → w ≡ word_at index p → tag ≡ tag_of w → after ≡ with_word index p e → e ≡ empty → p.bucket ≡ b
    → r ≡ list_any (is_entry_of tag) (words_of after b) → r ≡ list_any (is_entry_of (tag_of (word_at index p))) (words_of (with_word index p empty) p.bucket)
scan_is index after p w e tag b r read tagged written cleared same asked =
    asked
    ∙ ap (λ (n : ℕ). list_any (is_entry_of n) (words_of after b)) (tagged ∙ ap tag_of read)
    ∙ ap (λ (n : ℕ). list_any (is_entry_of (tag_of (word_at index p))) (words_of after n)) (sym same)
    ∙ ap (λ (m : List (List Word)). list_any (is_entry_of (tag_of (word_at index p))) (words_of m p.bucket)) (written ∙ ap (with_word index p) cleared)
