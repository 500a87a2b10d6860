-- An index with single final entries is an index map.
use Rattle.std.proofs.Common.{◌≡◌, ◌∷◌, ℕ, suc, List, [], Bool, true, Option, None, Some, get_or, refl, sym, ap, ◌∙◌, ⊎_elim, option_map}
use Rattle.std.specs.List.{find}
use Rattle.std.proofs.lemmas.Bool.{cases_Bool}
use Rattle.fkv_index.specs.declared.words.Word.{Word}
use Rattle.fkv_index.specs.declared.words.Place.{Place}
use Rattle.fkv_index.specs.Words.{empty, address_of, tag_of, is_final, is_final_of}
use Rattle.fkv_index.specs.Places.{words_of, word_at}
use Rattle.fkv_index.specs.Entries.{entry_at, IsSingle, IsIndexMap, StandsAt}
use Rattle.fkv_index.proofs.WordFacts.{empty_not_final, final_of_its_tag, final_is_final, tag_of-final}
use Rattle.fkv_index.proofs.Written.{place_of-word, only_address, only_one}

-- what a search finds stands somewhere
found_place : (p : Word → Bool) (ws : List Word) (w : Word) → find p ws ≡ Some w → (k : ℕ) × (get_or ws k empty ≡ w) × (p w ≡ true)
found_place p [] w e = cc
found_place p (x ∷ ws) w e =
    ⊎_elim (λ passes. let same : x ≡ w = let h : Some x ≡ Some w = rw passes at e in cc in (0, same, ap p (sym same) ∙ passes))
    (λ fails. let rest = found_place p ws w (rw fails at e) in (suc (rest.0), rest.1, rest.2)) (cases_Bool (p x))

same_place : (p q : Place) → p.bucket ≡ q.bucket → p.at ≡ q.at → p ≡ q
same_place p q e f = λ i. record { bucket = e i; at = f i }

single_places : (index : List (List Word)) → IsSingle index → (p q : Place) → p.bucket ≡ q.bucket → is_final (word_at index p) ≡ true → is_final (word_at index q) ≡ true
    → tag_of (word_at index p) ≡ tag_of (word_at index q) → p ≡ q
single_places index one p q bucket fp fq tag =
    let here : is_final_of (tag_of (word_at index p)) (word_at index p) ≡ true = final_of_its_tag (word_at index p) fp in
    let there : is_final_of (tag_of (word_at index p)) (word_at index q) ≡ true = ap (λ (n : ℕ). is_final_of n (word_at index q)) tag ∙ final_of_its_tag (word_at index q) fq in
    let moved : word_at index (record { bucket = p.bucket; at = q.at }) ≡ word_at index q = ap (λ (b : ℕ). word_at index (record { bucket = b; at = q.at })) bucket in
    same_place p q bucket (one.single p.bucket (tag_of (word_at index p)) p.at q.at here (ap (is_final_of (tag_of (word_at index p))) moved ∙ there))

pub entry_of-final : (index : List (List Word)) → IsSingle index → (p : Place) → is_final (word_at index p) ≡ true → entry_at index p.bucket (tag_of (word_at index p)) ≡ Some (address_of (word_at index p))
unfolding entry_at
entry_of-final index one p final =
    let tag : ℕ = tag_of (word_at index p) in
    let here : is_final_of tag (word_at index p) ≡ true = final_of_its_tag (word_at index p) final in
    only_address (words_of index p.bucket) p.at tag (place_of-word (is_final_of tag) index p (empty_not_final tag) here) here (λ k ne. only_one index p tag k one here ne)

some_of : (o : Option Word) (address : ℕ) → option_map address_of o ≡ Some address → (w : Word) × (o ≡ Some w) × (address_of w ≡ address)
some_of None address e = cc
some_of (Some w) address e = (w, refl, cc)

entry_stands : (index : List (List Word)) (bucket tag address : ℕ) → entry_at index bucket tag ≡ Some address
    → (p : Place) × StandsAt index bucket tag p (word_at index p) × (address_of (word_at index p) ≡ address)
unfolding entry_at
entry_stands index bucket tag address e =
    let found = some_of (find (is_final_of tag) (words_of index bucket)) address e in
    let place = found_place (is_final_of tag) (words_of index bucket) (found.0) (found.1) in
    let p : Place = record { bucket = bucket; at = place.0 } in
    let word : word_at index p ≡ found.0 = place.1 in
    let final : is_final_of tag (word_at index p) ≡ true = ap (is_final_of tag) word ∙ place.2 in (
      p,
      record {
        bucket = refl;
        place = place_of-word (is_final_of tag) index p (empty_not_final tag) final;
        word = refl;
        final = final_is_final tag (word_at index p) final;
        tag = tag_of-final tag (word_at index p) final;
      },
      ap address_of word ∙ found.2,
    )

pub index_map : (index : List (List Word)) → IsSingle index → IsIndexMap index
index_map index one = record {
  single = single_places index one;
  entry = entry_of-final index one;
  stands = entry_stands index;
}
