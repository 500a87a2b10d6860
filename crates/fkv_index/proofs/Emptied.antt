-- A sweep of an index: what the index map becomes.
use Rattle.std.proofs.Common.{◌≡◌, ◌∷◌, ℕ, zero, suc, List, [], Bool, true, false, nat_lt, Option, None, Some, length, get_or, map, refl, sym, ap, ◌∙◌, arith, ⊎_elim, option_map}
use Rattle.std.specs.List.{find}
use Rattle.std.proofs.lemmas.List.{length-map}
use Rattle.std.proofs.lemmas.Bool.{cases_Bool, false_from_ne_true, false≢true, cond-true, cond-false}
use Rattle.fkv_index.specs.declared.words.Word.{Word}
use Rattle.fkv_index.specs.declared.words.Place.{Place}
use Rattle.fkv_index.specs.Words.{empty, address_of, is_empty, is_tentative, is_final_of, swept}
use Rattle.fkv_index.specs.Places.{words_of, word_at}
use Rattle.fkv_index.specs.Entries.{entry_at, IsSingle, kept}
use Rattle.fkv_index.specs.Changes.{Sweeps, SweepsEntries, SameTentative}
use Rattle.fkv_index.proofs.WordFacts.{swept_final, swept_kept, swept_other, swept_tentative, swept_low, swept_high, swept_empty, swept_not_final, empty_not_final}

-- reads of a swept list
swept_at : (begin : ℕ) (ws : List Word) (k : ℕ) → get_or (map (swept begin) ws) k empty ≡ swept begin (get_or ws k empty)
swept_at begin [] k = sym (swept_empty begin)
swept_at begin (w ∷ ws) zero = refl
swept_at begin (w ∷ ws) (suc k) = swept_at begin ws k

words_of-swept : (begin : ℕ) (index : List (List Word)) (b : ℕ) → words_of (map (map (swept begin)) index) b ≡ map (swept begin) (words_of index b)
words_of-swept begin [] b = refl
words_of-swept begin (ws ∷ index) zero = refl
words_of-swept begin (ws ∷ index) (suc b) = words_of-swept begin index b

word_at-swept : (begin : ℕ) (index : List (List Word)) (q : Place) → word_at (map (map (swept begin)) index) q ≡ swept begin (word_at index q)
word_at-swept begin index q = ap (λ (ws : List Word). get_or ws q.at empty) (words_of-swept begin index q.bucket) ∙ swept_at begin (words_of index q.bucket) q.at

places_swept : (begin : ℕ) (index : List (List Word)) (q : Place) → length (words_of (map (map (swept begin)) index) q.bucket) ≡ length (words_of index q.bucket)
places_swept begin index q = ap length (words_of-swept begin index q.bucket) ∙ length-map (words_of index q.bucket) (swept begin)

pub sweeps : (begin : ℕ) (index : List (List Word)) → Sweeps begin index (map (map (swept begin)) index)
sweeps begin index = record {
  exact = refl;
  emptied = λ q final low. ap is_empty (word_at-swept begin index q) ∙ swept_final begin (word_at index q) final low;
  kept = λ q final high. word_at-swept begin index q ∙ swept_kept begin (word_at index q) high;
  others = λ q other. word_at-swept begin index q ∙ swept_other begin (word_at index q) other;
  places = λ q. (λ place. omega (arith, places_swept begin index q), λ place. omega (arith, places_swept begin index q));
  buckets = length-map index (map (swept begin));
}

pub same_tentative : (begin : ℕ) (index : List (List Word)) → SameTentative index (map (map (swept begin)) index)
same_tentative begin index q = ap is_tentative (word_at-swept begin index q) ∙ swept_tentative begin (word_at index q)

-- an entry after a sweep was there before
was_final : (t begin : ℕ) (w : Word) → is_final_of t (swept begin w) ≡ true → is_final_of t w ≡ true
was_final t begin w f = ⊎_elim (λ e. e) (λ e. absurd (false≢true (sym (swept_not_final t begin w e) ∙ f))) (cases_Bool (is_final_of t w))

pub single_swept : (begin : ℕ) (index : List (List Word)) → IsSingle index → IsSingle (map (map (swept begin)) index)
single_swept begin index one = record {
  single = λ b t j k f g.
      one.single b t j k (was_final t begin _ (sym (ap (is_final_of t) (word_at-swept begin index (record { bucket = b; at = j }))) ∙ f))
      (was_final t begin _ (sym (ap (is_final_of t) (word_at-swept begin index (record { bucket = b; at = k }))) ∙ g));
}

-- what holds of no word holds of no swept word
none_swept : (t begin : ℕ) (ws : List Word) → ((k : ℕ) → is_final_of t (get_or ws k empty) ≡ false) → find (is_final_of t) (map (swept begin) ws) ≡ None
none_swept t begin [] none = refl
none_swept t begin (w ∷ ws) none = rw (swept_not_final t begin w (none 0)) (none_swept t begin ws (λ k. none (suc k)))

-- at most one word of a list is a final entry of the tag
IsOne : ℕ → List Word → Type 0
IsOne t ws = (j k : ℕ) → is_final_of t (get_or ws j empty) ≡ true → is_final_of t (get_or ws k empty) ≡ true → j ≡ k

first_passes : (p : Word → Bool) (w : Word) (ws : List Word) → p w ≡ true → find p (w ∷ ws) ≡ Some w
first_passes p w ws e = rw e refl

first_fails : (p : Word → Bool) (w : Word) (ws : List Word) → p w ≡ false → find p (w ∷ ws) ≡ find p ws
first_fails p w ws e = rw e refl

tail_none : (t : ℕ) (w : Word) (ws : List Word) → IsOne t (w ∷ ws) → is_final_of t w ≡ true → (k : ℕ) → is_final_of t (get_or ws k empty) ≡ false
unfolding IsOne
tail_none t w ws one e k = false_from_ne_true (is_final_of t (get_or ws k empty)) (λ f. let h : 0 ≡ suc k = one 0 (suc k) e f in absurd (omega arith))

tail_one : (t : ℕ) (w : Word) (ws : List Word) → IsOne t (w ∷ ws) → IsOne t ws
unfolding IsOne
tail_one t w ws one j k f g = let h : suc j ≡ suc k = one (suc j) (suc k) f g in omega arith

-- the address that the words give for a tag, where the first of them is the tag's entry
swept_here : (t begin : ℕ) (w : Word) (ws : List Word) → IsOne t (w ∷ ws) → is_final_of t w ≡ true
    → option_map address_of (find (is_final_of t) (map (swept begin) (w ∷ ws))) ≡ kept begin (Some (address_of w))
swept_here t begin w ws one e =
    ⊎_elim (λ low.
    let gone : is_final_of t (swept begin w) ≡ false = ap (is_final_of t) (swept_low t begin w e low) ∙ empty_not_final t in
    ap (option_map address_of) (first_fails (is_final_of t) (swept begin w) (map (swept begin) ws) gone ∙ none_swept t begin ws (tail_none t w ws one e)) ∙ sym (cond-true (nat_lt (address_of w) begin) None (Some (address_of w)) low))
    (λ high.
    let same : swept begin w ≡ w = swept_high begin w high in
    ap (option_map address_of) (first_passes (is_final_of t) (swept begin w) (map (swept begin) ws) (ap (is_final_of t) same ∙ e)) ∙ ap (λ (x : Word). Some (address_of x)) same
    ∙ sym (cond-false (nat_lt (address_of w) begin) None (Some (address_of w)) high)) (cases_Bool (nat_lt (address_of w) begin))

swept_address : (t begin : ℕ) (ws : List Word) → IsOne t ws → option_map address_of (find (is_final_of t) (map (swept begin) ws)) ≡ kept begin (option_map address_of (find (is_final_of t) ws))
swept_address t begin [] one = refl
swept_address t begin (w ∷ ws) one =
    ⊎_elim (λ e. swept_here t begin w ws one e ∙ sym (ap (λ (o : Option Word). kept begin (option_map address_of o)) (first_passes (is_final_of t) w ws e)))
    (λ e. ap (option_map address_of) (first_fails (is_final_of t) (swept begin w) (map (swept begin) ws) (swept_not_final t begin w e))
    ∙ swept_address t begin ws (tail_one t w ws one)
    ∙ sym (ap (λ (o : Option Word). kept begin (option_map address_of o)) (first_fails (is_final_of t) w ws e))) (cases_Bool (is_final_of t w))

pub sweeps_entries : (begin : ℕ) (index : List (List Word)) → IsSingle index → SweepsEntries begin index (map (map (swept begin)) index)
unfolding entry_at IsOne
sweeps_entries begin index one b t =
    ap (λ (ws : List Word). option_map address_of (find (is_final_of t) ws)) (words_of-swept begin index b)
    ∙ swept_address t begin (words_of index b) (λ j k f g. one.single b t j k f g)
