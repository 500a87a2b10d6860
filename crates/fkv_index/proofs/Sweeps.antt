-- A sweep of rows and blocks is one of the words of the buckets.
use Rattle.std.proofs.Common.{◌≡◌, ◌<◌, ◌++◌, ◌∷◌, [], ℕ, List, length, get_or, map, zero, suc, sym, ap, ◌∙◌, refl, arith, subst}
use Rattle.std.proofs.lemmas.List.{map-append, length-map, get_or-map}
use Rattle.fkv_index.specs.declared.words.Word.{Word}
use Rattle.fkv_index.specs.declared.buckets.Bucket.{Bucket}
use Rattle.fkv_index.specs.Words.{swept}
use Rattle.fkv_index.specs.Storage.{row_words, swept_row, AreApart}

get_or-swept : (f : Word → Word) (blocks : List (List Word)) (n : ℕ) → get_or (map (map f) blocks) n [] ≡ map f (get_or blocks n [])
get_or-swept f [] n = refl
get_or-swept f (b ∷ blocks) zero = refl
get_or-swept f (b ∷ blocks) (suc n) = get_or-swept f blocks n

pub swept_words : (begin : ℕ) (blocks : List (List Word)) (rows : List Bucket) → map (row_words (map (map (swept begin)) blocks)) (map (swept_row begin) rows) ≡ map (map (swept begin)) (map (row_words blocks) rows)
swept_words begin blocks [] = refl
swept_words begin blocks (row ∷ rows) =
    let here : map (swept begin) row.words ++ get_or (map (map (swept begin)) blocks) row.overflow [] ≡ map (swept begin) (row.words ++ get_or blocks row.overflow []) =
    ap (λ (t : List Word). map (swept begin) row.words ++ t) (get_or-swept (swept begin) blocks row.overflow) ∙ sym (map-append (swept begin) row.words (get_or blocks row.overflow [])) in
    cc (here, swept_words begin blocks rows)

-- a swept row, read
at_swept : (begin : ℕ) (rows : List Bucket) (i : ℕ) (d : Bucket) → i < length rows → get_or (map (swept_row begin) rows) i d ≡ swept_row begin (get_or rows i d)
at_swept begin rows i d within = get_or-map (swept_row begin) rows i d d within

pub apart_swept : (begin : ℕ) (rows : List Bucket) (blocks : List (List Word)) → AreApart rows blocks → AreApart (map (swept_row begin) rows) (map (map (swept begin)) blocks)
apart_swept begin rows blocks apart =
    let size : length (map (swept_row begin) rows) ≡ length rows = length-map rows (swept_row begin) in
    record {
      seven = λ k d low. let h : k < length rows = omega arith in rw (at_swept begin rows k d h) (length-map (get_or rows k d).words (swept begin) ∙ apart.seven k d h);
      within = λ k d low. let h : k < length rows = omega arith in rw (at_swept begin rows k d h) (rw (length-map blocks (map (swept begin))) (apart.within k d h));
      own = λ i j d low low' same some.
          let h : i < length rows = omega arith in
          let h' : j < length rows = omega arith in
          apart.own i j d h h' (sym (ap (λ (r : Bucket). r.overflow) (at_swept begin rows i d h)) ∙ same ∙ ap (λ (r : Bucket). r.overflow) (at_swept begin rows j d h'))
          (subst (λ (r : Bucket). 0 < r.overflow) (at_swept begin rows i d h) some);
    }
