-- A name for each value, behind its length: what one more adds, and what the first gives.
use Rattle.std.proofs.Common.{◌≡◌, ◌≤◌, ◌<◌, ◌+◌, ◌⊎◌, Option, Some, None, slice_get, slice_index_or, inl, inr, ℕ, suc, List, [], ◌∷◌, ◌++◌, length, take, drop, refl, sym, ◌∙◌, ap, subst, arith, length-append, append_assoc}
use Rattle.std.proofs.lemmas.Bool.{cases_lt}
use Rattle.std.proofs.Math.Seq.{take-append_seam, take-length}
use Rattle.std.proofs.lemmas.List.{take-append-le, drop-append-le, drop_all}
use Rattle.fkv_functions.specs.Names.{text_of, length-text, name_at_once}
use Rattle.fkv_functions.specs.declared.names.Name.{Name}
use Rattle.std.specs.Prelude.{IfSome}
use Rattle.fkv_runs.specs.Merging.{first_key, first_pair}
use Rattle.fkv_runs.specs.Spelling.{name_of, name_where, named, pairs_in, IsSpelled}

text-of_name : (bytes : List ℕ) (some : 1 ≤ length bytes) (most : length bytes ≤ 31) → text_of (name_of bytes some most) ≡ bytes
text-of_name bytes some most = take-append_seam bytes _

-- the name of a name's bytes is that name
pub named-text : (n : Name) → named (text_of n) ≡ n
named-text n = by_length (cases_lt 0 (length (text_of n))) (cases_lt 31 (length (text_of n)))
  where
    by_length : (a : (0 < length (text_of n)) ⊎ (length (text_of n) ≤ 0)) (b : (31 < length (text_of n)) ⊎ (length (text_of n) ≤ 31)) → name_where (text_of n) a b ≡ n
    by_length (inl some) (inr most) = name_at_once _ n (text-of_name (text_of n) some most)
    by_length (inl some) (inl long) = absurd (omega (arith, length-text n, n.most))
    by_length (inr none) b = absurd (omega (arith, length-text n, n.some))

-- the bytes of a name of 1 to 31 bytes
pub text-named : (bytes : List ℕ) → 1 ≤ length bytes → length bytes ≤ 31 → text_of (named bytes) ≡ bytes
text-named bytes low high = by_length (cases_lt 0 (length bytes)) (cases_lt 31 (length bytes))
  where
    by_length : (a : (0 < length bytes) ⊎ (length bytes ≤ 0)) (b : (31 < length bytes) ⊎ (length bytes ≤ 31)) → text_of (name_where bytes a b) ≡ bytes
    by_length (inl some) (inr most) = text-of_name bytes some most
    by_length (inl some) (inl long) = absurd (omega arith)
    by_length (inr none) b = absurd (omega arith)

-- a name behind its length
abbrev pub spelled : Name → List ℕ
spelled n = length (text_of n) ∷ text_of n

-- one pair more
pub pairs-more : {V : Type 0} (vs : List V) (bytes : List ℕ) (v : V) (n : Name) → IsSpelled vs bytes
    → pairs_in (vs ++ v ∷ []) (bytes ++ spelled n) ≡ pairs_in vs bytes ++ (n, v) ∷ []
pairs-more [] [] v n h = ap (λ t. (t, v) ∷ []) (ap named (take-length (text_of n)) ∙ named-text n)
pairs-more [] (b ∷ bytes) v n h = absurd (cc)
pairs-more (w ∷ vs) [] v n h = absurd h
pairs-more (w ∷ vs) (l ∷ bytes) v n h =
    ap (λ t. (named t, w) ∷ pairs_in (vs ++ v ∷ []) (drop l (bytes ++ spelled n))) (take-append-le l bytes (spelled n) h.2)
    ∙ ap (λ rest. (named (take l bytes), w) ∷ rest) (ap (pairs_in (vs ++ v ∷ [])) (drop-append-le l bytes (spelled n) h.2) ∙ pairs-more vs (drop l bytes) v n h.3)

pub spelled-more : {V : Type 0} (vs : List V) (bytes : List ℕ) (v : V) (n : Name) → IsSpelled vs bytes → IsSpelled (vs ++ v ∷ []) (bytes ++ spelled n)
spelled-more [] [] v n h = (omega (arith, length-text n, n.some), omega (arith, length-text n, n.most), omega arith, drop_all (length (text_of n)) (text_of n) (omega arith))
spelled-more [] (b ∷ bytes) v n h = absurd (cc)
spelled-more (w ∷ vs) [] v n h = absurd h
spelled-more (w ∷ vs) (l ∷ bytes) v n h = (
  h.0,
  h.1,
  (let r : l ≤ length bytes = h.2 in omega (arith, length-append bytes (spelled n))),
  subst (IsSpelled (vs ++ v ∷ [])) (sym (drop-append-le l bytes (spelled n) h.2)) (spelled-more vs (drop l bytes) v n h.3),
)

-- as many pairs as values
pub length-pairs : {V : Type 0} (vs : List V) (bytes : List ℕ) → IsSpelled vs bytes → length (pairs_in vs bytes) ≡ length vs
length-pairs [] bytes h = refl
length-pairs (v ∷ vs) [] h = absurd h
length-pairs (v ∷ vs) (n ∷ bytes) h = ap (λ m. suc m) (length-pairs vs (drop n bytes) h.3)

-- ---- the first pair
pub first_low : {V : Type 0} (vs : List V) (bytes : List ℕ) → IsSpelled vs bytes → 0 < length vs → 0 < length bytes
first_low [] bytes h low = absurd (omega arith)
first_low (v ∷ vs) [] h low = absurd h
first_low (v ∷ vs) (n ∷ bytes) h low = omega arith

pub first_room : {V : Type 0} (vs : List V) (bytes : List ℕ) → IsSpelled vs bytes → 0 < length vs → 1 + slice_index_or bytes 0 0 ≤ length bytes
first_room [] bytes h low = absurd (omega arith)
first_room (v ∷ vs) [] h low = absurd h
first_room (v ∷ vs) (n ∷ bytes) h low = (let r : n ≤ length bytes = h.2 in omega arith)

pub first_some : {V : Type 0} (vs : List V) (bytes : List ℕ) → IsSpelled vs bytes → 0 < length vs → 1 ≤ slice_index_or bytes 0 0
first_some [] bytes h low = absurd (omega arith)
first_some (v ∷ vs) [] h low = absurd h
first_some (v ∷ vs) (n ∷ bytes) h low = h.0

pub first_most : {V : Type 0} (vs : List V) (bytes : List ℕ) → IsSpelled vs bytes → 0 < length vs → slice_index_or bytes 0 0 ≤ 31
first_most [] bytes h low = absurd (omega arith)
first_most (v ∷ vs) [] h low = absurd h
first_most (v ∷ vs) (n ∷ bytes) h low = h.1

pub first_is : {V : Type 0} (vs : List V) (bytes : List ℕ) → IsSpelled vs bytes → 0 < length vs → first_key (pairs_in vs bytes) ≡ Some (named (take (slice_index_or bytes 0 0) (drop 1 bytes)))
first_is [] bytes h low = absurd (omega arith)
first_is (v ∷ vs) [] h low = absurd h
first_is (v ∷ vs) (n ∷ bytes) h low = refl

pub first_none : {V : Type 0} (vs : List V) (bytes : List ℕ) → length vs ≡ 0 → first_key (pairs_in vs bytes) ≡ None
first_none [] bytes e = refl
first_none (v ∷ vs) bytes e = absurd (omega arith)

-- a name that was read is the one of its bytes
pub named_again : (bytes : List ℕ) (o : Option Name) → 1 ≤ length bytes → length bytes ≤ 31 → IfSome o (λ n. text_of n ≡ bytes) → (o ≡ None → ⊥) → o ≡ Some (named bytes)
named_again bytes None low high h some = absurd (some refl)
named_again bytes (Some n) low high h some = ap (λ m. Some m) (name_at_once n (named bytes) (h ∙ sym (text-named bytes low high)))

-- ---- and those behind it
pub rest_spelled : {V : Type 0} (vs : List V) (bytes : List ℕ) → IsSpelled vs bytes → 0 < length vs → IsSpelled (drop 1 vs) (drop (1 + slice_index_or bytes 0 0) bytes)
rest_spelled [] bytes h low = absurd (omega arith)
rest_spelled (v ∷ vs) [] h low = absurd h
rest_spelled (v ∷ vs) (n ∷ bytes) h low = subst (IsSpelled vs) (sym (ap (λ m. drop m (n ∷ bytes)) (one_more n))) h.3
  where
    one_more : (n : ℕ) → 1 + n ≡ suc n
    one_more n = omega arith

pub rest_pairs : {V : Type 0} (vs : List V) (bytes : List ℕ) → IsSpelled vs bytes → 0 < length vs → pairs_in (drop 1 vs) (drop (1 + slice_index_or bytes 0 0) bytes) ≡ drop 1 (pairs_in vs bytes)
rest_pairs [] bytes h low = absurd (omega arith)
rest_pairs (v ∷ vs) [] h low = absurd h
rest_pairs (v ∷ vs) (n ∷ bytes) h low = ap (pairs_in vs) (ap (λ m. drop m (n ∷ bytes)) (one_more n))
  where
    one_more : (n : ℕ) → 1 + n ≡ suc n
    one_more n = omega arith

-- a first key is that of a first pair
pub pair_of : {V : Type 0} (vs : List V) (bytes : List ℕ) (k : Name) (v : V) → IsSpelled vs bytes → 0 < length vs → Some k ≡ first_key (pairs_in vs bytes) → slice_get vs 0 ≡ Some v → Some (k, v) ≡ first_pair (pairs_in vs bytes)
pair_of [] bytes k v h low is here = absurd (omega arith)
pair_of (w ∷ vs) [] k v h low is here = absurd h
pair_of (w ∷ vs) (n ∷ bytes) k v h low is here = (let s : w ≡ v = cc in let t : k ≡ named (take n bytes) = cc in rw (s, t) refl)

-- where there is a first key, there is a value
pub some_value : {V : Type 0} (vs : List V) (bytes : List ℕ) (k : Name) → Some k ≡ first_key (pairs_in vs bytes) → 0 < length vs
some_value [] bytes k e = absurd (cc)
some_value (v ∷ vs) bytes k e = omega arith

-- a length and a name's bytes, pushed one after the other
pub spelled_behind : (names after bytes : List ℕ) (n : Name) → after ≡ names ++ length bytes ∷ [] → bytes ≡ text_of n → after ++ bytes ≡ names ++ spelled n
spelled_behind names after bytes n e f = rw (e, f) (append_assoc names (length (text_of n) ∷ []) (text_of n))
