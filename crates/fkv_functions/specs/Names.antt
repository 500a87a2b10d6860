-- Names by their bytes.
use Rattle.std.specs.Prelude.{◌≡◌, ◌-◌, ◌≤◌, ◌++◌, ◌∷◌, ℕ, List, Bool, true, nat_eq, take, drop, length, replicate}
use Rattle.std.specs.Prelude.{slice_index_or}
use Rattle.std.specs.Cmp.{IsEquivalence, IsPartialEquivalence, IsPartialOrder, IsTotalOrder, partial_equiv_from_equiv}
use Rattle.std.specs.Cmp.{partial_order_from_agreeing_total}
use Rattle.std.specs.Cmp.Lexicographic.{slice_cmp, on_texts, on_texts_equal, texts_ties, bytes_decides}
use Rattle.std.specs.Ordering.{on, nat_cmp, as_partial_cmp, eq_by_cmp}
use Rattle.std.specs.declared.cmp.Ordering.{Ordering}
use Rattle.std.proofs.Common.{refl, sym, ap, ◌∙◌, arith, length-append, length-drop}
use Rattle.std.proofs.lemmas.List.{drop-replicate, length-take, take-append-drop}
use Rattle.std.proofs.Math.Seq.{drop-append_seam, take-append_seam}
use Rattle.std.proofs.Math.Bridge.{le_prop}
use Rattle.std.proofs.Math.Nat.{ℕ_set}
use Rattle.std.specs.Coded.{coded_list, coded_ℕ}
use base.Stored.{Coded-set}
use mathlib.Core.HLevel.{is_prop→PathP}
use lib.Pointwise.{pointwise}
use Rattle.fkv_functions.specs.Codecs.{Codec}
use Rattle.fkv_functions.specs.Hashes.{fnv_1a}
use Rattle.fkv_functions.specs.declared.names.Name.{Name}

-- the bytes of a name
abbrev pub text_of : Name → List ℕ
text_of n = take n.len n.bytes

-- the same bytes
abbrev pub same_names : Name → Name → Bool
same_names = on text_of (pointwise nat_eq)

-- the order of byte strings
abbrev pub name_cmp : Name → Name → Ordering
name_cmp = on text_of (slice_cmp nat_cmp)

pub same_equivalence : IsEquivalence same_names
same_equivalence = on_texts_equal text_of

pub same_partial : IsPartialEquivalence same_names
same_partial = partial_equiv_from_equiv same_equivalence

pub name_total : IsTotalOrder name_cmp
name_total = on_texts text_of

pub name_ties : (a b : Name) → same_names a b ≡ eq_by_cmp name_cmp a b
name_ties a b = texts_ties (text_of a) (text_of b)

pub name_ordered : IsPartialOrder same_names (as_partial_cmp name_cmp)
name_ordered = partial_order_from_agreeing_total name_cmp name_total (λ x y. refl) name_ties

-- names of the same bytes have one hash
same_hash : (a b : Name) → a.len ≡ b.len → a.bytes ≡ b.bytes → a.hash ≡ b.hash
same_hash a b f e = a.hashed ∙ (λ i. fnv_1a (take (f i) (e i))) ∙ sym b.hashed

-- two names of the same fields are one
same_fields : (a b : Name) → a.len ≡ b.len → a.bytes ≡ b.bytes → a ≡ b
same_fields a b f e = λ i. record {
  len = f i;
  bytes = e i;
  hash = same_hash a b f e i;
  some = is_prop→PathP (λ j. 1 ≤ f j) (λ j. le_prop) a.some b.some i;
  most = is_prop→PathP (λ j. f j ≤ 31) (λ j. le_prop) a.most b.most i;
  room = is_prop→PathP (λ j. length (e j) ≡ 31) (λ j. ℕ_set _ _) a.room b.room i;
  padded =
      is_prop→PathP (λ j. drop (f j) (e j) ≡ replicate (31 - f j) 0) (λ j. Coded-set (coded_list coded_ℕ) _ _)
      a.padded b.padded i;
  hashed =
      is_prop→PathP (λ j. same_hash a b f e j ≡ fnv_1a (take (f j) (e j))) (λ j. ℕ_set _ _) a.hashed b.hashed i;
}

-- a name's bytes and their number are its fields
pub length-text : (a : Name) → length (text_of a) ≡ a.len
length-text a = omega (arith, length-take a.len a.bytes, a.room, a.most)

pub whole : (a : Name) → text_of a ++ replicate (31 - a.len) 0 ≡ a.bytes
whole a = rw (← a.padded) (take-append-drop a.len a.bytes)

-- names of the same bytes are one
pub name_at_once : (a b : Name) → text_of a ≡ text_of b → a ≡ b
name_at_once a b e =
    let f : a.len ≡ b.len = sym (length-text a) ∙ ap length e ∙ length-text b in
    same_fields a b f (sym (whole a) ∙ ap (λ t. t ++ replicate (31 - a.len) 0) e
    ∙ ap (λ n. text_of b ++ replicate (31 - n) 0) f ∙ whole b)

pub name_exact : (a b : Name) → same_names a b ≡ true → a ≡ b
name_exact a b e = name_at_once a b ((bytes_decides (text_of a) (text_of b)).0 e)

-- what is written: the length, the bytes, zeros
abbrev pub name_bytes : Name → List ℕ
name_bytes n = n.len ∷ n.bytes

pub name_sized : (n : Name) → length (name_bytes n) ≡ 32
name_sized n = rw n.room refl

pub name_readable : (a b : Name) → name_bytes a ≡ name_bytes b → a ≡ b
name_readable a b e =
    let f : a.len ≡ b.len = cc in
    let g : a.bytes ≡ b.bytes = cc in
    same_fields a b f g

-- a name read from bytes is the one whose bytes they are
pub name_again : (a v : Name) (front back all : List ℕ)
    → name_bytes v ≡ all
    → front ≡ take 1 all
    → back ≡ drop 1 all
    → a.len ≡ slice_index_or front 0 0
    → a.bytes ≡ back → a ≡ v
name_again a v front back all e f g h k =
    let len : a.len ≡ v.len = h ∙ ap (λ t. slice_index_or t 0 0) (f ∙ ap (take 1) (sym e)) in
    let bytes : a.bytes ≡ v.bytes = k ∙ g ∙ ap (drop 1) (sym e) in
    same_fields a v len bytes

-- bytes and zeros are the fields of a name
pub padded_by : (bytes : List ℕ) → length bytes ≤ 31
    → drop (length bytes) (bytes ++ drop (length bytes) (replicate 31 0)) ≡ replicate (31 - length bytes) 0
padded_by bytes most =
    let zeros : drop (length bytes) (replicate 31 0) ≡ replicate (31 - length bytes) 0 = simp drop-replicate in
    rw drop-append_seam zeros

pub room_by : (bytes : List ℕ) → length bytes ≤ 31 → length (bytes ++ drop (length bytes) (replicate 31 0)) ≡ 31
room_by bytes most =
    let zeros : List ℕ = replicate 31 0 in
    omega (arith, length-append bytes (drop (length bytes) zeros), length-drop (length bytes) zeros)

pub hashed_by : (bytes : List ℕ) → fnv_1a bytes ≡ fnv_1a (take (length bytes) (bytes ++ drop (length bytes) (replicate 31 0)))
hashed_by bytes = ap fnv_1a (sym (take-append_seam bytes (drop (length bytes) (replicate 31 0))))

-- names: each is written
abbrev pub name_codec : Codec Name 32
name_codec = record {
  is_known = λ _. Unit {0};
  bytes_of = name_bytes;
  sized = λ n h. name_sized n;
  readable = λ n m h k e. name_readable n m e;
}
