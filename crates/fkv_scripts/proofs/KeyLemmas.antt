-- Keys and the names of their bytes.
use Rattle.std.proofs.Common.{◌≡◌, ◌≤◌, ℕ, List, Bool, Option, None, Some, true, false, refl, sym, ◌∙◌, ap, length, drop}
use Rattle.std.specs.Prelude.{◌&&◌, ◌↔◌, nat_le, replicate, IfSome, IsSome}
use Rattle.std.specs.List.{list_all}
use Rattle.std.proofs.Math.Seq.{take-append_seam}
use Rattle.std.proofs.lemmas.Bool.{le-leb}
use Rattle.std.proofs.lemmas.Option.{same_Some}
use Rattle.fkv_functions.specs.Names.{text_of, name_at_once}
use Rattle.fkv_functions.specs.declared.names.Name.{Name}
use Rattle.fkv_scripts.specs.Words.{is_key, is_key_byte}
use Rattle.fkv_scripts.specs.Reading.{name_with, key_sized, key_by, key_of}

text-name_with : (word : List ℕ) (h : (1 ≤ length word) × (length word ≤ 31)) → text_of (name_with word h) ≡ word
text-name_with word h = take-append_seam word (drop (length word) (replicate 31 0))

key_by_only : (word : List ℕ) (b : Bool) (e : is_key word ≡ b) (k : Name) → is_key word ≡ true → text_of k ≡ word → key_by word b e ≡ Some k
key_by_only word true e k t h = ap Some (name_at_once _ k (text-name_with word (key_sized word e) ∙ sym h))
key_by_only word false e k t h = cc

-- the name of a key's bytes is the key that is read
pub key_only : (k : Name) (word : List ℕ) → (is_key word ≡ true) × (text_of k ≡ word) → key_of word ≡ Some k
unfolding key_of
key_only k word h = key_by_only word (is_key word) refl k h.0 h.1

key_by_found : (word : List ℕ) (b : Bool) (e : is_key word ≡ b) (k : Name) → key_by word b e ≡ Some k → (is_key word ≡ true) × (text_of k ≡ word)
key_by_found word true e k h = (e, ap text_of (sym (same_Some (name_with word (key_sized word e)) k h)) ∙ text-name_with word (key_sized word e))
key_by_found word false e k h = absurd (let bad : None ≡ Some k = h in cc)

-- the key that is read has the word's bytes
pub key_found : (word : List ℕ) (k : Name) → key_of word ≡ Some k → (is_key word ≡ true) × (text_of k ≡ word)
unfolding key_of
key_found word k h = key_by_found word (is_key word) refl k h

-- a word with other bytes is no key
pub key_none : (word : List ℕ) → list_all is_key_byte word ≡ false → None ≡ key_of word
unfolding key_of
key_none word h = by (is_key word) refl
  where
    by : (b : Bool) (e : is_key word ≡ b) → None ≡ key_by word b e
    by true e = absurd (let bad : (false && nat_le 1 (length word) && nat_le (length word) 31) ≡ true = rw h at e in cc)
    by false e = refl

-- what `Name::new` gives for a word of such bytes
pub key_new : (word : List ℕ) (o : Option Name) → list_all is_key_byte word ≡ true → IfSome o (λ name. text_of name ≡ word) → (IsSome o ↔ ((1 ≤ length word) × (length word ≤ 31))) → o ≡ key_of word
key_new word (Some k) all h r =
    let size = r.0 refl in
    sym (key_only k word (rw (all, le-leb 1 (length word) size.0, le-leb (length word) 31 size.1) refl, h))
key_new word None all h r = by (key_of word) refl
  where
    by : (o : Option Name) → key_of word ≡ o → None ≡ o
    by None e = refl
    by (Some k) e = absurd (let bad : false ≡ true = r.1 (key_sized word (key_found word k e).0) in cc)
