-- The order of byte strings, eight bytes at a time: as numbers, and with zeros behind them.
use Rattle.std.proofs.Common.{◌≡◌, ◌<◌, ◌≤◌, ◌+◌, ◌-◌, ◌*◌, ◌^◌, ◌%◌, ◌/◌, inl, inr, ℕ, zero, suc, List, [], ◌∷◌, ◌++◌, length, take, drop, replicate}
use Rattle.std.proofs.Common.{◌≢◌, Less, Equal, Greater, refl, sym, ap, ◌∙◌, arith}
use Rattle.std.proofs.lemmas.Bool.{cases_order}
use Rattle.std.proofs.lemmas.List.{take-append-drop, take-take, length-take}
use Rattle.std.proofs.lemmas.Map.Lookups.{exact_bytes}
use Rattle.std.proofs.Math.Arith.{mod-mul}
use Rattle.std.proofs.Math.Nat.{mod-lt, mod-one, mod-eq_of_lt, pow-succ', div-one, mul-le-mul_right}
use Rattle.std.specs.declared.cmp.Ordering.{Ordering}
use Rattle.std.specs.Cmp.{nat_cmp_is}
use Rattle.std.specs.Cmp.Lexicographic.{slice_cmp}
use Rattle.std.specs.Int.{w64, to_be_bytes, bytes_high_first, byte_at}
use Rattle.std.specs.Ordering.{nat_cmp, ordering_then}
use Rattle.fkv_functions.specs.Names.{text_of, name_cmp, length-text, whole}
use Rattle.fkv_functions.specs.declared.names.Name.{Name}

-- ---- numbers
lower : (x y : ℕ) → x < y → nat_cmp x y ≡ Less
lower x y h = sym (nat_cmp_is x y Less h)

higher : (x y : ℕ) → y < x → nat_cmp x y ≡ Greater
higher x y h = sym (nat_cmp_is x y Greater h)

same : (x y : ℕ) → x ≡ y → nat_cmp x y ≡ Equal
same x y h = sym (nat_cmp_is x y Equal h)

-- a higher digit decides
above : (p a b l m : ℕ) → l < p → a < b → a * p + l < b * p + m
above p a b l m hl h = let up : (a + 1) * p ≤ b * p = mul-le-mul_right p (omega arith) in grind (arith)

beside : (x l m : ℕ) → nat_cmp (x + l) (x + m) ≡ nat_cmp l m
beside x l m = elim (cases_order l m) [
  | inl e ↦ same (x + l) (x + m) (omega arith) ∙ sym (same l m e)
  | inr (inl h) ↦ lower (x + l) (x + m) (omega arith) ∙ sym (lower l m h)
  | inr (inr h) ↦ higher (x + l) (x + m) (omega arith) ∙ sym (higher l m h)
]

suc_suc : (l m : ℕ) → nat_cmp (suc l) (suc m) ≡ nat_cmp l m
suc_suc l m = elim (cases_order l m) [
  | inl e ↦ same (suc l) (suc m) (ap suc e) ∙ sym (same l m e)
  | inr (inl h) ↦ lower (suc l) (suc m) (omega (arith, h)) ∙ sym (lower l m h)
  | inr (inr h) ↦ higher (suc l) (suc m) (omega (arith, h)) ∙ sym (higher l m h)
]

digits : (p a b l m : ℕ) → l < p → m < p → nat_cmp (a * p + l) (b * p + m) ≡ ordering_then (nat_cmp a b) (nat_cmp l m)
digits p a b l m hl hm = elim (cases_order a b) [
  | inl e ↦ rw (same a b e) (ap (λ (c : ℕ). nat_cmp (a * p + l) (c * p + m)) (sym e) ∙ beside (a * p) l m)
  | inr (inl h) ↦ rw (lower a b h) (lower _ _ (above p a b l m hl h))
  | inr (inr h) ↦ rw (higher a b h) (higher _ _ (above p b a m l hm h))
]

-- ---- numbers by their bytes, the highest first
digit : (k n : ℕ) → byte_at k n ≡ n / 256 ^ k % 256
digit zero n = ap (λ (q : ℕ). q % 256) (sym (div-one n))
digit (suc k) n = refl

some_bytes : (k : ℕ) → 0 < 256 ^ k
some_bytes zero = omega arith
some_bytes (suc k) = let h = some_bytes k in rw (pow-succ' 256 k) (omega (arith, h))

place : (k n : ℕ) → n % 256 ^ suc k ≡ byte_at k n * 256 ^ k + n % 256 ^ k
place k n = ap (λ (p : ℕ). n % p) (pow-succ' 256 k) ∙ mod-mul n {m = 256} {c = 256 ^ k} (omega arith) (some_bytes k) ∙ ap (λ (d : ℕ). d * 256 ^ k + n % 256 ^ k) (sym (digit k n))

spelled : (k n m : ℕ) → nat_cmp (n % 256 ^ k) (m % 256 ^ k) ≡ slice_cmp nat_cmp (bytes_high_first k n) (bytes_high_first k m)
spelled zero n m = same (n % 1) (m % 1) (mod-one n ∙ sym (mod-one m))
spelled (suc k) n m =
    rw (place k n, place k m) (digits (256 ^ k) (byte_at k n) (byte_at k m) (n % 256 ^ k) (m % 256 ^ k) (mod-lt n (some_bytes k)) (mod-lt m (some_bytes k)))
    ∙ ap (ordering_then (nat_cmp (byte_at k n) (byte_at k m))) (spelled k n m)

-- eight bytes are in the order of the numbers that they spell
pub words_ordered : (n m : ℕ) → n < 2 ^ 64 → m < 2 ^ 64 → nat_cmp n m ≡ slice_cmp nat_cmp (to_be_bytes w64 n) (to_be_bytes w64 m)
words_ordered n m hn hm =
    let a : n % 256 ^ 8 ≡ n = mod-eq_of_lt hn in
    let b : m % 256 ^ 8 ≡ m = mod-eq_of_lt hm in
    ap (λ (x : ℕ). nat_cmp x m) (sym a) ∙ ap (λ (y : ℕ). nat_cmp (n % 256 ^ 8) y) (sym b) ∙ spelled 8 n m

-- ---- lists in parts
then_then : (a b c : Ordering) → ordering_then (ordering_then a b) c ≡ ordering_then a (ordering_then b c)
then_then Less b c = refl
then_then Equal b c = refl
then_then Greater b c = refl

-- lists behind two of one length
behind : (xs ys vs ws : List ℕ) → length xs ≡ length ys → slice_cmp nat_cmp (xs ++ vs) (ys ++ ws) ≡ ordering_then (slice_cmp nat_cmp xs ys) (slice_cmp nat_cmp vs ws)
behind [] [] vs ws h = refl
behind [] (y ∷ ys) vs ws h = absurd (omega (arith, h))
behind (x ∷ xs) [] vs ws h = absurd (omega (arith, h))
behind (x ∷ xs) (y ∷ ys) vs ws h =
    ap (ordering_then (nat_cmp x y)) (behind xs ys vs ws (omega (arith, h)))
    ∙ sym (then_then (nat_cmp x y) (slice_cmp nat_cmp xs ys) (slice_cmp nat_cmp vs ws))

-- by their first n elements and the rest
pub parted : (n : ℕ) (xs ys : List ℕ) → n ≤ length xs → n ≤ length ys → slice_cmp nat_cmp xs ys ≡ ordering_then (slice_cmp nat_cmp (take n xs) (take n ys)) (slice_cmp nat_cmp (drop n xs) (drop n ys))
parted n xs ys hx hy =
    ap (λ t. slice_cmp nat_cmp t ys) (sym (take-append-drop n xs))
    ∙ ap (slice_cmp nat_cmp (take n xs ++ drop n xs)) (sym (take-append-drop n ys))
    ∙ behind (take n xs) (take n ys) (drop n xs) (drop n ys) (omega (arith, length-take n xs, length-take n ys))

pub same_lists : (xs : List ℕ) → slice_cmp nat_cmp xs xs ≡ Equal
same_lists [] = refl
same_lists (x ∷ xs) = rw (same x x refl) (same_lists xs)

-- ---- zeros behind them
same_zeros : (m n : ℕ) → m ≡ n → slice_cmp nat_cmp (replicate m 0) (replicate n 0) ≡ Equal
same_zeros m n h = ap (λ (k : ℕ). slice_cmp nat_cmp (replicate k 0) (replicate n 0)) h ∙ same_lists (replicate n 0)

zero_low : (y : ℕ) → ordering_then (nat_cmp 0 y) Less ≡ Less
zero_low y = elim (cases_order 0 y) [
  | inl e ↦ rw (same 0 y e) refl
  | inr (inl h) ↦ rw (lower 0 y h) refl
  | inr (inr h) ↦ absurd (omega (arith, h))
]

zero_high : (x : ℕ) → ordering_then (nat_cmp x 0) Greater ≡ Greater
zero_high x = elim (cases_order x 0) [
  | inl e ↦ rw (same x 0 e) refl
  | inr (inl h) ↦ absurd (omega (arith, h))
  | inr (inr h) ↦ rw (higher x 0 h) refl
]

zeros_low : (ys : List ℕ) (n k : ℕ) → k ≡ length ys + n → ordering_then (slice_cmp nat_cmp (replicate k 0) (ys ++ replicate n 0)) Less ≡ Less
zeros_low [] n k h = ap (λ o. ordering_then o Less) (same_zeros k n (omega (arith, h)))
zeros_low (y ∷ ys) n zero h = absurd (omega (arith, h))
zeros_low (y ∷ ys) n (suc k) h = then_then (nat_cmp 0 y) _ Less ∙ ap (ordering_then (nat_cmp 0 y)) (zeros_low ys n k (omega (arith, h))) ∙ zero_low y

zeros_high : (xs : List ℕ) (m k : ℕ) → k ≡ length xs + m → ordering_then (slice_cmp nat_cmp (xs ++ replicate m 0) (replicate k 0)) Greater ≡ Greater
zeros_high [] m k h = ap (λ o. ordering_then o Greater) (same_zeros m k (omega (arith, h)))
zeros_high (x ∷ xs) m zero h = absurd (omega (arith, h))
zeros_high (x ∷ xs) m (suc k) h = then_then (nat_cmp x 0) _ Greater ∙ ap (ordering_then (nat_cmp x 0)) (zeros_high xs m k (omega (arith, h))) ∙ zero_high x

-- two lists by what zeros make of them, and where that ties by their lengths
pub padded_order : (xs ys : List ℕ) (m n : ℕ) → length xs + m ≡ length ys + n
    → slice_cmp nat_cmp xs ys ≡ ordering_then (slice_cmp nat_cmp (xs ++ replicate m 0) (ys ++ replicate n 0)) (nat_cmp (length xs) (length ys))
padded_order [] [] m n h = sym (ap (λ o. ordering_then o Equal) (same_zeros m n (omega (arith, h))))
padded_order [] (y ∷ ys) m n h = sym (ap (ordering_then (slice_cmp nat_cmp (replicate m 0) (y ∷ ys ++ replicate n 0))) (lower 0 (suc (length ys)) (omega arith)) ∙ zeros_low (y ∷ ys) n m (omega (arith, h)))
padded_order (x ∷ xs) [] m n h = sym (ap (ordering_then (slice_cmp nat_cmp (x ∷ xs ++ replicate m 0) (replicate n 0))) (higher (suc (length xs)) 0 (omega arith)) ∙ zeros_high (x ∷ xs) m n (omega (arith, h)))
padded_order (x ∷ xs) (y ∷ ys) m n h =
    ap (ordering_then (nat_cmp x y)) (padded_order xs ys m n (omega (arith, h)) ∙ ap (ordering_then (slice_cmp nat_cmp (xs ++ replicate m 0) (ys ++ replicate n 0))) (sym (suc_suc (length xs) (length ys))))
    ∙ sym (then_then (nat_cmp x y) _ _)

-- ---- a part in front
first_decides : (o a b : Ordering) → o ≡ a → o ≢ Equal → o ≡ ordering_then a b
first_decides Less a b h n = ap (λ c. ordering_then c b) h
first_decides Equal a b h n = absurd (n refl)
first_decides Greater a b h n = ap (λ c. ordering_then c b) h

-- one that does not tie decides
pub decided_by : (n : ℕ) (xs ys f g : List ℕ) (r : Ordering) → f ≡ take n xs → g ≡ take n ys → n ≤ length xs → n ≤ length ys → r ≡ slice_cmp nat_cmp f g → r ≢ Equal → r ≡ slice_cmp nat_cmp xs ys
decided_by n xs ys f g r hf hg hx hy e apart =
    first_decides r (slice_cmp nat_cmp f g) (slice_cmp nat_cmp (drop n xs) (drop n ys)) e apart
    ∙ ap (λ t. ordering_then (slice_cmp nat_cmp t g) (slice_cmp nat_cmp (drop n xs) (drop n ys))) hf
    ∙ ap (λ t. ordering_then (slice_cmp nat_cmp (take n xs) t) (slice_cmp nat_cmp (drop n xs) (drop n ys))) hg
    ∙ sym (parted n xs ys hx hy)

-- one that ties leaves it to what is behind it, and to what is behind less of it
pub passed_by : (k n : ℕ) (xs ys f g b d : List ℕ) → f ≡ take n xs → g ≡ take n ys → b ≡ drop k xs → d ≡ drop k ys → k ≤ n → n ≤ length xs → n ≤ length ys → slice_cmp nat_cmp f g ≡ Equal → slice_cmp nat_cmp b d ≡ slice_cmp nat_cmp xs ys
passed_by k n xs ys f g b d hf hg hb hd hk hx hy e =
    let whole : take n xs ≡ take n ys = sym hf ∙ exact_bytes f g e ∙ hg in
    let front : take k xs ≡ take k ys = sym (take-take k n xs hk) ∙ ap (take k) whole ∙ take-take k n ys hk in
    ap (λ t. slice_cmp nat_cmp t d) hb ∙ ap (slice_cmp nat_cmp (drop k xs)) hd
    ∙ sym (parted k xs ys (omega (arith, hk, hx)) (omega (arith, hk, hy))
    ∙ ap (λ t. ordering_then (slice_cmp nat_cmp t (take k ys)) (slice_cmp nat_cmp (drop k xs) (drop k ys))) front
    ∙ ap (λ o. ordering_then o (slice_cmp nat_cmp (drop k xs) (drop k ys))) (same_lists (take k ys)))

-- ---- names
name_order : (a b : Name) → name_cmp a b ≡ ordering_then (slice_cmp nat_cmp a.bytes b.bytes) (nat_cmp a.len b.len)
name_order a b =
    padded_order (text_of a) (text_of b) (31 - a.len) (31 - b.len) (omega (arith, length-text a, length-text b, a.most, b.most))
    ∙ ap (λ t. ordering_then (slice_cmp nat_cmp t (text_of b ++ replicate (31 - b.len) 0)) (nat_cmp (length (text_of a)) (length (text_of b)))) (whole a)
    ∙ ap (λ t. ordering_then (slice_cmp nat_cmp a.bytes t) (nat_cmp (length (text_of a)) (length (text_of b)))) (whole b)
    ∙ ap (λ (n : ℕ). ordering_then (slice_cmp nat_cmp a.bytes b.bytes) (nat_cmp n (length (text_of b)))) (length-text a)
    ∙ ap (λ (n : ℕ). ordering_then (slice_cmp nat_cmp a.bytes b.bytes) (nat_cmp a.len n)) (length-text b)

pub names_apart : (a b : Name) (r : Ordering) → r ≡ slice_cmp nat_cmp a.bytes b.bytes → r ≢ Equal → r ≡ name_cmp a b
names_apart a b r e n = first_decides r _ _ e n ∙ sym (name_order a b)

pub names_tied : (a b : Name) → slice_cmp nat_cmp a.bytes b.bytes ≡ Equal → nat_cmp a.len b.len ≡ name_cmp a b
names_tied a b e = sym (name_order a b ∙ ap (λ o. ordering_then o (nat_cmp a.len b.len)) e)
