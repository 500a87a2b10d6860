-- Streams that are read and written in several calls.
use Rattle.std.proofs.Common.{◌≡◌, ◌+◌, ◌-◌, ◌<◌, ◌≤◌, ◌∷◌, ◌++◌, [], ℕ, List, Bool, Option, Result, Ok, Err, None, Some, true, false, cond, refl, sym, ◌∙◌, ap, arith, take, drop, length, suc, zero, append_assoc, get_or, add-one}
use Rattle.std.specs.Prelude.{IfSome, OnOk, OnErr, ⊤, ◌==◌}
use Rattle.fkv_functions.specs.declared.refusals.Refused.{Refused}
use Rattle.fkv_streams.specs.Counting.{CountsOnly}
use Rattle.std.proofs.lemmas.Bool.Decides.{nat_tests}
use Rattle.std.proofs.lemmas.List.{append-nil, take_all, drop_all, length-drop}
use Rattle.std.proofs.Math.Seq.{take-add, take-suc, take-length, drop-cons}
use Rattle.std.specs.Io.KnownBytes.{Keeps, Consumes, Appends, IsAtEnd, ReadConsumes, WriteAppends}
use Rattle.fkv_streams.specs.Streams.{first_lines, lines_left, AppendsPrefix}

-- what was kept twice was kept
pub kept : (a b c : Option (List ℕ)) → Keeps a b → Keeps b c → Keeps a c
kept None b c h k = tt
kept (Some xs) None c h k = absurd h
kept (Some xs) (Some ys) None h k = absurd k
kept (Some xs) (Some ys) (Some zs) h k = k ∙ h

-- a read after calls that kept the bytes
pub kept-read : {E : Type 0} (a b c : Option (List ℕ)) (r : Result ℕ E) (buf : List ℕ) → Keeps a b → ReadConsumes b c r buf → ReadConsumes a c r buf
kept-read None b c (Ok n) buf h k = (tt, k.1)
kept-read None b c (Err e) buf h k = tt
kept-read (Some xs) None c r buf h k = absurd h
kept-read (Some xs) (Some ys) c r buf h k = rw h at k

-- a write after calls that kept the bytes
pub kept-write : {E : Type 0} (a b c : Option (List ℕ)) (r : Result ℕ E) (buf : List ℕ) → Keeps a b → WriteAppends b c r buf → WriteAppends a c r buf
kept-write None b c (Ok n) buf h k = tt
kept-write None b c (Err e) buf h k = tt
kept-write (Some xs) None c r buf h k = absurd h
kept-write (Some xs) (Some ys) c r buf h k = rw h at k

-- a write that took no byte kept them
pub none-taken : (a b : Option (List ℕ)) (buf : List ℕ) → Appends a b (take 0 buf) → Keeps a b
none-taken None b buf h = tt
none-taken (Some xs) None buf h = absurd h
none-taken (Some xs) (Some ys) buf h = h ∙ append-nil xs

-- bytes written in turns
pub grows : (a b c : Option (List ℕ)) (bs : List ℕ) (k n : ℕ) → Appends a b (take k bs) → Appends b c (take n (take (length bs - k) (drop k bs))) → Appends a c (take (k + n) bs)
grows None b c bs k n h i = tt
grows (Some xs) None c bs k n h i = absurd h
grows (Some xs) (Some ys) None bs k n h i = absurd i
grows (Some xs) (Some ys) (Some zs) bs k n h i =
    let whole : take (length bs - k) (drop k bs) ≡ drop k bs = take_all (length bs - k) (drop k bs) (omega (arith, length-drop k bs)) in
    rw (i, h, whole, take-add k n bs) (append_assoc xs (take k bs) (take n (drop k bs)))

pub stays : (a b c : Option (List ℕ)) (bs : List ℕ) → Appends a b bs → Keeps b c → Appends a c bs
stays None b c bs h i = tt
stays (Some xs) None c bs h i = absurd h
stays (Some xs) (Some ys) None bs h i = absurd i
stays (Some xs) (Some ys) (Some zs) bs h i = i ∙ h

pub begun : (a : Option (List ℕ)) (bs : List ℕ) → Appends a a (take 0 bs)
begun None bs = tt
begun (Some xs) bs = sym (append-nil xs)

-- all bytes were written, and then let out or not
pub all-written : {T E : Type 0} (a b c : Option (List ℕ)) (bs : List ℕ) (n : ℕ) (r : Result T E) → length bs ≤ n → Appends a b (take n bs) → Keeps b c → OnOk r (Appends a c bs)
all-written a b c bs n (Ok x) l h k = stays a b c bs (rw (take_all n bs l) at h) k
all-written a b c bs n (Err e) l h k = tt

pub front-written : {T E : Type 0} (a b c : Option (List ℕ)) (bs : List ℕ) (n : ℕ) (r : Result T E) → Appends a b (take n bs) → Keeps b c → OnErr r (AppendsPrefix a c bs)
front-written a b c bs n (Ok x) h k = tt
front-written a b c bs n (Err e) h k = (n, stays a b c (take n bs) h k)

-- a count of some call, after calls that counted nothing
pub counts-after : {T : Type 0} (refusal : Refused) (r : Result T Refused) (a b c : ℕ) → b ≡ a → CountsOnly refusal r b c → CountsOnly refusal r a c
counts-after refusal r a b c e h = rw e at h

-- the first lines of bytes and of those after them
pub lines-append : (n : ℕ) (xs ys : List ℕ) → first_lines n (xs ++ ys) ≡ first_lines n xs ++ first_lines (lines_left n xs) ys
lines-append zero xs ys = no-lines ys
  where
    no-lines : (zs : List ℕ) → first_lines zero zs ≡ [] ++ first_lines zero zs
    no-lines zs = refl
lines-append (suc n) [] ys = refl
lines-append (suc n) (b ∷ bs) ys = by (b == 10) (lines-append n bs ys) (lines-append (suc n) bs ys)
  where
    by : (t : Bool) → first_lines n (bs ++ ys) ≡ first_lines n bs ++ first_lines (lines_left n bs) ys → first_lines (suc n) (bs ++ ys) ≡ first_lines (suc n) bs ++ first_lines (lines_left (suc n) bs) ys
        → b ∷ cond t (first_lines n (bs ++ ys)) (first_lines (suc n) (bs ++ ys)) ≡ (b ∷ cond t (first_lines n bs) (first_lines (suc n) bs)) ++ first_lines (cond t (lines_left n bs) (lines_left (suc n) bs)) ys
    by true e f = ap (λ (zs : List ℕ). b ∷ zs) e
    by false e f = ap (λ (zs : List ℕ). b ∷ zs) f

pub no-more : (n : ℕ) → first_lines n [] ≡ []
no-more zero = refl
no-more (suc n) = refl

-- of bytes that are known, these were read, and the reader has the rest
abbrev pub SoFar : ℕ → Option (List ℕ) → Option (List ℕ) → ℕ → List ℕ → Type 0
SoFar count None now left text = ⊤
SoFar count (Some xs) None left text = ⊥
SoFar count (Some xs) (Some ys) left text = text ++ first_lines left ys ≡ first_lines count xs

pub so-far-start : (count : ℕ) (o : Option (List ℕ)) → SoFar count o o count []
so-far-start count None = tt
so-far-start count (Some xs) = refl

pub so-far-more : (count left : ℕ) (o a b : Option (List ℕ)) (text bytes : List ℕ) → SoFar count o a left text → Consumes a b bytes → SoFar count o b (lines_left left bytes) (text ++ first_lines left bytes)
so-far-more count left None a b text bytes h k = tt
so-far-more count left (Some xs) None b text bytes h k = absurd h
so-far-more count left (Some xs) (Some ys) None text bytes h k = absurd k
so-far-more count left (Some xs) (Some ys) (Some zs) text bytes h k =
    let g : text ++ first_lines left (bytes ++ zs) ≡ first_lines count xs = rw k at h in
    append_assoc text (first_lines left bytes) (first_lines (lines_left left bytes) zs) ∙ (rw (lines-append left bytes zs) at g)

-- the reader is at its end
pub so-far-end : (count left : ℕ) (o a b : Option (List ℕ)) (text buf : List ℕ) → SoFar count o a left text → Consumes a b (take 0 buf) → IsAtEnd b → IfSome o (λ xs. text ≡ first_lines count xs)
so-far-end count left None a b text buf h k e = tt
so-far-end count left (Some xs) None b text buf h k e = absurd h
so-far-end count left (Some xs) (Some ys) None text buf h k e = absurd k
so-far-end count left (Some xs) (Some ys) (Some zs) text buf h k e =
    let none : ys ≡ [] = k ∙ e in
    let g : text ++ first_lines left [] ≡ first_lines count xs = rw none at h in
    sym (append-nil text) ∙ (rw (no-more left) at g)

-- no line is still to come
pub so-far-all : (count left : ℕ) (o a : Option (List ℕ)) (text : List ℕ) → left ≤ 0 → SoFar count o a left text → IfSome o (λ xs. text ≡ first_lines count xs)
so-far-all count left None a text z h = tt
so-far-all count left (Some xs) None text z h = absurd h
so-far-all count left (Some xs) (Some ys) text z h =
    let none : left ≡ 0 = omega arith in
    let g : text ++ first_lines 0 ys ≡ first_lines count xs = rw none at h in
    sym (append-nil text) ∙ g

-- one more byte of the first lines: a line feed, or another byte
pub one-end : (count left at : ℕ) (xs : List ℕ) → at < length xs → (left ≡ 0 → ⊥) → get_or xs at 0 ≡ 10 → first_lines count xs ≡ take at xs ++ first_lines left (drop at xs) → lines_left count xs ≡ lines_left left (drop at xs)
    → (first_lines count xs ≡ take (at + 1) xs ++ first_lines (left - 1) (drop (at + 1) xs)) × (lines_left count xs ≡ lines_left (left - 1) (drop (at + 1) xs))
one-end count zero at xs l z e h k = absurd (z refl)
one-end count (suc n) at xs l z e h k =
    let less : suc n - 1 ≡ n = omega arith in
    let here : drop at xs ≡ 10 ∷ drop (suc at) xs = rw e at (drop-cons xs at 0 l) in
    let front : take (suc at) xs ≡ take at xs ++ (10 ∷ []) = rw e at (take-suc xs at 0 l) in
    rw (less, add-one, front) ((rw here at h) ∙ sym (append_assoc (take at xs) (10 ∷ []) (first_lines n (drop (suc at) xs))), rw here at k)

pub one-byte : (count left at : ℕ) (xs : List ℕ) → at < length xs → (left ≡ 0 → ⊥) → (get_or xs at 0 ≡ 10 → ⊥) → first_lines count xs ≡ take at xs ++ first_lines left (drop at xs) → lines_left count xs ≡ lines_left left (drop at xs)
    → (first_lines count xs ≡ take (at + 1) xs ++ first_lines left (drop (at + 1) xs)) × (lines_left count xs ≡ lines_left left (drop (at + 1) xs))
one-byte count zero at xs l z e h k = absurd (z refl)
one-byte count (suc n) at xs l z e h k =
    let b : ℕ = get_or xs at 0 in
    let here : drop at xs ≡ b ∷ drop (suc at) xs = drop-cons xs at 0 l in
    let front : take (suc at) xs ≡ take at xs ++ (b ∷ []) = take-suc xs at 0 l in
    let other : (b == 10) ≡ false = grind (arith, nat_tests) in
    rw (add-one, front) ((rw (here, other) at h) ∙ sym (append_assoc (take at xs) (b ∷ []) (first_lines (suc n) (drop (suc at) xs))), rw (here, other) at k)

-- no byte is left
pub all-taken : (count left at : ℕ) (xs : List ℕ) → length xs ≤ at → first_lines count xs ≡ take at xs ++ first_lines left (drop at xs) → lines_left count xs ≡ lines_left left (drop at xs)
    → (take (length xs) xs ≡ first_lines count xs) × (left ≡ lines_left count xs)
all-taken count left at xs l h k =
    let none : drop at xs ≡ [] = drop_all at xs l in
    let all : take at xs ≡ xs = take_all at xs l in
    let g : first_lines count xs ≡ xs ++ first_lines left [] = rw (none, all) at h in
    let i : lines_left count xs ≡ lines_left left [] = rw none at k in
    (take-length xs ∙ sym (append-nil xs) ∙ sym (rw (no-more left) at g), sym (i ∙ still left))
  where
    still : (n : ℕ) → lines_left n [] ≡ n
    still zero = refl
    still (suc n) = refl

-- no line is left
pub none-left : (count left at : ℕ) (xs : List ℕ) → left ≡ 0 → first_lines count xs ≡ take at xs ++ first_lines left (drop at xs) → lines_left count xs ≡ lines_left left (drop at xs)
    → (take at xs ≡ first_lines count xs) × (0 ≡ lines_left count xs)
none-left count left at xs z h k =
    let g : first_lines count xs ≡ take at xs ++ first_lines 0 (drop at xs) = rw z at h in
    let i : lines_left count xs ≡ lines_left 0 (drop at xs) = rw z at k in
    (sym (append-nil (take at xs)) ∙ sym g, sym i)
