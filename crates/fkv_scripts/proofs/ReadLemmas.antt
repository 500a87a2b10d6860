-- Reading line by line, and what a front of the lines says of all of them.
use Rattle.std.proofs.Common.{◌≡◌, ◌+◌, ◌<◌, ◌≤◌, ◌∷◌, ◌++◌, [], ℕ, List, Bool, Option, None, Some, true, false, cond, refl, sym, ◌∙◌, ap, arith, take, drop, length, suc, zero, append_assoc, ◌⊎◌, inl, inr}
use Rattle.std.specs.Prelude.{IfSome, IfOk, IfErr, ◌==◌, Result, Ok, Err}
use Rattle.fkv_functions.specs.declared.refusals.Refused.{Refused}
use Rattle.fkv_functions.specs.declared.refusals.Refused.TheVariants.{BadScript}
use Rattle.fkv_scripts.specs.declared.lines.Script.{Script}
use Rattle.std.proofs.lemmas.Bool.Decides.{nat_tests}
use Rattle.std.proofs.lemmas.List.{take_all, length-take, append-nil, take-append-drop}
use Rattle.std.specs.List.{onto_first}
use Rattle.fkv_streams.specs.Streams.{first_lines}
use Rattle.fkv_scripts.specs.Grammar.{Opens}
use Rattle.fkv_scripts.specs.declared.lines.FunctionsName.{FunctionsName}
use Rattle.fkv_scripts.specs.declared.lines.Line.{Line}
use Rattle.fkv_scripts.specs.declared.lines.Opening.{Opening}
use Rattle.fkv_scripts.specs.Script.{is_line_end, lines_of, SaysTo, SayAll, SaysScript, IsBadLine, IsBadAt}

pub say-more : (f : FunctionsName) (front : List (List ℕ)) (ls : List Line) (bytes : List ℕ) (l : Line) → SayAll f front ls → SaysTo f bytes l → SayAll f (front ++ (bytes ∷ [])) (ls ++ (l ∷ []))
say-more f [] [] bytes l s h = (h, tt)
say-more f [] (k ∷ ks) bytes l s h = absurd s
say-more f (b ∷ bs) [] bytes l s h = absurd s
say-more f (b ∷ bs) (k ∷ ks) bytes l s h = (s.0, say-more f bs ks bytes l s.1 h)

pub say-length : (f : FunctionsName) (front : List (List ℕ)) (ls : List Line) → SayAll f front ls → length front ≡ length ls
say-length f [] [] s = refl
say-length f [] (k ∷ ks) s = absurd s
say-length f (b ∷ bs) [] s = absurd s
say-length f (b ∷ bs) (k ∷ ks) s = ap suc (say-length f bs ks s.1)

-- nothing is left, and so the lines before are all
pub said-all : (f : FunctionsName) (text rest : List ℕ) (limit : ℕ) (front : List (List ℕ)) (ls : List Line) → lines_of text ≡ front ++ lines_of rest → SayAll f front ls → length ls < limit → (length rest == 0) ≡ true
    → SayAll f (lines_of text) ls × (length (lines_of text) < limit)
said-all f text [] limit front ls e s h z =
    let size : length front ≡ length ls = say-length f front ls s in
    let whole : lines_of text ≡ front = e ∙ append-nil front in
    rw whole (s, omega arith)
said-all f text (b ∷ bs) limit front ls e s h z = absurd (let none : length (b ∷ bs) ≡ 0 = grind (arith, nat_tests) in omega arith)

-- a first line that opens no store, or is one too many
pub bad-first : (limit n : ℕ) (lines : List (List ℕ)) (first : List ℕ) (more : List (List ℕ)) → lines ≡ first ∷ more → 1 ≡ n → ((o : Opening) → Opens first o → ⊥) ⊎ (0 ≡ limit) → IsBadAt limit lines n
bad-first limit n lines first more e one why = inr (record { before = []; here = first; after = more; whole = e; number = sym one; good = tt; within = omega arith; bad = why })

take_onto : (b n : ℕ) (ls : List (List ℕ)) → onto_first b (take (suc n) ls) ≡ take (suc n) (onto_first b ls)
take_onto b zero [] = refl
take_onto b (suc n) [] = refl
take_onto b n (l ∷ ls) = refl

-- the lines of the bytes of the first lines are the first lines
pub lines-take : (n : ℕ) (xs : List ℕ) → lines_of (first_lines n xs) ≡ take n (lines_of xs)
lines-take zero xs = refl
lines-take (suc n) [] = refl
lines-take (suc n) (b ∷ bs) = by (is_line_end b) (lines-take n bs) (lines-take (suc n) bs)
  where
    by : (t : Bool) → lines_of (first_lines n bs) ≡ take n (lines_of bs) → lines_of (first_lines (suc n) bs) ≡ take (suc n) (lines_of bs)
        → cond t ([] ∷ lines_of (cond t (first_lines n bs) (first_lines (suc n) bs))) (onto_first b (lines_of (cond t (first_lines n bs) (first_lines (suc n) bs)))) ≡ take (suc n) (cond t ([] ∷ lines_of bs) (onto_first b (lines_of bs)))
    by true f g = ap (λ (ls : List (List ℕ)). [] ∷ ls) f
    by false f g = ap (onto_first b) g ∙ take_onto b n (lines_of bs)

short : (limit : ℕ) (lines : List (List ℕ)) → length (take (limit + 1) lines) ≤ limit → take (limit + 1) lines ≡ lines
short limit lines h = take_all (limit + 1) lines (omega (arith, length-take (limit + 1) lines))

bad_line : (limit : ℕ) (lines : List (List ℕ)) (n : ℕ) → IsBadLine limit (take (limit + 1) lines) n → IsBadLine limit lines n
bad_line limit lines n h = record {
  before = h.before;
  here = h.here;
  after = h.after ++ drop (limit + 1) lines;
  whole = sym (take-append-drop (limit + 1) lines) ∙ ap (λ xs. xs ++ drop (limit + 1) lines) h.whole ∙ append_assoc h.before (h.here ∷ h.after) (drop (limit + 1) lines);
  number = h.number;
  good = h.good;
  within = h.within;
  bad = h.bad;
}

none_taken : (limit : ℕ) (lines : List (List ℕ)) → take (limit + 1) lines ≡ [] → lines ≡ []
none_taken limit [] e = refl
none_taken limit (l ∷ ls) e = absurd (let size = ap (λ (xs : List (List ℕ)). length xs) e in omega (arith, length-take (limit + 1) (l ∷ ls), size))

pub bad_at : (limit n : ℕ) (lines : List (List ℕ)) → IsBadAt limit (take (limit + 1) lines) n → IsBadAt limit lines n
bad_at limit n lines (inl h) = inl (none_taken limit lines h.0, h.1)
bad_at limit n lines (inr h) = inr (bad_line limit lines n h)

pub if_said : (limit : ℕ) (o : Option (List ℕ)) (text : List ℕ) (opening : Opening) (ls : List Line) → IfSome o (λ xs. text ≡ first_lines (limit + 1) xs)
    → SaysScript (lines_of text) opening ls × (length (lines_of text) ≤ limit) → IfSome o (λ xs. SaysScript (lines_of xs) opening ls × (length (lines_of xs) ≤ limit))
if_said limit None text opening ls h s = tt
if_said limit (Some xs) text opening ls h s =
    let k : lines_of text ≡ take (limit + 1) (lines_of xs) = rw h (lines-take (limit + 1) xs) in
    let whole : take (limit + 1) (lines_of xs) ≡ lines_of xs = short limit (lines_of xs) (rw k at s.1) in
    rw (k ∙ whole) at s

pub if_bad : (limit n : ℕ) (o : Option (List ℕ)) (text : List ℕ) → IfSome o (λ xs. text ≡ first_lines (limit + 1) xs) → IsBadAt limit (lines_of text) n → IfSome o (λ xs. IsBadAt limit (lines_of xs) n)
if_bad limit n None text h s = tt
if_bad limit n (Some xs) text h s =
    let k : lines_of text ≡ take (limit + 1) (lines_of xs) = rw h (lines-take (limit + 1) xs) in
    bad_at limit n (lines_of xs) (rw k at s)

-- what was said of the first lines, said of all
pub read_said : {E : Type 0} (limit : ℕ) (o : Option (List ℕ)) (text : List ℕ) (r : Result Script E) → IfSome o (λ xs. text ≡ first_lines (limit + 1) xs)
    → IfOk r (λ s. SaysScript (lines_of text) s.opening s.lines.items × (length (lines_of text) ≤ limit)) → IfOk r (λ s. IfSome o (λ xs. SaysScript (lines_of xs) s.opening s.lines.items × (length (lines_of xs) ≤ limit)))
read_said limit o text (Ok s) h k = if_said limit o text s.opening s.lines.items h k
read_said limit o text (Err e) h k = tt

pub read_bad : {T : Type 0} (limit : ℕ) (o : Option (List ℕ)) (text : List ℕ) (r : Result T Refused) → IfSome o (λ xs. text ≡ first_lines (limit + 1) xs)
    → IfErr r (λ e. (n : ℕ) → e ≡ BadScript n → IsBadAt limit (lines_of text) n) → IfErr r (λ e. (n : ℕ) → e ≡ BadScript n → IfSome o (λ xs. IsBadAt limit (lines_of xs) n))
read_bad limit o text (Ok s) h k = tt
read_bad limit o text (Err e) h k = λ n same. if_bad limit n o text h (k n same)
