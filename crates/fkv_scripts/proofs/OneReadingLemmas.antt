-- Why a text has one reading: the first bad line is at one place.
use Rattle.std.proofs.Common.{◌≡◌, ◌-◌, ◌<◌, ◌≤◌, ◌∷◌, ◌++◌, [], ℕ, List, suc, refl, sym, ◌∙◌, ap, subst, arith, length, length-append, ◌⊎◌, inl, inr}
use Rattle.std.proofs.lemmas.Option.{same_Some}
use Rattle.fkv_scripts.specs.Words.{words_of}
use Rattle.fkv_scripts.specs.Grammar.{Opens}
use Rattle.fkv_scripts.specs.Script.{SaysTo, SayAll, SaysScript, BeginsScript, SaysNothing}
use Rattle.fkv_scripts.specs.OneReading.{SaysOnce, OpensOnce, IsBadOnce, GoodIsNotBad}
use Rattle.fkv_scripts.specs.declared.lines.FunctionsName.{FunctionsName}
use Rattle.fkv_scripts.specs.declared.lines.Opening.{Opening}
use Rattle.fkv_scripts.specs.declared.lines.Line.{Line}
use Rattle.fkv_scripts.proofs.GrammarLemmas.{only, opening_only}

pub says_once : SaysOnce
says_once bytes l k h i = same_Some l k (sym (only l (words_of bytes) h) ∙ only k (words_of bytes) i)

pub opens_once : OpensOnce
opens_once bytes o p h i = same_Some o p (sym (opening_only o (words_of bytes) h) ∙ opening_only p (words_of bytes) i)

-- a line after the first says nothing, or so many lines before it are all that may stand there
abbrev Over : FunctionsName → ℕ → ℕ → List ℕ → Type 0
Over f left n here = ((l : Line) → SaysTo f here l → ⊥) ⊎ (n ≡ left)

fewer : (f : FunctionsName) (left n : ℕ) (h : List ℕ) → Over f left (suc n) h → Over f (left - 1) n h
fewer f left n h (inl none) = inl none
fewer f left n h (inr full) = inr (omega arith)

-- a line that says something, with room for more, is not the bad one
met : (f : FunctionsName) (left n : ℕ) (h b : List ℕ) (k : Line) → h ≡ b → SaysTo f b k → n < left → Over f left n h → ⊥
met f left n h b k e s u (inl none) = none k (rw e s)
met f left n h b k e s u (inr full) = omega arith

rest_once : (f : FunctionsName) (left : ℕ) (xs ys : List (List ℕ)) (h i : List ℕ) (s t : List (List ℕ)) (ls ks : List Line) → xs ++ (h ∷ s) ≡ ys ++ (i ∷ t) → SayAll f xs ls → SayAll f ys ks
    → length xs ≤ left → length ys ≤ left → Over f left (length xs) h → Over f left (length ys) i → length xs ≡ length ys
rest_once f left [] [] h i s t ls ks e p q u v x y = refl
rest_once f left [] (b ∷ ys) h i s t ls [] e p q u v x y = absurd q
rest_once f left [] (b ∷ ys) h i s t ls (k ∷ ks) e p q u v x y = let same : h ≡ b = cc in absurd (met f left 0 h b k same q.0 (omega arith) x)
rest_once f left (a ∷ xs) [] h i s t [] ks e p q u v x y = absurd p
rest_once f left (a ∷ xs) [] h i s t (l ∷ ls) ks e p q u v x y = let same : i ≡ a = cc in absurd (met f left 0 i a l same p.0 (omega arith) y)
rest_once f left (a ∷ xs) (b ∷ ys) h i s t [] ks e p q u v x y = absurd p
rest_once f left (a ∷ xs) (b ∷ ys) h i s t (l ∷ ls) [] e p q u v x y = absurd q
rest_once f left (a ∷ xs) (b ∷ ys) h i s t (l ∷ ls) (k ∷ ks) e p q u v x y =
    let rest : xs ++ (h ∷ s) ≡ ys ++ (i ∷ t) = cc in
    ap suc (rest_once f (left - 1) xs ys h i s t ls ks rest p.1 q.1 (omega arith) (omega arith) (fewer f left (length xs) h x) (fewer f left (length ys) i y))

-- a first line that opens a store, with room for it, is not the bad one
opened : (limit n : ℕ) (h b : List ℕ) (o : Opening) → h ≡ b → Opens b o → n < limit → ((q : Opening) → Opens h q → ⊥) ⊎ (n ≡ limit) → ⊥
opened limit n h b o e s u (inl none) = none o (rw e s)
opened limit n h b o e s u (inr full) = omega arith

-- what is bad after a first line of these functions
over : (limit n : ℕ) (first : List ℕ) (xs : List (List ℕ)) (h : List ℕ) (o : Opening) → Opens first o → SaysNothing (first ∷ xs) h ⊎ (suc n ≡ limit) → Over o.functions (limit - 1) n h
over limit n first xs h o opens (inl none) = inl (λ l s. none o l opens s)
over limit n first xs h o opens (inr full) = inr (omega arith)

once : (limit : ℕ) (xs ys : List (List ℕ)) (h i : List ℕ) (s t : List (List ℕ)) → xs ++ (h ∷ s) ≡ ys ++ (i ∷ t) → BeginsScript xs → BeginsScript ys → length xs ≤ limit → length ys ≤ limit
    → SaysNothing xs h ⊎ (length xs ≡ limit) → SaysNothing ys i ⊎ (length ys ≡ limit) → length xs ≡ length ys
once limit [] [] h i s t e p q u v x y = refl
once limit [] (b ∷ ys) h i s t e p q u v x y = let same : h ≡ b = cc in absurd (opened limit 0 h b q.0 same q.2.0 (omega arith) x)
once limit (a ∷ xs) [] h i s t e p q u v x y = let same : i ≡ a = cc in absurd (opened limit 0 i a p.0 same p.2.0 (omega arith) y)
once limit (a ∷ xs) (b ∷ ys) h i s t e p q u v x y =
    let rest : xs ++ (h ∷ s) ≡ ys ++ (i ∷ t) = cc in
    let first : a ≡ b = cc in
    let same : q.0 ≡ p.0 = opens_once a q.0 p.0 (rw first q.2.0) p.2.0 in
    let says : SayAll p.0.functions ys q.1 = subst (λ (o : Opening). SayAll o.functions ys q.1) same q.2.1 in
    ap suc (rest_once p.0.functions (limit - 1) xs ys h i s t p.1 q.1 rest p.2.1 says (omega arith) (omega arith) (over limit (length xs) a xs h p.0 p.2.0 x) (over limit (length ys) b ys i p.0 (rw (← first) p.2.0) y))

-- a list with a line in it is not empty
some_line : (xs ys : List (List ℕ)) (h : List ℕ) (lines : List (List ℕ)) → lines ≡ [] → lines ≡ xs ++ (h ∷ ys) → ⊥
some_line xs ys h lines e f = let size = ap (λ (zs : List (List ℕ)). length zs) (sym e ∙ f) in omega (arith, size, length-append xs (h ∷ ys))

pub is_bad_once : IsBadOnce
is_bad_once limit n m lines (inl a) (inl b) = a.1 ∙ sym b.1
is_bad_once limit n m lines (inl a) (inr b) = absurd (some_line b.before b.after b.here lines a.0 b.whole)
is_bad_once limit n m lines (inr a) (inl b) = absurd (some_line a.before a.after a.here lines b.0 a.whole)
is_bad_once limit n m lines (inr a) (inr b) =
    let same = once limit a.before b.before a.here b.here a.after b.after (sym a.whole ∙ b.whole) a.good b.good a.within b.within a.bad b.bad in
    omega (arith, a.number, b.number, same)

-- each line of those that say something says something
said_at : (f : FunctionsName) (xs : List (List ℕ)) (h : List ℕ) (s : List (List ℕ)) (ls : List Line) → SayAll f (xs ++ (h ∷ s)) ls → (l : Line) × SaysTo f h l
said_at f [] h s [] p = absurd p
said_at f [] h s (l ∷ ls) p = (l, p.0)
said_at f (x ∷ xs) h s [] p = absurd p
said_at f (x ∷ xs) h s (l ∷ ls) p = said_at f xs h s ls p.1

not_bad : (limit : ℕ) (xs : List (List ℕ)) (h : List ℕ) (s : List (List ℕ)) (o : Opening) (ls : List Line) → SaysScript (xs ++ (h ∷ s)) o ls → length (xs ++ (h ∷ s)) ≤ limit → SaysNothing xs h ⊎ (length xs ≡ limit) → ⊥
not_bad limit [] h s o ls p u (inl none) = none o p.0
not_bad limit (x ∷ xs) h s o ls p u (inl none) = let a = said_at o.functions xs h s ls p.1 in none o a.0 p.0 a.1
not_bad limit xs h s o ls p u (inr full) = omega (arith, length-append xs (h ∷ s))

pub good_is_not_bad : GoodIsNotBad
good_is_not_bad limit n lines o ls p u (inl a) = let none : SaysScript [] o ls = rw a.0 at p in absurd none
good_is_not_bad limit n lines o ls p u (inr a) = not_bad limit a.before a.here a.after o ls (rw a.whole at p) (rw a.whole at u) a.bad

-- a line that says nothing to a store of these functions says nothing after a first line that names them
pub nothing_after : (first : List ℕ) (xs : List (List ℕ)) (h : List ℕ) (f : FunctionsName) (o : Opening) → Opens first o → o.functions ≡ f → ((l : Line) → SaysTo f h l → ⊥) → SaysNothing (first ∷ xs) h
nothing_after first xs h f o opens e none q l begins s =
    let same : q.functions ≡ f = ap (λ (x : Opening). x.functions) (opens_once first q o begins opens) ∙ e in
    none l (subst (λ g. SaysTo g h l) same s)
