-- What the grammar leaves no choice in.
use Rattle.std.specs.Prelude.{◌≡◌, ◌≤◌, ℕ, List, length}
use Rattle.fkv_scripts.specs.Grammar.{Says, Opens}
use Rattle.fkv_scripts.specs.Script.{SaysScript, IsBadAt}
use Rattle.fkv_scripts.specs.declared.lines.Opening.{Opening}
use Rattle.fkv_scripts.specs.declared.lines.Line.{Line}

-- a line says one thing at most
abbrev pub SaysOnce : Type 0
SaysOnce = (bytes : List ℕ) (l k : Line) → Says bytes l → Says bytes k → l ≡ k

-- a first line opens one store at most
abbrev pub OpensOnce : Type 0
OpensOnce = (bytes : List ℕ) (o p : Opening) → Opens bytes o → Opens bytes p → o ≡ p

-- a script is bad at one line at most
abbrev pub IsBadOnce : Type 0
IsBadOnce = (limit n m : ℕ) (lines : List (List ℕ)) → IsBadAt limit lines n → IsBadAt limit lines m → n ≡ m

-- a script that says something within its limit is bad at no line
abbrev pub GoodIsNotBad : Type 0
GoodIsNotBad =
    (limit n : ℕ) (lines : List (List ℕ)) (o : Opening) (ls : List Line)
    → SaysScript lines o ls
    → length lines ≤ limit
    → IsBadAt limit lines n
    → ⊥
