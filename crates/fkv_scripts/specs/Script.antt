-- The lines of a text, and what they say together.
use Rattle.std.specs.Prelude.{◌≡◌, ◌==◌, ◌⊎◌, ◌+◌, ◌≤◌, ℕ, ℤ, pos, Bool, true, List, [], ◌∷◌, ◌++◌, length, int_le, IsTrue, if◌then◌else◌}
use Rattle.std.specs.List.{onto_first}
use Rattle.fkv_functions.specs.declared.names.Name.{Name}
use Rattle.fkv_operations.specs.declared.operations.KeyedOp.{KeyedOp}
use Rattle.fkv_operations.specs.declared.operations.KeyedOp.TheVariants.{Upsert}
use Rattle.fkv_scripts.specs.Grammar.{Says, Opens}
use Rattle.fkv_scripts.specs.declared.lines.FunctionsName.{FunctionsName}
use Rattle.fkv_scripts.specs.declared.lines.FunctionsName.TheVariants.{Count}
use Rattle.fkv_scripts.specs.declared.lines.Opening.{Opening}
use Rattle.fkv_scripts.specs.declared.lines.Line.{Line}
use Rattle.fkv_scripts.specs.declared.lines.Line.TheVariants.{Issue, Do}

abbrev pub is_line_end : ℕ → Bool
is_line_end b = b == 10

-- the lines of a text: a line feed ends each, which the last may lack
abbrev pub lines_of : List ℕ → List (List ℕ)
lines_of [] = []
lines_of (b ∷ bs) = if is_line_end b then [] ∷ lines_of bs else onto_first b (lines_of bs)

-- a store of these functions takes this operation: an amount below 0 is no count
abbrev pub takes_operation : FunctionsName → KeyedOp Name ℤ ℤ → Bool
takes_operation Count (Upsert k n) = int_le (pos 0) n
takes_operation other o = true

-- a store of these functions takes this line
abbrev pub takes : FunctionsName → Line → Bool
takes f (Issue p s o) = takes_operation f o
takes f (Do p s o) = takes_operation f o
takes f other = true

-- the bytes of a line say this, and a store of these functions takes it
abbrev pub SaysTo : FunctionsName → List ℕ → Line → Type 0
SaysTo f bytes l = Says bytes l × IsTrue (takes f l)

-- each of these lines says to a store of these functions what stands beside it
abbrev pub SayAll : FunctionsName → List (List ℕ) → List Line → Type 0
SayAll f [] [] = Unit {0}
SayAll f [] (l ∷ ls) = ⊥
SayAll f (bs ∷ more) [] = ⊥
SayAll f (bs ∷ more) (l ∷ ls) = SaysTo f bs l × SayAll f more ls

-- the lines of a script: the first opens its store
abbrev pub SaysScript : List (List ℕ) → Opening → List Line → Type 0
SaysScript [] o ls = ⊥
SaysScript (first ∷ more) o ls = Opens first o × SayAll o.functions more ls

-- the lines are those of a script as far as they go
abbrev pub BeginsScript : List (List ℕ) → Type 0
BeginsScript [] = Unit {0}
BeginsScript (first ∷ more) = (o : Opening) × (ls : List Line) × SaysScript (first ∷ more) o ls

-- a line says nothing at its place, which is after these lines
abbrev pub SaysNothing : List (List ℕ) → List ℕ → Type 0
SaysNothing [] here = (o : Opening) → Opens here o → ⊥
SaysNothing (first ∷ more) here = (o : Opening) (l : Line) → Opens first o → SaysTo o.functions here l → ⊥

-- Line n is the first bad one: those before it are the lines of a script and not too many, and it says nothing or is
-- one too many.
pub record IsBadLine (limit : ℕ) (lines : List (List ℕ)) (n : ℕ) : Type 0 where
  pub before : List (List ℕ)
  pub here : List ℕ
  pub after : List (List ℕ)
  pub whole : lines ≡ before ++ (here ∷ after)
  pub number : n ≡ length before + 1
  pub good : BeginsScript before
  pub within : length before ≤ limit
  pub bad : SaysNothing before here ⊎ (length before ≡ limit)

-- a script is bad at line n; one of no bytes is bad in line 1
abbrev pub IsBadAt : ℕ → List (List ℕ) → ℕ → Type 0
IsBadAt limit lines n = ((lines ≡ []) × (n ≡ 1)) ⊎ IsBadLine limit lines n
