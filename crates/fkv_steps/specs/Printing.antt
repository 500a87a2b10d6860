-- The text that a replay prints.
use Rattle.std.specs.Prelude.{ℕ, List, Result, Ok, Err, ◌++◌, ◌∷◌, [], length, codes, decimal}
use Rattle.std.specs.List.{flat_map}
use Rattle.fkv_functions.specs.Names.{text_of}
use Rattle.fkv_functions.specs.RefusalNames.{name_of}
use Rattle.fkv_functions.specs.declared.names.Name.{Name}
use Rattle.fkv_functions.specs.declared.refusals.Refused.{Refused}
use Rattle.fkv_lives.specs.declared.outcomes.Outcome.{Outcome}
use Rattle.fkv_lives.specs.OutcomeTexts.{outcome_text}

-- what a step prints: its outcome, or the name of its refusal
abbrev pub step_text : {V O : Type 0} → (V → List ℕ) → (O → List ℕ) → Result (Outcome V O) Refused → List ℕ
step_text value shown (Ok o) = outcome_text value shown o
step_text value shown (Err e) = codes "refused " ++ name_of e

-- a line feed ends each line
abbrev pub line : List ℕ → List ℕ
line text = text ++ 10 ∷ []

-- a key, a space and its value
abbrev pub pair_text : {V : Type 0} → (V → List ℕ) → Name × V → List ℕ
pair_text value p = text_of p.0 ++ 32 ∷ [] ++ value p.1

-- a line for each step
abbrev pub steps_text : {V O : Type 0} → (V → List ℕ) → (O → List ℕ) → List (Result (Outcome V O) Refused) → List ℕ
steps_text value shown steps = flat_map (λ r. line (step_text value shown r)) steps

-- how many keys are live, and a line for each in order
abbrev pub map_text : {V : Type 0} → (V → List ℕ) → List (Name × V) → List ℕ
map_text value pairs = line (codes "map " ++ decimal (length pairs)) ++ flat_map (λ p. line (pair_text value p)) pairs
