-- The text of an outcome.
use Rattle.std.specs.Prelude.{◌++◌, ℕ, List, Some, None, codes, decimal}
use Rattle.fkv_operations.specs.declared.operations.Answer.TheVariants.{Value, Absent, Stored, Deleted, Cleared, Declined}
use Rattle.fkv_partition.specs.declared.contexts.Wait.TheVariants.{Fuzzy, Full}
use Rattle.fkv_lives.specs.declared.outcomes.Outcome.{Outcome}
use Rattle.fkv_lives.specs.declared.outcomes.Outcome.TheVariants.{Entered, Left, Refreshed, Shifted, Taken, Flushed, Issued, Next, Build, Load, Waits, Done, GivenUp, Truncated}

-- the text of an outcome, from the texts of values and of what is shown of them
abbrev pub outcome_text : {V O : Type 0} → (V → List ℕ) → (O → List ℕ) → Outcome V O → List ℕ
outcome_text value shown (Entered slot) = codes "entered " ++ decimal slot
outcome_text value shown Left = codes "left"
outcome_text value shown Refreshed = codes "refreshed"
outcome_text value shown Shifted = codes "shifted"
outcome_text value shown (Taken page) = codes "taken " ++ decimal page
outcome_text value shown (Flushed page) = codes "flushed " ++ decimal page
outcome_text value shown (Issued context) = codes "issued " ++ decimal context
outcome_text value shown Next = codes "next"
outcome_text value shown (Build None) = codes "build none"
outcome_text value shown (Build (Some v)) = codes "build " ++ value v
outcome_text value shown (Load address) = codes "load " ++ decimal address
outcome_text value shown (Waits Fuzzy) = codes "wait fuzzy"
outcome_text value shown (Waits Full) = codes "wait full"
outcome_text value shown (Done (Value o)) = codes "done value " ++ shown o
outcome_text value shown (Done Absent) = codes "done absent"
outcome_text value shown (Done Stored) = codes "done stored"
outcome_text value shown (Done Deleted) = codes "done deleted"
outcome_text value shown (Done Cleared) = codes "done cleared"
outcome_text value shown (Done Declined) = codes "done declined"
outcome_text value shown GivenUp = codes "given up"
outcome_text value shown (Truncated begin) = codes "begin " ++ decimal begin
