-- What was read, what it prints, and what was written of that.
use Rattle.std.proofs.Common.{◌≡◌, ◌≤◌, ℕ, List, Option, Result, Ok, Err, None, Some, length}
use Rattle.std.specs.Prelude.{◌≢◌, IfSome, IfErr, OnOk, OnErr}
use Rattle.std.specs.Io.KnownBytes.{Appends}
use Rattle.fkv_functions.specs.declared.refusals.Refused.{Refused}
use Rattle.fkv_functions.specs.declared.refusals.Refused.TheVariants.{Unwritable, Unreadable}
use Rattle.fkv_partition.specs.Limits.{IsWithinLimits}
use Rattle.fkv_streams.specs.Counting.{CountsOnly}
use Rattle.fkv_streams.specs.Streams.{AppendsPrefix}
use Rattle.fkv_scripts.specs.Configs.{config_of}
use Rattle.fkv_scripts.specs.Script.{lines_of, SaysScript}
use Rattle.fkv_scripts.specs.declared.lines.Line.{Line}
use Rattle.fkv_scripts.specs.declared.lines.Opening.{Opening}
use Rattle.fkv_steps.specs.Running.{record_size, Prints, IsOutputOf}

pub is-output : (o : Option (List ℕ)) (opening : Opening) (lines : List Line) (text : List ℕ) → IfSome o (λ t. SaysScript (lines_of t) opening lines × (length (lines_of t) ≤ 1000000))
    → IsWithinLimits (config_of opening) (record_size opening.functions) → Prints opening.functions (config_of opening) lines text → IfSome o (λ input. IsOutputOf input text)
is-output None opening lines text says within prints = tt
is-output (Some xs) opening lines text says within prints = record { opening = opening; lines = lines; short = says.1; says = says.0; within = within; prints = prints }

pub written-whole : {T E : Type 0} (o old new : Option (List ℕ)) (text : List ℕ) (r : Result T E) → IfSome o (λ input. IsOutputOf input text) → OnOk r (Appends old new text)
    → OnOk r (IfSome o (λ input. (x : List ℕ) × IsOutputOf input x × Appends old new x))
written-whole None old new text (Ok u) output h = tt
written-whole (Some xs) old new text (Ok u) output h = (text, output, h)
written-whole o old new text (Err e) output h = tt

pub written-part : {T : Type 0} (o old new : Option (List ℕ)) (text : List ℕ) (r : Result T Refused) → IfSome o (λ input. IsOutputOf input text) → OnErr r (AppendsPrefix old new text)
    → r ≡ Err Unwritable → IfSome o (λ input. (x : List ℕ) × IsOutputOf input x × AppendsPrefix old new x)
written-part o old new text (Ok u) output h e = absurd (cc)
written-part None old new text (Err x) output h e = tt
written-part (Some xs) old new text (Err x) output h e = (text, output, h)

pub no-other : {T : Type 0} (P : Type 0) (r : Result T Refused) → IfErr r (λ e. e ≡ Unwritable) → IfErr r (λ e. e ≢ Unwritable → P)
no-other P (Ok u) only = tt
no-other P (Err e) only = λ other. absurd (other only)

-- the reader was not blamed, and counted nothing
pub not-blamed : {T : Type 0} (r : Result T Refused) (a b : ℕ) → IfErr r (λ e. e ≡ Unwritable) → b ≡ a → CountsOnly (Unreadable 1) r a b
not-blamed (Ok u) a b only same = record { counted = λ e. absurd (cc); steady = λ _. same }
not-blamed (Err e) a b only same = record { counted = λ f. absurd (cc); steady = λ _. same }
