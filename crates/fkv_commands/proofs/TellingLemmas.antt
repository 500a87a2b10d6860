-- Texts that were told, whole or in part.
use Rattle.std.proofs.Common.{arith, ◌≡◌, ◌≤◌, ◌*◌, ◌≢◌, ◌⊎◌, ◌++◌, ◌∙◌, inl, inr, refl, sym, append_assoc, ℕ, Bool, List, Option, None, Some, Result, Ok, Err, OnOk, OnErr, length}
use Rattle.std.proofs.lemmas.List.{append-nil}
use Rattle.std.proofs.Math.Seq.{take-length}
use Rattle.std.specs.Io.KnownBytes.{Appends}
use Rattle.fkv_functions.specs.declared.refusals.Refused.{Refused}
use Rattle.fkv_functions.specs.declared.refusals.Refused.TheVariants.{Unwritable}
use Rattle.fkv_streams.specs.Streams.{AppendsPrefix}
use Rattle.fkv_commands.specs.declared.reporting.RunReport.{RunReport}
use Rattle.fkv_requests.specs.declared.requests.Shown.{Shown}
use Rattle.fkv_requests.specs.declared.requests.Shown.TheVariants.{Count, Sum, Max, Summary}
use Rattle.fkv_commands.specs.Advice.{advice_text, keys_of_a_mebibyte}
use Rattle.fkv_commands.specs.Reports.{IsTold, report_text}

-- a text that was told whole was told from its front
pub told_from_front : {T E : Type 0} (old new : Option (List ℕ)) (bytes text : List ℕ) → text ≡ bytes → (r : Result T E) → OnOk r (Appends old new bytes) → OnErr r (AppendsPrefix old new bytes) → AppendsPrefix old new text
told_from_front old new bytes text same (Ok _) whole front = rw same (length bytes, rw (take-length bytes) whole)
told_from_front old new bytes text same (Err _) whole front = rw same front

-- a refusal blames the writer, or does not
pub unwritable_or : (e : Refused) → (e ≡ Unwritable) ⊎ (e ≢ Unwritable)
unwritable_or Unwritable = inl refl
unwritable_or other = inr (λ e. absurd (cc))

-- six texts in a row, however they are joined
pub joined : (a b c d e f : List ℕ) → a ++ b ++ c ++ d ++ e ++ f ≡ a ++ (b ++ (c ++ (d ++ (e ++ f))))
joined a b c d e f =
    append_assoc (a ++ b ++ c ++ d) e f
    ∙ append_assoc (a ++ b ++ c) d (e ++ f)
    ∙ append_assoc (a ++ b) c (d ++ (e ++ f))
    ∙ append_assoc a b (c ++ (d ++ (e ++ f)))

-- of any text nothing may be written
pub nothing_written : (a : Option (List ℕ)) (text : List ℕ) → AppendsPrefix a a text
nothing_written None text = (0, tt)
nothing_written (Some xs) text = (0, sym (append-nil xs))

-- a MiB has room for a key
room_of_one : (shown : Shown) (keys : ℕ) → keys ≤ keys * keys_of_a_mebibyte shown
room_of_one Count keys = omega arith
room_of_one Sum keys = omega arith
room_of_one Max keys = omega arith
room_of_one Summary keys = omega arith

-- a report that is not told
pub told_nothing : (shown : Shown) (sized : Bool) (report : RunReport) (a : Option (List ℕ))
    → (text : List ℕ) × IsTold shown sized report text × AppendsPrefix a a text
told_nothing shown sized report a =
    (report_text report ++ advice_text sized report.keys report, (report.keys, room_of_one shown report.keys, refl), nothing_written a _)
