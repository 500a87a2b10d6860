-- What a run leaves on its output, by what was read.
use Rattle.std.specs.Prelude.{◌≡◌, ◌≢◌, ◌⊎◌, ⊤, true, List, [], ◌∷◌, map, ℕ, ℤ, Option, None, Some, IfSome, codes, option_map, string_bytes}
use Rattle.std.specs.Fmt.{decimal, signed_decimal}
use Rattle.fkv_device.specs.Known.{Pages, HasCollision}
use Rattle.fkv_functions.specs.Meanings.{Meanings}
use Rattle.fkv_functions.specs.Sets.{counts, sums, maxima}
use Rattle.fkv_functions.specs.declared.names.Name.{Name}
use Rattle.fkv_functions.specs.declared.refusals.Refused.{Refused}
use Rattle.fkv_functions.specs.declared.refusals.Refused.TheVariants.{NoMemory, Worn, Device, Damaged, Unwritable}
use Rattle.fkv_requests.specs.declared.requests.Shown.{Shown}
use Rattle.fkv_requests.specs.declared.requests.Shown.TheVariants.{Count, Sum, Max, Summary}
use Rattle.fkv_requests.specs.declared.requests.TableRequest.{TableRequest}
use Rattle.fkv_requests.specs.Requests.{AsksReplay, AsksTable, MayAskHelp, MayAskVersion, MayBeMistaken, Text}
use Rattle.std.specs.Io.KnownBytes.{Appends}
use Rattle.fkv_streams.specs.Streams.{AppendsPrefix}
use Rattle.fkv_steps.specs.Printing.{line}
use Rattle.fkv_steps.specs.Running.{IsOutputOf}
use Rattle.fkv_feeds.specs.Tables.{IsTableOf}
use Rattle.fkv_feeds.specs.Writing.{table_text}
use Rattle.fkv_summaries.specs.Summaries.{summaries, summary_fields}
use Rattle.fkv_commands.specs.declared.reporting.RunReport.{RunReport}
use Rattle.fkv_commands.specs.Plans.{IsPlanOf, feeds_of}
use Rattle.fkv_commands.specs.Reports.{IsTold}

-- the whole output of the input was written, and nothing else; known bytes are those of a reader and of a writer in
-- memory
abbrev pub PrintsAll : Option (List ℕ) → Option (List ℕ) → Option (List ℕ) → Type 0
PrintsAll input old new = IfSome input (λ bytes. (text : List ℕ) × IsOutputOf bytes text × Appends old new text)

-- no more than a part of that output was written, from its front
abbrev pub PrintsPart : Option (List ℕ) → Option (List ℕ) → Option (List ℕ) → Type 0
PrintsPart input old new = IfSome input (λ bytes. (text : List ℕ) × IsOutputOf bytes text × AppendsPrefix old new text)

-- the table of a request is known: one feed comes in, one worker reads all, or histories are kept
abbrev pub IsKnown : TableRequest → Type 0
IsKnown table = (map string_bytes table.paths.items ≡ []) ⊎ (table.audit ≡ true) ⊎ (table.workers ≡ 1)

-- what may spoil it: its pages went to files, and of those that the files took and gave two have one SHA-256, where they are known
abbrev pub IsSpoilt : Option Pages → TableRequest → Type 0
IsSpoilt pages table = (option_map string_bytes table.folder ≢ None) × IfSome pages HasCollision

-- the text of a table of these meanings, whose values have these fields, of these feeds where that is known, unless it is spoilt
abbrev pub IsTableBy : {V : Type 0} → Meanings Name V ℤ V → (V → List (List ℕ)) → Option Pages → TableRequest
    → List (Option (List ℕ)) → List ℕ → Type 0
IsTableBy {V} f fields pages table feeds text =
    (pairs : List (Name × V))
    × (IsKnown table → IsTableOf f feeds pairs ⊎ IsSpoilt pages table)
    × (text ≡ table_text fields pairs)

-- the table of these feeds, where that is known, unless it is spoilt
abbrev pub IsAskedFor : {V O : Type 0} → Meanings Name V ℤ O → Option Pages → TableRequest → List (Option (List ℕ)) → List (Name × V) → Type 0
IsAskedFor f pages table feeds pairs = IsKnown table → IsTableOf f feeds pairs ⊎ IsSpoilt pages table

-- pairs of which this holds, and whose text was written so
abbrev pub Writes : {V : Type 0} → (V → List (List ℕ)) → (List (Name × V) → Type 0) → (List ℕ → Type 0) → Type 0
Writes {V} fields holds written = (pairs : List (Name × V)) × holds pairs × written (table_text fields pairs)

-- the text of the table that is asked for
abbrev pub IsTableText : Shown → Option Pages → TableRequest → List (Option (List ℕ)) → List ℕ → Type 0
IsTableText Count pages table feeds text = IsTableBy counts (λ v. decimal v ∷ []) pages table feeds text
IsTableText Sum pages table feeds text = IsTableBy sums (λ v. signed_decimal v ∷ []) pages table feeds text
IsTableText Max pages table feeds text = IsTableBy maxima (λ v. signed_decimal v ∷ []) pages table feeds text
IsTableText Summary pages table feeds text = IsTableBy summaries summary_fields pages table feeds text

-- that text was written whole, and nothing else; or a part of it, from its front
abbrev pub PrintsTable : Option Pages → TableRequest → List (Option (List ℕ)) → Option (List ℕ) → Option (List ℕ) → Type 0
PrintsTable pages table feeds old new =
    (text : List ℕ)
    × IsTableText table.shown pages table feeds text
    × Appends old new text

abbrev pub PrintsTablePart : Option Pages → TableRequest → List (Option (List ℕ)) → Option (List ℕ) → Option (List ℕ) → Type 0
PrintsTablePart pages table feeds old new =
    (text : List ℕ)
    × IsTableText table.shown pages table feeds text
    × AppendsPrefix old new text

-- A refusal that may come once a part of a table was written: the output failed; or, of a table that is spilled, a page of it was not
-- read back, or memory for that was refused, or there were more rows than a number of 64 bits counts.
abbrev pub IsOfPages : Refused → Type 0
IsOfPages NoMemory = ⊤
IsOfPages Worn = ⊤
IsOfPages (Device code page) = code ≡ 3
IsOfPages (Damaged page) = ⊤
IsOfPages other = ⊥

abbrev pub MayBeLate : TableRequest → Refused → Type 0
MayBeLate table e = (e ≡ Unwritable) ⊎ ((table.spill ≡ true) × IsOfPages e)

-- the feeds of a request
abbrev pub feeds_by : (List ℕ → Option (List ℕ)) → TableRequest → Option (List ℕ) → List (Option (List ℕ))
feeds_by bytes table input = feeds_of bytes (map string_bytes table.paths.items) input

-- a report of a run that was made as this request asks
abbrev pub IsReportOf : TableRequest → Option RunReport → Type 0
IsReportOf table told = (report : RunReport) × (told ≡ Some report) × IsPlanOf table report.plan

-- what the program tells of its version
unfoldable pub version_line : List ℕ
version_line = line (codes "fkv_cli 0.1.0")

-- The output of a run of these words, which was done, and its report, where files are known to take and give these pages, and paths to
-- lead to these bytes; help is not told.
abbrev pub IsDone : Option Pages → (List ℕ → Option (List ℕ)) → List Text → Option (List ℕ) → Option (List ℕ) → Option (List ℕ) → Option RunReport → Type 0
IsDone pages bytes words input old new told =
    (AsksReplay words × PrintsAll input old new)
    ⊎ ((table : TableRequest)
    × AsksTable words table
    × PrintsTable pages table (feeds_by bytes table input) old new
    × IsReportOf table told)
    ⊎ (MayAskVersion words × Appends old new version_line)
    ⊎ MayAskHelp words

-- the output of a run of these words, which a fault ended: nothing, or the front of what is asked for
abbrev pub IsStopped : Option Pages → (List ℕ → Option (List ℕ)) → List Text → Option (List ℕ) → Option (List ℕ) → Option (List ℕ) → Type 0
IsStopped pages bytes words input old new =
    (new ≡ old)
    ⊎ (AsksReplay words × PrintsPart input old new)
    ⊎ ((table : TableRequest)
    × AsksTable words table
    × PrintsTablePart pages table (feeds_by bytes table input) old new)
    ⊎ (MayAskVersion words × AppendsPrefix old new version_line)
    ⊎ MayAskHelp words

-- what a run that was done tells: nothing, or where a report is asked for the run's, or its front where it can't be told whole
abbrev pub IsQuiet : List Text → Option RunReport → Option (List ℕ) → Option (List ℕ) → Type 0
IsQuiet words told old new =
    (new ≡ old)
    ⊎ ((table : TableRequest)
    × AsksTable words table
    × (table.stats ≡ true)
    × ((report : RunReport) × (told ≡ Some report) × ((text : List ℕ) × IsTold table.shown table.sized report text × AppendsPrefix old new text)))

-- what a run of these words ends with: status 0 where help is asked for, or where a replay, a table or the version was
-- written whole, and then nothing was told but a report that was asked for; status 1 where nothing was written, or the front
-- of what is asked for; status 2 where the words are mistaken, and then nothing was written
pub record IsEnding (pages : Option Pages) (bytes : List ℕ → Option (List ℕ)) (words : List Text) (input old new told_old told_new : Option (List ℕ))
    (told : Option RunReport) (status : ℕ) : Type 0 where
  pub done : status ≡ 0 → IsDone pages bytes words input old new told
  pub quiet : status ≡ 0 → IsQuiet words told told_old told_new
  pub fault : status ≡ 1 → IsStopped pages bytes words input old new
  pub mistake : status ≡ 2 → MayBeMistaken words × (new ≡ old)
  pub only : (status ≡ 0) ⊎ (status ≡ 1) ⊎ (status ≡ 2)
