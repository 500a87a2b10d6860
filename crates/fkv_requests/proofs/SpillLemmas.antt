-- What a command line asks to be spilled.
use Rattle.std.specs.Prelude.{◌&&◌, ◌||◌, is_none}
use Rattle.std.proofs.Common.{◌≡◌, ◌∙◌, List, Bool, Option, Some, None, true, false, sym, subst}
use Rattle.std.proofs.lemmas.Bool.{or_parts}
use Rattle.clap.specs.Words.{Row, Text}
use Rattle.fkv_requests.specs.declared.requests.TableRequest.{TableRequest}
use Rattle.fkv_requests.specs.Requests.{AsksTable, IsTableIn, audit_of, folder_of, spill_of}

unaudited-by : (spill bare audit : Bool) → (spill && (bare || audit)) ≡ false → spill ≡ true → audit ≡ false
unaudited-by spill bare audit none is =
    let not_bad : (bare || audit) ≡ false = subst (λ b. (b && (bare || audit)) ≡ false) is none in
    (or_parts bare audit not_bad).1

unaudited-in : (sub : Option (Text × List Row)) (table : TableRequest) → IsTableIn sub table → table.spill ≡ true → table.audit ≡ false
unaudited-in None table h is = absurd h
unaudited-in (Some p) table (named, paths, spills, memory, sized, (config, folder, workers, merge, spill, audit, stats, progress, whole, feeds)) is =
    audit ∙ unaudited-by (spill_of p.1) (is_none (folder_of p.1)) (audit_of p.1) spills (sym spill ∙ is)

-- of what is to be spilled no histories are kept
pub asked-unaudited : (words : List Text) (table : TableRequest) → AsksTable words table → table.spill ≡ true → table.audit ≡ false
unfolding AsksTable
asked-unaudited words table (none, asks) is = unaudited-in _ table asks is
