use Rattle.std.proofs.Common.{◌∙◌, sym, ap, subst, map, string_bytes}
use Rattle.std.proofs.lemmas.Result.{IfOk-weaker}
use Rattle.clap.specs.Words.{App, HasKind, fault_of, is_simple, is_simple_and_free, subcommand_of, subcommand_rows_of}
use Rattle.fkv_requests.specs.Requests.{IsAskedIn}
use Rattle.fkv_requests.proofs.RequestLemmas.{program_simple, program_free, asked_by, asked_by_error}
use Rattle.fkv_requests.proofs.requests.request_of.Goals as goal

pub returns-in-Ok-try_get_matches_from-clause-ok : goal.returns-in-Ok-try_get_matches_from-clause-ok
returns-in-Ok-try_get_matches_from-clause-ok c =
    let words = map string_bytes c.args.words.now in
    let app = c.in-Ok.ensures in
    let none = c.in-Ok-try_get_matches_from.ensures.kinds (ap is_simple_and_free app ∙ program_free) in
    let rows = (c.in-Ok-try_get_matches_from.ensures.matches (ap is_simple app ∙ program_simple)).1 in
    IfOk-weaker c.asked.result (IsAskedIn (subcommand_rows_of c.in-Ok-try_get_matches_from.matches)) _
    (λ r h. asked_by words r (ap (λ (a : App). fault_of a words) (sym app) ∙ none)
    (subst (λ sub. IsAskedIn sub r) (rows ∙ ap (λ (a : App). subcommand_of a words) app) h))
    c.asked.ensures.ok

pub returns-in-Err-clause-ok : goal.returns-in-Err-clause-ok
returns-in-Err-clause-ok c =
    let words = map string_bytes c.args.words.now in
    let app = c.in-Ok.ensures in
    let among = c.in-Err.ensures.kinds (ap is_simple_and_free app ∙ program_free) in
    IfOk-weaker c.unmatched.result _ _
    (λ r h. asked_by_error words c.in-Err.error r (subst (λ (a : App). HasKind (fault_of a words) c.in-Err.error) app among) h)
    c.unmatched.ensures.ok
