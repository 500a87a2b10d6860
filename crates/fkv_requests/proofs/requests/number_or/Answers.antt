use Rattle.std.proofs.Common.{◌≡◌, ◌∙◌, ap, sym, true}
use Rattle.clap.specs.Words.{found_of, rows_of}
use Rattle.clap.proofs.WalkLemmas.{first_value-rows}
use Rattle.fkv_requests.specs.Requests.{is_given, number_of, source_of}
use Rattle.fkv_requests.proofs.requests.number_or.Goals as goal

pub returns-then-is_given : goal.returns-then-is_given
returns-then-is_given c =
    let found = found_of c.args.options.now in
    let given : is_given (source_of c.args.id.now (rows_of found)) ≡ true = sym c.is_given.ensures ∙ c.if-is_given.true in
    rw given (c.number_by.ensures ∙ ap number_of (first_value-rows found c.args.id.now))
