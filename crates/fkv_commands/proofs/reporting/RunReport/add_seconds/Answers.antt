use Rattle.std.proofs.Common.{rules, ◌≡◌, ◌∷◌, [], ◌/◌, ◌%◌, Some}
use Rattle.std.specs.Fmt.{decimal}
use Rattle.fkv_commands.proofs.TellingLemmas.{joined}
use Rattle.fkv_commands.proofs.reporting.RunReport.add_seconds.Goals as goal

pub returns-in-Ok-clause-ok : goal.returns-in-Ok-clause-ok
returns-in-Ok-clause-ok c =
    let millis = c.in-Some.millis in
    let is : c.args.self.now.millis ≡ Some millis = search rules in
    let one = joined (decimal (millis / 1000)) (46 ∷ []) (decimal (millis % 1000 / 100)) (decimal (millis / 10 % 10)) (decimal (millis % 10)) (10 ∷ []) in
    rw (is, one) c.in-Ok.ensures.bytes
