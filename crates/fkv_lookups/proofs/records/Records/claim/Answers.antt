use Rattle.std.proofs.Common.{sym, ap, ◌∙◌}
use Rattle.fkv_index.specs.Words.{is_tentative}
use Rattle.fkv_index.proofs.WordFacts.{is_empty-empty, empty_not_tentative}
use Rattle.fkv_lookups.proofs.records.Records.claim.Goals as goal

pub returns-clause-free : goal.returns-clause-free
returns-clause-free g c =
    let was = c.in-Ok.ensures.probed in
    rw (← c.self.view_is) (sym (c.in-Ok.ensures.tentative c.in-Ok.place) ∙ ap is_tentative (is_empty-empty _ was.empty) ∙ empty_not_tentative)
