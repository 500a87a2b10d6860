use Rattle.std.proofs.Common.{◌≡◌, inl, sym, ◌∙◌, ap, subst}
use Rattle.std.proofs.lemmas.Result.{MatchResult-weaker}
use Rattle.fkv_spills.specs.Spilling.{IsGathered}
use Rattle.fkv_spills.proofs.SpillLemmas.{gathered-all}
use Rattle.fkv_spills.proofs.gathering.Gathered.put.Goals as goal
use Rattle.fkv_spills.proofs.gathering.Gathered.put.Goals.{then-is_full+in-Ok, else-is_full}

pub returns-in-Err-clause-refused : goal.returns-in-Err-clause-refused
returns-in-Err-clause-refused g c = c.in-Err.ensures.refused

pub returns-clause-ok : goal.returns-clause-ok
returns-clause-ok g c xs keeps h =
    c.add.ensures.ok xs (elim c.if-is_full.branch [
      | then-is_full+in-Ok w ↦ subst (λ s. IsGathered g.V.Fixed.codec g.R.Receipt.stands s xs) (sym w.self-is)
          (gathered-all g.V.Fixed.codec g.R.Receipt.stands w.write_page.new.self xs w.in-Ok.ensures.none.0 w.in-Ok.ensures.none.1 (w.in-Ok.ensures.ok xs keeps h))
      | else-is_full w ↦ subst (λ s. IsGathered g.V.Fixed.codec g.R.Receipt.stands s xs) (sym w.self-is) h
    ])

pub returns-clause-refused : goal.returns-clause-refused
returns-clause-refused g c =
    let same : g.W.PageWriter.failures c.if-is_full.writer ≡ g.W.PageWriter.failures c.args.writer.now =
    elim c.if-is_full.branch [
      | then-is_full+in-Ok w ↦ ap g.W.PageWriter.failures w.writer-is ∙ w.in-Ok.ensures.steady
      | else-is_full w ↦ ap g.W.PageWriter.failures w.writer-is
    ] in
    MatchResult-weaker c.add.result c.add.ensures.only (λ x t. t) (λ e is. (0, inl (is, same)))
