use Rattle.std.proofs.Common.{ℕ, ℤ, List, Option, None, Some, ap, ◌∙◌, subst}
use Rattle.std.specs.Prelude.{option_map}
use Rattle.std.proofs.lemmas.Result.{IfOk-weaker}
use Rattle.csv.specs.Reading.{strip_bom}
use Rattle.fkv_functions.specs.declared.names.Name.{Name}
use Rattle.fkv_feed_rows.specs.Feeds.{IsFeed}
use Rattle.fkv_feed_rows.specs.Watching.{AreRowsIn}
use Rattle.fkv_feed_rows.proofs.reading.read_lent.Goals as goal

-- the rows of what is read of known bytes
feed-of : (limit : ℕ) (o : Option (List ℕ)) (rows : List (Name × ℤ)) → AreRowsIn limit (option_map strip_bom o) rows → IsFeed limit o rows
feed-of limit None rows h = tt
feed-of limit (Some bytes) rows h = h

pub returns-clause-ok : goal.returns-clause-ok
returns-clause-ok g c =
    let source = c.from_reader-reader.ensures.source ∙ ap (λ o. option_map strip_bom (g.S.Source.remaining o)) c.new-2.ensures.source in
    IfOk-weaker c.add_rows-told.result _ _
    (λ count h before stands. (let found = h before stands in
    (found.0, feed-of c.args.limit (g.S.Source.remaining c.args.source.now) found.0 (subst (λ o. AreRowsIn c.args.limit o found.0) source found.1), found.2, found.3)))
    c.add_rows-told.ensures.ok
