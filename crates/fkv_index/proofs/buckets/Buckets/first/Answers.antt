use Rattle.fkv_index.specs.Storage.{numbered}
use Rattle.fkv_index.proofs.Rows.{first_words, within_rows}
use Rattle.fkv_index.proofs.buckets.Buckets.first.Goals as goal

pub returns-clause-value : goal.returns-clause-value
returns-clause-value c =
    let within = within_rows c.self.inside.rows.items (numbered c.self.inside) _ c.args.bucket c.self.view_is c.requires in
    rw (← c.self.view_is) (first_words _ _ c.args.bucket c.index.result.now c.self.invariant within c.index.ensures)
