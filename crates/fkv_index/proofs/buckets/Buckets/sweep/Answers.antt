use Rattle.std.proofs.Common.{map, ap, ◌∙◌}
use Rattle.fkv_index.specs.Words.{swept}
use Rattle.fkv_index.specs.Storage.{numbered}
use Rattle.fkv_index.proofs.Sweeps.{apart_swept, swept_words}
use Rattle.fkv_index.proofs.buckets.Buckets.sweep.Goals as goal

pub invariant_of-self : goal.invariant_of-self
invariant_of-self c =
    rw (c.sweep_rows.ensures, c.sweep_blocks.ensures) (apart_swept c.args.begin c.self.inside.rows.items (numbered c.self.inside) c.self.invariant)

pub returns : goal.returns
returns c =
    rw (c.sweep_rows.ensures, c.sweep_blocks.ensures) (
    swept_words c.args.begin (numbered c.self.inside) c.self.inside.rows.items ∙ ap (map (map (swept c.args.begin))) c.self.view_is)
