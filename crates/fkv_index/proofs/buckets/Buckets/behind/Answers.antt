use Rattle.std.proofs.Common.{ℕ, [], get_or, sym, ap, ◌∙◌}
use Rattle.fkv_index.specs.Storage.{numbered}
use Rattle.fkv_index.proofs.Rows.{block_words, within_rows, block_at, some_of}
use Rattle.fkv_index.proofs.buckets.Buckets.behind.Goals as goal

pub returns-then-number-eq0 : goal.returns-then-number-eq0
returns-then-number-eq0 c =
    let within = within_rows c.self.inside.rows.items (numbered c.self.inside) _ c.args.bucket c.self.view_is c.requires in
    rw (← c.self.view_is) (
    ap (λ (n : ℕ). get_or (numbered c.self.inside) n []) (sym c.if-number-eq0.true)
    ∙ block_words _ _ c.args.bucket c.index.result.now c.self.invariant within c.index.ensures)

pub returns : goal.returns
returns c =
    let within = within_rows c.self.inside.rows.items (numbered c.self.inside) _ c.args.bucket c.self.view_is c.requires in
    let block = block_at _ c.self.inside.blocks.items c.args.bucket c.index.result.now c.index-2.result.now c.self.invariant within c.index.ensures (some_of _ c.if-number-eq0.false) c.index-2.ensures in
    rw (← c.self.view_is) (
    c.deref.ensures.value ∙ sym block
    ∙ block_words _ _ c.args.bucket c.index.result.now c.self.invariant within c.index.ensures)
