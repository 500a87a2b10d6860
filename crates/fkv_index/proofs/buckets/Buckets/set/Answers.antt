use Rattle.std.proofs.Common.{arith, refl}
use Rattle.fkv_index.specs.Storage.{numbered}
use Rattle.fkv_index.proofs.Rows.{within_rows, write_row, write_in_block, place_in_vec, bucket_of-place}
use Rattle.fkv_index.proofs.buckets.Buckets.set.Goals as goal

pub index_mut-requires : goal.index_mut-requires
index_mut-requires c =
    let low = place_in_vec _ c.self.inside.blocks.items _ c.args.place.bucket c.args.place.at c.index.result.now c.index_mut-block.result.now c.self.invariant c.self.view_is c.requires c.index.ensures c.if-place-lt7.false c.index_mut-block.ensures.value in
    omega (arith, c.index_mut-block.result.now.ok.0)

pub returns-then-place-lt7 : goal.returns-then-place-lt7
returns-then-place-lt7 c =
    let within = within_rows c.self.inside.rows.items (numbered c.self.inside) _ c.args.place.bucket c.self.view_is (bucket_of-place _ c.args.place.bucket c.args.place.at c.requires) in
    rw (← c.self.view_is) (write_row _ _ c.args.place.bucket c.args.place.at c.index_mut-row.result.now c.args.word c.self.invariant within c.index_mut-row.ensures.value c.if-place-lt7.true)

pub returns-else-place-lt7 : goal.returns-else-place-lt7
returns-else-place-lt7 c =
    write_in_block _ c.self.inside.blocks.items _ c.args.place.bucket c.args.place.at c.index.result.now c.index_mut-block.result.now _ c.args.word c.self.invariant c.self.view_is c.requires c.index.ensures c.if-place-lt7.false c.index_mut-block.ensures.value refl
