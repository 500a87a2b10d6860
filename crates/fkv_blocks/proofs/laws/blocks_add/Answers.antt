use Rattle.fkv_blocks.proofs.CutLemmas.{block_more}
use Rattle.fkv_blocks.proofs.laws.blocks_add.Goals as goal

pub returns : goal.returns
returns c = block_more
