use Rattle.fkv_blocks.proofs.CutLemmas.{block_as_read}
use Rattle.fkv_blocks.proofs.SpanLemmas.{met_behind, spans_whole}
use Rattle.fkv_blocks.proofs.laws.spans_make.Goals as goal

pub returns : goal.returns
returns c = record { whole = spans_whole; marked = block_as_read; met = met_behind }
