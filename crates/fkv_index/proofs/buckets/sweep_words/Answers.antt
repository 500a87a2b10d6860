use Rattle.std.proofs.Common.{arith}
use Rattle.std.proofs.lemmas.List.{take_all, drop_all}
use Rattle.std.proofs.lemmas.List.Edits.{map_over_more}
use Rattle.std.proofs.lemmas.Grind.{common_steps}
use Rattle.fkv_index.specs.Words.{swept}
use Rattle.fkv_index.proofs.buckets.sweep_words.Goals as goal

pub loop-at-preserved : goal.loop-at-preserved
loop-at-preserved c = grind (arith, common_steps, map_over_more (swept c.args.begin))

pub returns : goal.returns
returns c = grind (arith, common_steps, take_all, drop_all)
