use Rattle.std.proofs.Common.{◌≡◌, ◌++◌, take, drop, map}
use Rattle.fkv_index.specs.Words.{swept}
use Rattle.fkv_index.proofs.buckets.sweep_blocks.Given as goal

abbrev pub invariant-loop-at : goal.invariant-loop-at
invariant-loop-at l =
    map (λ block. block.items) l.blocks.items
    ≡ map (map (swept l.begin)) (take l.at (map (λ block. block.items) l.initial.blocks.items)) ++ drop l.at (map (λ block. block.items) l.initial.blocks.items)
