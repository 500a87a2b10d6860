use Rattle.std.proofs.Common.{◌≡◌, ◌<◌, ℕ, List, map, slice_get, Some}
use Rattle.fkv_histories.specs.Merges.{IsMerge, IsShuffle}
use Rattle.fkv_closing.specs.Lists.{lists_at}
use Rattle.fkv_closing.proofs.merges.are_merged.Given as goal

-- the histories so far are made up by their lists
abbrev pub invariant-loop-place : goal.invariant-loop-place
invariant-loop-place g l =
    (p : ℕ) (history : List _) → p < l.place → slice_get (map (λ part. part.history.items) l.parts) p ≡ Some history
    → IsMerge history (lists_at (map (λ of. map (λ own. own.items) of.items) l.all) p)
    × IsShuffle history (lists_at (map (λ of. map (λ own. own.items) of.items) l.all) p)
