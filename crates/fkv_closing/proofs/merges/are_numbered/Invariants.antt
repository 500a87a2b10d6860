use Rattle.std.proofs.Common.{◌≡◌, ◌<◌, ℕ, length, map, slice_get, Some}
use Rattle.fkv_closing.proofs.merges.are_numbered.Given as goal

-- the partitions so far stand in their places
abbrev pub invariant-loop-place : goal.invariant-loop-place
invariant-loop-place g l =
    (p : ℕ) (v : _) → p < l.place → slice_get (map (λ part. part.partition) l.parts) p ≡ Some v
    → (v.number ≡ p) × (v.count ≡ length (map (λ part. part.partition) l.parts))
