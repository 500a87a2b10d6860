use Rattle.std.proofs.Common.{◌≡◌, ◌<◌, ◌≤◌, ℕ, length, get_or}
use Rattle.fkv_blocks.specs.Left.{EndsAt, text_at}
use Rattle.fkv_blocks.proofs.whole.ReadFeeds.ends.Given as goal

-- those of the feeds so far
abbrev pub invariant-loop-place : goal.invariant-loop-place
invariant-loop-place g l = record {
  within : l.place ≤ l.many;
  count : length l.ends.items ≡ l.place;
  each : (f : ℕ) → f < l.place → EndsAt (text_at g.B.Origin.feeds f) (get_or l.ends.items f 0);
}
