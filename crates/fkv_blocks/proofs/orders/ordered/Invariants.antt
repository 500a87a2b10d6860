use Rattle.std.proofs.Common.{◌≡◌, ◌<◌, ◌≤◌, ℕ, [], length, map, get_or}
use Rattle.fkv_blocks.specs.Orders.{IsOrder, spans_in}
use Rattle.fkv_blocks.proofs.orders.ordered.Given as goal

-- the feeds so far have an order
abbrev pub invariant-loop-feed : goal.invariant-loop-feed
invariant-loop-feed l = record {
  within : l.feed ≤ length l.ends;
  count : length l.orders.items ≡ l.feed;
  each : (feed : ℕ) → feed < l.feed
      → IsOrder 0 (get_or l.ends feed 0) (map (spans_in feed) (map (λ hand. hand.items) l.hands)) (get_or (map (λ order. order.items) l.orders.items) feed []);
}
