use Rattle.std.proofs.Common.{◌++◌, ◌-◌, List, map}
use Rattle.fkv_blocks.specs.Orders.{IsOrder}
use Rattle.fkv_blocks.specs.declared.orders.Taken.{Taken}
use Rattle.fkv_blocks.proofs.orders.order_of.Given as goal

-- an order of what is left, behind what was taken, is one of all; and where there is an order of all, there is one of what is left
abbrev pub invariant-loop-at : goal.invariant-loop-at
invariant-loop-at l = record {
  keeps : (rest : List Taken) → IsOrder l.at l.end (map (λ list. list.items) l.lists.items) rest
      → IsOrder 0 l.end (map (λ list. list.items) l.initial.lists.items) (l.order.items ++ rest);
  leaves : (order : List Taken) → IsOrder 0 l.end (map (λ list. list.items) l.initial.lists.items) order
      → (rest : List Taken) × IsOrder l.at l.end (map (λ list. list.items) l.lists.items) rest;
}

abbrev pub decreases-loop-at : goal.decreases-loop-at
decreases-loop-at l = l.end - l.at
