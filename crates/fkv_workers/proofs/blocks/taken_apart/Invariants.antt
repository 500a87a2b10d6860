use Rattle.std.proofs.Common.{◌≡◌, ◌⊎◌, None, map}
use Rattle.std.specs.Prelude.{IfSome}
use Rattle.std.specs.List.{All}
use Rattle.fkv_blocks.specs.Shares.{IsStop, WereRead}
use Rattle.fkv_feeds.specs.Tables.{most_rows}
use Rattle.fkv_store.specs.Stores.{IsTold}
use Rattle.fkv_workers.proofs.blocks.taken_apart.Given as goal

abbrev pub invariant-loop-one : goal.invariant-loop-one
invariant-loop-one g l = record {
  passes : l.passes.items ≡ map (λ w. w.pass) l.yielded;
  hands : map (λ hand. hand.items) l.hands.items ≡ map (λ w. w.had.tickets.items) l.yielded;
  read : All (WereRead g.B.Origin.feeds) (map (λ hand. hand.items) l.hands.items);
  none : l.first ≡ None → All (λ fault. fault ≡ None) (map (λ w. w.fault) l.yielded);
  first : IfSome l.first (λ stop. IsTold stop.refused ⊎ IsStop g.B.Origin.feeds most_rows stop);
}
