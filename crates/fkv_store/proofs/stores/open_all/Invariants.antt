use Rattle.std.proofs.Common.{◌≡◌, length}
use Rattle.fkv_store.proofs.stores.open_all.Given as goal

abbrev pub invariant-loop-number : goal.invariant-loop-number
invariant-loop-number g l = record {
  writers : length l.writers.items ≡ l.number;
  locks : length l.locks.items ≡ l.number;
  moves : length l.moves.items ≡ l.number;
  steady : g.D.Disk.failures l.device ≡ g.D.Disk.failures l.initial.device;
}
