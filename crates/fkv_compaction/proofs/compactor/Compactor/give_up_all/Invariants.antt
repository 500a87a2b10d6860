use Rattle.std.proofs.Common.{◌≡◌, ◌≢◌, ◌+◌, ◌<◌, ◌≤◌, ℕ, None}
use Rattle.fkv_partition.specs.Effect.{asked}
use Rattle.fkv_partition.specs.Views.{PartitionView, relocation_at}
use Rattle.fkv_compaction.specs.Compactor.{GivesUpAll, IsWithoutThem}
use Rattle.fkv_compaction.proofs.compactor.Compactor.give_up_all.Given as goal

abbrev pub invariant-loop-context : goal.invariant-loop-context
invariant-loop-context g l = record {
  none : (d : ℕ) → d < l.context → relocation_at l.partition l.self d ≡ None;
  goes : (new : PartitionView g.row.F-Key.Denot g.row.F-Value.Denot g.row.F-Input.Denot) (end : ℕ)
      → GivesUpAll l.self l.partition new l.clock end
      → GivesUpAll l.self l.fn.partition new l.fn.clock end;
  others : (s d : ℕ) → s ≢ l.self → asked l.partition s d ≡ asked l.fn.partition s d;
  without : IsWithoutThem g.F.Key.Ord.cmp l.fn.partition l.partition;
  cleared : l.partition.cleared ≡ l.fn.partition.cleared;
  past : l.partition.moment ≤ l.clock;
  used : l.clock ≤ l.fn.clock + l.context;
}
