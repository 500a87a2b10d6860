use Rattle.std.proofs.Common.{◌≡◌, ◌≢◌, ◌+◌, ◌≤◌, ℕ, false, IsTrue}
use Rattle.fkv_operations.specs.declared.operations.KeyedOp.{KeyedOp}
use Rattle.fkv_partition.specs.Views.{PartitionView}
use Rattle.fkv_partition.specs.Events.{IsPassedOn}
use Rattle.fkv_alone.specs.Stages.{HasCome, IsReady}
use Rattle.fkv_alone.specs.Ending.{IsOn}
use Rattle.fkv_partition.specs.Pending.{OthersPend}
use Rattle.fkv_alone.specs.Bound.{IsNear, loads_of, loads_left, may_load}
use Rattle.fkv_alone.specs.Causes.{CanFailToRead}
use Rattle.fkv_partition.specs.declared.contexts.Progress.TheVariants.{Next}
use Rattle.fkv_alone.proofs.running.drive.Given as goal

abbrev pub invariant-loop-turn : goal.invariant-loop-turn
invariant-loop-turn g l = record {
  comes : (op : KeyedOp g.row.F-Key.Denot g.row.F-Value.Denot g.row.F-Input.Denot) (old : PartitionView g.row.F-Key.Denot g.row.F-Value.Denot g.row.F-Input.Denot) (started : ℕ)
      → IsReady op old l.fn.partition l.slot l.context started
      → HasCome g.R.Receipt.keeps g.R.Receipt.stands g.F.Key.Ord.cmp g.F.Mergeable.parts.joined g.F.Functions.meaning g.F.Functions.code op old l.partition l.slot l.context started l.told
      × (g.P.PageReader.failures l.reader ≡ g.P.PageReader.failures l.fn.reader);
  unread : (op : KeyedOp g.row.F-Key.Denot g.row.F-Value.Denot g.row.F-Input.Denot) (old : PartitionView g.row.F-Key.Denot g.row.F-Value.Denot g.row.F-Input.Denot) (started : ℕ)
      → IsReady op old l.fn.partition l.slot l.context started
      → may_load op ≡ false → l.reader ≡ l.fn.reader;
  loads : IsTrue g.R.Receipt.keeps → (op : KeyedOp g.row.F-Key.Denot g.row.F-Value.Denot g.row.F-Input.Denot) (old : PartitionView g.row.F-Key.Denot g.row.F-Value.Denot g.row.F-Input.Denot) (started n : ℕ)
      → IsReady op old l.fn.partition l.slot l.context started
      → IsNear {O = g.row.F-Output.Denot} {R = g.row.R.Denot} g.F.Functions.code l.fn.partition l.slot l.context Next n
      → g.P.PageReader.reads l.reader + loads_left g.F.Functions.code old.records op l.told ≤ g.P.PageReader.reads l.fn.reader + loads_of g.F.Functions.code old.records op;
  caused : g.P.PageReader.failures l.reader ≢ g.P.PageReader.failures l.fn.reader → CanFailToRead g.R.Receipt.stands g.P.PageReader.can_fail;
  near : (n : ℕ) → IsTrue g.R.Receipt.keeps → IsNear {O = g.row.F-Output.Denot} {R = g.row.R.Denot} g.F.Functions.code l.fn.partition l.slot l.context Next n
      → (m : ℕ) × (l._turn + m ≤ n) × IsNear g.F.Functions.code l.partition l.slot l.context l.told m;
  others : IsTrue g.R.Receipt.keeps → OthersPend g.F.Key.Ord.cmp l.fn.partition l.partition l.slot l.context;
  on : IsOn l.told;
  taken : l.clock ≡ l.fn.clock + l._turn;
  rest : IsPassedOn l.fn.partition l.partition;
  past : l.partition.moment ≤ l.clock;
}
