use Rattle.std.proofs.Common.{◌≡◌, ◌≤◌, ◌+◌}
use Rattle.fkv_local.specs.Clearing.{IsKeptBy}
use Rattle.fkv_local.specs.Moving.{IsOnward}
use Rattle.fkv_local.specs.Resting.{StaysIdle}
use Rattle.fkv_local.proofs.compacting.clear.Given as goal

-- nothing is open, on a device that keeps the live map is that of the beginning, each record so far took a moment, and no failure was
-- counted
abbrev pub invariant-loop-record : goal.invariant-loop-record
invariant-loop-record g l = record {
  stays : StaysIdle g.D.Receipt.Receipt.keeps g.F.Key.Ord.cmp l.initial.shard.part.partition l.shard.part.partition;
  onward : IsOnward l.initial.shard.part.partition l.shard.part.partition;
  past : l.shard.part.partition.moment ≤ l.clock;
  later : l.initial.clock + l._record ≤ l.clock;
  kept : IsKeptBy g.D.Receipt.Receipt.stands l.shard.part.partition.records.log.receipts l.kept.is_sure l.kept.page;
  writes : g.D.Writer.PageWriter.failures l.shard.part.writer ≡ g.D.Writer.PageWriter.failures l.initial.shard.part.writer;
  reads : g.D.Reader.PageReader.failures l.shard.reader ≡ g.D.Reader.PageReader.failures l.initial.shard.reader;
  numbered : g.D.Writer.PageWriter.next l.shard.part.writer ≤ l.clock;
  begin : l.shard.part.partition.records.log.begin ≡ l.initial.shard.part.partition.records.log.begin;
}
