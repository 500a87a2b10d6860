use Rattle.std.proofs.Common.{◌≡◌, ◌≤◌, ◌<◌, ◌+◌, ◌^◌, option_map}
use Rattle.fkv_local.specs.Clearing.{IsKeptBy, IsWanted}
use Rattle.fkv_local.specs.Moving.{IsOnward}
use Rattle.fkv_local.specs.Resting.{StaysIdleBut}
use Rattle.fkv_local.proofs.compacting.go_on.Given as goal

-- nothing but the relocation is open, and it waits for what is told; on a device that keeps the live map is that of the beginning; a
-- moment is left; and no failure was counted
abbrev pub invariant-loop-event : goal.invariant-loop-event
invariant-loop-event g l = record {
  stays : StaysIdleBut g.D.Receipt.Receipt.keeps g.F.Key.Ord.cmp l.initial.shard.part.partition l.shard.part.partition l.context;
  onward : IsOnward l.initial.shard.part.partition l.shard.part.partition;
  past : l.shard.part.partition.moment ≤ l.clock;
  later : l.initial.clock ≤ l.clock;
  spare : l.clock + 1 < 2 ^ 64;
  wanted : IsWanted l.shard.part.partition l.context (option_map g.D.Receipt.Receipt.stands l.wanted.receipt);
  kept : IsKeptBy g.D.Receipt.Receipt.stands l.shard.part.partition.records.log.receipts l.kept.is_sure l.kept.page;
  writer : l.shard.part.writer ≡ l.initial.shard.part.writer;
  reads : g.D.Reader.PageReader.failures l.shard.reader ≡ g.D.Reader.PageReader.failures l.initial.shard.reader;
  begin : l.shard.part.partition.records.log.begin ≡ l.initial.shard.part.partition.records.log.begin;
}
