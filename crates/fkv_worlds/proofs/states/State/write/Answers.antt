use Rattle.std.proofs.Common.{sym, ◌∙◌}
use Rattle.fkv_lives.specs.declared.steps.Step.TheVariants.{Write}
use Rattle.fkv_worlds.proofs.StateLemmas.{below-by}
use Rattle.fkv_worlds.proofs.ActsLemmas.{acts-untimely, acts-nowhere, acts-idle, asked-seen}
use Rattle.fkv_worlds.proofs.PagingLemmas.{flush_slot-there, flush_slot-idle, flush_slot-busy}
use Rattle.fkv_worlds.proofs.states.State.write.Goals as goal

pub returns-then-is_none : goal.returns-then-is_none
returns-then-is_none g c =
    let there = below-by (c.len.ensures ∙ c.self.inside.partitions.ok.0) c.if-partition-len.false in
    let low = below-by (sym c.self.invariant.tables.jobs) there in
    record { effect = acts-idle c.self.view_is c.args.partition c.args.access there (flush_slot-idle c.self.inside.flush_slots.items c.args.partition c.index.result.now low c.index.ensures c.if-is_none.ensures) }

pub write_at-requires-clause-asked : goal.write_at-requires-clause-asked
write_at-requires-clause-asked g c =
    let there = below-by (c.len.ensures ∙ c.self.inside.partitions.ok.0) c.if-partition-len.false in
    let low = below-by (sym c.self.invariant.tables.jobs) there in
    asked-seen c.self.view_is (Write c.args.partition c.args.access) (flush_slot-busy c.self.inside.flush_slots.items c.args.partition c.index.result.now low c.index.ensures c.if-is_none.ensures)

pub returns-in-Err : goal.returns-in-Err
returns-in-Err g c =
    let there = below-by (c.len.ensures ∙ c.self.inside.partitions.ok.0) c.if-partition-len.false in
    let low = below-by (sym c.self.invariant.tables.jobs) there in
    record { effect = acts-untimely _ _ g.F.Key.Ord.cmp g.F.Mergeable.parts.joined g.F.Functions.meaning g.F.Functions.code c.args.self.now _ c.in-Err.refused (asked-seen c.self.view_is (Write c.args.partition c.args.access) (flush_slot-busy c.self.inside.flush_slots.items c.args.partition c.index.result.now low c.index.ensures c.if-is_none.ensures)) c.in-Err.ensures.refused }

pub returns-then-partition-len : goal.returns-then-partition-len
returns-then-partition-len g c = record { effect = acts-nowhere c.self.view_is (c.len.ensures ∙ c.self.inside.partitions.ok.0) c.if-partition-len.true }

pub index-requires : goal.index-requires
index-requires g c =
    let there = below-by (c.len.ensures ∙ c.self.inside.partitions.ok.0) c.if-partition-len.false in
    let low = below-by (sym c.self.invariant.tables.jobs) there in
    below-by (sym c.self.inside.flush_slots.ok.0) (flush_slot-there c.self.inside.flush_slots.items c.args.partition low)
