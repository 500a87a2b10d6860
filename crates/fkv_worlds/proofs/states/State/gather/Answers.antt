use Rattle.std.proofs.Common.{◌≡◌, ◌≢◌, false, cond, None, nat_lt, length, slice_get, Some, refl, sym, ap, ◌∙◌, subst, arith}
use Rattle.std.proofs.lemmas.Bool.Decides.{nat_tests}
use Rattle.std.specs.BTreeMap.{get, is_at}
use Rattle.std.specs.Map.{lookup}
use Rattle.fkv_partition.specs.Views.{partition_of}
use Rattle.fkv_partition.specs.Unions.{union_of}
use Rattle.fkv_partition.proofs.UnionLemmas.{live-more, live-all, bare_before}
use Rattle.fkv_functions.specs.Plain.{Same}
use Rattle.fkv_device.specs.declared.memory.MemoryReceipt.{MemoryReceipt}
use Rattle.fkv_worlds.specs.States.{StateView}
use Rattle.fkv_worlds.proofs.StateLemmas.{at-index}
use Rattle.fkv_worlds.proofs.ReportLemmas.{memory-only}
use Rattle.fkv_worlds.proofs.states.State.gather.Goals as goal

pub loop-partition-init : goal.loop-partition-init
loop-partition-init g c = λ q. (let t : nat_lt (partition_of (length c.args.self.now.partitions) (g.F.Functions.code q)) 0 ≡ false = grind (arith, nat_tests) in rw t (ap (lookup (is_at (g.F.Key.Ord.cmp q))) c.requires))

pub loop-partition-preserved : goal.loop-partition-preserved
loop-partition-preserved g c =
    let i = c.loop-partition.partition-index in
    let views = c.self.inside.partitions.items in
    let x = c.partition-item.result in
    let m = get g.F.Key.Ord.cmp c.loop-partition.map in
    let new = get g.F.Key.Ord.cmp c.put_live.new.map in
    let here : slice_get c.self.inside.partitions.items i ≡ Some c.partition-item.result =
    ap (λ xs. slice_get xs i) (sym c.deref-partition-items.ensures.value)
    ∙ at-index c.deref-partition-items.result.now i c.partition-item.result c.loop-partition-test.true c.partition-item.is in
    let numbered = c.self.invariant.world.housed.numbered i x here in
    let counted = c.self.invariant.world.housed.counted i x here in
    let so_far = subst (λ (v : StateView g.row.F-Key.Denot g.row.F-Value.Denot g.row.F-Input.Denot g.row.F-Output.Denot MemoryReceipt). Same m (λ q. cond (nat_lt (partition_of (length v.partitions) (g.F.Functions.code q)) i) (union_of g.F.Key.Ord.cmp g.F.Functions.code v.partitions q) None)) (sym c.self.view_is) c.loop-partition.invariant in
    let bare = bare_before g.F.Key.Ord.cmp g.F.Functions.code views i x m numbered counted so_far in
    rw (← c.self.view_is) (λ q. live-more g.F.Key.Ord.cmp g.F.Functions.code views i x m new here
    (c.in-Ok.ensures.live refl bare)
    (subst (λ n. (q : g.row.F-Key.Denot) → partition_of n (g.F.Functions.code q) ≢ i → new q ≡ m q) counted
    (subst (λ p. (q : g.row.F-Key.Denot) → partition_of x.count (g.F.Functions.code q) ≢ p → new q ≡ m q) numbered
    (c.in-Ok.ensures.others refl bare)))
    so_far q)

pub returns-clause-ok : goal.returns-clause-ok
returns-clause-ok g c =
    let views = c.self.inside.partitions.items in
    let m = get g.F.Key.Ord.cmp c.loop-partition.map in
    let end : c.loop-partition.partition-index ≡ length views =
    (let v = ap length c.deref-partition-items.ensures.value in let t = c.loop-partition-test.false in let u = c.loop-partition.auto in omega arith) in
    let so_far = subst (λ (v : StateView g.row.F-Key.Denot g.row.F-Value.Denot g.row.F-Input.Denot g.row.F-Output.Denot MemoryReceipt). Same m (λ q. cond (nat_lt (partition_of (length v.partitions) (g.F.Functions.code q)) c.loop-partition.partition-index) (union_of g.F.Key.Ord.cmp g.F.Functions.code v.partitions q) None)) (sym c.self.view_is) c.loop-partition.invariant in
    rw (← c.self.view_is) (live-all g.F.Key.Ord.cmp g.F.Functions.code views m c.self.invariant.world.housed.some
    (subst (λ n. Same m (λ q. cond (nat_lt (partition_of (length views) (g.F.Functions.code q)) n) (union_of g.F.Key.Ord.cmp g.F.Functions.code views q) None)) end so_far))

-- a device in memory reads into as many bytes as the page has
pub returns-in-Err-clause-only : goal.returns-in-Err-clause-only
returns-in-Err-clause-only g c =
    memory-only _ _ _ _ (λ page f. f.fails (ap (λ n. n) (sym f.long))) _ _ _ _ _ c.in-Err.ensures.refused (c.in-Err.ensures.caused refl)
