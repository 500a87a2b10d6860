use Rattle.std.proofs.Common.{◌≡◌, ◌<◌, ℕ, ℤ, List, [], length, map}
use Rattle.std.specs.Prelude.{slice_index_or}
use Rattle.fkv_functions.specs.declared.names.Name.{Name}
use Rattle.fkv_workers.specs.Works.{AreSplit}
use Rattle.fkv_workers.proofs.working.Rows.make_all.Given as goal

abbrev pub invariant-loop-partition : goal.invariant-loop-partition
invariant-loop-partition g l = record {
  split : (rows : List (Name × ℤ))
      → AreSplit g.H.Recorder.keeps g.F.Functions.code l.initial.self.mode l.initial.self.pass (map (λ rows. rows.items) l.initial.self.waiting.items) rows
      → AreSplit g.H.Recorder.keeps g.F.Functions.code l.initial.self.mode l.self.pass (map (λ rows. rows.items) l.self.waiting.items) rows;
  empty : (p : ℕ) → p < l.partition → slice_index_or (map (λ rows. rows.items) l.self.waiting.items) p [] ≡ [];
  mode : l.self.mode ≡ l.initial.self.mode;
  sized : length l.self.waiting.items ≡ length l.initial.self.waiting.items;
}
