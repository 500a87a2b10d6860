use Rattle.std.proofs.Common.{◌≡◌, ◌<◌, ◌≤◌, ℕ, IsTrue, Some, length, slice_get}
use Rattle.fkv_functions.specs.Plain.{Same}
use Rattle.fkv_partition.specs.Views.{PartitionView}
use Rattle.fkv_local.specs.Clearing.{IsAllCut, AnyIsCut, IsGivenBack}
use Rattle.fkv_local.specs.Refusing.{FailedAsBefore, StaysAt}
use Rattle.fkv_local.specs.Storing.{SameTerms, plain}
use Rattle.fkv_local.proofs.stores.LocalStore.compact.Given as goal

-- on a device that keeps the map is that of the beginning; the logs so far are compacted, and those behind are as they were
abbrev pub invariant-loop-home : goal.invariant-loop-home
invariant-loop-home g l = record {
  stays : IsTrue g.D.Receipt.Receipt.keeps → Same (plain g.F.Key.Ord.cmp g.F.Functions.code l.self) (plain g.F.Key.Ord.cmp g.F.Functions.code l.initial.self);
  sized : length l.self.parts ≡ length l.initial.self.parts;
  terms : SameTerms l.initial.self l.self;
  cut : AnyIsCut l.initial.self l.self l.has_cut;
  given_back : (p : ℕ) (v w : PartitionView g.row.F-Key.Denot g.row.F-Value.Denot g.row.F-Input.Denot) → p < l.home → slice_get l.initial.self.parts p ≡ Some v → slice_get l.self.parts p ≡ Some w → IsGivenBack v w;
  whole : (p : ℕ) (v : PartitionView g.row.F-Key.Denot g.row.F-Value.Denot g.row.F-Input.Denot) → p < l.home → slice_get l.self.parts p ≡ Some v → IsAllCut v;
  steady : (p : ℕ) → FailedAsBefore g.D.Writer.PageWriter.failures g.D.Reader.PageReader.failures l.initial.self l.self p;
  behind : (p : ℕ) → l.home ≤ p → StaysAt l.initial.self l.self p;
}
