use Rattle.std.proofs.Common.{◌≡◌, ◌≤◌, ℕ, Some, sym, ap, subst, ◌∙◌}
use Rattle.std.specs.declared.cmp.Ordering.{Ordering}
use Rattle.fkv_regions.specs.declared.offsets.View.{View}
use Rattle.fkv_texts.specs.declared.entries.ChainPosition.{ChainPosition}
use Rattle.fkv_lookups.specs.declared.decisions.LookupResult.{LookupResult}
use Rattle.fkv_lookups.specs.declared.chain_results.ChainResult.{ChainResult}
use Rattle.fkv_lookups.specs.Decisions.{low_of, met_by}
use Rattle.fkv_lookups.specs.Lookups.{newest_above, looked_up}
use Rattle.fkv_lookups.specs.Meeting.{met_from}
use Rattle.fkv_partition.specs.Views.{PartitionView, entry_for, newest_in_memory, met_at, seen_at}
use Rattle.fkv_partition.proofs.partitions.Partition.met.Goals as goal

-- what the parts of a partition say of it
module _ {K V I : Type 0} (cmp : K → K → Ordering) (join : V → V → V) (code : K → ℕ) (inside v : PartitionView K V I) (slot : ℕ) (k : K) (a low : ℕ) (same : inside ≡ v) (leads : entry_for code v k ≡ Some a) (lowest : low ≡ low_of v.records.log.begin (seen_at v slot)) where
  first-of : (first : ChainPosition K V) → first ≡ newest_in_memory cmp code v slot k (entry_for code v k) → first ≡ newest_above cmp code inside.records low k a
  first-of first is =
      is
      ∙ ap (newest_in_memory cmp code v slot k) leads
      ∙ ap (λ n. newest_above cmp code v.records n k a) (sym lowest)
      ∙ ap (λ (u : PartitionView K V I). newest_above cmp code u.records low k a) (sym same)

  met-of : (begin : ℕ) (view : View) (came : ChainResult K V) (r : LookupResult V) → begin ≡ inside.records.log.begin → view ≡ seen_at inside slot → came ≡ looked_up cmp join code inside.records low k a → r ≡ met_by join (Some a) begin view came
      → r ≡ met_at cmp join code v slot k
  met-of begin view came r begins seen reached is =
      is
      ∙ ap (λ b. met_by join (Some a) b view came) (begins ∙ ap (λ (u : PartitionView K V I). u.records.log.begin) same)
      ∙ ap (λ w. met_by join (Some a) v.records.log.begin w came) (seen ∙ ap (λ (u : PartitionView K V I). seen_at u slot) same)
      ∙ ap (met_by join (Some a) v.records.log.begin (seen_at v slot))
      (reached
      ∙ ap (λ (u : PartitionView K V I). looked_up cmp join code u.records low k a) same
      ∙ ap (λ n. looked_up cmp join code v.records n k a) lowest)
      ∙ ap (met_from cmp join code v.records (seen_at v slot) k) (sym leads)

pub returns-in_default : goal.returns-in_default
returns-in_default g c =
    let v = c.args.self.now in
    sym (ap (met_from g.F.Key.Ord.cmp g.F.Mergeable.parts.joined g.F.Functions.code v.records (seen_at v c.args.slot) c.args.key.now) (sym c.requires.entry ∙ c.in_default.is))

pub gather-came-requires-clause-entry : goal.gather-came-requires-clause-entry
gather-came-requires-clause-entry g c = ap (λ u. entry_for g.F.Functions.code u c.args.key.now) c.self.view_is ∙ sym c.requires.entry ∙ c.in-Some.is

pub gather-came-requires-clause-first : goal.gather-came-requires-clause-first
gather-came-requires-clause-first g c =
    first-of g.F.Key.Ord.cmp g.F.Mergeable.parts.joined g.F.Functions.code _ c.args.self.now c.args.slot c.args.key.now c.in-Some.address c.lowest-low.result c.self.view_is (sym c.requires.entry ∙ c.in-Some.is) c.lowest-low.ensures.value c.args.first.now c.requires.first

pub gather-came-requires-clause-in_frames : goal.gather-came-requires-clause-in_frames
gather-came-requires-clause-in_frames g c = subst (λ u. u.records.log.regions.offsets.closed ≤ c.lowest-low.result) (sym c.self.view_is) c.lowest-low.ensures.closed

pub gather-came-requires-clause-begin : goal.gather-came-requires-clause-begin
gather-came-requires-clause-begin g c = subst (λ u. u.records.log.begin ≤ c.lowest-low.result) (sym c.self.view_is) c.lowest-low.ensures.begin

pub returns : goal.returns
returns g c =
    met-of g.F.Key.Ord.cmp g.F.Mergeable.parts.joined g.F.Functions.code _ c.args.self.now c.args.slot c.args.key.now c.in-Some.address c.lowest-low.result c.self.view_is (sym c.requires.entry ∙ c.in-Some.is) c.lowest-low.ensures.value c.begin-begin.result c.view-view.result c.gather-came.result c.met_by.result c.begin-begin.ensures c.view-view.ensures.value c.gather-came.ensures c.met_by.ensures
