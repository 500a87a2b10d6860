-- Histories that are made up by lists, and by what passes keep.
use Rattle.std.proofs.Common.{◌≡◌, ◌<◌, ℕ, List, length, subst, sym, arith}
use Rattle.std.proofs.lemmas.Option.{slice_get_within}
use Rattle.fkv_histories.specs.declared.entries.Entry.{Entry}
use Rattle.fkv_histories.specs.Merges.{IsMerge, IsShuffle}
use Rattle.fkv_closing.specs.Lists.{lists_of, lists_at, AreByPartition}
use Rattle.fkv_closing.specs.Closing.{AreMerged, IsUnmerged}

module _ {K V I O : Type 0} (histories : List (List (Entry K V I O))) (count : ℕ) (all owns : List (List (List (Entry K V I O)))) (by : AreByPartition count all owns) (long : length histories ≡ count) where
  pub merged_by : AreMerged histories (lists_at all) → AreMerged histories (lists_of owns)
  merged_by merged p history at =
      let lt : p < count = (let low = slice_get_within histories p history at in omega (arith, low, long)) in
      let m = merged p history at in
      let same = by.each p lt in
      (subst (IsMerge history) same m.0, subst (IsShuffle history) same m.1)

  pub unmerged_by : IsUnmerged histories (lists_at all) → IsUnmerged histories (lists_of owns)
  unmerged_by un =
      let lt : un.partition < count = (let low = slice_get_within histories un.partition un.history un.here in omega (arith, low, long)) in
      record {
        partition = un.partition;
        history = un.history;
        here = un.here;
        unlike = λ s. un.unlike (subst (IsShuffle un.history) (sym (by.each un.partition lt)) s);
      }
