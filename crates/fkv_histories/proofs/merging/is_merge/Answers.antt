use Rattle.std.proofs.Common.{length, map}
use Rattle.std.proofs.lemmas.List.{length-map}
use Rattle.fkv_histories.specs.Merges.{owner_in}
use Rattle.fkv_histories.proofs.MergeLemmas.{shuffle_of, shuffle_by, merge_of}
use Rattle.fkv_histories.proofs.merging.is_merge.Goals as goal

pub returns-clause-merge : goal.returns-clause-merge
returns-clause-merge g c is =
    merge_of c.args.history.now (map (λ own. own.items) c.args.owns.now)
    (shuffle_of c.args.history.now (map (λ own. own.items) c.args.owns.now) (owner_in c.as_slice.result.now (length c.args.owns.now)) (c.is_shuffle_by.ensures.0 is))

pub returns-clause-exactly : goal.returns-clause-exactly
returns-clause-exactly g c =
    let len = length-map c.args.owns.now (λ own. own.items) in (
      λ is. shuffle_of c.args.history.now (map (λ own. own.items) c.args.owns.now) (owner_in c.as_slice.result.now (length c.args.owns.now)) (c.is_shuffle_by.ensures.0 is),
      λ s. c.is_shuffle_by.ensures.1 (rw (c.as_slice.ensures.value, ← len)
          (shuffle_by c.args.history.now (map (λ own. own.items) c.args.owns.now) c.in-Ok.who.items (rw len c.in-Ok.ensures.ok) s)),
    )
