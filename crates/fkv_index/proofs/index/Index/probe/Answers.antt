use Rattle.fkv_index.specs.Places.{words_of}
use Rattle.fkv_index.proofs.Grown.{all_full, single_grown, probes_grown, same_entries_grown, same_tentative_grown}
use Rattle.fkv_index.proofs.IndexMaps.{index_map}
use Rattle.fkv_index.proofs.index.Index.probe.Goals as goal

pub returns-in_default-grow-clause-full : goal.returns-in_default-grow-clause-full
returns-in_default-grow-clause-full c =
    rw (← c.self.view_is) (all_full (words_of c.self.inside.buckets c.args.bucket) c.in_default.ensures.none)

pub invariant_of-self-2 : goal.invariant_of-self-2
invariant_of-self-2 c = rw c.in-Ok.ensures.ok (single_grown _ c.args.bucket (rw c.self.view_is c.requires) c.self.invariant)

pub returns-clause-probed : goal.returns-clause-probed
returns-clause-probed c =
    rw (c.in-Ok.ensures.ok, ← c.self.view_is) (probes_grown c.self.inside.buckets c.args.bucket c.places-at.result (rw c.self.view_is c.requires) c.in_default.ensures.none c.places-at.ensures)

pub returns-clause-entries : goal.returns-clause-entries
returns-clause-entries c = rw (c.in-Ok.ensures.ok, ← c.self.view_is) (same_entries_grown _ c.args.bucket (rw c.self.view_is c.requires))

pub returns-in-Some-clause-map : goal.returns-in-Some-clause-map
returns-in-Some-clause-map c = rw (← c.self.view_is) (index_map _ c.self.invariant)

pub returns-in_default-grow-clause-map : goal.returns-in_default-grow-clause-map
returns-in_default-grow-clause-map c = rw c.in_default-grow.ensures.unchanged (index_map _ c.self.invariant)

pub returns-clause-map : goal.returns-clause-map
returns-clause-map c = index_map _ (invariant_of-self-2 c)

pub returns-clause-tentative : goal.returns-clause-tentative
returns-clause-tentative c = rw (c.in-Ok.ensures.ok, ← c.self.view_is) (same_tentative_grown _ c.args.bucket (rw c.self.view_is c.requires))
