use Rattle.fkv_index.proofs.Emptied.{single_swept, sweeps, sweeps_entries, same_tentative}
use Rattle.fkv_index.proofs.IndexMaps.{index_map}
use Rattle.fkv_index.proofs.index.Index.sweep.Goals as goal

pub invariant_of-self : goal.invariant_of-self
invariant_of-self c = rw c.sweep.ensures (single_swept c.args.begin _ c.self.invariant)

pub returns-clause-words : goal.returns-clause-words
returns-clause-words c = rw (c.sweep.ensures, c.self.view_is) (sweeps c.args.begin _)

pub returns-clause-entries : goal.returns-clause-entries
returns-clause-entries c = rw (c.sweep.ensures, ← c.self.view_is) (sweeps_entries c.args.begin _ c.self.invariant)

pub returns-clause-map : goal.returns-clause-map
returns-clause-map c = index_map _ (invariant_of-self c)

pub returns-clause-tentative : goal.returns-clause-tentative
returns-clause-tentative c = rw (c.sweep.ensures, ← c.self.view_is) (same_tentative c.args.begin _)
