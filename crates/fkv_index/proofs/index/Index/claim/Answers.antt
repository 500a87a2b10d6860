use Rattle.fkv_index.proofs.WordFacts.{empty_word_not_final, tentative_not_final}
use Rattle.fkv_index.proofs.Written.{same_entries, single_kept}
use Rattle.fkv_index.proofs.IndexMaps.{index_map}
use Rattle.fkv_index.proofs.index.Index.claim.Goals as goal

pub invariant_of-self : goal.invariant_of-self
invariant_of-self c =
    rw c.set.ensures (single_kept _ c.args.place c.claim.result (rw c.self.view_is c.requires.place) c.self.invariant (λ t. tentative_not_final t c.claim.result c.claim.ensures.is))

pub returns-clause-entries : goal.returns-clause-entries
returns-clause-entries c =
    rw (c.set.ensures, c.self.view_is) (same_entries _ c.args.place c.claim.result c.requires.place (λ t. empty_word_not_final t _ c.requires.empty) (λ t. tentative_not_final t c.claim.result c.claim.ensures.is))

pub returns-clause-map : goal.returns-clause-map
returns-clause-map c = index_map _ (invariant_of-self c)
