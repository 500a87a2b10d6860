use Rattle.std.proofs.Common.{ap, ◌∙◌}
use Rattle.fkv_index.specs.Words.{is_tentative, is_final_of}
use Rattle.fkv_index.proofs.WordFacts.{empty_not_tentative, empty_not_final, tentative_not_final}
use Rattle.fkv_index.proofs.Written.{place_of-word, same_entries, single_kept, written_there}
use Rattle.fkv_index.proofs.IndexMaps.{index_map}
use Rattle.fkv_index.proofs.index.Index.cancel.Goals as goal

pub set-requires : goal.set-requires
set-requires c = place_of-word is_tentative _ c.args.place empty_not_tentative (rw c.self.view_is c.requires)

pub invariant_of-self : goal.invariant_of-self
invariant_of-self c =
    let place = place_of-word is_tentative _ c.args.place empty_not_tentative c.requires in
    rw c.set.ensures (single_kept _ c.args.place c.empty-word.result (rw c.self.view_is place) c.self.invariant (λ t. ap (is_final_of t) c.empty-word.ensures ∙ empty_not_final t))

pub returns-clause-entries : goal.returns-clause-entries
returns-clause-entries c =
    let place = place_of-word is_tentative _ c.args.place empty_not_tentative c.requires in
    rw (c.set.ensures, c.self.view_is) (same_entries _ c.args.place c.empty-word.result place (λ t. tentative_not_final t _ c.requires) (λ t. ap (is_final_of t) c.empty-word.ensures ∙ empty_not_final t))

pub returns-clause-map : goal.returns-clause-map
returns-clause-map c = index_map _ (invariant_of-self c)

pub returns-clause-released : goal.returns-clause-released
returns-clause-released c =
    let place = place_of-word is_tentative _ c.args.place empty_not_tentative c.requires in
    rw c.set.ensures (ap is_tentative (written_there _ c.args.place c.empty-word.result (rw c.self.view_is place) ∙ c.empty-word.ensures) ∙ empty_not_tentative)
