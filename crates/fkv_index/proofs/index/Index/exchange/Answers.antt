use Rattle.std.proofs.Common.{sym, ap, ◌∙◌}
use Rattle.fkv_index.specs.Words.{is_final, tag_of, is_tentative}
use Rattle.fkv_index.proofs.Written.{single_exchanged, sets_exchanged, same_tentative}
use Rattle.fkv_index.proofs.WordFacts.{same_word, final_not_tentative}
use Rattle.fkv_index.proofs.IndexMaps.{index_map}
use Rattle.fkv_index.proofs.index.Index.exchange.Goals as goal

pub invariant_of-self : goal.invariant_of-self
invariant_of-self c =
    let same = sym c.word.ensures ∙ same_word c.word.result c.args.expected c.if-ne.ensures in
    rw c.set.ensures (single_exchanged _ c.args.place c.args.new (rw c.self.view_is c.requires.place) c.self.invariant (ap is_final same ∙ c.requires.expected) (c.requires.tag ∙ sym (ap tag_of same)))

pub returns-clause-entry : goal.returns-clause-entry
returns-clause-entry c =
    let same = sym c.word.ensures ∙ same_word c.word.result c.args.expected c.if-ne.ensures in
    rw (c.set.ensures, ← c.self.view_is) (sets_exchanged _ c.args.place c.args.new (rw c.self.view_is c.requires.place) c.self.invariant (ap is_final same ∙ c.requires.expected) c.requires.new (c.requires.tag ∙ sym (ap tag_of same)))

pub returns-then-ne-clause-map : goal.returns-then-ne-clause-map
returns-then-ne-clause-map c = rw (← c.self.view_is) (index_map _ c.self.invariant)

pub returns-clause-map : goal.returns-clause-map
returns-clause-map c = index_map _ (invariant_of-self c)

pub returns-clause-tentative : goal.returns-clause-tentative
returns-clause-tentative c =
    let same = sym c.word.ensures ∙ same_word c.word.result c.args.expected c.if-ne.ensures in
    rw (c.set.ensures, ← c.self.view_is) (same_tentative _ c.args.place c.args.new (rw c.self.view_is c.requires.place)
    (ap is_tentative same ∙ final_not_tentative c.args.expected c.requires.expected) (final_not_tentative c.args.new c.requires.new))
