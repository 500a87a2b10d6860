use Rattle.std.proofs.Common.{◌^◌, List, ap, ◌∙◌}
use Rattle.fkv_index.specs.declared.words.Word.{Word}
use Rattle.fkv_index.specs.Entries.{entry_at}
use Rattle.fkv_index.proofs.Grown.{single_new, entry_at-new, none_tentative}
use Rattle.fkv_index.proofs.IndexMaps.{index_map}
use Rattle.fkv_index.proofs.index.Index.new.Goals as goal

pub invariant_of-result : goal.invariant_of-result
invariant_of-result c = rw c.in-Ok.ensures (single_new (2 ^ c.args.bits) 7)

pub returns-clause-entries : goal.returns-clause-entries
returns-clause-entries c = λ b t. ap (λ (index : List (List Word)). entry_at index b t) c.in-Ok.ensures ∙ entry_at-new (2 ^ c.args.bits) 7 b t

pub returns-clause-map : goal.returns-clause-map
returns-clause-map c = index_map _ (invariant_of-result c)

pub returns-clause-tentative : goal.returns-clause-tentative
returns-clause-tentative c = rw c.in-Ok.ensures (none_tentative (2 ^ c.args.bits) 7)
