use Rattle.std.proofs.Common.{◌≡◌, List}
use Rattle.std.specs.List.{find}
use Rattle.fkv_texts.specs.declared.entries.Entry.{Entry}
use Rattle.fkv_texts.specs.Text.{has_key}
use Rattle.fkv_texts.specs.Chains.{IsChainFrom, leads_to, reached}
use Rattle.fkv_hybrid.proofs.log.Log.first_on_chain.Given as goal

-- what is left of the chain, which comes to what the whole does
abbrev pub invariant-loop-address : goal.invariant-loop-address
invariant-loop-address g l =
    (es : List (Entry g.row.K.Denot g.row.V.Denot)) × (IsChainFrom l.head l.self.text l.address es
    × ((ds : List (Entry g.row.K.Denot g.row.V.Denot)) → IsChainFrom l.head l.self.text l.from ds
    → reached (find (has_key g.K.Ord.cmp l.key) ds) (leads_to l.from ds) ≡ reached (find (has_key g.K.Ord.cmp l.key) es) (leads_to l.address es)))

abbrev pub decreases-loop-address : goal.decreases-loop-address
decreases-loop-address g l = l.address
