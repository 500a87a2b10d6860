use Rattle.std.proofs.Common.{◌≡◌, None, refl}
use Rattle.std.specs.BTreeMap.{get}
use Rattle.fkv_store.proofs.ClosingLemmas.{scan}
use Rattle.fkv_store.proofs.unlisted.Unlisted.list_apart.Goals as goal

pub returns-in-Ok-clause-list : goal.returns-in-Ok-clause-list
returns-in-Ok-clause-list g c keeps k =
    let empty : (q : g.row.F-Key.Denot) → get g.F.Key.Ord.cmp c.new-map.result q ≡ None = λ q. rw c.new-map.ensures.empty refl in
    c.in-Ok.ensures.live keeps (λ q own. empty q) k (empty k)

pub returns-clause-refused : goal.returns-clause-refused
returns-clause-refused g c = (c.put_live.new.reader, c.in-Err.ensures.refused)

pub returns-clause-only : goal.returns-clause-only
returns-clause-only g c = scan _ _ _ _ _ _ c.in-Err.ensures.refused
