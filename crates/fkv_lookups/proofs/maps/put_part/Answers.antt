use Rattle.std.proofs.Common.{sym, ◌∙◌, subst}
use Rattle.std.specs.Prelude.{OnOk}
use Rattle.std.specs.BTreeMap.{get}
use Rattle.fkv_functions.specs.Plain.{Same, with_at}
use Rattle.fkv_lookups.proofs.ScanLemmas.{combined-none}
use Rattle.fkv_lookups.proofs.maps.put_part.Goals as goal

pub returns-in_default-clause-ok : goal.returns-in_default-clause-ok
returns-in_default-clause-ok g c =
    let before = get g.F.Key.Ord.cmp c.args.map.now in
    subst (λ v. OnOk c.put.result (Same (get g.F.Key.Ord.cmp c.put.new.map) (with_at g.F.Key.Ord.cmp before c.args.key v)))
    (c.copied-held.ensures ∙ c.get.ensures.value ∙ sym (combined-none g.F.Mergeable.parts.joined (before c.args.key) c.args.part c.in_default.not-Some))
    c.put.ensures.ok
