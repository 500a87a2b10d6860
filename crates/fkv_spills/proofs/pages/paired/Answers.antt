use Rattle.std.proofs.Common.{◌≡◌, Some, None, Option, sym, ◌∙◌, ap}
use Rattle.fkv_functions.specs.declared.names.Name.{Name}
use Rattle.fkv_records.specs.declared.records.Record.{Record}
use Rattle.fkv_spills.specs.Spilling.{record_for}
use Rattle.fkv_spills.proofs.pages.paired.Goals as goal

paired-some : {V : Type 0} (entry : Record Name V) (v : V) (x : Name × V) → entry.value ≡ Some v → entry ≡ record_for x → Some (entry.key, v) ≡ Some x
paired-some {V = V} entry v x h e =
    let t : Some v ≡ Some x.1 = sym h ∙ ap (λ (r : Record Name V). r.value) e in
    let u : v ≡ x.1 = cc in
    ap (λ w. Some (entry.key, w)) u ∙ ap (λ (r : Record Name V). Some (r.key, x.1)) e

paired-none : {V : Type 0} (entry : Record Name V) (o : Option (Name × V)) (x : Name × V) → entry.value ≡ None → entry ≡ record_for x → o ≡ Some x
paired-none {V = V} entry o x h e =
    let t : None ≡ Some x.1 = sym h ∙ ap (λ (r : Record Name V). r.value) e in
    absurd (cc)

pub returns-in-Some : goal.returns-in-Some
returns-in-Some g c x e = paired-some c.args.entry c.in-Some.value x c.in-Some.is e

pub returns-in-None : goal.returns-in-None
returns-in-None g c x e = paired-none c.args.entry None x c.in-None.is e
