use Rattle.fkv_lookups.proofs.TracedLemmas.{traced-confirm, changes-by}
use Rattle.fkv_lookups.proofs.records.Records.confirm.Goals as goal

pub invariant_of-self : goal.invariant_of-self
invariant_of-self g c =
    let made = c.confirm.ensures in
    traced-confirm _ c.confirm.new.self c.args.place c.confirm.result made.confirmed made.entry made.none made.emptied made.entries made.map c.self.invariant

pub returns-clause-entries : goal.returns-clause-entries
returns-clause-entries g c = rw (← c.self.view_is) c.confirm.ensures.entries

pub returns-clause-changes : goal.returns-clause-changes
returns-clause-changes g c = rw (← c.self.view_is) (changes-by c.confirm.result c.args.place _ _ _ c.confirm.ensures.confirmed c.confirm.ensures.emptied)

pub returns-clause-alone : goal.returns-clause-alone
returns-clause-alone g c = rw (← c.self.view_is) c.confirm.ensures.alone
