use Rattle.std.proofs.Common.{◌≡◌, IsTrue, Ok, Err, refl, sym, ap, subst, ◌∙◌}
use Rattle.std.specs.Prelude.{IfSome}
use Rattle.fkv_functions.specs.declared.refusals.Refused.TheVariants.{Damaged}
use Rattle.fkv_records.specs.Places.{page_at}
use Rattle.fkv_texts.specs.declared.entries.Entry.{Entry}
use Rattle.fkv_texts.specs.Text.{entry_at}
use Rattle.fkv_hybrid.specs.Loads.{IsHeldBy}
use Rattle.fkv_hybrid.specs.Spelled.{IsEntryIn}
use Rattle.fkv_partition.specs.Reading.{LoadsOn, HasPage}
use Rattle.fkv_partition.proofs.ApartLemmas.{err-ok, has-come}
use Rattle.fkv_partition.proofs.ReadLemmas.{place-begun, place-read, place-undamaged}
use Rattle.fkv_partition.proofs.DamageLemmas.{checks-not}
use Rattle.fkv_partition.proofs.partitions.Partition.read_place.Goals as goal

pub check_liveness-requires-clause-begun : goal.check_liveness-requires-clause-begun
check_liveness-requires-clause-begun g c =
    let v = c.args.self.now in
    let x = c.args.relocation.now in
    let a = c.requires.has.awaits in
    let p = c.args.loaded.now in
    let sound = c.facts.ensures.sound in
    let s = c.facts.ensures.compacting in
    let at = c.requires.reads in
    place-begun g.F.Key.Ord.cmp g.F.Mergeable.parts.joined g.F.Functions.code v sound s c.args.slot c.args.context x v.records.log.begin at refl a.here

pub check_liveness-requires-clause-is : goal.check_liveness-requires-clause-is
check_liveness-requires-clause-is g c =
    let v = c.args.self.now in
    let x = c.args.relocation.now in
    let a = c.requires.has.awaits in
    let p = c.args.loaded.now in
    let sound = c.facts.ensures.sound in
    let s = c.facts.ensures.compacting in
    let at = c.requires.reads in
    let kept = (subst (λ r. IsTrue g.R.Receipt.keeps → IfSome (entry_at r.log.text x.target) (λ y. c.own_record_in.result ≡ Ok y)) c.records-2.ensures c.own_record_in.ensures.kept) in
    place-read g.F.Key.Ord.cmp g.F.Mergeable.parts.joined g.F.Functions.code v sound s c.args.slot c.args.context x v.records.log.begin at refl a.here c.in-Ok.entry c.own_record_in.result c.in-Ok.is kept

pub returns-in-Err-clause-effect : goal.returns-in-Err-clause-effect
returns-in-Err-clause-effect g c =
    let v = c.args.self.now in
    let x = c.args.relocation.now in
    let a = c.requires.has.awaits in
    let p = c.args.loaded.now in
    let sound = c.facts.ensures.sound in
    let s = c.facts.ensures.compacting in
    let at = c.requires.reads in
    let page = c.page_of-page.ensures ∙ ap (λ r. page_at r.log.bits x.target) (c.records.ensures) in
    let has : HasPage v c.args.slot c.args.context x x.target (g.R.Receipt.stands p.receipt) = c.requires.has in
    let found = subst (λ r. (y : Entry _ _) → IsEntryIn g.F.Key.Fixed.codec g.F.Value.Fixed.codec r.log.bits p.bytes x.target y → c.own_record_in.result ≡ Ok y) (c.records-2.ensures) c.own_record_in.ensures.found in
    LoadsOn.damaged x v.records.log.begin p at has refl (λ y spelled. err-ok (sym c.in-Err.is ∙ found y spelled)) c.end.ensures (ap (λ n. Err (Damaged n)) page)

pub returns-in-Ok-clause-effect : goal.returns-in-Ok-clause-effect
returns-in-Ok-clause-effect g c =
    let v = c.args.self.now in
    let x = c.args.relocation.now in
    let a = c.requires.has.awaits in
    let p = c.args.loaded.now in
    let sound = c.facts.ensures.sound in
    let s = c.facts.ensures.compacting in
    let at = c.requires.reads in
    let page = c.page_of-page.ensures ∙ ap (λ r. page_at r.log.bits x.target) (c.records.ensures) in
    let has : HasPage v c.args.slot c.args.context x x.target (g.R.Receipt.stands p.receipt) = c.requires.has in
    let spelled = (rw (c.records-2.ensures, c.in-Ok.is) at c.own_record_in.ensures.only) in
    LoadsOn.checks x v.records.log.begin p c.in-Ok.entry at has refl spelled c.check_liveness.ensures.effect

pub returns-in-Err-clause-cleared : goal.returns-in-Err-clause-cleared
returns-in-Err-clause-cleared g c = err-ok

pub returns-in-Err-clause-moment : goal.returns-in-Err-clause-moment
returns-in-Err-clause-moment g c = has-come c.end.ensures refl

pub end-requires-clause-session : goal.end-requires-clause-session
end-requires-clause-session g c = c.requires.session

pub end-requires-clause-context : goal.end-requires-clause-context
end-requires-clause-context g c = c.requires.context

pub check_liveness-requires-clause-later : goal.check_liveness-requires-clause-later
check_liveness-requires-clause-later g c = c.requires.later

pub check_liveness-requires-clause-session : goal.check_liveness-requires-clause-session
check_liveness-requires-clause-session g c = c.requires.session

pub check_liveness-requires-clause-context : goal.check_liveness-requires-clause-context
check_liveness-requires-clause-context g c = c.requires.context

pub check_liveness-requires-clause-here : goal.check_liveness-requires-clause-here
check_liveness-requires-clause-here g c = c.requires.has.awaits.here

pub returns-in-Ok-clause-event : goal.returns-in-Ok-clause-event
returns-in-Ok-clause-event g c = c.check_liveness.ensures.event

pub returns-in-Ok-clause-cleared : goal.returns-in-Ok-clause-cleared
returns-in-Ok-clause-cleared g c = c.check_liveness.ensures.cleared

pub returns-in-Ok-clause-moment : goal.returns-in-Ok-clause-moment
returns-in-Ok-clause-moment g c = c.check_liveness.ensures.moment

pub own_record_in-requires : goal.own_record_in-requires
own_record_in-requires g c =
    record { own = subst (λ r. IsHeldBy r.log.receipts (page_at r.log.bits c.args.relocation.now.target) (g.R.Receipt.stands c.args.loaded.now.receipt)) (sym (c.records-2.ensures)) c.requires.has.own }

pub returns-in-Err-clause-undamaged : goal.returns-in-Err-clause-undamaged
returns-in-Err-clause-undamaged g c = λ yes_keeps page told.
    let v = c.args.self.now in
    let x = c.args.relocation.now in
    let kept = subst (λ r. IsTrue g.R.Receipt.keeps → IfSome (entry_at r.log.text x.target) (λ y. c.own_record_in.result ≡ Ok y)) (c.records-2.ensures) c.own_record_in.ensures.kept in
    place-undamaged g.F.Key.Ord.cmp g.F.Mergeable.parts.joined g.F.Functions.code v c.facts.ensures.sound c.facts.ensures.compacting c.args.slot c.args.context x v.records.log.begin c.requires.reads refl c.requires.has.awaits.here c.own_record_in.result c.in-Err.is kept yes_keeps

pub returns-in-Ok-clause-undamaged : goal.returns-in-Ok-clause-undamaged
returns-in-Ok-clause-undamaged g c = λ yes_keeps page is. checks-not c.check_liveness.ensures.effect is
