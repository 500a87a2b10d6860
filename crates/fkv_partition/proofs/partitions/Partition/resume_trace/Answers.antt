use Rattle.std.proofs.Common.{◌+◌, ◌<◌, ◌≤◌, Ok, Err, refl, sym, ap, subst, ◌∙◌, arith}
use Rattle.std.proofs.lemmas.Bool.{false≢true}
use Rattle.fkv_functions.proofs.KeyOrder.{key_order}
use Rattle.fkv_functions.specs.declared.refusals.Refused.TheVariants.{Damaged}
use Rattle.fkv_records.specs.Places.{page_at, IsRecordStart}
use Rattle.fkv_hybrid.specs.Spelled.{IsEntryIn}
use Rattle.fkv_hybrid.specs.Loads.{IsHeldBy, first_place}
use Rattle.fkv_hybrid.proofs.ReceiptLemmas.{receipt-within}
use Rattle.fkv_partition.specs.Checking.{higher_of, Ends}
use Rattle.fkv_partition.specs.Reading.{LoadsOn}
use Rattle.fkv_partition.specs.declared.relocations.Stage.TheVariants.{Ready}
use Rattle.fkv_partition.specs.Stages.{StageStands}
use Rattle.fkv_functions.proofs.CallLemmas.{with_six}
use Rattle.fkv_partition.proofs.ApartLemmas.{err-ok, has-come}
use Rattle.fkv_partition.proofs.MoveLemmas.{is-done, past-place, stands-here, frozen-low, keyless-here}
use Rattle.fkv_partition.proofs.ReadLemmas.{page-within}
use Rattle.fkv_partition.proofs.TraceLemmas.{page-came, way-flushed, has-page, traces-to, way-dead, way-last, above-place, way-below, lower-flushed, way-further, way-undamaged, way-place}
use Rattle.fkv_partition.proofs.DamageLemmas.{answer-not, ends-not, asks-not}
use Rattle.fkv_partition.proofs.partitions.Partition.resume_trace.Goals as goal

pub first_of-requires-whole : goal.first_of-requires-whole
first_of-requires-whole g c κs =
    let ord = g.met.F.Key.Ord in
    let facts = g.met.F.Key.FixedKey in
    let order = key_order g.F.Key.PartialEq.eq g.F.Key.Ord.cmp ord.matches_eq facts.exact ord.total in
    let v = c.args.self.now in
    let x = c.args.relocation.now in
    let a = c.requires.has.awaits in
    let p = c.args.loaded.now in
    let sound = c.facts.ensures.sound in
    let s = c.facts.ensures.compacting in
    let e = c.args.entry in
    let l = c.args.loading in
    let at = c.requires.traces in
    let there = way-flushed g.F.Key.Ord.cmp g.F.Mergeable.parts.joined g.F.Functions.code order v sound s c.args.slot c.args.context x e l a at in
    with_six (
    receipt-within _ _ (page-within l.wanted c.page_of-page.ensures (c.records.ensures) (c.records-2.ensures) there))

pub trace_in-requires-clause-own : goal.trace_in-requires-clause-own
trace_in-requires-clause-own g c =
    subst (λ r. IsHeldBy r.log.receipts (page_at r.log.bits c.args.loading.wanted) (g.R.Receipt.stands c.args.loaded.now.receipt)) (sym (c.records-3.ensures)) c.requires.has.own

pub trace_in-requires-clause-floor : goal.trace_in-requires-clause-floor
trace_in-requires-clause-floor g c =
    let page = c.page_of-page.ensures ∙ ap (λ r. page_at r.log.bits c.args.loading.wanted) (c.records.ensures ∙ sym c.records-3.ensures) in
    let first = c.first_of.ensures ∙ ap (λ r. first_place r.log.bits c.page_of-page.result) (c.records-2.ensures ∙ sym c.records-3.ensures) ∙ ap (first_place c.records-3.result.now.log.bits) page in
    subst (λ n. n ≤ c.higher_of-low.result) first c.higher_of-low.ensures.right

pub returns-in-Err-clause-effect : goal.returns-in-Err-clause-effect
returns-in-Err-clause-effect g c =
    let ord = g.met.F.Key.Ord in
    let facts = g.met.F.Key.FixedKey in
    let order = key_order g.F.Key.PartialEq.eq g.F.Key.Ord.cmp ord.matches_eq facts.exact ord.total in
    let v = c.args.self.now in
    let x = c.args.relocation.now in
    let a = c.requires.has.awaits in
    let p = c.args.loaded.now in
    let sound = c.facts.ensures.sound in
    let s = c.facts.ensures.compacting in
    let e = c.args.entry in
    let l = c.args.loading in
    let at = c.requires.traces in
    let came = page-came g.R.Receipt.keeps (IsEntryIn g.F.Key.Fixed.codec g.F.Value.Fixed.codec) g.F.Key.Ord.cmp g.F.Mergeable.parts.joined g.F.Functions.code c.records.result.now c.records-2.result.now c.records-3.result.now v.records x.target e.key c.page_of-page.result c.higher_of-low.result l (g.R.Receipt.stands p.receipt) p.bytes c.trace_in.result (c.records.ensures) (c.records-2.ensures) (c.records-3.ensures) c.page_of-page.ensures (c.higher_of-low.ensures.value ∙ ap (higher_of (x.target + 1)) c.first_of.ensures) c.requires.has.own c.trace_in.ensures.read c.trace_in.ensures.kept in
    let page = c.page_of-page.ensures ∙ ap (λ r. page_at r.log.bits l.wanted) (c.records.ensures) in
    let is = c.in-Err.is in
    LoadsOn.bad_record x e l p c.in-Err._damaged at (has-page g.F.Key.Ord.cmp g.F.Mergeable.parts.joined g.F.Functions.code order v sound s c.args.slot c.args.context x e l a at (IsEntryIn g.F.Key.Fixed.codec g.F.Value.Fixed.codec) (g.R.Receipt.stands p.receipt) p.bytes c.trace_in.result came) refl (traces-to g.F.Key.Ord.cmp g.F.Mergeable.parts.joined g.F.Functions.code order v sound s c.args.slot c.args.context x e l a at (IsEntryIn g.F.Key.Fixed.codec g.F.Value.Fixed.codec) (g.R.Receipt.stands p.receipt) p.bytes c.trace_in.result came (Err c.in-Err._damaged) is) c.end.ensures (ap (λ n. Err (Damaged n)) page)

pub finish-requires-clause-issued : goal.finish-requires-clause-issued
finish-requires-clause-issued g c =
    let v = c.args.self.now in
    let x = c.args.relocation.now in
    let a = c.requires.has.awaits in
    let s = c.facts.ensures.compacting in
    (stands-here v c.args.slot c.args.context x a.here s).issued

pub finish-requires-clause-place : goal.finish-requires-clause-place
finish-requires-clause-place g c =
    let v = c.args.self.now in
    let x = c.args.relocation.now in
    let a = c.requires.has.awaits in
    let s = c.facts.ensures.compacting in
    (stands-here v c.args.slot c.args.context x a.here s).place

pub finish-requires-clause-low : goal.finish-requires-clause-low
finish-requires-clause-low g c =
    let v = c.args.self.now in
    let x = c.args.relocation.now in
    let a = c.requires.has.awaits in
    let p = c.args.loaded.now in
    let sound = c.facts.ensures.sound in
    let s = c.facts.ensures.compacting in
    let e = c.args.entry in
    let l = c.args.loading in
    let at = c.requires.traces in
    frozen-low v.records x.target sound.traced (stands-here v c.args.slot c.args.context x a.here s).frozen

pub finish-requires-clause-superseded : goal.finish-requires-clause-superseded
finish-requires-clause-superseded g c =
    let ord = g.met.F.Key.Ord in
    let facts = g.met.F.Key.FixedKey in
    let order = key_order g.F.Key.PartialEq.eq g.F.Key.Ord.cmp ord.matches_eq facts.exact ord.total in
    let v = c.args.self.now in
    let x = c.args.relocation.now in
    let a = c.requires.has.awaits in
    let p = c.args.loaded.now in
    let sound = c.facts.ensures.sound in
    let s = c.facts.ensures.compacting in
    let e = c.args.entry in
    let l = c.args.loading in
    let at = c.requires.traces in
    let came = page-came g.R.Receipt.keeps (IsEntryIn g.F.Key.Fixed.codec g.F.Value.Fixed.codec) g.F.Key.Ord.cmp g.F.Mergeable.parts.joined g.F.Functions.code c.records.result.now c.records-2.result.now c.records-3.result.now v.records x.target e.key c.page_of-page.result c.higher_of-low.result l (g.R.Receipt.stands p.receipt) p.bytes c.trace_in.result (c.records.ensures) (c.records-2.ensures) (c.records-3.ensures) c.page_of-page.ensures (c.higher_of-low.ensures.value ∙ ap (higher_of (x.target + 1)) c.first_of.ensures) c.requires.has.own c.trace_in.ensures.read c.trace_in.ensures.kept in
    let r = c.in-Ok.came in
    let is = c.in-Ok.is in
    let j = sym c.liveness_of.ensures ∙ c.in-Superseded.is in
    way-dead g.F.Key.Ord.cmp g.F.Mergeable.parts.joined g.F.Functions.code order v sound s c.args.slot c.args.context x e l a at (IsEntryIn g.F.Key.Fixed.codec g.F.Value.Fixed.codec) (g.R.Receipt.stands p.receipt) p.bytes c.trace_in.result came r is j

pub append_again-requires-clause-stands : goal.append_again-requires-clause-stands
append_again-requires-clause-stands g c =
    let ord = g.met.F.Key.Ord in
    let facts = g.met.F.Key.FixedKey in
    let order = key_order g.F.Key.PartialEq.eq g.F.Key.Ord.cmp ord.matches_eq facts.exact ord.total in
    let v = c.args.self.now in
    let x = c.args.relocation.now in
    let a = c.requires.has.awaits in
    let p = c.args.loaded.now in
    let sound = c.facts.ensures.sound in
    let s = c.facts.ensures.compacting in
    let e = c.args.entry in
    let l = c.args.loading in
    let at = c.requires.traces in
    let came = page-came g.R.Receipt.keeps (IsEntryIn g.F.Key.Fixed.codec g.F.Value.Fixed.codec) g.F.Key.Ord.cmp g.F.Mergeable.parts.joined g.F.Functions.code c.records.result.now c.records-2.result.now c.records-3.result.now v.records x.target e.key c.page_of-page.result c.higher_of-low.result l (g.R.Receipt.stands p.receipt) p.bytes c.trace_in.result (c.records.ensures) (c.records-2.ensures) (c.records-3.ensures) c.page_of-page.ensures (c.higher_of-low.ensures.value ∙ ap (higher_of (x.target + 1)) c.first_of.ensures) c.requires.has.own c.trace_in.ensures.read c.trace_in.ensures.kept in
    let r = c.in-Ok.came in
    let is = c.in-Ok.is in
    let j = sym c.liveness_of.ensures ∙ c.in-Last.is in
    subst (λ q. StageStands g.R.Receipt.keeps g.F.Key.Ord.cmp g.F.Mergeable.parts.joined g.F.Functions.code v x.target (Ready q l.kept)) (sym c.renewed-whole.ensures)
    (way-last g.F.Key.Ord.cmp g.F.Mergeable.parts.joined g.F.Functions.code order v sound s c.args.slot c.args.context x e l a at (IsEntryIn g.F.Key.Fixed.codec g.F.Value.Fixed.codec) (g.R.Receipt.stands p.receipt) p.bytes c.trace_in.result came r c.in-Last.parts is j)

pub returns-then-not-is_record_start-clause-effect : goal.returns-then-not-is_record_start-clause-effect
returns-then-not-is_record_start-clause-effect g c =
    let ord = g.met.F.Key.Ord in
    let facts = g.met.F.Key.FixedKey in
    let order = key_order g.F.Key.PartialEq.eq g.F.Key.Ord.cmp ord.matches_eq facts.exact ord.total in
    let v = c.args.self.now in
    let x = c.args.relocation.now in
    let a = c.requires.has.awaits in
    let p = c.args.loaded.now in
    let sound = c.facts.ensures.sound in
    let s = c.facts.ensures.compacting in
    let e = c.args.entry in
    let l = c.args.loading in
    let at = c.requires.traces in
    let came = page-came g.R.Receipt.keeps (IsEntryIn g.F.Key.Fixed.codec g.F.Value.Fixed.codec) g.F.Key.Ord.cmp g.F.Mergeable.parts.joined g.F.Functions.code c.records.result.now c.records-2.result.now c.records-3.result.now v.records x.target e.key c.page_of-page.result c.higher_of-low.result l (g.R.Receipt.stands p.receipt) p.bytes c.trace_in.result (c.records.ensures) (c.records-2.ensures) (c.records-3.ensures) c.page_of-page.ensures (c.higher_of-low.ensures.value ∙ ap (higher_of (x.target + 1)) c.first_of.ensures) c.requires.has.own c.trace_in.ensures.read c.trace_in.ensures.kept in
    let page = c.page_of-page.ensures ∙ ap (λ r. page_at r.log.bits l.wanted) (c.records.ensures) in
    let r = c.in-Ok.came in
    let is = c.in-Ok.is in
    let b = c.in-Further.address in
    let j = sym c.liveness_of.ensures ∙ c.in-Further.is in
    LoadsOn.bad_link x e l p b c.in-Further.parts at (has-page g.F.Key.Ord.cmp g.F.Mergeable.parts.joined g.F.Functions.code order v sound s c.args.slot c.args.context x e l a at (IsEntryIn g.F.Key.Fixed.codec g.F.Value.Fixed.codec) (g.R.Receipt.stands p.receipt) p.bytes c.trace_in.result came) refl (way-below g.F.Key.Ord.cmp g.F.Mergeable.parts.joined g.F.Functions.code order v sound s c.args.slot c.args.context x e l a at (IsEntryIn g.F.Key.Fixed.codec g.F.Value.Fixed.codec) (g.R.Receipt.stands p.receipt) p.bytes c.trace_in.result came r b c.in-Further.parts is j) (above-place g.F.Key.Ord.cmp g.F.Mergeable.parts.joined g.F.Functions.code order v sound s c.args.slot c.args.context x e l a at (IsEntryIn g.F.Key.Fixed.codec g.F.Value.Fixed.codec) (g.R.Receipt.stands p.receipt) p.bytes c.trace_in.result came r b c.in-Further.parts is j)
    (λ place. false≢true (sym c.if-not-is_record_start.true ∙ c.is_record_start.ensures.1 (subst (λ r. IsRecordStart r.log.bits r.record_size b) (sym (c.records-in-Further.ensures)) place))) c.end-then-not-is_record_start.ensures (ap (λ n. Err (Damaged n)) page)

pub ask-requires-clause-flushed : goal.ask-requires-clause-flushed
ask-requires-clause-flushed g c =
    let ord = g.met.F.Key.Ord in
    let facts = g.met.F.Key.FixedKey in
    let order = key_order g.F.Key.PartialEq.eq g.F.Key.Ord.cmp ord.matches_eq facts.exact ord.total in
    let v = c.args.self.now in
    let x = c.args.relocation.now in
    let a = c.requires.has.awaits in
    let p = c.args.loaded.now in
    let sound = c.facts.ensures.sound in
    let s = c.facts.ensures.compacting in
    let e = c.args.entry in
    let l = c.args.loading in
    let at = c.requires.traces in
    let came = page-came g.R.Receipt.keeps (IsEntryIn g.F.Key.Fixed.codec g.F.Value.Fixed.codec) g.F.Key.Ord.cmp g.F.Mergeable.parts.joined g.F.Functions.code c.records.result.now c.records-2.result.now c.records-3.result.now v.records x.target e.key c.page_of-page.result c.higher_of-low.result l (g.R.Receipt.stands p.receipt) p.bytes c.trace_in.result (c.records.ensures) (c.records-2.ensures) (c.records-3.ensures) c.page_of-page.ensures (c.higher_of-low.ensures.value ∙ ap (higher_of (x.target + 1)) c.first_of.ensures) c.requires.has.own c.trace_in.ensures.read c.trace_in.ensures.kept in
    let r = c.in-Ok.came in
    let is = c.in-Ok.is in
    let b = c.in-Further.address in
    let j = sym c.liveness_of.ensures ∙ c.in-Further.is in
    lower-flushed g.F.Key.Ord.cmp g.F.Mergeable.parts.joined g.F.Functions.code order v sound s c.args.slot c.args.context x e l a at (IsEntryIn g.F.Key.Fixed.codec g.F.Value.Fixed.codec) (g.R.Receipt.stands p.receipt) p.bytes c.trace_in.result came r b c.in-Further.parts is j

pub ask-requires-clause-stands : goal.ask-requires-clause-stands
ask-requires-clause-stands g c =
    let ord = g.met.F.Key.Ord in
    let facts = g.met.F.Key.FixedKey in
    let order = key_order g.F.Key.PartialEq.eq g.F.Key.Ord.cmp ord.matches_eq facts.exact ord.total in
    let v = c.args.self.now in
    let x = c.args.relocation.now in
    let a = c.requires.has.awaits in
    let p = c.args.loaded.now in
    let sound = c.facts.ensures.sound in
    let s = c.facts.ensures.compacting in
    let e = c.args.entry in
    let l = c.args.loading in
    let at = c.requires.traces in
    let came = page-came g.R.Receipt.keeps (IsEntryIn g.F.Key.Fixed.codec g.F.Value.Fixed.codec) g.F.Key.Ord.cmp g.F.Mergeable.parts.joined g.F.Functions.code c.records.result.now c.records-2.result.now c.records-3.result.now v.records x.target e.key c.page_of-page.result c.higher_of-low.result l (g.R.Receipt.stands p.receipt) p.bytes c.trace_in.result (c.records.ensures) (c.records-2.ensures) (c.records-3.ensures) c.page_of-page.ensures (c.higher_of-low.ensures.value ∙ ap (higher_of (x.target + 1)) c.first_of.ensures) c.requires.has.own c.trace_in.ensures.read c.trace_in.ensures.kept in
    let r = c.in-Ok.came in
    let is = c.in-Ok.is in
    let b = c.in-Further.address in
    let j = sym c.liveness_of.ensures ∙ c.in-Further.is in
    way-further g.F.Key.Ord.cmp g.F.Mergeable.parts.joined g.F.Functions.code order v sound s c.args.slot c.args.context x e l a at (IsEntryIn g.F.Key.Fixed.codec g.F.Value.Fixed.codec) (g.R.Receipt.stands p.receipt) p.bytes c.trace_in.result came r b c.in-Further.parts is j

pub returns-in-Superseded-clause-effect : goal.returns-in-Superseded-clause-effect
returns-in-Superseded-clause-effect g c =
    let ord = g.met.F.Key.Ord in
    let facts = g.met.F.Key.FixedKey in
    let order = key_order g.F.Key.PartialEq.eq g.F.Key.Ord.cmp ord.matches_eq facts.exact ord.total in
    let v = c.args.self.now in
    let x = c.args.relocation.now in
    let a = c.requires.has.awaits in
    let p = c.args.loaded.now in
    let sound = c.facts.ensures.sound in
    let s = c.facts.ensures.compacting in
    let e = c.args.entry in
    let l = c.args.loading in
    let at = c.requires.traces in
    let came = page-came g.R.Receipt.keeps (IsEntryIn g.F.Key.Fixed.codec g.F.Value.Fixed.codec) g.F.Key.Ord.cmp g.F.Mergeable.parts.joined g.F.Functions.code c.records.result.now c.records-2.result.now c.records-3.result.now v.records x.target e.key c.page_of-page.result c.higher_of-low.result l (g.R.Receipt.stands p.receipt) p.bytes c.trace_in.result (c.records.ensures) (c.records-2.ensures) (c.records-3.ensures) c.page_of-page.ensures (c.higher_of-low.ensures.value ∙ ap (higher_of (x.target + 1)) c.first_of.ensures) c.requires.has.own c.trace_in.ensures.read c.trace_in.ensures.kept in
    let r = c.in-Ok.came in
    let is = c.in-Ok.is in
    let j = sym c.liveness_of.ensures ∙ c.in-Superseded.is in
    LoadsOn.newer x e l p r at (has-page g.F.Key.Ord.cmp g.F.Mergeable.parts.joined g.F.Functions.code order v sound s c.args.slot c.args.context x e l a at (IsEntryIn g.F.Key.Fixed.codec g.F.Value.Fixed.codec) (g.R.Receipt.stands p.receipt) p.bytes c.trace_in.result came) refl (traces-to g.F.Key.Ord.cmp g.F.Mergeable.parts.joined g.F.Functions.code order v sound s c.args.slot c.args.context x e l a at (IsEntryIn g.F.Key.Fixed.codec g.F.Value.Fixed.codec) (g.R.Receipt.stands p.receipt) p.bytes c.trace_in.result came (Ok r) is) j c.finish.ensures refl

pub returns-in-Superseded-clause-event : goal.returns-in-Superseded-clause-event
returns-in-Superseded-clause-event g c =
    let v = c.args.self.now in
    let x = c.args.relocation.now in
    let a = c.requires.has.awaits in
    let p = c.args.loaded.now in
    let sound = c.facts.ensures.sound in
    let s = c.facts.ensures.compacting in
    let e = c.args.entry in
    let l = c.args.loading in
    let at = c.requires.traces in
    let up = past-place v x.target sound.traced (stands-here v c.args.slot c.args.context x a.here s).place in
    is-done g.R.Receipt.keeps g.F.Key.Ord.cmp v c.args.slot c.args.context c.args.now c.requires.context (keyless-here v c.args.slot c.args.context x a.here) x.target up.0 c.finish.ensures

pub returns-in-Superseded-clause-cleared : goal.returns-in-Superseded-clause-cleared
returns-in-Superseded-clause-cleared g c =
    let v = c.args.self.now in
    let x = c.args.relocation.now in
    let a = c.requires.has.awaits in
    let p = c.args.loaded.now in
    let sound = c.facts.ensures.sound in
    let s = c.facts.ensures.compacting in
    let e = c.args.entry in
    let l = c.args.loading in
    let at = c.requires.traces in
    let up = past-place v x.target sound.traced (stands-here v c.args.slot c.args.context x a.here s).place in
    λ done. subst (λ u. x.target < u.cleared) (sym c.finish.ensures) up.1

pub returns-in-Last-clause-effect : goal.returns-in-Last-clause-effect
returns-in-Last-clause-effect g c =
    let ord = g.met.F.Key.Ord in
    let facts = g.met.F.Key.FixedKey in
    let order = key_order g.F.Key.PartialEq.eq g.F.Key.Ord.cmp ord.matches_eq facts.exact ord.total in
    let v = c.args.self.now in
    let x = c.args.relocation.now in
    let a = c.requires.has.awaits in
    let p = c.args.loaded.now in
    let sound = c.facts.ensures.sound in
    let s = c.facts.ensures.compacting in
    let e = c.args.entry in
    let l = c.args.loading in
    let at = c.requires.traces in
    let came = page-came g.R.Receipt.keeps (IsEntryIn g.F.Key.Fixed.codec g.F.Value.Fixed.codec) g.F.Key.Ord.cmp g.F.Mergeable.parts.joined g.F.Functions.code c.records.result.now c.records-2.result.now c.records-3.result.now v.records x.target e.key c.page_of-page.result c.higher_of-low.result l (g.R.Receipt.stands p.receipt) p.bytes c.trace_in.result (c.records.ensures) (c.records-2.ensures) (c.records-3.ensures) c.page_of-page.ensures (c.higher_of-low.ensures.value ∙ ap (higher_of (x.target + 1)) c.first_of.ensures) c.requires.has.own c.trace_in.ensures.read c.trace_in.ensures.kept in
    let r = c.in-Ok.came in
    let is = c.in-Ok.is in
    let j = sym c.liveness_of.ensures ∙ c.in-Last.is in
    LoadsOn.ends x e l p r c.in-Last.parts at (has-page g.F.Key.Ord.cmp g.F.Mergeable.parts.joined g.F.Functions.code order v sound s c.args.slot c.args.context x e l a at (IsEntryIn g.F.Key.Fixed.codec g.F.Value.Fixed.codec) (g.R.Receipt.stands p.receipt) p.bytes c.trace_in.result came) refl (traces-to g.F.Key.Ord.cmp g.F.Mergeable.parts.joined g.F.Functions.code order v sound s c.args.slot c.args.context x e l a at (IsEntryIn g.F.Key.Fixed.codec g.F.Value.Fixed.codec) (g.R.Receipt.stands p.receipt) p.bytes c.trace_in.result came (Ok r) is) j (subst (λ q. Ends v c.append_again.new.self c.args.slot c.args.context x q l.kept c.args.now c.append_again.result) c.renewed-whole.ensures c.append_again.ensures.effect)

pub returns-else-not-is_record_start-clause-effect : goal.returns-else-not-is_record_start-clause-effect
returns-else-not-is_record_start-clause-effect g c =
    let ord = g.met.F.Key.Ord in
    let facts = g.met.F.Key.FixedKey in
    let order = key_order g.F.Key.PartialEq.eq g.F.Key.Ord.cmp ord.matches_eq facts.exact ord.total in
    let v = c.args.self.now in
    let x = c.args.relocation.now in
    let a = c.requires.has.awaits in
    let p = c.args.loaded.now in
    let sound = c.facts.ensures.sound in
    let s = c.facts.ensures.compacting in
    let e = c.args.entry in
    let l = c.args.loading in
    let at = c.requires.traces in
    let came = page-came g.R.Receipt.keeps (IsEntryIn g.F.Key.Fixed.codec g.F.Value.Fixed.codec) g.F.Key.Ord.cmp g.F.Mergeable.parts.joined g.F.Functions.code c.records.result.now c.records-2.result.now c.records-3.result.now v.records x.target e.key c.page_of-page.result c.higher_of-low.result l (g.R.Receipt.stands p.receipt) p.bytes c.trace_in.result (c.records.ensures) (c.records-2.ensures) (c.records-3.ensures) c.page_of-page.ensures (c.higher_of-low.ensures.value ∙ ap (higher_of (x.target + 1)) c.first_of.ensures) c.requires.has.own c.trace_in.ensures.read c.trace_in.ensures.kept in
    let r = c.in-Ok.came in
    let is = c.in-Ok.is in
    let b = c.in-Further.address in
    let j = sym c.liveness_of.ensures ∙ c.in-Further.is in
    let place = subst (λ r. IsRecordStart r.log.bits r.record_size b) (c.records-in-Further.ensures) (c.is_record_start.ensures.0 c.if-not-is_record_start.false) in
    LoadsOn.further x e l p b c.in-Further.parts at (has-page g.F.Key.Ord.cmp g.F.Mergeable.parts.joined g.F.Functions.code order v sound s c.args.slot c.args.context x e l a at (IsEntryIn g.F.Key.Fixed.codec g.F.Value.Fixed.codec) (g.R.Receipt.stands p.receipt) p.bytes c.trace_in.result came) refl (way-below g.F.Key.Ord.cmp g.F.Mergeable.parts.joined g.F.Functions.code order v sound s c.args.slot c.args.context x e l a at (IsEntryIn g.F.Key.Fixed.codec g.F.Value.Fixed.codec) (g.R.Receipt.stands p.receipt) p.bytes c.trace_in.result came r b c.in-Further.parts is j) (above-place g.F.Key.Ord.cmp g.F.Mergeable.parts.joined g.F.Functions.code order v sound s c.args.slot c.args.context x e l a at (IsEntryIn g.F.Key.Fixed.codec g.F.Value.Fixed.codec) (g.R.Receipt.stands p.receipt) p.bytes c.trace_in.result came r b c.in-Further.parts is j) place c.ask.ensures.effect

pub overflow_add-target : goal.overflow_add-target
overflow_add-target g c =
    let frozen = (stands-here c.args.self.now c.args.slot c.args.context c.args.relocation.now c.requires.has.awaits.here c.facts.ensures.compacting).frozen in
    let regions = c.facts.ensures.sound.traced.regions.agree in
    let safe = regions.in_order.safe in
    let most = regions.in_order.most in
    omega (arith, frozen, safe, most)

pub returns-in-Err-clause-cleared : goal.returns-in-Err-clause-cleared
returns-in-Err-clause-cleared g c = err-ok

pub returns-in-Err-clause-moment : goal.returns-in-Err-clause-moment
returns-in-Err-clause-moment g c = has-come c.end.ensures refl

pub returns-then-not-is_record_start-clause-cleared : goal.returns-then-not-is_record_start-clause-cleared
returns-then-not-is_record_start-clause-cleared g c = err-ok

pub returns-then-not-is_record_start-clause-moment : goal.returns-then-not-is_record_start-clause-moment
returns-then-not-is_record_start-clause-moment g c = has-come c.end-then-not-is_record_start.ensures refl

pub returns-in-Superseded-clause-moment : goal.returns-in-Superseded-clause-moment
returns-in-Superseded-clause-moment g c = has-come c.finish.ensures refl

pub returns-else-not-is_record_start-clause-cleared : goal.returns-else-not-is_record_start-clause-cleared
returns-else-not-is_record_start-clause-cleared g c = λ is. absurd (c.ask.ensures.uncleared is)

pub returns-in-Last-clause-event : goal.returns-in-Last-clause-event
returns-in-Last-clause-event g c = c.append_again.ensures.event

pub returns-in-Last-clause-cleared : goal.returns-in-Last-clause-cleared
returns-in-Last-clause-cleared g c = c.append_again.ensures.cleared

pub returns-in-Last-clause-moment : goal.returns-in-Last-clause-moment
returns-in-Last-clause-moment g c = c.append_again.ensures.moment

pub returns-else-not-is_record_start-clause-event : goal.returns-else-not-is_record_start-clause-event
returns-else-not-is_record_start-clause-event g c = c.ask.ensures.event

pub returns-else-not-is_record_start-clause-moment : goal.returns-else-not-is_record_start-clause-moment
returns-else-not-is_record_start-clause-moment g c = c.ask.ensures.moment

pub finish-requires-clause-session : goal.finish-requires-clause-session
finish-requires-clause-session g c = c.requires.session

pub finish-requires-clause-context : goal.finish-requires-clause-context
finish-requires-clause-context g c = c.requires.context

pub end-requires-clause-session : goal.end-requires-clause-session
end-requires-clause-session g c = c.requires.session

pub end-requires-clause-context : goal.end-requires-clause-context
end-requires-clause-context g c = c.requires.context

pub end-requires-then-not-is_record_start-clause-session : goal.end-requires-then-not-is_record_start-clause-session
end-requires-then-not-is_record_start-clause-session g c = c.requires.session

pub end-requires-then-not-is_record_start-clause-context : goal.end-requires-then-not-is_record_start-clause-context
end-requires-then-not-is_record_start-clause-context g c = c.requires.context

pub append_again-requires-clause-later : goal.append_again-requires-clause-later
append_again-requires-clause-later g c = c.requires.later

pub append_again-requires-clause-session : goal.append_again-requires-clause-session
append_again-requires-clause-session g c = c.requires.session

pub append_again-requires-clause-context : goal.append_again-requires-clause-context
append_again-requires-clause-context g c = c.requires.context

pub append_again-requires-clause-here : goal.append_again-requires-clause-here
append_again-requires-clause-here g c = c.requires.has.awaits.here

pub ask-requires-clause-later : goal.ask-requires-clause-later
ask-requires-clause-later g c = c.requires.later

pub ask-requires-clause-session : goal.ask-requires-clause-session
ask-requires-clause-session g c = c.requires.session

pub ask-requires-clause-context : goal.ask-requires-clause-context
ask-requires-clause-context g c = c.requires.context

pub ask-requires-clause-here : goal.ask-requires-clause-here
ask-requires-clause-here g c = c.requires.has.awaits.here

pub returns-in-Err-clause-undamaged : goal.returns-in-Err-clause-undamaged
returns-in-Err-clause-undamaged g c = λ yes_keeps page told.
    let ord = g.met.F.Key.Ord in
    let facts = g.met.F.Key.FixedKey in
    let order = key_order g.F.Key.PartialEq.eq g.F.Key.Ord.cmp ord.matches_eq facts.exact ord.total in
    let v = c.args.self.now in
    let x = c.args.relocation.now in
    let a = c.requires.has.awaits in
    let p = c.args.loaded.now in
    let sound = c.facts.ensures.sound in
    let s = c.facts.ensures.compacting in
    let e = c.args.entry in
    let l = c.args.loading in
    let at = c.requires.traces in
    let came = page-came g.R.Receipt.keeps (IsEntryIn g.F.Key.Fixed.codec g.F.Value.Fixed.codec) g.F.Key.Ord.cmp g.F.Mergeable.parts.joined g.F.Functions.code c.records.result.now c.records-2.result.now c.records-3.result.now v.records x.target e.key c.page_of-page.result c.higher_of-low.result l (g.R.Receipt.stands p.receipt) p.bytes c.trace_in.result (c.records.ensures) (c.records-2.ensures) (c.records-3.ensures) c.page_of-page.ensures (c.higher_of-low.ensures.value ∙ ap (higher_of (x.target + 1)) c.first_of.ensures) c.requires.has.own c.trace_in.ensures.read c.trace_in.ensures.kept in
    way-undamaged g.F.Key.Ord.cmp g.F.Mergeable.parts.joined g.F.Functions.code order v sound s c.args.slot c.args.context x e l a at (IsEntryIn g.F.Key.Fixed.codec g.F.Value.Fixed.codec) (g.R.Receipt.stands p.receipt) p.bytes c.trace_in.result came yes_keeps c.in-Err.is

pub returns-then-not-is_record_start-clause-undamaged : goal.returns-then-not-is_record_start-clause-undamaged
returns-then-not-is_record_start-clause-undamaged g c = λ yes_keeps page told.
    let ord = g.met.F.Key.Ord in
    let facts = g.met.F.Key.FixedKey in
    let order = key_order g.F.Key.PartialEq.eq g.F.Key.Ord.cmp ord.matches_eq facts.exact ord.total in
    let v = c.args.self.now in
    let x = c.args.relocation.now in
    let a = c.requires.has.awaits in
    let p = c.args.loaded.now in
    let sound = c.facts.ensures.sound in
    let s = c.facts.ensures.compacting in
    let e = c.args.entry in
    let l = c.args.loading in
    let at = c.requires.traces in
    let came = page-came g.R.Receipt.keeps (IsEntryIn g.F.Key.Fixed.codec g.F.Value.Fixed.codec) g.F.Key.Ord.cmp g.F.Mergeable.parts.joined g.F.Functions.code c.records.result.now c.records-2.result.now c.records-3.result.now v.records x.target e.key c.page_of-page.result c.higher_of-low.result l (g.R.Receipt.stands p.receipt) p.bytes c.trace_in.result (c.records.ensures) (c.records-2.ensures) (c.records-3.ensures) c.page_of-page.ensures (c.higher_of-low.ensures.value ∙ ap (higher_of (x.target + 1)) c.first_of.ensures) c.requires.has.own c.trace_in.ensures.read c.trace_in.ensures.kept in
    let b = c.in-Further.address in
    let place = way-place g.F.Key.Ord.cmp g.F.Mergeable.parts.joined g.F.Functions.code order v sound s c.args.slot c.args.context x e l a at (IsEntryIn g.F.Key.Fixed.codec g.F.Value.Fixed.codec) (g.R.Receipt.stands p.receipt) p.bytes c.trace_in.result came c.in-Ok.came b c.in-Further.parts c.in-Ok.is (sym c.liveness_of.ensures ∙ c.in-Further.is) yes_keeps in
    false≢true (sym c.if-not-is_record_start.true ∙ c.is_record_start.ensures.1 (subst (λ r. IsRecordStart r.log.bits r.record_size b) (sym (c.records-in-Further.ensures)) place))

pub returns-in-Superseded-clause-undamaged : goal.returns-in-Superseded-clause-undamaged
returns-in-Superseded-clause-undamaged g c = λ yes_keeps page is. answer-not is

pub returns-in-Last-clause-undamaged : goal.returns-in-Last-clause-undamaged
returns-in-Last-clause-undamaged g c = λ yes_keeps page is. ends-not c.append_again.ensures.effect is

pub returns-else-not-is_record_start-clause-undamaged : goal.returns-else-not-is_record_start-clause-undamaged
returns-else-not-is_record_start-clause-undamaged g c = λ yes_keeps page is. asks-not c.ask.ensures.effect is
