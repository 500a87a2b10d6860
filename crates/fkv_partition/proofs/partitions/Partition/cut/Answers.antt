use Rattle.std.proofs.Common.{◌≡◌, ◌<◌, ◌≤◌, Ok, ◌↔◌, ℕ, Bool, IsTrue, IsOk, Err, refl, sym, ap, subst, ◌∙◌}
use Rattle.std.proofs.Math.Nat.{le_of_lt, le_refl}
use Rattle.fkv_functions.specs.declared.refusals.Refused.{Refused}
use Rattle.fkv_functions.specs.declared.refusals.Refused.TheVariants.{NotDue}
use Rattle.fkv_functions.proofs.KeyOrder.{key_order}
use Rattle.fkv_records.specs.Places.{start_at}
use Rattle.fkv_lookups.specs.RecordsViews.{RecordsView}
use Rattle.fkv_hybrid.specs.Views.{IsTruncationDue}
use Rattle.fkv_lookups.specs.Traced.{IsTraced, IsResolved}
use Rattle.fkv_texts.specs.Deltas.{IsCleared}
use Rattle.fkv_partition.specs.Inside.{view_of}
use Rattle.fkv_partition.specs.KeySound.{IsSound}
use Rattle.fkv_partition.specs.Cutting.{Truncates, not_due, truncates}
use Rattle.fkv_partition.specs.KeyEffect.{IsTruncation}
use Rattle.fkv_partition.specs.Views.{PartitionView}
use Rattle.fkv_partition.proofs.PreservedLemmas.{truncates-bear}
use Rattle.fkv_partition.proofs.TruncateLemmas.{cleared-below}
use Rattle.fkv_partition.proofs.WholeLemmas.{whole-event}
use Rattle.fkv_partition.proofs.CuttingLemmas.{sound-truncated, event-truncated}
use Rattle.fkv_partition.proofs.partitions.Partition.cut.Goals as goal

truncate-refused : {K V I : Type 0} (keeps : Bool) (inside v new : PartitionView K V I) (page now : ℕ) (why : Refused) → inside ≡ v → new ≡ inside → (IsOk {T = Unit {0}} (Err why) ↔ IsTruncationDue inside.records.log page) → why ≡ NotDue → Truncates keeps v new page now (Err why)
truncate-refused keeps inside v new page now why same stays ok only =
    not_due (λ due. let bad = ok.1 (subst (λ (u : PartitionView _ _ _). IsTruncationDue u.records.log page) (sym same) due) in cc) (stays ∙ same) (ap Err only)

pub invariant_of-self-2 : goal.invariant_of-self-2
invariant_of-self-2 g c =
    let ord = g.met.F.Key.Ord in
    let facts = g.met.F.Key.FixedKey in
    let cmp = g.F.Key.Ord.cmp in
    let join = g.F.Mergeable.parts.joined in
    let order = key_order g.F.Key.PartialEq.eq cmp ord.matches_eq facts.exact ord.total in
    let r = c.self.inside.records in
    let v = view_of g.F.Mergeable.MERGES c.self.inside.number c.self.inside.count r c.self.inside.contexts.items c.self.inside.moment c.self.inside.cleared in
    let low = start_at r.log.bits c.args.page in
    let made = c.in-Ok.ensures in
    let due : IsTruncationDue r.log c.args.page = made.ok.0 refl in
    let below : low ≤ v.cleared = rw (← c.self.view_is) at c.requires.low in
    let cleared : IsTrue g.R.Receipt.keeps → IsCleared cmp r.log.text low = λ yes_keeps. cleared-below cmp r.log.text low v.cleared below (c.self.invariant.compacting.cleared yes_keeps) in
    let new = record v { records = c.truncate.new.self; moment = c.args.now } in
    whole-event v c.self.invariant new
    (subst (λ (w : RecordsView _ _). IsSound g.R.Receipt.keeps cmp join g.F.Functions.code (record v { records = w; moment = c.args.now })) (sym made.effect)
    (sound-truncated cmp join g.F.Functions.code order v c.self.invariant.sound low c.args.now due.higher
    cleared c.truncate.new.self.text
    (subst (IsTraced g.R.Receipt.keeps g.F.Functions.code) made.effect c.facts.ensures.traced)
    (subst (IsResolved cmp join) made.effect c.facts.ensures.resolved)))
    (truncates-bear cmp join g.F.Functions.code v c.self.invariant.sound new c.args.page c.args.now (Ok tt) order (λ yes_keeps at. cleared yes_keeps)
    (λ from limit clear. c.cleared_stay.ensures.dropped cmp r from limit clear) c.facts.ensures.traced c.facts.ensures.resolved
    (truncates due (ap (λ (w : RecordsView _ _). record v { records = w; moment = c.args.now }) made.effect) refl))
    refl refl refl (subst (λ (w : RecordsView _ _). w.log.begin ≤ v.cleared) (sym made.effect) below) (λ i x h. h)

pub returns-clause-effect : goal.returns-clause-effect
returns-clause-effect g c =
    let made = c.in-Ok.ensures in
    let r = c.self.inside.records in
    let v = view_of g.F.Mergeable.MERGES c.self.inside.number c.self.inside.count r c.self.inside.contexts.items c.self.inside.moment c.self.inside.cleared in
    rw (← c.self.view_is) (truncates (made.ok.0 refl) (ap (λ (w : RecordsView _ _). record v { records = w; moment = c.args.now }) made.effect) refl)

pub returns-clause-event : goal.returns-clause-event
returns-clause-event g c =
    let ord = g.met.F.Key.Ord in
    let facts = g.met.F.Key.FixedKey in
    let cmp = g.F.Key.Ord.cmp in
    let join = g.F.Mergeable.parts.joined in
    let order = key_order g.F.Key.PartialEq.eq cmp ord.matches_eq facts.exact ord.total in
    let r = c.self.inside.records in
    let v = view_of g.F.Mergeable.MERGES c.self.inside.number c.self.inside.count r c.self.inside.contexts.items c.self.inside.moment c.self.inside.cleared in
    let low = start_at r.log.bits c.args.page in
    let made = c.in-Ok.ensures in
    let due : IsTruncationDue r.log c.args.page = made.ok.0 refl in
    let below : low ≤ v.cleared = rw (← c.self.view_is) at c.requires.low in
    rw (← c.self.view_is)
    (subst (λ (w : RecordsView _ _). IsTruncation g.R.Receipt.keeps cmp v (record v { records = w; moment = c.args.now }) c.args.page c.args.now) (sym made.effect)
    (event-truncated cmp join g.F.Functions.code order v c.self.invariant.sound low c.args.now due.higher
    (λ yes_keeps. cleared-below cmp r.log.text low v.cleared below (c.self.invariant.compacting.cleared yes_keeps)) c.truncate.new.self.text
    (subst (IsTraced g.R.Receipt.keeps g.F.Functions.code) made.effect c.facts.ensures.traced)
    (subst (IsResolved cmp join) made.effect c.facts.ensures.resolved) c.args.page refl))

pub invariant_of-self : goal.invariant_of-self
invariant_of-self g c = rw c.in-Err.ensures.unchanged c.self.invariant

pub returns-in-Err-clause-unchanged : goal.returns-in-Err-clause-unchanged
returns-in-Err-clause-unchanged g c = ap (λ r. view_of g.F.Mergeable.MERGES c.self.inside.number c.self.inside.count r c.self.inside.contexts.items c.self.inside.moment c.self.inside.cleared) c.in-Err.ensures.unchanged ∙ c.self.view_is

pub returns-in-Err-clause-moment : goal.returns-in-Err-clause-moment
returns-in-Err-clause-moment g c = le_of_lt (subst (λ u. u.moment < c.args.now) (sym c.self.view_is) c.requires.later)

pub returns-clause-moment : goal.returns-clause-moment
returns-clause-moment g c = le_refl c.args.now

pub returns-in-Err-clause-effect : goal.returns-in-Err-clause-effect
returns-in-Err-clause-effect g c =
    truncate-refused g.R.Receipt.keeps _ c.args.self.now _ c.args.page c.args.now c.in-Err.refused c.self.view_is (ap (λ r. view_of g.F.Mergeable.MERGES c.self.inside.number c.self.inside.count r c.self.inside.contexts.items c.self.inside.moment c.self.inside.cleared) c.in-Err.ensures.unchanged) c.in-Err.ensures.ok c.in-Err.ensures.only
