use Rattle.std.proofs.Common.{◌<◌, refl, sym, ap, subst, ◌∙◌, Ok}
use Rattle.std.proofs.Math.Nat.{le_of_lt, le_refl}
use Rattle.fkv_partition.specs.Inside.{view_of}
use Rattle.fkv_partition.proofs.SoundLemmas.{sound-flushed}
use Rattle.fkv_partition.proofs.EventLemmas.{event-flushed, flush-refused, flush-taken}
use Rattle.fkv_partition.proofs.WholeLemmas.{whole-records}
use Rattle.fkv_partition.proofs.PreservedLemmas.{borne-by, know-flushed}
use Rattle.fkv_partition.proofs.GrownLemmas.{grown-flushed}
use Rattle.fkv_lookups.specs.RecordsViews.{with_receipt}
use Rattle.fkv_partition.proofs.EffectLemmas.{flushes-done, quiet-passed}
use Rattle.fkv_partition.proofs.SeatLemmas.{flushes-seats}
use Rattle.fkv_partition.proofs.StayLemmas.{flushes-all}
use Rattle.fkv_partition.proofs.partitions.Partition.flush_done.Goals as goal

pub returns-in-Err-clause-effect : goal.returns-in-Err-clause-effect
returns-in-Err-clause-effect g c =
    let made = c.in-Err.ensures in
    rw (made.unchanged, ← c.self.view_is) (flushes-done _ _ _ _ c.args.now _ (flush-refused _ _ _ c.args.now _ c.in-Err.refused refl made.refused made.only))

pub returns-in-Err-clause-pends : goal.returns-in-Err-clause-pends
returns-in-Err-clause-pends g c =
    rw (c.in-Err.ensures.unchanged, ← c.self.view_is) (λ s d. refl)

pub invariant_of-self-2 : goal.invariant_of-self-2
invariant_of-self-2 g c =
    let v = (view_of g.F.Mergeable.MERGES c.self.inside.number c.self.inside.count c.self.inside.records c.self.inside.contexts.items c.self.inside.moment c.self.inside.cleared) in
    let made = c.in-Ok.ensures in
    let sound = c.self.invariant.sound in
    let cmp = g.F.Key.Ord.cmp in
    let join = g.F.Mergeable.parts.joined in
    let code = g.F.Functions.code in
    let st = g.R.Receipt.stands c.args.written.receipt in
    rw made.done
    (whole-records v c.self.invariant (with_receipt v.records st) v.contexts c.args.now
    (sound-flushed sound _ c.args.now (rw made.done at c.facts.ensures.traced) (rw made.done at c.facts.ensures.resolved))
    (borne-by cmp join code v sound (record v { records = with_receipt v.records st; moment = c.args.now }) (with_receipt v.records st) refl (grown-flushed cmp join code v.records sound.traced st) (know-flushed cmp join code v.records sound.traced st))
    refl (λ i x h. h))

pub returns-clause-effect : goal.returns-clause-effect
returns-clause-effect g c =
    let made = c.in-Ok.ensures in
    rw (made.done, ← c.self.view_is) (flushes-done _ _ _ _ c.args.now _ (flush-taken _ _ _ c.args.now _ refl made.refused))

pub returns-clause-event : goal.returns-clause-event
returns-clause-event g c =
    let made = c.in-Ok.ensures in
    rw (made.done, ← c.self.view_is)
    (quiet-passed _ _ c.args.now c.self.invariant.sound (flushes-seats _ _ _ _ c.args.now (Ok tt) (flush-taken _ _ _ c.args.now _ refl made.refused))
    (event-flushed g.R.Receipt.keeps _ _ c.args.now))

pub returns-clause-pends : goal.returns-clause-pends
returns-clause-pends g c =
    let made = c.in-Ok.ensures in
    let st = g.R.Receipt.stands c.args.written.receipt in
    let v = (view_of g.F.Mergeable.MERGES c.self.inside.number c.self.inside.count c.self.inside.records c.self.inside.contexts.items c.self.inside.moment c.self.inside.cleared) in
    let new = (view_of g.F.Mergeable.MERGES c.self.inside.number c.self.inside.count (with_receipt c.self.inside.records st) c.self.inside.contexts.items c.args.now c.self.inside.cleared) in
    rw (made.done, ← c.self.view_is) (flushes-all g.F.Key.Ord.cmp v new st c.args.written.bytes c.args.now (Ok tt) (flush-taken v st c.args.written.bytes c.args.now _ refl made.refused))

pub invariant_of-self : goal.invariant_of-self
invariant_of-self g c = rw c.in-Err.ensures.unchanged c.self.invariant

pub returns-in-Err-clause-unchanged : goal.returns-in-Err-clause-unchanged
returns-in-Err-clause-unchanged g c = ap (λ r. view_of g.F.Mergeable.MERGES c.self.inside.number c.self.inside.count r c.self.inside.contexts.items c.self.inside.moment c.self.inside.cleared) c.in-Err.ensures.unchanged ∙ c.self.view_is

pub returns-in-Err-clause-moment : goal.returns-in-Err-clause-moment
returns-in-Err-clause-moment g c = le_of_lt (subst (λ u. u.moment < c.args.now) (sym c.self.view_is) c.requires.later)

pub returns-clause-moment : goal.returns-clause-moment
returns-clause-moment g c = le_refl c.args.now
