use Rattle.std.proofs.Common.{◌≡◌, ◌^◌, ℕ, true, Some, Ok, Err, refl, sym, ap, ◌∙◌}
use Rattle.std.proofs.Math.Nat.{le_of_lt, le_refl}
use Rattle.std.specs.declared.cmp.Ordering.{Ordering}
use Rattle.fkv_device.specs.Standing.{Standing}
use Rattle.fkv_functions.specs.Meanings.{Meanings, Parts, Merges}
use Rattle.fkv_functions.specs.Plain.{Same, with_at}
use Rattle.fkv_operations.specs.After.{key_of, is_merge}
use Rattle.fkv_operations.specs.declared.entries.IndexEntry.{IndexEntry}
use Rattle.fkv_operations.specs.declared.operations.Answer.{Answer}
use Rattle.fkv_texts.specs.Text.{live}
use Rattle.fkv_lookups.specs.Payloads.{standing}
use Rattle.fkv_lookups.specs.RecordsViews.{with_written}
use Rattle.fkv_hybrid.specs.Views.{IsFull}
use Rattle.fkv_lookups.specs.declared.decisions.Decision.TheVariants.{Append}
use Rattle.fkv_lookups.specs.declared.payloads.Payload.{Payload}
use Rattle.fkv_partition.specs.declared.contexts.Context.{Context}
use Rattle.fkv_partition.specs.declared.contexts.Progress.TheVariants.{Done}
use Rattle.fkv_partition.specs.declared.contexts.Wait.TheVariants.{Full}
use Rattle.fkv_partition.specs.Contexts.{claim_by}
use Rattle.fkv_partition.specs.KeyEffect.{IsEvent}
use Rattle.fkv_partition.specs.KeyGoing.{Decides, Goes, appends, worn, full}
use Rattle.fkv_partition.specs.Views.{PartitionView, found_for, live_of, with_payload}
use Rattle.fkv_partition.proofs.AppendedLemmas.{appended-of, not-full, not-worn}
use Rattle.fkv_partition.proofs.EventLemmas.{event-appends, event-waits, claims-none, merging-at}
use Rattle.fkv_partition.proofs.partitions.Partition.write.Goals as goal

-- the record of the operation's key was appended
module _ {K V I O : Type 0} (cmp : K → K → Ordering) (join : V → V → V) (f : Meanings K V I O) (code : K → ℕ) (v new : PartitionView K V I) (slot c now : ℕ) (e : IndexEntry) (payload : Payload V) (a : Answer O) (x : Context K V I) (key : K) (own : key_of x.op ≡ key) (d : Decides cmp join f code v slot c x (Append payload a)) (made : new ≡ with_payload v slot c e key payload (standing join (live_of cmp v key) payload) now) where
  made-here : new ≡ with_payload v slot c e (key_of x.op) payload (standing join (live_of cmp v (key_of x.op)) payload) now
  made-here = made ∙ ap (λ k. with_payload v slot c e k payload (standing join (live_of cmp v k) payload) now) (sym own)

  write-goes : {R : Type 0} (stands : R → Standing) → found_for code v key ≡ Some e → (v.records.log.tail ≡ 2 ^ 48 → ⊥) → (IsFull v.records.log → ⊥) → Goes stands cmp join f code v new slot c now (Ok (Done a now))
  write-goes stands found low room = appends x payload a e d (ap (found_for code v) own ∙ found) low room made-here refl

  write-event : {R : Type 0} (p : Parts K V I) → (p.joined ≡ join) → (is_merge x.op ≡ true → Merges f p)
      → Same (live cmp (with_written v.records e (key_of x.op) payload (standing p.joined (live_of cmp v (key_of x.op)) payload)).text) (with_at cmp (live_of cmp v) (key_of x.op) (standing p.joined (live_of cmp v (key_of x.op)) payload))
      → IsEvent {R = R} cmp f v new slot c now (Done a now)
  write-event p joins merges lives =
      rw (made-here, ← joins) (event-appends cmp join f code v slot c now x d.here p merges e payload a lives d.decided)

pub append-requires-clause-unclaimed : goal.append-requires-clause-unclaimed
append-requires-clause-unclaimed g c =
    let d = c.requires.decided in
    claims-none c.args.self.now c.args.slot c.args.context d.operation d.decides.here (ap claim_by d.decides.fresh)

pub returns-in-Err-clause-effect : goal.returns-in-Err-clause-effect
returns-in-Err-clause-effect g c =
    let w = c.args.write in
    let d = c.requires.decided in
    let e = c.in-Err.ensures.only in
    rw c.in-Err.ensures.unchanged (worn d.operation w.payload c.args.answer d.decides (c.in-Err.ensures.worn.0 (ap Err e)) refl (ap Err e))

pub returns-in-Ok-None-clause-effect : goal.returns-in-Ok-None-clause-effect
returns-in-Ok-None-clause-effect g c =
    let w = c.args.write in
    let d = c.requires.decided in
    let is = ap Ok c.in-Ok-None.field-0-is in
    rw (c.in-Ok-None.ensures.full is) (full d.operation w.payload c.args.answer d.decides (c.in-Ok-None.ensures.room.0 is) refl refl)

pub returns-in-Ok-None-clause-event : goal.returns-in-Ok-None-clause-event
returns-in-Ok-None-clause-event g c =
    let d = c.requires.decided in
    let is = ap Ok c.in-Ok-None.field-0-is in
    rw (c.in-Ok-None.ensures.full is) (event-waits g.F.Key.Ord.cmp g.F.Mergeable.parts.joined g.F.Functions.meaning g.F.Functions.code c.args.self.now c.args.slot c.args.context c.args.now d.operation d.decides.here Full)

pub append-requires-clause-write : goal.append-requires-clause-write
append-requires-clause-write g c = c.requires.write

pub returns-in-Err-clause-unchanged : goal.returns-in-Err-clause-unchanged
returns-in-Err-clause-unchanged g c = c.in-Err.ensures.unchanged

pub returns-in-Err-clause-moment : goal.returns-in-Err-clause-moment
returns-in-Err-clause-moment g c = rw c.in-Err.ensures.unchanged (le_of_lt c.requires.later)

pub returns-in-Ok-None-clause-moment : goal.returns-in-Ok-None-clause-moment
returns-in-Ok-None-clause-moment g c = rw (c.in-Ok-None.ensures.full (ap Ok c.in-Ok-None.field-0-is)) (le_refl c.args.now)

pub returns-in-Ok-Some-clause-effect : goal.returns-in-Ok-Some-clause-effect
returns-in-Ok-Some-clause-effect g c =
    let w = c.args.write in
    let d = c.requires.decided in
    let is = c.in-Ok-Some.field-0-is in
    let made = c.in-Ok-Some.ensures in
    write-goes g.F.Key.Ord.cmp g.F.Mergeable.parts.joined g.F.Functions.meaning g.F.Functions.code c.args.self.now c.append.new.self c.args.slot c.args.context c.args.now w.entry w.payload c.args.answer d.operation w.key d.key_is d.decides (appended-of _ _ is made.ok)
    g.R.Receipt.stands c.requires.entry (not-worn _ _ made.worn) (not-full _ _ is made.room)

pub returns-in-Ok-Some-clause-event : goal.returns-in-Ok-Some-clause-event
returns-in-Ok-Some-clause-event g c =
    let w = c.args.write in
    let d = c.requires.decided in
    let v = c.args.self.now in
    write-event g.F.Key.Ord.cmp g.F.Mergeable.parts.joined g.F.Functions.meaning g.F.Functions.code v c.append.new.self c.args.slot c.args.context c.args.now w.entry w.payload c.args.answer d.operation w.key d.key_is d.decides (appended-of _ _ c.in-Ok-Some.field-0-is c.in-Ok-Some.ensures.ok)
    g.F.Mergeable.parts refl
    (λ m. g.met.F.Mergeable.merges (merging-at v g.F.Mergeable.MERGES c.args.slot c.args.context d.operation c.facts.ensures.sound (sym c.merges-merges.ensures.functions ∙ c.merges-merges.ensures.value) d.decides.here m))
    (c.records_grow.ensures.lives g.F.Key.Ord.cmp v.records w.entry (key_of d.operation.op) w.payload _)

pub returns-in-Ok-Some-clause-moment : goal.returns-in-Ok-Some-clause-moment
returns-in-Ok-Some-clause-moment g c = rw (appended-of _ _ c.in-Ok-Some.field-0-is c.in-Ok-Some.ensures.ok) (le_refl c.args.now)
