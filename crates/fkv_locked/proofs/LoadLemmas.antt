-- What a page that came makes of an operation on a key, for a history.
use Rattle.std.proofs.Common.{◌≡◌, Bool, ℕ, ◌<◌, ◌≤◌, List, Option, Some, None, refl, sym, ap, subst, ◌∙◌, arith}
use Rattle.std.specs.Prelude.{Result, Ok}
use Rattle.std.specs.declared.cmp.Ordering.{Ordering}
use Rattle.std.proofs.lemmas.Bool.{eq-eqb}
use Rattle.fkv_functions.specs.Meanings.{Meanings}
use Rattle.fkv_functions.specs.Plain.{Same}
use Rattle.fkv_functions.specs.declared.refusals.Refused.{Refused}
use Rattle.fkv_device.specs.Standing.{Standing, Joined}
use Rattle.fkv_texts.specs.declared.entries.Entry.{Entry}
use Rattle.fkv_texts.specs.Text.{newest, value_of}
use Rattle.fkv_index.specs.Words.{address_of}
use Rattle.fkv_operations.specs.After.{key_of}
use Rattle.fkv_operations.specs.Operations.{keyed, op_of}
use Rattle.fkv_operations.specs.declared.operations.KeyedOp.{KeyedOp}
use Rattle.fkv_operations.specs.declared.operations.KeyedOp.TheVariants as on_key
use Rattle.fkv_operations.specs.declared.operations.Op.TheVariants.{Read, Relocate}
use Rattle.fkv_operations.specs.declared.operations.Answer.{Answer}
use Rattle.fkv_partition.specs.declared.contexts.Progress.{Progress}
use Rattle.fkv_partition.specs.declared.contexts.Progress.TheVariants.{Done, Next, NeedsBuild, NeedsLoad, Waits}
use Rattle.fkv_partition.specs.declared.contexts.Phase.TheVariants.{Load}
use Rattle.fkv_partition.specs.Contexts.{at_phase}
use Rattle.fkv_partition.specs.KeyLoading as core_loading
use Rattle.fkv_partition.specs.Pending.{Pending, pending, OthersPend}
use Rattle.fkv_partition.specs.Views.{PartitionView, live_of}
use Rattle.fkv_locked.proofs.ContextLemmas.{was-pending, same-pend}
use Rattle.fkv_partition.specs.Events.{Loads}
use Rattle.fkv_partition.specs.Effect.{Asked, asked, IsEvent, IsLoaded, IsLoad, Finds, to_find}
use Rattle.fkv_partition.proofs.EffectLemmas.{relocation-asked}
use Rattle.fkv_partition.proofs.AskedLemmas.{keyed-op}
use Rattle.fkv_locked.specs.declared.open_operations.OpenOperation.{OpenOperation}
use Rattle.fkv_locked.specs.Turns.{question_of, HasCome, IsCome}
use Rattle.fkv_locked.proofs.KeptLemmas.{op-same}

-- what is pending, and when it was looked up
pub record IsLookedUp {V : Type 0} (o : Option (Pending V)) (moment : ℕ) : Type 0 where
  pub found : Pending V
  pub is : o ≡ Some found
  pub at : found.moment ≡ moment

module _ {K V I O R : Type 0} (stands : R → Standing) (entry : ℕ → List ℕ → ℕ → Entry K V → Type 0) (cmp : K → K → Ordering) (join : V → V → V) (f : Meanings K V I O) (old new : PartitionView K V I)
    (slot c : ℕ) (came : Result (Joined R) Refused) (now : ℕ) where
  -- a read that a page finishes has its effect at its look-up
  loads-done : (a : Answer O) (effect : ℕ) → core_loading.Loads stands entry cmp join f old new slot c came now (Ok (Done a effect)) → IsLookedUp (pending cmp old slot c) effect
  loads-done a effect (core_loading.Loads.unknown h n r) = absurd (cc)
  loads-done a effect (core_loading.Loads.not_ready x h l n r) = absurd (cc)
  loads-done a effect (core_loading.Loads.moved x l h p b n r) = absurd (cc)
  loads-done a effect (core_loading.Loads.failed x l why w e m n r) = absurd (cc)
  loads-done a effect (core_loading.Loads.unread x l w e n r) = absurd (cc)
  loads-done a effect (core_loading.Loads.stranger x l p s w e g m n r) = absurd (cc)
  loads-done a effect (core_loading.Loads.damaged x l p why w e n r) = absurd (cc)
  loads-done a effect (core_loading.Loads.bad_link x l p b parts w e g m n r) = absurd (cc)
  loads-done a effect (core_loading.Loads.done x l p k i value told e op n r) =
      let at : effect ≡ l.looked = cc in
      record { found = _; is = was-pending cmp old slot c now x told.reads.awaits.here l told.reads.awaits; at = sym at }
  loads-done a effect (core_loading.Loads.prepares x l p k i value told e op n r) = absurd (cc)
  loads-done a effect (core_loading.Loads.goes_on x l p b parts q w e g m h n r) = absurd (cc)
  loads-done a effect (core_loading.Loads.unshared x l p b parts w e g m n r) = absurd (cc)

  -- a look-up that goes on in another page is the same look-up
  pub loads-further : (q : R) (a moment : ℕ) → core_loading.Loads stands entry cmp join f old new slot c came now (Ok (NeedsLoad q a)) → IsLookedUp (pending cmp new slot c) moment
      → IsLookedUp (pending cmp old slot c) moment
  loads-further q a moment (core_loading.Loads.unknown h n r) is = absurd (cc)
  loads-further q a moment (core_loading.Loads.not_ready x h l n r) is = absurd (cc)
  loads-further q a moment (core_loading.Loads.moved x l h p b n r) is = absurd (cc)
  loads-further q a moment (core_loading.Loads.failed x l why w e m n r) is = absurd (cc)
  loads-further q a moment (core_loading.Loads.unread x l w e n r) is = absurd (cc)
  loads-further q a moment (core_loading.Loads.stranger x l p s w e g m n r) is = absurd (cc)
  loads-further q a moment (core_loading.Loads.damaged x l p why w e n r) is = absurd (cc)
  loads-further q a moment (core_loading.Loads.bad_link x l p b parts w e g m n r) is = absurd (cc)
  loads-further q a moment (core_loading.Loads.done x l p k i value told e op n r) is = absurd (cc)
  loads-further q a moment (core_loading.Loads.prepares x l p k i value told e op n r) is = absurd (cc)
  loads-further q a moment (core_loading.Loads.goes_on x l p b parts s w e g m h n r) is =
      let new-is : pending cmp new slot c ≡ Some (record { moment = l.looked; value = value_of (newest cmp old.records.text (key_of x.op) (address_of l.kept.word)) }) =
      ap (λ (v : PartitionView K V I). pending cmp v slot c) n
      ∙ (same-pend cmp old slot c now x w.awaits.here (Some (at_phase x (Load (record l { wanted = b; parts = parts }))))
      ∙ rw (eq-eqb l.begin old.records.log.begin w.awaits.begin) refl) in
      let both : Some (record { moment = l.looked; value = value_of (newest cmp old.records.text (key_of x.op) (address_of l.kept.word)) }) ≡ Some is.found = sym new-is ∙ is.is in
      let looked : l.looked ≡ is.found.moment = cc in
      record { found = _; is = was-pending cmp old slot c now x w.awaits.here l w.awaits; at = looked ∙ is.at }
  loads-further q a moment (core_loading.Loads.unshared x l p b parts w e g m n r) is = absurd (cc)

-- an operation on a key and a relocation are told apart by what they ask
not-relocate : {K V I : Type 0} (op : KeyedOp K V I) → op_of op ≡ Relocate → ⊥
not-relocate op h = let bad : Some op ≡ None = sym (keyed-op op) ∙ ap keyed h in absurd (cc)

module _ {K V I O R : Type 0} (stands : R → Standing) (entry : ℕ → List ℕ → ℕ → Entry K V → Type 0) (cmp : K → K → Ordering) (join : V → V → V) (f : Meanings K V I O) (code : K → ℕ)
    (old new : PartitionView K V I) (operation : OpenOperation K V I) (came : Result (Joined R) Refused) (now : ℕ)
    (asks : asked old operation.session.slot operation.context ≡ Some (question_of operation))
    (early : (p : Pending V) → pending cmp old operation.session.slot operation.context ≡ Some p → p.moment ≤ old.moment)
    (later : old.moment < now) where
  core-loads : (r : Result (Progress K V I O R) Refused) → Loads stands entry cmp join f code old new operation.session.slot operation.context came now r
      → core_loading.Loads stands entry cmp join f old new operation.session.slot operation.context came now r
  core-loads r (Loads.on_key none does passed) = does
  core-loads r (Loads.relocation x h does) =
      let both : Some (question_of operation) ≡ Some (record { number = x.number; op = Relocate }) = sym asks ∙ relocation-asked old operation.session.slot operation.context x h in
      let same : question_of operation ≡ record { number = x.number; op = Relocate } = cc in
      let op : op_of operation.op ≡ Relocate = ap (λ (y : Asked K V I). y.op) same in
      absurd (not-relocate operation.op op)

  looked-now : IsLookedUp (pending cmp old operation.session.slot operation.context) now → ⊥
  looked-now l =
      let le = early l.found l.is in
      let at = l.at in
      absurd (omega arith)

  op-is : (x : Asked K V I) → asked old operation.session.slot operation.context ≡ Some x → x ≡ question_of operation
  op-is x was = let both : Some x ≡ Some (question_of operation) = sym was ∙ asks in cc

  loaded-come : (p : Progress K V I O R) → IsLoaded cmp f old new operation.session.slot operation.context now p
      → HasCome f operation (asked new operation.session.slot operation.context) (pending cmp old operation.session.slot operation.context) (pending cmp new operation.session.slot operation.context) p
  loaded-come (Done a effect) l =
      let found = l.effect.1 in
      let read = found.3 in
      let x_op : op_of operation.op ≡ Read read.0 read.1 = sym (ap (λ (x : Asked K V I). x.op) (op-is l.question l.was)) ∙ read.2 in
      (l.effect.0, (found.0, found.1, (read.0, read.1, op-same operation.op (on_key.Read read.0 read.1) x_op, read.3)))
  loaded-come Next l = l.effect.2
  loaded-come (NeedsBuild ask) l = l.effect.1
  loaded-come (NeedsLoad r a) l = (l.effect.0 ∙ ap Some (op-is l.question l.was), l.effect.1)
  loaded-come (Waits why) l = absurd l.effect

  event-come : (p : Progress K V I O R) → core_loading.Loads stands entry cmp join f old new operation.session.slot operation.context came now (Ok p)
      → IsEvent cmp f old new operation.session.slot operation.context now p
      → Finds cmp old new operation.session.slot operation.context now p
      → HasCome f operation (asked new operation.session.slot operation.context) (pending cmp old operation.session.slot operation.context) (pending cmp new operation.session.slot operation.context) p
  event-come (Done a effect) does ev finds =
      absurd (looked-now (subst (IsLookedUp (pending cmp old operation.session.slot operation.context)) ev.effect.1
      (loads-done stands entry cmp join f old new operation.session.slot operation.context came now a effect does)))
  event-come Next does ev finds = finds
  event-come (NeedsBuild ask) does ev finds = finds
  event-come (NeedsLoad r a) does ev finds =
      let y = op-is finds.question finds.was in
      let asking = finds.asks ∙ (ap (λ (z : Asked K V I). to_find cmp old now (keyed z.op)) y ∙ ap (to_find cmp old now) (keyed-op operation.op)) in
      absurd (looked-now (loads-further stands entry cmp join f old new operation.session.slot operation.context came now r a now does (record { found = _; is = asking; at = refl })))
  event-come (Waits why) does ev finds = finds

  event-live : (p : Progress K V I O R) → core_loading.Loads stands entry cmp join f old new operation.session.slot operation.context came now (Ok p)
      → IsEvent cmp f old new operation.session.slot operation.context now p
      → Same (live_of cmp new) (live_of cmp old)
  event-live (Done a effect) does ev =
      absurd (looked-now (subst (IsLookedUp (pending cmp old operation.session.slot operation.context)) ev.effect.1
      (loads-done stands entry cmp join f old new operation.session.slot operation.context came now a effect does)))
  event-live Next does ev = ev.effect.1
  event-live (NeedsBuild ask) does ev = ev.effect.1
  event-live (NeedsLoad r a) does ev = ev.effect.1
  event-live (Waits why) does ev = ev.effect.1

  pub load_comes : (p : Progress K V I O R) → Loads stands entry cmp join f code old new operation.session.slot operation.context came now (Ok p)
      → IsLoad cmp f old new operation.session.slot operation.context now p
      → OthersPend cmp old new operation.session.slot operation.context
      → IsCome cmp f old new operation p
  load_comes p does (IsLoad.on_key l) others =
      let at = l.frame.moment in
      record { asks = asks; later = omega arith; effect = loaded-come p l; live = l.live; rest = l.frame.others; others = others }
  load_comes p does (IsLoad.relocation ev finds) others =
      let at = ev.frame.moment in
      let core = core-loads (Ok p) does in
      record { asks = asks; later = omega arith; effect = event-come p core ev finds; live = event-live p core ev; rest = ev.frame.others; others = others }
