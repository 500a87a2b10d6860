-- What is kept under a lock stays so with an operation that is issued and finished in one call.
use Rattle.std.proofs.Common.{◌≡◌, Bool, ℕ, ◌+◌, ◌<◌, List, [], ◌∷◌, ◌++◌, length, Some, None, Result, Ok, slice_set, refl, sym, ap, subst, ◌∙◌, arith, length-append}
use Rattle.std.specs.declared.cmp.Ordering.{Ordering}
use Rattle.std.proofs.lemmas.List.Elements.{filter-append}
use Rattle.fkv_functions.specs.Meanings.{Meanings}
use Rattle.fkv_functions.specs.Plain.{Same}
use Rattle.fkv_functions.specs.declared.refusals.Refused.{Refused}
use Rattle.fkv_device.specs.Standing.{Standing}
use Rattle.fkv_operations.specs.Operations.{keyed, op_of, after_keyed, answer_keyed}
use Rattle.fkv_operations.specs.declared.operations.KeyedOp.{KeyedOp}
use Rattle.fkv_operations.specs.declared.operations.Answer.{Answer}
use Rattle.fkv_partition.specs.declared.contexts.Progress.{Progress}
use Rattle.fkv_partition.specs.declared.contexts.Progress.TheVariants.{Done}
use Rattle.fkv_partition.specs.AtOnce.{IsDoneAtOnce}
use Rattle.fkv_partition.specs.Beginning.{IssuesOnKey}
use Rattle.fkv_partition.specs.KeyBeginning as beginning
use Rattle.fkv_partition.specs.KeyGoing as going
use Rattle.fkv_partition.specs.KeySound.{IsSound}
use Rattle.fkv_partition.specs.Contexts.{relocating}
use Rattle.fkv_partition.specs.Views.{PartitionView, live_of, slots_of, relocation_at}
use Rattle.fkv_partition.specs.declared.contexts.OpenWork.TheVariants.{OnKey}
use Rattle.fkv_partition.specs.declared.contexts.Phase.TheVariants.{Fresh}
use Rattle.fkv_partition.specs.Effect.{Asked}
use Rattle.fkv_partition.specs.Events as events
use Rattle.fkv_partition.specs.Pending.{AllPend, OthersPend}
use Rattle.fkv_partition.proofs.AskedLemmas.{keyed-op, shown-stays}
use Rattle.fkv_partition.proofs.AtOnceLemmas.{sound-issued, free-held, free-relocation}
use Rattle.fkv_partition.proofs.EffectLemmas.{asked-low}
use Rattle.fkv_histories.specs.declared.entries.Entry.{Entry}
use Rattle.fkv_histories.specs.Histories.{is_update_entry, updates}
use Rattle.fkv_locked.specs.Kept.{seen, place_of, IsFaithful}
use Rattle.fkv_locked.proofs.KeptLemmas.{orderly, kept_done, kept_unmarked, marked_same, marked_other}
use Rattle.fkv_locked.proofs.TurnLemmas.{issue_keeps}

module _ {K V I : Type 0} (code : K → ℕ) (old between : PartitionView K V I) (slot c issued : ℕ) (op : KeyedOp K V I) where
  -- an issue of an operation, as the core makes it
  record Begun : Type 0 where
    issues : beginning.Issues code old between slot c op issued
    none : relocation_at between slot c ≡ None

  begun_on_key : IssuesOnKey code old between slot op issued (Ok c) → Begun
  begun_on_key (IssuesOnKey.unknown a b h) = absurd (cc)
  begun_on_key (IssuesOnKey.stranger a n b h) = absurd (cc)
  begun_on_key (IssuesOnKey.unmerged a own m f b h) = absurd (cc)
  begun_on_key (IssuesOnKey.full a own m none b h) = absurd (cc)
  begun_on_key (IssuesOnKey.issues b inside own m free is h) =
      let same : c ≡ b = cc in
      rw (is, same)
      (record {
        issues = record { entered = inside; low = free.0; free = free-held old slot b inside free.0 free.1; own = own; merging = m; is = refl };
        none = shown-stays relocating refl (slots_of old) old.contexts slot b slot b (Some (OnKey (record { number = issued; op = op; phase = Fresh }))) (ap relocating free.1) refl
            ∙ free-relocation old slot b inside free.0 free.1;
      })

  begun : events.Issues code old between slot (op_of op) issued (Ok c) → Begun
  begun (events.Issues.on_key o is h) =
      let one : Some o ≡ Some op = sym is ∙ keyed-op op in
      let same : o ≡ op = cc in
      begun_on_key (subst (λ p. IssuesOnKey code old between slot p issued (Ok c)) same h)
  begun (events.Issues.relocation is h) = let bad : Some op ≡ None = sym (keyed-op op) ∙ ap keyed is in absurd (cc)

  -- and it goes on as the core goes on
  gone_on_key : {O R : Type 0} (stands : R → Standing) (cmp : K → K → Ordering) (join : V → V → V) (f : Meanings K V I O) (new : PartitionView K V I) (now : ℕ) (result : Result (Progress K V I O R) Refused)
      → relocation_at between slot c ≡ None
      → events.Goes stands cmp join f code between new slot c now result
      → going.Goes stands cmp join f code between new slot c now result
  gone_on_key stands cmp join f new now result none (events.Goes.on_key n h rest) = h
  gone_on_key stands cmp join f new now result none (events.Goes.relocation x is h) = let bad : None ≡ Some x = sym none ∙ is in absurd (cc)

module _ {K V I O R : Type 0} (cmp : K → K → Ordering) (join : V → V → V) (f : Meanings K V I O) (stands : R → Standing) (code : K → ℕ) (old new : PartitionView K V I) (slot : ℕ) (op : KeyedOp K V I) (issued now : ℕ) (answer : Answer O)
    (d : IsDoneAtOnce stands cmp join f code old new slot op issued now answer) (keeps : Bool) (sound : IsSound keeps cmp join code old) (few : slot < 16) (later : old.moment < issued) (after : issued < now)
    (issue_law : (p q : PartitionView K V I) → beginning.Issues code p q slot d.context op issued → AllPend cmp p q)
    (go_law : (p q : PartitionView K V I) → IsSound keeps cmp join code p → going.Goes stands cmp join f code p q slot d.context now (Ok (Done answer now)) → OthersPend cmp p q slot d.context) where
  pub at_once_keeps : (es : List (Entry K V I O)) (lows looks : List ℕ) (book : ℕ) → IsFaithful cmp f (seen cmp old) es lows looks book → length lows ≡ 128
      → (e : Entry K V I O) → e.op ≡ op → e.answer ≡ answer
      → e.low ≡ length (updates es)
      → e.at ≡ length (updates es)
      → e.high ≡ length (updates es)
      → IsFaithful cmp f (seen cmp new) (es ++ e ∷ []) lows looks (book + 1)
  at_once_keeps es lows looks book k long e op_is told low at high =
      let c = d.context in
      let us = updates es in
      let begin = begun code old d.between slot c issued op d.issues in
      let eight = asked-low d.between slot c (record { number = issued; op = op_of op }) d.issue.opened in
      let within : place_of slot c < length lows = omega arith in
      let lows' = slice_set lows (place_of slot c) (length us) in
      let mid = issue_keeps cmp f old d.between es lows looks book issued k slot c (op_of op) code lows' eight later d.issue (issue_law old d.between begin.issues) refl within in
      let sound' = sound-issued keeps cmp join code old d.between slot c issued op sound few begin.issues in
      let others = go_law d.between new sound' (gone_on_key code old d.between slot c issued op stands cmp join f new now (Ok (Done answer now)) begin.none d.goes) in
      let first = d.issue.frame.moment in
      let second = d.event.frame.moment in
      let x = d.event.question in
      let same : Some x ≡ Some (record { number = issued; op = op_of op }) = sym d.event.was ∙ d.issue.opened in
      let x_is : x ≡ record { number = issued; op = op_of op } = cc in
      let key_is : keyed x.op ≡ Some e.op = ap (λ (z : Asked K V I). keyed z.op) x_is ∙ (keyed-op op ∙ ap Some (sym op_is)) in
      let done = kept_done cmp f (seen cmp d.between) (seen cmp new) (omega arith) (orderly cmp d.between) (orderly cmp new) slot c eight d.event.frame.others others es lows' looks book mid e d.event.effect.0
      (subst (λ t. Same (live_of cmp new) (after_keyed cmp f (live_of cmp d.between) t)) key_is d.event.effect.2)
      (told ∙ (d.event.effect.3 ∙ ap (answer_keyed f (live_of cmp d.between)) key_is)) at high (low ∙ sym (marked_same lows lows' (place_of slot c) (length us) refl within)) in
      let grown : updates (es ++ e ∷ []) ≡ us ++ updates (e ∷ []) = filter-append is_update_entry es (e ∷ []) in
      kept_unmarked cmp f (seen cmp new) (orderly cmp new) slot c eight d.event.effect.0 (es ++ e ∷ []) lows lows' looks (book + 1)
      (λ i n. sym (marked_other lows lows' (place_of slot c) i (length us) refl n))
      (λ i. let was = k.issued i in omega (arith, ap length grown, length-append us (updates (e ∷ [])))) done
