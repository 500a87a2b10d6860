-- How an operation ends that was issued and driven.
use Rattle.std.proofs.Common.{◌≡◌, ◌<◌, ◌≤◌, ◌+◌, ◌-◌, ◌*◌, inl, ℕ, Bool, List, Option, Some, None, option_map, slice_get, slice_set, length, get_or, Ok, Err, refl, sym, ◌∙◌, ap, subst, arith}
use Rattle.std.proofs.lemmas.Option.{slice_get-get_or}
use Rattle.std.specs.declared.cmp.Ordering.{Ordering}
use Rattle.fkv_functions.proofs.ListLemmas.{get-set_same}
use Rattle.fkv_functions.specs.Meanings.{Meanings}
use Rattle.fkv_functions.specs.declared.refusals.Refused.{Refused}
use Rattle.fkv_functions.specs.declared.refusals.Refused.TheVariants.{Stalled}
use Rattle.fkv_device.specs.Standing.{Standing}
use Rattle.fkv_index.specs.declared.words.Word.{Word}
use Rattle.fkv_lookups.specs.RecordsViews.{RecordsView}
use Rattle.fkv_operations.specs.declared.operations.KeyedOp.{KeyedOp}
use Rattle.fkv_partition.specs.declared.contexts.Context.{Context}
use Rattle.fkv_partition.specs.declared.contexts.OpenWork.{OpenWork}
use Rattle.fkv_partition.specs.declared.contexts.OpenWork.TheVariants.{OnKey}
use Rattle.fkv_partition.specs.declared.contexts.Phase.TheVariants.{Fresh}
use Rattle.fkv_partition.specs.declared.contexts.Progress.{Progress}
use Rattle.fkv_partition.specs.declared.contexts.Progress.TheVariants.{Done, Next, NeedsBuild, NeedsLoad, Waits}
use Rattle.fkv_partition.specs.Beginning.{IsFirstFree, IssuesOnKey}
use Rattle.fkv_partition.specs.Contexts.{joined, on_key, relocating}
use Rattle.fkv_partition.specs.KeyEffect.{asked, asked_by}
use Rattle.fkv_partition.specs.Views.{PartitionView, slots_of, context_at, with_context}
use Rattle.fkv_partition.specs.Events.{IsPassedOn}
use Rattle.fkv_alone.specs.Stages.{IsReady, IsDone, IsWaiting, HasCome}
use Rattle.fkv_alone.specs.Ending.{IsOver, IsStop, IsOn, Opens, Drives, Ends}
use Rattle.fkv_partition.proofs.AskedLemmas.{context-inside, context-other, shown-set}
use Rattle.fkv_alone.proofs.DriveLemmas.{halted-over}

-- an operation was issued in this context
pub record HasIssued {K V I : Type 0} (code : K → ℕ) (old new : PartitionView K V I) (slot c now : ℕ) (op : KeyedOp K V I) : Type 0 where
  pub opens : Opens code old slot c op
  pub is : new ≡ with_context old slot c (Some (record { number = now; op = op; phase = Fresh })) now

pub issue-told : {K V I : Type 0} (code : K → ℕ) (old new : PartitionView K V I) (slot c now : ℕ) (op : KeyedOp K V I) → IssuesOnKey code old new slot op now (Ok c) → HasIssued code old new slot c now op
issue-told code old new slot c now op (IssuesOnKey.unknown a is r) = absurd (cc)
issue-told code old new slot c now op (IssuesOnKey.stranger a b is r) = absurd (cc)
issue-told code old new slot c now op (IssuesOnKey.unmerged a b merge lacks is r) = absurd (cc)
issue-told code old new slot c now op (IssuesOnKey.full a b merges d is r) = absurd (cc)
issue-told code old new slot c now op (IssuesOnKey.issues d a b merges free is r) =
    let same : d ≡ c = cc in
    record {
      opens = record { entered = a; own = b; free = subst (λ n. IsFirstFree old slot (Some n)) same free };
      is = subst (λ n. new ≡ with_context old slot n (Some (record { number = now; op = op; phase = Fresh })) now) same is;
    }

pub issue-stalled : {K V I : Type 0} (code : K → ℕ) (old new : PartitionView K V I) (slot now : ℕ) (op : KeyedOp K V I) (why : Refused) → IssuesOnKey code old new slot op now (Err why) → why ≡ Stalled → ⊥
issue-stalled code old new slot now op why (IssuesOnKey.unknown a is q) t = absurd (cc)
issue-stalled code old new slot now op why (IssuesOnKey.stranger a b is q) t = absurd (cc)
issue-stalled code old new slot now op why (IssuesOnKey.unmerged a b merge lacks is q) t = absurd (cc)
issue-stalled code old new slot now op why (IssuesOnKey.full a b merges d is q) t = absurd (cc)
issue-stalled code old new slot now op why (IssuesOnKey.issues d a b merges free is q) t = absurd (cc)

pub stop-stalled : {keeping : Bool} (tail before after : ℕ) (why : Refused) → IsStop keeping tail before after why → why ≡ Stalled → ⊥
stop-stalled tail before after why (IsStop.memory m g) t = absurd (cc)
stop-stalled tail before after why (IsStop.worn m last g) t = absurd (cc)
stop-stalled tail before after why (IsStop.device page m g) t = absurd (cc)
stop-stalled tail before after why (IsStop.damaged page m g) t = absurd (cc)
stop-stalled tail before after why (IsStop.misspelled page loose m g) t = absurd (cc)

-- it is ready, and fresh
pub record IsBegun {K V I : Type 0} (old new : PartitionView K V I) (slot c now : ℕ) (op : KeyedOp K V I) : Type 0 where
  pub ready : IsReady op old new slot c now
  pub fresh : ready.operation.phase ≡ Fresh

module _ {K V I : Type 0} (code : K → ℕ) (old new : PartitionView K V I) (slot c now : ℕ) (op : KeyedOp K V I) (h : HasIssued code old new slot c now op) where
  pub issue-rest : IsPassedOn old new
  issue-rest = record {
    cleared = ap (λ (u : PartitionView K V I). u.cleared) h.is;
    relocations = λ p.
        ap (λ (u : PartitionView K V I). relocating (joined (slice_get u.contexts p))) h.is
        ∙ shown-set {A = OpenWork K V I} relocating refl old.contexts (slot * 8 + c) p (Some (OnKey (record { number = now; op = op; phase = Fresh }))) (ap (λ (o : Option (OpenWork K V I)). relocating o) h.opens.free.1) refl;
  }

  -- no relocation stands in its context
  pub issue-none : relocating (joined (slice_get new.contexts (slot * 8 + c))) ≡ None
  issue-none =
      ap (λ (u : PartitionView K V I). relocating (joined (slice_get u.contexts (slot * 8 + c)))) h.is
      ∙ shown-set {A = OpenWork K V I} relocating refl old.contexts (slot * 8 + c) (slot * 8 + c) (Some (OnKey (record { number = now; op = op; phase = Fresh }))) (ap (λ (o : Option (OpenWork K V I)). relocating o) h.opens.free.1) refl
      ∙ ap (λ (o : Option (OpenWork K V I)). relocating o) h.opens.free.1

  pub issue-begun : length old.contexts ≡ 128 → slot < 16 → IsBegun old new slot c now op
  issue-begun places small =
      let x : Context K V I = record { number = now; op = op; phase = Fresh } in
      let records : new.records ≡ old.records = ap (λ (u : PartitionView K V I). u.records) h.is in
      let low = h.opens.free.0 in
      let within : slot * 8 + c < length old.contexts = omega arith in
      record {
        ready = record {
          operation = x;
          open_is = record {
            here = ap (λ (u : PartitionView K V I). context_at u slot c) h.is
                ∙ ap on_key (context-inside (slots_of old) (slice_set old.contexts (slot * 8 + c) (Some (OnKey x))) slot c h.opens.entered low
                ∙ ap joined (get-set_same old.contexts (slot * 8 + c) (get_or old.contexts (slot * 8 + c) None) (Some (OnKey x)) (slice_get-get_or old.contexts (slot * 8 + c) None within)));
            number = refl;
            op_is = refl;
            records = records ∙ ap (λ (ws : List (List Word)). record old.records { words = ws }) (sym (ap (λ (r : RecordsView K V). r.words) records));
            begun = (let m : new.moment ≡ now = ap (λ (u : PartitionView K V I). u.moment) h.is in omega arith);
            frame = record {
              others = λ s d other. ap (λ (u : PartitionView K V I). asked u s d) h.is ∙ ap (λ (o : Option (OpenWork K V I)). option_map asked_by (on_key o)) (context-other (slots_of old) old.contexts slot c s d (Some (OnKey x)) low other);
              number = ap (λ (u : PartitionView K V I). u.number) h.is;
              count = ap (λ (u : PartitionView K V I). u.count) h.is;
              begin = ap (λ (u : PartitionView K V I). u.records.log.begin) h.is;
              regions = ap (λ (u : PartitionView K V I). u.records.log.regions) h.is;
              rises = omega arith;
              moment = refl;
            };
          };
          ready = inl refl;
        };
        fresh = refl;
      }

module _ {K V I O R : Type 0} (keeps : Bool) (stands : R → Standing) (cmp : K → K → Ordering) (join : V → V → V) (f : Meanings K V I O) (code : K → ℕ) (op : KeyedOp K V I) (old v : PartitionView K V I) (slot c limit start now end before after : ℕ) (opens : Opens code old slot c op)
    (first : now ≡ start + 1) (some : 0 < limit) where
  -- it is done or waits
  come-ends : (p : Progress K V I O R) → HasCome keeps stands cmp join f code op old v slot c now p → (IsOn p → ⊥) → end ≤ start + limit → after ≡ before → Ends keeps cmp join f code op old v slot limit start end before after (Ok p)
  come-ends (Done a effect) h off within steady = Ends.done c a effect opens (subst (λ n. IsDone keeps cmp f op old v slot c n a effect) first h) within steady refl
  come-ends Next h off within steady = absurd (off tt)
  come-ends (NeedsBuild ask) h off within steady = absurd (off tt)
  come-ends (NeedsLoad r a) h off within steady = absurd (off tt)
  come-ends (Waits why) h off within steady = Ends.waits c why opens (subst (λ n. IsWaiting cmp join f code op old v slot c n why) first h) within steady refl

  pub driven-ends : (p : Progress K V I O R) → Drives keeps stands cmp join f code op old v slot c now (limit - 1) now end before after (Ok p) → Ends keeps cmp join f code op old v slot limit start end before after (Ok p)
  driven-ends p (Drives.ends q come off within steady r) =
      let same : q ≡ p = cc in
      subst (λ (u : Progress K V I O R). Ends keeps cmp join f code op old v slot limit start end before after (Ok u)) same (come-ends q come off (omega arith) steady)
  driven-ends p (Drives.refused why halted within stop r) = absurd (cc)
  driven-ends p (Drives.stalled halted e steady r) = absurd (cc)
  driven-ends p (Drives.exhausted halted e within steady r) = absurd (cc)

  -- it is refused, and over once it is given up
  pub driven-over : (w : PartitionView K V I) (why : Refused) → Drives {O = O} keeps stands cmp join f code op old v slot c now (limit - 1) now end before after (Err why) → IsOver v w slot c → Ends {R = R} keeps cmp join f code op old w slot limit start end before after (Err why)
  driven-over w why (Drives.ends q come off within steady r) over = absurd (cc)
  driven-over w why (Drives.refused e halted within stop r) over =
      let same : e ≡ why = cc in
      subst (λ (u : Refused). Ends {R = R} keeps cmp join f code op old w slot limit start end before after (Err u)) same
      (Ends.refused c e opens (halted-over old v w slot c halted over) (omega arith) stop refl)
  driven-over w why (Drives.stalled halted e steady r) over =
      Ends.stalled c opens (halted-over old v w slot c halted over) (omega arith) steady r
  driven-over w why (Drives.exhausted halted e within steady r) over =
      Ends.exhausted c opens (halted-over old v w slot c halted over) e (omega arith) steady r
