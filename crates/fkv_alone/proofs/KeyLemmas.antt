-- What the events of a partition are where no relocation stands in a context: those of operations on keys.
use Rattle.std.proofs.Common.{◌≡◌, Bool, true, false, cond, ◌&&◌, ◌+◌, ◌*◌, ℕ, List, Option, Some, None, Result, Ok, Err, option_map, slice_get, nat_lt, refl, sym, ◌∙◌, ap, subst}
use Rattle.std.proofs.lemmas.Option.{same_Some}
use Rattle.std.specs.declared.cmp.Ordering.{Ordering}
use Rattle.fkv_functions.specs.Meanings.{Meanings}
use Rattle.fkv_functions.specs.Plain.{Same}
use Rattle.fkv_functions.specs.declared.asks.Ask.{Ask}
use Rattle.fkv_functions.specs.declared.refusals.Refused.{Refused}
use Rattle.fkv_functions.specs.declared.refusals.Refused.TheVariants.{NoMemory}
use Rattle.fkv_device.specs.Standing.{Standing, Joined}
use Rattle.fkv_texts.specs.declared.entries.Entry.{Entry}
use Rattle.fkv_operations.specs.After.{key_of}
use Rattle.fkv_operations.specs.Operations.{keyed, op_of, after_keyed, answer_keyed}
use Rattle.fkv_operations.specs.declared.operations.KeyedOp.{KeyedOp}
use Rattle.fkv_operations.specs.declared.operations.KeyedOp.TheVariants as on_key
use Rattle.fkv_operations.specs.declared.operations.Op.{Op}
use Rattle.fkv_operations.specs.declared.operations.Op.TheVariants.{Read, Relocate}
use Rattle.fkv_partition.specs.declared.contexts.Context.{Context}
use Rattle.fkv_partition.specs.declared.contexts.Progress.{Progress}
use Rattle.fkv_partition.specs.declared.contexts.Progress.TheVariants.{Done, Next, NeedsBuild, NeedsLoad, Waits}
use Rattle.fkv_partition.specs.Contexts.{joined, is_session, relocating}
use Rattle.fkv_partition.specs.KeyEffect as key_effect
use Rattle.fkv_partition.specs.KeyGoing as going
use Rattle.fkv_partition.specs.KeyInstalling as installing
use Rattle.fkv_partition.specs.KeyLoading as loading
use Rattle.fkv_partition.specs.Views.{slots_of, context_at, live_of, PartitionView, relocation_at}
use Rattle.fkv_partition.specs.Beginning.{IssuesOnKey}
use Rattle.fkv_partition.specs.Effect.{Asked, asked, asked_of, to_find, IsEvent, IsLoad, Finds}
use Rattle.fkv_partition.specs.Events.{IsPassedOn, Issues, Goes, Installs, Loads, LoadsBy, WaitsFor}
use Rattle.fkv_partition.proofs.AskedLemmas.{keyed-op}
use Rattle.fkv_alone.proofs.StageLemmas.{Asks, Finishes, Tells}

-- an operation on a key is no relocation, and is a read where it is one of all operations
not-relocate : {K V I : Type 0} (o : KeyedOp K V I) → op_of o ≡ Relocate → ⊥
not-relocate (on_key.Read k i) h = absurd (cc)
not-relocate (on_key.Upsert k v) h = absurd (cc)
not-relocate (on_key.Rmw k i) h = absurd (cc)
not-relocate (on_key.Delete k) h = absurd (cc)
not-relocate (on_key.Merge k i) h = absurd (cc)

read-op : {K V I : Type 0} (o : KeyedOp K V I) (k : K) (i : I) → op_of o ≡ Read k i → o ≡ on_key.Read k i
read-op (on_key.Read q j) k i h = cc
read-op (on_key.Upsert q v) k i h = absurd (cc)
read-op (on_key.Rmw q j) k i h = absurd (cc)
read-op (on_key.Delete q) k i h = absurd (cc)
read-op (on_key.Merge q j) k i h = absurd (cc)

module _ {K V I : Type 0} where
  -- the relocations stay over two events, and what is cleared
  pub rest-then : (a b d : PartitionView K V I) → IsPassedOn a b → IsPassedOn b d → IsPassedOn a d
  rest-then a b d f g = record { cleared = g.cleared ∙ f.cleared; relocations = λ p. g.relocations p ∙ f.relocations p }

  pub rest-same : (a b : PartitionView K V I) → b ≡ a → IsPassedOn a b
  rest-same a b e = record {
    cleared = ap (λ (u : PartitionView K V I). u.cleared) e;
    relocations = λ p. ap (λ (u : PartitionView K V I). relocating (joined (slice_get u.contexts p))) e;
  }

  -- a context in which no relocation stands has none then
  pub none-then : (a b : PartitionView K V I) (p : ℕ) → IsPassedOn a b → relocating (joined (slice_get a.contexts p)) ≡ None → relocating (joined (slice_get b.contexts p)) ≡ None
  none-then a b p rest none = rest.relocations p ∙ none

  none-at : (v : PartitionView K V I) (slot c : ℕ) → relocating (joined (slice_get v.contexts (slot * 8 + c))) ≡ None → relocation_at v slot c ≡ None
  none-at v slot c none = either (is_session (slots_of v) slot && nat_lt c 8)
    where
      either : (b : Bool) → relocating (cond b (joined (slice_get v.contexts (slot * 8 + c))) None) ≡ None
      either true = none
      either false = refl

  -- an operation on a key is issued
  pub issued-on-key : (code : K → ℕ) (v w : PartitionView K V I) (slot now : ℕ) (o : KeyedOp K V I) (op : Op K V I) (r : Result ℕ Refused) → op ≡ op_of o → Issues code v w slot op now r → IssuesOnKey code v w slot o now r
  issued-on-key code v w slot now o op r e (Issues.on_key p h does) =
      let same : o ≡ p = same_Some o p (sym (ap keyed e ∙ keyed-op o) ∙ h) in
      subst (λ t. IssuesOnKey code v w slot t now r) (sym same) does
  issued-on-key code v w slot now o op r e (Issues.relocation h does) = absurd (not-relocate o (sym e ∙ h))

  module _ (v w : PartitionView K V I) (slot c now : ℕ) where
    refuted : {A : Type 0} (x : A) (o : Option A) → o ≡ Some x → o ≡ None → ⊥
    refuted x o h none = let bad : Some x ≡ None = sym h ∙ none in absurd (cc)

    -- what stands in the context is asked for
    asked-op : (x : Context K V I) (q : Asked K V I) → context_at v slot c ≡ Some x → asked v slot c ≡ Some q → q.op ≡ op_of x.op
    asked-op x q here was =
        let mine : asked v slot c ≡ Some (record { number = x.number; op = op_of x.op }) = ap (λ t. asked_of (option_map key_effect.asked_by t) (relocation_at v slot c)) here in
        ap (λ (z : Asked K V I). z.op) (sym (same_Some (record { number = x.number; op = op_of x.op }) q (sym mine ∙ was)))

    module _ (empty : relocating (joined (slice_get v.contexts (slot * 8 + c))) ≡ None) where
      pub goes-on-key : {O R : Type 0} (stands : R → Standing) (cmp : K → K → Ordering) (join : V → V → V) (f : Meanings K V I O) (code : K → ℕ) (r : Result (Progress K V I O R) Refused) → Goes stands cmp join f code v w slot c now r → going.Goes stands cmp join f code v w slot c now r × IsPassedOn v w
      goes-on-key stands cmp join f code r (Goes.on_key none does rest) = (does, rest)
      goes-on-key stands cmp join f code r (Goes.relocation x h does) = absurd (refuted x (relocation_at v slot c) h (none-at v slot c empty))

      pub installs-on-key : {O R : Type 0} (cmp : K → K → Ordering) (f : Meanings K V I O) (code : K → ℕ) (ask : Ask K V I) (r : Result (Progress K V I O R) Refused) → Installs cmp f code v w slot c ask now r → installing.Installs cmp f code v w slot c ask now r × IsPassedOn v w
      installs-on-key cmp f code ask r (Installs.on_key none does rest) = (does, rest)
      installs-on-key cmp f code ask r (Installs.relocation x h same e) = absurd (refuted x (relocation_at v slot c) h (none-at v slot c empty))

      pub loads-on-key : {O R : Type 0} (stands : R → Standing) (entry : ℕ → List ℕ → ℕ → Entry K V → Type 0) (cmp : K → K → Ordering) (join : V → V → V) (f : Meanings K V I O) (code : K → ℕ) (came : Result (Joined R) Refused) (r : Result (Progress K V I O R) Refused) → Loads stands entry cmp join f code v w slot c came now r → loading.Loads stands entry cmp join f v w slot c came now r × IsPassedOn v w
      loads-on-key stands entry cmp join f code came r (Loads.on_key none does rest) = (does, rest)
      loads-on-key stands entry cmp join f code came r (Loads.relocation x h does) = absurd (refuted x (relocation_at v slot c) h (none-at v slot c empty))

      pub none-here : relocation_at v slot c ≡ None
      none-here = none-at v slot c empty

      waits-on-key : (page : ℕ) → WaitsFor v slot c page → loading.WaitsFor v slot c page
      waits-on-key page (WaitsFor.on_key none waits) = waits
      waits-on-key page (WaitsFor.relocation waits) = absurd (refuted waits.relocation (relocation_at v slot c) waits.awaits.here none-here)

      pub reads-on-key : {O R : Type 0} (stands : R → Standing) (entry : ℕ → List ℕ → ℕ → Entry K V → Type 0) (cmp : K → K → Ordering) (join : V → V → V) (f : Meanings K V I O) (code : K → ℕ) (before after_ : ℕ) (r : Result (Progress K V I O R) Refused) → LoadsBy stands entry cmp join f code v w slot c now before after_ r → loading.LoadsBy stands entry cmp join f v w slot c now before after_ r × IsPassedOn v w
      reads-on-key {O} {R} stands entry cmp join f code before after_ r (loading.ReadsBy.idle unasked all same) = (
        loading.ReadsBy.idle (λ page waits. unasked page (WaitsFor.on_key none-here waits)) (λ came. (loads-on-key stands entry cmp join f code came r (all came)).0) same,
        (loads-on-key stands entry cmp join f code (Err NoMemory) r (all (Err NoMemory))).1,
      )
      reads-on-key stands entry cmp join f code before after_ r (loading.ReadsBy.came page p at own does same) =
          let on = loads-on-key stands entry cmp join f code (Ok p) r does in
          (loading.ReadsBy.came page p (waits-on-key page at) own on.0 same, on.1)
      reads-on-key stands entry cmp join f code before after_ r (loading.ReadsBy.failed page why at fails is told) =
          (loading.ReadsBy.failed page why (waits-on-key page at) fails (ap (λ (u : PartitionView K V I). u) is) told, rest-same v w is)

    -- ---- what the events tell
    pub finds-asks : {O R : Type 0} (cmp : K → K → Ordering) (p : Progress K V I O R) → Finds cmp v w slot c now p → Asks cmp v w slot c now p
    finds-asks cmp (Done a at) h = tt
    finds-asks cmp Next h = tt
    finds-asks cmp (Waits why) h = tt
    finds-asks cmp (NeedsBuild ask) h = tt
    finds-asks cmp (NeedsLoad r a) h = λ x here. h.asks ∙ ap (to_find cmp v now) (ap keyed (asked-op x h.question here h.was) ∙ keyed-op x.op)

    pub event-finishes : {O R : Type 0} (cmp : K → K → Ordering) (f : Meanings K V I O) (p : Progress K V I O R) → IsEvent cmp f v w slot c now p → Finishes cmp f v w slot c now p
    event-finishes cmp f (Done a at) ev = λ x here. (
        let q = asked-op x ev.question here ev.was in (
          subst (λ t. Same (live_of cmp w) (after_keyed cmp f (live_of cmp v) t)) (ap keyed q ∙ keyed-op x.op) ev.effect.2,
          ev.effect.3 ∙ ap (answer_keyed f (live_of cmp v)) (ap keyed q ∙ keyed-op x.op),
        ))
    event-finishes cmp f Next ev = tt
    event-finishes cmp f (Waits why) ev = tt
    event-finishes cmp f (NeedsBuild ask) ev = tt
    event-finishes cmp f (NeedsLoad r a) ev = tt

    pub load-tells : {O R : Type 0} (cmp : K → K → Ordering) (f : Meanings K V I O) (p : Progress K V I O R) → IsLoad cmp f v w slot c now p → Tells cmp f v w slot c now p
    load-tells cmp f (Done a at) (IsLoad.on_key l) = λ x here apart. (
        let q = asked-op x l.question here l.was in
        let e = l.effect.1 in
        record {
          live = l.live;
          found = e.0;
          was = e.1;
          key = e.3.0;
          input = e.3.1;
          is = read-op x.op e.3.0 e.3.1 (sym q ∙ e.3.2);
          answers = e.3.3;
        })
    load-tells cmp f (Done a at) (IsLoad.relocation ev g) = λ x here apart. absurd (apart ev.effect.1)
    load-tells cmp f Next l = tt
    load-tells cmp f (Waits why) l = tt
    load-tells cmp f (NeedsBuild ask) l = tt
    load-tells cmp f (NeedsLoad r a) (IsLoad.on_key l) = λ x here apart. l.effect.1
    load-tells {O = O} {R = R} cmp f (NeedsLoad r a) (IsLoad.relocation ev g) = λ x here apart. absurd (apart (live_of cmp v (key_of x.op)) (finds-asks {O = O} {R = R} cmp (NeedsLoad r a) g x here))
