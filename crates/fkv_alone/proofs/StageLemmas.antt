-- What each event makes of an operation that is driven alone.
use Rattle.std.proofs.Common.{◌≡◌, ◌≢◌, ◌+◌, ◌<◌, ◌^◌, ◌⊎◌, ◌==◌, inl, inr, ℕ, List, Bool, true, false, cond, IsTrue, Option, Some, None, option_map, Result, Ok, Err, IfOk, IfErr, OnOk, OnErr, refl, sym, ◌∙◌, ap, subst, arith}
use Rattle.std.specs.declared.cmp.Ordering.{Ordering}
use Rattle.fkv_functions.specs.Meanings.{Meanings}
use Rattle.fkv_functions.specs.Plain.{Same, PlainMap}
use Rattle.fkv_functions.specs.declared.asks.Ask.{Ask}
use Rattle.fkv_functions.specs.declared.refusals.Refused.{Refused}
use Rattle.fkv_functions.specs.declared.refusals.Refused.TheVariants.{NoMemory, Worn, Damaged}
use Rattle.fkv_records.specs.Places.{page_at}
use Rattle.fkv_device.specs.Standing.{Standing, Joined}
use Rattle.fkv_device.specs.Failing.{ReadFailsBy}
use Rattle.fkv_texts.specs.declared.entries.Entry.{Entry}
use Rattle.fkv_texts.specs.Text.{live, newest, value_of}
use Rattle.fkv_index.specs.Words.{address_of}
use Rattle.fkv_hybrid.specs.Loads.{IsHeldBy}
use Rattle.fkv_hybrid.specs.Views.{receipt_at}
use Rattle.fkv_operations.specs.After.{key_of, after, answer, shown_of}
use Rattle.fkv_operations.specs.declared.entries.IndexEntry.{IndexEntry}
use Rattle.fkv_operations.specs.declared.operations.KeyedOp.{KeyedOp}
use Rattle.fkv_operations.specs.declared.operations.KeyedOp.TheVariants.{Read, Rmw}
use Rattle.fkv_operations.specs.declared.operations.Answer.{Answer}
use Rattle.fkv_operations.specs.declared.operations.Answer.TheVariants as answered
use Rattle.fkv_lookups.specs.RecordsViews.{RecordsView, confirmed, released, with_record}
use Rattle.fkv_index.specs.declared.words.Word.{Word}
use Rattle.fkv_partition.specs.declared.contexts.Context.{Context}
use Rattle.fkv_partition.specs.declared.contexts.Loading.{Loading}
use Rattle.fkv_partition.specs.declared.contexts.Phase.TheVariants.{Fresh, Confirm, Prepared, Load}
use Rattle.fkv_partition.specs.declared.contexts.Progress.{Progress}
use Rattle.fkv_partition.specs.declared.contexts.Progress.TheVariants.{Done, Next, NeedsBuild, NeedsLoad, Waits}
use Rattle.fkv_partition.specs.declared.contexts.Wait.TheVariants.{Fuzzy, Full}
use Rattle.fkv_partition.specs.Contexts.{question_in, loading_by, at_phase}
use Rattle.fkv_partition.specs.KeyEffect.{Asked, asked, asked_by, LeavesOthers, IsEvent}
use Rattle.fkv_partition.specs.KeyGoing.{Goes}
use Rattle.fkv_partition.specs.KeyInstalling.{Installs}
use Rattle.fkv_partition.specs.KeyLoading.{AwaitsPage, Loads, LoadsBy, ReadsBy, WaitsFor}
use Rattle.fkv_partition.specs.Pending.{Pending, pending, pending_of}
use Rattle.fkv_partition.specs.Views.{PartitionView, context_at, with_context, live_of}
use Rattle.fkv_alone.specs.Stages.{IsOpen, IsReady, AsksToBuild, IsFetching, IsHeldUp, IsDone, HasCome}
use Rattle.fkv_alone.specs.Ending.{IsOver, IsStop, Advances}
use Rattle.fkv_operations.specs.Operations.{op_of, map_after, answer_to}
use Rattle.fkv_operations.specs.declared.operations.Op.{Op}
use Rattle.fkv_partition.proofs.AskedLemmas.{of-after, of-answer, op-same}
use Rattle.fkv_alone.proofs.OpenLemmas.{set-here, set-frame, frames, open-pass, open-set, open-over}

pub some-same : {A : Type 0} (x y : A) (o : Option A) → o ≡ Some x → o ≡ Some y → x ≡ y
some-same x y o h k = let e : Some x ≡ Some y = sym h ∙ k in cc

some-none : {A : Type 0} (x : A) (o : Option A) → o ≡ Some x → o ≡ None → ⊥
some-none x o h k = let e : Some x ≡ None = sym h ∙ k in absurd (cc)

mapped-none : {A B : Type 0} (g : A → B) (o : Option A) → option_map g o ≡ None → o ≡ None
mapped-none g None h = refl
mapped-none g (Some x) h = absurd (cc)

pub question-rmw : {K V I : Type 0} (n : ℕ) (op : KeyedOp K V I) (e : IndexEntry) (s : Option V) (k : K) (i : I) → op ≡ Rmw k i → question_in (record { number = n; op = op; phase = Prepared e s }) ≡ Some (e, record { number = n; key = k; source = s; input = i })
question-rmw n op e s k i h = rw h refl

-- what an event that asks for a page leaves to find
abbrev pub Asks : {K V I O R : Type 0} → (K → K → Ordering) → PartitionView K V I → PartitionView K V I → ℕ → ℕ → ℕ → Progress K V I O R → Type 0
Asks {K} {V} {I} cmp v w slot c now (NeedsLoad r a) = (x : Context K V I) → context_at v slot c ≡ Some x → pending cmp w slot c ≡ Some (record { moment = now; value = live_of cmp v (key_of x.op) })
Asks cmp v w slot c now other = Unit {0}

-- what one that finishes an operation tells of the live map, and its answer
abbrev pub Finishes : {K V I O R : Type 0} → (K → K → Ordering) → Meanings K V I O → PartitionView K V I → PartitionView K V I → ℕ → ℕ → ℕ → Progress K V I O R → Type 0
Finishes {K} {V} {I} cmp f v w slot c now (Done a at) = (x : Context K V I) → context_at v slot c ≡ Some x → Same (live_of cmp w) (after cmp f (live_of cmp v) x.op) × (a ≡ answer f (live_of cmp v) x.op)
Finishes cmp f v w slot c now other = Unit {0}

-- a read is answered with what its look-up was to find
pub record HasRead {K V I O : Type 0} (cmp : K → K → Ordering) (f : Meanings K V I O) (v w : PartitionView K V I) (slot c : ℕ) (x : Context K V I) (a : Answer O) : Type 0 where
  pub live : Same (live_of cmp w) (live_of cmp v)
  pub found : Pending V
  pub was : pending cmp v slot c ≡ Some found
  pub key : K
  pub input : I
  pub is : x.op ≡ Read key input
  pub answers : a ≡ shown_of f key input found.value

-- what a page that came tells where it finishes a read, whose effect is not now, or leads to another page
abbrev pub Tells : {K V I O R : Type 0} → (K → K → Ordering) → Meanings K V I O → PartitionView K V I → PartitionView K V I → ℕ → ℕ → ℕ → Progress K V I O R → Type 0
Tells {K} {V} {I} cmp f v w slot c now (Done a at) = (x : Context K V I) → context_at v slot c ≡ Some x → at ≢ now → HasRead cmp f v w slot c x a
Tells {K} {V} {I} cmp f v w slot c now (NeedsLoad r b) = (x : Context K V I)
    → context_at v slot c ≡ Some x
    → ((u : Option V) → pending cmp w slot c ≡ Some (record { moment = now; value = u }) → ⊥)
    → pending cmp w slot c ≡ pending cmp v slot c
Tells cmp f v w slot c now other = Unit {0}

module _ {K V I : Type 0} (op : KeyedOp K V I) (old v : PartitionView K V I) (slot c started : ℕ) where
  -- what is open in a context is one operation
  open-same : (x y : Context K V I) → IsOpen op old v slot c started x → context_at v slot c ≡ Some y → IsOpen op old v slot c started y
  open-same x y o h = subst (IsOpen op old v slot c started) (some-same x y (context_at v slot c) o.here h) o

  module _ (x : Context K V I) (o : IsOpen op old v slot c started x) where
    -- what it asks
    open-asks : (q : Asked K V I) → asked v slot c ≡ Some q → q.op ≡ op_of x.op
    open-asks q h =
        let same : asked_by x ≡ q = some-same (asked_by x) q (asked v slot c) (ap (option_map asked_by) o.here) h in
        sym (ap (λ (a : Asked K V I). a.op) same)

    open-maps : (cmp : K → K → Ordering) → live_of cmp v ≡ live_of cmp old
    open-maps cmp = ap (λ (r : RecordsView K V). live cmp r.text) o.records

    -- an event finishes it
    done-told : {O : Type 0} (keeps : Bool) (cmp : K → K → Ordering) (f : Meanings K V I O) (w : PartitionView K V I) (now : ℕ) (a : Answer O) → v.moment < now → context_at w slot c ≡ None → LeavesOthers v w slot c now
        → (IsTrue keeps → Same (live_of cmp w) (after cmp f (live_of cmp v) x.op) × (a ≡ answer f (live_of cmp v) x.op))
        → IsDone keeps cmp f op old w slot c started a now
    done-told keeps cmp f w now a later closed f0 told = record {
      closed = closed;
      live = λ kept.
          subst (λ (m : PlainMap K V). Same (live_of cmp w) (after cmp f m op)) (open-maps cmp)
          (subst (λ (z : KeyedOp K V I). Same (live_of cmp w) (after cmp f (live_of cmp v) z)) o.op_is (told kept).0);
      answers = λ kept. (told kept).1 ∙ ap (answer f (live_of cmp v)) o.op_is ∙ ap (λ (m : PlainMap K V). answer f m op) (open-maps cmp);
      begun = let b = o.begun in omega arith;
      past = let m = f0.moment in omega arith;
      frame = frames old v w slot c now o.frame f0;
    }

-- records of which the words alone are others
words-alone : {K V : Type 0} (a b : RecordsView K V) (words : List (List Word)) → b ≡ record a { words = words } → b ≡ record a { words = b.words }
words-alone a b words e = e ∙ ap (λ (ws : List (List Word)). record a { words = ws }) (sym (ap (λ (r : RecordsView _ _). r.words) e))

stop-of : {keeping : Bool} (tail page before after : ℕ) (why : Refused) → ReadFailsBy page before after why → IsStop keeping tail before after why
stop-of tail page before after why h = elim h [
  | inl t ↦ elim t [ inl m ↦ IsStop.memory m.0 m.1 | inr d ↦ IsStop.device page d.0 d.1 ]
  | inr d ↦ IsStop.damaged page d.0 d.1
]

module _ {K V I O R : Type 0} (keeps : Bool) (stands : R → Standing) (cmp : K → K → Ordering) (join : V → V → V) (f : Meanings K V I O) (code : K → ℕ) (op : KeyedOp K V I) (old v w : PartitionView K V I) (slot c started now : ℕ) (later : v.moment < now) where
  told-as : (p q : Progress K V I O R) → p ≡ q → HasCome keeps stands cmp join f code op old w slot c started q → HasCome keeps stands cmp join f code op old w slot c started p
  told-as p q e h = subst (HasCome keeps stands cmp join f code op old w slot c started) (sym e) h

  -- the tail is where it was
  tail-was : (x : Context K V I) → IsOpen op old v slot c started x → v.records.log.tail ≡ 2 ^ 48 → old.records.log.tail ≡ 2 ^ 48
  tail-was x o e = sym (ap (λ (r : RecordsView K V). r.log.tail) o.records) ∙ e

  -- ---- it goes on
  event-done : (x : Context K V I) → IsOpen op old v slot c started x → (p : Progress K V I O R) (a : Answer O) → p ≡ Done a now → IsEvent cmp f v w slot c now p → HasCome keeps stands cmp join f code op old w slot c started p
  event-done x o p a e event =
      let ev : IsEvent cmp f v w slot c now (Done a now) = subst (IsEvent cmp f v w slot c now) e event in
      told-as p (Done a now) e (done-told op old v slot c started x o keeps cmp f w now a later (mapped-none asked_by (context_at w slot c) ev.effect.0) ev.frame
      (λ kept. let q = open-asks op old v slot c started x o ev.question ev.was in
      (of-after cmp f (live_of cmp v) (live_of cmp w) x.op (subst (λ (z : Op K V I). Same (live_of cmp w) (map_after cmp f (live_of cmp v) z)) q ev.effect.2), of-answer f (live_of cmp v) x.op a (ev.effect.3 ∙ ap (answer_to f (live_of cmp v)) q))))

  asked-page : (x : Context K V I) (b : ℕ) (parts : Option V) (e : IndexEntry) (receipt : R) → IsOpen op old v slot c started x → IsHeldBy v.records.log.receipts (page_at v.records.log.bits b) (stands receipt)
      → w ≡ with_context v slot c (Some (at_phase x (Load (record { begin = v.records.log.begin; kept = e; wanted = b; parts = parts; looked = now })))) now
      → (IsTrue keeps → pending cmp w slot c ≡ Some (record { moment = now; value = live_of cmp v (key_of x.op) }))
      → IsFetching keeps cmp op old w slot c started (stands receipt) b
  asked-page x b parts e receipt o held is finds =
      let l : Loading V = record { begin = v.records.log.begin; kept = e; wanted = b; parts = parts; looked = now } in
      let y = at_phase x (Load l) in
      let here = set-here v slot c now x o.here (Some y) v.records refl in
      let value : live_of cmp v (key_of x.op) ≡ live_of cmp old (key_of op) = ap (λ (z : KeyedOp K V I). live_of cmp v (key_of z)) o.op_is ∙ ap (λ (r : RecordsView K V). live cmp r.text (key_of op)) o.records in
      let asks : IsTrue keeps → pending cmp w slot c ≡ Some (record { moment = now; value = live_of cmp old (key_of op) }) = λ kept. finds kept ∙ ap (λ (u : Option V). Some (record { moment = now; value = u })) value in
      let there : IsTrue keeps → pending cmp (with_context v slot c (Some y) now) slot c ≡ Some (record { moment = now; value = live_of cmp old (key_of op) }) = rw is at asks in
      rw is (record {
        operation = y;
        open_is = open-set op old v slot c started x o now y v.records later refl refl refl;
        loading = l;
        awaits = record { here = here; loading = refl; begin = refl };
        wanted = refl;
        held = held;
        looked = (let b = o.begun in omega arith);
        past = omega arith;
        finds = there;
      })

  pub goes-told : IsReady op old v slot c started → (p : Progress K V I O R) → Goes stands cmp join f code v w slot c now (Ok p) → IsEvent cmp f v w slot c now p → (IsTrue keeps → Asks cmp v w slot c now p)
      → HasCome keeps stands cmp join f code op old w slot c started p
  goes-told h p (Goes.unknown here is r) event finds = absurd (cc)
  goes-told h p (Goes.asks x e ask here q is r) event finds =
      let t : p ≡ NeedsBuild ask = cc in
      let o = open-same op old v slot c started h.operation x h.open_is here in
      told-as p (NeedsBuild ask) t (rw is (record { operation = x; open_is = open-pass op old v slot c started x o now later; kept = e; question = q }))
  goes-told h p (Goes.not_ready x l here phase is r) event finds = absurd (cc)
  goes-told h p (Goes.confirms x place here phase alone is r) event finds =
      let t : p ≡ Next = cc in
      let o = open-same op old v slot c started h.operation x h.open_is here in
      told-as p Next t (rw is (record { operation = at_phase x Fresh; open_is = open-set op old v slot c started x o now (at_phase x Fresh) (confirmed v.records place) later refl refl refl; ready = inl refl }))
  goes-told h p (Goes.backs_off x place here phase alone is r) event finds =
      let t : p ≡ Next = cc in
      let o = open-same op old v slot c started h.operation x h.open_is here in
      told-as p Next t (rw is (record { operation = at_phase x Fresh; open_is = open-set op old v slot c started x o now (at_phase x Fresh) (released v.records place) later refl refl refl; ready = inl refl }))
  goes-told h p (Goes.done x a d is r) event finds = let t : p ≡ Done a now = cc in event-done x (open-same op old v slot c started h.operation x h.open_is d.here) p a t event
  goes-told h p (Goes.claims x d k r) event finds =
      let t : p ≡ Next = cc in
      let o = open-same op old v slot c started h.operation x h.open_is d.here in
      told-as p Next t (rw k.is (record {
        operation = at_phase x (Confirm k.place);
        open_is = open-set op old v slot c started x o now (at_phase x (Confirm k.place)) k.records later refl refl (words-alone v.records k.records _ k.claims.is);
        ready = inr (k.place, refl);
      }))
  goes-told h p (Goes.unclaimed x d full is r) event finds = absurd (cc)
  goes-told h p (Goes.appends x value a e d found more room is r) event finds = let t : p ≡ Done a now = cc in event-done x (open-same op old v slot c started h.operation x h.open_is d.here) p a t event
  goes-told h p (Goes.worn x value a d tail is r) event finds = absurd (cc)
  goes-told h p (Goes.full x value a d full is r) event finds =
      let t : p ≡ Waits Full = cc in
      let o = open-same op old v slot c started h.operation x h.open_is d.here in
      told-as p (Waits Full) t (rw is (record { operation = x; open_is = open-pass op old v slot c started x o now later; reason = IsHeldUp.full value a (record { here = d.here; fresh = d.fresh; decided = d.decided }) full }))
  goes-told h p (Goes.replaces x value a e d last is r) event finds = let t : p ≡ Done a now = cc in event-done x (open-same op old v slot c started h.operation x h.open_is d.here) p a t event
  goes-told h p (Goes.waits x d is r) event finds =
      let t : p ≡ Waits Fuzzy = cc in
      let o = open-same op old v slot c started h.operation x h.open_is d.here in
      told-as p (Waits Fuzzy) t (rw is (record { operation = x; open_is = open-pass op old v slot c started x o now later; reason = IsHeldUp.fuzzy (record { here = d.here; fresh = d.fresh; decided = d.decided }) }))
  goes-told h p (Goes.prepares x source i e d found is r) event finds =
      let ask : Ask K V I = record { number = x.number; key = key_of x.op; source = source; input = i } in
      let t : p ≡ NeedsBuild ask = cc in
      let o = open-same op old v slot c started h.operation x h.open_is d.here in
      let ev : IsEvent cmp f v w slot c now (NeedsBuild ask) = subst (IsEvent cmp f v w slot c now) t event in
      let same : asked_by x ≡ ev.question = some-same (asked_by x) ev.question (asked v slot c) (ap (option_map asked_by) d.here) ev.was in
      let is_rmw : x.op ≡ Rmw (key_of x.op) i = op-same x.op (Rmw (key_of x.op) i) (ap (λ (a : Asked K V I). a.op) same ∙ ev.effect.3) in
      told-as p (NeedsBuild ask) t (rw is (record {
        operation = at_phase x (Prepared e source);
        open_is = open-set op old v slot c started x o now (at_phase x (Prepared e source)) v.records later refl refl refl;
        kept = e;
        question = question-rmw x.number x.op e source (key_of x.op) i is_rmw;
      }))
  goes-told h p (Goes.asks_page x b parts e receipt d found held is r) event finds =
      let t : p ≡ NeedsLoad receipt b = cc in
      let o = open-same op old v slot c started h.operation x h.open_is d.here in
      told-as p (NeedsLoad receipt b) t (asked-page x b parts e receipt o held is (λ kept. subst (Asks cmp v w slot c now) t (finds kept) x d.here))
  goes-told h p (Goes.unshared x b parts d is r) event finds = absurd (cc)

  pub goes-stops : IsReady op old v slot c started → (why : Refused) → Goes {O = O} {R = R} stands cmp join f code v w slot c now (Err why) → (why ≡ NoMemory) ⊎ ((why ≡ Worn) × (old.records.log.tail ≡ 2 ^ 48))
  goes-stops h why (Goes.unknown here is r) = absurd (some-none h.operation (context_at v slot c) h.open_is.here here)
  goes-stops h why (Goes.asks x e ask here q is r) = absurd (cc)
  goes-stops h why (Goes.not_ready x l here phase is r) =
      let same : h.operation ≡ x = some-same h.operation x (context_at v slot c) h.open_is.here here in
      let loads : h.operation.phase ≡ Load l = ap (λ (z : Context K V I). z.phase) same ∙ phase in
      elim h.ready [ inl fresh ↦ (let e : Fresh ≡ Load l = sym fresh ∙ loads in absurd (cc)) | inr confirm ↦ (let e : Confirm confirm.0 ≡ Load l = sym confirm.1 ∙ loads in absurd (cc)) ]
  goes-stops h why (Goes.confirms x place here phase alone is r) = absurd (cc)
  goes-stops h why (Goes.backs_off x place here phase alone is r) = absurd (cc)
  goes-stops h why (Goes.done x a d is r) = absurd (cc)
  goes-stops h why (Goes.claims x d k r) = absurd (cc)
  goes-stops h why (Goes.unclaimed x d full is r) = let e : why ≡ NoMemory = cc in inl e
  goes-stops h why (Goes.appends x value a e d found more room is r) = absurd (cc)
  goes-stops h why (Goes.worn x value a d tail is r) = let e : why ≡ Worn = cc in inr (e, tail-was h.operation h.open_is tail)
  goes-stops h why (Goes.full x value a d full is r) = absurd (cc)
  goes-stops h why (Goes.replaces x value a e d last is r) = absurd (cc)
  goes-stops h why (Goes.waits x d is r) = absurd (cc)
  goes-stops h why (Goes.prepares x source i e d found is r) = absurd (cc)
  goes-stops h why (Goes.asks_page x b parts e receipt d found held is r) = absurd (cc)
  goes-stops h why (Goes.unshared x b parts d is r) = let e : why ≡ NoMemory = cc in inl e

  pub goes-advances : IsReady op old v slot c started → (n : ℕ) (result : Result (Progress K V I O R) Refused) → Goes stands cmp join f code v w slot c now result → IfOk result (λ p. IsEvent cmp f v w slot c now p)
      → (IsTrue keeps → IfOk result (λ p. Asks cmp v w slot c now p)) → OnErr result (w ≡ v)
      → Advances keeps stands cmp join f code op old v w slot c started n n result
  goes-advances h n (Ok p) goes event finds err = (goes-told h p goes event finds, refl)
  goes-advances h n (Err why) goes event finds err = (elim (goes-stops h why goes) [ inl e ↦ IsStop.memory e refl | inr e ↦ IsStop.worn e.0 e.1 refl ], inl err)

  -- ---- what was built is installed
  pub installs-told : (ask : Ask K V I) → AsksToBuild op old v slot c started ask → (p : Progress K V I O R) → Installs cmp f code v w slot c ask now (Ok p) → (IsTrue keeps → Finishes cmp f v w slot c now p)
      → HasCome keeps stands cmp join f code op old w slot c started p
  installs-told ask h p (Installs.unknown here is r) event = absurd (cc)
  installs-told ask h p (Installs.not_ready x here q is r) event = absurd (cc)
  installs-told ask h p (Installs.stranger x e mine here q other is r) event = absurd (cc)
  installs-told ask h p (Installs.moved x e here q word is r) event =
      let t : p ≡ Next = cc in
      let o = open-same op old v slot c started h.operation x h.open_is here in
      told-as p Next t (rw is (record { operation = at_phase x Fresh; open_is = open-set op old v slot c started x o now (at_phase x Fresh) v.records later refl refl refl; ready = inl refl }))
  installs-told ask h p (Installs.declined x e here q word u is r) event =
      let o = open-same op old v slot c started h.operation x h.open_is here in
      let t : p ≡ Done answered.Declined now = cc in
      let closed : context_at w slot c ≡ None = ap (λ (u : PartitionView K V I). context_at u slot c) is ∙ set-here v slot c now x here None v.records refl in
      told-as p (Done answered.Declined now) t (done-told op old v slot c started x o keeps cmp f w now answered.Declined later closed
      (subst (λ (u : PartitionView K V I). LeavesOthers v u slot c now) (sym is) (set-frame v slot c now x here None v.records refl refl))
      (λ kept. subst (Finishes cmp f v w slot c now) t (event kept) x here))
  installs-told ask h p (Installs.worn x e value here q word u tail is r) event = absurd (cc)
  installs-told ask h p (Installs.full x e value here q word u full is r) event =
      let t : p ≡ Waits Full = cc in
      let o = open-same op old v slot c started h.operation x h.open_is here in
      told-as p (Waits Full) t (rw is (record { operation = x; open_is = open-pass op old v slot c started x o now later; reason = IsHeldUp.built e ask value q word u full }))
  installs-told ask h p (Installs.done x e value here q word u more room is r) event =
      let o = open-same op old v slot c started h.operation x h.open_is here in
      let grown = with_record v.records e ask.key (Some value) in
      let a = answered.Value (f.shown ask.key ask.input value) in
      let t : p ≡ Done a now = cc in
      let closed : context_at w slot c ≡ None = ap (λ (u : PartitionView K V I). context_at u slot c) is ∙ set-here v slot c now x here None grown refl in
      told-as p (Done a now) t (done-told op old v slot c started x o keeps cmp f w now a later closed
      (subst (λ (u : PartitionView K V I). LeavesOthers v u slot c now) (sym is) (set-frame v slot c now x here None grown refl refl))
      (λ kept. subst (Finishes cmp f v w slot c now) t (event kept) x here))

  pub installs-stops : (ask : Ask K V I) → AsksToBuild op old v slot c started ask → (why : Refused) → Installs {O = O} {R = R} cmp f code v w slot c ask now (Err why) → (why ≡ Worn) × (old.records.log.tail ≡ 2 ^ 48)
  installs-stops ask h why (Installs.unknown here is r) = absurd (some-none h.operation (context_at v slot c) h.open_is.here here)
  installs-stops ask h why (Installs.not_ready x here q is r) =
      let same : h.operation ≡ x = some-same h.operation x (context_at v slot c) h.open_is.here here in
      absurd (some-none (h.kept, ask) (question_in h.operation) h.question (ap question_in same ∙ q))
  installs-stops ask h why (Installs.stranger x e mine here q other is r) =
      let same : h.operation ≡ x = some-same h.operation x (context_at v slot c) h.open_is.here here in
      let pair : (h.kept, ask) ≡ (e, mine) = some-same (h.kept, ask) (e, mine) (question_in h.operation) h.question (ap question_in same ∙ q) in
      absurd (other (ap (λ (z : IndexEntry × Ask K V I). z.1) pair))
  installs-stops ask h why (Installs.moved x e here q word is r) = absurd (cc)
  installs-stops ask h why (Installs.declined x e here q word u is r) = absurd (cc)
  installs-stops ask h why (Installs.worn x e value here q word u tail is r) = let t : why ≡ Worn = cc in (t, tail-was h.operation h.open_is tail)
  installs-stops ask h why (Installs.full x e value here q word u full is r) = absurd (cc)
  installs-stops ask h why (Installs.done x e value here q word u more room is r) = absurd (cc)

  pub installs-advances : (ask : Ask K V I) → AsksToBuild op old v slot c started ask → (n : ℕ) (result : Result (Progress K V I O R) Refused) → Installs cmp f code v w slot c ask now result
      → (IsTrue keeps → IfOk result (λ p. Finishes cmp f v w slot c now p)) → OnErr result (w ≡ v)
      → Advances keeps stands cmp join f code op old v w slot c started n n result
  installs-advances ask h n (Ok p) installs event err = (installs-told ask h p installs event, refl)
  installs-advances ask h n (Err why) installs event err = (let e = installs-stops ask h why installs in IsStop.worn e.0 e.1 refl, inl err)

  -- ---- a page came for it, or what came in its place
  module _ (entry : ℕ → List ℕ → ℕ → Entry K V → Type 0) (a : ℕ) (s : Standing) (h : IsFetching keeps cmp op old v slot c started s a) where
    -- it is its own look-up that goes on
    await-same : (x : Context K V I) (l : Loading V) → context_at v slot c ≡ Some x → x.phase ≡ Load l → h.loading ≡ l
    await-same x l here phase =
        let same : h.operation ≡ x = some-same h.operation x (context_at v slot c) h.open_is.here here in
        let e : Load h.loading ≡ Load l = sym h.awaits.loading ∙ ap (λ (z : Context K V I). z.phase) same ∙ phase in
        cc

    -- a read is done
    read-told : (x : Context K V I) (l : Loading V) (b : Answer O) → IsOpen op old v slot c started x → h.loading ≡ l → w ≡ with_context v slot c None now
        → (IsTrue keeps → HasRead cmp f v w slot c x b)
        → IsDone keeps cmp f op old w slot c started b l.looked
    read-told x l b o same is load =
        let looked : h.loading.looked ≡ l.looked = ap (λ (z : Loading V). z.looked) same in
        let moment : w.moment ≡ now = ap (λ (u : PartitionView K V I). u.moment) is in
        let frame = subst (λ (u : PartitionView K V I). LeavesOthers v u slot c now) (sym is) (set-frame v slot c now x o.here None v.records refl refl) in
        record {
          closed = ap (λ (u : PartitionView K V I). context_at u slot c) is ∙ set-here v slot c now x o.here None v.records refl;
          live = λ kept. read-live b (load kept);
          answers = λ kept. read-answer kept b (load kept);
          begun = (let n = h.looked in omega arith);
          past = (let n = h.past in omega arith);
          frame = frames old v w slot c now o.frame frame;
        }
      where
        read-live : (b : Answer O) → HasRead cmp f v w slot c x b → Same (live_of cmp w) (after cmp f (live_of cmp old) op)
        read-live b r =
            let is_read : op ≡ Read r.key r.input = sym o.op_is ∙ r.is in
            λ k. r.live k ∙ ap (λ (m : PlainMap K V). m k) (open-maps op old v slot c started x o cmp) ∙ ap (λ (z : KeyedOp K V I). after cmp f (live_of cmp old) z k) (sym is_read)

        read-answer : IsTrue keeps → (b : Answer O) → HasRead cmp f v w slot c x b → b ≡ answer f (live_of cmp old) op
        read-answer kept b r =
            let is_read : op ≡ Read r.key r.input = sym o.op_is ∙ r.is in
            let mine : r.found ≡ record { moment = h.loading.looked; value = live_of cmp old (key_of op) } = some-same _ _ (pending cmp v slot c) r.was (h.finds kept) in
            let value : r.found.value ≡ live_of cmp old r.key = ap (λ (z : Pending V). z.value) mine ∙ ap (λ (z : KeyedOp K V I). live_of cmp old (key_of z)) is_read in
            r.answers ∙ ap (shown_of f r.key r.input) value ∙ ap (answer f (live_of cmp old)) (sym is_read)

    -- the way goes on in another page
    further-told : (x : Context K V I) (l : Loading V) (b : ℕ) (parts : Option V) (receipt : R) → IsOpen op old v slot c started x → AwaitsPage v slot c x l → h.loading ≡ l → IsHeldBy v.records.log.receipts (page_at v.records.log.bits b) (stands receipt)
        → w ≡ with_context v slot c (Some (at_phase x (Load (record l { wanted = b; parts = parts })))) now
        → (IsTrue keeps → pending cmp w slot c ≡ pending cmp v slot c)
        → IsFetching keeps cmp op old w slot c started (stands receipt) b
    further-told x l b parts receipt o aw same held is load =
        let next : Loading V = record l { wanted = b; parts = parts } in
        let y = at_phase x (Load next) in
        let looked : h.loading.looked ≡ l.looked = ap (λ (z : Loading V). z.looked) same in
        let finds : IsTrue keeps → pending cmp w slot c ≡ Some (record { moment = l.looked; value = live_of cmp old (key_of op) }) =
        λ kept. load kept ∙ h.finds kept ∙ ap (λ n. Some (record { moment = n; value = live_of cmp old (key_of op) })) looked in
        let there : IsTrue keeps → pending cmp (with_context v slot c (Some y) now) slot c ≡ Some (record { moment = l.looked; value = live_of cmp old (key_of op) }) = rw is at finds in
        rw is (record {
          operation = y;
          open_is = open-set op old v slot c started x o now y v.records later refl refl refl;
          loading = next;
          awaits = record { here = set-here v slot c now x o.here (Some y) v.records refl; loading = refl; begin = aw.begin };
          wanted = refl;
          held = held;
          looked = (let n = h.looked in omega arith);
          past = (let n = h.past in omega arith);
          finds = there;
        })

    -- it looked before this moment, and is to find what it was to find then
    looked-before : (l : Loading V) → h.loading ≡ l → l.looked ≢ now
    looked-before l same e =
        let looked : h.loading.looked ≡ l.looked = ap (λ (z : Loading V). z.looked) same in
        let past = h.past in
        omega arith

    further-looks : (x : Context K V I) (l : Loading V) (b : ℕ) (parts : Option V) → IsOpen op old v slot c started x → h.loading ≡ l
        → w ≡ with_context v slot c (Some (at_phase x (Load (record l { wanted = b; parts = parts })))) now
        → (u : Option V) → pending cmp w slot c ≡ Some (record { moment = now; value = u }) → ⊥
    further-looks x l b parts o same is u e =
        let y = at_phase x (Load (record l { wanted = b; parts = parts })) in
        let there : context_at w slot c ≡ Some y = ap (λ (t : PartitionView K V I). context_at t slot c) is ∙ set-here v slot c now x o.here (Some y) v.records refl in
        let shown : pending_of cmp w.records (Some y) ≡ Some (record { moment = now; value = u }) = sym (ap (pending_of cmp w.records) there) ∙ e in
        by (l.begin == w.records.log.begin) (value_of (newest cmp w.records.text (key_of x.op) (address_of l.kept.word))) shown
      where
        by : (t : Bool) (a : Option V) → cond {A = Option (Pending V)} t (Some (record { moment = l.looked; value = a })) None ≡ Some (record { moment = now; value = u }) → ⊥
        by true a k = looked-before l same (ap (λ (z : Pending V). z.moment) (some-same (record { moment = l.looked; value = a }) (record { moment = now; value = u }) (Some (record { moment = l.looked; value = a })) refl k))
        by false a k = absurd (cc)

    over-is : (x : Context K V I) → IsOpen op old v slot c started x → w ≡ with_context v slot c None now → IsOver old w slot c
    over-is x o is = subst (λ (u : PartitionView K V I). IsOver old u slot c) (sym is) (open-over op old v slot c started x o now)

    -- what came answers nothing where it is a refusal, since Begin stands
    came-in : (y : Refused) (p : Progress K V I O R) → Loads stands entry cmp join f v w slot c (Err y) now (Ok p) → ⊥
    came-in y p (Loads.unknown here is r) = absurd (cc)
    came-in y p (Loads.not_ready x here q is r) = absurd (cc)
    came-in y p (Loads.moved x l here phase begin is r) = begin (ap (λ (z : Loading V). z.begin) (sym (await-same x l here phase)) ∙ h.awaits.begin)
    came-in y p (Loads.failed x l why await e other is r) = absurd (cc)
    came-in y p (Loads.unread x l await e is r) = absurd (cc)
    came-in y p (Loads.stranger x l j t await e held other is r) = absurd (cc)
    came-in y p (Loads.damaged x l j why reads e is r) = absurd (cc)
    came-in y p (Loads.bad_link x l j b parts reads e low place is r) = absurd (cc)
    came-in y p (Loads.done x l j k i value told e read is r) = absurd (cc)
    came-in y p (Loads.prepares x l j k i value told e rmw is r) = absurd (cc)
    came-in y p (Loads.goes_on x l j b parts receipt reads e low place held is r) = absurd (cc)
    came-in y p (Loads.unshared x l j b parts reads e low place is r) = absurd (cc)

    pub loads-told : (came : Result (Joined R) Refused) (p : Progress K V I O R) → Loads stands entry cmp join f v w slot c came now (Ok p) → (IsTrue keeps → Tells cmp f v w slot c now p)
        → HasCome keeps stands cmp join f code op old w slot c started p
    loads-told came p (Loads.unknown here is r) load = absurd (cc)
    loads-told came p (Loads.not_ready x here q is r) load = absurd (cc)
    loads-told came p (Loads.moved x l here phase begin is r) load = absurd (begin (ap (λ (z : Loading V). z.begin) (sym (await-same x l here phase)) ∙ h.awaits.begin))
    loads-told came p (Loads.failed x l why await e other is r) load = absurd (cc)
    loads-told came p (Loads.unread x l await e is r) load = absurd (cc)
    loads-told came p (Loads.stranger x l j t await e held other is r) load = absurd (cc)
    loads-told came p (Loads.damaged x l j why reads e is r) load = absurd (cc)
    loads-told came p (Loads.bad_link x l j b parts reads e low place is r) load = absurd (cc)
    loads-told came p (Loads.done x l j k i value told e read is r) load =
        let t : p ≡ Done (shown_of f k i value) l.looked = cc in
        let aw = told.reads.awaits in
        let o = open-same op old v slot c started h.operation x h.open_is aw.here in
        told-as p (Done (shown_of f k i value) l.looked) t (read-told x l (shown_of f k i value) o (await-same x l aw.here aw.loading) is (λ kept. subst (Tells cmp f v w slot c now) t (load kept) x aw.here (looked-before l (await-same x l aw.here aw.loading))))
    loads-told came p (Loads.prepares x l j k i value told e rmw is r) load =
        let ask : Ask K V I = record { number = x.number; key = k; source = value; input = i } in
        let t : p ≡ NeedsBuild ask = cc in
        let o = open-same op old v slot c started h.operation x h.open_is told.reads.awaits.here in
        told-as p (NeedsBuild ask) t (rw is (record {
          operation = at_phase x (Prepared l.kept value);
          open_is = open-set op old v slot c started x o now (at_phase x (Prepared l.kept value)) v.records later refl refl refl;
          kept = l.kept;
          question = question-rmw x.number x.op l.kept value k i rmw;
        }))
    loads-told came p (Loads.goes_on x l j b parts receipt reads e low place held is r) load =
        let t : p ≡ NeedsLoad receipt b = cc in
        let aw = reads.awaits in
        let o = open-same op old v slot c started h.operation x h.open_is aw.here in
        told-as p (NeedsLoad receipt b) t (further-told x l b parts receipt o aw (await-same x l aw.here aw.loading) held is (λ kept. subst (Tells cmp f v w slot c now) t (load kept) x aw.here (further-looks x l b parts o (await-same x l aw.here aw.loading) is)))
    loads-told came p (Loads.unshared x l j b parts reads e low place is r) load = absurd (cc)

    -- why it is refused
    pub loads-stops : (page before after : ℕ) (came : Result (Joined R) Refused) → IfOk came (λ j. stands j.receipt ≡ s) → OnOk came (after ≡ before) → IfErr came (ReadFailsBy page before after)
        → (why : Refused) → (IsTrue keeps → (n : ℕ) → why ≡ Damaged n → after ≡ before + 1) → Loads {O = O} stands entry cmp join f v w slot c came now (Err why) → IsStop keeps old.records.log.tail before after why × ((w ≡ v) ⊎ IsOver old w slot c)
    loads-stops page before after came own steady counted why fine (Loads.unknown here is r) = absurd (some-none h.operation (context_at v slot c) h.open_is.here here)
    loads-stops page before after came own steady counted why fine (Loads.not_ready x here q is r) =
        let same : h.operation ≡ x = some-same h.operation x (context_at v slot c) h.open_is.here here in
        let e : Some h.loading ≡ None = ap loading_by (sym h.awaits.loading) ∙ ap (λ (z : Context K V I). loading_by z.phase) same ∙ q in
        absurd (cc)
    loads-stops page before after came own steady counted why fine (Loads.moved x l here phase begin is r) = absurd (cc)
    loads-stops page before after came own steady counted why fine (Loads.failed x l y await e other is r) =
        let t : why ≡ y = cc in
        let o = open-same op old v slot c started h.operation x h.open_is await.here in
        (stop-of old.records.log.tail page before after why (subst (ReadFailsBy page before after) (sym t) (subst (λ (q : Result (Joined R) Refused). IfErr q (ReadFailsBy page before after)) e counted)), inr (over-is x o is))
    loads-stops page before after came own steady counted why fine (Loads.unread x l await e is r) =
        let t : why ≡ NoMemory = cc in
        (stop-of old.records.log.tail page before after why (subst (ReadFailsBy page before after) (sym t) (subst (λ (q : Result (Joined R) Refused). IfErr q (ReadFailsBy page before after)) e counted)), inl is)
    loads-stops page before after came own steady counted why fine (Loads.stranger x l j t await e held other is r) =
        let mine : stands j.receipt ≡ s = subst (λ (q : Result (Joined R) Refused). IfOk q (λ j. stands j.receipt ≡ s)) e own in
        let wanted : a ≡ l.wanted = sym h.wanted ∙ ap (λ (z : Loading V). z.wanted) (await-same x l await.here await.loading) in
        let there : receipt_at v.records.log.receipts (page_at v.records.log.bits l.wanted) ≡ Some s = subst (λ n. IsHeldBy v.records.log.receipts (page_at v.records.log.bits n) s) wanted h.held in
        absurd (other (some-same t s (receipt_at v.records.log.receipts (page_at v.records.log.bits l.wanted)) held there ∙ sym mine))
    loads-stops page before after came own steady counted why fine (Loads.damaged x l j y reads e is r) =
        let t : why ≡ Damaged (page_at v.records.log.bits l.wanted) = cc in
        let o = open-same op old v slot c started h.operation x h.open_is reads.awaits.here in
        let same : after ≡ before = subst (λ (q : Result (Joined R) Refused). OnOk q (after ≡ before)) e steady in
        (IsStop.misspelled _ (λ yes_keeps. let more = fine yes_keeps _ t in omega arith) t same, inr (over-is x o is))
    loads-stops page before after came own steady counted why fine (Loads.bad_link x l j b parts reads e low place is r) =
        let t : why ≡ Damaged (page_at v.records.log.bits l.wanted) = cc in
        let o = open-same op old v slot c started h.operation x h.open_is reads.awaits.here in
        let same : after ≡ before = subst (λ (q : Result (Joined R) Refused). OnOk q (after ≡ before)) e steady in
        (IsStop.misspelled _ (λ yes_keeps. let more = fine yes_keeps _ t in omega arith) t same, inr (over-is x o is))
    loads-stops page before after came own steady counted why fine (Loads.done x l j k i value told e read is r) = absurd (cc)
    loads-stops page before after came own steady counted why fine (Loads.prepares x l j k i value told e rmw is r) = absurd (cc)
    loads-stops page before after came own steady counted why fine (Loads.goes_on x l j b parts receipt reads e low place held is r) = absurd (cc)
    loads-stops page before after came own steady counted why fine (Loads.unshared x l j b parts reads e low place is r) =
        let t : why ≡ NoMemory = cc in
        (IsStop.memory t (subst (λ (q : Result (Joined R) Refused). OnOk q (after ≡ before)) e steady), inl is)

    -- where nothing failed, the reader counts as before
    loads-steady : (page before after : ℕ) (came : Result (Joined R) Refused) → OnOk came (after ≡ before) → (p : Progress K V I O R) → Loads stands entry cmp join f v w slot c came now (Ok p) → after ≡ before
    loads-steady page before after (Ok j) steady p loads = steady
    loads-steady page before after (Err why) steady p loads = absurd (came-in why p loads)

    pub loads-advances : (page before after : ℕ) (came : Result (Joined R) Refused) → IfOk came (λ j. stands j.receipt ≡ s) → OnOk came (after ≡ before) → IfErr came (ReadFailsBy page before after)
        → (result : Result (Progress K V I O R) Refused) → (IsTrue keeps → (n : ℕ) → result ≡ Err (Damaged n) → after ≡ before + 1) → Loads stands entry cmp join f v w slot c came now result → (IsTrue keeps → IfOk result (λ p. Tells cmp f v w slot c now p))
        → Advances keeps stands cmp join f code op old v w slot c started before after result
    loads-advances page before after came own steady counted (Ok p) fine loads load = (loads-told came p loads load, loads-steady page before after came steady p loads)
    loads-advances page before after came own steady counted (Err why) fine loads load = loads-stops page before after came own steady counted why (λ yes_keeps n is. fine yes_keeps n (ap Err is)) loads

    -- the page that it waits for is the one that it asked for
    page-asked : (page : ℕ) (at : WaitsFor v slot c page) → page ≡ page_at v.records.log.bits a
    page-asked page at =
        at.page_is
        ∙ ap (λ (z : Loading V). page_at v.records.log.bits z.wanted) (sym (await-same at.operation at.loading at.awaits.here at.awaits.loading))
        ∙ ap (page_at v.records.log.bits) h.wanted

    pub reads-advances : (before after : ℕ) (result : Result (Progress K V I O R) Refused) → (IsTrue keeps → (n : ℕ) → result ≡ Err (Damaged n) → after ≡ before + 1) → LoadsBy stands entry cmp join f v w slot c now before after result → (IsTrue keeps → IfOk result (λ p. Tells cmp f v w slot c now p))
        → Advances keeps stands cmp join f code op old v w slot c started before after result
    reads-advances before after result fine (ReadsBy.idle unasked all same) load =
        absurd (unasked (page_at v.records.log.bits a) (record { operation = h.operation; loading = h.loading; awaits = h.awaits; page_is = ap (page_at v.records.log.bits) (sym h.wanted) }))
    reads-advances before after result fine (ReadsBy.came page p at own does same) load =
        let held : receipt_at v.records.log.receipts page ≡ Some s = subst (λ n. IsHeldBy v.records.log.receipts n s) (sym (page-asked page at)) h.held in
        loads-advances page before after (Ok p) (some-same (stands p.receipt) s (receipt_at v.records.log.receipts page) own held) same tt result fine does load
    reads-advances before after result fine (ReadsBy.failed page why at fails is told) load =
        subst (λ (q : Result (Progress K V I O R) Refused). Advances keeps stands cmp join f code op old v w slot c started before after q) (sym told) (stop-of old.records.log.tail page before after why fails, inl is)
