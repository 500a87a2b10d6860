-- What events leave of look-ups that wait for a page, and of frozen records.
use Rattle.std.proofs.lemmas.Bool.{eqb-true}
use Rattle.std.proofs.Common.{◌≡◌, ◌<◌, ◌⊎◌, ◌==◌, cond, true, false, ℕ, Bool, IsTrue, List, Option, Some, None, option_map, Result, Err, inl, inr, refl, sym, ◌∙◌, ap}
use Rattle.std.specs.declared.cmp.Ordering.{Ordering}
use Rattle.fkv_functions.specs.Meanings.{Meanings}
use Rattle.fkv_functions.specs.declared.asks.Ask.{Ask}
use Rattle.fkv_functions.specs.declared.refusals.Refused.{Refused}
use Rattle.fkv_device.specs.Standing.{Standing, Joined}
use Rattle.fkv_regions.specs.RegionsView.{RegionsView, entered}
use Rattle.fkv_texts.specs.declared.entries.Entry.{Entry}
use Rattle.fkv_texts.specs.Text.{newest, last_of, value_of}
use Rattle.fkv_index.specs.Words.{address_of}
use Rattle.fkv_operations.specs.After.{key_of}
use Rattle.fkv_operations.specs.Still.{IsStill}
use Rattle.fkv_operations.specs.declared.entries.IndexEntry.{IndexEntry}
use Rattle.fkv_operations.specs.declared.operations.KeyedOp.{KeyedOp}
use Rattle.fkv_operations.specs.declared.operations.KeyedOp.TheVariants.{Read, Upsert, Rmw, Delete, Merge}
use Rattle.fkv_operations.specs.declared.operations.Answer.{Answer}
use Rattle.fkv_lookups.specs.RecordsViews.{RecordsView, with_written, with_value, with_receipt, released}
use Rattle.fkv_lookups.specs.declared.decisions.Decision.TheVariants as decided
use Rattle.fkv_lookups.specs.declared.payloads.Payload.{Payload}
use Rattle.fkv_lookups.specs.declared.payloads.Payload.TheVariants.{Whole}
use Rattle.fkv_lookups.specs.Payloads.{standing}
use Rattle.fkv_partition.specs.declared.contexts.Context.{Context}
use Rattle.fkv_partition.specs.declared.contexts.OpenWork.{OpenWork}
use Rattle.fkv_partition.specs.declared.contexts.OpenWork.TheVariants.{OnKey}
use Rattle.fkv_partition.specs.declared.contexts.Loading.{Loading}
use Rattle.fkv_partition.specs.declared.contexts.Phase.{Phase}
use Rattle.fkv_partition.specs.declared.contexts.Phase.TheVariants.{Fresh, Confirm, Prepared, Load}
use Rattle.fkv_partition.specs.declared.contexts.Progress.{Progress}
use Rattle.fkv_partition.specs.Contexts.{context_in, on_key, at_phase}
use Rattle.fkv_partition.specs.Views.{PartitionView, slots_of, context_at, with_context, in_regions, live_of, MovesTo, held_at}
use Rattle.fkv_partition.specs.KeySound.{IsLoading, StandsFor, IsSound}
use Rattle.fkv_partition.specs.KeyBeginning.{Enters, Issues}
use Rattle.fkv_partition.specs.KeyEnding.{Leaves, GivesUp}
use Rattle.fkv_partition.specs.KeyGoing.{Decides, Goes}
use Rattle.fkv_partition.specs.KeyInstalling.{Installs}
use Rattle.fkv_partition.specs.Moves.{Refreshes, Shifts, Evicts}
use Rattle.fkv_partition.specs.Flushing.{Flushes}
use Rattle.fkv_partition.specs.KeyLoading.{Loads}
use Rattle.fkv_partition.specs.KeyEffect.{asked_by, IsGiveUp}
use Rattle.fkv_partition.specs.Pending.{Pending, pending_by, pending_of, pending, OthersPend, AllPend}
use Rattle.fkv_partition.proofs.AskedLemmas.{asked-same, context-apart, context-inside, shown-stays}
use Rattle.fkv_partition.proofs.EventLemmas.{stands-at, refreshed-same, left-same, entered-same}
use Rattle.fkv_partition.proofs.PendingLemmas.{others-pend, frame-of}

-- what is to be found depends on Begin and the text alone
pub pending-same : {K V I : Type 0} (cmp : K → K → Ordering) (r s : RecordsView K V) (o : Option (Context K V I)) → s.log.begin ≡ r.log.begin → s.text ≡ r.text → pending_of cmp s o ≡ pending_of cmp r o
pending-same cmp r s None begin text = refl
pending-same cmp r s (Some x) begin text = by_phase x.phase
  where
    by_phase : (p : Phase _) → pending_by cmp s x.op p ≡ pending_by cmp r x.op p
    by_phase Fresh = refl
    by_phase (Confirm q) = refl
    by_phase (Prepared e v) = refl
    by_phase (Load l) = rw (begin, text) refl

-- records that keep, of each key, what is newest where it is still
abbrev pub KeepsStill : {K V : Type 0} → (K → K → Ordering) → RecordsView K V → RecordsView K V → Type 0
KeepsStill {K} cmp old new = (k : K) (a : ℕ)
    → a < old.log.tail
    → IsStill old.log.regions.offsets.safe_read_only (newest cmp old.text k a)
    → newest cmp new.text k a ≡ newest cmp old.text k a

-- so what a look-up is to find stays
abbrev found_by : {K V I : Type 0} → (K → K → Ordering) → RecordsView K V → KeyedOp K V I → Loading V → Pending V
found_by cmp r op l = record { moment = l.looked; value = value_of (newest cmp r.text (key_of op) (address_of l.kept.word)) }

loads-same : {K V I : Type 0} {keeps : Bool} (cmp : K → K → Ordering) (join : V → V → V) (code : K → ℕ) (r s : RecordsView K V) (op : KeyedOp K V I) (l : Loading V) → IsTrue keeps → s.log.begin ≡ r.log.begin → KeepsStill cmp r s → IsLoading keeps cmp join code r (key_of op) l
    → pending_by cmp s op (Load l) ≡ pending_by cmp r op (Load l)
loads-same cmp join code r s op l yes_keeps begin kept h = rw begin (by_begin (l.begin == r.log.begin) refl)
  where
    by_begin : (b : Bool) → (l.begin == r.log.begin) ≡ b → cond b (Some (found_by cmp s op l)) None ≡ cond b (Some (found_by cmp r op l)) None
    by_begin true same = ap (λ o. Some (record { moment = l.looked; value = value_of o })) (kept (key_of op) (address_of l.kept.word) h.low (h.leads yes_keeps (eqb-true l.begin r.log.begin same)).still)
    by_begin false same = refl

pending-kept : {K V I : Type 0} {keeps : Bool} (cmp : K → K → Ordering) (join : V → V → V) (code : K → ℕ) (r s : RecordsView K V) (op : KeyedOp K V I) (p : Phase V) → IsTrue keeps → s.log.begin ≡ r.log.begin → KeepsStill cmp r s → StandsFor keeps cmp join code r op p
    → pending_by cmp s op p ≡ pending_by cmp r op p
pending-kept cmp join code r s op Fresh yes_keeps begin kept h = refl
pending-kept cmp join code r s op (Confirm q) yes_keeps begin kept h = refl
pending-kept cmp join code r s op (Prepared e v) yes_keeps begin kept h = refl
pending-kept cmp join code r s (Read k i) (Load l) yes_keeps begin kept h = loads-same cmp join code r s (Read k i) l yes_keeps begin kept h
pending-kept cmp join code r s (Upsert k u) (Load l) yes_keeps begin kept h = absurd h
pending-kept cmp join code r s (Rmw k i) (Load l) yes_keeps begin kept h = loads-same cmp join code r s (Rmw k i) l yes_keeps begin kept h
pending-kept cmp join code r s (Delete k) (Load l) yes_keeps begin kept h = absurd h
pending-kept cmp join code r s (Merge k i) (Load l) yes_keeps begin kept h = absurd h

module _ {K V I : Type 0} {keeps : Bool} (cmp : K → K → Ordering) (join : V → V → V) (code : K → ℕ) (v : PartitionView K V I) (s : IsSound keeps cmp join code v) (yes_keeps : IsTrue keeps) where
  all-kept : (r : RecordsView K V) → r.log.begin ≡ v.records.log.begin → KeepsStill cmp v.records r → (t d : ℕ) → pending_of cmp r (context_at v t d) ≡ pending_of cmp v.records (context_at v t d)
  all-kept r begin kept t d = by_context (context_at v t d) refl
    where
      by_context : (o : Option (Context K V I)) → context_at v t d ≡ o → pending_of cmp r o ≡ pending_of cmp v.records o
      by_context None h = refl
      by_context (Some x) h = pending-kept cmp join code v.records r x.op x.phase yes_keeps begin kept (stands-at cmp join code v s t d x h)

  -- one context is set, and the records change
  pub changed-others : (slot c now : ℕ) (x : Context K V I) → context_at v slot c ≡ Some x → (y : Option (Context K V I)) (r : RecordsView K V) → r.log.begin ≡ v.records.log.begin → r.log.regions ≡ v.records.log.regions → KeepsStill cmp v.records r
      → OthersPend cmp v (record (with_context v slot c y now) { records = r }) slot c
  changed-others slot c now x h y r begin regions kept t d o =
      ap (λ (g : RegionsView). pending_of cmp r (on_key (context_in g.epochs.slots (with_context v slot c y now).contexts t d))) regions
      ∙ ap (pending_of cmp r) (context-apart v slot c now x h y t d o)
      ∙ all-kept r begin kept t d

  -- the new partition is another one, of which this is known
  as-others : (new u : PartitionView K V I) (slot c : ℕ) → new ≡ u → OthersPend cmp v u slot c → OthersPend cmp v new slot c
  as-others new u slot c is h t d o = ap (λ (w : PartitionView K V I). pending cmp w t d) is ∙ h t d o

  module _ (new : PartitionView K V I) (slot c now : ℕ) where
    -- a context is set
    set : (x : Context K V I) → context_at v slot c ≡ Some x → (y : Option (Context K V I)) → new ≡ with_context v slot c y now → OthersPend cmp v new slot c
    set x h y is = as-others new _ slot c is (changed-others slot c now x h y v.records refl refl (λ k a low still. refl))

    -- and the words of the index
    reworded : (x : Context K V I) → context_at v slot c ≡ Some x → (y : Option (Context K V I)) (r : RecordsView K V) → r ≡ record v.records { words = r.words } → new ≡ record (with_context v slot c y now) { records = r } → OthersPend cmp v new slot c
    reworded x h y r words is = as-others new _ slot c is (changed-others slot c now x h y r (ap (λ (w : RecordsView K V). w.log.begin) words) (ap (λ (w : RecordsView K V). w.log.regions) words) (λ k a low still. ap (λ (w : RecordsView K V). newest cmp w.text k a) words))

    pub goes-others : {O R : Type 0} (stands : R → Standing) (f : Meanings K V I O) (result : Result (Progress K V I O R) Refused)
        → ((e : IndexEntry) (key : K) (payload : Payload V) (has : Option V) (k : K) (a : ℕ) → a < v.records.log.tail → newest cmp (with_written v.records e key payload has).text k a ≡ newest cmp v.records.text k a)
        → ((x : Context K V I) (value : Option V) (told : Answer O) (e : Entry K V) → Decides cmp join f code v slot c x (decided.Replace value told) → last_of cmp v.records.text (key_of x.op) ≡ Some e → KeepsStill cmp v.records (with_value v.records e.address value))
        → Goes stands cmp join f code v new slot c now result
        → OthersPend cmp v new slot c
    goes-others stands f result grows changes (Goes.unknown h is r) = as-others new v slot c is (λ t d o. refl)
    goes-others stands f result grows changes (Goes.asks x e ask h q is r) = as-others new _ slot c is (λ t d o. refl)
    goes-others stands f result grows changes (Goes.not_ready x l h phase is r) = as-others new v slot c is (λ t d o. refl)
    goes-others stands f result grows changes (Goes.confirms x p h phase alone is r) = reworded x h (Some (at_phase x Fresh)) _ refl is
    goes-others stands f result grows changes (Goes.backs_off x p h phase alone is r) = reworded x h (Some (at_phase x Fresh)) _ refl is
    goes-others stands f result grows changes (Goes.done x t d is r) = set x d.here None is
    goes-others stands f result grows changes (Goes.claims x d is r) = reworded x d.here (Some (at_phase x (Confirm is.place))) is.records (is.claims.is ∙ ap (λ (w : RecordsView K V). record v.records { words = w.words }) (sym is.claims.is)) is.is
    goes-others stands f result grows changes (Goes.unclaimed x d full is r) = as-others new v slot c is (λ t d o. refl)
    goes-others stands f result grows changes (Goes.appends x value t e d entry room free is r) = as-others new _ slot c is (changed-others slot c now x d.here None (with_written v.records e (key_of x.op) value (standing join (live_of cmp v (key_of x.op)) value)) refl refl (λ k a low still. grows e (key_of x.op) value (standing join (live_of cmp v (key_of x.op)) value) k a low))
    goes-others stands f result grows changes (Goes.worn x value t d room is r) = as-others new v slot c is (λ t d o. refl)
    goes-others stands f result grows changes (Goes.full x value t d room is r) = as-others new _ slot c is (λ t d o. refl)
    goes-others stands f result grows changes (Goes.replaces x value t e d last is r) = as-others new _ slot c is (changed-others slot c now x d.here None (with_value v.records e.address value) refl refl (changes x value t e d last))
    goes-others stands f result grows changes (Goes.waits x d is r) = as-others new _ slot c is (λ t d o. refl)
    goes-others stands f result grows changes (Goes.prepares x source i e d entry is r) = set x d.here (Some (at_phase x (Prepared e source))) is
    goes-others stands f result grows changes (Goes.asks_page x b parts e p d entry held is r) = set x d.here (Some (at_phase x (Load (record { begin = v.records.log.begin; kept = e; wanted = b; parts = parts; looked = now })))) is
    goes-others stands f result grows changes (Goes.unshared x b parts d is r) = as-others new v slot c is (λ t d o. refl)

    pub installs-others : {O R : Type 0} (f : Meanings K V I O) (ask : Ask K V I) (result : Result (Progress K V I O R) Refused)
        → ((e : IndexEntry) (key : K) (payload : Payload V) (has : Option V) (k : K) (a : ℕ) → a < v.records.log.tail → newest cmp (with_written v.records e key payload has).text k a ≡ newest cmp v.records.text k a)
        → Installs cmp f code v new slot c ask now result
        → OthersPend cmp v new slot c
    installs-others f ask result grows (Installs.unknown h is r) = as-others new v slot c is (λ t d o. refl)
    installs-others f ask result grows (Installs.not_ready x h q is r) = as-others new v slot c is (λ t d o. refl)
    installs-others f ask result grows (Installs.stranger x e mine h q n is r) = as-others new v slot c is (λ t d o. refl)
    installs-others f ask result grows (Installs.moved x e h q n is r) = set x h (Some (at_phase x Fresh)) is
    installs-others f ask result grows (Installs.declined x e h q n u is r) = set x h None is
    installs-others f ask result grows (Installs.worn x e value h q n u room is r) = as-others new v slot c is (λ t d o. refl)
    installs-others f ask result grows (Installs.full x e value h q n u room is r) = as-others new _ slot c is (λ t d o. refl)
    installs-others f ask result grows (Installs.done x e value h q n u room free is r) = as-others new _ slot c is (changed-others slot c now x h None (with_written v.records e ask.key (Whole (Some value)) (Some value)) refl refl (λ k a low still. grows e ask.key (Whole (Some value)) (Some value) k a low))

-- ---- pages move
pub moved-all : {K V I : Type 0} (keeps : Bool) (cmp : K → K → Ordering) (regions : RegionsView) (old new : PartitionView K V I) (now : ℕ) → IsTrue keeps → MovesTo keeps regions old new now
    → ((t d : ℕ) → context_in regions.epochs.slots old.contexts t d ≡ held_at old t d)
    → AllPend cmp old new
moved-all keeps cmp regions old new now yes_keeps m same t d =
    ap (λ (w : PartitionView _ _ _). pending cmp w t d) m.is
    ∙ ap (λ (r : RecordsView _ _). pending_of cmp new.records (on_key (context_in r.log.regions.epochs.slots old.contexts t d))) m.moves.is
    ∙ ap (λ o. pending_of cmp new.records (on_key o)) (same t d)
    ∙ pending-same cmp old.records new.records (context_at old t d) (ap (λ (r : RecordsView _ _). r.log.begin) m.moves.is) (m.moves.kept yes_keeps)

as-all : {K V I : Type 0} (cmp : K → K → Ordering) (old new : PartitionView K V I) → new ≡ old → AllPend cmp old new
as-all cmp old new is t d = ap (λ (w : PartitionView _ _ _). pending cmp w t d) is

pub refreshes-all : {K V I : Type 0} (keeps : Bool) (cmp : K → K → Ordering) (old new : PartitionView K V I) (slot now : ℕ) (result : Result (Unit {0}) Refused) → IsTrue keeps → Refreshes keeps old new slot now result → AllPend cmp old new
refreshes-all keeps cmp old new slot now result yes_keeps (Refreshes.unknown h is r) = as-all cmp old new is
refreshes-all keeps cmp old new slot now result yes_keeps (Refreshes.refreshes h is r) = moved-all keeps cmp _ old new now yes_keeps is (refreshed-same old slot h)

pub shifts-all : {K V I : Type 0} (keeps : Bool) (cmp : K → K → Ordering) (old new : PartitionView K V I) (page now : ℕ) (result : Result (Unit {0}) Refused) → IsTrue keeps → Shifts keeps old new page now result → AllPend cmp old new
shifts-all keeps cmp old new page now result yes_keeps (Shifts.not_due h is r) = as-all cmp old new is
shifts-all keeps cmp old new page now result yes_keeps (Shifts.full h w is r) = as-all cmp old new is
shifts-all keeps cmp old new page now result yes_keeps (Shifts.shifts h w is r) = moved-all keeps cmp _ old new now yes_keeps is (λ t d. refl)

pub evicts-all : {K V I : Type 0} (keeps : Bool) (cmp : K → K → Ordering) (old new : PartitionView K V I) (page now : ℕ) (result : Result (Unit {0}) Refused) → IsTrue keeps → Evicts keeps old new page now result → AllPend cmp old new
evicts-all keeps cmp old new page now result yes_keeps (Evicts.not_due h is r) = as-all cmp old new is
evicts-all keeps cmp old new page now result yes_keeps (Evicts.full h w is r) = as-all cmp old new is
evicts-all keeps cmp old new page now result yes_keeps (Evicts.evicts h w is r) = moved-all keeps cmp _ old new now yes_keeps is (λ t d. refl)

pub flushes-all : {K V I : Type 0} (cmp : K → K → Ordering) (old new : PartitionView K V I) (st : Standing) (bytes : List ℕ) (now : ℕ) (result : Result (Unit {0}) Refused) → Flushes old new st bytes now result → AllPend cmp old new
flushes-all cmp old new st bytes now result (Flushes.refused why h is r) = as-all cmp old new is
flushes-all cmp old new st bytes now result (Flushes.unkept h is r) = as-all cmp old new is
flushes-all cmp old new st bytes now result (Flushes.keeps h is r) = λ t d. ap (λ (w : PartitionView _ _ _). pending cmp w t d) is ∙ pending-same cmp old.records (with_receipt old.records st) (context_at old t d) refl refl

-- ---- sessions come and go, operations are issued and given up
pub gives-up-others : {K V I : Type 0} (cmp : K → K → Ordering) (old new : PartitionView K V I) (slot c now : ℕ) (result : Result (Unit {0}) Refused) → GivesUp old new slot c now result → OthersPend cmp old new slot c
gives-up-others cmp old new slot c now result (GivesUp.unknown h is r) = λ t d o. ap (λ (w : PartitionView _ _ _). pending cmp w t d) is
gives-up-others cmp old new slot c now result (GivesUp.gives_up x h q is r) = λ t d o. ap (λ (w : PartitionView _ _ _). pending cmp w t d) is ∙ others-pend cmp old slot c now x h None t d o
gives-up-others cmp old new slot c now result (GivesUp.cancels x p h q is r) = λ t d o.
    ap (λ (w : PartitionView _ _ _). pending cmp w t d) is
    ∙ pending-same cmp old.records (released old.records p) (context_at (with_context old slot c None now) t d) refl refl
    ∙ others-pend cmp old slot c now x h None t d o

pub leaves-all : {K V I : Type 0} (keeps : Bool) (cmp : K → K → Ordering) (old new : PartitionView K V I) (slot now : ℕ) (result : Result (Unit {0}) Refused) → IsTrue keeps → Leaves keeps old new slot now result → AllPend cmp old new
leaves-all keeps cmp old new slot now result yes_keeps (Leaves.unknown h is r) = as-all cmp old new is
leaves-all keeps cmp old new slot now result yes_keeps (Leaves.busy c h q is r) = as-all cmp old new is
leaves-all keeps cmp old new slot now result yes_keeps (Leaves.leaves h q is r) = moved-all keeps cmp _ old new now yes_keeps is (left-same old slot q)

pub enters-all : {K V I : Type 0} {keeps : Bool} (cmp : K → K → Ordering) (join : V → V → V) (code : K → ℕ) (old new : PartitionView K V I) (now : ℕ) (result : Result ℕ Refused) → IsSound keeps cmp join code old → Enters old new now result → AllPend cmp old new
enters-all cmp join code old new now result s (Enters.full h is r) = as-all cmp old new is
enters-all cmp join code old new now result s (Enters.enters slot h is r) = λ t d.
    ap (λ (w : PartitionView _ _ _). pending cmp w t d) is
    ∙ ap (λ o. pending_of cmp (in_regions old (entered old.records.log.regions slot) now).records (on_key o)) (entered-same cmp join code old s slot h t d)
    ∙ pending-same cmp old.records (in_regions old (entered old.records.log.regions slot) now).records (context_at old t d) refl refl

-- a context that was free holds an operation that has not begun
pub issues-all : {K V I : Type 0} (cmp : K → K → Ordering) (code : K → ℕ) (old new : PartitionView K V I) (slot c : ℕ) (op : KeyedOp K V I) (now : ℕ) → Issues code old new slot c op now → AllPend cmp old new
issues-all {K} {V} {I} cmp code old new slot c op now h = λ t d.
    ap (λ (w : PartitionView K V I). pending cmp w t d) h.is
    ∙ shown-stays (λ (o : Option (OpenWork K V I)). pending_of cmp old.records (on_key o)) refl (slots_of old) old.contexts slot c t d (Some (OnKey (record { number = now; op = op; phase = Fresh })))
    (ap (λ (o : Option (OpenWork K V I)). pending_of cmp old.records (on_key o)) (sym (context-inside (slots_of old) old.contexts slot c h.entered h.low) ∙ h.free)) refl

-- ---- a page comes, or what came in its place
module _ {K V I O R : Type 0} (stands : R → Standing) (entry : ℕ → List ℕ → ℕ → Entry K V → Type 0) (cmp : K → K → Ordering) (join : V → V → V) (f : Meanings K V I O) (old new : PartitionView K V I) (slot c now : ℕ) (came : Result (Joined R) Refused) where
  stays : new ≡ old → OthersPend cmp old new slot c
  stays is t d o = ap (λ (w : PartitionView K V I). pending cmp w t d) is

  sets : (x : Context K V I) → context_at old slot c ≡ Some x → (y : Option (Context K V I)) → new ≡ with_context old slot c y now → OthersPend cmp old new slot c
  sets x h y is t d o = ap (λ (w : PartitionView K V I). pending cmp w t d) is ∙ others-pend cmp old slot c now x h y t d o

  pub loads-others : (result : Result (Progress K V I O R) Refused) → Loads stands entry cmp join f old new slot c came now result → OthersPend cmp old new slot c
  loads-others result (Loads.unknown h is r) = stays is
  loads-others result (Loads.not_ready x h n is r) = stays is
  loads-others result (Loads.moved x l h phase n is r) = sets x h (Some (at_phase x Fresh)) is
  loads-others result (Loads.failed x l why a q n is r) = sets x a.here None is
  loads-others result (Loads.unread x l a q is r) = stays is
  loads-others result (Loads.stranger x l p s a q h n is r) = stays is
  loads-others result (Loads.damaged x l p why a q is r) = sets x a.awaits.here None is
  loads-others result (Loads.bad_link x l p b parts a q high n is r) = sets x a.awaits.here None is
  loads-others result (Loads.done x l p k i value a q op is r) = sets x a.reads.awaits.here None is
  loads-others result (Loads.prepares x l p k i value a q op is r) = sets x a.reads.awaits.here (Some (at_phase x (Prepared l.kept value))) is
  loads-others result (Loads.goes_on x l p b parts r a q high place held is t) = sets x a.awaits.here (Some (at_phase x (Load (record { begin = l.begin; kept = l.kept; wanted = b; parts = parts; looked = l.looked })))) is
  loads-others result (Loads.unshared x l p b parts a q high place is r) = stays is

  ends : (x : Context K V I) → context_at old slot c ≡ Some x → new ≡ with_context old slot c None now → (new ≡ old) ⊎ IsGiveUp old new slot c now
  ends x h is = inr (rw is (record {
    question = asked_by x;
    was = ap (option_map asked_by) h;
    closed = asked-same old slot c now x h None;
    text = refl;
    cleared = refl;
    frame = frame-of cmp old slot c now x h None;
  }))

  -- one that fails
  pub fails-whole : (why : Refused) → Loads stands entry cmp join f old new slot c came now (Err why) → (new ≡ old) ⊎ IsGiveUp old new slot c now
  fails-whole why (Loads.unknown h is r) = inl is
  fails-whole why (Loads.not_ready x h n is r) = inl is
  fails-whole why (Loads.moved x l h phase n is r) = absurd (cc)
  fails-whole why (Loads.failed x l w a q n is r) = ends x a.here is
  fails-whole why (Loads.unread x l a q is r) = inl is
  fails-whole why (Loads.stranger x l p s a q h n is r) = inl is
  fails-whole why (Loads.damaged x l p w a q is r) = ends x a.awaits.here is
  fails-whole why (Loads.bad_link x l p b parts a q high n is r) = ends x a.awaits.here is
  fails-whole why (Loads.done x l p k i value a q op is r) = absurd (cc)
  fails-whole why (Loads.prepares x l p k i value a q op is r) = absurd (cc)
  fails-whole why (Loads.goes_on x l p b parts s a q high place held is r) = absurd (cc)
  fails-whole why (Loads.unshared x l p b parts a q high place is r) = inl is
