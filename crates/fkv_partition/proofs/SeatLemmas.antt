-- What events leave of the contexts in which nothing is open, and of the slots at which a session is entered.
use Rattle.std.proofs.Common.{◌≡◌, ◌≢◌, ◌+◌, ◌*◌, true, ℕ, Bool, List, Option, Some, None, option_map, is_some, slice_get, slice_set, Result, refl, sym, ◌∙◌, ap}
use Rattle.std.specs.Option.{option_flatten}
use Rattle.std.specs.declared.cmp.Ordering.{Ordering}
use Rattle.fkv_functions.specs.Meanings.{Meanings}
use Rattle.fkv_functions.specs.declared.asks.Ask.{Ask}
use Rattle.fkv_functions.specs.declared.refusals.Refused.{Refused}
use Rattle.fkv_functions.proofs.ListLemmas.{get-set_other}
use Rattle.fkv_device.specs.Standing.{Standing, Joined}
use Rattle.fkv_regions.specs.RegionsView.{RegionsView}
use Rattle.fkv_texts.specs.declared.entries.Entry.{Entry}
use Rattle.fkv_operations.specs.declared.operations.KeyedOp.{KeyedOp}
use Rattle.fkv_lookups.specs.RecordsViews.{RecordsView}
use Rattle.fkv_partition.specs.declared.contexts.Context.{Context}
use Rattle.fkv_partition.specs.declared.contexts.OpenWork.{OpenWork}
use Rattle.fkv_partition.specs.declared.contexts.OpenWork.TheVariants.{OnKey}
use Rattle.fkv_partition.specs.declared.contexts.Phase.TheVariants.{Fresh}
use Rattle.fkv_partition.specs.declared.contexts.Progress.{Progress}
use Rattle.fkv_partition.specs.Contexts.{joined, is_session, relocating}
use Rattle.fkv_partition.specs.KeyBeginning.{Enters, Issues}
use Rattle.fkv_partition.specs.KeyEnding.{Leaves, GivesUp}
use Rattle.fkv_partition.specs.KeyGoing.{Goes}
use Rattle.fkv_partition.specs.KeyInstalling.{Installs}
use Rattle.fkv_partition.specs.Moves.{Refreshes, Shifts, Evicts}
use Rattle.fkv_partition.specs.Flushing.{Flushes}
use Rattle.fkv_partition.specs.KeyLoading.{Loads}
use Rattle.fkv_partition.specs.Cutting.{Truncates}
use Rattle.fkv_partition.specs.Grown.{RelocationsStay, IsPassedOn, AllStay}
use Rattle.fkv_partition.specs.Views.{PartitionView, slots_of, context_at, MovesTo}
use Rattle.fkv_partition.proofs.AskedLemmas.{key_at, context-inside, shown-set, key-moves_nothing, renewed-stays}

-- relocations stay, and no session goes
abbrev pub Seats : {K V I : Type 0} → PartitionView K V I → PartitionView K V I → Type 0
Seats old new = IsPassedOn old new × AllStay old new

module _ {K V I : Type 0} (v new : PartitionView K V I) where
  all-stay : slots_of new ≡ slots_of v → AllStay v new
  all-stay slots s h = ap (λ l. is_session l s) slots ∙ h

  none-moves : new.contexts ≡ v.contexts → RelocationsStay v new
  none-moves contexts p = ap (λ (l : List (Option (OpenWork K V I))). relocating (joined (slice_get l p))) contexts

  seats-same : new.contexts ≡ v.contexts → slots_of new ≡ slots_of v → new.cleared ≡ v.cleared → Seats v new
  seats-same contexts slots cleared = (record { cleared = cleared; relocations = none-moves contexts }, all-stay slots)

  -- a context in which no relocation stands is set to an operation on a key, or to nothing
  seats-set : (slot c : ℕ) (y : Option (Context K V I)) → relocating (joined (slice_get v.contexts (slot * 8 + c))) ≡ None → new.contexts ≡ slice_set v.contexts (slot * 8 + c) (option_map OnKey y) → slots_of new ≡ slots_of v → new.cleared ≡ v.cleared → Seats v new
  seats-set slot c y none contexts slots cleared = (
    record { cleared = cleared; relocations = λ p. none-set p ∙ shown-set {A = OpenWork K V I} relocating refl v.contexts (slot * 8 + c) p (option_map OnKey y) none (key-moves_nothing y) },
    all-stay slots,
  )
    where
      none-set : (p : ℕ) → relocating (joined (slice_get new.contexts p)) ≡ relocating (joined (slice_get (slice_set v.contexts (slot * 8 + c) (option_map OnKey y)) p))
      none-set p = ap (λ (l : List (Option (OpenWork K V I))). relocating (joined (slice_get l p))) contexts

  seats-changed : (slot c : ℕ) (x : Context K V I) (y : Option (Context K V I)) → context_at v slot c ≡ Some x → new.contexts ≡ slice_set v.contexts (slot * 8 + c) (option_map OnKey y) → slots_of new ≡ slots_of v → new.cleared ≡ v.cleared → Seats v new
  seats-changed slot c x y h = seats-set slot c y (ap (λ (o : Option (Option (OpenWork K V I))). relocating (joined o)) (key_at (slots_of v) v.contexts slot c x h).here)

  seats-as : new ≡ v → Seats v new
  seats-as is = seats-same (ap (λ (u : PartitionView K V I). u.contexts) is) (ap (λ (u : PartitionView K V I). slots_of u) is) (ap (λ (u : PartitionView K V I). u.cleared) is)

  -- the regions move
  moved-slots : {keeps : Bool} (regions : RegionsView) (now : ℕ) → MovesTo keeps regions v new now → slots_of new ≡ regions.epochs.slots
  moved-slots regions now m = ap (λ (r : RecordsView K V). r.log.regions.epochs.slots) m.moves.is

  moved-opens : {keeps : Bool} (regions : RegionsView) (now : ℕ) → MovesTo keeps regions v new now → IsPassedOn v new
  moved-opens regions now m = record { cleared = ap (λ (u : PartitionView K V I). u.cleared) m.is; relocations = none-moves (ap (λ (u : PartitionView K V I). u.contexts) m.is) }

  seats-moved : {keeps : Bool} (regions : RegionsView) (now : ℕ) → ((s : ℕ) → is_session (slots_of v) s ≡ true → is_session regions.epochs.slots s ≡ true) → MovesTo keeps regions v new now → Seats v new
  seats-moved regions now stay m = (moved-opens regions now m, λ s h. ap (λ l. is_session l s) (moved-slots regions now m) ∙ stay s h)

  -- ---- by kind of event
  module _ (slot c now : ℕ) where
    pub goes-seats : {O R : Type 0} (stands : R → Standing) (cmp : K → K → Ordering) (join : V → V → V) (f : Meanings K V I O) (code : K → ℕ) (result : Result (Progress K V I O R) Refused)
        → Goes stands cmp join f code v new slot c now result
        → Seats v new
    goes-seats stands cmp join f code result (Goes.unknown h is r) = seats-as is
    goes-seats stands cmp join f code result (Goes.asks x e ask h q is r) = seats-same (ap (λ (u : PartitionView K V I). u.contexts) is) (ap (λ (u : PartitionView K V I). slots_of u) is) (ap (λ (u : PartitionView K V I). u.cleared) is)
    goes-seats stands cmp join f code result (Goes.not_ready x l h phase is r) = seats-as is
    goes-seats stands cmp join f code result (Goes.confirms x p h phase alone is r) = seats-changed slot c x (Some _) h (ap (λ (u : PartitionView K V I). u.contexts) is) (ap (λ (u : PartitionView K V I). slots_of u) is) (ap (λ (u : PartitionView K V I). u.cleared) is)
    goes-seats stands cmp join f code result (Goes.backs_off x p h phase alone is r) = seats-changed slot c x (Some _) h (ap (λ (u : PartitionView K V I). u.contexts) is) (ap (λ (u : PartitionView K V I). slots_of u) is) (ap (λ (u : PartitionView K V I). u.cleared) is)
    goes-seats stands cmp join f code result (Goes.done x t d is r) = seats-changed slot c x None d.here (ap (λ (u : PartitionView K V I). u.contexts) is) (ap (λ (u : PartitionView K V I). slots_of u) is) (ap (λ (u : PartitionView K V I). u.cleared) is)
    goes-seats stands cmp join f code result (Goes.claims x d i r) = seats-changed slot c x (Some _) d.here (ap (λ (u : PartitionView K V I). u.contexts) i.is) (ap (λ (u : PartitionView K V I). slots_of u) i.is ∙ ap (λ (r : RecordsView K V). r.log.regions.epochs.slots) i.claims.is) (ap (λ (u : PartitionView K V I). u.cleared) i.is)
    goes-seats stands cmp join f code result (Goes.unclaimed x d full is r) = seats-as is
    goes-seats stands cmp join f code result (Goes.appends x value t e d entry room free is r) = seats-changed slot c x None d.here (ap (λ (u : PartitionView K V I). u.contexts) is) (ap (λ (u : PartitionView K V I). slots_of u) is) (ap (λ (u : PartitionView K V I). u.cleared) is)
    goes-seats stands cmp join f code result (Goes.worn x value t d room is r) = seats-as is
    goes-seats stands cmp join f code result (Goes.full x value t d room is r) = seats-same (ap (λ (u : PartitionView K V I). u.contexts) is) (ap (λ (u : PartitionView K V I). slots_of u) is) (ap (λ (u : PartitionView K V I). u.cleared) is)
    goes-seats stands cmp join f code result (Goes.replaces x value t e d last is r) = seats-changed slot c x None d.here (ap (λ (u : PartitionView K V I). u.contexts) is) (ap (λ (u : PartitionView K V I). slots_of u) is) (ap (λ (u : PartitionView K V I). u.cleared) is)
    goes-seats stands cmp join f code result (Goes.waits x d is r) = seats-same (ap (λ (u : PartitionView K V I). u.contexts) is) (ap (λ (u : PartitionView K V I). slots_of u) is) (ap (λ (u : PartitionView K V I). u.cleared) is)
    goes-seats stands cmp join f code result (Goes.prepares x source i e d entry is r) = seats-changed slot c x (Some _) d.here (ap (λ (u : PartitionView K V I). u.contexts) is) (ap (λ (u : PartitionView K V I). slots_of u) is) (ap (λ (u : PartitionView K V I). u.cleared) is)
    goes-seats stands cmp join f code result (Goes.asks_page x b parts e p d entry held is r) = seats-changed slot c x (Some _) d.here (ap (λ (u : PartitionView K V I). u.contexts) is) (ap (λ (u : PartitionView K V I). slots_of u) is) (ap (λ (u : PartitionView K V I). u.cleared) is)
    goes-seats stands cmp join f code result (Goes.unshared x b parts d is r) = seats-as is

    pub installs-seats : {O R : Type 0} (cmp : K → K → Ordering) (join : V → V → V) (f : Meanings K V I O) (code : K → ℕ) (ask : Ask K V I) (result : Result (Progress K V I O R) Refused)
        → Installs cmp f code v new slot c ask now result
        → Seats v new
    installs-seats cmp join f code ask result (Installs.unknown h is r) = seats-as is
    installs-seats cmp join f code ask result (Installs.not_ready x h q is r) = seats-as is
    installs-seats cmp join f code ask result (Installs.stranger x e mine h q n is r) = seats-as is
    installs-seats cmp join f code ask result (Installs.moved x e h q n is r) = seats-changed slot c x (Some _) h (ap (λ (u : PartitionView K V I). u.contexts) is) (ap (λ (u : PartitionView K V I). slots_of u) is) (ap (λ (u : PartitionView K V I). u.cleared) is)
    installs-seats cmp join f code ask result (Installs.declined x e h q n u is r) = seats-changed slot c x None h (ap (λ (u : PartitionView K V I). u.contexts) is) (ap (λ (u : PartitionView K V I). slots_of u) is) (ap (λ (u : PartitionView K V I). u.cleared) is)
    installs-seats cmp join f code ask result (Installs.worn x e value h q n u room is r) = seats-as is
    installs-seats cmp join f code ask result (Installs.full x e value h q n u room is r) = seats-same (ap (λ (u : PartitionView K V I). u.contexts) is) (ap (λ (u : PartitionView K V I). slots_of u) is) (ap (λ (u : PartitionView K V I). u.cleared) is)
    installs-seats cmp join f code ask result (Installs.done x e value h q n u room free is r) = seats-changed slot c x None h (ap (λ (u : PartitionView K V I). u.contexts) is) (ap (λ (u : PartitionView K V I). slots_of u) is) (ap (λ (u : PartitionView K V I). u.cleared) is)

    pub loads-seats : {O R : Type 0} (stands : R → Standing) (entry : ℕ → List ℕ → ℕ → Entry K V → Type 0) (cmp : K → K → Ordering) (join : V → V → V) (f : Meanings K V I O) (came : Result (Joined R) Refused) (result : Result (Progress K V I O R) Refused)
        → Loads stands entry cmp join f v new slot c came now result
        → Seats v new
    loads-seats stands entry cmp join f came result (Loads.unknown h is r) = seats-as is
    loads-seats stands entry cmp join f came result (Loads.not_ready x h n is r) = seats-as is
    loads-seats stands entry cmp join f came result (Loads.moved x l h phase n is r) = seats-changed slot c x (Some _) h (ap (λ (u : PartitionView K V I). u.contexts) is) (ap (λ (u : PartitionView K V I). slots_of u) is) (ap (λ (u : PartitionView K V I). u.cleared) is)
    loads-seats stands entry cmp join f came result (Loads.failed x l why a q n is r) = seats-changed slot c x None a.here (ap (λ (u : PartitionView K V I). u.contexts) is) (ap (λ (u : PartitionView K V I). slots_of u) is) (ap (λ (u : PartitionView K V I). u.cleared) is)
    loads-seats stands entry cmp join f came result (Loads.unread x l a q is r) = seats-as is
    loads-seats stands entry cmp join f came result (Loads.stranger x l p st a q h n is r) = seats-as is
    loads-seats stands entry cmp join f came result (Loads.damaged x l p why a q is r) = seats-changed slot c x None a.awaits.here (ap (λ (u : PartitionView K V I). u.contexts) is) (ap (λ (u : PartitionView K V I). slots_of u) is) (ap (λ (u : PartitionView K V I). u.cleared) is)
    loads-seats stands entry cmp join f came result (Loads.bad_link x l p b parts a q high n is r) = seats-changed slot c x None a.awaits.here (ap (λ (u : PartitionView K V I). u.contexts) is) (ap (λ (u : PartitionView K V I). slots_of u) is) (ap (λ (u : PartitionView K V I). u.cleared) is)
    loads-seats stands entry cmp join f came result (Loads.done x l p k i value a q op is r) = seats-changed slot c x None a.reads.awaits.here (ap (λ (u : PartitionView K V I). u.contexts) is) (ap (λ (u : PartitionView K V I). slots_of u) is) (ap (λ (u : PartitionView K V I). u.cleared) is)
    loads-seats stands entry cmp join f came result (Loads.prepares x l p k i value a q op is r) = seats-changed slot c x (Some _) a.reads.awaits.here (ap (λ (u : PartitionView K V I). u.contexts) is) (ap (λ (u : PartitionView K V I). slots_of u) is) (ap (λ (u : PartitionView K V I). u.cleared) is)
    loads-seats stands entry cmp join f came result (Loads.goes_on x l p b parts r a q high at held is t) = seats-changed slot c x (Some _) a.awaits.here (ap (λ (u : PartitionView K V I). u.contexts) is) (ap (λ (u : PartitionView K V I). slots_of u) is) (ap (λ (u : PartitionView K V I). u.cleared) is)
    loads-seats stands entry cmp join f came result (Loads.unshared x l p b parts a q high at is r) = seats-as is

    pub gives-up-seats : (result : Result (Unit {0}) Refused) → GivesUp v new slot c now result → Seats v new
    gives-up-seats result (GivesUp.unknown h is r) = seats-as is
    gives-up-seats result (GivesUp.gives_up x h q is r) = seats-changed slot c x None h (ap (λ (u : PartitionView K V I). u.contexts) is) (ap (λ (u : PartitionView K V I). slots_of u) is) (ap (λ (u : PartitionView K V I). u.cleared) is)
    gives-up-seats result (GivesUp.cancels x p h q is r) = seats-changed slot c x None h (ap (λ (u : PartitionView K V I). u.contexts) is) (ap (λ (u : PartitionView K V I). slots_of u) is) (ap (λ (u : PartitionView K V I). u.cleared) is)

    -- an operation opens in a context in which nothing stood
    pub issues-seats : (code : K → ℕ) (op : KeyedOp K V I) → Issues code v new slot c op now → Seats v new
    issues-seats code op h =
        seats-set slot c (Some (record { number = now; op = op; phase = Fresh }))
        (ap (λ (o : Option (OpenWork K V I)). relocating o) (sym (context-inside (slots_of v) v.contexts slot c h.entered h.low) ∙ h.free))
        (ap (λ (u : PartitionView K V I). u.contexts) h.is) (ap (λ (u : PartitionView K V I). slots_of u) h.is) (ap (λ (u : PartitionView K V I). u.cleared) h.is)

  pub enters-seats : (now : ℕ) (result : Result ℕ Refused) → Enters v new now result → Seats v new
  enters-seats now result (Enters.full h is r) = seats-as is
  enters-seats now result (Enters.enters slot h is r) = (
    record { cleared = ap (λ (u : PartitionView K V I). u.cleared) is; relocations = none-moves (ap (λ (u : PartitionView K V I). u.contexts) is) },
    λ s entered. ap (λ (u : PartitionView K V I). is_session (slots_of u) s) is ∙ renewed-stays (slots_of v) slot s v.records.log.regions.epochs.epoch entered,
  )

  -- the session at the slot alone goes
  pub leaves-seats : (keeps : Bool) (slot now : ℕ) (result : Result (Unit {0}) Refused) → Leaves keeps v new slot now result
      → IsPassedOn v new × ((s : ℕ) → s ≢ slot → is_session (slots_of v) s ≡ true → is_session (slots_of new) s ≡ true)
  leaves-seats keeps slot now result (Leaves.unknown h is r) = ((seats-as is).0, λ s other. (seats-as is).1 s)
  leaves-seats keeps slot now result (Leaves.busy c h q is r) = ((seats-as is).0, λ s other. (seats-as is).1 s)
  leaves-seats keeps slot now result (Leaves.leaves h q m r) = (
    moved-opens _ now m,
    λ s other entered. ap (λ l. is_session l s) (moved-slots _ now m) ∙ ap (λ o. is_some (option_flatten o)) (get-set_other (slots_of v) slot s None other) ∙ entered,
  )

  pub refreshes-seats : (keeps : Bool) (slot now : ℕ) (result : Result (Unit {0}) Refused) → Refreshes keeps v new slot now result → Seats v new
  refreshes-seats keeps slot now result (Refreshes.unknown h is r) = seats-as is
  refreshes-seats keeps slot now result (Refreshes.refreshes h m r) = seats-moved _ now (λ s entered. renewed-stays (slots_of v) slot s v.records.log.regions.epochs.epoch entered) m

  pub shifts-seats : (keeps : Bool) (page now : ℕ) (result : Result (Unit {0}) Refused) → Shifts keeps v new page now result → Seats v new
  shifts-seats keeps page now result (Shifts.not_due h is r) = seats-as is
  shifts-seats keeps page now result (Shifts.full h w is r) = seats-as is
  shifts-seats keeps page now result (Shifts.shifts h w m r) = seats-moved _ now (λ s entered. entered) m

  pub evicts-seats : (keeps : Bool) (page now : ℕ) (result : Result (Unit {0}) Refused) → Evicts keeps v new page now result → Seats v new
  evicts-seats keeps page now result (Evicts.not_due h is r) = seats-as is
  evicts-seats keeps page now result (Evicts.full h w is r) = seats-as is
  evicts-seats keeps page now result (Evicts.evicts h w m r) = seats-moved _ now (λ s entered. entered) m

  pub flushes-seats : (st : Standing) (bytes : List ℕ) (now : ℕ) (result : Result (Unit {0}) Refused) → Flushes v new st bytes now result → Seats v new
  flushes-seats st bytes now result (Flushes.refused why h is r) = seats-as is
  flushes-seats st bytes now result (Flushes.unkept h is r) = seats-as is
  flushes-seats st bytes now result (Flushes.keeps h is r) = seats-same (ap (λ (u : PartitionView K V I). u.contexts) is) (ap (λ (u : PartitionView K V I). slots_of u) is) (ap (λ (u : PartitionView K V I). u.cleared) is)

  pub truncates-seats : (keeps : Bool) (page now : ℕ) (result : Result (Unit {0}) Refused) → Truncates keeps v new page now result → Seats v new
  truncates-seats keeps page now result (Truncates.not_due n is r) = seats-as is
  truncates-seats keeps page now result (Truncates.truncates due is r) = seats-same (ap (λ (u : PartitionView K V I). u.contexts) is) (ap (λ (u : PartitionView K V I). slots_of u) is) (ap (λ (u : PartitionView K V I). u.cleared) is)
