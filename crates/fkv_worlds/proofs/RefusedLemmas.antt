-- Which refusals end no operation: all but those of a load that ends its own.
use Rattle.std.proofs.Common.{◌≡◌, ◌==◌, ◌<◌, ◌⊎◌, inl, inr, Bool, true, false, ℕ, List, [], ◌∷◌, length, Option, Some, None, Result, Err, option_map, refl, sym, ◌∙◌, ap, arith}
use Rattle.std.specs.declared.cmp.Ordering.{Ordering}
use Rattle.fkv_functions.specs.Meanings.{Meanings}
use Rattle.fkv_functions.specs.declared.asks.Ask.{Ask}
use Rattle.fkv_functions.specs.declared.refusals.Refused.{Refused}
use Rattle.fkv_functions.specs.declared.refusals.Refused.TheVariants.{NoMemory, NoSlot, NoContext, Unknown, Busy, NotDue, DrainFull, Stranger, Worn, Device, NotReady, NoMerge}
use Rattle.fkv_functions.specs.declared.refusals.What.TheVariants.{Page, Bytes}
use Rattle.fkv_device.specs.Standing.{Standing, Joined}
use Rattle.fkv_device.specs.declared.messages.FlushJob.{FlushJob}
use Rattle.fkv_texts.specs.declared.entries.Entry.{Entry}
use Rattle.fkv_operations.specs.declared.operations.Op.{Op}
use Rattle.fkv_operations.specs.declared.operations.KeyedOp.{KeyedOp}
use Rattle.fkv_operations.specs.declared.entries.IndexEntry.{IndexEntry}
use Rattle.fkv_hybrid.specs.Flushes.{difference, bytes_refusal}
use Rattle.fkv_hybrid.specs.Views.{LogView}
use Rattle.fkv_hybrid.specs.Flushes.{flush_refusal}
use Rattle.fkv_records.specs.Places.{page_at}
use Rattle.fkv_partition.specs.Views.{PartitionView}
use Rattle.fkv_partition.specs.KeyBeginning as core_beginning
use Rattle.fkv_partition.specs.KeyEnding as core_ending
use Rattle.fkv_partition.specs.Flushing as core_flushing
use Rattle.fkv_partition.specs.KeyGoing as core_going
use Rattle.fkv_partition.specs.KeyInstalling as core_installing
use Rattle.fkv_partition.specs.KeyLoading as core_loading
use Rattle.fkv_partition.specs.Moves as core_looking
use Rattle.fkv_partition.specs.declared.relocations.Relocation.{Relocation}
use Rattle.fkv_partition.specs.Effect.{IsGiveUp}
use Rattle.fkv_partition.specs.Events.{GivesUp, Goes, Installs, Loads, Issues}
use Rattle.fkv_partition.specs.Beginning.{IssuesOnKey, Relocates, LeavesAll, Drops}
use Rattle.fkv_partition.specs.Going.{GoesOn}
use Rattle.fkv_partition.specs.Reading.{LoadsOn}
use Rattle.fkv_partition.specs.Truncating.{Truncates}
use Rattle.fkv_partition.specs.Checking.{Ends, Asks, ChecksLiveness}
use Rattle.fkv_lives.specs.declared.steps.Access.{Access}
use Rattle.fkv_lives.specs.declared.steps.Step.{Step}
use Rattle.fkv_worlds.specs.Devices.{receipt_of, Comes, Unwritten, Spoils}
use Rattle.fkv_worlds.specs.Refusing as refusing
use Rattle.fkv_worlds.specs.Refusing.{Refuses}
use Rattle.fkv_worlds.specs.States.{StateView}
use Rattle.fkv_lives.specs.Told.{ends_operation}

-- a refusal that is this one
is : (e r : Refused) → e ≡ r → ends_operation r ≡ false → ends_operation e ≡ false
is e r h n = ap ends_operation h ∙ n

ok-err : {A : Type 0} (e r : Refused) → ◌≡◌ {A = Result A Refused} (Err e) (Err r) → e ≡ r
ok-err e r h = cc

module _ {K V I : Type 0} (old new : PartitionView K V I) (now : ℕ) (e : Refused) where
  enters-no : core_beginning.Enters old new now (Err e) → ends_operation e ≡ false
  enters-no (core_beginning.Enters.full a b h) = is e NoSlot (ok-err e _ h) refl
  enters-no (core_beginning.Enters.enters slot a b h) = absurd (cc)

  leaves-no : (keeps : Bool) (slot : ℕ) → core_ending.Leaves keeps old new slot now (Err e) → ends_operation e ≡ false
  leaves-no keeps slot (core_ending.Leaves.unknown a b h) = is e Unknown (ok-err e _ h) refl
  leaves-no keeps slot (core_ending.Leaves.busy c a b d h) = is e Busy (ok-err e _ h) refl
  leaves-no keeps slot (core_ending.Leaves.leaves a b c h) = absurd (cc)

  gives_up-no : (slot c : ℕ) → core_ending.GivesUp old new slot c now (Err e) → ends_operation e ≡ false
  gives_up-no slot c (core_ending.GivesUp.unknown a b h) = is e Unknown (ok-err e _ h) refl
  gives_up-no slot c (core_ending.GivesUp.gives_up x a b d h) = absurd (cc)
  gives_up-no slot c (core_ending.GivesUp.cancels x p a b d h) = absurd (cc)

  refreshes-no : (keeps : Bool) (slot : ℕ) → core_looking.Refreshes keeps old new slot now (Err e) → ends_operation e ≡ false
  refreshes-no keeps slot (core_looking.Refreshes.unknown a b h) = is e Unknown (ok-err e _ h) refl
  refreshes-no keeps slot (core_looking.Refreshes.refreshes a b h) = absurd (cc)

  shifts-no : (keeps : Bool) (page : ℕ) → core_looking.Shifts keeps old new page now (Err e) → ends_operation e ≡ false
  shifts-no keeps page (core_looking.Shifts.not_due a b h) = is e NotDue (ok-err e _ h) refl
  shifts-no keeps page (core_looking.Shifts.full a b c h) = is e DrainFull (ok-err e _ h) refl
  shifts-no keeps page (core_looking.Shifts.shifts a b c h) = absurd (cc)

  evicts-no : (keeps : Bool) (page : ℕ) → core_looking.Evicts keeps old new page now (Err e) → ends_operation e ≡ false
  evicts-no keeps page (core_looking.Evicts.not_due a b h) = is e NotDue (ok-err e _ h) refl
  evicts-no keeps page (core_looking.Evicts.full a b c h) = is e DrainFull (ok-err e _ h) refl
  evicts-no keeps page (core_looking.Evicts.evicts a b c h) = absurd (cc)

  goes-no : {O R : Type 0} (stands : R → Standing) (cmp : K → K → Ordering) (join : V → V → V) (f : Meanings K V I O) (code : K → ℕ) (slot c : ℕ) → core_going.Goes stands cmp join f code old new slot c now (Err e) → ends_operation e ≡ false
  goes-no stands cmp join f code slot c (core_going.Goes.unknown a b h) = is e Unknown (ok-err e _ h) refl
  goes-no stands cmp join f code slot c (core_going.Goes.asks x k ask a q b h) = absurd (cc)
  goes-no stands cmp join f code slot c (core_going.Goes.not_ready x l a p b h) = is e NotReady (ok-err e _ h) refl
  goes-no stands cmp join f code slot c (core_going.Goes.confirms x p a q alone b h) = absurd (cc)
  goes-no stands cmp join f code slot c (core_going.Goes.backs_off x p a q alone b h) = absurd (cc)
  goes-no stands cmp join f code slot c (core_going.Goes.done x t d b h) = absurd (cc)
  goes-no stands cmp join f code slot c (core_going.Goes.claims x d b h) = absurd (cc)
  goes-no stands cmp join f code slot c (core_going.Goes.unclaimed x d full b h) = is e NoMemory (ok-err e _ h) refl
  goes-no stands cmp join f code slot c (core_going.Goes.appends x v t k d entry room free b h) = absurd (cc)
  goes-no stands cmp join f code slot c (core_going.Goes.worn x v t d room b h) = is e Worn (ok-err e _ h) refl
  goes-no stands cmp join f code slot c (core_going.Goes.full x v t d room b h) = absurd (cc)
  goes-no stands cmp join f code slot c (core_going.Goes.replaces x v t k d last b h) = absurd (cc)
  goes-no stands cmp join f code slot c (core_going.Goes.waits x d b h) = absurd (cc)
  goes-no stands cmp join f code slot c (core_going.Goes.prepares x source i k d entry b h) = absurd (cc)
  goes-no stands cmp join f code slot c (core_going.Goes.asks_page x a parts k p d entry held b h) = absurd (cc)
  goes-no stands cmp join f code slot c (core_going.Goes.unshared x a parts d b h) = is e NoMemory (ok-err e _ h) refl

  installs-no : {O R : Type 0} (cmp : K → K → Ordering) (f : Meanings K V I O) (code : K → ℕ) (slot c : ℕ) (ask : Ask K V I) → core_installing.Installs {R = R} cmp f code old new slot c ask now (Err e) → ends_operation e ≡ false
  installs-no cmp f code slot c ask (core_installing.Installs.unknown a b h) = is e Unknown (ok-err e _ h) refl
  installs-no cmp f code slot c ask (core_installing.Installs.not_ready x a q b h) = is e NotReady (ok-err e _ h) refl
  installs-no cmp f code slot c ask (core_installing.Installs.stranger x k mine a q n b h) = is e (Stranger _ _ _) (ok-err e _ h) refl
  installs-no cmp f code slot c ask (core_installing.Installs.moved x k a q n b h) = absurd (cc)
  installs-no cmp f code slot c ask (core_installing.Installs.declined x k a q n u b h) = absurd (cc)
  installs-no cmp f code slot c ask (core_installing.Installs.worn x k value a q n u room b h) = is e Worn (ok-err e _ h) refl
  installs-no cmp f code slot c ask (core_installing.Installs.full x k value a q n u room b h) = absurd (cc)
  installs-no cmp f code slot c ask (core_installing.Installs.done x k value a q n u room free b h) = absurd (cc)

-- the refusals of a partition
module _ {K V I : Type 0} (old new : PartitionView K V I) (now : ℕ) (e : Refused) where
  issues_on_key-no : (code : K → ℕ) (slot : ℕ) (op : KeyedOp K V I) → IssuesOnKey code old new slot op now (Err e) → ends_operation e ≡ false
  issues_on_key-no code slot op (IssuesOnKey.unknown a b h) = is e Unknown (ok-err e _ h) refl
  issues_on_key-no code slot op (IssuesOnKey.stranger a b c h) = is e (Stranger _ _ _) (ok-err e _ h) refl
  issues_on_key-no code slot op (IssuesOnKey.unmerged a b m f c h) = is e NoMerge (ok-err e _ h) refl
  issues_on_key-no code slot op (IssuesOnKey.full a b m c d h) = is e NoContext (ok-err e _ h) refl
  issues_on_key-no code slot op (IssuesOnKey.issues c a b m d f h) = absurd (cc)

  leaves_all-no : (keeps : Bool) (slot : ℕ) → LeavesAll keeps old new slot now (Err e) → ends_operation e ≡ false
  leaves_all-no keeps slot (LeavesAll.busy c x a b h) = is e Busy (ok-err e _ h) refl
  leaves_all-no keeps slot (LeavesAll.leaves a h) = leaves-no old new now e keeps slot h

  relocates-no : (slot : ℕ) → Relocates old new slot now (Err e) → ends_operation e ≡ false
  relocates-no slot (Relocates.unknown a b h) = is e Unknown (ok-err e _ h) refl
  relocates-no slot (Relocates.not_due a b c h) = is e NotDue (ok-err e _ h) refl
  relocates-no slot (Relocates.full a b c d h) = is e NoContext (ok-err e _ h) refl
  relocates-no slot (Relocates.relocates c a b d f h) = absurd (cc)

  issues-no : (code : K → ℕ) (slot : ℕ) (op : Op K V I) → Issues code old new slot op now (Err e) → ends_operation e ≡ false
  issues-no code slot op (Issues.on_key o k h) = issues_on_key-no code slot o h
  issues-no code slot op (Issues.relocation r h) = relocates-no slot h

  drops-no : (slot c : ℕ) → Drops old new slot c now (Err e) → ends_operation e ≡ false
  drops-no slot c (Drops.unknown a b h) = is e Unknown (ok-err e _ h) refl
  drops-no slot c (Drops.drops x a b h) = absurd (cc)

  gives_up_all-no : (slot c : ℕ) → GivesUp old new slot c now (Err e) → ends_operation e ≡ false
  gives_up_all-no slot c (GivesUp.on_key n h r) = gives_up-no old new now e slot c h
  gives_up_all-no slot c (GivesUp.relocation x k h) = drops-no slot c h

  truncates-no : (keeps : Bool) (page : ℕ) → Truncates keeps old new page now (Err e) → ends_operation e ≡ false
  truncates-no keeps page (Truncates.not_due a b h) = is e NotDue (ok-err e _ h) refl
  truncates-no keeps page (Truncates.truncates a b h) = absurd (cc)

  installs_all-no : {O R : Type 0} (cmp : K → K → Ordering) (f : Meanings K V I O) (code : K → ℕ) (slot c : ℕ) (ask : Ask K V I) → Installs {R = R} cmp f code old new slot c ask now (Err e) → ends_operation e ≡ false
  installs_all-no {O} {R} cmp f code slot c ask (Installs.on_key n h r) = installs-no old new now e {R = R} cmp f code slot c ask h
  installs_all-no cmp f code slot c ask (Installs.relocation x k b h) = is e NotReady (ok-err e _ h) refl

-- the refusals of a relocation leave everything
module _ {K V I O R : Type 0} (old new : PartitionView K V I) (slot c now : ℕ) (e : Refused) where
  ends-worn : (x : Relocation K V) (entry : Entry K V) (kept : IndexEntry) → Ends {O = O} {R = R} old new slot c x entry kept now (Err e) → (new ≡ old) × (ends_operation e ≡ false)
  ends-worn x entry kept (Ends.moved a b h) = absurd (cc)
  ends-worn x entry kept (Ends.worn a b d h) = (d, is e Worn (ok-err e _ h) refl)
  ends-worn x entry kept (Ends.full a b d h) = absurd (cc)
  ends-worn x entry kept (Ends.appends a b d f h) = absurd (cc)

  asks-no : (stands : R → Standing) (asking : PartitionView K V I) (wanted : ℕ) → Asks {O = O} stands old new asking wanted (Err e) → (new ≡ old) × (ends_operation e ≡ false)
  asks-no stands asking wanted (Asks.asks r a b h) = absurd (cc)
  asks-no stands asking wanted (Asks.unshared b h) = (b, is e NoMemory (ok-err e _ h) refl)

  checks-no : (stands : R → Standing) (cmp : K → K → Ordering) (join : V → V → V) (code : K → ℕ) (x : Relocation K V) (entry : Entry K V) → ChecksLiveness {O = O} stands cmp join code old new slot c x entry now (Err e) → (new ≡ old) × (ends_operation e ≡ false)
  checks-no stands cmp join code x entry (ChecksLiveness.superseded a b h) = absurd (cc)
  checks-no stands cmp join code x entry (ChecksLiveness.last kept parts w h) = ends-worn x _ kept h
  checks-no stands cmp join code x entry (ChecksLiveness.further kept b parts w h) = asks-no stands _ b h

  goes_on-no : (stands : R → Standing) (cmp : K → K → Ordering) (join : V → V → V) (code : K → ℕ) → GoesOn {O = O} stands cmp join code old new slot c now (Err e) → ends_operation e ≡ false
  goes_on-no stands cmp join code (GoesOn.unknown a b h) = is e Unknown (ok-err e _ h) refl
  goes_on-no stands cmp join code (GoesOn.not_ready x a q w b h) = is e NotReady (ok-err e _ h) refl
  goes_on-no stands cmp join code (GoesOn.again x entry kept a b h) = (ends-worn x entry kept h).1
  goes_on-no stands cmp join code (GoesOn.passed x a b lo d h) = absurd (cc)
  goes_on-no stands cmp join code (GoesOn.checks x entry a b d lo f h) = (checks-no stands cmp join code x entry h).1
  goes_on-no stands cmp join code (GoesOn.reads x a b d lo h) = (asks-no stands _ x.target h).1

  goes_all-no : (stands : R → Standing) (cmp : K → K → Ordering) (join : V → V → V) (f : Meanings K V I O) (code : K → ℕ) → Goes stands cmp join f code old new slot c now (Err e) → ends_operation e ≡ false
  goes_all-no stands cmp join f code (Goes.on_key n h r) = goes-no old new now e stands cmp join f code slot c h
  goes_all-no stands cmp join f code (Goes.relocation x k h) = goes_on-no stands cmp join code h

-- why a page is not taken in
strange-no : (o : Option (ℕ × ℕ)) (e : Refused) → option_map (λ d. Stranger Bytes d.0 d.1) o ≡ Some e → ends_operation e ≡ false
strange-no None e h = absurd (cc)
strange-no (Some d) e h = let k : Stranger Bytes d.0 d.1 ≡ e = cc in is e (Stranger Bytes d.0 d.1) (sym k) refl

bytes-no : (waiting : List (List ℕ)) (came : List ℕ) (e : Refused) → bytes_refusal waiting came ≡ Some e → ends_operation e ≡ false
bytes-no [] came e h = let k : NotDue ≡ e = cc in is e NotDue (sym k) refl
bytes-no (held ∷ rest) came e h = strange-no (difference held came) e h

flush-no : {K V : Type 0} (log : LogView K V) (page : ℕ) (came : List ℕ) (e : Refused) → flush_refusal log page came ≡ Some e → ends_operation e ≡ false
flush-no log page came e h = by_test (page == length log.receipts) refl
  where
    by_test : (b : Bool) → (page == length log.receipts) ≡ b → ends_operation e ≡ false
    by_test true t = bytes-no log.waiting came e (rw t at h)
    by_test false t = let k : Some (Stranger Page (length log.receipts) page) ≡ Some e = rw t at h in let n : Stranger Page (length log.receipts) page ≡ e = cc in is e (Stranger Page (length log.receipts) page) (sym n) refl

unwritten-no : (job : FlushJob) (access : Access) (e : Refused) → Unwritten job access e → ends_operation e ≡ false
unwritten-no job access e (Unwritten.fails a h) = is e (Device 2 job.page) h refl
unwritten-no job access e (Unwritten.wants a h) = is e NoMemory h refl

pub spoils-no : {K V I : Type 0} (v : PartitionView K V I) (now : ℕ) (job : FlushJob) (access : Access) (e : Refused) → Spoils v now job access e → ends_operation e ≡ false
spoils-no v now job access e (Spoils.unwritten h) = unwritten-no job access e h
spoils-no {K} {V} {I} v now job access e (Spoils.strange a h) = by_rule h.does
  where
    by_rule : core_flushing.Flushes v v (receipt_of job) job.bytes now (Err e) → ends_operation e ≡ false
    by_rule (core_flushing.Flushes.refused why r b h) = let k : e ≡ why = cc in is e why k (flush-no v.records.log job.page job.bytes why r)
    by_rule (core_flushing.Flushes.unkept r b h) = is e NoMemory (ok-err e _ h) refl
    by_rule (core_flushing.Flushes.keeps r b h) = absurd (cc)

pub refuses-no : {K V I O R : Type 0} (stands : R → Standing) (entry : ℕ → List ℕ → ℕ → Entry K V → Type 0) (cmp : K → K → Ordering) (join : V → V → V) (f : Meanings K V I O) (code : K → ℕ) (s : StateView K V I O R) (v : PartitionView K V I) (now : ℕ) (e : Refused) (t : Step K V I)
    → Refuses stands entry cmp join f code s v now e t → ends_operation e ≡ false
refuses-no stands entry cmp join f code s v now e t (refusing.enter p h) = enters-no v v now e h.does
refuses-no stands entry cmp join f code s v now e t (refusing.leave p slot h) = leaves_all-no v v now e true slot h
refuses-no stands entry cmp join f code s v now e t (refusing.refresh p slot h) = refreshes-no v v now e true slot h.does
refuses-no stands entry cmp join f code s v now e t (refusing.shift p page h) = shifts-no v v now e true page h.does
refuses-no stands entry cmp join f code s v now e t (refusing.evict p page h) = evicts-no v v now e true page h.does
refuses-no stands entry cmp join f code s v now e t (refusing.idle p w h) = is e NotDue h refl
refuses-no stands entry cmp join f code s v now e t (refusing.untaken p w h) = is e NoMemory h refl
refuses-no stands entry cmp join f code s v now e t (refusing.issue p slot op h) = issues-no v v now e code slot op h
refuses-no stands entry cmp join f code s v now e t (refusing.go w h) = goes_all-no v v w.slot w.context now e stands cmp join f code h
refuses-no {K} {V} {I} {O} {R} stands entry cmp join f code s v now e t (refusing.install w ask q h) = installs_all-no v v now e {R = R} cmp f code w.slot w.context ask h
refuses-no stands entry cmp join f code s v now e t (refusing.load w access r came a c h n) = n
refuses-no stands entry cmp join f code s v now e t (refusing.give_up w h) = gives_up_all-no v v now e w.slot w.context h
refuses-no stands entry cmp join f code s v now e t (refusing.truncate p h) = truncates-no v v now e true (page_at v.records.log.bits v.cleared) h

-- what comes in place of a page ends the operation, but for want of memory
comes-cases : {R : Type 0} (stands : R → Standing) (r : R) (access : Access) (came : Result (Joined R) Refused) (e : Refused) → Comes stands r access came → came ≡ Err e → (e ≡ NoMemory) ⊎ (ends_operation e ≡ true)
comes-cases stands r access came e (Comes.fails a h) is_err = let k : e ≡ Device 3 (stands r).page = cc in inr (ap ends_operation k)
comes-cases stands r access came e (Comes.wants a h) is_err = let m : e ≡ NoMemory = cc in inl m
comes-cases stands r access came e (Comes.gives p a b c h) is_err = absurd (cc)

-- the moment of a partition that is this one
moment-of : {K V I : Type 0} (v w : PartitionView K V I) (now : ℕ) → v ≡ w → w.moment ≡ now → v.moment ≡ now
moment-of v w now same m = ap (λ (x : PartitionView _ _ _). x.moment) same ∙ m

-- a refused load of an operation on a key
loads_on_key-cases : {K V I O R : Type 0} (stands : R → Standing) (entry : ℕ → List ℕ → ℕ → Entry K V → Type 0) (cmp : K → K → Ordering) (join : V → V → V) (f : Meanings K V I O) (old new : PartitionView K V I) (slot c now : ℕ) (r : R) (access : Access) (came : Result (Joined R) Refused) (e : Refused)
    → Comes stands r access came → core_loading.Loads stands entry cmp join f old new slot c came now (Err e)
    → ((new ≡ old) × (ends_operation e ≡ false)) ⊎ ((new.moment ≡ now) × (ends_operation e ≡ true))
loads_on_key-cases {K} {V} {I} {O} {R} stands entry cmp join f old new slot c now r access came e comes does = by_rule does
  where
    then : (w : PartitionView K V I) → new ≡ w → w.moment ≡ now → new.moment ≡ now
    then w same m = ap (λ (x : PartitionView K V I). x.moment) same ∙ m

    by_rule : core_loading.Loads stands entry cmp join f old new slot c came now (Err e) → ((new ≡ old) × (ends_operation e ≡ false)) ⊎ ((new.moment ≡ now) × (ends_operation e ≡ true))
    by_rule (core_loading.Loads.unknown a b h) = inl (b, is e Unknown (ok-err e _ h) refl)
    by_rule (core_loading.Loads.not_ready x a q b h) = inl (b, is e NotReady (ok-err e _ h) refl)
    by_rule (core_loading.Loads.moved x l a p m b h) = absurd (cc)
    by_rule (core_loading.Loads.failed x l why a k n b h) =
        let w : e ≡ why = ok-err e why h in
        inr (then _ b refl, elim (comes-cases stands r access came why comes k) [ inl m ↦ absurd (n m) | inr t ↦ ap ends_operation w ∙ t ])
    by_rule (core_loading.Loads.unread x l a k b h) = inl (b, is e NoMemory (ok-err e _ h) refl)
    by_rule (core_loading.Loads.stranger x l p s a k at n b h) = inl (b, is e (Stranger _ _ _) (ok-err e _ h) refl)
    by_rule (core_loading.Loads.damaged x l p why a k b h) = inr (then _ b refl, ap ends_operation (ok-err e _ h))
    by_rule (core_loading.Loads.bad_link x l p d parts a k lo pl b h) = inr (then _ b refl, ap ends_operation (ok-err e _ h))
    by_rule (core_loading.Loads.done x l p k i value a m op b h) = absurd (cc)
    by_rule (core_loading.Loads.prepares x l p k i value a m op b h) = absurd (cc)
    by_rule (core_loading.Loads.goes_on x l p d parts q a m lo pl held b h) = absurd (cc)
    by_rule (core_loading.Loads.unshared x l p d parts a m lo pl b h) = inl (b, is e NoMemory (ok-err e _ h) refl)

-- and of a relocation
loads_on-cases : {K V I O R : Type 0} (stands : R → Standing) (entry : ℕ → List ℕ → ℕ → Entry K V → Type 0) (cmp : K → K → Ordering) (join : V → V → V) (code : K → ℕ) (old new : PartitionView K V I) (slot c now : ℕ) (r : R) (access : Access) (came : Result (Joined R) Refused) (e : Refused)
    → Comes stands r access came → LoadsOn {O = O} stands entry cmp join code old new slot c came now (Err e) → ((new ≡ old) × (ends_operation e ≡ false)) ⊎ ((new.moment ≡ now) × (ends_operation e ≡ true))
loads_on-cases {K} {V} {I} {O} {R} stands entry cmp join code old new slot c now r access came e comes does = by_rule does
  where
    by_rule : LoadsOn {O = O} stands entry cmp join code old new slot c came now (Err e) → ((new ≡ old) × (ends_operation e ≡ false)) ⊎ ((new.moment ≡ now) × (ends_operation e ≡ true))
    by_rule (LoadsOn.unknown a b h) = inl (b, is e Unknown (ok-err e _ h) refl)
    by_rule (LoadsOn.not_ready x a w b h) = inl (b, is e NotReady (ok-err e _ h) refl)
    by_rule (LoadsOn.moved x a p q n b h) = absurd (cc)
    by_rule (LoadsOn.failed x wanted why a k n b h) =
        let w : e ≡ why = ok-err e why h in
        inr (moment-of new _ now b refl, elim (comes-cases stands r access came why comes k) [ inl m ↦ absurd (n m) | inr t ↦ ap ends_operation w ∙ t ])
    by_rule (LoadsOn.unread x wanted a k b h) = inl (b, is e NoMemory (ok-err e _ h) refl)
    by_rule (LoadsOn.stranger x wanted p s a k at n b h) = inl (b, is e (Stranger _ _ _) (ok-err e _ h) refl)
    by_rule (LoadsOn.checks x begin p entry a has k spells h) = inl (checks-no {O = O} old new slot c now e stands cmp join code x entry h)
    by_rule (LoadsOn.damaged x begin p a has k spells b h) = inr (moment-of new _ now b refl, ap ends_operation (ok-err e _ h))
    by_rule (LoadsOn.newer x entry l p q a has k traces newer b h) = absurd (cc)
    by_rule (LoadsOn.ends x entry l p q parts a has k traces last h) = inl (ends-worn {O = O} {R = R} old new slot c now e x _ l.kept h)
    by_rule (LoadsOn.further x entry l p b parts a has k traces above place h) = inl (asks-no {O = O} old new slot c now e stands _ b h)
    by_rule (LoadsOn.bad_record x entry l p why a has k traces b h) = inr (moment-of new _ now b refl, ap ends_operation (ok-err e _ h))
    by_rule (LoadsOn.bad_link x entry l p b parts a has k traces above place to h) = inr (moment-of new _ now to refl, ap ends_operation (ok-err e _ h))

-- so a refused load leaves the partition, or ends the operation
pub loads-cases : {K V I O R : Type 0} (stands : R → Standing) (entry : ℕ → List ℕ → ℕ → Entry K V → Type 0) (cmp : K → K → Ordering) (join : V → V → V) (f : Meanings K V I O) (code : K → ℕ) (old new : PartitionView K V I) (slot c now : ℕ) (r : R) (access : Access) (came : Result (Joined R) Refused) (e : Refused)
    → old.moment < now → Comes stands r access came → Loads stands entry cmp join f code old new slot c came now (Err e) → (new ≡ old) ⊎ IsGiveUp old new slot c now
    → ((new ≡ old) × (ends_operation e ≡ false)) ⊎ (IsGiveUp old new slot c now × (ends_operation e ≡ true))
loads-cases {K} {V} {I} {O} {R} stands entry cmp join f code old new slot c now r access came e later comes does or = elim (by_rule does) [
  | inl same ↦ inl same
  | inr passed ↦ (let m = passed.0 in elim or [
    | inl same ↦ (let was : new.moment ≡ old.moment = ap (λ (v : PartitionView K V I). v.moment) same in absurd (omega arith))
    | inr g ↦ inr (g, passed.1)
  ])
]
  where
    by_rule : Loads stands entry cmp join f code old new slot c came now (Err e) → ((new ≡ old) × (ends_operation e ≡ false)) ⊎ ((new.moment ≡ now) × (ends_operation e ≡ true))
    by_rule (Loads.on_key none h rest) = elim (loads_on_key-cases stands entry cmp join f old new slot c now r access came e comes h) [
      | inl same ↦ inl same
      | inr passed ↦ inr passed
    ]
    by_rule (Loads.relocation x k h) = loads_on-cases stands entry cmp join code old new slot c now r access came e comes h

-- by whether it ends the operation
pub leaves-it : {A B : Type 0} (e : Refused) → (A × (ends_operation e ≡ false)) ⊎ (B × (ends_operation e ≡ true)) → ends_operation e ≡ false → A
leaves-it e (inl h) n = h.0
leaves-it e (inr h) n = let k : true ≡ false = sym h.1 ∙ n in absurd (cc)

pub ends-it : {A B : Type 0} (e : Refused) → (A × (ends_operation e ≡ false)) ⊎ (B × (ends_operation e ≡ true)) → ends_operation e ≡ true → B
ends-it e (inl h) n = let k : true ≡ false = sym n ∙ h.1 in absurd (cc)
ends-it e (inr h) n = h.0
