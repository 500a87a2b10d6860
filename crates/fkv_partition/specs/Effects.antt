-- What an event does: its effect on the live map, on what the contexts ask, and on the look-ups that wait for a page.
-- `earlier` is what each context asks before it, and `later` what it asks then; `before` is the address below which all is
-- cleared before it, and `after` the one then. `Effect` says it of all that a partition is asked; `KeyEffect` says it of
-- operations on keys, which clear nothing.
use Rattle.std.specs.Prelude.{◌≡◌, ◌≢◌, ◌≤◌, ◌⊎◌, ℕ, Bool, IsTrue, Option, Some, None}
use Rattle.std.specs.declared.cmp.Ordering.{Ordering}
use Rattle.fkv_functions.specs.Meanings.{Meanings}
use Rattle.fkv_functions.specs.Plain.{PlainMap, Same}
use Rattle.fkv_records.specs.Places.{start_at}
use Rattle.fkv_operations.specs.After.{key_of, shown_of}
use Rattle.fkv_operations.specs.Operations.{keyed, map_after, answer_to}
use Rattle.fkv_operations.specs.declared.operations.KeyedOp.{KeyedOp}
use Rattle.fkv_operations.specs.declared.operations.Op.{Op}
use Rattle.fkv_operations.specs.declared.operations.Op.TheVariants.{Read, Rmw}
use Rattle.fkv_partition.specs.declared.contexts.Progress.{Progress}
use Rattle.fkv_partition.specs.declared.contexts.Progress.TheVariants.{Done, Next, NeedsBuild, NeedsLoad, Waits}
use Rattle.fkv_partition.specs.Pending.{Pending, pending}
use Rattle.fkv_partition.specs.Views.{PartitionView, live_of, partition_of}

-- what an open context asks: the moment of its issue, and its operation
pub record Asked (K V I : Type 0) : Type 0 where
  pub number : ℕ
  pub op : Op K V I

-- what each context asks, by its slot and its number
abbrev pub Asks : Type 0 → Type 0 → Type 0 → Type 0
Asks K V I = ℕ → ℕ → Option (Asked K V I)

-- the effect of an event at this moment, of a context that asked `x` and then asks `is`: a Done does exactly the one
-- operation and answers as the plain map does just before, and anything else leaves the live map
abbrev pub HasEffect : {K V I O R : Type 0} → (K → K → Ordering) → Meanings K V I O → PlainMap K V → PlainMap K V → ℕ
    → Asked K V I → Option (Asked K V I) → Progress K V I O R → Type 0
HasEffect cmp f m m' now x is (Done a effect) =
    (is ≡ None)
    × (effect ≡ now)
    × Same m' (map_after cmp f m x.op)
    × (a ≡ answer_to f m x.op)
HasEffect cmp f m m' now x is Next = (is ≡ Some x) × Same m' m
HasEffect cmp f m m' now x is (Waits why) = (is ≡ Some x) × Same m' m
HasEffect cmp f m m' now x is (NeedsLoad r a) = (is ≡ Some x) × Same m' m
HasEffect cmp f m m' now x is (NeedsBuild ask) =
    (is ≡ Some x)
    × Same m' m
    × (ask.number ≡ x.number)
    × (x.op ≡ Rmw ask.key ask.input)

-- what an event of a session, or of one of its contexts, leaves as it was; what is cleared never falls
pub record LeavesOthers {K V I : Type 0} (earlier later : Asks K V I) (old new : PartitionView K V I)
    (before after slot c now : ℕ) : Type 0 where
  pub others : (s d : ℕ) → (s ≢ slot) ⊎ (d ≢ c) → later s d ≡ earlier s d
  pub number : new.number ≡ old.number
  pub count : new.count ≡ old.count
  pub begin : new.records.log.begin ≡ old.records.log.begin
  pub regions : new.records.log.regions ≡ old.records.log.regions
  pub rises : before ≤ after
  pub moment : new.moment ≡ now

-- a session is entered, refreshed or left, an offset moves, or a page is taken or flushed: no context asks anything else,
-- and the text stays, where the device keeps
pub record IsQuiet {K V I : Type 0} (earlier later : Asks K V I) (keeps : Bool) (old new : PartitionView K V I)
    (before after now : ℕ) : Type 0 where
  pub same : (s d : ℕ) → later s d ≡ earlier s d
  pub text : IsTrue keeps → new.records.text ≡ old.records.text
  pub number : new.number ≡ old.number
  pub count : new.count ≡ old.count
  pub begin : new.records.log.begin ≡ old.records.log.begin
  pub cleared : after ≡ before
  pub moment : new.moment ≡ now

-- an operation's key, if it has one, belongs here
abbrev pub IsOwn : {K V I : Type 0} → (K → ℕ) → PartitionView K V I → Op K V I → Type 0
IsOwn {K} {V} {I} code v op =
    (o : KeyedOp K V I) → keyed op ≡ Some o → partition_of v.count (code (key_of o)) ≡ v.number

-- an operation is issued in a context which asked nothing
pub record IsIssue {K V I : Type 0} (earlier later : Asks K V I) (code : K → ℕ) (old new : PartitionView K V I)
    (before after slot c : ℕ) (op : Op K V I) (now : ℕ) : Type 0 where
  pub closed : earlier slot c ≡ None
  pub opened : later slot c ≡ Some (record { number = now; op = op })
  pub own : IsOwn code old op
  pub text : new.records.text ≡ old.records.text
  pub cleared : after ≡ before
  pub frame : LeavesOthers earlier later old new before after slot c now

-- an event of one context. What is cleared rises by relocations alone
pub record IsEvent {K V I O R : Type 0} (earlier later : Asks K V I) (cmp : K → K → Ordering) (f : Meanings K V I O)
    (old new : PartitionView K V I) (before after slot c now : ℕ) (progress : Progress K V I O R) : Type 0 where
  pub question : Asked K V I
  pub was : earlier slot c ≡ Some question
  pub effect : HasEffect cmp f (live_of cmp old) (live_of cmp new) now question (later slot c) progress
  pub cleared : (o : KeyedOp K V I) → keyed question.op ≡ Some o → after ≡ before
  pub frame : LeavesOthers earlier later old new before after slot c now

-- an operation ends without effect
pub record IsGiveUp {K V I : Type 0} (earlier later : Asks K V I) (old new : PartitionView K V I) (before after slot c now : ℕ)
    : Type 0 where
  pub question : Asked K V I
  pub was : earlier slot c ≡ Some question
  pub closed : later slot c ≡ None
  pub text : new.records.text ≡ old.records.text
  pub cleared : after ≡ before
  pub frame : LeavesOthers earlier later old new before after slot c now

-- what an operation that asks for a page is to find: what the live map says of its key, if it has one
abbrev pub to_find : {K V I : Type 0} → (K → K → Ordering) → PartitionView K V I → ℕ → Option (KeyedOp K V I)
    → Option (Pending V)
to_find cmp v now None = None
to_find cmp v now (Some o) = Some (record { moment = now; value = live_of cmp v (key_of o) })

-- an operation was open, and now waits for a page
pub record IsAsking {K V I : Type 0} (earlier : Asks K V I) (cmp : K → K → Ordering) (old new : PartitionView K V I)
    (slot c now : ℕ) : Type 0 where
  pub question : Asked K V I
  pub was : earlier slot c ≡ Some question
  pub asks : pending cmp new slot c ≡ to_find cmp old now (keyed question.op)

-- what an event leaves its context to find: where it asks for a page, what the live map said of its key then, and nothing
-- else
abbrev pub Finds : {K V I O R : Type 0} → Asks K V I → (K → K → Ordering) → PartitionView K V I → PartitionView K V I → ℕ → ℕ → ℕ
    → Progress K V I O R → Type 0
Finds earlier cmp old new slot c now (Done a effect) = pending cmp new slot c ≡ None
Finds earlier cmp old new slot c now Next = pending cmp new slot c ≡ None
Finds earlier cmp old new slot c now (NeedsBuild ask) = pending cmp new slot c ≡ None
Finds earlier cmp old new slot c now (NeedsLoad r a) = IsAsking earlier cmp old new slot c now
Finds earlier cmp old new slot c now (Waits why) = pending cmp new slot c ≡ None

-- what a page that came makes of an operation on a key: a read is done, its effect being at its look-up, with the value
-- that this was to find; an update asks for what its input makes of that value, and waits for no page; or another page is
-- asked for, to find the same
abbrev pub HasLoaded : {K V I O R : Type 0} → Meanings K V I O → Asked K V I → Option (Asked K V I)
    → Option (Pending V) → Option (Pending V) → Progress K V I O R → Type 0
HasLoaded {K} {V} {I} f x is was then (Done a effect) = (is ≡ None)
    × ((p : Pending V) × (was ≡ Some p) × (effect ≡ p.moment)
    × ((k : K) × (i : I) × (x.op ≡ Read k i) × (a ≡ shown_of f k i p.value)))
HasLoaded f x is was then Next = (is ≡ Some x) × (was ≡ None) × (then ≡ None)
HasLoaded f x is was then (Waits why) = ⊥
HasLoaded f x is was then (NeedsLoad r b) = (is ≡ Some x) × (then ≡ was)
HasLoaded {K} {V} f x is was then (NeedsBuild ask) = (is ≡ Some x)
    × (then ≡ None)
    × (ask.number ≡ x.number)
    × (x.op ≡ Rmw ask.key ask.input)
    × ((p : Pending V) × (was ≡ Some p) × (ask.source ≡ p.value))

-- no load of an operation on a key changes the live map
pub record IsLoaded {K V I O R : Type 0} (earlier later : Asks K V I) (cmp : K → K → Ordering) (f : Meanings K V I O)
    (old new : PartitionView K V I) (before after slot c now : ℕ) (progress : Progress K V I O R) : Type 0 where
  pub question : Asked K V I
  pub was : earlier slot c ≡ Some question
  pub effect : HasLoaded f question (later slot c) (pending cmp old slot c) (pending cmp new slot c) progress
  pub live : Same (live_of cmp new) (live_of cmp old)
  pub cleared : after ≡ before
  pub frame : LeavesOthers earlier later old new before after slot c now

-- the log's start is cut: no context asks anything else, each look-up that waits for a page is to look again, and on a
-- device that keeps the live map stays
pub record IsTruncation {K V I : Type 0} (earlier later : Asks K V I) (keeps : Bool) (cmp : K → K → Ordering)
    (old new : PartitionView K V I) (before after page now : ℕ) : Type 0 where
  pub same : (s d : ℕ) → later s d ≡ earlier s d
  pub pend : (s d : ℕ) → pending cmp new s d ≡ None
  pub live : IsTrue keeps → Same (live_of cmp new) (live_of cmp old)
  pub begin : new.records.log.begin ≡ start_at old.records.log.bits page
  pub regions : new.records.log.regions ≡ old.records.log.regions
  pub number : new.number ≡ old.number
  pub count : new.count ≡ old.count
  pub cleared : after ≡ before
  pub moment : new.moment ≡ now
