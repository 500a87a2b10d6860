-- What events of a caller's operation add to a history, and what the caller learns of them.
use Rattle.std.specs.Prelude.{◌≡◌, ◌≢◌, ◌+◌, ◌-◌, ◌^◌, ◌<◌, ◌≤◌, ◌⊎◌, ℕ, Bool, true, List, [], ◌∷◌, ◌++◌, slice_index, Option, Some, None, ⊤, if◌then◌else◌}
use Rattle.std.specs.declared.cmp.Ordering.{Ordering}
use Rattle.fkv_functions.specs.Meanings.{Meanings}
use Rattle.fkv_functions.specs.declared.refusals.Refused.{Refused}
use Rattle.fkv_functions.specs.declared.refusals.Refused.TheVariants.{Unknown, Stranger, Worn, NoMemory}
use Rattle.fkv_functions.specs.declared.refusals.What.TheVariants as what
use Rattle.fkv_functions.specs.Plain.{Same}
use Rattle.fkv_operations.specs.After.{shown_of}
use Rattle.fkv_operations.specs.Operations.{op_of}
use Rattle.fkv_operations.specs.declared.operations.KeyedOp.TheVariants.{Read}
use Rattle.fkv_partition.specs.declared.contexts.Progress.{Progress}
use Rattle.fkv_partition.specs.declared.contexts.Progress.TheVariants as progress
use Rattle.fkv_partition.specs.Pending.{Pending, pending, OthersPend}
use Rattle.fkv_partition.specs.Views.{live_of, PartitionView}
use Rattle.fkv_partition.specs.Effect.{Asked, asked, IsEvent, Finds}
use Rattle.fkv_histories.specs.declared.entries.Entry.{Entry}
use Rattle.fkv_histories.specs.Histories.{is_update_entry}
use Rattle.fkv_locked.specs.Kept.{place_of}
use Rattle.fkv_locked.specs.declared.open_operations.OpenOperation.{OpenOperation}
use Rattle.fkv_locked.specs.declared.turns.Turn.{Turn}
use Rattle.fkv_locked.specs.declared.turns.Turn.TheVariants.{Done, Next, NeedsBuild, NeedsLoad, Waits}

-- what is refused of an issue before its partition is asked: there are fewer updates than the caller was told of, or there
-- is no next moment
abbrev pub IsUnheard : ℕ → ℕ → ℕ → Refused → Type 0
IsUnheard count clock told (Stranger what.Pass held came) = (held ≡ count) × (came ≡ told) × (count < told)
IsUnheard count clock told Worn = clock ≡ 2 ^ 64 - 1
IsUnheard count clock told other = ⊥

module _ {K V I : Type 0} where
  -- what the context of a caller's operation asks while it is open
  abbrev pub question_of : OpenOperation K V I → Asked K V I
  question_of operation = record { number = operation.number; op = op_of operation.op }

  -- what is refused before an event of a caller's operation, and why: nothing of it is open there; there are fewer updates
  -- than the caller was told of; or there is no next number for the updates, the book or the clock
  abbrev pub IsUnready : Option (Asked K V I) → ℕ → ℕ → ℕ → OpenOperation K V I → Refused → Type 0
  IsUnready asks count book clock operation Unknown = asks ≢ Some (question_of operation)
  IsUnready asks count book clock operation (Stranger what.Pass held came) = (held ≡ count) × (came ≡ operation.told) × (count < operation.told)
  IsUnready asks count book clock operation Worn = (count ≡ 2 ^ 64 - 1) ⊎ (book ≡ 2 ^ 64 - 1) ⊎ (clock ≡ 2 ^ 64 - 1)
  IsUnready asks count book clock operation NoMemory = ⊤
  IsUnready asks count book clock operation other = ⊥

  -- a page that came is refused where its look-up was made when fewer updates stood than the caller was told of, or as many
  -- as have no next number
  abbrev pub IsLookedEarly : ℕ → OpenOperation K V I → Refused → Type 0
  IsLookedEarly look operation (Stranger what.Pass held came) =
      (held ≡ look) × (came ≡ operation.told) × ((look < operation.told) ⊎ (look ≡ 2 ^ 64 - 1))
  IsLookedEarly look operation other = ⊥

-- what an event of a caller's operation may change beside its partition: the entries that a history keeps, and how many updates
-- were added to it; how many updates stood at the issue and at the last look-up of each context; and how many operations were
-- finished
pub record Noted (K V I O : Type 0) : Type 0 where
  pub entries : List (Entry K V I O)
  pub count : ℕ
  pub lows : List ℕ
  pub looks : List ℕ
  pub book : ℕ

module _ {K V I O : Type 0} where
  -- an entry of this operation, whose place is not before what its caller was told
  pub record IsOf (operation : OpenOperation K V I) (e : Entry K V I O) : Type 0 where
    pub session_is : e.session ≡ operation.session.number
    pub number_is : e.number ≡ operation.number
    pub op_is : e.op ≡ operation.op
    pub fresh : operation.told ≤ e.at
    pub room : e.at < 2 ^ 64 - 1

  -- one entry more, of this operation, which the book counts, behind so many updates: as many stood at its issue as the mark of
  -- its context says, and as many at its completion as there are. Nothing else changes
  pub record Adds (keeps : Bool) (at : ℕ) (old new : Noted K V I O) (operation : OpenOperation K V I) (e : Entry K V I O) : Type 0 where
    pub of : IsOf operation e
    pub low_is : e.low ≡ slice_index old.lows (place_of operation.session.slot operation.context)
    pub at_is : e.at ≡ at
    pub high_is : e.high ≡ old.count
    pub entries_is : keeps ≡ true → new.entries ≡ old.entries ++ e ∷ []
    pub rest : new ≡ record old {
      entries = new.entries;
      count = old.count + (if is_update_entry e then 1 else 0);
      book = old.book + 1;
    }

module _ {K V I O R : Type 0} where
  -- what an event of a caller's operation adds: what it finishes stands behind so many updates; and where it asks for a page, so
  -- many are kept to have stood at the look-up of each context
  abbrev pub Turns : Bool → ℕ → List ℕ → Noted K V I O → Noted K V I O → OpenOperation K V I → Turn K V I O R → Type 0
  Turns keeps at looks old new operation (Done e) = Adds keeps at old new operation e
  Turns keeps at looks old new operation Next = new ≡ old
  Turns keeps at looks old new operation (NeedsBuild ask) = new ≡ old
  Turns keeps at looks old new operation (NeedsLoad r a) = new ≡ record old { looks = looks }
  Turns keeps at looks old new operation (Waits why) = new ≡ old

  -- what the caller learns of a turn
  abbrev pub IsTurnOf : OpenOperation K V I → Turn K V I O R → Type 0
  IsTurnOf operation (Done e) = IsOf operation e
  IsTurnOf operation Next = ⊤
  IsTurnOf operation (NeedsBuild ask) = ⊤
  IsTurnOf operation (NeedsLoad r a) = ⊤
  IsTurnOf operation (Waits why) = ⊤

  -- a turn tells what the event told
  abbrev pub IsToldBy : Progress K V I O R → Turn K V I O R → Type 0
  IsToldBy (progress.Done a effect) turn = (e : Entry K V I O) × (turn ≡ Done e) × (e.answer ≡ a)
  IsToldBy progress.Next turn = turn ≡ Next
  IsToldBy (progress.NeedsBuild ask) turn = turn ≡ NeedsBuild ask
  IsToldBy (progress.NeedsLoad r a) turn = turn ≡ NeedsLoad r a
  IsToldBy (progress.Waits why) turn = turn ≡ Waits why

  -- an event of a caller's operation, as its partition tells it
  pub record IsGone (cmp : K → K → Ordering) (f : Meanings K V I O) (old new : PartitionView K V I) (operation : OpenOperation K V I)
      (now : ℕ) (p : Progress K V I O R) : Type 0 where
    pub asks : asked old operation.session.slot operation.context ≡ Some (question_of operation)
    pub later : old.moment < now
    pub event : IsEvent cmp f old new operation.session.slot operation.context now p
    pub finds : Finds cmp old new operation.session.slot operation.context now p
    pub others : OthersPend cmp old new operation.session.slot operation.context

  -- what a page that came makes of an operation on a key, for a history: a read is done as its look-up was to find; a look-up
  -- goes on; or nothing is to be found any more
  abbrev pub HasCome : Meanings K V I O → OpenOperation K V I → Option (Asked K V I) → Option (Pending V) → Option (Pending V)
      → Progress K V I O R → Type 0
  HasCome f operation is was awaits (progress.Done a effect) = (is ≡ None)
      × ((p : Pending V) × (was ≡ Some p) × ((k : K) × (i : I) × (operation.op ≡ Read k i) × (a ≡ shown_of f k i p.value)))
  HasCome f operation is was awaits progress.Next = awaits ≡ None
  HasCome f operation is was awaits (progress.NeedsBuild ask) = awaits ≡ None
  HasCome f operation is was awaits (progress.NeedsLoad r a) = (is ≡ Some (question_of operation)) × (awaits ≡ was)
  HasCome f operation is was awaits (progress.Waits why) = awaits ≡ None

  -- a page came for a caller's operation
  pub record IsCome (cmp : K → K → Ordering) (f : Meanings K V I O) (old new : PartitionView K V I) (operation : OpenOperation K V I)
      (p : Progress K V I O R) : Type 0 where
    pub asks : asked old operation.session.slot operation.context ≡ Some (question_of operation)
    pub later : old.moment ≤ new.moment
    pub effect : HasCome f operation (asked new operation.session.slot operation.context) (pending cmp old operation.session.slot operation.context)
        (pending cmp new operation.session.slot operation.context) p
    pub live : Same (live_of cmp new) (live_of cmp old)
    pub rest : (s d : ℕ) → (s ≢ operation.session.slot) ⊎ (d ≢ operation.context) → asked new s d ≡ asked old s d
    pub others : OthersPend cmp old new operation.session.slot operation.context
