-- What a contract sees of a locked partition.
use Rattle.std.specs.Prelude.{◌≡◌, ◌+◌, ◌-◌, ◌^◌, ◌⊎◌, ℕ, List, Result, Err, slice_set}
use Rattle.fkv_functions.specs.declared.refusals.Refused.{Refused}
use Rattle.fkv_functions.specs.declared.refusals.Refused.TheVariants.{Worn}
use Rattle.fkv_partition.specs.Effect.{IsGiveUp}
use Rattle.fkv_partition.specs.Views.{PartitionView}
use Rattle.fkv_histories.specs.declared.entries.Entry.{Entry}
use Rattle.fkv_locked.specs.Kept.{place_of}
use Rattle.fkv_locked.specs.declared.open_operations.OpenOperation.{OpenOperation}
use Rattle.fkv_locked.specs.Turns.{Noted}

-- the partition; the entries that its history keeps, and how many updates were added to it; how many updates stood at the
-- issue and at the last look-up of each context; the last moment; how many operations were finished; and how many sessions
-- were entered
pub record LockedView (K V I O : Type 0) : Type 0 where
  pub partition : PartitionView K V I
  pub entries : List (Entry K V I O)
  pub count : ℕ
  pub lows : List ℕ
  pub looks : List ℕ
  pub clock : ℕ
  pub book : ℕ
  pub enters : ℕ

-- an event happens at the next moment; or there is none, and it is refused
abbrev pub IsTimed : {A : Type 0} → ℕ → Result A Refused → Type 0 → Type 0
IsTimed clock result event = ((clock ≡ 2 ^ 64 - 1) × (result ≡ Err Worn)) ⊎ event

module _ {K V I O : Type 0} where
  -- the history, the marks and the book
  abbrev pub noted : LockedView K V I O → Noted K V I O
  noted l = record { entries = l.entries; count = l.count; lows = l.lows; looks = l.looks; book = l.book }

  -- an event of the partition alone, at the next moment
  abbrev pub with_partition : LockedView K V I O → PartitionView K V I → LockedView K V I O
  with_partition l v = record l { partition = v; clock = l.clock + 1 }

  -- an event of a caller's operation, at the next moment: beside the partition nothing changes but the history, the marks of
  -- look-ups and the book
  abbrev pub with_turn : LockedView K V I O → LockedView K V I O → LockedView K V I O
  with_turn l m = record (with_partition l m.partition) {
    entries = m.entries;
    count = m.count;
    looks = m.looks;
    book = m.book;
  }

  -- where this operation looks now: so many updates are kept to have stood at the last look-up of its context
  abbrev pub looks_now : LockedView K V I O → OpenOperation K V I → List ℕ
  looks_now l operation = slice_set l.looks (place_of operation.session.slot operation.context) l.count

  -- a session is entered
  abbrev pub with_session : LockedView K V I O → PartitionView K V I → LockedView K V I O
  with_session l v = record (with_partition l v) { enters = l.enters + 1 }

  -- an operation is issued in a context, where so many updates stand
  abbrev pub with_issue : LockedView K V I O → PartitionView K V I → ℕ → ℕ → LockedView K V I O
  with_issue l v slot c = record (with_partition l v) { lows = slice_set l.lows (place_of slot c) l.count }

  -- a page did not come, or is damaged: a moment has passed, and the operation is ended without effect, or goes on waiting
  pub record IsLoadRefused (old new : LockedView K V I O) (operation : OpenOperation K V I) : Type 0 where
    pub ended : (new.partition ≡ old.partition)
        ⊎ IsGiveUp old.partition new.partition operation.session.slot operation.context (old.clock + 1)
    pub rest : new ≡ with_partition old new.partition
