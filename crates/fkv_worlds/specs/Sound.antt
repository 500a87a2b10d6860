-- What every world keeps.
use Rattle.std.specs.Prelude.{◌≡◌, ◌*◌, ◌≤◌, ◌<◌, ℕ, [], List, length, map, Some, Result, slice_get}
use Rattle.std.specs.declared.cmp.Ordering.{Ordering}
use Rattle.fkv_functions.specs.Meanings.{Meanings}
use Rattle.fkv_functions.specs.declared.refusals.Refused.{Refused}
use Rattle.fkv_partition.specs.Effect.{Asked}
use Rattle.fkv_lives.specs.declared.outcomes.Outcome.{Outcome}
use Rattle.fkv_lives.specs.declared.steps.ContextId.{ContextId}
use Rattle.fkv_lives.specs.declared.steps.Step.{Step}
use Rattle.fkv_lives.specs.Accounts.{IsAccount}
use Rattle.fkv_lives.specs.Histories.{Event, backwards, moments, enters_in, session_in, issues_in, issue_of, given_in}
use Rattle.fkv_lives.specs.Told.{taken}
use Rattle.fkv_worlds.specs.declared.tables.Seat.{Seat}
use Rattle.fkv_worlds.specs.States.{StateView, seat_row, life_in}
use Rattle.fkv_worlds.specs.Worlds.{asked_in, IsWorld}

-- the tables have a row for each partition, slot and context, and their counts are of past steps
pub record HasTables {K V I O R : Type 0} (s : StateView K V I O R) : Type 0 where
  pub most : length s.partitions ≤ 64
  pub begun : length s.begun ≡ length s.partitions * 128
  pub questions : length s.questions ≡ length s.partitions * 128
  pub receipts : length s.receipts ≡ length s.partitions * 128
  pub jobs : length s.jobs ≡ length s.partitions
  pub seats : length s.seats ≡ length s.partitions * 16
  pub enters : length s.enters ≡ length s.partitions
  pub counted : (p n : ℕ) → slice_get s.enters p ≡ Some n → n ≤ s.moment
  pub issued : (i : ℕ) (x : Seat) → slice_get s.seats i ≡ Some x → x.issues ≤ s.moment

pub record IsState {K V I O R : Type 0} (cmp : K → K → Ordering) (f : Meanings K V I O) (code : K → ℕ)
    (s : StateView K V I O R) : Type 0 where
  pub tables : HasTables s
  pub world : IsWorld cmp f code s.partitions (life_in s.begun) s.lives s.moment

-- the moment, the tables, the lives and what the contexts ask are those of a history: an open context asks what it was
-- given last
pub record HasHistory {K V I O R : Type 0} (s : StateView K V I O R) (h : List (Event K V I O)) : Type 0 where
  pub moment : s.moment ≡ moments h
  pub enters : (p n : ℕ) → slice_get s.enters p ≡ Some n → n ≡ enters_in p h
  pub seats : (p slot : ℕ) (x : Seat)
      → slot < 16
      → slice_get s.seats (seat_row p slot) ≡ Some x
      → x.session ≡ session_in p slot h
  pub lives : map issue_of s.lives ≡ issues_in h
  pub contexts : (w : ContextId) (x : Asked K V I) → asked_in s.partitions w ≡ Some x → given_in w h ≡ x.number

-- a state is that of the steps and outcomes that were kept, and its lives account for them
pub record IsRecorded {K V I O R : Type 0} (s : StateView K V I O R) (steps : List (Step K V I))
    (outcomes : List (Result (Outcome V O) Refused)) : Type 0 where
  pub paired : length steps ≡ length outcomes
  pub history : HasHistory s (backwards steps outcomes [])
  pub account : IsAccount s.lives (taken outcomes) (backwards steps outcomes []) s.moment
