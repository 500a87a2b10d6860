-- What a contract sees of a world.
use Rattle.std.specs.Prelude.{Bool, false, ◌≡◌, ◌+◌, ◌*◌, ◌^◌, ◌&&◌, cond, ℕ, List, [], Option, None, Result, map, replicate, slice_get, unwrap_or, nat_lt, is_none}
use Rattle.std.specs.List.{range_with_len}
use Rattle.fkv_functions.specs.declared.asks.Ask.{Ask}
use Rattle.fkv_functions.specs.declared.refusals.Refused.{Refused}
use Rattle.fkv_device.specs.declared.messages.FlushJob.{FlushJob}
use Rattle.fkv_partition.specs.declared.limits.Config.{Config}
use Rattle.fkv_partition.specs.Views.{PartitionView, empty_partition}
use Rattle.fkv_lives.specs.declared.lives.Life.{Life}
use Rattle.fkv_lives.specs.declared.outcomes.Outcome.{Outcome}
use Rattle.fkv_worlds.specs.declared.tables.Seat.{Seat}
use Rattle.fkv_lives.specs.declared.steps.ContextId.{ContextId}
use Rattle.fkv_lives.specs.declared.steps.Step.{Step}
use Rattle.fkv_lives.specs.Histories.{Event, backwards}
use Rattle.fkv_lives.specs.declared.steps.Step.TheVariants.{Enter, Leave, Refresh, ReadOnly, Take, Write, Head, Issue, Go, Install, Load, GiveUp, Truncate}

-- the partitions; for each context the place of the life that began there last, what it asked to be built last, and the
-- receipt of the page that it asked for last; for each partition the page that was taken, to be written; for each slot
-- its session and how many operations that has issued; for each partition how many sessions entered it; the lives; and
-- the last moment
pub record StateView (K V I O R : Type 0) : Type 0 where
  pub partitions : List (PartitionView K V I)
  pub begun : List ℕ
  pub questions : List (Option (Ask K V I))
  pub receipts : List (Option R)
  pub jobs : List (Option FlushJob)
  pub seats : List Seat
  pub enters : List ℕ
  pub lives : List (Life K V I O)
  pub moment : ℕ

-- a state of these parts, in that order
abbrev pub state_of : {K V I O R : Type 0} → List (PartitionView K V I) → List ℕ → List (Option (Ask K V I))
    → List (Option R) → List (Option FlushJob) → List Seat → List ℕ → List (Life K V I O) → ℕ → StateView K V I O R
state_of partitions begun questions receipts jobs seats enters lives moment = record {
  partitions = partitions;
  begun = begun;
  questions = questions;
  receipts = receipts;
  jobs = jobs;
  seats = seats;
  enters = enters;
  lives = lives;
  moment = moment;
}

-- a world: its state, its steps, refused ones included, and the outcome of each
pub record WorldView (K V I O R : Type 0) : Type 0 where
  pub state : StateView K V I O R
  pub steps : List (Step K V I)
  pub outcomes : List (Result (Outcome V O) Refused)

-- its steps with what each was told, the last one first
abbrev pub history_of : {K V I O R : Type 0} → WorldView K V I O R → List (Event K V I O)
history_of w = backwards w.steps w.outcomes []

-- the row of a slot, and of a context, in the tables
abbrev pub seat_row : ℕ → ℕ → ℕ
seat_row p slot = p * 16 + slot

abbrev pub context_row : ContextId → ℕ
context_row w = w.partition * 128 + w.slot * 8 + w.context

abbrev pub is_context : ContextId → Bool
is_context w = nat_lt w.slot 16 && nat_lt w.context 8

-- the seat of a slot; one of no session where there is no such slot
abbrev pub seat_at : List Seat → ℕ → ℕ → Seat
seat_at seats p slot =
    cond (nat_lt slot 16) (unwrap_or (slice_get seats (seat_row p slot)) (record { session = 0; issues = 0 }))
    (record { session = 0; issues = 0 })

-- the place of the life that began in a context
abbrev pub life_in : List ℕ → ContextId → ℕ
life_in begun w = cond (is_context w) (unwrap_or (slice_get begun (context_row w)) 0) 0

-- what a context asked for last
abbrev pub question_in : {K V I : Type 0} → List (Option (Ask K V I)) → ContextId → Option (Ask K V I)
question_in questions w = cond (is_context w) (unwrap_or (slice_get questions (context_row w)) None) None

-- the receipt of the page that it asked for last
abbrev pub receipt_in : {R : Type 0} → List (Option R) → ContextId → Option R
receipt_in receipts w = cond (is_context w) (unwrap_or (slice_get receipts (context_row w)) None) None

-- the page of a partition that was taken, to be written
abbrev pub job_in : List (Option FlushJob) → ℕ → Option FlushJob
job_in jobs p = unwrap_or (slice_get jobs p) None

-- whether a step answers what nobody asked: an install without a question, a load without a page that was asked for, a
-- write without a page that was taken
abbrev pub is_unasked : {K V I O R : Type 0} → StateView K V I O R → Step K V I → Bool
is_unasked s (Enter p) = false
is_unasked s (Leave p slot) = false
is_unasked s (Refresh p slot) = false
is_unasked s (ReadOnly p page) = false
is_unasked s (Take p) = false
is_unasked s (Write p access) = is_none (job_in s.jobs p)
is_unasked s (Head p page) = false
is_unasked s (Issue p slot op) = false
is_unasked s (Go w) = false
is_unasked s (Install w) = is_none (question_in s.questions w)
is_unasked s (Load w access) = is_none (receipt_in s.receipts w)
is_unasked s (GiveUp w) = false
is_unasked s (Truncate p) = false

-- the tables of so many partitions before the first step
pub record IsBlank {K V I R : Type 0} (partitions : ℕ) (places : List ℕ) (asks : List (Option (Ask K V I)))
    (pages : List (Option R)) (slots : List Seat) (counts : List ℕ) : Type 0 where
  pub begun : places ≡ replicate (partitions * 128) 0
  pub questions : asks ≡ replicate (partitions * 128) None
  pub receipts : pages ≡ replicate (partitions * 128) None
  pub seats : slots ≡ replicate (partitions * 16) (record { session = 0; issues = 0 })
  pub enters : counts ≡ replicate partitions 0

-- partitions with nothing in them, for records of this size
abbrev pub empty_partitions : {K V I : Type 0} → Bool → Config → ℕ → ℕ → List (PartitionView K V I)
empty_partitions merges config record_size n = map (empty_partition merges config record_size) (range_with_len 0 n)

-- the world before its first step
abbrev pub empty_state : {K V I O R : Type 0} → Bool → Config → ℕ → StateView K V I O R
empty_state merges config record_size = record {
  partitions = empty_partitions merges config record_size (2 ^ config.partition_bits);
  begun = replicate (2 ^ config.partition_bits * 128) 0;
  questions = replicate (2 ^ config.partition_bits * 128) None;
  receipts = replicate (2 ^ config.partition_bits * 128) None;
  jobs = replicate (2 ^ config.partition_bits) None;
  seats = replicate (2 ^ config.partition_bits * 16) (record { session = 0; issues = 0 });
  enters = replicate (2 ^ config.partition_bits) 0;
  lives = [];
  moment = 0;
}

abbrev pub empty_world : {K V I O R : Type 0} → Bool → Config → ℕ → WorldView K V I O R
empty_world merges config record_size = record {
  state = empty_state merges config record_size;
  steps = [];
  outcomes = [];
}
