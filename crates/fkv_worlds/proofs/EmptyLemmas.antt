-- A world before its first step.
use Rattle.std.proofs.Common.{◌≡◌, Bool, false, ℕ, zero, suc, ◌+◌, ◌*◌, ◌^◌, ◌<◌, ◌≤◌, List, [], ◌∷◌, ◌++◌, length, replicate, map, Option, Some, None, option_map, slice_get, refl, sym, ◌∙◌, ap, subst, arith}
use Rattle.std.specs.List.{range_with_len}
use Rattle.std.proofs.lemmas.List.FromFn.{length-map-range_with_len, map-range_with_len_more}
use Rattle.std.proofs.lemmas.List.{length-replicate}
use Rattle.std.proofs.lemmas.Nat.{pow_pos}
use Rattle.std.proofs.Math.Pow.{pow_mono}
use Rattle.std.proofs.lemmas.Option.{slice_get-map}
use Rattle.std.specs.declared.cmp.Ordering.{Ordering}
use Rattle.fkv_functions.specs.Meanings.{Meanings}
use Rattle.fkv_functions.specs.declared.asks.Ask.{Ask}
use Rattle.fkv_device.specs.declared.messages.FlushJob.{FlushJob}
use Rattle.fkv_partition.specs.declared.limits.Config.{Config}
use Rattle.fkv_partition.specs.Limits.{IsWithinLimits}
use Rattle.fkv_partition.specs.Views.{partition_of, PartitionView, empty_partition}
use Rattle.fkv_partition.specs.Pending.{Pending}
use Rattle.fkv_partition.specs.Effect.{Asked, asked}
use Rattle.fkv_partition.specs.Unions.{live_at}
use Rattle.fkv_partition.specs.Contexts.{is_session}
use Rattle.fkv_worlds.specs.declared.tables.Seat.{Seat}
use Rattle.fkv_worlds.specs.States.{StateView, state_of, IsBlank, empty_partitions, empty_state}
use Rattle.fkv_lives.specs.declared.lives.Life.{Life}
use Rattle.fkv_lives.specs.declared.steps.ContextId.{ContextId}
use Rattle.fkv_worlds.specs.Worlds.{asked_at, asked_in, pending_in}
use Rattle.fkv_worlds.proofs.HeldLemmas.{waiting-at}
use Rattle.fkv_worlds.specs.Sound.{IsState}

range-at : (a n p i : ℕ) → slice_get (range_with_len a n) p ≡ Some i → i ≡ a + p
range-at a zero p i h = absurd (cc)
range-at a (suc n) zero i h = let same : a ≡ i = cc in omega arith
range-at a (suc n) (suc p) i h = let k = range-at (a + 1) n p i h in omega arith

pub replicate-at : {A : Type 0} (n : ℕ) (x y : A) (i : ℕ) → slice_get (replicate n x) i ≡ Some y → y ≡ x
replicate-at zero x y i h = absurd (cc)
replicate-at (suc n) x y zero h = let same : x ≡ y = cc in sym same
replicate-at (suc n) x y (suc i) h = replicate-at n x y i h

replicate-none : (n slot : ℕ) → is_session (replicate n None) slot ≡ false
replicate-none zero slot = refl
replicate-none (suc n) zero = refl
replicate-none (suc n) (suc slot) = replicate-none n slot

-- the only partitions are empty ones, each with the number of its place
made-some : {A : Type 0} (f : ℕ → A) (o : Option ℕ) (v : A) → option_map f o ≡ Some v → (i : ℕ) × (o ≡ Some i) × (v ≡ f i)
made-some f None v h = absurd (cc)
made-some f (Some i) v h = let same : f i ≡ v = cc in (i, refl, sym same)

-- empty partitions
abbrev plains : {K V I : Type 0} → Bool → Config → ℕ → ℕ → List (PartitionView K V I)
plains merges config size n = map (empty_partition merges config size) (range_with_len 0 n)

pub empty-at : {K V I : Type 0} (merges : Bool) (config : Config) (size n p : ℕ) (v : PartitionView K V I) → slice_get (plains merges config size n) p ≡ Some v → v ≡ empty_partition merges config size p
empty-at merges config size n p v h =
    let m = made-some (empty_partition merges config size) (slice_get (range_with_len 0 n) p) v (sym (slice_get-map (empty_partition merges config size) (range_with_len 0 n) p) ∙ h) in
    let at = range-at 0 n p m.0 m.1 in
    let same : m.0 ≡ p = omega arith in
    m.2 ∙ ap (empty_partition merges config size) same

-- nothing is open in them
unasked : {K V I : Type 0} (merges : Bool) (config : Config) (size p slot c : ℕ) (x : Asked K V I) → asked (empty_partition {K = K} {V = V} {I = I} merges config size p) slot c ≡ Some x → ⊥
unasked {K} {V} {I} merges config size p slot c x h =
    let out : is_session (replicate 16 None) slot ≡ false = replicate-none 16 slot in
    let none : asked (empty_partition {K = K} {V = V} {I = I} merges config size p) slot c ≡ None = rw out refl in
    let bad : None ≡ Some x = sym none ∙ h in
    absurd (cc)

none-asked : {K V I : Type 0} (merges : Bool) (config : Config) (size : ℕ) (o : Option (PartitionView K V I)) (slot c : ℕ) (x : Asked K V I) → ((v : PartitionView K V I) → o ≡ Some v → (p : ℕ) × (v ≡ empty_partition merges config size p)) → asked_at o slot c ≡ Some x → ⊥
none-asked merges config size None slot c x h k = absurd (cc)
none-asked merges config size (Some v) slot c x h k = let e = h v refl in unasked merges config size e.0 slot c x (ap (λ w. asked w slot c) (sym e.1) ∙ k)

pub asked-empty : {K V I : Type 0} (merges : Bool) (config : Config) (size n : ℕ) (w : ContextId) (x : Asked K V I) → asked_in (empty_partitions merges config size n) w ≡ Some x → ⊥
asked-empty merges config size n w x h = none-asked merges config size (slice_get (plains merges config size n) w.partition) w.slot w.context x (λ v k. (w.partition, empty-at merges config size n w.partition v k)) h

-- one partition more
pub partitions-more : {K V I : Type 0} (merges : Bool) (config : Config) (size n : ℕ) (xs ys : List (PartitionView K V I)) → xs ≡ empty_partitions merges config size n → ys ≡ xs ++ empty_partition merges config size n ∷ [] → ys ≡ empty_partitions merges config size (n + 1)
partitions-more merges config size n xs ys before one =
    one ∙ ap (λ zs. zs ++ empty_partition merges config size n ∷ []) before ∙ sym (map-range_with_len_more (empty_partition merges config size) 0 n n (omega arith))

pub small : (n : ℕ) → n ≤ 6 → (1 ≤ 2 ^ n) × (2 ^ n ≤ 64)
small n h = let most : 2 ^ n ≤ 2 ^ 6 = pow_mono h in let least : 0 < 2 ^ n = pow_pos n in (omega arith, omega arith)

pub few : (bits : ℕ) {n : ℕ} → n ≡ 2 ^ bits → bits ≤ 6 → n ≤ 64
few bits e h = rw e (small bits h).1

module _ {K V I O : Type 0} (R : Type 0) (cmp : K → K → Ordering) (f : Meanings K V I O) (code : K → ℕ) (merges : Bool) (config : Config) (size : ℕ) (within : IsWithinLimits config size) where
  sized : length (plains {K = K} {V = V} {I = I} merges config size (2 ^ config.partition_bits)) ≡ 2 ^ config.partition_bits
  sized = length-map-range_with_len (empty_partition merges config size) 0 (2 ^ config.partition_bits)

  made : length (empty_partitions {K = K} {V = V} {I = I} merges config size (2 ^ config.partition_bits)) ≡ 2 ^ config.partition_bits
  made = length-map-range_with_len (empty_partition merges config size) 0 (2 ^ config.partition_bits)

  none-live : (o : Option (PartitionView K V I)) (k : K) → ((v : PartitionView K V I) → o ≡ Some v → (p : ℕ) × (v ≡ empty_partition merges config size p)) → live_at cmp o k ≡ None
  none-live None k h = refl
  none-live (Some v) k h = let e = h v refl in ap (λ w. live_at cmp (Some w) k) e.1

  none-pending : (w : ContextId) (q : Pending V) → pending_in cmp (plains {K = K} {V = V} {I = I} merges config size (2 ^ config.partition_bits)) w ≡ Some q → ⊥
  none-pending w q h =
      let a = waiting-at cmp (plains merges config size (2 ^ config.partition_bits)) w q h in
      asked-empty merges config size (2 ^ config.partition_bits) w a.0 a.1

  pub state-empty : IsState {R = R} cmp f code (empty_state merges config size)
  state-empty = let b = small config.partition_bits within.partition_bits in record {
    tables = record {
      most = rw made b.1;
      begun = length-replicate (2 ^ config.partition_bits * 128) 0 ∙ ap (λ n. n * 128) (sym made);
      questions = length-replicate (2 ^ config.partition_bits * 128) None ∙ ap (λ n. n * 128) (sym made);
      receipts = length-replicate (2 ^ config.partition_bits * 128) None ∙ ap (λ n. n * 128) (sym made);
      jobs = length-replicate (2 ^ config.partition_bits) None ∙ sym made;
      seats = length-replicate (2 ^ config.partition_bits * 16) (record { session = 0; issues = 0 }) ∙ ap (λ n. n * 16) (sym made);
      enters = length-replicate (2 ^ config.partition_bits) 0 ∙ sym made;
      counted = λ p n h. (let e = replicate-at (2 ^ config.partition_bits) 0 n p h in omega arith);
      issued = λ i x h. (let e = ap (λ (z : Seat). z.issues) (replicate-at (2 ^ config.partition_bits * 16) _ x i h) in omega arith);
    };
    world = record {
      placed = record {
        issued = λ j x h. absurd (cc);
        timely = λ j x t h k. absurd (cc);
        alone = λ i j x y t u h k a b d. absurd (cc);
        answers = λ j x t h k. absurd (cc);
      };
      denotes = λ k. (let p = partition_of (length (plains {K = K} {V = V} {I = I} merges config size (2 ^ config.partition_bits))) (code k) in none-live (slice_get (plains merges config size (2 ^ config.partition_bits)) p) k (λ v h. (p, empty-at merges config size (2 ^ config.partition_bits) p v h)));
      linked = record {
        linked = λ w x h. absurd (asked-empty merges config size (2 ^ config.partition_bits) w x h);
        apart = λ w u x y h k e. absurd (asked-empty merges config size (2 ^ config.partition_bits) w x h);
      };
      housed = record {
        some = rw sized b.0;
        numbered = λ p v h. ap (λ (z : PartitionView K V I). z.number) (empty-at merges config size (2 ^ config.partition_bits) p v h);
        counted = λ p v h. ap (λ (z : PartitionView K V I). z.count) (empty-at merges config size (2 ^ config.partition_bits) p v h) ∙ sym sized;
        past = λ p v h. (let e = ap (λ (z : PartitionView K V I). z.moment) (empty-at merges config size (2 ^ config.partition_bits) p v h) in omega arith);
        routed = λ w x q h k. absurd (asked-empty merges config size (2 ^ config.partition_bits) w x h);
      };
      held = record {
        held = λ w q h. absurd (none-pending w q h);
        apart = λ w u q r h k e. absurd (none-pending w q h);
      };
    };
  }

  -- the parts of such a state, as they are told
  module _ {partitions : List (PartitionView K V I)} {begun : List ℕ} {questions : List (Option (Ask K V I))} {receipts : List (Option R)} {jobs : List (Option FlushJob)} {seats : List Seat} {enters : List ℕ} {lives : List (Life K V I O)} (n : ℕ)
      (count : n ≡ 2 ^ config.partition_bits) (p : partitions ≡ empty_partitions merges config size n) (blank : IsBlank n begun questions receipts seats enters) (j : jobs ≡ replicate n None) (l : lives ≡ []) where
    pub state-told : state_of partitions begun questions receipts jobs seats enters lives 0 ≡ empty_state merges config size
    state-told = rw (p, blank.begun, blank.questions, blank.receipts, j, blank.seats, blank.enters, l, count) refl

    pub state-begun : IsState {R = R} cmp f code (state_of partitions begun questions receipts jobs seats enters lives 0)
    state-begun = subst (λ (s : StateView K V I O R). IsState cmp f code s) (sym state-told) state-empty
