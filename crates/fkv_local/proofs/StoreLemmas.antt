-- What a store is after one of its partitions has run an operation.
use Rattle.std.proofs.Common.{◌≡◌, ◌≢◌, Bool, true, false, ℕ, zero, suc, ◌+◌, ◌*◌, ◌<◌, ◌≤◌, ◌^◌, ◌||◌, inl, inr, List, [], ◌∷◌, length, map, Option, Some, None, Result, Ok, Err, IsTrue, IfOk, OnOk, nat_lt, option_map, slice_get, slice_set, refl, sym, ◌∙◌, ap, subst, arith}
use Rattle.std.proofs.lemmas.Bool.{cases_lt}
use Rattle.std.proofs.lemmas.Bool.Decides.{nat_tests}
use Rattle.std.proofs.lemmas.List.{length-set}
use Rattle.std.proofs.lemmas.Nat.{pow_pos}
use Rattle.std.proofs.lemmas.Option.{same_Some, slice_get_within}
use Rattle.std.specs.declared.cmp.Ordering.{Ordering}
use Rattle.fkv_functions.specs.Meanings.{Meanings}
use Rattle.fkv_functions.specs.Plain.{IsKeyOrder}
use Rattle.fkv_functions.specs.declared.refusals.Refused.{Refused}
use Rattle.fkv_functions.proofs.ListLemmas.{get-set_cases, get-set_same}
use Rattle.fkv_operations.specs.After.{key_of}
use Rattle.fkv_operations.specs.declared.operations.KeyedOp.{KeyedOp}
use Rattle.fkv_operations.specs.declared.operations.KeyedOp.TheVariants.{Rmw, Merge}
use Rattle.fkv_operations.specs.declared.operations.Answer.{Answer}
use Rattle.fkv_partition.specs.declared.limits.Config.{Config}
use Rattle.fkv_partition.specs.Views.{live_of, partition_of, PartitionView}
use Rattle.fkv_partition.specs.Unions.{live_at, union_of}
use Rattle.fkv_partition.proofs.UnionLemmas.{live-after, live-quiet, answer-here}
use Rattle.fkv_functions.specs.Plain.{Same}
use Rattle.fkv_local.specs.Resting.{IsIdle, StaysIdle, AreNew, AreAtRest}
use Rattle.fkv_local.specs.Storing.{StoreView, IsRun, IsUpdateRun, Runs, Updates}
use Rattle.fkv_local.specs.Failures.{Failures, failures_of}
use Rattle.fkv_local.specs.Clearing.{WasCut, IsGivenBack, IsAllCut, IsCutAt, AnyIsCut, begin_at}
use Rattle.fkv_local.specs.Refusing.{IsWorkRefusal, IsRefusal, IsRefusedBy, IsUncompactedAt, HasEnds, FailedAsBefore, StaysAt, home_of}
use Rattle.fkv_local.specs.Reading.{records_of, ReadsFew}
use Rattle.fkv_local.proofs.PartLemmas.{view-get, view-length, view-set}

module _ {K V I : Type 0} where
  none-live : (cmp : K → K → Ordering) (o : Option (PartitionView K V I)) (k : K) → ((v : PartitionView K V I) → o ≡ Some v → live_of cmp v k ≡ None) → live_at cmp o k ≡ None
  none-live cmp None k h = refl
  none-live cmp (Some v) k h = h v refl

  pub new-empty : (cmp : K → K → Ordering) (code : K → ℕ) (config : Config) (views : List (PartitionView K V I)) (count : ℕ) → AreNew cmp config views count → (k : K) → union_of cmp code views k ≡ None
  new-empty cmp code config views count new k = none-live cmp (slice_get views (partition_of (length views) (code k))) k (λ v h. (new.each (partition_of (length views) (code k)) v h).empty k)

  pub new-rests : (cmp : K → K → Ordering) (config : Config) (views : List (PartitionView K V I)) (count : ℕ) → count ≡ 2 ^ config.partition_bits → AreNew cmp config views count → AreAtRest views count
  new-rests cmp config views count e new = record {
    some = (let positive : 0 < 2 ^ config.partition_bits = pow_pos config.partition_bits in omega (arith, new.sized));
    begun = (let positive : 0 < 2 ^ config.partition_bits = pow_pos config.partition_bits in omega arith);
    numbered = λ p v h. (new.each p v h).numbered;
    counted = λ p v h. (new.each p v h).counted ∙ sym e ∙ sym new.sized;
    past = λ p v h. (let m = (new.each p v h).past in let l : p < length views = slice_get_within views p v h in omega (arith, new.sized));
    idle = λ p v h. (new.each p v h).idle;
  }

  pub rests-set : (views : List (PartitionView K V I)) (now then p : ℕ) (old new : PartitionView K V I) → AreAtRest views now → slice_get views p ≡ Some old
      → new.number ≡ old.number → new.count ≡ old.count → new.moment ≤ then → now ≤ then → IsIdle new 0 → AreAtRest (slice_set views p new) then
  rests-set views now then p old new rest here number count past later idle = record {
    some = rw (length-set views p new) rest.some;
    begun = (let b = rest.begun in omega arith);
    numbered = λ q v h. elim (get-set_cases views p q new v h) [
      | inl c ↦ ap (λ (u : PartitionView K V I). u.number) (sym c.1) ∙ number ∙ rest.numbered p old here ∙ sym c.0
      | inr c ↦ rest.numbered q v c
    ];
    counted = λ q v h. elim (get-set_cases views p q new v h) [
      | inl c ↦ ap (λ (u : PartitionView K V I). u.count) (sym c.1) ∙ count ∙ rest.counted p old here ∙ sym (length-set views p new)
      | inr c ↦ rest.counted q v c ∙ sym (length-set views p new)
    ];
    past = λ q v h. elim (get-set_cases views p q new v h) [
      | inl c ↦ (let m : v.moment ≡ new.moment = ap (λ (u : PartitionView K V I). u.moment) (sym c.1) in omega arith)
      | inr c ↦ (let m : v.moment ≤ now = rest.past q v c in omega arith)
    ];
    idle = λ q v h. elim (get-set_cases views p q new v h) [
      | inl c ↦ subst (λ (u : PartitionView K V I). IsIdle u 0) c.1 idle
      | inr c ↦ rest.idle q v c
    ];
  }

-- what an operation makes of its key's partition it makes of the store
run-of : {K V I O : Type 0} (keeps : Bool) (cmp : K → K → Ordering) (order : IsKeyOrder cmp) (f : Meanings K V I O) (code : K → ℕ) (views : List (PartitionView K V I)) (p : ℕ) (old new : PartitionView K V I) (op : KeyedOp K V I) (r : Result (Answer O) Refused)
    → slice_get views p ≡ Some old → partition_of (length views) (code (key_of op)) ≡ p → Runs keeps cmp f old new op r → IsTrue keeps → IsRun cmp f (union_of cmp code views) (union_of cmp code (slice_set views p new)) op r
run-of keeps cmp order f code views p old new op (Ok a) here own h k = (
  live-after cmp order f code views p old new here op own (h.effect k).0,
  (h.effect k).1 ∙ answer-here cmp order f code views p old new here op own,
)
run-of keeps cmp order f code views p old new op (Err e) here own h k = live-quiet cmp order f code views p old new here (h.effect k)

-- what a contract sees of a store
abbrev pub seen_as : {K V I W P : Type 0} → List (PartitionView K V I) → List W → List P → Config → Bool → ℕ → StoreView K V I W P
seen_as parts writers readers config keeps_log moments = record { parts = parts; writers = writers; readers = readers; config = config; keeps_log = keeps_log; moments = moments }

module _ {K V I W P : Type 0} {views : List (PartitionView K V I)} {writers : List W} {readers : List P} {config : Config} {keeps_log : Bool} {now : ℕ} {self : StoreView K V I W P} (is : seen_as views writers readers config keeps_log now ≡ self) where
  pub parts-is : views ≡ self.parts
  parts-is = ap (λ (s : StoreView _ _ _ _ _). s.parts) is

  pub readers-is : readers ≡ self.readers
  readers-is = ap (λ (s : StoreView _ _ _ _ _). s.readers) is

  pub keeps-is : keeps_log ≡ self.keeps_log
  keeps-is = ap (λ (s : StoreView _ _ _ _ _). s.keeps_log) is

  pub terms-are : (keeps_log ≡ self.keeps_log) × (config ≡ self.config)
  terms-are = (keeps-is, ap (λ (s : StoreView _ _ _ _ _). s.config) is)

-- ---- the partition of a key, in its place
module _ {K V I S : Type 0} (view : S → PartitionView K V I) (code : K → ℕ) (items : List S) (now : ℕ) (views : List (PartitionView K V I))
    (is : map view items ≡ views) where
  sized : length views ≡ length items
  sized = ap length (sym is) ∙ view-length view items

  pub inside-home : (home : ℕ) → home < length views → home < length items
  inside-home home h = subst (λ n. home < n) sized h

  module _ (home : ℕ) (x : S) (rest : AreAtRest (map view items) now) (here : slice_get items home ≡ Some x) where
    there : slice_get (map view items) home ≡ Some (view x)
    there = view-get view items home x here

    pub home-idle : IsIdle (view x) 0
    home-idle = rest.idle home (view x) there

    pub home-past : (view x).moment ≤ now
    home-past = rest.past home (view x) there

    at-views : (k : K) → home ≡ partition_of (length views) (code k) → partition_of (length (map view items)) (code k) ≡ home
    at-views k at = ap (λ vs. partition_of (length vs) (code k)) is ∙ sym at

    pub home-own : (k : K) → home ≡ partition_of (length views) (code k) → partition_of (view x).count (code k) ≡ (view x).number
    home-own k at = ap (λ n. partition_of n (code k)) (rest.counted home (view x) there) ∙ at-views k at ∙ sym (rest.numbered home (view x) there)

    -- with the partition as a call leaves it
    module _ (y : S) (then : ℕ) where
      pub home-rests : (view y).number ≡ (view x).number → (view y).count ≡ (view x).count → IsIdle (view y) 0 → (view y).moment ≤ then → now ≤ then → AreAtRest (map view (slice_set items home y)) then
      home-rests number count idle past later =
          subst (λ vs. AreAtRest vs then) (sym (view-set view items home y)) (rests-set (map view items) now then home (view x) (view y) rest there number count past later idle)

      pub home-sized : length (map view (slice_set items home y)) ≡ length views
      home-sized = view-length view (slice_set items home y) ∙ length-set items home y ∙ sym sized

      pub home-quiet : {O : Type 0} (keeps : Bool) (cmp : K → K → Ordering) (order : IsKeyOrder cmp) (f : Meanings K V I O) → StaysIdle keeps cmp (view x) (view y) → IsTrue keeps → Same (union_of cmp code (map view (slice_set items home y))) (union_of cmp code views)
      home-quiet keeps cmp order f stays kept =
          subst (λ vs. Same (union_of cmp code (map view (slice_set items home y))) (union_of cmp code vs)) is
          (subst (λ vs. Same (union_of cmp code vs) (union_of cmp code (map view items))) (sym (view-set view items home y))
          (live-quiet cmp order f code (map view items) home (view x) (view y) there (stays.live kept)))

      module _ (k : K) (at : home ≡ partition_of (length views) (code k)) where
        pub home-runs : {O : Type 0} (keeps : Bool) (cmp : K → K → Ordering) (order : IsKeyOrder cmp) (f : Meanings K V I O) (op : KeyedOp K V I) (r : Result (Answer O) Refused) → k ≡ key_of op → Runs keeps cmp f (view x) (view y) op r
            → IsTrue keeps → IsRun cmp f (union_of cmp code views) (union_of cmp code (map view (slice_set items home y))) op r
        home-runs keeps cmp order f op r key runs kept =
            subst (λ vs. IsRun cmp f (union_of cmp code vs) (union_of cmp code (map view (slice_set items home y))) op r) is
            (subst (λ vs. IsRun cmp f (union_of cmp code (map view items)) (union_of cmp code vs) op r) (sym (view-set view items home y))
            (run-of keeps cmp order f code (map view items) home (view x) (view y) op r there (ap (λ q. partition_of (length (map view items)) (code q)) (sym key) ∙ at-views k at) runs kept))

        pub home-updates : {O : Type 0} (keeps : Bool) (cmp : K → K → Ordering) (order : IsKeyOrder cmp) (f : Meanings K V I O) (i : I) (r : Result (Answer O) Refused) → Updates keeps cmp f (view x) (view y) k i r
            → IsTrue keeps → IsUpdateRun cmp f (union_of cmp code views) (union_of cmp code (map view (slice_set items home y))) k i r
        home-updates keeps cmp order f i r updates kept = elim updates [
          | inl runs ↦ inl (home-runs keeps cmp order f (Rmw k i) r refl runs kept)
          | inr runs ↦ inr (home-runs keeps cmp order f (Merge k i) r refl runs kept)
        ]

-- ---- one place of a store has changed
get-other : {S A : Type 0} (f : S → A) (xs : List S) (i p : ℕ) (y : S) → p ≢ i → slice_get (map f (slice_set xs i y)) p ≡ slice_get (map f xs) p
get-other f [] i p y apart = refl
get-other f (x ∷ xs) zero zero y apart = absurd (apart refl)
get-other f (x ∷ xs) zero (suc p) y apart = refl
get-other f (x ∷ xs) (suc i) zero y apart = refl
get-other f (x ∷ xs) (suc i) (suc p) y apart = get-other f xs i p y (λ same. apart (ap suc same))

-- a store of these items, as it is seen
abbrev pub of_items : {K V I W P S : Type 0} → (S → PartitionView K V I) → (S → W) → (S → P) → List S → Config → Bool → ℕ → StoreView K V I W P
of_items view writer reader items config keeps_log now = seen_as (map view items) (map writer items) (map reader items) config keeps_log now

module _ {K V I W P S : Type 0} (view : S → PartitionView K V I) (writer : S → W) (reader : S → P) (items : List S) {config : Config} {keeps_log : Bool} {now : ℕ} {self : StoreView K V I W P}
    (is : of_items view writer reader items config keeps_log now ≡ self) (home : ℕ) (x y : S) (here : slice_get items home ≡ Some x) (then : ℕ) where
  now-there : slice_get (slice_set items home y) home ≡ Some y
  now-there = get-set_same items home x y here

  pub others-stay : (p : ℕ) → p ≢ home → StaysAt self (of_items view writer reader (slice_set items home y) config keeps_log then) p
  others-stay p apart = subst (λ s. StaysAt s (of_items view writer reader (slice_set items home y) config keeps_log then) p) is (record {
    part = get-other view items home p y apart;
    writer = get-other writer items home p y apart;
    reader = get-other reader items home p y apart;
  })

  ends-were : HasEnds self home (writer x) (reader x)
  ends-were = subst (λ s. HasEnds s home (writer x) (reader x)) is (view-get writer items home x here, view-get reader items home x here)

  ends-are : HasEnds (of_items view writer reader (slice_set items home y) config keeps_log then) home (writer y) (reader y)
  ends-are = (view-get writer (slice_set items home y) home y now-there, view-get reader (slice_set items home y) home y now-there)

  module _ (writes : W → ℕ) (reads : P → ℕ) where
    -- why an operation is refused
    pub home-refusal : {keeps merges : Bool} (code : K → ℕ) (op : KeyedOp K V I) (k : K) → home ≡ partition_of (length self.parts) (code k) → k ≡ key_of op
        → (e : Refused) → IsRefusedBy keeps merges keeps_log writes reads op (view y).records.log.tail then (writer x) (reader x) (writer y) (reader y) e
        → IsRefusal keeps merges code writes reads self (of_items view writer reader (slice_set items home y) config keeps_log then) op e
    home-refusal {keeps} {merges} code op k at key e h =
        let sized : length (map view (slice_set items home y)) ≡ length self.parts = view-length view (slice_set items home y) ∙ length-set items home y ∙ sym (view-length view items) ∙ ap length (parts-is is) in
        let own : partition_of (length (map view (slice_set items home y))) (code (key_of op)) ≡ home = ap (λ n. partition_of n (code (key_of op))) sized ∙ ap (λ q. partition_of (length self.parts) (code q)) (sym key) ∙ sym at in
        record {
          part = view y;
          writer = writer x;
          reader = reader x;
          writer_now = writer y;
          reader_now = reader y;
          here = subst (λ p. slice_get (map view (slice_set items home y)) p ≡ Some (view y)) (sym own) (view-get view (slice_set items home y) home y now-there);
          ends = subst (λ p. HasEnds self p (writer x) (reader x)) (sym own) ends-were;
          ends_now = subst (λ p. HasEnds (of_items view writer reader (slice_set items home y) config keeps_log then) p (writer y) (reader y)) (sym own) ends-are;
          others = λ p apart. others-stay p (λ same. apart (same ∙ sym own));
          refused = subst (λ (s : StoreView K V I W P). IsRefusedBy keeps merges s.keeps_log writes reads op (view y).records.log.tail then (writer x) (reader x) (writer y) (reader y) e) is h;
        }

    -- how many pages it reads
    pub home-loads : (code : K → ℕ) (op : KeyedOp K V I) (k : K) → home ≡ partition_of (length self.parts) (code k) → k ≡ key_of op
        → reads (reader y) ≤ reads (reader x) + 2 * records_of code (view x).records (key_of op)
        → ReadsFew code reads self (of_items view writer reader (slice_set items home y) config keeps_log then) op
    home-loads code op k at key few = record {
      here = λ part r r_now p q s.
          (let was : view x ≡ part = same_Some (view x) part (sym (subst (λ (t : StoreView K V I W P). slice_get t.parts home ≡ Some (view x)) is (view-get view items home x here)) ∙ sym (ap (slice_get self.parts) own) ∙ p) in
          let read : reader x ≡ r = same_Some (reader x) r (sym ends-were.1 ∙ sym (ap (slice_get self.readers) own) ∙ q) in
          let read_now : reader y ≡ r_now = same_Some (reader y) r_now (sym ends-are.1 ∙ sym (ap (slice_get (map reader (slice_set items home y))) own) ∙ s) in
          subst (λ (v : PartitionView K V I). reads r_now ≤ reads r + 2 * records_of code v.records (key_of op)) was
          (subst (λ a. reads r_now ≤ reads a + 2 * records_of code (view x).records (key_of op)) read
          (subst (λ a. reads a ≤ reads (reader x) + 2 * records_of code (view x).records (key_of op)) read_now few)));
      others = λ p apart. (others-stay p (λ same. apart (same ∙ sym own))).reader;
    }
      where
        own : home_of code self op ≡ home
        own = ap (λ q. partition_of (length self.parts) (code q)) (sym key) ∙ sym at

    -- why a log is not compacted
    pub home-uncompacted : {keeps : Bool} (e : Refused) → IsWorkRefusal keeps (view y).records.log.tail then (failures_of writes reads (writer x) (reader x)) (failures_of writes reads (writer y) (reader y)) e
        → IsUncompactedAt keeps writes reads self (of_items view writer reader (slice_set items home y) config keeps_log then) home e
    home-uncompacted e h = record {
      part = view y;
      writer = writer x;
      reader = reader x;
      writer_now = writer y;
      reader_now = reader y;
      here = view-get view (slice_set items home y) home y now-there;
      ends = ends-were;
      ends_now = ends-are;
      refused = h;
    }

    pub home-steady : failures_of writes reads (writer y) (reader y) ≡ failures_of writes reads (writer x) (reader x) → FailedAsBefore writes reads self (of_items view writer reader (slice_set items home y) config keeps_log then) home
    home-steady same = (
      view-get writes (map writer (slice_set items home y)) home (writer y) ends-are.0 ∙ ap (λ (f : Failures). Some f.writes) same ∙ sym (view-get writes self.writers home (writer x) ends-were.0),
      view-get reads (map reader (slice_set items home y)) home (reader y) ends-are.1 ∙ ap (λ (f : Failures). Some f.reads) same ∙ sym (view-get reads self.readers home (reader x) ends-were.1),
    )

  -- what a compaction leaves there
  begun : begin_at self home ≡ Some (view x).records.log.begin
  begun = subst (λ (s : StoreView K V I W P). begin_at s home ≡ Some (view x).records.log.begin) is (ap (option_map (λ (v : PartitionView K V I). v.records.log.begin)) (view-get view items home x here))

  begins : begin_at (of_items view writer reader (slice_set items home y) config keeps_log then) home ≡ Some (view y).records.log.begin
  begins = ap (option_map (λ (v : PartitionView K V I). v.records.log.begin)) (view-get view (slice_set items home y) home y now-there)

  pub home-cut : WasCut (view x) (view y) true → IsCutAt self (of_items view writer reader (slice_set items home y) config keeps_log then) home
  home-cut risen = record { begin = (view x).records.log.begin; begin_now = (view y).records.log.begin; was = begun; is = begins; risen = risen }

  pub home-uncut : WasCut (view x) (view y) false → begin_at (of_items view writer reader (slice_set items home y) config keeps_log then) home ≡ begin_at self home
  home-uncut same = begins ∙ ap Some same ∙ sym begun

  pub home-all_cut : IsAllCut (view y) → (v : PartitionView K V I) → slice_get (of_items view writer reader (slice_set items home y) config keeps_log then).parts home ≡ Some v → IsAllCut v
  home-all_cut all v h = subst IsAllCut (same_Some (view y) v (sym (view-get view (slice_set items home y) home y now-there) ∙ h)) all

  -- what had left memory of that log is given back
  pub home-given_back : IsGivenBack (view x) (view y) → (v w : PartitionView K V I) → slice_get self.parts home ≡ Some v → slice_get (of_items view writer reader (slice_set items home y) config keeps_log then).parts home ≡ Some w → IsGivenBack v w
  home-given_back given v w h k =
      let was : view x ≡ v = same_Some (view x) v (sym (view-get view items home x here) ∙ ap (λ ps. slice_get ps home) (parts-is is) ∙ h) in
      let now_is : view y ≡ w = same_Some (view y) w (sym (view-get view (slice_set items home y) home y now-there) ∙ k) in
      subst (λ a. IsGivenBack a w) was (subst (IsGivenBack (view x)) now_is given)

pub or-yes : (r b h : Bool) → r ≡ true → h ≡ r → (r || b) ≡ h
or-yes r b h p q = ap (λ x. x || b) p ∙ sym p ∙ sym q

pub or-no : (r b h : Bool) → r ≡ false → h ≡ b → (r || b) ≡ h
or-no r b h p q = ap (λ x. x || b) p ∙ sym q

-- ---- one store after the other
module _ {K V I W P : Type 0} {v w : StoreView K V I W P} {home : ℕ} where
  begin-stays : ((p : ℕ) → p ≢ home → StaysAt v w p) → begin_at w home ≡ begin_at v home → (p : ℕ) → begin_at w p ≡ begin_at v p
  begin-stays others same p = by (nat_lt p home) (nat_lt home p) refl refl
    where
      other : p ≢ home → begin_at w p ≡ begin_at v p
      other apart = ap (option_map (λ (x : PartitionView K V I). x.records.log.begin)) (others p apart).part

      by : (a b : Bool) → nat_lt p home ≡ a → nat_lt home p ≡ b → begin_at w p ≡ begin_at v p
      by true b q r = other (λ e. absurd (let l : p < home = grind (arith, nat_tests) in omega arith))
      by false true q r = other (λ e. absurd (let l : home < p = grind (arith, nat_tests) in omega arith))
      by false false q r = let here : p ≡ home = grind (arith, nat_tests) in rw here same

  -- the log at a place is the first of which the start is cut there
  pub cut-here : {u : StoreView K V I W P} → StaysAt u v home → IsCutAt v w home → IsCutAt u w home
  cut-here stays c = record { begin = c.begin; begin_now = c.begin_now; was = sym (ap (option_map (λ (x : PartitionView K V I). x.records.log.begin)) stays.part) ∙ c.was; is = c.is; risen = c.risen }

  pub cut-still : (u : StoreView K V I W P) (b : Bool) → AnyIsCut u v b → ((p : ℕ) → p ≢ home → StaysAt v w p) → begin_at w home ≡ begin_at v home → AnyIsCut u w b
  cut-still u true c others same = (c.0, record { begin = c.1.begin; begin_now = c.1.begin_now; was = c.1.was; is = begin-stays others same c.0 ∙ c.1.is; risen = c.1.risen })
  cut-still u false c others same = λ p. begin-stays others same p ∙ c p

  pub any-cut : (u : StoreView K V I W P) (b r : Bool) → AnyIsCut u v b → ((p : ℕ) → p ≢ home → StaysAt v w p) → StaysAt u v home → (IsTrue r → IsCutAt v w home) → (r ≡ false → begin_at w home ≡ begin_at v home) → AnyIsCut u w (r || b)
  any-cut u b true c others stays cut uncut = (home, cut-here stays (cut refl))
  any-cut u b false c others stays cut uncut = cut-still u b c others (uncut refl)

  -- no more can be cut of the logs up to there
  pub all-cut : ((p : ℕ) (x : PartitionView K V I) → p < home → slice_get v.parts p ≡ Some x → IsAllCut x) → ((p : ℕ) → p ≢ home → StaysAt v w p) → ((x : PartitionView K V I) → slice_get w.parts home ≡ Some x → IsAllCut x)
      → (p : ℕ) (x : PartitionView K V I) → p < home + 1 → slice_get w.parts p ≡ Some x → IsAllCut x
  all-cut so_far others more p x low here = elim (cases_lt p home) [
    | inl less ↦ so_far p x less (sym (others p (λ e. absurd (omega arith))).part ∙ here)
    | inr up ↦ (let same : p ≡ home = omega arith in more x (ap (slice_get w.parts) (sym same) ∙ here))
  ]

  -- and so of the logs up to there
  pub given-more : {u : StoreView K V I W P} → ((p : ℕ) (a b : PartitionView K V I) → p < home → slice_get u.parts p ≡ Some a → slice_get v.parts p ≡ Some b → IsGivenBack a b) → ((p : ℕ) → p ≢ home → StaysAt v w p) → StaysAt u v home
      → ((a b : PartitionView K V I) → slice_get v.parts home ≡ Some a → slice_get w.parts home ≡ Some b → IsGivenBack a b)
      → (p : ℕ) (a b : PartitionView K V I) → p < home + 1 → slice_get u.parts p ≡ Some a → slice_get w.parts p ≡ Some b → IsGivenBack a b
  given-more {u} so_far others stays more p a b low was here = elim (cases_lt p home) [
    | inl less ↦ so_far p a b less was (sym (others p (λ e. absurd (omega arith))).part ∙ here)
    | inr up ↦ (let same : p ≡ home = omega arith in more a b (stays.part ∙ ap (slice_get u.parts) (sym same) ∙ was) (ap (slice_get w.parts) (sym same) ∙ here))
  ]

module _ {K V I W P : Type 0} {u v w : StoreView K V I W P} {p : ℕ} where
  pub stays-at : StaysAt u v p → StaysAt v w p → StaysAt u w p
  stays-at a b = record { part = b.part ∙ a.part; writer = b.writer ∙ a.writer; reader = b.reader ∙ a.reader }

  -- why a log is not compacted that was as it was
  pub uncompacted-since : {keeps : Bool} {writes : W → ℕ} {reads : P → ℕ} {e : Refused} → StaysAt u v p → IsUncompactedAt keeps writes reads v w p e → IsUncompactedAt keeps writes reads u w p e
  uncompacted-since stays h = record {
    part = h.part;
    writer = h.writer;
    reader = h.reader;
    writer_now = h.writer_now;
    reader_now = h.reader_now;
    here = h.here;
    ends = (sym stays.writer ∙ h.ends.0, sym stays.reader ∙ h.ends.1);
    ends_now = h.ends_now;
    refused = h.refused;
  }

get-mapped : {A B : Type 0} (f : A → B) (xs : List A) (i : ℕ) → slice_get (map f xs) i ≡ option_map f (slice_get xs i)
get-mapped f [] i = refl
get-mapped f (x ∷ xs) zero = refl
get-mapped f (x ∷ xs) (suc i) = get-mapped f xs i

module _ {K V I W P : Type 0} (writes : W → ℕ) (reads : P → ℕ) (u v w : StoreView K V I W P) where
  -- what has failed as often
  pub failed-then : (p : ℕ) → FailedAsBefore writes reads u v p → FailedAsBefore writes reads v w p → FailedAsBefore writes reads u w p
  failed-then p a b = (b.0 ∙ a.0, b.1 ∙ a.1)

  pub failed-still : (p : ℕ) → FailedAsBefore writes reads u v p → StaysAt v w p → FailedAsBefore writes reads u w p
  failed-still p a stays = failed-then p a (
    get-mapped writes w.writers p ∙ ap (option_map writes) stays.writer ∙ sym (get-mapped writes v.writers p),
    get-mapped reads w.readers p ∙ ap (option_map reads) stays.reader ∙ sym (get-mapped reads v.readers p),
  )

  pub failed-more : (home : ℕ) → ((p : ℕ) → FailedAsBefore writes reads u v p) → ((p : ℕ) → p ≢ home → StaysAt v w p) → FailedAsBefore writes reads v w home → (p : ℕ) → FailedAsBefore writes reads u w p
  failed-more home so_far others more p = by (nat_lt p home) (nat_lt home p) refl refl
    where
      by : (a b : Bool) → nat_lt p home ≡ a → nat_lt home p ≡ b → FailedAsBefore writes reads u w p
      by true b q r = failed-still p (so_far p) (others p (λ e. absurd (let l : p < home = grind (arith, nat_tests) in omega arith)))
      by false true q r = failed-still p (so_far p) (others p (λ e. absurd (let l : home < p = grind (arith, nat_tests) in omega arith)))
      by false false q r = let same : p ≡ home = grind (arith, nat_tests) in failed-then p (so_far p) (subst (λ n. FailedAsBefore writes reads v w n) (sym same) more)

pub OnOk-weaker : {A P Q : Type 0} (r : Result A Refused) → (P → Q) → OnOk r P → OnOk r Q
OnOk-weaker (Ok a) f h = f h
OnOk-weaker (Err e) f h = tt

pub cut-told : {K V I C : Type 0} (v w : PartitionView K V I) (r : Result Bool Refused) → (WasCut v w true → C) → IfOk r (WasCut v w) → IfOk r (λ b. IsTrue b → C)
cut-told v w (Ok true) f h = λ t. f h
cut-told v w (Ok false) f h = λ t. absurd (cc)
cut-told v w (Err e) f h = tt

pub uncut-told : {K V I C : Type 0} (v w : PartitionView K V I) (r : Result Bool Refused) → (WasCut v w false → C) → IfOk r (WasCut v w) → IfOk r (λ b. b ≡ false → C)
uncut-told v w (Ok true) f h = λ t. absurd (cc)
uncut-told v w (Ok false) f h = λ t. f h
uncut-told v w (Err e) f h = tt
