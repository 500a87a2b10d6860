-- The runs of partitions, and what they are as one.
use Rattle.std.proofs.Common.{◌≡◌, ◌<◌, ◌+◌, ◌++◌, ◌∷◌, [], ℕ, zero, suc, Bool, List, length, map, filter, nat_eq, slice_get, Some, Result, Ok, Err, IsTrue, IfOk, refl, sym, ap, subst, ◌∙◌, inl, inr, arith}
use Rattle.std.specs.Prelude.{IfErr, ◌%◌, ◌⊎◌}
use Rattle.std.specs.BTreeMap.{is_at}
use Rattle.std.specs.List.{AllByRecursion, AllZip}
use Rattle.std.specs.List.Sorted.{IsStrictlySortedBy}
use Rattle.std.specs.Map.{lookup, keys_of}
use Rattle.std.proofs.Math.Nat.{mod-lt}
use Rattle.std.proofs.lemmas.Slice.Zip.{AllZip-long}
use Rattle.fkv_functions.specs.Names.{name_cmp, same_names, name_ties, name_exact, name_total}
use Rattle.fkv_functions.specs.Plain.{IsKeyOrder}
use Rattle.fkv_functions.specs.declared.names.Name.{Name}
use Rattle.fkv_functions.specs.declared.refusals.Refused.{Refused}
use Rattle.fkv_functions.specs.declared.refusals.Refused.TheVariants.{NoMemory}
use Rattle.fkv_functions.proofs.KeyOrder.{key_order}
use Rattle.fkv_partition.specs.Views.{live_of, partition_of, PartitionView}
use Rattle.fkv_partition.specs.Unions.{live_at, union_of}
use Rattle.fkv_closing.specs.Closing.{AreNumbered}
use Rattle.fkv_runs.specs.Merging.{merged, AreHomed}
use Rattle.fkv_runs.proofs.MadeLemmas.{nat_eq-refl, nat_eq-is, those-homed, those-rise, those-lookup, AreRuns, AreOf, runs-rise, of-all}
use Rattle.fkv_workers.specs.Listing.{IsRunOf, IsOfOne, IsFirstRefusal}

order : IsKeyOrder name_cmp
order = key_order same_names name_cmp name_ties name_exact name_total

-- the partition of a key in a store of so many
abbrev home : (Name → ℕ) → ℕ → Name → ℕ
home code count k = partition_of count (code k)

module _ {V I : Type 0} (keeps : Bool) (code : Name → ℕ) where
  -- of the pairs that a partition lists, those at home
  pub run_made : (view : PartitionView Name V I) (number count : ℕ) (pairs run : List (Name × V))
      → number ≡ view.number → count ≡ view.count
      → run ≡ filter (λ pair. nat_eq (code pair.0 % count) number) pairs
      → IsStrictlySortedBy name_cmp (keys_of pairs)
      → (IsTrue keeps → (k : Name) → lookup (is_at (name_cmp k)) pairs ≡ live_of name_cmp view k)
      → IsRunOf keeps code view run
  run_made view number count pairs run n c is rising listed =
      let test : Name → Bool = λ q. nat_eq (code q % count) number in
      subst (IsRunOf keeps code view) (sym is)
      (record {
        rising = those-rise name_cmp test pairs rising;
        homed = those-homed test (λ q. partition_of view.count (code q)) view.number
            (λ q t. ap (λ m. code q % m) (sym c) ∙ nat_eq-is (code q % count) number t ∙ n) pairs;
        has = λ kept k own.
            those-lookup name_cmp test order k pairs (nat_eq-refl (code k % count) number (ap (λ m. code k % m) c ∙ own ∙ sym n))
            ∙ listed kept k;
      })

  -- ---- a run of each partition from a place on, in a store of so many
  module _ (count : ℕ) where
    runs_homed : (first : ℕ) (views : List (PartitionView Name V I)) (runs : List (List (Name × V)))
        → ((p : ℕ) (v : PartitionView Name V I) → slice_get views p ≡ Some v → v.number ≡ first + p)
        → ((p : ℕ) (v : PartitionView Name V I) → slice_get views p ≡ Some v → v.count ≡ count)
        → AllZip (IsRunOf keeps code) views runs → AreHomed (home code count) first runs
    runs_homed first [] [] numbered counted all = tt
    runs_homed first [] (r ∷ runs) numbered counted all = absurd all
    runs_homed first (v ∷ views) [] numbered counted all = absurd all
    runs_homed first (v ∷ views) (r ∷ runs) numbered counted all = (
      subst (λ n. AllByRecursion (λ q. home code count q ≡ n) (keys_of r)) (numbered 0 v refl ∙ (let z : first + 0 ≡ first = omega arith in z))
          (subst (λ m. AllByRecursion (λ q. partition_of m (code q) ≡ v.number) (keys_of r)) (counted 0 v refl) all.0.homed),
      runs_homed (suc first) views runs (λ p w at. numbered (suc p) w at ∙ (let z : first + suc p ≡ suc first + p = omega arith in z)) (λ p w at. counted (suc p) w at) all.1,
    )

  runs_rise : (views : List (PartitionView Name V I)) (runs : List (List (Name × V))) → AllZip (IsRunOf keeps code) views runs
      → AllByRecursion (λ xs. IsStrictlySortedBy name_cmp (keys_of xs)) runs
  runs_rise [] [] all = tt
  runs_rise [] (r ∷ runs) all = absurd all
  runs_rise (v ∷ views) [] all = absurd all
  runs_rise (v ∷ views) (r ∷ runs) all = (all.0.rising, runs_rise views runs all.1)

  -- a run, and the partition that it is of
  view_at : (views : List (PartitionView Name V I)) (runs : List (List (Name × V))) (p : ℕ) (run : List (Name × V)) → AllZip (IsRunOf keeps code) views runs
      → slice_get runs p ≡ Some run → (view : PartitionView Name V I) × (slice_get views p ≡ Some view) × IsRunOf keeps code view run
  view_at [] [] p run all at = absurd (cc)
  view_at [] (r ∷ runs) p run all at = absurd all
  view_at (v ∷ views) [] p run all at = absurd all
  view_at (v ∷ views) (r ∷ runs) zero run all at = (v, refl, subst (IsRunOf keeps code v) (let e : r ≡ run = cc in e) all.0)
  view_at (v ∷ views) (r ∷ runs) (suc p) run all at = view_at views runs p run all.1 at

  -- ---- of a whole store
  module _ (views : List (PartitionView Name V I)) (runs : List (List (Name × V))) (places : AreNumbered views) (all : AllZip (IsRunOf keeps code) views runs) where
    are_runs : AreRuns name_cmp (home code (length views)) runs
    are_runs = record {
      rising = runs_rise views runs all;
      homed = runs_homed (length views) 0 views runs (λ p v at. places.numbered p v at ∙ (let z : p ≡ 0 + p = omega arith in z)) places.counted all;
    }

    are_of : IsTrue keeps → AreOf name_cmp (home code (length views)) (union_of name_cmp code views) runs
    are_of kept k run at =
        let found = view_at views runs (home code (length views) k) run all at in
        let own = ap (λ m. code k % m) (places.counted (home code (length views) k) found.0 found.1) ∙ sym (places.numbered (home code (length views) k) found.0 found.1) in
        found.2.has kept k own ∙ sym (ap (λ o. live_at name_cmp o k) found.1)

    pub table_rises : IsStrictlySortedBy name_cmp (keys_of (merged name_cmp runs))
    table_rises = runs-rise name_cmp (home code (length views)) name_total order runs are_runs

  pub table_has : (views : List (PartitionView Name V I)) (runs : List (List (Name × V))) → AreNumbered views → AllZip (IsRunOf keeps code) views runs
      → IsTrue keeps → (k : Name) → lookup (is_at (name_cmp k)) (merged name_cmp runs) ≡ union_of name_cmp code views k
  table_has [] [] places all kept k = refl
  table_has [] (r ∷ runs) places all kept k = absurd all
  table_has (v ∷ views) runs places all kept k =
      of-all name_cmp (home code (length (v ∷ views))) order (union_of name_cmp code (v ∷ views)) runs
      (are_runs (v ∷ views) runs places all) (are_of (v ∷ views) runs places all kept) k
      (subst (λ n. home code (length (v ∷ views)) k < n) (sym (AllZip-long (IsRunOf keeps code) (v ∷ views) runs all)) (mod-lt (code k) (let z : 0 < length (v ∷ views) = omega arith in z)))

-- ---- what jobs were refused first, each of which has a part: that is why one of the parts is
pub refused_of : {J X A : Type 0} (gives : J → Result A Refused → Type 0) (part : J → X) (refuses : X → Refused → Type 0)
    → ((j : J) (why : Refused) → gives j (Err why) → refuses (part j) why)
    → (jobs : List J) (before : List A) (after : List (Result A Refused)) (why : Refused)
    → AllZip gives jobs (map Ok before ++ Err why ∷ after) → IsOfOne refuses (map part jobs) why
refused_of gives part refuses by [] [] after why all = absurd all
refused_of gives part refuses by [] (a ∷ before) after why all = absurd all
refused_of gives part refuses by (j ∷ jobs) [] after why all = (0, part j, refl, by j why all.0)
refused_of gives part refuses by (j ∷ jobs) (a ∷ before) after why all =
    let rest = refused_of gives part refuses by jobs before after why all.1 in
    (suc rest.0, rest.1, rest.2, rest.3)

-- ---- what jobs give, each of which lists a part
module _ {J X V I : Type 0} (keeps : Bool) (code : Name → ℕ) (part : J → X) (view : X → PartitionView Name V I) (runless : X → Refused → Type 0) (only : Refused → Type 0) where
  abbrev Why : X → Refused → Type 0
  Why x why = (why ≡ NoMemory) ⊎ runless x why

  abbrev Gives : J → Result (List (Name × V)) Refused → Type 0
  Gives j result = IfOk result (IsRunOf keeps code (view (part j)))
      × IfErr result (Why (part j))
      × IfErr result only

  runs_given : (jobs : List J) (runs : List (List (Name × V))) → AllZip Gives jobs (map Ok runs) → AllZip (IsRunOf keeps code) (map view (map part jobs)) runs
  runs_given [] [] all = tt
  runs_given [] (r ∷ runs) all = absurd all
  runs_given (j ∷ jobs) [] all = absurd all
  runs_given (j ∷ jobs) (r ∷ runs) all = (all.0.0, runs_given jobs runs all.1)

  module _ (jobs : List J) (items : List X) (results : List (Result (List (Name × V)) Refused)) (parts : map part jobs ≡ items) (all : AllZip Gives jobs results) where
    pub runs_listed : (runs : List (List (Name × V))) → map Ok runs ≡ results → AllZip (IsRunOf keeps code) (map view items) runs
    runs_listed runs is = subst (λ xs. AllZip (IsRunOf keeps code) (map view xs) runs) parts (runs_given jobs runs (subst (AllZip Gives jobs) (sym is) all))

    first_of : (why : Refused) → IsFirstRefusal results why → IsOfOne (λ x e. Why x e × only e) items why
    first_of why first =
        subst (λ xs. IsOfOne (λ x e. Why x e × only e) xs why) parts
        (refused_of Gives part (λ x e. Why x e × only e) (λ j e given. (given.1, given.2)) jobs first.before first.after why (subst (AllZip Gives jobs) first.is all))

    pub first_refused : (why : Refused) → IsFirstRefusal results why → ((why ≡ NoMemory) ⊎ IsOfOne runless items why) × only why
    first_refused why first =
        let one = first_of why first in
        (elim one.3.0 [ inl memory ↦ inl memory | inr of ↦ inr (one.0, one.1, one.2, of) ], one.3.1)
