-- The runs of a store's lists, which come from its last partition to its first.
use Rattle.std.proofs.Common.{◌≡◌, ◌<◌, ◌+◌, ◌-◌, ◌%◌, ℕ, Bool, List, [], ◌∷◌, ◌++◌, filter, nat_eq, length, take, refl, sym, ◌∙◌, ap, subst, IsTrue, length-append, zero, suc, arith}
use Rattle.std.proofs.Math.Nat.{mod-lt}
use Rattle.std.specs.BTreeMap.{is_at}
use Rattle.std.specs.Map.{lookup, keys_of}
use Rattle.std.specs.List.Sorted.{IsStrictlySortedBy}
use Rattle.fkv_functions.specs.Names.{name_cmp, same_names, name_ties, name_exact, name_total}
use Rattle.fkv_functions.specs.declared.names.Name.{Name}
use Rattle.fkv_functions.specs.Plain.{IsKeyOrder}
use Rattle.fkv_functions.proofs.KeyOrder.{key_order}
use Rattle.fkv_local.specs.Listing.{ListsView, IsNextList, behind_next, left}
use Rattle.fkv_runs.specs.Merging.{merged}
use Rattle.fkv_runs.proofs.MadeLemmas.{nat_eq-refl, nat_eq-is, AreRuns, AreOf, no-runs, none-of, runs-more, of-more, runs-rise, of-all}

order : IsKeyOrder name_cmp
order = key_order same_names name_cmp name_ties name_exact name_total

-- the run of a list, by what is known of the lists before and after
pub next-run : {V I P : Type 0} (code : Name → ℕ) (old new : ListsView Name V I P) (len count : ℕ) (entries run : List (Name × V)) → new ≡ behind_next old → len ≡ length new.parts → count ≡ new.count
    → run ≡ filter (λ pair. nat_eq (code pair.0 % count) len) entries → run ≡ filter (λ pair. nat_eq (code pair.0 % old.count) (length new.parts)) entries
next-run {V = V} {I = I} {P = P} code old new len count entries run e l c is =
    is
    ∙ ap (λ n. filter (λ pair. nat_eq (code pair.0 % n) len) entries) (c ∙ ap (λ (v : ListsView Name V I P). v.count) e)
    ∙ ap (λ n. filter (λ pair. nat_eq (code pair.0 % old.count) n) entries) l

module _ {V I P : Type 0} (keeps : Bool) (code : Name → ℕ) (all : ListsView Name V I P) where
  -- the place of a key's run: the last partition's is the first
  abbrev pub run_home : Name → ℕ
  run_home k = all.count - 1 - code k % all.count

  -- so many runs are made, and these lists are left: the runs have what was to be listed, and the rest is left
  pub record AreRunsOf (now : ListsView Name V I P) (runs : List (List (Name × V))) : Type 0 where
    pub count : now.count ≡ all.count
    pub sized : length runs + length now.parts ≡ all.count
    pub homed : AreRuns name_cmp run_home runs
    pub of : IsTrue keeps → AreOf name_cmp run_home (left name_cmp code all) runs
    pub rest : IsTrue keeps → (k : Name) → code k % all.count < length now.parts → left name_cmp code now k ≡ left name_cmp code all k

  pub none-made : length all.parts ≡ all.count → AreRunsOf all []
  none-made e = record {
    count = refl;
    sized = omega arith;
    homed = no-runs name_cmp run_home;
    of = λ kept. none-of name_cmp run_home (left name_cmp code all);
    rest = λ kept k low. refl;
  }

  one-made : (now new : ListsView Name V I P) (runs : List (List (Name × V))) (pairs : List (Name × V)) → 0 < length now.parts → new ≡ behind_next now
      → IsStrictlySortedBy name_cmp (keys_of pairs) → (IsTrue keeps → IsNextList name_cmp code now new (λ k. lookup (is_at (name_cmp k)) pairs)) → AreRunsOf now runs
      → (new.count ≡ now.count) × (length new.parts + 1 ≡ length now.parts)
      → AreRunsOf new (runs ++ filter (λ pair. nat_eq (code pair.0 % all.count) (length new.parts)) pairs ∷ [])
  one-made now new runs pairs some e rising list h shape = record {
    count = shape.0 ∙ h.count;
    sized = (let s = h.sized in let t = shape.1 in omega (arith, length-append runs (filter (λ pair. nat_eq (code pair.0 % all.count) (length new.parts)) pairs ∷ [])));
    homed = runs-more name_cmp run_home (λ q. nat_eq (code q % all.count) (length new.parts)) runs pairs
        (λ q t. (let is = nat_eq-is (code q % all.count) (length new.parts) t in let s = h.sized in let u = shape.1 in omega arith)) h.homed rising;
    of = λ kept. of-more name_cmp run_home order (λ q. nat_eq (code q % all.count) (length new.parts)) (left name_cmp code all) runs pairs
        (λ q t. nat_eq-refl (code q % all.count) (length new.parts) (at q t)) (h.of kept)
        (λ k t. (list kept).own k (ap (λ n. code k % n) h.count ∙ at k t) ∙ h.rest kept k (let i = at k t in let u = shape.1 in omega arith));
    rest = λ kept k low. (list kept).others k (λ t. (let u : code k % all.count ≡ length new.parts = sym (ap (λ n. code k % n) h.count) ∙ t in omega arith))
        ∙ h.rest kept k (let u = shape.1 in omega arith);
  }
    where
      at : (q : Name) → run_home q ≡ length runs → code q % all.count ≡ length new.parts
      at q t = (let s = h.sized in let u = shape.1 in let low : code q % all.count < all.count = mod-lt (code q) (let z : 0 < all.count = omega arith in z) in omega arith)

  pub made-more : (now new : ListsView Name V I P) (runs : List (List (Name × V))) (pairs : List (Name × V)) → 0 < length now.parts → new ≡ behind_next now
      → IsStrictlySortedBy name_cmp (keys_of pairs) → (IsTrue keeps → IsNextList name_cmp code now new (λ k. lookup (is_at (name_cmp k)) pairs)) → AreRunsOf now runs
      → AreRunsOf new (runs ++ filter (λ pair. nat_eq (code pair.0 % now.count) (length new.parts)) pairs ∷ [])
  made-more now new runs pairs some e rising list h =
      subst (λ n. AreRunsOf new (runs ++ filter (λ pair. nat_eq (code pair.0 % n) (length new.parts)) pairs ∷ [])) (sym h.count)
      (one-made now new runs pairs some e rising list h (ap (λ (l : ListsView Name V I P). l.count) e, shorter))
    where
      front : {A : Type 0} (xs : List A) (n : ℕ) → length xs ≡ n + 1 → length (take n xs) + 1 ≡ length xs
      front [] n l = absurd (omega arith)
      front (x ∷ xs) zero l = (let t : length (x ∷ xs) ≡ 1 = l in sym t)
      front (x ∷ xs) (suc n) l = (let r = front xs n (omega arith) in omega arith)

      shorter : length new.parts + 1 ≡ length now.parts
      shorter = ap (λ (l : ListsView Name V I P). length l.parts + 1) e ∙ front now.parts (length now.parts - 1) (omega arith)

  pub made-rise : (now : ListsView Name V I P) (runs : List (List (Name × V))) → AreRunsOf now runs → IsStrictlySortedBy name_cmp (keys_of (merged name_cmp runs))
  made-rise now runs h = runs-rise name_cmp run_home name_total order runs h.homed

  pub made-all : (now : ListsView Name V I P) (runs : List (List (Name × V))) → 0 < all.count → length now.parts ≡ 0 → AreRunsOf now runs → IsTrue keeps
      → (k : Name) → lookup (is_at (name_cmp k)) (merged name_cmp runs) ≡ left name_cmp code all k
  made-all now runs some none h kept k = of-all name_cmp run_home order (left name_cmp code all) runs h.homed (h.of kept) k (let s = h.sized in omega arith)
