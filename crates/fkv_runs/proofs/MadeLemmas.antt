-- Runs that are made one after the other, one a home of keys: of each list of pairs those of its home.
use Rattle.std.proofs.Common.{◌≡◌, ◌<◌, ℕ, zero, suc, inl, inr, Bool, true, false, cond, List, [], ◌∷◌, ◌++◌, filter, nat_eq, length, Option, Some, None, slice_get, refl, sym, ◌∙◌, ap, subst, arith}
use Rattle.std.proofs.lemmas.Bool.Decides.{nat_tests}
use Rattle.std.proofs.lemmas.List.Kept.{IsStrictlySortedBy-filter}
use Rattle.std.proofs.lemmas.Map.Entries.{lookup-filter-keys}
use Rattle.std.specs.BTreeMap.{is_at}
use Rattle.std.specs.Map.{lookup, keys_of}
use Rattle.std.specs.List.{AllByRecursion}
use Rattle.std.specs.List.Sorted.{IsStrictlySortedBy}
use Rattle.std.specs.Cmp.{IsTotalOrder}
use Rattle.std.specs.declared.cmp.Ordering.{Ordering}
use Rattle.fkv_functions.specs.Plain.{IsKeyOrder}
use Rattle.fkv_functions.proofs.ListLemmas.{get-append_cases}
use Rattle.fkv_runs.specs.Merging.{merged, AreHomed}
use Rattle.fkv_runs.proofs.HomeLemmas.{homed-more, lookup-home}
use Rattle.fkv_runs.proofs.RiseLemmas.{rises-all}

pub nat_eq-refl : (m n : ℕ) → m ≡ n → nat_eq m n ≡ true
nat_eq-refl m n e = grind (arith, nat_tests)

pub nat_eq-is : (m n : ℕ) → nat_eq m n ≡ true → m ≡ n
nat_eq-is m n e = grind (arith, nat_tests)

-- ---- those of a list of pairs whose key passes a test
module _ {K V : Type 0} (test : K → Bool) where
  abbrev pub Those : List (K × V) → List (K × V)
  Those xs = filter (λ pair. test pair.0) xs

  pub keys-those : (xs : List (K × V)) → keys_of (Those xs) ≡ filter test (keys_of xs)
  keys-those [] = refl
  keys-those (x ∷ xs) = by_test (test x.0) (keys-those xs)
    where
      by_test : (b : Bool) → keys_of (Those xs) ≡ filter test (keys_of xs) → keys_of (cond b (x ∷ Those xs) (Those xs)) ≡ cond b (x.0 ∷ filter test (keys_of xs)) (filter test (keys_of xs))
      by_test true e = ap (λ ks. x.0 ∷ ks) e
      by_test false e = e

  pub those-homed : (home : K → ℕ) (m : ℕ) → ((q : K) → test q ≡ true → home q ≡ m) → (xs : List (K × V)) → AllByRecursion (λ q. home q ≡ m) (keys_of (Those xs))
  those-homed home m h [] = tt
  those-homed home m h (x ∷ xs) = by_test (test x.0) refl (those-homed home m h xs)
    where
      by_test : (b : Bool) → test x.0 ≡ b → AllByRecursion (λ q. home q ≡ m) (keys_of (Those xs)) → AllByRecursion (λ q. home q ≡ m) (keys_of (cond b (x ∷ Those xs) (Those xs)))
      by_test true e all = (h x.0 e, all)
      by_test false e all = all

all-more : {X : Type 0} (P : X → Type 0) (xs : List X) (x : X) → AllByRecursion P xs → P x → AllByRecursion P (xs ++ x ∷ [])
all-more P [] x all one = (one, tt)
all-more P (y ∷ ys) x all one = (all.0, all-more P ys x all.1 one)

module _ {K V : Type 0} (cmp : K → K → Ordering) (test : K → Bool) where
  pub those-rise : (xs : List (K × V)) → IsStrictlySortedBy cmp (keys_of xs) → IsStrictlySortedBy cmp (keys_of (Those test xs))
  those-rise xs rising = subst (IsStrictlySortedBy cmp) (sym (keys-those test xs)) (IsStrictlySortedBy-filter cmp test (keys_of xs) rising)

  -- a key that passes has among them what it has among all
  pub those-lookup : IsKeyOrder cmp → (k : K) (xs : List (K × V)) → test k ≡ true → lookup (is_at (cmp k)) (Those test xs) ≡ lookup (is_at (cmp k)) xs
  those-lookup order k xs h = lookup-filter-keys (is_at (cmp k)) test true (λ q e. ap test (sym (order.same k q e)) ∙ h) xs

module _ {K V : Type 0} (cmp : K → K → Ordering) (home : K → ℕ) where
  -- the keys of each rise, and have its place for a home
  pub record AreRuns (xss : List (List (K × V))) : Type 0 where
    pub rising : AllByRecursion (λ xs. IsStrictlySortedBy cmp (keys_of xs)) xss
    pub homed : AreHomed home 0 xss

  -- a key is in the list of its home what it is in a map
  abbrev pub AreOf : (K → Option V) → List (List (K × V)) → Type 0
  AreOf m xss = (k : K) (xs : List (K × V)) → slice_get xss (home k) ≡ Some xs → lookup (is_at (cmp k)) xs ≡ m k

  pub no-runs : AreRuns []
  no-runs = record { rising = tt; homed = tt }

  pub none-of : (m : K → Option V) → AreOf m []
  none-of m k xs h = absurd (cc)

  -- one list more: of these pairs those whose home is the next place
  pub runs-more : (test : K → Bool) (xss : List (List (K × V))) (pairs : List (K × V)) → ((q : K) → test q ≡ true → home q ≡ length xss)
      → AreRuns xss → IsStrictlySortedBy cmp (keys_of pairs) → AreRuns (xss ++ Those test pairs ∷ [])
  runs-more test xss pairs at old rising = record {
    rising = all-more (λ xs. IsStrictlySortedBy cmp (keys_of xs)) xss (Those test pairs) old.rising (those-rise cmp test pairs rising);
    homed = homed-more home 0 (length xss) xss (Those test pairs) (omega arith) old.homed (those-homed test home (length xss) at pairs);
  }

  pub of-more : IsKeyOrder cmp → (test : K → Bool) (m : K → Option V) (xss : List (List (K × V))) (pairs : List (K × V)) → ((q : K) → home q ≡ length xss → test q ≡ true)
      → AreOf m xss → ((k : K) → home k ≡ length xss → lookup (is_at (cmp k)) pairs ≡ m k) → AreOf m (xss ++ Those test pairs ∷ [])
  of-more order test m xss pairs at old here k xs there = elim (get-append_cases xss (Those test pairs) (home k) xs there) [
    | inl a ↦ old k xs a
    | inr b ↦ ap (lookup (is_at (cmp k))) (sym b.1)
        ∙ those-lookup cmp test order k pairs (at k b.0)
        ∙ here k b.0
  ]

  -- all of them
  pub runs-rise : IsTotalOrder cmp → IsKeyOrder cmp → (xss : List (List (K × V))) → AreRuns xss → IsStrictlySortedBy cmp (keys_of (merged cmp xss))
  runs-rise total order xss h = rises-all cmp total order home xss 0 h.rising h.homed

  pub of-all : IsKeyOrder cmp → (m : K → Option V) (xss : List (List (K × V))) → AreRuns xss → AreOf m xss → (k : K) → home k < length xss
      → lookup (is_at (cmp k)) (merged cmp xss) ≡ m k
  of-all order m xss h of k low = by_get (slice_get xss (home k)) refl
    where
      by_get : (o : Option (List (K × V))) → slice_get xss (home k) ≡ o → lookup (is_at (cmp k)) (merged cmp xss) ≡ m k
      by_get None e = absurd (slice_get-none xss (home k) low e)
        where
          slice_get-none : {X : Type 0} (ys : List X) (i : ℕ) → i < length ys → slice_get ys i ≡ None → ⊥
          slice_get-none [] i l e = absurd (omega arith)
          slice_get-none (y ∷ ys) zero l e = absurd (cc)
          slice_get-none (y ∷ ys) (suc i) l e = slice_get-none ys i (omega arith) e
      by_get (Some xs) e = lookup-home home cmp order k (home k) xss xs h.homed refl e ∙ of k xs e
