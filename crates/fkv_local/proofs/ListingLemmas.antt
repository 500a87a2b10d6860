-- Lists of live pairs, a partition at a time, and the readers that they need.
use Rattle.std.proofs.Common.{◌≡◌, ◌≢◌, ◌+◌, ◌-◌, ℕ, zero, suc, Bool, List, [], ◌∷◌, length, map, take, drop, Some, None, slice_get, slice_set, refl, sym, ◌∙◌, ap, subst, arith}
use Rattle.std.proofs.lemmas.List.{take-map, take-set, length-map, length-set}
use Rattle.std.specs.declared.cmp.Ordering.{Ordering}
use Rattle.fkv_functions.specs.Plain.{PlainMap}
use Rattle.fkv_functions.specs.declared.refusals.Refused.{Refused}
use Rattle.fkv_functions.proofs.ListLemmas.{get-set_same}
use Rattle.fkv_hybrid.specs.Scans.{IsScanRefusal}
use Rattle.fkv_records.specs.Places.{page_at}
use Rattle.fkv_partition.specs.Views.{partition_of, live_of, PartitionView}
use Rattle.fkv_partition.specs.Unions.{live_at}
use Rattle.fkv_local.specs.Listing.{ListsView, AreLeft, IsNextList, IsUnlistedAt, behind_next}
use Rattle.fkv_local.specs.Resting.{AreAtRest}
use Rattle.fkv_local.proofs.PartLemmas.{view-get, view-set, view-same}

-- ---- what is behind a place
dropped-one : {A : Type 0} (xs : List A) (i : ℕ) → drop (suc i) xs ≡ drop 1 (drop i xs)
dropped-one [] zero = refl
dropped-one [] (suc i) = refl
dropped-one (x ∷ xs) zero = refl
dropped-one (x ∷ xs) (suc i) = dropped-one xs i

set-dropped : {A : Type 0} (xs : List A) (i : ℕ) (y : A) → drop (suc i) (slice_set xs i y) ≡ drop (suc i) xs
set-dropped [] i y = refl
set-dropped (x ∷ xs) zero y = refl
set-dropped (x ∷ xs) (suc i) y = set-dropped xs i y

first-dropped : {A : Type 0} (xs : List A) (i : ℕ) → slice_get xs i ≡ slice_get (drop i xs) 0
first-dropped [] zero = refl
first-dropped [] (suc i) = refl
first-dropped (x ∷ xs) zero = refl
first-dropped (x ∷ xs) (suc i) = first-dropped xs i

-- ---- readers, of which those from a place on are as they were, and those before it count what they did
module _ {P : Type 0} (reads : P → ℕ) (old now : List P) (i : ℕ) (r r_now : P) (counts : map reads now ≡ map reads old) (behind : drop i now ≡ drop i old) (here : slice_get now i ≡ Some r) where
  pub reader-was : slice_get old i ≡ Some r
  reader-was = first-dropped old i ∙ ap (λ zs. slice_get zs 0) (sym behind) ∙ sym (first-dropped now i) ∙ here

  pub readers-behind : drop (suc i) (slice_set now i r_now) ≡ drop (suc i) old
  readers-behind = set-dropped now i r_now ∙ dropped-one now i ∙ ap (drop 1) behind ∙ sym (dropped-one old i)

  pub readers-before : map reads (take i (slice_set now i r_now)) ≡ map reads (take i old)
  readers-before = ap (map reads) (take-set now i r_now) ∙ sym (take-map reads i now) ∙ ap (take i) counts ∙ take-map reads i old

  pub readers-counted : reads r_now ≡ reads r → map reads (slice_set now i r_now) ≡ map reads old
  readers-counted e = view-same reads now i r r_now here e ∙ counts

  pub unlisted-here : {K V I : Type 0} (keeps : Bool) (parts : List (PartitionView K V I)) (v : PartitionView K V I) (why : Refused) → slice_get parts i ≡ Some v
      → IsScanRefusal keeps (page_at v.records.log.bits v.records.log.begin) (length v.records.log.receipts) (reads r) (reads r_now) why
      → IsUnlistedAt keeps reads parts old (slice_set now i r_now) i why
  unlisted-here keeps parts v why at refused = record {
    view = v;
    here = at;
    reader = r;
    was = reader-was;
    reader_now = r_now;
    now = get-set_same now i r r_now here;
    before = readers-before;
    behind = readers-behind;
    refused = refused;
  }

-- ---- the lists of a store
module _ {K V I : Type 0} (views : List (PartitionView K V I)) where
  pub rest-left : (now : ℕ) → AreAtRest views now → AreLeft views (length views)
  rest-left now rest = record { some = rest.some; numbered = rest.numbered; counted = rest.counted }

  get-front : {A : Type 0} (xs : List A) (n p : ℕ) (x : A) → slice_get (take n xs) p ≡ Some x → slice_get xs p ≡ Some x
  get-front [] zero p x h = h
  get-front [] (suc n) p x h = h
  get-front (y ∷ ys) zero p x h = absurd (cc)
  get-front (y ∷ ys) (suc n) zero x h = h
  get-front (y ∷ ys) (suc n) (suc p) x h = get-front ys n p x h

  pub front-left : (n count : ℕ) → AreLeft views count → AreLeft (take n views) count
  front-left n count h = record {
    some = h.some;
    numbered = λ p v e. h.numbered p v (get-front views n p v e);
    counted = λ p v e. h.counted p v (get-front views n p v e);
  }

-- all but the last
get-but_last : {A : Type 0} (xs : List A) (n p : ℕ) → length xs ≡ n + 1 → p ≢ n → slice_get (take n xs) p ≡ slice_get xs p
get-but_last [] n p e other = absurd (omega arith)
get-but_last (x ∷ []) zero zero e other = absurd (other refl)
get-but_last (x ∷ []) zero (suc p) e other = refl
get-but_last (x ∷ y ∷ ys) zero p e other = absurd (omega arith)
get-but_last (x ∷ xs) (suc n) zero e other = refl
get-but_last (x ∷ xs) (suc n) (suc p) e other = get-but_last xs n p (omega arith) (λ t. other (ap suc t))

module _ {K V I P : Type 0} (cmp : K → K → Ordering) (code : K → ℕ) (l new : ListsView K V I P) (last : ℕ) (v : PartitionView K V I) (list : PlainMap K V) where
  pub next-list : AreLeft l.parts l.count → length l.parts ≡ last + 1 → slice_get l.parts last ≡ Some v → new.parts ≡ take last l.parts → new.count ≡ l.count
      → ((k : K) → list k ≡ live_of cmp v k)
      → ((k : K) → partition_of v.count (code k) ≢ v.number → list k ≡ None)
      → IsNextList cmp code l new list
  next-list h sized here parts count live none = record {
    own = λ k e. live k ∙ sym (ap (λ p. live_at cmp (slice_get l.parts p) k) (e ∙ long) ∙ ap (λ o. live_at cmp o k) here);
    none = λ k n. none k (λ t. n (sym (ap (λ c. partition_of c (code k)) (h.counted last v here)) ∙ t ∙ h.numbered last v here ∙ sym long));
    others = λ k n. ap (λ c. live_at cmp (slice_get new.parts (partition_of c (code k))) k) count
        ∙ ap (λ ps. live_at cmp (slice_get ps (partition_of l.count (code k))) k) parts
        ∙ ap (λ o. live_at cmp o k) (get-but_last l.parts last (partition_of l.count (code k)) sized (λ t. n (t ∙ sym long)));
  }
    where
      long-front : {A : Type 0} (xs : List A) (n : ℕ) → length xs ≡ n + 1 → length (take n xs) ≡ n
      long-front [] n e = absurd (omega arith)
      long-front (x ∷ xs) zero e = refl
      long-front (x ∷ xs) (suc n) e = ap suc (long-front xs n (omega arith))

      long : length new.parts ≡ last
      long = ap length parts ∙ long-front l.parts last sized

-- ---- lists of partitions that stand with their readers
module _ {S K V I P : Type 0} (part : S → PartitionView K V I) (reader : S → P) (count : ℕ) where
  abbrev pub listed : List S → ListsView K V I P
  listed xs = record { parts = map part xs; readers = map reader xs; count = count }

  pub front-view : (items : List S) (n : ℕ) (ys : List S) → n ≡ length items - 1 → ys ≡ take n items → listed ys ≡ behind_next (listed items)
  front-view items n ys last e =
      ap listed e
      ∙ ap (λ ps. record { parts = ps; readers = map reader (take n items); count = count }) (sym (take-map part n items))
      ∙ ap (λ rs. record { parts = take n (map part items); readers = rs; count = count }) (sym (take-map reader n items))
      ∙ ap (λ m. record { parts = take m (map part items); readers = take m (map reader items); count = count }) (last ∙ ap (λ m. m - 1) (sym (length-map items part)))

  pub front-left_of : (items : List S) (n : ℕ) (ys : List S) → ys ≡ take n items → AreLeft (map part items) count → AreLeft (map part ys) count
  front-left_of items n ys e h = subst (λ vs. AreLeft vs count) (sym (ap (map part) e ∙ sym (take-map part n items))) (front-left (map part items) n count h)

  -- one of them has read
  module _ (items : List S) (n : ℕ) (x y : S) (here : slice_get items n ≡ Some x) (same : part y ≡ part x) where
    pub read-view : (old : ListsView K V I P) → listed items ≡ old → listed (slice_set items n y) ≡ record old { readers = map reader (slice_set items n y) }
    read-view old e =
        ap (λ ps. record { parts = ps; readers = map reader (slice_set items n y); count = count }) (view-same part items n x y here same)
        ∙ ap (λ (l : ListsView K V I P). record l { readers = map reader (slice_set items n y) }) e

    pub read-left : AreLeft (map part items) count → AreLeft (map part (slice_set items n y)) count
    read-left h = subst (λ vs. AreLeft vs count) (sym (view-same part items n x y here same)) h

    pub read-rest : n ≡ length items - 1 → behind_next (listed (slice_set items n y)) ≡ behind_next (listed items)
    read-rest last =
        sym (front-view (slice_set items n y) n (take n (slice_set items n y)) (last ∙ ap (λ m. m - 1) (sym (length-set items n y))) refl)
        ∙ ap listed (take-set items n y)
        ∙ front-view items n (take n items) last refl

    pub read-unlisted : (keeps : Bool) (reads : P → ℕ) (why : Refused) → n ≡ length items - 1
        → IsScanRefusal keeps (page_at (part x).records.log.bits (part x).records.log.begin) (length (part x).records.log.receipts) (reads (reader x)) (reads (reader y)) why
        → IsUnlistedAt keeps reads (listed items).parts (listed items).readers (map reader (slice_set items n y)) (length (listed items).parts - 1) why
    read-unlisted keeps reads why last refused =
        subst (λ rs. IsUnlistedAt keeps reads (map part items) (map reader items) rs (length (map part items) - 1) why) (sym (view-set reader items n y))
        (subst (λ m. IsUnlistedAt keeps reads (map part items) (map reader items) (slice_set (map reader items) n (reader y)) m why) (last ∙ ap (λ m. m - 1) (sym (length-map items part)))
        (unlisted-here reads (map reader items) (map reader items) n (reader x) (reader y) refl refl (view-get reader items n x here) keeps (map part items) (part x) why (view-get part items n x here) refused))

  -- the last has gone
  module _ (cmp : K → K → Ordering) (code : K → ℕ) (items : List S) (n : ℕ) (x : S) (ys : List S) (list : PlainMap K V) where
    pub gone-list : AreLeft (map part items) count → length items ≡ n + 1 → slice_get items n ≡ Some x → ys ≡ take n items
        → ((k : K) → list k ≡ live_of cmp (part x) k)
        → ((k : K) → partition_of (part x).count (code k) ≢ (part x).number → list k ≡ None)
        → IsNextList cmp code (listed items) (listed ys) list
    gone-list h long here e live none =
        next-list cmp code (listed items) (listed ys) n (part x) list h (length-map items part ∙ long) (view-get part items n x here) (ap (map part) e ∙ sym (take-map part n items)) refl live none
