-- Lists that are merged in groups first are the same list as one.
use Rattle.std.proofs.Common.{◌≡◌, Bool, true, false, cond, List, [], ◌∷◌, ◌++◌, append_assoc, refl, sym, ◌∙◌, ap}
use Rattle.std.specs.Ordering.{is_gt, ordering_reverse}
use Rattle.std.specs.Cmp.{IsTotalOrder}
use Rattle.std.specs.declared.cmp.Ordering.{Ordering}
use Rattle.std.specs.declared.cmp.Ordering.TheVariants.{Less, Equal, Greater}
use Rattle.fkv_runs.specs.Merging.{merged_two, merged}
use Rattle.fkv_runs.proofs.MergeLemmas.{merged_nil}

module _ {K : Type 0} (cmp : K → K → Ordering) (o : IsTotalOrder cmp) where
  later : (k q : K) → is_gt (cmp k q) ≡ true → cmp q k ≡ Less
  later k q e = o.antisymm q k ∙ ap ordering_reverse (greater (cmp k q) e)
    where
      greater : (r : Ordering) → is_gt r ≡ true → r ≡ Greater
      greater Less e = absurd (cc)
      greater Equal e = absurd (cc)
      greater Greater e = refl

  before : (k q : K) → cmp k q ≡ Less → is_gt (cmp q k) ≡ true
  before k q e = ap is_gt (o.antisymm q k ∙ ap ordering_reverse e)

  -- of three keys of which each is greater than the next one the first is greater than the last
  greater-all : (x y z : K) → is_gt (cmp x y) ≡ true → is_gt (cmp y z) ≡ true → is_gt (cmp x z) ≡ true
  greater-all x y z a b = before z x (o.trans z y x (later y z b) (later x y a))

  -- what is not less than a key is greater than all that this is greater than
  greater-since : (x y z : K) → is_gt (cmp x y) ≡ false → is_gt (cmp x z) ≡ true → is_gt (cmp y z) ≡ true
  greater-since x y z a b = by_case (cmp x y) refl
    where
      by_case : (r : Ordering) → cmp x y ≡ r → is_gt (cmp y z) ≡ true
      by_case Less h = before z y (o.trans z x y (later x z b) h)
      by_case Equal h = ap is_gt (sym (o.congr x y z h)) ∙ b
      by_case Greater h = absurd (cc)

module _ {K V : Type 0} (cmp : K → K → Ordering) where
  two-greater : (x : K × V) (xs : List (K × V)) (y : K × V) (ys : List (K × V)) → is_gt (cmp x.0 y.0) ≡ true
      → merged_two cmp (x ∷ xs) (y ∷ ys) ≡ y ∷ merged_two cmp (x ∷ xs) ys
  two-greater x xs y ys e = ap (λ b. cond b (y ∷ merged_two cmp (x ∷ xs) ys) (x ∷ merged_two cmp xs (y ∷ ys))) e

  two-first : (x : K × V) (xs : List (K × V)) (y : K × V) (ys : List (K × V)) → is_gt (cmp x.0 y.0) ≡ false
      → merged_two cmp (x ∷ xs) (y ∷ ys) ≡ x ∷ merged_two cmp xs (y ∷ ys)
  two-first x xs y ys e = ap (λ b. cond b (y ∷ merged_two cmp (x ∷ xs) ys) (x ∷ merged_two cmp xs (y ∷ ys))) e

  first-on : (x : K × V) (xs : List (K × V)) (y : K × V) (ys zs : List (K × V)) → zs ≡ y ∷ ys → is_gt (cmp x.0 y.0) ≡ false
      → merged_two cmp (x ∷ xs) zs ≡ x ∷ merged_two cmp xs zs
  first-on x xs y ys zs is e = ap (merged_two cmp (x ∷ xs)) is ∙ (two-first x xs y ys e ∙ ap (λ l. x ∷ merged_two cmp xs l) (sym is))

module _ {K V : Type 0} (cmp : K → K → Ordering) (o : IsTotalOrder cmp) where
  abbrev IsOne : List (K × V) → List (K × V) → List (K × V) → Type 0
  IsOne xs ys zs = merged_two cmp (merged_two cmp xs ys) zs ≡ merged_two cmp xs (merged_two cmp ys zs)

  module _ (x : K × V) (xs : List (K × V)) (y : K × V) (ys : List (K × V)) (less-x : (ps qs : List (K × V)) → IsOne xs ps qs) (less-y : (qs : List (K × V)) → IsOne (x ∷ xs) ys qs) where
    module _ (z : K × V) (zs : List (K × V)) (less-z : IsOne (x ∷ xs) (y ∷ ys) zs) where
      -- the last list gives the first pair of all
      last-first : merged_two cmp (merged_two cmp (x ∷ xs) (y ∷ ys)) (z ∷ zs) ≡ z ∷ merged_two cmp (merged_two cmp (x ∷ xs) (y ∷ ys)) zs
          → is_gt (cmp x.0 z.0) ≡ true
          → is_gt (cmp y.0 z.0) ≡ true
          → IsOne (x ∷ xs) (y ∷ ys) (z ∷ zs)
      last-first left a b = left
          ∙ (ap (λ l. z ∷ l) less-z ∙ sym (ap (merged_two cmp (x ∷ xs)) (two-greater cmp y ys z zs b) ∙ two-greater cmp x xs z (merged_two cmp (y ∷ ys) zs) a))

      by_order : (a b c : Bool) → is_gt (cmp x.0 y.0) ≡ a → is_gt (cmp y.0 z.0) ≡ b → is_gt (cmp x.0 z.0) ≡ c → IsOne (x ∷ xs) (y ∷ ys) (z ∷ zs)
      by_order true true c f g h =
          last-first
          (ap (λ l. merged_two cmp l (z ∷ zs)) (two-greater cmp x xs y ys f)
          ∙ (two-greater cmp y (merged_two cmp (x ∷ xs) ys) z zs g ∙ ap (λ l. z ∷ merged_two cmp l zs) (sym (two-greater cmp x xs y ys f))))
          (greater-all cmp o x.0 y.0 z.0 f g) g
      by_order true false c f g h = ap (λ l. merged_two cmp l (z ∷ zs)) (two-greater cmp x xs y ys f)
          ∙ (two-first cmp y (merged_two cmp (x ∷ xs) ys) z zs g
          ∙ (ap (λ l. y ∷ l) (less-y (z ∷ zs)) ∙ sym (ap (merged_two cmp (x ∷ xs)) (two-first cmp y ys z zs g) ∙ two-greater cmp x xs y (merged_two cmp ys (z ∷ zs)) f)))
      by_order false b true f g h =
          last-first
          (ap (λ l. merged_two cmp l (z ∷ zs)) (two-first cmp x xs y ys f)
          ∙ (two-greater cmp x (merged_two cmp xs (y ∷ ys)) z zs h ∙ ap (λ l. z ∷ merged_two cmp l zs) (sym (two-first cmp x xs y ys f))))
          h (greater-since cmp o x.0 y.0 z.0 f h)
      by_order false true false f g h = ap (λ l. merged_two cmp l (z ∷ zs)) (two-first cmp x xs y ys f)
          ∙ (two-first cmp x (merged_two cmp xs (y ∷ ys)) z zs h
          ∙ (ap (λ l. x ∷ l) (less-x (y ∷ ys) (z ∷ zs)) ∙ sym (first-on cmp x xs z (merged_two cmp (y ∷ ys) zs) (merged_two cmp (y ∷ ys) (z ∷ zs)) (two-greater cmp y ys z zs g) h)))
      by_order false false false f g h = ap (λ l. merged_two cmp l (z ∷ zs)) (two-first cmp x xs y ys f)
          ∙ (two-first cmp x (merged_two cmp xs (y ∷ ys)) z zs h
          ∙ (ap (λ l. x ∷ l) (less-x (y ∷ ys) (z ∷ zs)) ∙ sym (first-on cmp x xs y (merged_two cmp ys (z ∷ zs)) (merged_two cmp (y ∷ ys) (z ∷ zs)) (two-first cmp y ys z zs g) f)))

    along-last : (zs : List (K × V)) → IsOne (x ∷ xs) (y ∷ ys) zs
    along-last [] = merged_nil cmp (merged_two cmp (x ∷ xs) (y ∷ ys))
    along-last (z ∷ zs) = by_order z zs (along-last zs) (is_gt (cmp x.0 y.0)) (is_gt (cmp y.0 z.0)) (is_gt (cmp x.0 z.0)) refl refl refl

  along-second : (x : K × V) (xs : List (K × V)) → ((ps qs : List (K × V)) → IsOne xs ps qs) → (ys zs : List (K × V)) → IsOne (x ∷ xs) ys zs
  along-second x xs less-x [] zs = refl
  along-second x xs less-x (y ∷ ys) zs = along-last x xs y ys less-x (λ qs. along-second x xs less-x ys qs) zs

  -- of three lists it does not matter which two are merged first
  pub merged-three : (xs ys zs : List (K × V)) → IsOne xs ys zs
  merged-three [] ys zs = refl
  merged-three (x ∷ xs) ys zs = along-second x xs (λ ps qs. merged-three xs ps qs) ys zs

  pub merged-append : (xss yss : List (List (K × V))) → merged cmp (xss ++ yss) ≡ merged_two cmp (merged cmp xss) (merged cmp yss)
  merged-append [] yss = refl
  merged-append (xs ∷ xss) yss = ap (merged_two cmp xs) (merged-append xss yss) ∙ sym (merged-three xs (merged cmp xss) (merged cmp yss))

  -- a group that is merged first
  pub merged-group : (xss group : List (List (K × V))) → merged cmp (xss ++ merged cmp group ∷ []) ≡ merged cmp (xss ++ group)
  merged-group xss group = merged-append xss (merged cmp group ∷ [])
      ∙ (ap (merged_two cmp (merged cmp xss)) (merged_nil cmp (merged cmp group)) ∙ sym (merged-append xss group))

  -- a group that is merged, with others behind it
  pub merged-split : (xss group behind : List (List (K × V))) (one : List (K × V)) → one ≡ merged cmp group
      → merged cmp ((xss ++ one ∷ []) ++ behind) ≡ merged cmp (xss ++ (group ++ behind))
  merged-split xss group behind one is =
      ap (merged cmp) (append_assoc xss (one ∷ []) behind)
      ∙ (merged-append xss (one ∷ behind)
      ∙ (ap (λ l. merged_two cmp (merged cmp xss) (merged_two cmp l (merged cmp behind))) is
      ∙ (ap (merged_two cmp (merged cmp xss)) (sym (merged-append group behind)) ∙ sym (merged-append xss (group ++ behind)))))
