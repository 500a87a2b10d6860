-- What the definitions refuse.
use Rattle.std.proofs.Common.{◌≡◌, ℕ, true, cond, List, [], ◌∷◌, Option, Some, None, slice_get, refl, ap, arith}
use Rattle.std.specs.Ordering.{nat_cmp}
use Rattle.std.specs.Cmp.{nat_cmp_total, eq_by_cmp_equiv}
use Rattle.std.specs.BTreeMap.{is_at}
use Rattle.fkv_operations.specs.After.{after_update}
use Rattle.fkv_lives.specs.Histories.{IssuedOp}
use Rattle.fkv_lives.specs.WrongLives.{RefusesInvented, CountsOnce, RefusesSharedSteps, RefusesOtherTimes, RefusesEarlyUpdates, RefusesUnowned, RefusesUnissued, ReadsIssues, RefusesUnasked, RefusesCrossed, ReadsOwners}

itself : (k : ℕ) → is_at (nat_cmp k) k ≡ true
itself k = (eq_by_cmp_equiv nat_cmp_total).refl k

-- one update, from no value
once : (k : ℕ) (o : Option ℕ) → after_update nat_cmp (λ q. None) k o k ≡ o
once k None = refl
once k (Some v) = ap (λ t. cond t (Some v) None) (itself k)

pub refuses_invented : RefusesInvented
refuses_invented f k i v now a = (λ p. p.answers 0 _ _ refl refl, λ p. p.answers 0 _ _ refl refl, λ p. p.answers 0 _ _ refl refl, λ p. p.answers 0 _ _ refl refl, λ p. p.answers 0 _ _ refl refl, λ p. p.answers 0 _ _ refl refl)

pub counts_once : CountsOnce
counts_once f k i v a b = (
  refl,
  once k (f.first k i),
  once k (f.first k i),
  once k (f.first k i),
  refl,
  ap (λ t. cond t (Some v) None) (itself k),
  ap (λ t. cond t None (cond (is_at (nat_cmp k) k) (Some v) None)) (itself k),
)

pub refuses_shared_steps : RefusesSharedSteps
refuses_shared_steps f p q i j d e s now a b h =
    let same : ◌≡◌ {A = ℕ} 0 1 = h.alone 0 1 _ _ _ _ refl refl refl refl refl in
    absurd (omega arith)

pub refuses_other_times : RefusesOtherTimes
refuses_other_times f op issue effect done now a h =
    let t = h.timely 0 _ _ refl refl in
    (t.later, t.within, t.past)

pub refuses_early_updates : RefusesEarlyUpdates
refuses_early_updates f op issue effect done now a update h = (h.timely 0 _ _ refl refl).update update

none-there : {A : Type 0} (j : ℕ) (x : A) → slice_get [] j ≡ Some x → ⊥
none-there j x h = absurd (cc)

pub refuses_unowned : RefusesUnowned
refuses_unowned before now a h = let w = h.owned 1 a refl in none-there w.0 w.1 w.3

pub refuses_unissued : RefusesUnissued
refuses_unissued before now x h = let e = h.issued in absurd (cc)

pub reads_issues : ReadsIssues
reads_issues p q = refl

heads : {A : Type 0} (x y : A) (xs ys : List A) → x ∷ xs ≡ y ∷ ys → x ≡ y
heads x y xs ys h = cc

pub refuses_unasked : RefusesUnasked
refuses_unasked p q h = ap (λ (z : IssuedOp ℕ ℕ ℕ). z.op) (heads _ _ _ _ h)

pub refuses_crossed : RefusesCrossed
refuses_crossed k q v now h = let e : ◌≡◌ {A = Option ℕ} (Some 3) (Some 2) = h.own 0 _ _ refl refl in absurd (cc)

pub reads_owners : ReadsOwners
reads_owners p q r a b c h is = rw is (refl, refl, refl)
