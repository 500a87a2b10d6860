-- Results that are told apart, and moments that have come.
use Rattle.std.proofs.Common.{◌≡◌, ◌≢◌, ◌<◌, ◌≤◌, ℕ, Bool, true, false, not, Option, Some, None, is_some, IsSome, refl, ap, subst, sym, arith}
use Rattle.std.specs.Prelude.{Result, Ok, Err, IfOk, IfSome}
use Rattle.fkv_operations.specs.declared.operations.Answer.{Answer}
use Rattle.fkv_partition.specs.declared.contexts.Progress.{Progress}
use Rattle.fkv_partition.specs.declared.contexts.Progress.TheVariants.{Done, Next, NeedsLoad, Waits}
use Rattle.fkv_partition.specs.declared.contexts.Wait.{Wait}
use Rattle.fkv_partition.specs.Views.{PartitionView}

-- a refusal is no answer, and one answer is not another
pub err-ok : {T E P : Type 0} {why : E} {x : T} → Err why ≡ Ok x → P
err-ok h = absurd (cc)

pub none-some : {A E P : Type 0} {x : A} → ◌≡◌ {A = Result (Option A) E} (Ok None) (Ok (Some x)) → P
none-some h = absurd (cc)

pub nothing-some : {A P : Type 0} {x : A} → None ≡ Some x → P
nothing-some h = absurd (cc)

pub next-done : {K V I O R E P : Type 0} {a : Answer O} {now : ℕ} → ◌≡◌ {A = Result (Progress K V I O R) E} (Ok Next) (Ok (Done a now)) → P
next-done h = absurd (cc)

pub waits-done : {K V I O R E P : Type 0} {w : Wait} {a : Answer O} {now : ℕ} → ◌≡◌ {A = Result (Progress K V I O R) E} (Ok (Waits w)) (Ok (Done a now)) → P
waits-done h = absurd (cc)

pub loads-done : {K V I O R E P : Type 0} {r : R} {wanted : ℕ} {a : Answer O} {now : ℕ} → ◌≡◌ {A = Result (Progress K V I O R) E} (Ok (NeedsLoad r wanted)) (Ok (Done a now)) → P
loads-done h = absurd (cc)

pub err-as : {A B E : Type 0} {x y : E} → ◌≡◌ {A = Result A E} (Err x) (Err y) → ◌≡◌ {A = Result B E} (Err x) (Err y)
err-as {x = x} {y = y} h = let same : x ≡ y = cc in ap Err same

-- what is said of something that is there
pub some-at : {A P : Type 0} {o : Option A} {x : A} → o ≡ Some x → IfSome o (λ _. P) → P
some-at {P = P} is h = subst (λ o. IfSome o (λ _. P)) is h

pub some-all : {A P : Type 0} (o : Option A) → P → IfSome o (λ _. P)
some-all None p = tt
some-all (Some x) p = p

pub ok-all : {T E P : Type 0} (r : Result T E) → P → IfOk r (λ _. P)
ok-all (Ok x) p = p
ok-all (Err e) p = tt

-- nothing is there
pub none-held : {A P : Type 0} (o : Option A) → o ≡ None → IsSome o → P
none-held None is some = absurd (cc)
none-held (Some x) is some = absurd (cc)

-- whether there is nothing
pub none-by : {A : Type 0} (o : Option A) {b : Bool} → is_some o ≡ not b → b ≡ true → o ≡ None
none-by None is t = refl
none-by (Some x) is t = absurd (cc)

pub some-by : {A : Type 0} (o : Option A) {b : Bool} → is_some o ≡ not b → b ≡ false → o ≢ None
some-by None is t none = cc
some-by (Some x) is t none = cc

-- what lies before a moment is no later than it
pub no-later : {a b : ℕ} → a < b → a ≤ b
no-later h = omega arith

pub later-still : {a b c : ℕ} → a < b → b < c → a ≤ c
later-still h k = omega arith

pub no-higher : {a b c : ℕ} → a ≤ b → b ≤ c → a ≤ c
no-higher h k = omega arith

-- a partition that is as one at this moment, or as one before
pub has-come : {K V I : Type 0} {now : ℕ} {new old : PartitionView K V I} → new ≡ old → old.moment ≡ now → new.moment ≤ now
has-come {K} {V} {I} {now = now} {old = old} is m = subst (λ (u : PartitionView K V I). u.moment ≤ now) (sym is) (omega arith)

pub is-before : {K V I : Type 0} {now : ℕ} {new old : PartitionView K V I} → new ≡ old → old.moment < now → new.moment ≤ now
is-before {K} {V} {I} {now = now} is before = subst (λ (u : PartitionView K V I). u.moment ≤ now) (sym is) (no-later before)
