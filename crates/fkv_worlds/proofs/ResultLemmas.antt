-- What holds of a result where it is Ok, or Err, and of what may be there.
use Rattle.std.proofs.Common.{◌≡◌, true, false, Option, Some, None, Result, Ok, Err, IfOk, IfErr, IsSome, is_none, is_some, refl, ap}

pub if_ok : {A E : Type 0} {P : A → Type 0} (r : Result A E) → ((x : A) → r ≡ Ok x → P x) → IfOk r P
if_ok (Ok x) h = h x refl
if_ok (Err e) h = tt

pub if_err : {A E : Type 0} {P : E → Type 0} (r : Result A E) → ((e : E) → r ≡ Err e → P e) → IfErr r P
if_err (Ok x) h = tt
if_err (Err e) h = h e refl

pub some_of : {A : Type 0} (o : Option A) → is_none o ≡ false → (x : A) × (o ≡ Some x)
some_of None h = absurd (cc)
some_of (Some x) h = (x, refl)

pub some_there : {A : Type 0} (o : Option A) → is_none o ≡ false → IsSome o
some_there None h = absurd (cc)
some_there (Some x) h = refl

pub some_not_none : {A : Type 0} (o : Option A) → is_some o ≡ true → is_none o ≡ false
some_not_none None h = absurd (cc)
some_not_none (Some x) h = refl

pub not_some_none : {A : Type 0} (o : Option A) → is_some o ≡ false → is_none o ≡ true
not_some_none None h = refl
not_some_none (Some x) h = absurd (cc)

pub none_is : {A : Type 0} (o : Option A) → is_some o ≡ false → o ≡ None
none_is None h = refl
none_is (Some x) h = absurd (cc)

pub some_is : {A : Type 0} (o : Option A) → is_some o ≡ true → (x : A) × (o ≡ Some x)
some_is None h = absurd (cc)
some_is (Some x) h = (x, refl)

-- a result is not both, and an error is told of results of any type
pub ok_not_err : {A E : Type 0} {x : A} {e : E} → Ok x ≡ Err e → ⊥
ok_not_err h = absurd (cc)

pub err_is : {A E : Type 0} (x y : E) → ◌≡◌ {A = Result A E} (Err x) (Err y) → x ≡ y
err_is x y h = cc

pub err_as : {A B E : Type 0} {x y : E} → ◌≡◌ {A = Result A E} (Err x) (Err y) → ◌≡◌ {A = Result B E} (Err x) (Err y)
err_as {x = x} {y = y} h = ap Err (err_is x y h)
