-- Lists of which nothing is left.
use Rattle.std.proofs.Common.{◌≡◌, ◌+◌, ◌++◌, [], ◌∷◌, List, Option, Some, None, IsSome, length, map, sym, ap, ◌∙◌, length-append, arith}
use Rattle.std.proofs.lemmas.List.{append-nil, length-map}

pub none_behind : {X : Type 0} (xs ys zs : List X) → xs ++ ys ≡ zs → length xs ≡ length zs → xs ≡ zs
none_behind xs [] zs is same = sym (append-nil xs) ∙ is
none_behind xs (y ∷ ys) zs is same =
    let long = ap length is in
    absurd (omega (arith, long, same, length-append xs (y ∷ ys)))

-- what is left where so many are taken, one for each of the others
pub left_over : {X Y Z R : Type 0} (view : X → Z) (shown : Y → Z) (reader : X → R) (done : List X) (yielded : List Y) (rest all : List R)
    → map view done ≡ map shown yielded → map reader done ++ rest ≡ all → length all ≡ length yielded + length rest
left_over view shown reader done yielded rest all same is =
    let a = ap length same in
    let b = ap length is in
    omega (arith, a, b, length-map done view, length-map yielded shown, length-map done reader, length-append (map reader done) rest)

pub none_some : {X : Type 0} (o : Option X) → o ≡ None → IsSome o → ⊥
none_some None is some = absurd (cc)
none_some (Some x) is some = absurd (cc)
