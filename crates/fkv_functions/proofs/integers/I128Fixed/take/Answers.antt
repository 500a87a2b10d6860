use Rattle.std.proofs.Common.{◌≡◌, ◌+◌, ◌*◌, ◌%◌, ◌^◌, ◌++◌, ℕ, List, arith, ◌∙◌, ap, take, drop, Some}
use Rattle.std.specs.Int.{w64, w128, to_le_bytes, cast_unsigned, cast_signed}
use Rattle.std.proofs.lemmas.Int.{of_z-to_z, to_z-of_z}
use Rattle.std.proofs.lemmas.List.{take-append-drop}
use Rattle.std.specs.Prelude.{FitsSigned}
use Rattle.std.proofs.Math.Facts.{Fits-of_z}
use Rattle.fkv_functions.specs.Integers.{halves, halves_of, words_again}
use Rattle.fkv_functions.proofs.integers.I128Fixed.take.Goals as goal
use Rattle.fkv_functions.proofs.integers.I128Fixed.take.Goals.{After-cast_signed}

fits : (c : After-cast_signed) → FitsSigned w128 c.cast_signed.result
fits c = record { sfits = c.cast_signed.type_inv }

bits : (c : After-cast_signed) → cast_unsigned w128 c.cast_signed.result ≡ c.word_of.result + c.word_of-2.result * 2 ^ 64
bits c =
    let whole : c.from.result + c.from-2.result * 2 ^ 64 % 2 ^ 128 ≡ c.word_of.result + c.word_of-2.result * 2 ^ 64 = omega arith in
    ap (cast_unsigned w128) c.cast_signed.ensures ∙ of_z-to_z w128 (c.from.result + c.from-2.result * 2 ^ 64 % 2 ^ 128) (omega arith) ∙ whole

front : (c : After-cast_signed) → to_le_bytes w64 c.word_of.result ≡ take 8 c.args.bytes.now
front c = c.word_of.ensures ∙ c.split_at.ensures.front

back : (c : After-cast_signed) → to_le_bytes w64 c.word_of-2.result ≡ drop 8 c.args.bytes.now
back c = c.word_of-2.ensures ∙ c.split_at.ensures.back

pub returns-clause-found : goal.returns-clause-found
returns-clause-found c =
    rw (to_z-of_z w128 c.cast_signed.result (fits c)) (
      fits c,
      ap halves (bits c) ∙ halves_of c.word_of.result c.word_of-2.result c.word_of.type_inv
          ∙ ap (λ (x : List ℕ). x ++ to_le_bytes w64 c.word_of-2.result) (front c) ∙ ap (λ (y : List ℕ). take 8 c.args.bytes.now ++ y) (back c) ∙ take-append-drop 8 c.args.bytes.now,
    )

pub returns-clause-only : goal.returns-clause-only
returns-clause-only c = λ v k e.
    let n = words_again (cast_unsigned w128 v) c.word_of.result c.word_of-2.result c.args.bytes.now ((Fits-of_z k).fits) c.word_of.type_inv c.word_of-2.type_inv e (front c) (back c) in
    ap Some (ap (cast_signed w128) (bits c ∙ n) ∙ to_z-of_z w128 v k)
