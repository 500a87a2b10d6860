-- Whole numbers as keys: `==` is true of identical ones alone.
use Rattle.std.specs.Prelude.{ℕ, ℤ, nat_eq}
use Rattle.std.specs.Ordering.{int_eq}
use Rattle.std.proofs.lemmas.Bool.Decides.{Decides-int_eq}
use Rattle.std.proofs.lemmas.Map.Views.{exact_unsigned_eq}
use Rattle.fkv_functions.specs.Meanings.{Exact}

pub word_exact : Exact {A = ℕ} nat_eq
word_exact = exact_unsigned_eq

pub signed_exact : Exact {A = ℤ} int_eq
signed_exact a b e = (Decides-int_eq a b).0 e
