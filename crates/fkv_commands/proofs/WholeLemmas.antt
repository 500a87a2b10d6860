-- A stream that is read whole, and the feed that its bytes are.
use Rattle.std.proofs.Common.{◌≡◌, ◌++◌, [], ◌∷◌, ℕ, ℤ, List, Option, None, Some, refl, sym, subst, take, append_assoc}
use Rattle.std.specs.Prelude.{IfSome}
use Rattle.std.specs.Io.KnownBytes.{Consumes, IsAtEnd}
use Rattle.std.proofs.lemmas.List.{append-nil}
use Rattle.fkv_functions.specs.Meanings.{Meanings}
use Rattle.fkv_functions.specs.declared.names.Name.{Name}
use Rattle.fkv_feeds.specs.Tables.{IsTableOf}

pub consumed-none : (a : Option (List ℕ)) → Consumes a a []
consumed-none None = tt
consumed-none (Some xs) = refl

pub consumed-more : (a b c : Option (List ℕ)) (bytes more : List ℕ) → Consumes a b bytes → Consumes b c more → Consumes a c (bytes ++ more)
consumed-more None b c bytes more h k = tt
consumed-more (Some xs) None c bytes more h k = absurd h
consumed-more (Some xs) (Some ys) None bytes more h k = absurd k
consumed-more (Some xs) (Some ys) (Some zs) bytes more h k = rw (h, k) (sym (append_assoc bytes more zs))

pub consumed-all : (a b c : Option (List ℕ)) (bytes buf : List ℕ) → Consumes a b bytes → Consumes b c (take 0 buf) → IsAtEnd c → IfSome a (λ xs. bytes ≡ xs)
consumed-all None b c bytes buf h k end = tt
consumed-all (Some xs) None c bytes buf h k end = absurd h
consumed-all (Some xs) (Some ys) None bytes buf h k end = absurd k
consumed-all (Some xs) (Some ys) (Some zs) bytes buf h k end = sym (rw (h, k, end) (append-nil bytes))

-- the bytes of a stream, where they are known, are a feed as the stream is
pub same-feed : {V O : Type 0} (f : Meanings Name V ℤ O) (known : Option (List ℕ)) (bytes : List ℕ) (pairs : List (Name × V))
    → IfSome known (λ xs. bytes ≡ xs)
    → IsTableOf f (Some bytes ∷ []) pairs
    → IsTableOf f (known ∷ []) pairs
same-feed f None bytes pairs same made = record { rows = made.rows; read = (made.rows, [], tt, refl, sym (append-nil made.rows)); value = made.value; rising = made.rising }
same-feed f (Some xs) bytes pairs same made = subst (λ b. IsTableOf f (Some b ∷ []) pairs) same made
