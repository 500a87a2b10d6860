-- How values are written in a fixed number of bytes.
use Rattle.std.specs.Prelude.{◌≡◌, ℕ, List, length}

-- how values of a type are written: which values are, each in so many bytes, and no two in the same
pub record Codec (A : Type 0) (size : ℕ) : Type 1 where
  pub is_known : A → Type 0
  pub bytes_of : A → List ℕ
  pub sized : (v : A) → is_known v → length (bytes_of v) ≡ size
  pub readable : (v w : A) → is_known v → is_known w → bytes_of v ≡ bytes_of w → v ≡ w
