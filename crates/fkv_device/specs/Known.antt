-- What is known of the pages that files take and give back, and the pages that SHA-256 does not tell apart.
use Rattle.std.specs.Prelude.{◌≡◌, ◌≢◌, ℕ, Bool, true, false, not, ◌||◌, List, [], ◌++◌, Option, None, Some, IfSome, unwrap_or, find, Contains, bytes_eq}
use Rattle.std.specs.List.{list_all, list_any}
use Rattle.sha2.specs.Sha256.{sha256}

-- the pages that the files of a run took, and what came back from them, whatever stood in them by then
pub record Pages : Type 0 where
  pub taken : List (List ℕ)
  pub given : List (List ℕ)

-- a page that was taken, and another that was taken or came back, with one SHA-256
abbrev pub HasCollision : Pages → Type 0
HasCollision pages =
    (a : List ℕ) × (b : List ℕ)
    × Contains pages.taken a
    × Contains (pages.taken ++ pages.given) b
    × (a ≢ b)
    × (sha256 a ≡ sha256 b)

-- no page that was taken collides with another
unfoldable pub is_apart : Pages → Bool
is_apart pages =
    list_all (λ a. list_all (λ b. bytes_eq a b || not (bytes_eq (sha256 a) (sha256 b))) (pages.taken ++ pages.given)) pages.taken

-- files keep what they are given where their pages are known and none collide
unfoldable pub are_kept : Option Pages → Bool
are_kept None = false
are_kept (Some pages) = is_apart pages

-- the page of this digest, of those that were taken
unfoldable pub page_of : Option Pages → List ℕ → List ℕ
page_of None digest = []
page_of (Some pages) digest = unwrap_or (find (λ a. bytes_eq (sha256 a) digest) pages.taken) []

-- this is the digest of a page that was taken, where these are known
unfoldable pub is_digest : Option Pages → List ℕ → Bool
is_digest None digest = true
is_digest (Some pages) digest = list_any (λ a. bytes_eq (sha256 a) digest) pages.taken

-- this page is one that was taken, where these are known; and this is one that came back
abbrev pub IsTaken : Option Pages → List ℕ → Type 0
IsTaken known page = IfSome known (λ pages. Contains pages.taken page)

abbrev pub IsGiven : Option Pages → List ℕ → Type 0
IsGiven known page = IfSome known (λ pages. Contains pages.given page)
