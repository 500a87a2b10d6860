-- What is said of a feed, by where it comes from.
use Rattle.std.specs.Prelude.{◌≡◌, ℕ, List, Option, Some, IfSome}
use Rattle.fkv_commands.specs.declared.opening.Feed.{Feed}
use Rattle.fkv_commands.specs.declared.opening.Feed.TheVariants.{File, Bytes}
use Rattle.fkv_commands.specs.declared.opening.FeedInput.{FeedInput}
use Rattle.fkv_commands.specs.declared.opening.FeedInput.TheVariants as opened

-- this of a feed in a file, or that of one whose bytes were read
abbrev pub said_of : {T : Type 0} {F B : Type 0} → (F → T) → (B → T) → Feed F B → T
said_of file bytes (File f) = file f
said_of file bytes (Bytes b) = bytes b

-- this of a file that was opened, or that of standard input
abbrev pub opened_of : {T : Type 0} {F I : Type 0} → (F → T) → (I → T) → FeedInput F I → T
opened_of file input (opened.File f) = file f
opened_of file input (opened.Input i) = input i

-- where the bytes of a path are known, these are they
abbrev pub Agrees : Option (List ℕ) → Option (List ℕ) → Type 0
Agrees known told = IfSome known (λ xs. told ≡ Some xs)
