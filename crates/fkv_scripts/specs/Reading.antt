-- How the words of a line are read, in order: the steps between the code and the grammar.
use Rattle.std.specs.Prelude.{◌≡◌, ◌≤◌, ◌&&◌, ◌++◌, Bool, true, false, ℕ, ℤ, pos, List, [], ◌∷◌, Option, Some, None, codes, length, drop, replicate, nat_le, if◌then◌else◌, option_map}
use Rattle.std.specs.Str.{bytes_eq}
use Rattle.std.specs.List.{list_all}
use Rattle.std.proofs.Common.{refl}
use Rattle.std.proofs.lemmas.Bool.{leb-true}
use Rattle.fkv_functions.specs.Hashes.{fnv_1a}
use Rattle.fkv_functions.specs.Names.{room_by, padded_by, hashed_by}
use Rattle.fkv_functions.specs.declared.names.Name.{Name}
use Rattle.fkv_operations.specs.declared.operations.KeyedOp.{KeyedOp}
use Rattle.fkv_operations.specs.declared.operations.KeyedOp.TheVariants.{Read, Upsert, Rmw, Delete, Merge}
use Rattle.fkv_scripts.specs.Words.{number_of, amount_of, is_key, is_key_byte}
use Rattle.fkv_scripts.specs.declared.lines.FunctionsName.{FunctionsName}
use Rattle.fkv_scripts.specs.declared.lines.FunctionsName.TheVariants.{Count, Sum, Max, Capped}
use Rattle.fkv_scripts.specs.declared.lines.Opening.{Opening}
use Rattle.fkv_lives.specs.declared.steps.Access.{Access}
use Rattle.fkv_lives.specs.declared.steps.Access.TheVariants.{Works, Fails}
use Rattle.fkv_lives.specs.declared.steps.ContextId.{ContextId}
use Rattle.fkv_scripts.specs.declared.lines.Line.{Line}
use Rattle.fkv_scripts.specs.declared.lines.Line.TheVariants.{Enter, Leave, Refresh, ReadOnly, Head, Flush, Truncate, Issue, Do, Compact, Go, Install, Load, GiveUp, Ready, Finish}

-- the name of 1 to 31 bytes
abbrev pub name_with : (bytes : List ℕ) → (1 ≤ length bytes) × (length bytes ≤ 31) → Name
name_with bytes h = record {
  len = length bytes;
  bytes = bytes ++ drop (length bytes) (replicate 31 0);
  hash = fnv_1a bytes;
  some = h.0;
  most = h.1;
  room = room_by bytes h.1;
  padded = padded_by bytes h.1;
  hashed = hashed_by bytes;
}

-- the tests of a key's length say what they test
sized : (a b c : Bool) (m n : ℕ) → nat_le 1 m ≡ b → nat_le m 31 ≡ c → (a && b && c) ≡ true → (1 ≤ m) × (m ≤ 31)
sized true true true m n e f h = (leb-true 1 m e, leb-true m 31 f)
sized true true false m n e f h = cc
sized true false true m n e f h = cc
sized true false false m n e f h = cc
sized false b c m n e f h = cc

pub key_sized : (word : List ℕ) → is_key word ≡ true → (1 ≤ length word) × (length word ≤ 31)
key_sized word h =
    sized (list_all is_key_byte word) (nat_le 1 (length word)) (nat_le (length word) 31) (length word) 0 refl refl h

abbrev pub key_by : (word : List ℕ) (b : Bool) → is_key word ≡ b → Option Name
key_by word true h = Some (name_with word (key_sized word h))
key_by word false h = None

-- the key that a word is
unfoldable pub key_of : List ℕ → Option Name
key_of word = key_by word (is_key word) refl

infixl 10 ◌>>=◌
abbrev pub ◌>>=◌ : {A B : Type 0} → Option A → (A → Option B) → Option B
None >>= f = None
(Some x) >>= f = f x

-- the first word is read as a value, and the words after it are left
abbrev pub first_as : {A : Type 0} → (List ℕ → Option A) → List (List ℕ) → Option (A × List (List ℕ))
first_as read [] = None
first_as read (w ∷ ws) = option_map (λ x. (x, ws)) (read w)

-- what a call read, and the words that it left
abbrev pub Gives : {A : Type 0} → Option A → Option (A × List (List ℕ)) → List (List ℕ) → Type 0
Gives None read left = read ≡ None
Gives (Some x) read left = read ≡ Some (x, left)

-- no word is left
abbrev pub end_of : {A : Type 0} → List (List ℕ) → A → Option A
end_of [] x = Some x
end_of (w ∷ ws) x = None

unfoldable pub place_of : List (List ℕ) → Option ContextId
place_of ws = do
  p ← first_as number_of ws
  s ← first_as number_of p.1
  c ← first_as number_of s.1
  end_of c.1 (record { partition = p.0; slot = s.0; context = c.0 })

-- a number, and nothing after it
unfoldable pub alone_of : List (List ℕ) → Option ℕ
alone_of ws = do
  n ← first_as number_of ws
  end_of n.1 n.0

-- two numbers, and nothing after them
unfoldable pub pair_of : List (List ℕ) → Option (ℕ × ℕ)
pair_of ws = do
  m ← first_as number_of ws
  n ← first_as number_of m.1
  end_of n.1 (m.0, n.0)

-- what the device does with a page
unfoldable pub access_of : List ℕ → Option Access
access_of word =
    if bytes_eq word (codes "ok") then Some Works
    else (if bytes_eq word (codes "fault") then Some Fails
    else None)

unfoldable pub flush_of : List (List ℕ) → Option Line
flush_of ws = do
  p ← first_as number_of ws
  a ← first_as access_of p.1
  end_of a.1 (Flush p.0 a.0)

unfoldable pub load_of : List (List ℕ) → Option Line
load_of ws = do
  p ← first_as number_of ws
  s ← first_as number_of p.1
  c ← first_as number_of s.1
  a ← first_as access_of c.1
  end_of a.1 (Load (record { partition = p.0; slot = s.0; context = c.0 }) a.0)

-- a key, and nothing after it
unfoldable pub key_alone : List (List ℕ) → Option Name
key_alone ws = do
  k ← first_as key_of ws
  end_of k.1 k.0

-- a key and an amount, and nothing after them
unfoldable pub key_and_amount : List (List ℕ) → Option (Name × ℤ)
key_and_amount ws = do
  k ← first_as key_of ws
  n ← first_as amount_of k.1
  end_of n.1 (k.0, n.0)

unfoldable pub operation_of : List ℕ → List (List ℕ) → Option (KeyedOp Name ℤ ℤ)
operation_of verb ws =
    if bytes_eq verb (codes "read") then option_map (λ k. Read k (pos 0)) (key_alone ws)
    else (if bytes_eq verb (codes "upsert") then option_map (λ p. Upsert p.0 p.1) (key_and_amount ws)
    else (if bytes_eq verb (codes "rmw") then option_map (λ p. Rmw p.0 p.1) (key_and_amount ws)
    else (if bytes_eq verb (codes "delete") then option_map Delete (key_alone ws)
    else (if bytes_eq verb (codes "merge") then option_map (λ p. Merge p.0 p.1) (key_and_amount ws)
    else None))))

unfoldable pub issue_of : List ℕ → List (List ℕ) → Option Line
issue_of verb ws = do
  p ← first_as number_of ws
  s ← first_as number_of p.1
  o ← operation_of verb s.1
  Some (Issue p.0 s.0 o)

unfoldable pub do_of : List (List ℕ) → Option Line
do_of ws = do
  p ← first_as number_of ws
  s ← first_as number_of p.1
  v ← first_as Some s.1
  o ← operation_of v.0 v.1
  Some (Do p.0 s.0 o)

-- a line of an operation or of a relocation
unfoldable pub served_of : List ℕ → List (List ℕ) → Option Line
served_of v ws =
    if bytes_eq v (codes "do") then do_of ws
    else (if bytes_eq v (codes "compact") then option_map (λ p. Compact p.0 p.1) (pair_of ws)
    else (if bytes_eq v (codes "go") then option_map Go (place_of ws)
    else (if bytes_eq v (codes "install") then option_map Install (place_of ws)
    else (if bytes_eq v (codes "load") then load_of ws
    else (if bytes_eq v (codes "giveup") then option_map GiveUp (place_of ws)
    else (if bytes_eq v (codes "ready") then option_map Ready (place_of ws)
    else (if bytes_eq v (codes "finish") then option_map Finish (place_of ws)
    else issue_of v ws)))))))

unfoldable pub line_of : List (List ℕ) → Option Line
line_of [] = None
line_of (v ∷ ws) =
    if bytes_eq v (codes "enter") then option_map Enter (alone_of ws)
    else (if bytes_eq v (codes "leave") then option_map (λ p. Leave p.0 p.1) (pair_of ws)
    else (if bytes_eq v (codes "refresh") then option_map (λ p. Refresh p.0 p.1) (pair_of ws)
    else (if bytes_eq v (codes "readonly") then option_map (λ p. ReadOnly p.0 p.1) (pair_of ws)
    else (if bytes_eq v (codes "head") then option_map (λ p. Head p.0 p.1) (pair_of ws)
    else (if bytes_eq v (codes "flush") then flush_of ws
    else (if bytes_eq v (codes "truncate") then option_map Truncate (alone_of ws)
    else served_of v ws))))))

unfoldable pub functions_of : List ℕ → Option FunctionsName
functions_of word =
    if bytes_eq word (codes "count") then Some Count
    else (if bytes_eq word (codes "sum") then Some Sum
    else (if bytes_eq word (codes "max") then Some Max
    else (if bytes_eq word (codes "capped") then Some Capped
    else None)))

unfoldable pub store_of : List (List ℕ) → Option Opening
store_of ws = do
  n ← first_as functions_of ws
  p ← first_as number_of n.1
  k ← first_as number_of p.1
  b ← first_as number_of k.1
  f ← first_as number_of b.1
  end_of f.1 (record { functions = n.0; partition_bits = p.0; bucket_bits = k.0; page_bits = b.0; frames = f.0 })

unfoldable pub opening_of : List (List ℕ) → Option Opening
opening_of [] = None
opening_of (v ∷ ws) = if bytes_eq v (codes "store") then store_of ws else None
