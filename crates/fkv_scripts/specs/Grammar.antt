-- How each line of a script is written: its words, one by one.
use Rattle.std.specs.Prelude.{◌≡◌, true, ℕ, ℤ, pos, List, [], ◌∷◌, Some, codes}
use Rattle.fkv_functions.specs.Names.{text_of}
use Rattle.fkv_functions.specs.declared.names.Name.{Name}
use Rattle.fkv_operations.specs.declared.operations.KeyedOp.{KeyedOp}
use Rattle.fkv_operations.specs.declared.operations.KeyedOp.TheVariants.{Read, Upsert, Rmw, Delete, Merge}
use Rattle.fkv_scripts.specs.Words.{words_of, number_of, amount_of, is_key}
use Rattle.fkv_scripts.specs.declared.lines.FunctionsName.{FunctionsName}
use Rattle.fkv_scripts.specs.declared.lines.FunctionsName.TheVariants.{Count, Sum, Max, Capped}
use Rattle.fkv_scripts.specs.declared.lines.Opening.{Opening}
use Rattle.fkv_lives.specs.declared.steps.Access.{Access}
use Rattle.fkv_lives.specs.declared.steps.Access.TheVariants.{Works, Fails}
use Rattle.fkv_lives.specs.declared.steps.ContextId.{ContextId}
use Rattle.fkv_scripts.specs.declared.lines.Line.{Line}
use Rattle.fkv_scripts.specs.declared.lines.Line.TheVariants.{Enter, Leave, Refresh, ReadOnly, Head, Flush, Truncate, Issue, Do, Compact, Go, Install, Load, GiveUp, Ready, Finish}

-- what a word of a line stands for
pub data Token : Type 0 where
  word : List ℕ → Token
  number : ℕ → Token
  key : Name → Token
  amount : ℤ → Token

-- this word stands for that
abbrev pub Spells : List ℕ → Token → Type 0
Spells text (word w) = text ≡ w
Spells text (number n) = number_of text ≡ Some n
Spells text (key k) = (is_key text ≡ true) × (text_of k ≡ text)
Spells text (amount z) = amount_of text ≡ Some z

-- each word stands for the token beside it, and there are as many
abbrev pub SpellAll : List (List ℕ) → List Token → Type 0
SpellAll [] [] = Unit {0}
SpellAll [] (t ∷ ts) = ⊥
SpellAll (w ∷ ws) [] = ⊥
SpellAll (w ∷ ws) (t ∷ ts) = Spells w t × SpellAll ws ts

abbrev pub place : ContextId → List Token
place p = number p.partition ∷ number p.slot ∷ number p.context ∷ []

-- what the device does with a page: `ok`, or `fault`
abbrev pub access_word : Access → Token
access_word Works = word (codes "ok")
access_word Fails = word (codes "fault")

-- an operation of a line: what it writes is an amount
abbrev pub verb : KeyedOp Name ℤ ℤ → Token
verb (Read k i) = word (codes "read")
verb (Upsert k n) = word (codes "upsert")
verb (Rmw k n) = word (codes "rmw")
verb (Delete k) = word (codes "delete")
verb (Merge k n) = word (codes "merge")

abbrev pub operands : KeyedOp Name ℤ ℤ → List Token
operands (Read k i) = key k ∷ []
operands (Upsert k n) = key k ∷ amount n ∷ []
operands (Rmw k n) = key k ∷ amount n ∷ []
operands (Delete k) = key k ∷ []
operands (Merge k n) = key k ∷ amount n ∷ []

-- how each line but the first is written
abbrev pub tokens : Line → List Token
tokens (Enter p) = word (codes "enter") ∷ number p ∷ []
tokens (Leave p s) = word (codes "leave") ∷ number p ∷ number s ∷ []
tokens (Refresh p s) = word (codes "refresh") ∷ number p ∷ number s ∷ []
tokens (ReadOnly p n) = word (codes "readonly") ∷ number p ∷ number n ∷ []
tokens (Head p n) = word (codes "head") ∷ number p ∷ number n ∷ []
tokens (Flush p a) = word (codes "flush") ∷ number p ∷ access_word a ∷ []
tokens (Truncate p) = word (codes "truncate") ∷ number p ∷ []
tokens (Issue p s o) = verb o ∷ number p ∷ number s ∷ operands o
tokens (Do p s o) = word (codes "do") ∷ number p ∷ number s ∷ verb o ∷ operands o
tokens (Compact p s) = word (codes "compact") ∷ number p ∷ number s ∷ []
tokens (Go p) = word (codes "go") ∷ place p
tokens (Install p) = word (codes "install") ∷ place p
tokens (Load p a) =
    word (codes "load") ∷ number p.partition ∷ number p.slot ∷ number p.context ∷ access_word a ∷ []
tokens (GiveUp p) = word (codes "giveup") ∷ place p
tokens (Ready p) = word (codes "ready") ∷ place p
tokens (Finish p) = word (codes "finish") ∷ place p

-- a read's input is 0, for which there is no word
abbrev pub ReadsWithZero : KeyedOp Name ℤ ℤ → Type 0
ReadsWithZero (Read k i) = i ≡ pos 0
ReadsWithZero other = Unit {0}

-- a line can be written: what it asks a read with is 0
abbrev pub HasText : Line → Type 0
HasText (Issue p s o) = ReadsWithZero o
HasText (Do p s o) = ReadsWithZero o
HasText other = Unit {0}

abbrev pub Spelled : List (List ℕ) → Line → Type 0
Spelled ws l = SpellAll ws (tokens l) × HasText l

-- the bytes of a line say this
abbrev pub Says : List ℕ → Line → Type 0
Says bytes l = Spelled (words_of bytes) l

abbrev pub functions_name : FunctionsName → Token
functions_name Count = word (codes "count")
functions_name Sum = word (codes "sum")
functions_name Max = word (codes "max")
functions_name Capped = word (codes "capped")

-- how the first line is written
abbrev pub opening : Opening → List Token
opening o =
    word (codes "store") ∷ functions_name o.functions
    ∷ number o.partition_bits ∷ number o.bucket_bits ∷ number o.page_bits ∷ number o.frames ∷ []

-- the bytes of the first line open this store
abbrev pub Opens : List ℕ → Opening → Type 0
Opens bytes o = SpellAll (words_of bytes) (opening o)
