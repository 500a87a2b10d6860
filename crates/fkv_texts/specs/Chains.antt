-- Classes of keys, and the chains of their entries. A class is what `class` makes of a key.
use Rattle.std.specs.Prelude.{◌≡◌, ℕ, ◌<◌, ◌≤◌, Bool, true, ◌&&◌, List, [], ◌∷◌, filter, reverse, Option, Some, None}
use Rattle.std.specs.Prelude.{nat_lt, slice_get}
use Rattle.fkv_texts.specs.declared.entries.Entry.{Entry}
use Rattle.fkv_texts.specs.declared.entries.ChainPosition.{ChainPosition}
use Rattle.fkv_texts.specs.declared.entries.ChainPosition.TheVariants.{Found, Below}
use Rattle.fkv_texts.specs.Text.{last_where, entry_at}

-- a test for the same class, exact
pub record IsClassTest {C : Type 0} (same : C → C → Bool) : Type 0 where
  pub only : (c d : C) → same c d ≡ true → c ≡ d
  pub self : (c : C) → same c c ≡ true

-- whether an entry is of this class
abbrev pub has_class : {K V C : Type 0} → (K → C) → (C → C → Bool) → C → Entry K V → Bool
has_class class same c e = same (class e.key) c

-- the last entry of a class, and the last below an address
abbrev pub last_of_class : {K V C : Type 0} → (K → C) → (C → C → Bool) → List (Entry K V) → C → Option (Entry K V)
last_of_class class same text c = last_where (has_class class same c) text

abbrev pub last_below : {K V C : Type 0} → (K → C) → (C → C → Bool) → List (Entry K V) → C → ℕ → Option (Entry K V)
last_below class same text c bound = last_where (λ e. nat_lt e.address bound && has_class class same c e) text

-- an address leads to this entry; where there is none, it lies below Begin, as 1 does
abbrev pub Leads : {K V : Type 0} → ℕ → Option (Entry K V) → ℕ → Type 0
Leads begin None a = a < begin
Leads begin (Some e) a = a ≡ e.address

-- each entry leads to the one before it in its class
abbrev pub IsChained : {K V C : Type 0} → (K → C) → (C → C → Bool) → ℕ → List (Entry K V) → Type 0
IsChained {K} {V} class same begin text =
    (i : ℕ) (e : Entry K V)
    → slice_get text i ≡ Some e
    → Leads begin (last_below class same text (class e.key) e.address) e.previous

-- an element of a list, with its place there
pub record IsIn {A : Type 0} (xs : List A) (x : A) : Type 0 where
  pub place : ℕ
  pub here : slice_get xs place ≡ Some x

-- the entries that previous addresses lead through, from an address on until they fall below Begin
pub data IsChainFrom {K V : Type 0} (begin : ℕ) (text : List (Entry K V)) : ℕ → List (Entry K V) → Type 0 where
  ends : {a : ℕ} → a < begin → IsChainFrom begin text a []
  goes : {a : ℕ} {e : Entry K V} {es : List (Entry K V)}
      → begin ≤ a
      → IsIn text e
      → e.address ≡ a
      → IsChainFrom begin text e.previous es
      → IsChainFrom begin text a (e ∷ es)

-- where a chain stands at an address: at the entry there, and it goes on from that entry's previous address
pub record StandsAt {K V : Type 0} (begin : ℕ) (text : List (Entry K V)) (a : ℕ) (es : List (Entry K V)) : Type 0 where
  pub entry : Entry K V
  pub rest : List (Entry K V)
  pub here : entry_at text a ≡ Some entry
  pub is : es ≡ entry ∷ rest
  pub on : IsChainFrom begin text entry.previous rest

-- the entries of a class, the last one first
abbrev pub falling : {K V C : Type 0} → (K → C) → (C → C → Bool) → List (Entry K V) → C → List (Entry K V)
falling class same text c = reverse (filter (has_class class same c) text)

-- where previous addresses lead, from an address through these entries
abbrev pub leads_to : {K V : Type 0} → ℕ → List (Entry K V) → ℕ
leads_to a [] = a
leads_to a (e ∷ es) = leads_to e.previous es

-- what a reader of a chain comes to: the entry that it looks for, or where the chain leads where that is not on it
abbrev pub reached : {K V : Type 0} → Option (Entry K V) → ℕ → ChainPosition K V
reached None a = Below a
reached (Some e) a = Found e
