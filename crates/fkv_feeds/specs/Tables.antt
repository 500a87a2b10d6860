-- The table of feeds: what the amounts of each key come to.
use Rattle.std.specs.Prelude.{◌≡◌, ◌++◌, ◌∷◌, [], ◌^◌, ℕ, ℤ, Bool, IsTrue, List, length, map, fold, Option, None}
use Rattle.std.specs.Option.{option_or}
use Rattle.std.specs.List.{filter}
use Rattle.std.specs.BTreeMap.{is_at}
use Rattle.std.specs.Map.{lookup, keys_of}
use Rattle.std.specs.List.Sorted.{IsStrictlySortedBy}
use Rattle.std.specs.declared.cmp.Ordering.{Ordering}
use Rattle.fkv_functions.specs.Meanings.{Meanings, updated}
use Rattle.fkv_functions.specs.Names.{name_cmp}
use Rattle.fkv_functions.specs.Plain.{Same}
use Rattle.fkv_functions.specs.declared.names.Name.{Name}
use Rattle.fkv_local.specs.Storing.{StoreView, plain}
use Rattle.fkv_feed_rows.specs.Feeds.{IsFeed}

-- the amounts of a key, in the order of its rows
abbrev pub amounts_of : {K I : Type 0} → (K → K → Ordering) → K → List (K × I) → List I
amounts_of cmp k rows = map (λ r. r.1) (filter (λ r. is_at (cmp k) r.0) rows)

-- what a key has after one more amount: a declined one leaves it
abbrev pub folded_on : {K V I O : Type 0} → Meanings K V I O → K → Option V → I → Option V
folded_on f k held i = option_or (updated f k i held) held

-- what amounts come to, from no value, one after the other
abbrev pub folded : {K V I O : Type 0} → Meanings K V I O → K → List I → Option V
folded f k is = fold (folded_on f k) None is

-- the rows of feeds, feed by feed
abbrev pub AreFeeds : ℕ → List (Option (List ℕ)) → List (Name × ℤ) → Type 0
AreFeeds limit [] rows = rows ≡ []
AreFeeds limit (feed ∷ feeds) rows =
    (one : List (Name × ℤ))
    × (others : List (Name × ℤ))
    × IsFeed limit feed one
    × AreFeeds limit feeds others
    × (rows ≡ one ++ others)

-- the rows that a feed may have
abbrev pub most_rows : ℕ
most_rows = 2 ^ 40

-- the feeds have so many rows, all together
abbrev pub HaveRows : List (Option (List ℕ)) → ℕ → Type 0
HaveRows feeds n = (rows : List (Name × ℤ)) × AreFeeds most_rows feeds rows × (n ≡ length rows)

-- the table of feeds: each key whose amounts come to a value, with that value, keys rising
pub record IsTableOf {V O : Type 0} (f : Meanings Name V ℤ O) (feeds : List (Option (List ℕ))) (pairs : List (Name × V))
    : Type 0 where
  pub rows : List (Name × ℤ)
  pub read : AreFeeds most_rows feeds rows
  pub value : (k : Name) → lookup (is_at (name_cmp k)) pairs ≡ folded f k (amounts_of name_cmp k rows)
  pub rising : IsStrictlySortedBy name_cmp (keys_of pairs)

-- a store stands for these rows: on a device that keeps, it is the map of what the amounts of each key come to
abbrev pub StandsFor : {V O W P : Type 0} → Bool → Meanings Name V ℤ O → (Name → ℕ) → StoreView Name V ℤ W P → List (Name × ℤ)
    → Type 0
StandsFor keeps f code store rows = IsTrue keeps → Same (plain name_cmp code store) (λ k. folded f k (amounts_of name_cmp k rows))
