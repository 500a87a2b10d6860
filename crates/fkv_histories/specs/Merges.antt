-- What a caller is told of its operations, and histories that are merges of callers' own lists.
use Rattle.std.specs.Prelude.{◌≡◌, ◌<◌, ◌==◌, ℕ, Bool, IsTrue, List, length, map, slice_get, slice_index_or, sum_by, Some, if◌then◌else◌}
use Rattle.std.specs.List.{filter, list_any}
use Rattle.fkv_operations.specs.declared.operations.KeyedOp.{KeyedOp}
use Rattle.fkv_operations.specs.declared.operations.Answer.{Answer}
use Rattle.fkv_histories.specs.declared.entries.Entry.{Entry}
use Rattle.fkv_histories.specs.Histories.{updates, reads}

-- an entry without `low` and `high`
pub record Told (K V I O : Type 0) : Type 0 where
  pub session : ℕ
  pub number : ℕ
  pub op : KeyedOp K V I
  pub answer : Answer O
  pub at : ℕ

module _ {K V I O : Type 0} where
  abbrev pub told_of : Entry K V I O → Told K V I O
  told_of e = record { session = e.session; number = e.number; op = e.op; answer = e.answer; at = e.at }

  abbrev pub told : List (Entry K V I O) → List (Told K V I O)
  told es = map told_of es

  -- an operation of this session stands in the list
  abbrev pub has_session : List (Entry K V I O) → ℕ → Bool
  has_session own session = list_any (λ e. e.session == session) own

  -- the entries whose sessions stand in an own list
  abbrev pub of_sessions : List (Entry K V I O) → List (Entry K V I O) → List (Entry K V I O)
  of_sessions own es = filter (λ e. has_session own e.session) es

  -- no session stands in two lists
  abbrev pub AreApart : List (List (Entry K V I O)) → Type 0
  AreApart owns = (i j session : ℕ) (own other : List (Entry K V I O))
      → slice_get owns i ≡ Some own
      → slice_get owns j ≡ Some other
      → IsTrue (has_session own session)
      → IsTrue (has_session other session)
      → i ≡ j

  -- a history is a merge of own lists: the updates of each list are, in order, the history's updates of the sessions of that
  -- list, its reads likewise, no session stands in two lists, and the lengths of the lists add up to the history's
  pub record IsMerge (history : List (Entry K V I O)) (owns : List (List (Entry K V I O))) : Type 0 where
    pub updated : (i : ℕ) (own : List (Entry K V I O)) → slice_get owns i ≡ Some own
        → told (updates own) ≡ told (of_sessions own (updates history))
    pub read : (i : ℕ) (own : List (Entry K V I O)) → slice_get owns i ≡ Some own
        → told (reads own) ≡ told (of_sessions own (reads history))
    pub apart : AreApart owns
    pub total : sum_by length owns ≡ length history

  -- and it is one in which the updates and reads of each list stand in one order
  pub record IsShuffle (history : List (Entry K V I O)) (owns : List (List (Entry K V I O))) : Type 0 where
    pub parts : (i : ℕ) (own : List (Entry K V I O)) → slice_get owns i ≡ Some own
        → told own ≡ told (of_sessions own history)
    pub apart : AreApart owns
    pub total : sum_by length owns ≡ length history

  -- the entries of the sessions that are this owner's
  abbrev pub owned_by : (ℕ → ℕ) → ℕ → Entry K V I O → Bool
  owned_by owner i e = owner e.session == i

  -- by an owner for each session: each own list is, in order, what the history has of the sessions of that owner, and there
  -- is nothing else
  pub record IsShuffleBy (owner : ℕ → ℕ) (history : List (Entry K V I O)) (owns : List (List (Entry K V I O)))
      : Type 0 where
    pub parts : (i : ℕ) (own : List (Entry K V I O)) → slice_get owns i ≡ Some own
        → told own ≡ told (filter (owned_by owner i) history)
    pub total : sum_by length owns ≡ length history

-- the owner of a session by a table, or nobody
abbrev pub owner_in : List ℕ → ℕ → ℕ → ℕ
owner_in who nobody session = slice_index_or who session nobody

module _ {K V I O : Type 0} where
  -- each session of a list is claimed for this owner in a table, and no other
  abbrev pub AreClaimed : List ℕ → List ℕ → List (Entry K V I O) → ℕ → Type 0
  AreClaimed old new own owner = (session nobody : ℕ)
      → owner_in new nobody session ≡ (if has_session own session then owner else owner_in old nobody session)

  -- a table of owners of the first of these lists: the list that it names for a session has that session, and it names one
  -- for each session of theirs
  pub record AreOwners (who : List ℕ) (owns : List (List (Entry K V I O))) (first : ℕ) : Type 0 where
    pub named : (i session : ℕ) (own : List (Entry K V I O)) → slice_get owns i ≡ Some own
        → owner_in who (length owns) session ≡ i
        → IsTrue (has_session own session)
    pub found : (i session : ℕ) (own : List (Entry K V I O)) → i < first
        → slice_get owns i ≡ Some own
        → IsTrue (has_session own session)
        → owner_in who (length owns) session < length owns
