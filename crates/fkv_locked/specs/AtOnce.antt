-- An operation of a caller that is issued and finished in one call: what is refused of it, its entry, and what stands then.
use Rattle.std.specs.Prelude.{◌≡◌, ◌+◌, ◌-◌, ◌^◌, ◌<◌, ◌≤◌, ◌⊎◌, ℕ, Bool, true, [], ◌∷◌, ◌++◌, ⊤, if◌then◌else◌}
use Rattle.fkv_functions.specs.declared.refusals.Refused.{Refused}
use Rattle.fkv_functions.specs.declared.refusals.Refused.TheVariants.{Stranger, Worn, NoMemory}
use Rattle.fkv_functions.specs.declared.refusals.What.TheVariants as what
use Rattle.fkv_operations.specs.declared.operations.KeyedOp.{KeyedOp}
use Rattle.fkv_operations.specs.declared.operations.Answer.{Answer}
use Rattle.fkv_histories.specs.Histories.{is_update_entry}
use Rattle.fkv_histories.specs.declared.entries.Entry.{Entry}
use Rattle.fkv_locked.specs.declared.open_operations.SessionId.{SessionId}
use Rattle.fkv_locked.specs.Locks.{LockedView}

-- what is refused of it before its partition is asked: there are fewer updates than the caller was told of; or there is no
-- next number for the updates or the book, or no two for the clock
abbrev pub IsUnfit : ℕ → ℕ → ℕ → ℕ → Refused → Type 0
IsUnfit count book clock told (Stranger what.Pass held came) = (held ≡ count) × (came ≡ told) × (count < told)
IsUnfit count book clock told Worn = (count ≡ 2 ^ 64 - 1) ⊎ (book ≡ 2 ^ 64 - 1) ⊎ (2 ^ 64 ≤ clock + 2)
IsUnfit count book clock told NoMemory = ⊤
IsUnfit count book clock told other = ⊥

module _ {K V I O : Type 0} where
  -- its entry: it is issued at the next moment, when as many updates stand as when it is finished
  abbrev pub entry_at_once : LockedView K V I O → SessionId → KeyedOp K V I → Answer O → Entry K V I O
  entry_at_once l session op answer = record {
    session = session.number;
    number = l.clock + 1;
    op = op;
    answer = answer;
    low = l.count;
    at = l.count;
    high = l.count;
  }

  -- two moments have passed, the book counts one operation more, one update more stands where it is one, and where entries are
  -- kept its entry is the last; no mark has changed
  pub record IsNoted (keeps : Bool) (old new : LockedView K V I O) (e : Entry K V I O) : Type 0 where
    pub rest : new ≡ record old {
      partition = new.partition;
      entries = new.entries;
      count = old.count + (if is_update_entry e then 1 else 0);
      clock = old.clock + 2;
      book = old.book + 1;
    }
    pub entries_is : keeps ≡ true → new.entries ≡ old.entries ++ e ∷ []
