-- Why feeds are not read.
use Rattle.std.proofs.Common.{◌≡◌, ◌⊎◌, ℕ, inl, inr, List, Option, Some, None}
use Rattle.std.specs.Prelude.{Result, Ok, Err, IfErr, IfSome, option_map}
use Rattle.fkv_functions.specs.declared.refusals.Refused.{Refused}
use Rattle.fkv_functions.specs.declared.refusals.Refused.TheVariants.{NoMemory, BadRow, Unreadable}
use Rattle.fkv_feed_rows.specs.Feeds.{IsBadRow, IsTooLong, TellsUnread, without_mark}
use Rattle.fkv_feed_rows.specs.Watching.{TellsOf}

pub err_weaker : {T E : Type 0} {P : E → Type 0} (Q : E → Type 0) (r : Result T E) → ((e : E) → P e → Q e) → IfErr r P → IfErr r Q
err_weaker Q (Ok v) f h = tt
err_weaker Q (Err e) f h = f e h

some-unmarked : (P : List ℕ → Type 0) (bytes : Option (List ℕ)) → IfSome (option_map without_mark bytes) P → IfSome bytes (λ b. P (without_mark b))
some-unmarked P None h = tt
some-unmarked P (Some b) h = h

unread-told : (feed limit : ℕ) (bytes : Option (List ℕ)) (old new : ℕ) (e : Refused) → new ≡ old → TellsOf feed limit (option_map without_mark bytes) e → TellsUnread feed limit bytes old new e
unread-told feed limit bytes old new NoMemory same t = same
unread-told feed limit bytes old new (BadRow f n) same t = (same, t.0, some-unmarked (λ b. IsBadRow b n) bytes t.1)
unread-told feed limit bytes old new (Unreadable f) same t = (t.0, inr (same, some-unmarked (λ b. IsTooLong limit b) bytes t.1))
unread-told feed limit bytes old new other same t = absurd t

-- of a feed whose stream did not fail
pub feed-told : (fault : Refused → Type 0) (feed limit : ℕ) (bytes : Option (List ℕ)) (old new : ℕ) (e : Refused) → new ≡ old
    → fault e ⊎ TellsOf feed limit (option_map without_mark bytes) e
    → (fault e × (new ≡ old)) ⊎ TellsUnread feed limit bytes old new e
feed-told fault feed limit bytes old new e same (inl f) = inl (f, same)
feed-told fault feed limit bytes old new e same (inr t) = inr (unread-told feed limit bytes old new e same t)
