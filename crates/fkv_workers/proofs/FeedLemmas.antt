-- Feeds that are read one after the other.
use Rattle.std.proofs.Common.{◌++◌, [], ◌∷◌, ℕ, ℤ, List, refl, sym, append_assoc}
use Rattle.std.specs.Prelude.{Option}
use Rattle.std.proofs.lemmas.List.{append-nil}
use Rattle.fkv_functions.specs.declared.names.Name.{Name}
use Rattle.fkv_feed_rows.specs.Feeds.{IsFeed}
use Rattle.fkv_feeds.specs.Tables.{AreFeeds}

-- one feed more
pub feeds_more : (limit : ℕ) (texts : List (Option (List ℕ))) (rows : List (Name × ℤ)) (text : Option (List ℕ)) (more : List (Name × ℤ))
    → AreFeeds limit texts rows
    → IsFeed limit text more
    → AreFeeds limit (texts ++ text ∷ []) (rows ++ more)
feeds_more limit [] rows text more are one = (more, [], one, refl, rw are (sym (append-nil more)))
feeds_more limit (first ∷ texts) rows text more are one =
    (are.0, are.1 ++ more, are.2, feeds_more limit texts are.1 text more are.3 one, rw are.4 (append_assoc are.0 are.1 more))
