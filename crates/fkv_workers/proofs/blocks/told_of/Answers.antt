use Rattle.std.proofs.Common.{inl, inr, subst}
use Rattle.fkv_feeds.specs.Tables.{most_rows}
use Rattle.fkv_store.specs.Stores.{IsTold}
use Rattle.fkv_workers.proofs.BlockLemmas.{told_feed}
use Rattle.fkv_workers.proofs.blocks.told_of.Goals as goal

pub fault-requires-clause-stop : goal.fault-requires-clause-stop
fault-requires-clause-stop g c =
    told_feed g.B.Origin.feeds most_rows c.args.stop c.requires.stop (λ told.
    elim c.in-BadRow.is [ inl bad ↦ subst IsTold bad.2 told | inr unread ↦ subst IsTold unread.1 told ])
