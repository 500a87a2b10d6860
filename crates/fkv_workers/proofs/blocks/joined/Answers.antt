use Rattle.std.proofs.Common.{subst}
use Rattle.fkv_blocks.specs.Pieces.{AreWhole}
use Rattle.fkv_feeds.specs.Tables.{most_rows}
use Rattle.fkv_workers.proofs.blocks.joined.Goals as goal

pub concluded-concluded-requires-clause-read : goal.concluded-concluded-requires-clause-read
concluded-concluded-requires-clause-read g c = rw c.as_slice.ensures.value c.in-Ok.ensures.read

pub returns-in-Ok-concluded-clause-none : goal.returns-in-Ok-concluded-clause-none
returns-in-Ok-concluded-clause-none g c = c.in-Ok.ensures.none c.in-Ok-concluded.ensures.none

pub returns-in-Ok-concluded-clause-whole : goal.returns-in-Ok-concluded-clause-whole
returns-in-Ok-concluded-clause-whole g c =
    subst (AreWhole most_rows g.B.Origin.feeds) c.in-Ok.ensures.hands (rw c.as_slice.ensures.value at c.in-Ok-concluded.ensures.whole)
