use Rattle.std.proofs.Common.{drop, refl, ◌∙◌}
use Rattle.fkv_spills.proofs.SpillLemmas.{unreadable-weaker}
use Rattle.fkv_spills.proofs.rests.SpilledRestReceiptReadPairs.next.Goals as goal

pub returns-in-Ok-clause-pair : goal.returns-in-Ok-clause-pair
returns-in-Ok-clause-pair g c xs h = c.replace.ensures.value ∙ h.next

pub returns-in-Ok-clause-after : goal.returns-in-Ok-clause-after
returns-in-Ok-clause-after g c xs h = record {
  kept = h.kept;
  next = c.replace.ensures.after ∙ c.in-Ok.ensures.pair (drop 1 xs) h.kept h.unread;
  unread = c.in-Ok.ensures.after (drop 1 xs) h.kept h.unread;
}

pub returns-in-Err-clause-kept : goal.returns-in-Err-clause-kept
returns-in-Err-clause-kept g c xs h = record {
  kept = h.kept;
  next = h.next;
  unread = c.in-Err.ensures.kept (drop 1 xs) h.kept h.unread;
}

pub returns-in-Err-clause-told : goal.returns-in-Err-clause-told
returns-in-Err-clause-told g c =
    unreadable-weaker _ _ _ _ _ c.in-Err.refused refl (λ k. (drop 1 k.0, k.1.kept, k.1.unread)) c.in-Err.ensures.told
