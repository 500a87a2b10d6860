use Rattle.fkv_locked.proofs.locked.Locked.end.Goals as goal

pub returns-clause-kept : goal.returns-clause-kept
returns-clause-kept g c k held =
    let kept = c.self.invariant.3 k held in
    rw c.lists.ensures (record { legal = kept.legal; live = kept.live; counted = kept.counted })
