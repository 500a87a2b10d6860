use Rattle.std.proofs.Common.{inr, arith}
use Rattle.fkv_locked.proofs.TurnLemmas.{failed_keeps}
use Rattle.fkv_locked.proofs.LoadLemmas.{load_comes}
use Rattle.fkv_locked.proofs.locked.Locked.load.Goals as goal

pub invariant_of-self-in-Err-load : goal.invariant_of-self-in-Err-load
invariant_of-self-in-Err-load g c =
    let moment = c.load.ensures.moment in
    let start = c.starting.ensures in
    let next = c.in-Ok.ensures.now in
    let was = c.self.invariant.0 in (
      omega arith,
      c.self.invariant.1,
      c.self.invariant.2,
      λ k held. rw c.in-Ok.ensures.entries
          (failed_keeps g.F.Key.Ord.cmp g.F.Functions.meaning c.self.inside.partition c.load.new.self (g.H.Recorder.entries c.self.inside.history) c.self.inside.lows.items c.self.inside.looks.items c.self.inside.book
          c.in-Ok.now (c.self.invariant.3 k held) c.args.operation.now.session.slot c.args.operation.now.context (omega arith) c.in-Err-load.ensures.fails (c.load.ensures.others held)),
    )

pub invariant_of-self-2 : goal.invariant_of-self-2
invariant_of-self-2 g c =
    let moment = c.load.ensures.moment in
    let start = c.starting.ensures in
    let next = c.in-Ok.ensures.now in
    let was = c.self.invariant.0 in (
      omega arith,
      c.self.invariant.1,
      c.self.invariant.2,
      λ k held.
          let kept = c.self.invariant.3 k held in
          c.note_loaded.ensures.kept k c.self.inside.partition c.load.new.self c.self.inside.looks.items c.mark_at-look.ensures
          (load_comes g.R.Receipt.stands _ g.F.Key.Ord.cmp g.F.Mergeable.parts.joined g.F.Functions.meaning g.F.Functions.code c.self.inside.partition c.load.new.self c.args.operation.now c.args.came c.in-Ok.now
          c.in-Ok.ensures.asks (λ p h. (kept.past c.args.operation.now.session.slot c.args.operation.now.context p h).early) (omega arith)
          c.in-Ok-load.progress c.in-Ok-load.ensures.effect (c.in-Ok-load.ensures.event held) (c.load.ensures.others held))
          (rw c.in-Ok.ensures.entries kept),
    )

pub returns-clause-effect : goal.returns-clause-effect
returns-clause-effect g c = (c.in-Ok-load.progress, rw (← c.self.view_is, ← c.in-Ok.ensures.now) c.in-Ok-load.ensures.effect, c.note_loaded.ensures.tells)

pub returns-in-Err-load-clause-refused : goal.returns-in-Err-load-clause-refused
returns-in-Err-load-clause-refused g c = rw (← c.self.view_is, ← c.in-Ok.ensures.now) (inr (inr c.in-Err-load.ensures.effect))

pub returns-clause-turns : goal.returns-clause-turns
returns-clause-turns g c =
    rw (← c.self.view_is, ← c.mark_at-look.ensures, ← c.in-Ok.ensures.entries, ← c.in-Ok.ensures.count)
    (c.note_loaded.ensures.turns c.self.inside.looks.items)
