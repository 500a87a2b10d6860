use Rattle.std.proofs.Common.{◌≡◌, ◌+◌, ◌-◌, refl, ◌∙◌, arith}
use Rattle.fkv_operations.specs.declared.operations.KeyedOp.TheVariants.{Read}
use Rattle.fkv_locked.specs.Kept.{seen}
use Rattle.fkv_locked.proofs.KeptLemmas.{kept_read}
use Rattle.fkv_locked.proofs.locked.Locked.try_read_in_memory.Goals as goal

pub invariant_of-self-2 : goal.invariant_of-self-2
invariant_of-self-2 g c =
    let start = c.starting.ensures in
    let ready = c.in-Ok.ensures in
    let next = ready.now in
    let was = c.self.invariant.0 in (
      omega arith,
      c.self.invariant.1,
      c.self.invariant.2,
      λ k held.
          let cmp = g.F.Key.Ord.cmp in
          let f = g.F.Functions.meaning in
          let now = c.in-Ok.ready.now in
          let at = c.in-Ok.ready.at in
          let count = ready.at ∙ g.met.H.Recorder.counted c.self.inside.history k in
          rw (c.finish.ensures.book, c.finish.ensures.entries k, ready.entries)
          (kept_read cmp f (seen cmp c.self.inside.partition) (g.H.Recorder.entries c.self.inside.history) c.self.inside.lows.items c.self.inside.looks.items c.self.inside.book (c.self.invariant.3 k held)
          (record { session = c.args.session.number; number = now - 1; op = Read c.args.key.now c.args.input.now; answer = c.in-Some.answer; low = at; at = at; high = at })
          c.args.key.now c.args.input.now refl c.in-Some.ensures.done.read.shows count count count),
    )

pub returns-clause-done : goal.returns-clause-done
returns-clause-done g c =
    let ready = c.in-Ok.ensures in
    let next = ready.now in
    let first : c.in-Ok.ready.now - 1 ≡ c.self.inside.clock + 1 = omega arith in
    rw (← c.self.view_is, ← first, ← ready.at) (c.in-Some.answer, c.finish.ensures.entry, c.in-Some.ensures.done)
