use Rattle.std.proofs.Common.{◌≡◌, ◌+◌, ◌-◌, Ok, refl, ◌∙◌, arith}
use Rattle.fkv_functions.proofs.KeyOrder.{key_order}
use Rattle.fkv_partition.specs.declared.contexts.Progress.TheVariants.{Done}
use Rattle.fkv_locked.proofs.AtOnceLemmas.{at_once_keeps}
use Rattle.fkv_locked.proofs.locked.Locked.try_write_in_place.Goals as goal

pub invariant_of-self-2 : goal.invariant_of-self-2
invariant_of-self-2 g c =
    let moment = c.try_write_in_place.ensures.moment in
    let start = c.starting.ensures in
    let ready = c.in-Ok.ensures in
    let next = ready.now in
    let was = c.self.invariant.0 in (
      omega arith,
      c.self.invariant.1,
      c.self.invariant.2,
      λ k held.
          let ord = g.met.F.Key.Ord in
          let facts = g.met.F.Key.FixedKey in
          let order = key_order g.F.Key.PartialEq.eq g.F.Key.Ord.cmp ord.matches_eq facts.exact ord.total in
          let cmp = g.F.Key.Ord.cmp in
          let join = g.F.Mergeable.parts.joined in
          let f = g.F.Functions.meaning in
          let stands = g.R.Receipt.stands in
          let code = g.F.Functions.code in
          let keeps = g.R.Receipt.keeps in
          let slot = c.args.session.slot in
          let op = c.args.op.now in
          let now = c.in-Ok.ready.now in
          let issued = now - 1 in
          let at = c.in-Ok.ready.at in
          let answer = c.in-Some.answer in
          let done = c.in-Some.ensures.done in
          let count = ready.at ∙ g.met.H.Recorder.counted c.self.inside.history k in
          rw (c.finish.ensures.book, c.finish.ensures.entries k, ready.entries)
          (at_once_keeps cmp join f stands code c.self.inside.partition c.try_write_in_place.new.self slot op issued now answer done keeps c.facts.ensures.sound
          c.in-Some.ensures.within (omega arith) (omega arith)
          (λ p q h. c.pendings_stay.ensures.issues cmp code p q slot done.context op issued h)
          (λ p q s h. c.pendings_stay.ensures.goes keeps stands cmp join f code p q slot done.context now (Ok (Done answer now)) held order s h)
          (g.H.Recorder.entries c.self.inside.history) c.self.inside.lows.items c.self.inside.looks.items c.self.inside.book (c.self.invariant.3 k held) c.self.invariant.1
          (record { session = c.args.session.number; number = issued; op = op; answer = answer; low = at; at = at; high = at })
          refl refl count count count),
    )

pub returns-clause-done : goal.returns-clause-done
returns-clause-done g c =
    let ready = c.in-Ok.ensures in
    let next = ready.now in
    let first : c.in-Ok.ready.now - 1 ≡ c.self.inside.clock + 1 = omega arith in
    let second : c.in-Ok.ready.now ≡ c.self.inside.clock + 2 = omega arith in
    rw (← c.self.view_is, ← first, ← second, ← ready.at) (c.in-Some.answer, c.finish.ensures.entry, c.in-Some.ensures.done)
