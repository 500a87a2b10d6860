use Rattle.std.proofs.Common.{◌≡◌, ◌+◌, ◌*◌, true, false, Err, refl, sym, ◌∙◌, ap, subst, arith}
use Rattle.fkv_alone.specs.Ending.{IsStop, Drives}
use Rattle.fkv_alone.proofs.BoundLemmas.{near-some}
use Rattle.fkv_alone.proofs.DriveLemmas.{pend-then, pend-self, come-halted, stop-halted}
use Rattle.fkv_alone.proofs.EndLemmas.{stop-stalled}
use Rattle.fkv_alone.proofs.KeyLemmas.{none-then, rest-then}
use Rattle.fkv_alone.proofs.LoadsLemmas.{caused-then, left-falls}
use Rattle.fkv_alone.proofs.running.drive.Goals as goal

pub step-requires-clause-none : goal.step-requires-clause-none
step-requires-clause-none g c = none-then c.args.partition.now c.loop-turn.partition (c.args.slot * 8 + c.args.context) c.loop-turn.invariant.rest c.requires.none

pub returns-in-Err-clause-drives : goal.returns-in-Err-clause-drives
returns-in-Err-clause-drives g c = λ op old started h.
    let i = c.loop-turn.invariant in
    let same = c.in-Err.ensures.unchanged in
    let last = c.tick.ensures.worn.0 (c.in-Err.is ∙ ap Err c.in-Err.ensures.only) in
    let below = c.loop-turn-test.true in
    Drives.exhausted
    (come-halted g.R.Receipt.keeps g.R.Receipt.stands g.F.Key.Ord.cmp g.F.Mergeable.parts.joined g.F.Functions.meaning g.F.Functions.code op old c.args.slot c.args.context started c.loop-turn.partition c.loop-turn.told (i.comes op old started h).0 i.on)
    (same ∙ last) (let k = i.taken in omega arith) (i.comes op old started h).1 (ap Err c.in-Err.ensures.only)

pub returns-in-Err-step-clause-drives : goal.returns-in-Err-step-clause-drives
returns-in-Err-step-clause-drives g c = λ op old started h.
    let i = c.loop-turn.invariant in
    let t = c.in-Ok.ensures.ok in
    let u = c.in-Ok.ensures.given in
    let below = c.loop-turn-test.true in
    let come = (i.comes op old started h).0 in
    let e = c.in-Err-step.ensures.advances op old started come in
    Drives.refused c.in-Err-step.refused
    (stop-halted g.R.Receipt.keeps g.R.Receipt.stands g.F.Key.Ord.cmp g.F.Mergeable.parts.joined g.F.Functions.meaning g.F.Functions.code op old c.args.slot c.args.context started c.loop-turn.partition c.step.new.partition c.loop-turn.told come i.on e.1)
    (let k = i.taken in omega arith)
    (subst (λ n. IsStop g.R.Receipt.keeps old.records.log.tail n (g.P.PageReader.failures c.step.new.reader) c.in-Err-step.refused) (i.comes op old started h).1 e.0)
    refl

pub returns-then-not-is_on-clause-drives : goal.returns-then-not-is_on-clause-drives
returns-then-not-is_on-clause-drives g c = λ op old started h.
    let i = c.loop-turn.invariant in
    let t = c.in-Ok.ensures.ok in
    let u = c.in-Ok.ensures.given in
    let below = c.loop-turn-test.true in
    let e = c.in-Ok-step.ensures.advances op old started (i.comes op old started h).0 in
    Drives.ends c.in-Ok-step.progress e.0 (λ on. let both : true ≡ false = sym (c.is_on.ensures.1 on) ∙ c.if-not-is_on.true in cc)
    (let k = i.taken in omega arith)
    (let a = e.1 in let b = (i.comes op old started h).1 in omega arith)
    refl

pub loop-turn-preserved : goal.loop-turn-preserved
loop-turn-preserved g c =
    let i = c.loop-turn.invariant in
    let t = c.in-Ok.ensures.ok in
    let u = c.in-Ok.ensures.given in
    record {
      comes = λ op old started h.
          let come = i.comes op old started h in
          let e = c.in-Ok-step.ensures.advances op old started come.0 in
          (e.0, (let a = e.1 in let b = come.1 in omega arith));
      unread = λ op old started h merge. c.in-Ok-step.ensures.unread op old started (i.comes op old started h).0 merge ∙ i.unread op old started h merge;
      loads = λ kept op old started n h near.
          let come = (i.comes op old started h).0 in
          let e = c.in-Ok-step.ensures.advances op old started come in
          let more = i.near n kept near in
          let before = i.loads kept op old started n h near in
          let once = c.in-Ok-step.ensures.once in
          let some = c.in-Ok-step.ensures.wanted kept op old started come in
          let go = c.is_on.ensures.0 c.if-not-is_on.false in
          let falls = left-falls g.R.Receipt.keeps g.R.Receipt.stands g.F.Key.Ord.cmp g.F.Mergeable.parts.joined g.F.Functions.meaning g.F.Functions.code op old c.args.slot c.args.context started c.loop-turn.partition c.step.new.partition c.loop-turn.told c.in-Ok-step.progress more.0 come e.0 i.on go more.2 (λ m near. c.in-Ok-step.ensures.nearer m kept near go) some in
          omega arith;
      caused = caused-then _ _ _ i.caused c.in-Ok-step.ensures.caused;
      near = λ n kept near.
          let more = i.near n kept near in
          let next = c.in-Ok-step.ensures.nearer more.0 kept more.2 (c.is_on.ensures.0 c.if-not-is_on.false) in
          let total = more.1 in
          let less = next.fewer in
          (next.left, omega arith, next.near);
      others = λ kept. pend-then g.F.Key.Ord.cmp c.args.partition.now c.loop-turn.partition c.step.new.partition c.args.slot c.args.context (i.others kept) (c.in-Ok-step.ensures.others kept);
      on = c.is_on.ensures.0 c.if-not-is_on.false;
      taken = (let k = i.taken in omega arith);
      rest = rest-then c.args.partition.now c.loop-turn.partition c.step.new.partition i.rest c.in-Ok-step.ensures.rest;
      past = (let p = c.in-Ok-step.ensures.past in omega arith);
    }

pub returns-clause-drives : goal.returns-clause-drives
returns-clause-drives g c = λ op old started h.
    let i = c.loop-turn.invariant in
    Drives.stalled
    (come-halted g.R.Receipt.keeps g.R.Receipt.stands g.F.Key.Ord.cmp g.F.Mergeable.parts.joined g.F.Functions.meaning g.F.Functions.code op old c.args.slot c.args.context started c.loop-turn.partition c.loop-turn.told (i.comes op old started h).0 i.on)
    (let k = i.taken in let d = c.loop-turn-test.false in let u = c.loop-turn.auto in omega arith) (i.comes op old started h).1 refl

pub returns-in-Err-clause-bound : goal.returns-in-Err-clause-bound
returns-in-Err-clause-bound g c = λ n kept near.
    let i = c.loop-turn.invariant in
    let more = i.near n kept near in
    let total = more.1 in
    let k = i.taken in
    let same = c.in-Err.ensures.unchanged in
    omega arith

pub returns-in-Err-step-clause-bound : goal.returns-in-Err-step-clause-bound
returns-in-Err-step-clause-bound g c = λ n kept near.
    let i = c.loop-turn.invariant in
    let more = i.near n kept near in
    let some = near-some g.F.Functions.code c.loop-turn.partition c.args.slot c.args.context c.loop-turn.told more.0 more.2 in
    let total = more.1 in
    let k = i.taken in
    let t = c.in-Ok.ensures.ok in
    let u = c.in-Ok.ensures.given in
    omega arith

pub returns-then-not-is_on-clause-bound : goal.returns-then-not-is_on-clause-bound
returns-then-not-is_on-clause-bound g c = λ n kept near.
    let i = c.loop-turn.invariant in
    let more = i.near n kept near in
    let some = near-some g.F.Functions.code c.loop-turn.partition c.args.slot c.args.context c.loop-turn.told more.0 more.2 in
    let total = more.1 in
    let k = i.taken in
    let t = c.in-Ok.ensures.ok in
    let u = c.in-Ok.ensures.given in
    omega arith

pub returns-clause-bound : goal.returns-clause-bound
returns-clause-bound g c = λ n kept near.
    let i = c.loop-turn.invariant in
    let more = i.near n kept near in
    let total = more.1 in
    let k = i.taken in
    omega arith

pub returns-in-Err-clause-enough : goal.returns-in-Err-clause-enough
returns-in-Err-clause-enough g c = λ op old started n h kept near low e. (let only = c.in-Err.ensures.only in absurd (cc))

pub returns-in-Err-step-clause-enough : goal.returns-in-Err-step-clause-enough
returns-in-Err-step-clause-enough g c = λ op old started n h kept near low e.
    (let a = c.in-Err-step.ensures.advances op old started (c.loop-turn.invariant.comes op old started h).0 in
    stop-stalled old.records.log.tail _ _ c.in-Err-step.refused a.0 (cc))

pub returns-then-not-is_on-clause-enough : goal.returns-then-not-is_on-clause-enough
returns-then-not-is_on-clause-enough g c = λ op old started n h kept near low e. absurd (cc)

pub returns-clause-enough : goal.returns-clause-enough
returns-clause-enough g c = λ op old started n h kept near low e.
    (let i = c.loop-turn.invariant in
    let more = i.near n kept near in
    let some = near-some g.F.Functions.code c.loop-turn.partition c.args.slot c.args.context c.loop-turn.told more.0 more.2 in
    let total = more.1 in
    let d = c.loop-turn-test.false in
    absurd (omega arith))

pub returns-in-Err-step-clause-others : goal.returns-in-Err-step-clause-others
returns-in-Err-step-clause-others g c = λ kept. pend-then g.F.Key.Ord.cmp c.args.partition.now c.loop-turn.partition c.step.new.partition c.args.slot c.args.context (c.loop-turn.invariant.others kept) (c.in-Err-step.ensures.others kept)

pub returns-then-not-is_on-clause-others : goal.returns-then-not-is_on-clause-others
returns-then-not-is_on-clause-others g c = λ kept. pend-then g.F.Key.Ord.cmp c.args.partition.now c.loop-turn.partition c.step.new.partition c.args.slot c.args.context (c.loop-turn.invariant.others kept) (c.in-Ok-step.ensures.others kept)

pub returns-in-Err-step-clause-rest : goal.returns-in-Err-step-clause-rest
returns-in-Err-step-clause-rest g c = rest-then c.args.partition.now c.loop-turn.partition c.step.new.partition c.loop-turn.invariant.rest c.in-Err-step.ensures.rest

pub returns-then-not-is_on-clause-rest : goal.returns-then-not-is_on-clause-rest
returns-then-not-is_on-clause-rest g c = rest-then c.args.partition.now c.loop-turn.partition c.step.new.partition c.loop-turn.invariant.rest c.in-Ok-step.ensures.rest

pub loop-turn-init : goal.loop-turn-init
loop-turn-init g c = record {
  comes = λ op old started h. (h, refl);
  unread = λ op old started h merge. refl;
  loads = λ kept op old started n h near. omega arith;
  caused = λ other. absurd (other refl);
  near = λ n kept near. (n, omega arith, near);
  others = λ kept. pend-self g.F.Key.Ord.cmp c.args.partition.now c.args.slot c.args.context;
  on = tt;
  taken = omega arith;
  rest = record { cleared = refl; relocations = λ p. refl };
  past = c.requires.past;
}

pub returns-in-Err-clause-within : goal.returns-in-Err-clause-within
returns-in-Err-clause-within g c =
    let k = c.loop-turn.invariant.taken in
    let below = c.loop-turn-test.true in
    let same = c.in-Err.ensures.unchanged in
    omega arith

pub returns-in-Err-step-clause-within : goal.returns-in-Err-step-clause-within
returns-in-Err-step-clause-within g c =
    let k = c.loop-turn.invariant.taken in
    let below = c.loop-turn-test.true in
    let t = c.in-Ok.ensures.ok in
    let u = c.in-Ok.ensures.given in
    omega arith

pub returns-then-not-is_on-clause-within : goal.returns-then-not-is_on-clause-within
returns-then-not-is_on-clause-within g c =
    let k = c.loop-turn.invariant.taken in
    let below = c.loop-turn-test.true in
    let t = c.in-Ok.ensures.ok in
    let u = c.in-Ok.ensures.given in
    omega arith

pub returns-clause-within : goal.returns-clause-within
returns-clause-within g c =
    let k = c.loop-turn.invariant.taken in
    let d = c.loop-turn-test.false in
    let u = c.loop-turn.auto in
    omega arith

pub returns-in-Err-clause-unread : goal.returns-in-Err-clause-unread
returns-in-Err-clause-unread g c = λ op old started h merge. c.loop-turn.invariant.unread op old started h merge

pub returns-in-Err-step-clause-unread : goal.returns-in-Err-step-clause-unread
returns-in-Err-step-clause-unread g c = λ op old started h merge.
    c.in-Err-step.ensures.unread op old started (c.loop-turn.invariant.comes op old started h).0 merge ∙ c.loop-turn.invariant.unread op old started h merge

pub returns-then-not-is_on-clause-unread : goal.returns-then-not-is_on-clause-unread
returns-then-not-is_on-clause-unread g c = λ op old started h merge.
    c.in-Ok-step.ensures.unread op old started (c.loop-turn.invariant.comes op old started h).0 merge ∙ c.loop-turn.invariant.unread op old started h merge

pub returns-clause-unread : goal.returns-clause-unread
returns-clause-unread g c = λ op old started h merge. c.loop-turn.invariant.unread op old started h merge

pub returns-in-Err-clause-loads : goal.returns-in-Err-clause-loads
returns-in-Err-clause-loads g c = λ kept op old started n h near. let before = c.loop-turn.invariant.loads kept op old started n h near in omega arith

pub returns-in-Err-step-clause-loads : goal.returns-in-Err-step-clause-loads
returns-in-Err-step-clause-loads g c = λ kept op old started n h near.
    let before = c.loop-turn.invariant.loads kept op old started n h near in
    let once = c.in-Err-step.ensures.once in
    let some = c.in-Err-step.ensures.wanted kept op old started (c.loop-turn.invariant.comes op old started h).0 in
    omega arith

pub returns-then-not-is_on-clause-loads : goal.returns-then-not-is_on-clause-loads
returns-then-not-is_on-clause-loads g c = λ kept op old started n h near.
    let before = c.loop-turn.invariant.loads kept op old started n h near in
    let once = c.in-Ok-step.ensures.once in
    let some = c.in-Ok-step.ensures.wanted kept op old started (c.loop-turn.invariant.comes op old started h).0 in
    omega arith

pub returns-clause-loads : goal.returns-clause-loads
returns-clause-loads g c = λ kept op old started n h near. let before = c.loop-turn.invariant.loads kept op old started n h near in omega arith

pub returns-in-Err-step-clause-caused : goal.returns-in-Err-step-clause-caused
returns-in-Err-step-clause-caused g c = caused-then _ _ _ c.loop-turn.invariant.caused c.in-Err-step.ensures.caused

pub returns-then-not-is_on-clause-caused : goal.returns-then-not-is_on-clause-caused
returns-then-not-is_on-clause-caused g c = caused-then _ _ _ c.loop-turn.invariant.caused c.in-Ok-step.ensures.caused
