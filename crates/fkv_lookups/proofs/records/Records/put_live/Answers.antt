use Rattle.std.proofs.Common.{◌<◌, ◌≤◌, refl, arith, ◌∙◌}
use Rattle.std.specs.BTreeMap.{get}
use Rattle.fkv_functions.proofs.KeyOrder.{key_order}
use Rattle.fkv_lookups.proofs.ScanLemmas.{ended, goes_on, has_front, front_stays}
use Rattle.fkv_hybrid.specs.Scans.{memory}
use Rattle.fkv_lookups.proofs.LiveLemmas.{scan_begins, scan_rises, scan_refused}
use Rattle.fkv_lookups.proofs.records.Records.put_live.Goals as goal

pub loop-self-init : goal.loop-self-init
loop-self-init g c = record {
  scan = c.scan-scan.ensures.scan;
  scanned = λ keeps apart. scan_begins g.R.Receipt.keeps _ c.self.inside.log c.facts.ensures.log g.F.Key.Ord.cmp g.F.Mergeable.parts.joined _ _ keeps c.scan-scan.ensures.begins;
  steady = refl;
}

pub loop-self-preserved : goal.loop-self-preserved
loop-self-preserved g c =
    let low : c.loop-self.scan.address < c.self.inside.log.tail = omega (arith, c.tail.ensures.tail, c.address.ensures, c.loop-self-test.true) in
    let l = c.facts.ensures.log in
    let ord = g.met.F.Key.Ord in
    let facts = g.met.F.Key.FixedKey in
    let order = key_order g.F.Key.PartialEq.eq g.F.Key.Ord.cmp ord.matches_eq facts.exact ord.total in
    let join = g.F.Mergeable.parts.joined in
    record {
      scan = c.step.ensures.scan;
      scanned = λ keeps apart. rw c.in-Ok.ensures.goes
          (goes_on g.F.Key.Ord.cmp join _ _ _ _ _ _ _ (c.loop-self.invariant.scanned keeps apart) order apart l.rising low
          c.in-Ok.entry (c.in-Ok.ensures.kept keeps) _ refl (get g.F.Key.Ord.cmp c.put_entry.new.map) c.in-Ok-put_entry.ensures.ok);
      steady = c.in-Ok.ensures.steady ∙ c.loop-self.invariant.steady;
    }

pub loop-self-smaller : goal.loop-self-smaller
loop-self-smaller g c =
    let low : c.loop-self.scan.address < c.self.inside.log.tail = omega (arith, c.tail.ensures.tail, c.address.ensures, c.loop-self-test.true) in
    let rises = scan_rises g.R.Receipt.keeps _ c.self.inside.log c.facts.ensures.log c.loop-self.scan c.loop-self.invariant.scan low in
    let goes = c.in-Ok.ensures.goes in
    omega arith

pub returns-clause-ok : goal.returns-clause-ok
returns-clause-ok g c = λ keeps apart.
    let high : c.self.inside.log.tail ≤ c.loop-self.scan.address = omega (arith, c.tail.ensures.tail, c.address.ensures, c.loop-self-test.false) in
    rw (← c.self.view_is) (ended g.F.Key.Ord.cmp g.F.Mergeable.parts.joined _ _ _ _ _ _ _ (c.loop-self.invariant.scanned keeps (rw (← c.self.view_is) at apart)) high)

pub returns-in-Err-clause-refused : goal.returns-in-Err-clause-refused
returns-in-Err-clause-refused g c =
    let low : c.loop-self.scan.address < c.self.inside.log.tail = omega (arith, c.tail.ensures.tail, c.address.ensures, c.loop-self-test.true) in
    rw (← c.self.view_is) (scan_refused g.R.Receipt.keeps _ c.self.inside.log c.facts.ensures.log c.loop-self.scan c.loop-self.invariant.scan low
    c.step.result _ _ _ _ c.in-Err.is c.loop-self.invariant.steady (λ high. (c.step.ensures.unread high).0) c.in-Err.ensures.refused)

pub returns-in-Err-put_entry-clause-refused : goal.returns-in-Err-put_entry-clause-refused
returns-in-Err-put_entry-clause-refused g c = memory c.in-Err-put_entry.ensures.only (c.in-Ok.ensures.steady ∙ c.loop-self.invariant.steady)

pub returns-in-Err-clause-front : goal.returns-in-Err-clause-front
returns-in-Err-clause-front g c = λ keeps apart.
    rw (← c.self.view_is) (has_front g.F.Key.Ord.cmp g.F.Mergeable.parts.joined _ _ _ _ _ _ _ (c.loop-self.invariant.scanned keeps (rw (← c.self.view_is) at apart)))

pub returns-in-Err-put_entry-clause-front : goal.returns-in-Err-put_entry-clause-front
returns-in-Err-put_entry-clause-front g c = λ keeps apart.
    rw (← c.self.view_is) (front_stays g.F.Key.Ord.cmp g.F.Mergeable.parts.joined _ _ _ _ _ _ _ (c.loop-self.invariant.scanned keeps (rw (← c.self.view_is) at apart)) _ c.in-Err-put_entry.ensures.unchanged)

pub returns-in-Err-clause-caused : goal.returns-in-Err-clause-caused
returns-in-Err-clause-caused g c = λ keeps wanted. rw (← c.self.view_is) (_, c.in-Err.ensures.caused keeps wanted)
