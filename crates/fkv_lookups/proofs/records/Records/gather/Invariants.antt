use Rattle.fkv_lookups.specs.Lookups.{at_of}
use Rattle.fkv_lookups.proofs.WayLemmas.{IsOnWay}
use Rattle.fkv_lookups.proofs.records.Records.gather.Given as goal

-- what is gathered from here, with the parts so far, is what the look-up comes to
abbrev pub invariant-loop-last : goal.invariant-loop-last
invariant-loop-last g l = IsOnWay g.F.Key.Ord.cmp g.F.Mergeable.parts.joined g.F.Functions.code l.self l.key l.low l.entry l.parts l.position

abbrev pub decreases-loop-last : goal.decreases-loop-last
decreases-loop-last g l = at_of l.position
