use Rattle.std.proofs.Common.{◌∙◌, ap}
use Rattle.fkv_partition.specs.Contexts.{joined, claim_of}
use Rattle.fkv_partition.specs.Views.{slots_of}
use Rattle.fkv_partition.proofs.AskedLemmas.{free-here}
use Rattle.fkv_partition.proofs.EventLemmas.{event-issue}
use Rattle.fkv_partition.proofs.partitions.Partition.issue_in.Goals as goal

pub start-requires-clause-unclaimed : goal.start-requires-clause-unclaimed
start-requires-clause-unclaimed g c =
    let v = c.args.self.now in
    let low = c.is_session-entered.ensures.within (c.is_session-entered.ensures.value ∙ c.requires.entered) in
    ap (λ o. claim_of (joined o)) (free-here (slots_of v) v.contexts c.args.slot c.args.context c.facts.ensures.sound.places low c.requires.context c.requires.entered c.requires.free)

pub returns-clause-effect : goal.returns-clause-effect
returns-clause-effect g c =
    record { entered = c.requires.entered; low = c.requires.context; free = c.requires.free; own = c.requires.own; merging = c.requires.merging; is = c.start.ensures }

pub returns-clause-event : goal.returns-clause-event
returns-clause-event g c =
    let v = c.args.self.now in
    let low = c.is_session-entered.ensures.within (c.is_session-entered.ensures.value ∙ c.requires.entered) in
    rw c.start.ensures
    (event-issue g.F.Functions.code v c.args.slot c.args.context c.args.now c.args.op c.requires.entered
    (free-here (slots_of v) v.contexts c.args.slot c.args.context c.facts.ensures.sound.places low c.requires.context c.requires.entered c.requires.free)
    c.requires.context c.requires.own)

pub returns-clause-within : goal.returns-clause-within
returns-clause-within g c = c.is_session-entered.ensures.within (c.is_session-entered.ensures.value ∙ c.requires.entered)
