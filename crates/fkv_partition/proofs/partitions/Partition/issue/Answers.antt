use Rattle.std.proofs.Common.{sym, ◌∙◌}
use Rattle.fkv_partition.specs.Events.{Issues}
use Rattle.fkv_partition.proofs.OperationLemmas.{keyed-not, keyed-some, issue-on-key, issues-pend, relocates-event, relocates-pend}
use Rattle.fkv_partition.proofs.StayLemmas.{issues-all}
use Rattle.fkv_partition.proofs.partitions.Partition.issue.Goals as goal

pub returns-in-Some-clause-effect : goal.returns-in-Some-clause-effect
returns-in-Some-clause-effect g c = Issues.on_key c.in-Some.keyed (sym c.keyed.ensures ∙ c.in-Some.is) c.issue_on_key.ensures.effect

pub returns-in-Some-clause-event : goal.returns-in-Some-clause-event
returns-in-Some-clause-event g c =
    issue-on-key g.F.Functions.code c.args.self.now c.issue_on_key.new.self c.args.slot c.args.now c.args.op c.in-Some.keyed c.issue_on_key.result (sym c.keyed.ensures ∙ c.in-Some.is) c.issue_on_key.ensures.rest
    c.issue_on_key.ensures.event c.issue_on_key.ensures.closed

pub returns-in-Some-clause-pends : goal.returns-in-Some-clause-pends
returns-in-Some-clause-pends g c = λ yes_keeps.
    issues-pend g.F.Key.Ord.cmp g.F.Functions.code c.args.self.now c.issue_on_key.new.self c.args.slot c.in-Some.keyed c.args.now c.issue_on_key.result
    (λ p q k h. issues-all g.F.Key.Ord.cmp g.F.Functions.code p q c.args.slot k c.in-Some.keyed c.args.now h) c.issue_on_key.ensures.effect

pub returns-in-None-clause-effect : goal.returns-in-None-clause-effect
returns-in-None-clause-effect g c = Issues.relocation (keyed-not c.args.op (sym c.keyed.ensures ∙ c.in-None.is)) c.relocate.ensures.effect

pub returns-in-None-clause-event : goal.returns-in-None-clause-event
returns-in-None-clause-event g c =
    relocates-event g.F.Functions.code c.args.self.now c.relocate.new.self c.args.slot c.args.now c.args.op c.relocate.result (keyed-not c.args.op (sym c.keyed.ensures ∙ c.in-None.is)) c.facts.ensures.sound c.relocate.ensures.within c.relocate.ensures.effect

pub returns-in-None-clause-pends : goal.returns-in-None-clause-pends
returns-in-None-clause-pends g c = λ yes_keeps. relocates-pend g.F.Key.Ord.cmp c.args.self.now c.relocate.new.self c.args.slot c.args.now c.relocate.result c.relocate.ensures.effect

pub returns-in-Some-clause-relocating : goal.returns-in-Some-clause-relocating
returns-in-Some-clause-relocating g c = λ is. absurd (keyed-some c.args.op c.in-Some.keyed (sym c.keyed.ensures ∙ c.in-Some.is) is)

pub returns-in-None-clause-relocating : goal.returns-in-None-clause-relocating
returns-in-None-clause-relocating g c = λ is. c.relocate.ensures.event
