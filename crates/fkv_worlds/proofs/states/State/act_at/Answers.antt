use Rattle.fkv_functions.proofs.CallLemmas.{with_five}
use Rattle.fkv_worlds.proofs.EventLemmas.{moment-of, acts-of}
use Rattle.fkv_worlds.proofs.states.State.act_at.Goals as goal

pub enter_at-requires-whole : goal.enter_at-requires-whole
enter_at-requires-whole g c κs = with_five (moment-of c.in-Enter.is c.requires.due)

pub returns-in-Enter : goal.returns-in-Enter
returns-in-Enter g c = record { effect = acts-of c.in-Enter.is c.enter_at.ensures.effect }

pub leave_at-requires-whole : goal.leave_at-requires-whole
leave_at-requires-whole g c κs = with_five (moment-of c.in-Leave.is c.requires.due)

pub returns-in-Leave : goal.returns-in-Leave
returns-in-Leave g c = record { effect = acts-of c.in-Leave.is c.leave_at.ensures.effect }

pub refresh_at-requires-whole : goal.refresh_at-requires-whole
refresh_at-requires-whole g c κs = with_five (moment-of c.in-Refresh.is c.requires.due)

pub returns-in-Refresh : goal.returns-in-Refresh
returns-in-Refresh g c = record { effect = acts-of c.in-Refresh.is c.refresh_at.ensures.effect }

pub shift_at-requires-whole : goal.shift_at-requires-whole
shift_at-requires-whole g c κs = with_five (moment-of c.in-ReadOnly.is c.requires.due)

pub returns-in-ReadOnly : goal.returns-in-ReadOnly
returns-in-ReadOnly g c = record { effect = acts-of c.in-ReadOnly.is c.shift_at.ensures.effect }

pub take_at-requires-whole : goal.take_at-requires-whole
take_at-requires-whole g c κs = with_five (moment-of c.in-Take.is c.requires.due)

pub returns-in-Take : goal.returns-in-Take
returns-in-Take g c = record { effect = acts-of c.in-Take.is c.take_at.ensures.effect }

pub returns-in-Write : goal.returns-in-Write
returns-in-Write g c = record { effect = acts-of c.in-Write.is c.write.ensures.effect }

pub evict_at-requires-whole : goal.evict_at-requires-whole
evict_at-requires-whole g c κs = with_five (moment-of c.in-Head.is c.requires.due)

pub returns-in-Head : goal.returns-in-Head
returns-in-Head g c = record { effect = acts-of c.in-Head.is c.evict_at.ensures.effect }

pub issue_at-requires-whole : goal.issue_at-requires-whole
issue_at-requires-whole g c κs = with_five (moment-of c.in-Issue.is c.requires.due)

pub returns-in-Issue : goal.returns-in-Issue
returns-in-Issue g c = record { effect = acts-of c.in-Issue.is c.issue_at.ensures.effect }

pub go_at-requires-whole : goal.go_at-requires-whole
go_at-requires-whole g c κs = with_five (moment-of c.in-Go.is c.requires.due)

pub returns-in-Go : goal.returns-in-Go
returns-in-Go g c = record { effect = acts-of c.in-Go.is c.go_at.ensures.effect }

pub returns-in-Install : goal.returns-in-Install
returns-in-Install g c = record { effect = acts-of c.in-Install.is c.install.ensures.effect }

pub returns-in-Load : goal.returns-in-Load
returns-in-Load g c = record { effect = acts-of c.in-Load.is c.load.ensures.effect }

pub give_up_at-requires-whole : goal.give_up_at-requires-whole
give_up_at-requires-whole g c κs = with_five (moment-of c.in-GiveUp.is c.requires.due)

pub returns-in-GiveUp : goal.returns-in-GiveUp
returns-in-GiveUp g c = record { effect = acts-of c.in-GiveUp.is c.give_up_at.ensures.effect }

pub truncate_at-requires-whole : goal.truncate_at-requires-whole
truncate_at-requires-whole g c κs = with_five (moment-of c.in-Truncate.is c.requires.due)

pub returns-in-Truncate : goal.returns-in-Truncate
returns-in-Truncate g c = record { effect = acts-of c.in-Truncate.is c.truncate_at.ensures.effect }
