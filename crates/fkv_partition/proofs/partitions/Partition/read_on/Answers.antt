use Rattle.fkv_partition.proofs.ReadLemmas.{has-place, reads-begin, has-way}
use Rattle.fkv_partition.proofs.partitions.Partition.read_on.Goals as goal

pub read_place-requires-clause-has : goal.read_place-requires-clause-has
read_place-requires-clause-has g c = has-place c.requires.has.1 c.in-Reading.is

pub read_place-requires-clause-reads : goal.read_place-requires-clause-reads
read_place-requires-clause-reads g c = reads-begin c.requires.has.1 c.in-Reading.is

pub resume_trace-requires-clause-has : goal.resume_trace-requires-clause-has
resume_trace-requires-clause-has g c = has-way c.requires.has.1 c.in-Tracing.is

pub read_place-requires-clause-later : goal.read_place-requires-clause-later
read_place-requires-clause-later g c = c.requires.later

pub read_place-requires-clause-session : goal.read_place-requires-clause-session
read_place-requires-clause-session g c = c.requires.session

pub read_place-requires-clause-context : goal.read_place-requires-clause-context
read_place-requires-clause-context g c = c.requires.context

pub resume_trace-requires-clause-later : goal.resume_trace-requires-clause-later
resume_trace-requires-clause-later g c = c.requires.later

pub resume_trace-requires-clause-session : goal.resume_trace-requires-clause-session
resume_trace-requires-clause-session g c = c.requires.session

pub resume_trace-requires-clause-context : goal.resume_trace-requires-clause-context
resume_trace-requires-clause-context g c = c.requires.context

pub resume_trace-requires-clause-traces : goal.resume_trace-requires-clause-traces
resume_trace-requires-clause-traces g c = c.in-Tracing.is

pub returns-in-Reading-clause-effect : goal.returns-in-Reading-clause-effect
returns-in-Reading-clause-effect g c = c.read_place.ensures.effect

pub returns-in-Reading-clause-event : goal.returns-in-Reading-clause-event
returns-in-Reading-clause-event g c = c.read_place.ensures.event

pub returns-in-Reading-clause-cleared : goal.returns-in-Reading-clause-cleared
returns-in-Reading-clause-cleared g c = c.read_place.ensures.cleared

pub returns-in-Reading-clause-moment : goal.returns-in-Reading-clause-moment
returns-in-Reading-clause-moment g c = c.read_place.ensures.moment

pub returns-in-Tracing-clause-effect : goal.returns-in-Tracing-clause-effect
returns-in-Tracing-clause-effect g c = c.resume_trace.ensures.effect

pub returns-in-Tracing-clause-event : goal.returns-in-Tracing-clause-event
returns-in-Tracing-clause-event g c = c.resume_trace.ensures.event

pub returns-in-Tracing-clause-cleared : goal.returns-in-Tracing-clause-cleared
returns-in-Tracing-clause-cleared g c = c.resume_trace.ensures.cleared

pub returns-in-Tracing-clause-moment : goal.returns-in-Tracing-clause-moment
returns-in-Tracing-clause-moment g c = c.resume_trace.ensures.moment

pub returns-in-Reading-clause-undamaged : goal.returns-in-Reading-clause-undamaged
returns-in-Reading-clause-undamaged g c = c.read_place.ensures.undamaged

pub returns-in-Tracing-clause-undamaged : goal.returns-in-Tracing-clause-undamaged
returns-in-Tracing-clause-undamaged g c = c.resume_trace.ensures.undamaged
