use Rattle.fkv_local.proofs.CauseLemmas.{memory-stopped}
use Rattle.fkv_local.proofs.laws.refused_where_nothing_fails.Goals as goal

pub returns : goal.returns
returns g c = record {
  refused = λ no_write no_read old new op why refusal caused. memory-stopped g.F.Mergeable.MERGES op no_write no_read caused refusal.refused.stopped;
}
