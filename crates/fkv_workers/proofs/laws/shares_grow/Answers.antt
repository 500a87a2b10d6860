use Rattle.fkv_workers.proofs.ShareLemmas.{share_none, share_more}
use Rattle.fkv_workers.proofs.laws.shares_grow.Goals as goal

pub returns : goal.returns
returns g c = record { none = λ code count. share_none code count; more = λ code count. share_more code count }
