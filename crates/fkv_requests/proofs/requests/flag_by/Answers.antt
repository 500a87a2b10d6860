use Rattle.std.proofs.Common.{◌∙◌, ap}
use Rattle.fkv_requests.specs.Requests.{is_set}
use Rattle.fkv_requests.proofs.requests.flag_by.Goals as goal

pub returns-in-None : goal.returns-in-None
returns-in-None c = ap is_set c.in-None.ensures

pub returns-in-Some : goal.returns-in-Some
returns-in-Some c = c.eq.ensures ∙ ap is_set c.in-Some.ensures
