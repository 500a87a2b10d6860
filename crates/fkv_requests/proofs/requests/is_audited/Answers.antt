use Rattle.std.proofs.Common.{ap, ◌∙◌, codes}
use Rattle.clap.specs.Words.{found_of}
use Rattle.clap.proofs.WalkLemmas.{first_value-rows}
use Rattle.fkv_requests.specs.Requests.{is_set}
use Rattle.fkv_requests.proofs.requests.is_audited.Goals as goal

pub returns : goal.returns
returns c = c.flag_by.ensures ∙ ap is_set (first_value-rows (found_of c.args.options.now) (codes "audit"))
