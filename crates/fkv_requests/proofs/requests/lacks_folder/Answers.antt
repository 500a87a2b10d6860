use Rattle.std.proofs.Common.{ap, ◌∙◌, codes, is_none}
use Rattle.clap.specs.Words.{found_of}
use Rattle.clap.proofs.WalkLemmas.{first_value-rows}
use Rattle.fkv_requests.proofs.requests.lacks_folder.Goals as goal

pub returns-in-Some : goal.returns-in-Some
returns-in-Some c = ap is_none (c.in-Some.ensures ∙ first_value-rows (found_of c.args.options.now) (codes "dir"))

pub returns-in-None : goal.returns-in-None
returns-in-None c = ap is_none (c.in-None.ensures ∙ first_value-rows (found_of c.args.options.now) (codes "dir"))
