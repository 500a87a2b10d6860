use Rattle.std.proofs.Common.{ap, ◌∙◌}
use Rattle.clap.specs.Words.{found_of}
use Rattle.fkv_requests.specs.Requests.{is_given}
use Rattle.fkv_requests.proofs.SourceLemmas.{source-rows}
use Rattle.fkv_requests.proofs.requests.is_given.Goals as goal

pub returns-in-Some-CommandLine : goal.returns-in-Some-CommandLine
returns-in-Some-CommandLine c =
    rw c.in-Some-CommandLine.field-0-is at (ap is_given (c.in-Some-CommandLine.ensures ∙ source-rows (found_of c.args.options.now) c.args.id.now))

pub returns-in-Some-DefaultValue : goal.returns-in-Some-DefaultValue
returns-in-Some-DefaultValue c =
    rw c.in-Some-DefaultValue.field-0-is at (ap is_given (c.in-Some-DefaultValue.ensures ∙ source-rows (found_of c.args.options.now) c.args.id.now))

pub returns-in-None : goal.returns-in-None
returns-in-None c = ap is_given (c.in-None.ensures ∙ source-rows (found_of c.args.options.now) c.args.id.now)
