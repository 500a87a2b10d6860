use Rattle.std.proofs.Common.{ap, ◌∙◌}
use Rattle.fkv_requests.specs.Requests.{number_of}
use Rattle.fkv_requests.proofs.OptionLemmas.{number_read}
use Rattle.fkv_requests.proofs.requests.number_by.Goals as goal

pub returns-in-Ok : goal.returns-in-Ok
returns-in-Ok c =
    let h = number_read c.in-Some.text.now c.parse.result c.parse.ensures.value.0 in
    (rw c.in-Ok.is at h) ∙ ap number_of c.in-Some.ensures

pub returns-in-Err : goal.returns-in-Err
returns-in-Err c =
    let h = number_read c.in-Some.text.now c.parse.result c.parse.ensures.value.0 in
    (rw c.in-Err.is at h) ∙ ap number_of c.in-Some.ensures
