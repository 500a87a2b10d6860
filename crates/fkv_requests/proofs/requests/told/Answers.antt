use Rattle.std.proofs.Common.{ap, ap₂, ◌≡◌, ◌∙◌}
use Rattle.std.proofs.lemmas.Result.{IfOk-weaker}
use Rattle.clap.specs.Words.{app_of, with_rule}
use Rattle.fkv_requests.proofs.RequestLemmas.{neither}
use Rattle.fkv_requests.proofs.requests.told.Goals as goal

pub returns : goal.returns
returns c =
    let one : app_of c.in_ok-arg.field-0 ≡ _ = c.in_ok-arg.ensures.shape c.flag.ensures.local ∙ ap (with_rule (app_of c.args.command)) c.flag.ensures.rule in
    let one_local = c.in_ok-arg.ensures.globals ∙ neither _ _ c.requires c.flag.ensures.local in
    let two : app_of c.in_ok-arg-2.field-0 ≡ _ = c.in_ok-arg-2.ensures.shape c.flag-2.ensures.local ∙ ap₂ with_rule one c.flag-2.ensures.rule in
    let two_local = c.in_ok-arg-2.ensures.globals ∙ neither _ _ one_local c.flag-2.ensures.local in
    IfOk-weaker c.arg-3.result _ _
    (λ command added. (added.shape c.flag-3.ensures.local ∙ ap₂ with_rule two c.flag-3.ensures.rule, added.globals ∙ neither _ _ two_local c.flag-3.ensures.local))
    c.arg-3.ensures
