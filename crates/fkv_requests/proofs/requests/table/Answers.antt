use Rattle.std.proofs.Common.{ap, ap₂, ◌≡◌, ◌∙◌}
use Rattle.std.proofs.lemmas.Result.{IfOk-weaker}
use Rattle.clap.specs.Words.{app_of, with_rule}
use Rattle.fkv_requests.specs.Requests.{numbered_app, placed_app, told_app}
use Rattle.fkv_requests.proofs.RequestLemmas.{neither}
use Rattle.fkv_requests.proofs.requests.table.Goals as goal

pub returns : goal.returns
returns c =
    let base : app_of c.in_ok-numbered.field-0 ≡ numbered_app (told_app (placed_app c.args.name.now)) =
    c.in_ok-numbered.ensures.0 ∙ ap numbered_app (c.in_ok-told.ensures.0 ∙ ap told_app c.in_ok-placed.ensures.0) in
    IfOk-weaker c.arg.result _ _
    (λ command added. (added.shape c.feeds.ensures.local ∙ ap₂ with_rule base c.feeds.ensures.rule, added.globals ∙ neither _ _ c.in_ok-numbered.ensures.1 c.feeds.ensures.local))
    c.arg.ensures
