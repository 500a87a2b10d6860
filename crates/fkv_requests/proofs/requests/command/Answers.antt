use Rattle.std.proofs.Common.{ap, ap₂, ◌∙◌}
use Rattle.std.proofs.lemmas.Result.{IfOk-weaker}
use Rattle.clap.specs.Words.{App, with_subcommand}
use Rattle.fkv_requests.proofs.requests.command.Goals as goal

pub returns : goal.returns
returns c =
    let one = c.in_ok-subcommand.ensures.shape c.replay.ensures.local ∙ ap₂ with_subcommand c.named.ensures (ap (λ (a : App). a.top) c.replay.ensures.app) in
    let two = c.in_ok-subcommand-2.ensures.shape c.in_ok-count.ensures.1 ∙ ap₂ with_subcommand one (ap (λ (a : App). a.top) c.in_ok-count.ensures.0) in
    let three = c.in_ok-subcommand-3.ensures.shape c.in_ok-sum.ensures.1 ∙ ap₂ with_subcommand two (ap (λ (a : App). a.top) c.in_ok-sum.ensures.0) in
    let four = c.in_ok-subcommand-4.ensures.shape c.in_ok-max.ensures.1 ∙ ap₂ with_subcommand three (ap (λ (a : App). a.top) c.in_ok-max.ensures.0) in
    IfOk-weaker c.subcommand-5.result _ _
    (λ command added. added.shape c.in_ok-summary.ensures.1 ∙ ap₂ with_subcommand four (ap (λ (a : App). a.top) c.in_ok-summary.ensures.0))
    c.subcommand-5.ensures
