use Rattle.std.proofs.Common.{rules, ap₂, false, ◌≡◌, ◌∙◌}
use Rattle.std.proofs.lemmas.Result.{IfOk-weaker}
use Rattle.clap.specs.Words.{app_of, new_app, with_rule}
use Rattle.clap.specs.declared.builder.command.Command.TheViews.{out-Command}
use Rattle.fkv_requests.proofs.RequestLemmas.{neither}
use Rattle.fkv_requests.proofs.requests.placed.Goals as goal

pub returns : goal.returns
returns c =
    let none : app_of c.about.result ≡ new_app c.args.name.now = search rules in
    let none_local : (out-Command c.about.result).has_globals ≡ false = search rules in
    let one : app_of c.in_ok-arg.field-0 ≡ _ = c.in_ok-arg.ensures.shape c.memory.ensures.local ∙ ap₂ with_rule none c.memory.ensures.rule in
    let one_local = c.in_ok-arg.ensures.globals ∙ neither _ _ none_local c.memory.ensures.local in
    let two : app_of c.in_ok-arg-2.field-0 ≡ _ = c.in_ok-arg-2.ensures.shape c.dir.ensures.local ∙ ap₂ with_rule one c.dir.ensures.rule in
    let two_local = c.in_ok-arg-2.ensures.globals ∙ neither _ _ one_local c.dir.ensures.local in
    let three : app_of c.in_ok-arg-3.field-0 ≡ _ = c.in_ok-arg-3.ensures.shape c.number.ensures.local ∙ ap₂ with_rule two c.number.ensures.rule in
    let three_local = c.in_ok-arg-3.ensures.globals ∙ neither _ _ two_local c.number.ensures.local in
    let four : app_of c.in_ok-arg-4.field-0 ≡ _ = c.in_ok-arg-4.ensures.shape c.flag.ensures.local ∙ ap₂ with_rule three c.flag.ensures.rule in
    let four_local = c.in_ok-arg-4.ensures.globals ∙ neither _ _ three_local c.flag.ensures.local in
    IfOk-weaker c.arg-5.result _ _
    (λ command added. (added.shape c.flag-2.ensures.local ∙ ap₂ with_rule four c.flag-2.ensures.rule, added.globals ∙ neither _ _ four_local c.flag-2.ensures.local))
    c.arg-5.ensures
