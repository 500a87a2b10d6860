use Rattle.std.proofs.Common.{◌≡◌, ◌∙◌, ◌-◌, ap, length, take, drop, arith}
use Rattle.std.proofs.lemmas.List.{take_all, length-drop}
use Rattle.fkv_requests.specs.Memory.{size_of, scaled, unit_of}
use Rattle.fkv_requests.proofs.memory.size_of.Goals as goal

pub returns : goal.returns
unfolding size_of
returns c =
    let text = c.args.text.now in
    let count = c.digits_in-digits.result in
    let digits = c.digits_in-digits.ensures.digits in
    let size : length (drop count text) ≡ length text - count = length-drop count text in
    let rest : take (length text - count) (drop count text) ≡ drop count text = take_all (length text - count) (drop count text) (omega arith) in
    c.scaled.ensures
    ∙ ap (scaled (take count text)) (c.unit_of.ensures ∙ ap unit_of rest)
    ∙ (λ i. scaled (take (digits i) text) (unit_of (drop (digits i) text)))
