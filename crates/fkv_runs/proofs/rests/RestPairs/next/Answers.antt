use Rattle.std.proofs.Common.{◌≡◌, slice_index_or, length, take, drop, List, ℕ, ◌+◌, ◌-◌, ◌<◌, ◌∙◌, sym, ap, arith, length-drop}
use Rattle.std.proofs.lemmas.List.{take_all}
use Rattle.fkv_runs.specs.Spelling.{pairs_in}
use Rattle.fkv_runs.proofs.SpellLemmas.{some_value, rest_pairs}
use Rattle.fkv_runs.proofs.rests.RestPairs.next.Goals as goal

-- what is behind a place, as a slice from there to the end
cut : {A : Type 0} (n : ℕ) (xs : List A) → take (length xs - n) (drop n xs) ≡ drop n xs
cut n xs = take_all (length xs - n) (drop n xs) (omega (arith, length-drop n xs))

pub returns-clause-after : goal.returns-clause-after
returns-clause-after g c =
    let vs = c.self.inside.values.now in
    let bytes = c.self.inside.names.now in
    let n : ℕ = 1 + slice_index_or bytes 0 0 in
    let low : 0 < length vs = some_value vs bytes c.in_ok-name.name (sym c.in_ok-name.was ∙ c.self.invariant.1) in
    c.self-2.view_is ∙ c.of.ensures
    ∙ ap (λ xs. pairs_in xs (take (length bytes - n) (drop n bytes))) (cut 1 vs)
    ∙ ap (pairs_in (drop 1 vs)) (cut n bytes)
    ∙ rest_pairs vs bytes c.self.invariant.0 low
    ∙ ap (drop 1) c.self.view_is
