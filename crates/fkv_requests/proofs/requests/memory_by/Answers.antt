use Rattle.std.proofs.Common.{◌∙◌, ap, Some, List, ℕ}
use Rattle.std.specs.Prelude.{codes, option_map}
use Rattle.clap.specs.Words.{found_of}
use Rattle.clap.proofs.WalkLemmas.{first_value-rows}
use Rattle.fkv_requests.specs.Memory.{size_of}
use Rattle.fkv_requests.specs.Requests.{memory_in}
use Rattle.fkv_requests.proofs.requests.memory_by.Goals as goal

pub returns-in-None : goal.returns-in-None
returns-in-None c = ap memory_in (c.in-None.ensures ∙ first_value-rows (found_of c.args.options.now) (codes "memory"))

pub returns-in-Some-size_of : goal.returns-in-Some-size_of
returns-in-Some-size_of c =
    ap (option_map (λ (n : ℕ). Some n)) c.in-Some-size_of.ensures
    ∙ ap (λ (t : List ℕ). option_map (λ (n : ℕ). Some n) (size_of t)) c.as_bytes.ensures.value
    ∙ ap memory_in (c.in-Some.ensures ∙ first_value-rows (found_of c.args.options.now) (codes "memory"))

pub returns-in-None-size_of : goal.returns-in-None-size_of
returns-in-None-size_of c =
    ap (option_map (λ (n : ℕ). Some n)) c.in-None-size_of.ensures
    ∙ ap (λ (t : List ℕ). option_map (λ (n : ℕ). Some n) (size_of t)) c.as_bytes.ensures.value
    ∙ ap memory_in (c.in-Some.ensures ∙ first_value-rows (found_of c.args.options.now) (codes "memory"))
