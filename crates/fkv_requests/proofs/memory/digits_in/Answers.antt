use Rattle.std.proofs.Common.{rules, ◌∙◌, not}
use Rattle.std.specs.Char.{is_ascii_digit}
use Rattle.std.proofs.lemmas.Iterator.{YieldsList-from_slice}
use Rattle.std.proofs.lemmas.Iterator.Search.{position_from_yields_List}
use Rattle.fkv_requests.proofs.MemoryLemmas.{first_or_end}
use Rattle.fkv_requests.proofs.memory.digits_in.Goals as goal

pub returns-clause-digits : goal.returns-clause-digits
returns-clause-digits c =
    let found = position_from_yields_List (λ byte. not (is_ascii_digit byte)) _ _ c.position-place.result c.position-place.ensures.ran (YieldsList-from_slice c.args.text.now c.iter.ensures.rest) (λ x b q k. search rules) in
    c.unwrap_or.ensures ∙ first_or_end (λ byte. not (is_ascii_digit byte)) c.args.text.now c.position-place.result found
