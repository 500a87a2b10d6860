use Rattle.std.proofs.Common.{◌≡◌, None, Some, true, false, sym, ◌∙◌}
use Rattle.std.proofs.lemmas.Option.{same_Some}
use Rattle.fkv_scripts.specs.Words.{words_of}
use Rattle.fkv_scripts.specs.Script.{takes}
use Rattle.fkv_scripts.proofs.GrammarLemmas.{found, only}
use Rattle.fkv_scripts.proofs.parse.parse_line.Goals as goal

pub returns-in_err-said-clause-only : goal.returns-in_err-said-clause-only
returns-in_err-said-clause-only c = λ l h. absurd (let none : None ≡ Some l = c.in_err-said.ensures ∙ only l (words_of c.args.bytes.now) h.0 in cc)

pub returns-then-not-takes-clause-only : goal.returns-then-not-takes-clause-only
returns-then-not-takes-clause-only c = λ l h.
    let same : c.in_ok-said.said ≡ l = same_Some c.in_ok-said.said l (c.in_ok-said.ensures ∙ only l (words_of c.args.bytes.now) h.0) in
    let not_taken : takes c.args.functions c.in_ok-said.said ≡ false = sym c.takes.ensures ∙ c.if-not-takes.true in
    let taken : takes c.args.functions c.in_ok-said.said ≡ true = rw same h.1 in
    absurd (cc)

pub returns-clause-found : goal.returns-clause-found
returns-clause-found c =
    (found (words_of c.args.bytes.now) c.in_ok-said.said (sym c.in_ok-said.ensures), sym c.takes.ensures ∙ c.if-not-takes.false)

pub returns-clause-only : goal.returns-clause-only
returns-clause-only c = λ l h. c.in_ok-said.ensures ∙ only l (words_of c.args.bytes.now) h.0
