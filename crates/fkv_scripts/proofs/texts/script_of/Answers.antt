use Rattle.std.proofs.Common.{◌≡◌, None, Some, sym, inl, inr}
use Rattle.fkv_scripts.specs.Script.{lines_of}
use Rattle.fkv_scripts.proofs.ReadLemmas.{bad-first}
use Rattle.fkv_scripts.proofs.texts.script_of.Goals as goal

pub returns-then-limit-eq0-clause-bad : goal.returns-then-limit-eq0-clause-bad
returns-then-limit-eq0-clause-bad c = λ n e.
    let one : 1 ≡ n = cc in
    bad-first c.args.limit n (lines_of c.args.text.now) c.split_line.result.0.now (lines_of c.split_line.result.1.now) c.split_line.ensures.lines one (inr (sym c.if-limit-eq0.true))

pub returns-in_default-clause-bad : goal.returns-in_default-clause-bad
returns-in_default-clause-bad c = λ n e.
    let one : 1 ≡ n = cc in
    bad-first c.args.limit n (lines_of c.args.text.now) c.split_line.result.0.now (lines_of c.split_line.result.1.now) c.split_line.ensures.lines one
    (inl (λ o h. absurd (let bad : None ≡ Some o = c.in_default.ensures.only o h in cc)))
