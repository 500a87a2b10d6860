use Rattle.std.proofs.Common.{◌≡◌, ◌+◌, ◌++◌, ◌∷◌, [], arith, sym, ◌∙◌, ap, subst, append_assoc, length-append, inl, inr}
use Rattle.std.proofs.lemmas.Result.{err_from_is_err_and}
use Rattle.fkv_scripts.specs.Script.{lines_of, SayAll}
use Rattle.fkv_scripts.proofs.OneReadingLemmas.{nothing_after}
use Rattle.fkv_scripts.proofs.ReadLemmas.{say-more, say-length, said-all}
use Rattle.fkv_scripts.proofs.texts.lines_after.Goals as goal

pub returns-then-len-limit-clause-bad : goal.returns-then-len-limit-clause-bad
returns-then-len-limit-clause-bad c = λ n e first o opens named.
    let read = c.loop-rest.invariant.read in
    let size = say-length c.args.functions read.0 c.loop-rest.lines.items read.2 in
    let number : c.len-then-len-limit.result + 2 ≡ n = cc in
    record {
      before = first ∷ read.0;
      here = c.split_line.result.0.now;
      after = lines_of c.split_line.result.1.now;
      whole = ap (λ x. first ∷ x) (read.1 ∙ ap (λ x. read.0 ++ x) c.split_line.ensures.lines);
      number = omega arith;
      good = (o, c.loop-rest.lines.items, (opens, subst (λ f. SayAll f read.0 c.loop-rest.lines.items) (sym named) read.2));
      within = omega arith;
      bad = inr (omega arith);
    }

pub returns-in_err-add_line-clause-bad : goal.returns-in_err-add_line-clause-bad
returns-in_err-add_line-clause-bad c =
    let p = err_from_is_err_and c.from_residual.result c.from_residual.ensures.1 in
    let read = c.loop-rest.invariant.read in
    let size = say-length c.args.functions read.0 c.loop-rest.lines.items read.2 in
    rw (p.1, p.2) (λ n e first o opens named.
    let why = c.in_err-add_line.ensures.bad n e in
    record {
      before = first ∷ read.0;
      here = c.split_line.result.0.now;
      after = lines_of c.split_line.result.1.now;
      whole = ap (λ x. first ∷ x) (read.1 ∙ ap (λ x. read.0 ++ x) c.split_line.ensures.lines);
      number = omega (arith, why.0);
      good = (o, c.loop-rest.lines.items, (opens, subst (λ f. SayAll f read.0 c.loop-rest.lines.items) (sym named) read.2));
      within = omega arith;
      bad = inl (nothing_after first read.0 c.split_line.result.0.now c.args.functions o opens named why.1);
    })

pub loop-rest-preserved : goal.loop-rest-preserved
loop-rest-preserved c =
    let read = c.loop-rest.invariant.read in
    let said = c.in_ok-add_line.ensures.ok in
    record {
      read = (
        read.0 ++ (c.split_line.result.0.now ∷ []),
        read.1 ∙ ap (λ x. read.0 ++ x) c.split_line.ensures.lines ∙ sym (append_assoc read.0 (c.split_line.result.0.now ∷ []) (lines_of c.split_line.result.1.now)),
        rw said.2 (say-more c.args.functions read.0 c.loop-rest.lines.items c.split_line.result.0.now said.0 read.2 said.1),
      );
      few = rw said.2 (omega (arith, length-append c.loop-rest.lines.items (said.0 ∷ [])));
    }

pub returns-clause-ok : goal.returns-clause-ok
returns-clause-ok c =
    let read = c.loop-rest.invariant.read in
    said-all c.args.functions c.args.text.now c.loop-rest.rest.now c.args.limit read.0 c.loop-rest.lines.items read.1 read.2 c.loop-rest.invariant.few (sym c.is_empty.ensures ∙ c.loop-rest-test.false)
