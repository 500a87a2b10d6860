use Rattle.std.proofs.Common.{◌≡◌, ◌↔◌, ◌+◌, ◌<◌, ℕ, List, [], ◌∷◌, drop, length, get_or, sym, subst, arith, eq-eqb, eqb-true}
use Rattle.std.proofs.lemmas.List.{drop_more, drop_all}
use Rattle.fkv_blocks.specs.Spans.{Chains}
use Rattle.fkv_blocks.specs.declared.spans.Span.{Span}
use Rattle.fkv_blocks.proofs.spans.chains.Goals as goal

abbrev blank : Span
blank = record { low = 0; high = 0; records = 0 }

here : (spans : List Span) (at high i : ℕ) → i < length spans → Chains at (drop i spans) high → Chains at (get_or spans i blank ∷ drop (i + 1) spans) high
here spans at high i lt h = subst (λ l. Chains at l high) (drop_more spans i blank lt) h

back : (spans : List Span) (at high i : ℕ) → i < length spans → Chains at (get_or spans i blank ∷ drop (i + 1) spans) high → Chains at (drop i spans) high
back spans at high i lt h = subst (λ l. Chains at l high) (sym (drop_more spans i blank lt)) h

pub loop-span-init : goal.loop-span-init
loop-span-init c = ((λ h. h), (λ h. h))

pub loop-span-preserved : goal.loop-span-preserved
loop-span-preserved c =
    let spans = c.args.spans.now in
    let i = c.loop-span.span-index in
    let lt = c.loop-span-test.true in (
      (λ h. (here spans c.loop-span.at c.args.high i lt (c.loop-span.invariant.0 h)).2),
      (λ h. c.loop-span.invariant.1 (back spans c.loop-span.at c.args.high i lt (c.if-span-at.false, c.if-span-at-2.false, h))),
    )

pub returns-then-span-at : goal.returns-then-span-at
returns-then-span-at c = (
  (λ h. absurd (cc)),
  (λ h. absurd (c.if-span-at.true (here c.args.spans.now c.loop-span.at c.args.high c.loop-span.span-index c.loop-span-test.true (c.loop-span.invariant.0 h)).0)),
)

pub returns-then-span-at-2 : goal.returns-then-span-at-2
returns-then-span-at-2 c = (
  (λ h. absurd (cc)),
  (λ h.
      let le = (here c.args.spans.now c.loop-span.at c.args.high c.loop-span.span-index c.loop-span-test.true (c.loop-span.invariant.0 h)).1 in
      absurd (omega (arith, le, c.if-span-at-2.true))),
)

pub returns : goal.returns
returns c =
    let none : drop c.loop-span.span-index c.args.spans.now ≡ [] = drop_all c.loop-span.span-index c.args.spans.now c.loop-span-test.false in
    let last : Chains c.loop-span.at (drop c.loop-span.span-index c.args.spans.now) c.args.high ↔ (c.loop-span.at ≡ c.args.high) =
    ((λ h. rw none at h), (λ e. rw none e)) in (
      (λ h. c.loop-span.invariant.1 (last.1 (eqb-true c.loop-span.at c.args.high h))),
      (λ h. eq-eqb c.loop-span.at c.args.high (last.0 (c.loop-span.invariant.0 h))),
    )
