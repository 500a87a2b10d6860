use Rattle.std.proofs.Common.{◌≡◌, ◌+◌, Option, Some, None, take, drop, refl, sym, ◌∙◌, ap, subst, arith}
use Rattle.fkv_runs.specs.Merging.{first_pair}
use Rattle.fkv_spills.specs.Spilling.{pair_size, IsPairIn}
use Rattle.fkv_spills.specs.Reading.{IsUnread}
use Rattle.fkv_spills.proofs.SpillLemmas.{size-is, size-most, ready-here, taken, untaken}
use Rattle.fkv_spills.proofs.unread.Unread+V+P+Receipt+P.take.Goals as goal

some-is : {A : Type 0} (o : Option A) (x : A) → o ≡ None → o ≡ Some x → ⊥
some-is o x e f = (let t : None ≡ Some x = sym e ∙ f in cc)

pub returns-in_default-clause-pair : goal.returns-in_default-clause-pair
returns-in_default-clause-pair g c xs h r = sym (ap first_pair (untaken g.V.Fixed.codec g.P.Receipt.Receipt.stands c.args.self.now xs c.in_default.is h r))

pub returns-in_default-clause-after : goal.returns-in_default-clause-after
returns-in_default-clause-after g c xs h r =
    let none = untaken g.V.Fixed.codec g.P.Receipt.Receipt.stands c.args.self.now xs c.in_default.is h r in
    subst (IsUnread g.V.Fixed.codec g.P.Receipt.Receipt.stands c.args.self.now) (none ∙ ap (drop 1) (sym none)) h

pub returns-in_default-pair_at-clause-after : goal.returns-in_default-pair_at-clause-after
returns-in_default-pair_at-clause-after g c xs h r =
    let first = taken g.V.Fixed.codec g.P.Receipt.Receipt.stands c.args.self.now c.in-Some.page xs c.in-Some.is h r in
    let there = subst (λ b. IsPairIn g.V.Fixed.codec (take (pair_size g.V.Fixed.SIZE) (drop c.args.self.now.at b)) first.pair) (sym c.bytes.ensures) first.here in
    absurd (some-is c.pair_at.result first.pair c.in_default-pair_at.is (c.pair_at.ensures.found first.pair there))

pub returns-in_default-pair_at-clause-done : goal.returns-in_default-pair_at-clause-done
returns-in_default-pair_at-clause-done g c xs h r =
    let first = taken g.V.Fixed.codec g.P.Receipt.Receipt.stands c.args.self.now c.in-Some.page xs c.in-Some.is h r in
    let there = subst (λ b. IsPairIn g.V.Fixed.codec (take (pair_size g.V.Fixed.SIZE) (drop c.args.self.now.at b)) first.pair) (sym c.bytes.ensures) first.here in
    absurd (some-is c.pair_at.result first.pair c.in_default-pair_at.is (c.pair_at.ensures.found first.pair there))

pub returns-in_default-checked_sub-clause-after : goal.returns-in_default-checked_sub-clause-after
returns-in_default-checked_sub-clause-after g c xs h r =
    let some = ready-here g.V.Fixed.codec g.P.Receipt.Receipt.stands c.args.self.now c.in-Some.page xs c.in-Some.is r in
    absurd (c.in_default-checked_sub.ensures (omega arith))

pub returns-in_default-checked_sub-clause-done : goal.returns-in_default-checked_sub-clause-done
returns-in_default-checked_sub-clause-done g c xs h r =
    let some = ready-here g.V.Fixed.codec g.P.Receipt.Receipt.stands c.args.self.now c.in-Some.page xs c.in-Some.is r in
    absurd (c.in_default-checked_sub.ensures (omega arith))

pub overflow_add-self : goal.overflow_add-self
overflow_add-self g c =
    let room = c.in-Some-pair_at.ensures.room refl in
    let most = size-most c.record_size.result c.unwrap_or.result (pair_size g.V.Fixed.SIZE) c.unwrap_or.ensures c.record_size.ensures.size in
    let fits = c.bytes.type_inv.0 in
    omega arith

pub returns-clause-pair : goal.returns-clause-pair
returns-clause-pair g c xs h r =
    let first = taken g.V.Fixed.codec g.P.Receipt.Receipt.stands c.args.self.now c.in-Some.page xs c.in-Some.is h r in
    let there = subst (λ b. IsPairIn g.V.Fixed.codec (take (pair_size g.V.Fixed.SIZE) (drop c.args.self.now.at b)) first.pair) (sym c.bytes.ensures) first.here in
    sym c.in-Some-pair_at.is ∙ c.pair_at.ensures.found first.pair there ∙ first.first

pub returns-clause-after : goal.returns-clause-after
returns-clause-after g c xs h r =
    let first = taken g.V.Fixed.codec g.P.Receipt.Receipt.stands c.args.self.now c.in-Some.page xs c.in-Some.is h r in
    let size = size-is c.record_size.result c.unwrap_or.result (pair_size g.V.Fixed.SIZE) c.unwrap_or.ensures c.record_size.ensures.size (c.record_size.ensures.range.1 first.here.most) in
    first.rest _ c.in-Some.is (ap (λ n. c.args.self.now.at + n) size) (let e = c.in-Some-checked_sub.ensures in omega arith) refl
