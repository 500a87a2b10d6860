use Rattle.std.proofs.Common.{◌≡◌, ◌+◌, ◌-◌, Ok, Err, Result, take, drop, IsSome, sym, ◌∙◌, subst, arith}
use Rattle.std.proofs.lemmas.Bool.{false≢true}
use Rattle.fkv_functions.specs.Names.{name_codec}
use Rattle.fkv_records.specs.Records.{Spells}
use Rattle.fkv_spills.specs.Spilling.{pair_size, record_for}
use Rattle.fkv_spills.proofs.SpillLemmas.{room-at}
use Rattle.fkv_spills.proofs.pages.pair_at.Goals as goal
use Rattle.fkv_spills.proofs.pages.pair_at.Goals.{then-at-bytes-via-then-at-bytes, then-at-bytes-via-else-at-bytes+then-bytes-at}

ok-is : {A E : Type 0} (r : Result A E) (a b : A) → r ≡ Ok a → r ≡ Ok b → a ≡ b
ok-is r a b e f = (let t : Ok a ≡ Ok b = sym e ∙ f in cc)

not-both : {A E : Type 0} (r : Result A E) (a : A) (b : E) → r ≡ Ok a → r ≡ Err b → ⊥
not-both r a b e f = (let t : Ok a ≡ Err b = sym e ∙ f in cc)

pub returns-in_err-size-clause-found : goal.returns-in_err-size-clause-found
returns-in_err-size-clause-found g c x h = absurd (false≢true (c.in_err-size.ensures.range.1 h.most))

pub returns-in_err-size-clause-room : goal.returns-in_err-size-clause-room
returns-in_err-size-clause-room g c t = absurd (false≢true (subst (λ o. IsSome o) c.from_residual.ensures t))

pub returns-then-at-bytes-clause-found : goal.returns-then-at-bytes-clause-found
returns-then-at-bytes-clause-found g c x h =
    let r = room-at g.V.Fixed.codec c.args.bytes.now c.args.at x h in
    let s = c.in_ok-size.ensures.size in
    absurd (elim c.then-at-bytes.branch [
      | then-at-bytes-via-then-at-bytes w ↦ (let t = w.if-at-bytes.true in omega arith)
      | then-at-bytes-via-else-at-bytes+then-bytes-at w ↦ (let t = w.if-bytes-at.true in omega arith)
    ])

pub returns-then-at-bytes-clause-room : goal.returns-then-at-bytes-clause-room
returns-then-at-bytes-clause-room g c t = absurd (false≢true t)

pub returns-in-Ok-clause-found : goal.returns-in-Ok-clause-found
returns-in-Ok-clause-found g c x h =
    let s = c.in_ok-size.ensures.size in
    let cut : pair_size g.V.Fixed.SIZE ≡ c.args.at + c.in_ok-size.size - c.args.at = omega arith in
    c.paired.ensures x (ok-is c.read_record.result c.in-Ok.record (record_for x) c.in-Ok.is
    (c.read_record.ensures.only (record_for x) h.is_record
    (subst (λ n. Spells name_codec g.V.Fixed.codec (take n (drop c.args.at c.args.bytes.now)) (record_for x)) cut h.spells)))

pub returns-in-Ok-clause-room : goal.returns-in-Ok-clause-room
returns-in-Ok-clause-room g c t =
    let a = c.if-at-bytes.false in
    let b = c.if-bytes-at.false in
    let s = c.in_ok-size.ensures.size in
    omega arith

pub returns-in-Err-clause-found : goal.returns-in-Err-clause-found
returns-in-Err-clause-found g c x h =
    let s = c.in_ok-size.ensures.size in
    let cut : pair_size g.V.Fixed.SIZE ≡ c.args.at + c.in_ok-size.size - c.args.at = omega arith in
    absurd (not-both c.read_record.result (record_for x) c.in-Err.field-0
    (c.read_record.ensures.only (record_for x) h.is_record
    (subst (λ n. Spells name_codec g.V.Fixed.codec (take n (drop c.args.at c.args.bytes.now)) (record_for x)) cut h.spells)) c.in-Err.is)

pub returns-in-Err-clause-room : goal.returns-in-Err-clause-room
returns-in-Err-clause-room g c t = absurd (false≢true t)
