use Rattle.std.proofs.Common.{◌≡◌, ap, refl, true, rules, ◌&&◌}
use Rattle.fkv_records.proofs.records.read_header.Goals as goal

pub returns-in_err-header-clause-only : goal.returns-in_err-header-clause-only
returns-in_err-header-clause-only c = λ p t d h f one s.
    let e = c.from_bytes.ensures.only (record { previous = p; is_tombstone = t; is_delta = d }) (record { fits = f; same = s }) in
    let w = c.in_err-header.was in
    absurd (cc (e, w))

pub returns-then-header-2-clause-only : goal.returns-then-header-2-clause-only
returns-then-header-2-clause-only c = λ p t d h f one s.
    let e = c.from_bytes.ensures.only (record { previous = p; is_tombstone = t; is_delta = d }) (record { fits = f; same = s }) in
    let w = c.in_ok-header.was in
    let i : c.in_ok-header.header ≡ record { previous = p; is_tombstone = t; is_delta = d } = cc (e, w) in
    let x : c.in_ok-header.header.is_tombstone ≡ t = ap (λ x. x.is_tombstone) i in
    let y : c.in_ok-header.header.is_delta ≡ d = ap (λ x. x.is_delta) i in
    let both_true : (c.in_ok-header.header.is_tombstone && c.in_ok-header.header.is_delta) ≡ true = search rules in
    absurd (cc)

pub returns-then-not-is_previous-clause-only : goal.returns-then-not-is_previous-clause-only
returns-then-not-is_previous-clause-only c = λ p t d h f one s.
    let e = c.from_bytes.ensures.only (record { previous = p; is_tombstone = t; is_delta = d }) (record { fits = f; same = s }) in
    let w = c.in_ok-header.was in
    let i : c.in_ok-header.header ≡ record { previous = p; is_tombstone = t; is_delta = d } = cc (e, w) in
    let q : c.in_ok-header.header.previous ≡ p = ap (λ x. x.previous) i in
    let y = c.is_previous.ensures.1 (rw q h) in absurd (cc)

pub returns-clause-only : goal.returns-clause-only
returns-clause-only c = λ p t d h f one s.
    let e = c.from_bytes.ensures.only (record { previous = p; is_tombstone = t; is_delta = d }) (record { fits = f; same = s }) in
    let w = c.in_ok-header.was in
    let i : c.in_ok-header.header ≡ record { previous = p; is_tombstone = t; is_delta = d } = cc (e, w) in
    ((ap (λ x. x.previous) i, ap (λ x. x.is_tombstone) i, ap (λ x. x.is_delta) i), refl)
