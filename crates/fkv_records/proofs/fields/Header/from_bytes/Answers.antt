use Rattle.std.proofs.Common.{arith, sym, subst, ap, Some}
use Rattle.fkv_records.specs.Headers.{IsSpelledBy}
use Rattle.fkv_records.proofs.HeaderLemmas.{flags_below, flags_low, header_of_word, spelled_flags, flags_again}
use Rattle.fkv_records.proofs.fields.Header.from_bytes.Goals as goal

pub returns-then-flags-lt4-clause-only : goal.returns-then-flags-lt4-clause-only
returns-then-flags-lt4-clause-only c = λ h s.
    let flags = spelled_flags c.args.bytes.now c.word_of-flags.result h c.word_of-flags.type_inv c.word_of-flags.ensures s in
    let low = flags_low h.is_tombstone h.is_delta in
    let high = flags_below h.is_tombstone h.is_delta in
    absurd (omega (arith, c.then-flags-lt4.either))

pub returns-clause-found : goal.returns-clause-found
returns-clause-found c =
    let spelled = header_of_word c.args.bytes.now c.word_of-flags.result _ _ c.word_of-flags.ensures (flags_again _ (omega arith) (omega arith)) in
    subst (IsSpelledBy c.args.bytes.now) (sym (c.held_in.ensures _ spelled)) spelled

pub returns-clause-only : goal.returns-clause-only
returns-clause-only c = λ h s. ap Some (c.held_in.ensures h s)
