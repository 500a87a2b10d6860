use Rattle.std.proofs.Common.{arith}
use Rattle.fkv_records.proofs.HeaderLemmas.{flags_below, flags_low, header_of_word, same_header, spelled_flags, flags_again}
use Rattle.fkv_records.proofs.fields.Header.held_in.Goals as goal

pub returns : goal.returns
returns c = λ h s.
    let flags = spelled_flags c.args.bytes.now c.word_of-word.result h c.word_of-word.type_inv c.word_of-word.ensures s in
    let low = flags_low h.is_tombstone h.is_delta in
    let high = flags_below h.is_tombstone h.is_delta in
    same_header c.args.bytes.now _ h (header_of_word c.args.bytes.now c.word_of-word.result _ _ c.word_of-word.ensures (flags_again _ (omega arith) (omega arith))) s
