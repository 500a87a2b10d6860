use Rattle.fkv_scripts.proofs.WordLemmas.{number_read, utf8_number, plus_front, plus_test}
use Rattle.fkv_scripts.proofs.words.number.Goals as goal

pub returns-then-starts_with_plus : goal.returns-then-starts_with_plus
returns-then-starts_with_plus c = plus_front c.args.word.now ((plus_test c.args.word.now c.starts_with_plus.result c.starts_with_plus.ensures).0 c.if-starts_with_plus.true)

pub returns-in_default : goal.returns-in_default
returns-in_default c = utf8_number c.args.word.now c.in_default.ensures.none

pub returns-in-Ok : goal.returns-in-Ok
returns-in-Ok c =
    let h = number_read c.in-Some.text.now c.parse.result c.parse.ensures.value.0 (rw (← c.in-Some.ensures.text) at (plus_test c.args.word.now c.starts_with_plus.result c.starts_with_plus.ensures).1 c.if-starts_with_plus.false) in
    rw (← c.in-Some.ensures.text) (rw c.in-Ok.is at h)

pub returns-in-Err : goal.returns-in-Err
returns-in-Err c =
    let h = number_read c.in-Some.text.now c.parse.result c.parse.ensures.value.0 (rw (← c.in-Some.ensures.text) at (plus_test c.args.word.now c.starts_with_plus.result c.starts_with_plus.ensures).1 c.if-starts_with_plus.false) in
    rw (← c.in-Some.ensures.text) (rw c.in-Err.is at h)
