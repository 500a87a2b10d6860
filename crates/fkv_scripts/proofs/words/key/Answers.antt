use Rattle.std.proofs.Common.{sym, ◌∙◌}
use Rattle.fkv_scripts.proofs.KeyLemmas.{key_none, key_new}
use Rattle.fkv_scripts.proofs.words.key.Goals as goal

pub returns-then-not-has_key_bytes : goal.returns-then-not-has_key_bytes
returns-then-not-has_key_bytes c = key_none c.args.word.now (sym c.has_key_bytes.ensures ∙ c.if-not-has_key_bytes.true)

pub returns : goal.returns
returns c = key_new c.args.word.now c.new.result (sym c.has_key_bytes.ensures ∙ c.if-not-has_key_bytes.false) c.new.ensures.some c.new.ensures.range
