use Rattle.std.proofs.Common.{sym, ◌∙◌, arith}
use Rattle.fkv_functions.proofs.NameOrder.{decided_by, passed_by}
use Rattle.fkv_functions.proofs.names.order_of.Goals as goal

pub returns-in_default-order_of_words : goal.returns-in_default-order_of_words
returns-in_default-order_of_words c =
    decided_by 8 c.split_at.result.1.now c.split_at-2.result.1.now _ _ _ c.split_at-3.ensures.front c.split_at-4.ensures.front
    (omega (arith, c.requires.bytes, c.split_at.ensures.back_len)) (omega (arith, c.requires.other, c.split_at-2.ensures.back_len))
    c.order_of_words-2.ensures c.in_default-order_of_words.not-Equal
    ∙ passed_by 8 8 c.args.bytes.now c.args.other.now _ _ _ _ c.split_at.ensures.front c.split_at-2.ensures.front c.split_at.ensures.back c.split_at-2.ensures.back
    (omega arith) (omega (arith, c.requires.bytes)) (omega (arith, c.requires.other)) (sym c.order_of_words.ensures ∙ c.in-Equal.is)

pub returns-in_default-order_of_words-2 : goal.returns-in_default-order_of_words-2
returns-in_default-order_of_words-2 c =
    decided_by 8 c.split_at-3.result.1.now c.split_at-4.result.1.now _ _ _ c.split_at-5.ensures.front c.split_at-6.ensures.front
    (omega (arith, c.requires.bytes, c.split_at.ensures.back_len, c.split_at-3.ensures.back_len)) (omega (arith, c.requires.other, c.split_at-2.ensures.back_len, c.split_at-4.ensures.back_len))
    c.order_of_words-3.ensures c.in_default-order_of_words-2.not-Equal
    ∙ passed_by 8 8 c.split_at.result.1.now c.split_at-2.result.1.now _ _ _ _ c.split_at-3.ensures.front c.split_at-4.ensures.front c.split_at-3.ensures.back c.split_at-4.ensures.back
    (omega arith) (omega (arith, c.requires.bytes, c.split_at.ensures.back_len)) (omega (arith, c.requires.other, c.split_at-2.ensures.back_len)) (sym c.order_of_words-2.ensures ∙ c.in-Equal-order_of_words.is)
    ∙ passed_by 8 8 c.args.bytes.now c.args.other.now _ _ _ _ c.split_at.ensures.front c.split_at-2.ensures.front c.split_at.ensures.back c.split_at-2.ensures.back
    (omega arith) (omega (arith, c.requires.bytes)) (omega (arith, c.requires.other)) (sym c.order_of_words.ensures ∙ c.in-Equal.is)

pub returns : goal.returns
returns c =
    c.order_of_words-4.ensures
    ∙ passed_by 7 8 c.split_at-3.result.1.now c.split_at-4.result.1.now _ _ _ _ c.split_at-5.ensures.front c.split_at-6.ensures.front c.split_at-7.ensures.back c.split_at-8.ensures.back
    (omega arith) (omega (arith, c.requires.bytes, c.split_at.ensures.back_len, c.split_at-3.ensures.back_len)) (omega (arith, c.requires.other, c.split_at-2.ensures.back_len, c.split_at-4.ensures.back_len)) (sym c.order_of_words-3.ensures ∙ c.in-Equal-order_of_words-2.is)
    ∙ passed_by 8 8 c.split_at.result.1.now c.split_at-2.result.1.now _ _ _ _ c.split_at-3.ensures.front c.split_at-4.ensures.front c.split_at-3.ensures.back c.split_at-4.ensures.back
    (omega arith) (omega (arith, c.requires.bytes, c.split_at.ensures.back_len)) (omega (arith, c.requires.other, c.split_at-2.ensures.back_len)) (sym c.order_of_words-2.ensures ∙ c.in-Equal-order_of_words.is)
    ∙ passed_by 8 8 c.args.bytes.now c.args.other.now _ _ _ _ c.split_at.ensures.front c.split_at-2.ensures.front c.split_at.ensures.back c.split_at-2.ensures.back
    (omega arith) (omega (arith, c.requires.bytes)) (omega (arith, c.requires.other)) (sym c.order_of_words.ensures ∙ c.in-Equal.is)
