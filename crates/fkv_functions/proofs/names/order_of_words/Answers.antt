use Rattle.std.proofs.Common.{◌≡◌, sym, ap, ◌∙◌}
use Rattle.std.specs.Int.{w64, to_le_bytes}
use Rattle.std.specs.Ordering.{nat_cmp}
use Rattle.std.specs.Cmp.Lexicographic.{slice_cmp}
use Rattle.fkv_functions.proofs.NameOrder.{same_lists}
use Rattle.fkv_functions.proofs.names.order_of_words.Goals as goal

pub returns-then-word_of : goal.returns-then-word_of
returns-then-word_of c =
    let same : c.args.bytes.now ≡ c.args.other.now = sym c.word_of.ensures ∙ ap (to_le_bytes w64) (cc) ∙ c.word_of-2.ensures in
    sym (ap (slice_cmp nat_cmp c.args.bytes.now) (sym same) ∙ same_lists c.args.bytes.now)
