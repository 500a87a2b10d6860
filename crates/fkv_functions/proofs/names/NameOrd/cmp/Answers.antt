use Rattle.std.proofs.Common.{ap, sym, ◌∙◌}
use Rattle.std.specs.Cmp.Lexicographic.{slice_cmp}
use Rattle.std.specs.Ordering.{nat_cmp}
use Rattle.fkv_functions.proofs.NameOrder.{names_apart, names_tied}
use Rattle.fkv_functions.proofs.names.NameOrd.cmp.Goals as goal

pub returns-in-Equal : goal.returns-in-Equal
returns-in-Equal c =
    c.cmp.ensures ∙ names_tied c.args.self.now c.args.other.now (sym (c.order_of.ensures ∙ ap (λ t. slice_cmp nat_cmp t c.as_slice-2.result.now) c.as_slice.ensures
    ∙ ap (slice_cmp nat_cmp c.args.self.now.bytes) c.as_slice-2.ensures) ∙ c.in-Equal.is)

pub returns-in_default : goal.returns-in_default
returns-in_default c =
    names_apart c.args.self.now c.args.other.now c.order_of.result (c.order_of.ensures ∙ ap (λ t. slice_cmp nat_cmp t c.as_slice-2.result.now) c.as_slice.ensures
    ∙ ap (slice_cmp nat_cmp c.args.self.now.bytes) c.as_slice-2.ensures)
    c.in_default.not-Equal
