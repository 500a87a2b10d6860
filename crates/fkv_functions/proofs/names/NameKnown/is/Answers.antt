use Rattle.std.proofs.Common.{◌∙◌, sym, ap}
use Rattle.std.specs.Cmp.Lexicographic.{bytes_decides}
use Rattle.fkv_functions.specs.Names.{name_exact, text_of}
use Rattle.fkv_functions.proofs.names.NameKnown.is.Goals as goal

pub returns : goal.returns
returns c =
    let a = c.args.self.now in
    let b = c.args.other.now in
    ((λ h. name_exact a b (sym c.eq.ensures ∙ h)), λ e. c.eq.ensures ∙ (bytes_decides (text_of a) (text_of b)).1 (ap text_of e))
