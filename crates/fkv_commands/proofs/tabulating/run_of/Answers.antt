use Rattle.std.proofs.Common.{◌||◌, ◌∙◌, sym, inl, inr}
use Rattle.std.proofs.lemmas.Bool.{cases_Bool, or_parts, false≢true}
use Rattle.fkv_device.specs.Known.{are_kept}
use Rattle.fkv_either.specs.Either.{is_absent}
use Rattle.fkv_commands.proofs.MakingLemmas.{right, spoilt, unkept}
use Rattle.fkv_commands.proofs.tabulating.run_of.Goals as goal

pub returns-in-Ok-clause-ok : goal.returns-in-Ok-clause-ok
returns-in-Ok-clause-ok g c =
    let pages = g.H.File.PageFile.pages in
    elim (cases_Bool (is_absent c.in-Ok.folder || are_kept pages)) [
      | inl keeps ↦ right _ c.run_on.result _ _ (c.run_on.ensures.ok keeps)
      | inr not_kept ↦
          let none = or_parts (is_absent c.in-Ok.folder) (are_kept pages) not_kept in
          spoilt _ c.run_on.result _ _ ((λ unnamed. false≢true (sym none.0 ∙ c.in-Ok.ensures.ok unnamed)), unkept pages none.1)
    ]
