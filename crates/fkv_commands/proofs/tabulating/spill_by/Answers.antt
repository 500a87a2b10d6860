use Rattle.std.proofs.Common.{◌≡◌, Err, ap, inl, inr}
use Rattle.fkv_functions.specs.declared.refusals.Refused.TheVariants.{Unwritable}
use Rattle.fkv_either.specs.Either.{is_absent}
use Rattle.fkv_commands.proofs.SpillingLemmas.{table-or-spoilt}
use Rattle.fkv_commands.proofs.tabulating.spill_by.Goals as goal

pub returns-in-Ok-spill_on-clause-ok : goal.returns-in-Ok-spill_on-clause-ok
returns-in-Ok-spill_on-clause-ok g c =
    let h = c.in-Ok-spill_on.ensures.ok in
    (h.0, (λ known. table-or-spoilt _ (is_absent c.in-Ok.folder) g.H.File.PageFile.pages c.args.table.now c.in-Ok.ensures.ok (λ keeps. h.1 keeps known)), h.2)

pub returns-clause-unwritable : goal.returns-clause-unwritable
returns-clause-unwritable g c = λ e.
    let is : c.in-Err-spill_on.refused ≡ Unwritable = cc in
    let h = c.in-Err-spill_on.ensures.unwritable (ap Err is) in
    (h.0, (λ known. table-or-spoilt _ (is_absent c.in-Ok.folder) g.H.File.PageFile.pages c.args.table.now c.in-Ok.ensures.ok (λ keeps. h.1 keeps known)), h.2)

pub returns-clause-front : goal.returns-clause-front
returns-clause-front g c = elim c.in-Err-spill_on.ensures.front [
  | inl same ↦ inl same
  | inr h ↦ inr (h.0, (λ known. table-or-spoilt _ (is_absent c.in-Ok.folder) g.H.File.PageFile.pages c.args.table.now c.in-Ok.ensures.ok (λ keeps. h.1 keeps known)), h.2)
]
