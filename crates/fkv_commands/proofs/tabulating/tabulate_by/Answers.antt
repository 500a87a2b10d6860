use Rattle.std.proofs.Common.{◌≡◌, ◌∙◌, Err, true, false, ap, refl, sym, inl, inr}
use Rattle.fkv_functions.specs.declared.refusals.Refused.TheVariants.{Unwritable}
use Rattle.fkv_commands.proofs.SpillingLemmas.{or-late}
use Rattle.fkv_commands.proofs.tabulating.tabulate_by.Goals as goal

-- ---- a table that is spilled
pub returns-then-table-clause-nothing : goal.returns-then-table-clause-nothing
returns-then-table-clause-nothing g c = or-late c.spill_by.result c.args.table.now _ c.if-table.true c.spill_by.ensures.nothing

pub returns-then-table-clause-spilled : goal.returns-then-table-clause-spilled
returns-then-table-clause-spilled g c = λ _. c.spill_by.ensures.front

-- ---- one that stands in memory
pub returns-in-Ok-clause-unwritable : goal.returns-in-Ok-clause-unwritable
returns-in-Ok-clause-unwritable g c = λ e.
    let is : c.in-Err-write_table.refused ≡ Unwritable = cc in
    (c.in-Ok.run'.table, c.in-Ok.ensures.ok, c.in-Err-write_table.ensures.unwritable (ap Err is))

pub returns-in-Ok-clause-nothing : goal.returns-in-Ok-clause-nothing
returns-in-Ok-clause-nothing g c = elim c.in-Err-write_table.ensures.only [
  | inl memory ↦ inr (c.in-Err-write_table.ensures.nothing (ap Err memory))
  | inr writer ↦ inl (inl writer)
]

pub returns-in-Ok-clause-spilled : goal.returns-in-Ok-clause-spilled
returns-in-Ok-clause-spilled g c = λ is. let bad : true ≡ false = sym is ∙ c.if-table.false in absurd (cc)

pub returns-clause-nothing : goal.returns-clause-nothing
returns-clause-nothing g c = inr refl

pub returns-clause-spilled : goal.returns-clause-spilled
returns-clause-spilled g c = λ is. inl refl
