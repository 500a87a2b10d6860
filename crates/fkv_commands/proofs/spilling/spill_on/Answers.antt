use Rattle.std.proofs.Common.{refl, inl, inr}
use Rattle.fkv_functions.specs.declared.refusals.Refused.TheVariants.{Unwritable}
use Rattle.fkv_commands.proofs.SpillingLemmas.{at-err, both-steady, known-or-not, or-front, or-same, planned, written-front, written-whole}
use Rattle.fkv_commands.proofs.spilling.spill_on.Goals as goal

pub returns-in-Ok-clause-ok : goal.returns-in-Ok-clause-ok
returns-in-Ok-clause-ok g c =
    written-whole c.write_spilled.result _ _ _ _ _ _ (known-or-not c.args.table.now) c.write_spilled.ensures.ok c.write_spilled.ensures.rows
    (λ keeps known. let h = c.in-Ok.ensures.ok keeps known in (h.pairs, h.come, h.table))

pub returns-in-Ok-clause-unwritable : goal.returns-in-Ok-clause-unwritable
returns-in-Ok-clause-unwritable g c = λ is.
    at-err c.write_spilled.result Unwritable _
    (written-front c.write_spilled.result _ _ _ _ _ _ (known-or-not c.args.table.now) c.write_spilled.ensures.prefix c.write_spilled.ensures.rows
    (λ keeps known. let h = c.in-Ok.ensures.ok keeps known in (h.pairs, h.come, h.table)))
    is

pub returns-in-Ok-clause-front : goal.returns-in-Ok-clause-front
returns-in-Ok-clause-front g c =
    or-front c.write_spilled.result _ _
    (written-front c.write_spilled.result _ _ _ _ _ _ (known-or-not c.args.table.now) c.write_spilled.ensures.prefix c.write_spilled.ensures.rows
    (λ keeps known. let h = c.in-Ok.ensures.ok keeps known in (h.pairs, h.come, h.table)))

pub returns-in-Ok-clause-nothing : goal.returns-in-Ok-clause-nothing
returns-in-Ok-clause-nothing g c = or-same c.write_spilled.result _ c.write_spilled.ensures.only

pub returns-in-Ok-clause-ran : goal.returns-in-Ok-clause-ran
returns-in-Ok-clause-ran g c = planned (λ ran. ran.plan) c.in-Ok.run'.plan c.args.table.now c.write_spilled.result c.write_spilled.ensures.ran c.in-Ok.ensures.ran

pub returns-in-Ok-clause-steady : goal.returns-in-Ok-clause-steady
returns-in-Ok-clause-steady g c = both-steady c.write_spilled.result _ _ c.in-Ok.ensures.steady c.write_spilled.ensures.steady

pub returns-in-Err-clause-front : goal.returns-in-Err-clause-front
returns-in-Err-clause-front g c = inl refl

pub returns-in-Err-clause-nothing : goal.returns-in-Err-clause-nothing
returns-in-Err-clause-nothing g c = inr (inr refl)
