use Rattle.std.specs.Prelude.{ℤ}
use Rattle.std.specs.Int.{w128}
use Rattle.std.proofs.Common.{subst, ◌∙◌}
use Rattle.std.proofs.lemmas.Int.{to_z-of_z}
use Rattle.fkv_functions.specs.declared.names.Name.{Name}
use Rattle.fkv_operations.specs.declared.operations.KeyedOp.{KeyedOp}
use Rattle.fkv_operations.specs.declared.operations.KeyedOp.TheVariants.{Upsert}
use Rattle.fkv_c.specs.Crossing.{value_of}
use Rattle.fkv_c.specs.Leading.{IsPerformed}
use Rattle.fkv_c.proofs.LeadLemmas.{keyed}
use Rattle.fkv_c.proofs.exports.fkv_c_upsert.Goals as goal

pub returns-in-Some-clause-performed : goal.returns-in-Some-clause-performed
returns-in-Some-clause-performed c =
    let Done : KeyedOp Name ℤ ℤ → Type 0 = λ op. IsPerformed c.args.store.now.held c.perform.new.store.held op c.args.answer.now c.perform.new.answer c.perform.result in
    keyed Done (λ n. Upsert n (value_of c.args.value.now)) c.args.name.now c.in-Some.key c.in-Some.ensures.some
    (subst (λ z. Done (Upsert c.in-Some.key z)) (to_z-of_z w128 c.value.result c.value.ensures.fits ∙ c.value.ensures.value) c.perform.ensures)
