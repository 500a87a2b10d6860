use Rattle.std.proofs.Common.{◌∙◌, refl, sym}
use Rattle.fkv_partition.proofs.EffectLemmas.{asked-none, asked-key, asked-relocation, asked-low}
use Rattle.fkv_partition.proofs.partitions.Partition.asked.Goals as goal

pub returns-then-not-is_session-clause-none : goal.returns-then-not-is_session-clause-none
returns-then-not-is_session-clause-none g c =
    (let out = sym c.is_session.ensures.value ∙ c.if-not-is_session.true in rw out refl)

pub returns-in-Ok-clause-within : goal.returns-in-Ok-clause-within
returns-in-Ok-clause-within g c =
    let v = c.args.self.now in
    (c.is_session.ensures.within c.if-not-is_session.false, asked-low v c.args.slot c.args.context _ (asked-key v c.args.slot c.args.context _ c.in-Ok.ensures.ok))

pub returns-in-Some-clause-ok : goal.returns-in-Some-clause-ok
returns-in-Some-clause-ok g c =
    asked-relocation c.args.self.now c.args.slot c.args.context c.in-Some.relocation (c.in-Err.ensures.none) (sym c.in-Some.ensures.value)

pub returns-in-Some-clause-within : goal.returns-in-Some-clause-within
returns-in-Some-clause-within g c = (c.in-Some.ensures.session, c.in-Some.ensures.context)

pub returns-in-None-clause-none : goal.returns-in-None-clause-none
returns-in-None-clause-none g c =
    asked-none c.args.self.now c.args.slot c.args.context (c.in-Err.ensures.none) (sym c.in-None.ensures.value)
