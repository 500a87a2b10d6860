use Rattle.std.proofs.Common.{inl, refl, arith}
use Rattle.fkv_spills.proofs.pages.spell.Goals as goal

pub returns : goal.returns
returns g c = record {
  sized = (let a = c.write_record.auto.out in let r = c.requires.room in omega arith);
  most = c.requires.most;
  is_record = record {
    previous = inl refl;
    fits = omega arith;
    key_known = c.write_record.ensures.key;
    value_known = c.write_record.ensures.value;
    whole = λ e. refl;
  };
  spells = c.write_record.ensures.spells;
}
